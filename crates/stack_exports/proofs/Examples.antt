-- A packed answer in numbers, to hold beside the header's shifts and masks.
use mathlib.Core.Path.{◌≡◌, refl}
use Rattle.std.specs.Prelude.{Err}
use Rattle.refusal.specs.declared.Refusal.{Refusal}
use Rattle.stack_exports.specs.Packing.{pack_answer}

-- refusal 5
refusal_five : pack_answer (Err Refusal.NoMessage) ≡ 9223372036854775813
refusal_five = refl
