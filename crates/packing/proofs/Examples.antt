-- Packed refusals in numbers, to hold beside the header's shifts and masks.
use mathlib.Core.Path.{◌≡◌, refl}
use Rattle.packing.specs.Packing.{pack_end}

quiet_end : pack_end 0 ≡ 0
quiet_end = refl

-- refusal 7
broken_end : pack_end 7 ≡ 9223372036854775815
broken_end = refl
