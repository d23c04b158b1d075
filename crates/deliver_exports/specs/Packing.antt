-- How a delivery's answer stands in one 64-bit number for a C caller, and how it is read back.
use Rattle.std.specs.Prelude.{ℕ, cond, eqb, Result, Ok, Err}
use Rattle.refusal.specs.declared.Refusal.{Refusal}
use Rattle.refusal.specs.Numbers.{refusal_number, named}
use Rattle.packing.specs.Packing.{pack_refused, is_refused, refusal_in}

abbrev pub pack_delivered : Result ℕ Refusal → ℕ
pack_delivered (Ok rows) = rows
pack_delivered (Err refusal) = pack_refused (refusal_number refusal)

unfoldable pub unpack_delivered : ℕ → Result ℕ Refusal
unpack_delivered x = cond (eqb (is_refused x) 0) (Ok x) (Err (named (refusal_in x)))
