-- How an answer about stacks stands in one 64-bit number for a C caller, and how it is read back.
use Rattle.std.specs.Prelude.{ℕ, cond, eqb, Result, Ok, Err, Option, Some, None}
use Rattle.refusal.specs.declared.Refusal.{Refusal}
use Rattle.refusal.specs.Numbers.{refusal_number, named}
use Rattle.packing.specs.Packing.{pack_refused, is_refused, refusal_in}

abbrev pub pack_answer : Result ℕ Refusal → ℕ
pack_answer (Ok value) = value
pack_answer (Err refusal) = pack_refused (refusal_number refusal)

-- "0 where it is not applicable", which no stack's number is
abbrev pub pack_after : Result (Option ℕ) Refusal → ℕ
pack_after (Ok (Some number)) = number
pack_after (Ok None) = 0
pack_after (Err refusal) = pack_refused (refusal_number refusal)

-- ---- the answers read back
unfoldable pub unpack_answer : ℕ → Result ℕ Refusal
unpack_answer x = cond (eqb (is_refused x) 0) (Ok x) (Err (named (refusal_in x)))

unfoldable pub unpack_after : ℕ → Result (Option ℕ) Refusal
unpack_after x = cond (eqb (is_refused x) 0) (cond (eqb x 0) (Ok None) (Ok (Some x))) (Err (named (refusal_in x)))
