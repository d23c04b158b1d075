-- How an answer or a refusal stands in one 64-bit number for a C caller, and how the parts of an answer are read back, as the header's macros do it.
use Rattle.std.specs.Prelude.{ℕ, ◌+◌, ◌/◌, ◌%◌, ◌^◌, cond, eqb, Option, Some, None, Result, Ok, Err}
use Rattle.refusal.specs.declared.Refusal.{Refusal}
use Rattle.refusal.specs.Numbers.{refusal_number}

-- "refused where the top bit is set, and then the low bits are the refusal number"
abbrev pub pack_refused : ℕ → ℕ
pack_refused refusal = 2 ^ 63 + refusal

-- a refusal that may be 0, which is none
abbrev pub pack_end : ℕ → ℕ
pack_end refusal = cond (eqb refusal 0) 0 (pack_refused refusal)

-- a number stands for itself
abbrev pub pack_itself : ℕ → ℕ
pack_itself value = value

-- of numbers that begin at 1: 0 for none
abbrev pub pack_option : Option ℕ → ℕ
pack_option None = 0
pack_option (Some value) = value

-- a value in its own way, and a refusal by its number
abbrev pub pack_result : {A : Type 0} → (A → ℕ) → Result A Refusal → ℕ
pack_result pack (Ok value) = pack value
pack_result pack (Err refusal) = pack_refused (refusal_number refusal)

-- ---- the parts read back: IS_REFUSED, the low bits of a refusal, REFUSAL, IS_FOUND, FIRST_SENDER or NEXT_NODE, FIRST_RECEIVER or FUNCTION,
-- FIRST_DESTINATION, FIRST_NUMBER or COST, and NUMBER
abbrev pub is_refused : ℕ → ℕ
is_refused x = x / 2 ^ 63

abbrev pub refusal_in : ℕ → ℕ
refusal_in x = x % 256

-- 0 where nothing is refused
abbrev pub end_in : ℕ → ℕ
end_in x = cond (eqb (is_refused x) 0) 0 (refusal_in x)

abbrev pub is_found : ℕ → ℕ
is_found x = x / 2 ^ 62 % 2

abbrev pub sender_in : ℕ → ℕ
sender_in x = x / 2 ^ 56 % 64

abbrev pub receiver_in : ℕ → ℕ
receiver_in x = x / 2 ^ 48 % 256

abbrev pub destination_in : ℕ → ℕ
destination_in x = x / 2 ^ 40 % 256

abbrev pub low_in : ℕ → ℕ
low_in x = x % 2 ^ 32

abbrev pub number_in : ℕ → ℕ
number_in x = x / 2 ^ 32 % 2 ^ 16
