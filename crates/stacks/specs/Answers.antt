-- What each public function of the crate answers, for every input: these are the contracts.
-- "The bare stack routines use 4, with p, h .. out of range counted there."
use Rattle.std.specs.Prelude.{ℕ, List, ◌++◌, Bool, cond, ◌&&◌, length, drop, leb}
use Rattle.stacks.specs.Stacks.{ok_size, ok_stack, ok_number, number, count, height, stack_of}
use Rattle.std.specs.Prelude.{Result, Ok, Err}
use Rattle.refusal.specs.declared.Refusal.{Refusal}
use Rattle.refusal.specs.Numbers.{refusal_number}

-- "A refusal returns its number and zeros": the refusal number of an answer, 0 where nothing is refused, and the value that goes with it.
abbrev pub refusal : Result ℕ Refusal → ℕ
refusal (Ok n) = 0
refusal (Err r) = refusal_number r

abbrev pub value : Result ℕ Refusal → ℕ
value (Ok n) = n
value (Err r) = 0

-- stack_count: how many stacks there are
abbrev pub count_of : ℕ → ℕ → Result ℕ Refusal
count_of p h = cond (ok_size p h) (Ok (count p h)) (Err Refusal.Range)

-- number_of: the number of a stack
abbrev pub number_of : ℕ → ℕ → List ℕ → Result ℕ Refusal
number_of p h s = cond (ok_size p h && ok_stack p h s) (Ok (number p s)) (Err Refusal.Range)

-- stack_of: a number that has a stack, and a buffer with room for that stack
unfoldable pub ok_out : ℕ → ℕ → ℕ → List ℕ → Bool
ok_out p h n out = ok_size p h && (ok_number p h n && leb (height p h n) (length out))

abbrev pub height_of : ℕ → ℕ → ℕ → List ℕ → Result ℕ Refusal
height_of p h n out = cond (ok_out p h n out) (Ok (height p h n)) (Err Refusal.Range)

-- the buffer holds the stack, and after it what stood there; a refusal leaves it as it was
abbrev pub out_of : ℕ → ℕ → ℕ → List ℕ → List ℕ
out_of p h n out = cond (ok_out p h n out) (stack_of p h n ++ drop (height p h n) out) out
