-- What each public function of the crate answers, for every input: these are the contracts.
-- "The bare stack routines use 4, with p, h or a function's kind out of range counted there."
use Rattle.std.specs.Prelude.{ℕ, zero, suc, ◌+◌, ◌*◌, Bool, cond, ◌&&◌, leb, ltb, eqb}
use Rattle.stacks.specs.Stacks.{ok_size, ok_number, number, top, rest, stack_of}
use Rattle.std.specs.Prelude.{Result, Ok, Err, Option, Some, None}
use Rattle.refusal.specs.declared.Refusal.{Refusal}
use Rattle.refusal.specs.Numbers.{refusal_number}
use Rattle.functions.specs.Functions.{kind_of, from_of, to_of, ok_function, apply, Outcome, becomes, cannot, inverse}

-- "A refusal returns its number and zeros": the refusal number of a function applied, 0 where nothing is refused, and the number that goes with it;
-- where it is not applicable nothing is refused, and the number is 0, which no stack has
abbrev pub refusal_after : Result (Option ℕ) Refusal → ℕ
refusal_after (Ok (Some n)) = 0
refusal_after (Ok None) = 0
refusal_after (Err r) = refusal_number r

abbrev pub number_after : Result (Option ℕ) Refusal → ℕ
number_after (Ok (Some n)) = n
number_after (Ok None) = 0
number_after (Err r) = 0

-- a new stack, by its number
abbrev pub made : ℕ → Result (Option ℕ) Refusal
made n = Ok (Some n)

-- applied: the number of the stack that f makes of the stack of a number
abbrev pub answer : ℕ → Outcome → Result (Option ℕ) Refusal
answer p (becomes s) = Ok (Some (number p s))
answer p cannot = Ok None

abbrev pub applied_of : ℕ → ℕ → ℕ → ℕ → Result (Option ℕ) Refusal
applied_of p h f n = cond (ok_size p h && (ok_number p h n && ok_function p f)) (answer p (apply h f (stack_of p h n))) (Err Refusal.Range)

-- inverse_of: the function that takes back what f does
abbrev pub inverse_of : ℕ → ℕ → Result ℕ Refusal
inverse_of p f = cond (leb 1 p && (leb p 8 && ok_function p f)) (Ok (inverse f)) (Err Refusal.Range)

-- moved: arithmetic on numbers alone, for whoever has worked out how many stacks there are: where most is S it answers what applied answers
-- (the law moved-applied). 78,536,544,840 is the largest S.
unfoldable pub ok_move : ℕ → ℕ → ℕ → ℕ → Bool
ok_move p most f n = leb 1 p && (leb p 8 && (leb most 78536544840 && (leb 1 n && (leb n most && ok_function p f))))

abbrev pub move_number : ℕ → ℕ → ℕ → ℕ → ℕ → ℕ → Result (Option ℕ) Refusal
move_number p most zero a b n = cond (eqb (top p n) a) (Ok (Some (p * rest p n + b + 1))) (Ok None)
move_number p most (suc zero) a b n = cond (eqb (top p n) a && leb (p * n + b + 1) most) (Ok (Some (p * n + b + 1))) (Ok None)
move_number p most (suc (suc k)) a b n = cond (eqb (top p n) b && (ltb 0 (rest p n) && eqb (top p (rest p n)) a)) (Ok (Some (rest p n))) (Ok None)

abbrev pub moved_of : ℕ → ℕ → ℕ → ℕ → Result (Option ℕ) Refusal
moved_of p most f n = cond (ok_move p most f n) (move_number p most (kind_of f) (from_of f) (to_of f) n) (Err Refusal.Range)
