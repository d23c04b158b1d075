-- Stacks of protocols, bottom to top, and their numbers: the first half of the part "Stacks" of the specification.
use Rattle.std.specs.Prelude.{ℕ, zero, suc, ◌+◌, ◌-◌, ◌*◌, ◌/◌, ◌%◌, ◌^◌, List, [], ◌∷◌, Bool, true, ◌&&◌, length, leb, ltb}

-- "Protocols p: 1 to 8. Height bound h: 1 to 12."
unfoldable pub ok_size : ℕ → ℕ → Bool
ok_size p h = leb 1 p && (leb p 8 && (leb 1 h && leb h 12))

-- each protocol is below p
abbrev pub below : ℕ → List ℕ → Bool
below p [] = true
below p (q ∷ s) = ltb q p && below p s

-- "A stack is 1 to h protocols, bottom to top."
unfoldable pub ok_stack : ℕ → ℕ → List ℕ → Bool
ok_stack p h s = leb 1 (length s) && (leb (length s) h && below p s)

-- "for each protocol q from the bottom up, replace N by p x N + q + 1"
abbrev pub number_from : ℕ → ℕ → List ℕ → ℕ
number_from p n [] = n
number_from p n (q ∷ s) = number_from p (p * n + q + 1) s

-- "Number of a stack: start at 0"
abbrev pub number : ℕ → List ℕ → ℕ
number p s = number_from p 0 s

-- "Let S be p + p^2 + .. + p^h, the number of stacks."
abbrev pub count : ℕ → ℕ → ℕ
count p zero = 0
count p (suc h) = count p h + p ^ suc h

-- a number from 1 to s
abbrev pub one_to : ℕ → ℕ → Bool
one_to s n = leb 1 n && leb n s

-- "The numbers are exactly 1 to S." (proofs/Laws.antt has the four laws of that.)
unfoldable pub ok_number : ℕ → ℕ → ℕ → Bool
ok_number p h n = one_to (count p h) n

-- The last step of the numbering taken back: the top of the stack that has a number, and the number of what is below the top.
abbrev pub top : ℕ → ℕ → ℕ
top p n = (n - 1) % p

abbrev pub rest : ℕ → ℕ → ℕ
rest p n = (n - 1) / p

-- The stack of a number: tops are taken off until none is left, each put below the one before. h bounds the height.
abbrev pub stack_under : ℕ → ℕ → ℕ → List ℕ → List ℕ
stack_under p zero n s = s
stack_under p (suc h) zero s = s
stack_under p (suc h) (suc n) s = stack_under p h (n / p) (n % p ∷ s)

abbrev pub stack_of : ℕ → ℕ → ℕ → List ℕ
stack_of p h n = stack_under p h n []

-- how high that stack is
abbrev pub height : ℕ → ℕ → ℕ → ℕ
height p zero n = 0
height p (suc h) zero = 0
height p (suc h) (suc n) = suc (height p h (n / p))
