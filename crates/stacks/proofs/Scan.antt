-- The number of a stack, a protocol at a time.
use Prim.Native.Nat.{ℕ, ◌+◌, ◌*◌, ◌<◌}
use native.Mathlib.Numerals.{add-one}
use mathlib.Core.Path.{◌≡◌, refl}
use mathlib.Core.List.{List, [], ◌∷◌}
use mathlib.Core.Bool.{Bool, true, false, cond, ◌&&◌}
use lib.ListN.{length, get_or, drop}
use lib.Seq.{drop-cons}
use lib.Dec.{ltb}
use borrow.Author.Tests.{lt-ltb}
use Rattle.stacks.specs.Stacks.{below, number_from}
use Rattle.stacks.specs.Steps.{scan}
use Rattle.std.specs.Prelude.{Ok, Err}
use Rattle.refusal.specs.declared.Refusal.{Refusal}

pub scan_is : (p n : ℕ) (s : List ℕ) → scan p n s ≡ cond (below p s) (Ok (number_from p n s)) (Err Refusal.Range)
scan_is p n [] = refl
scan_is p n (q ∷ s) = go (ltb q p) (scan_is p (p * n + q + 1) s)
  where
    go : (b : Bool) → scan p (p * n + q + 1) s ≡ cond (below p s) (Ok (number_from p (p * n + q + 1) s)) (Err Refusal.Range)
        → cond b (scan p (p * n + q + 1) s) (Err Refusal.Range) ≡ cond (b && below p s) (Ok (number_from p (p * n + q + 1) s)) (Err Refusal.Range)
    go true e = e
    go false e = refl

pub scan_step : (p n : ℕ) (s : List ℕ) (i : ℕ) → i < length s → get_or s i 0 < p → scan p n (drop i s) ≡ scan p (p * n + get_or s i 0 + 1) (drop (i + 1) s)
scan_step p n s i more small = rw (add-one i, drop-cons s i 0 more) (simp (lt-ltb _ _ small))
