-- What the tests of specs/ say as facts.
use Prim.Native.Nat.{ℕ, ◌≤◌}
use mathlib.Core.Path.{◌≡◌}
use mathlib.Core.List.{List}
use mathlib.Core.Bool.{true, ◌&&◌}
use lib.ListN.{length}
use lib.Dec.{leb}
use borrow.Author.Tests.{leb-true, le-leb}
use Rattle.lists.proofs.Tests.{both}
use Rattle.stacks.specs.Stacks.{ok_size, ok_stack, ok_number, below, count}

pub record Sizes (p h : ℕ) : Type 0 where
  pub some : 1 ≤ p
  pub few : p ≤ 8
  pub high : 1 ≤ h
  pub low : h ≤ 12

pub sizes : (p h : ℕ) → ok_size p h ≡ true → Sizes p h
unfolding ok_size
sizes p h e =
    let s = both (leb 1 p) (leb p 8 && (leb 1 h && leb h 12)) e in
    let t = both (leb p 8) (leb 1 h && leb h 12) s.1 in
    let u = both (leb 1 h) (leb h 12) t.1 in
    record { some = leb-true _ _ s.0; few = leb-true _ _ t.0; high = leb-true _ _ u.0; low = leb-true _ _ u.1 }

pub ok_size_yes : (p h : ℕ) → 1 ≤ p → p ≤ 8 → 1 ≤ h → h ≤ 12 → ok_size p h ≡ true
unfolding ok_size
ok_size_yes p h some few high low = simp (le-leb 1 p some, le-leb p 8 few, le-leb 1 h high, le-leb h 12 low)

-- a stack of height 1 to h
pub record Good (p h : ℕ) (s : List ℕ) : Type 0 where
  pub small : below p s ≡ true
  pub some : 1 ≤ length s
  pub low : length s ≤ h

pub good : (p h : ℕ) (s : List ℕ) → ok_stack p h s ≡ true → Good p h s
unfolding ok_stack
good p h s ok =
    let b = both (leb 1 (length s)) (leb (length s) h && below p s) ok in
    let d = both (leb (length s) h) (below p s) b.1 in
    record { small = d.1; some = leb-true 1 (length s) b.0; low = leb-true (length s) h d.0 }

pub good_ok : (p h : ℕ) (s : List ℕ) → Good p h s → ok_stack p h s ≡ true
unfolding ok_stack
good_ok p h s g = simp (le-leb 1 (length s) g.some, le-leb (length s) h g.low) g.small

-- a number from 1 to S
pub record Within (p h n : ℕ) : Type 0 where
  pub some : 1 ≤ n
  pub most : n ≤ count p h

pub within : (p h n : ℕ) → ok_number p h n ≡ true → Within p h n
unfolding ok_number
within p h n ok =
    let b = both (leb 1 n) (leb n (count p h)) ok in
    record { some = leb-true 1 n b.0; most = leb-true n (count p h) b.1 }

pub ok_number_yes : (p h n : ℕ) → 1 ≤ n → n ≤ count p h → ok_number p h n ≡ true
unfolding ok_number
ok_number_yes p h n some most = simp (le-leb 1 n some, le-leb n (count p h) most)
