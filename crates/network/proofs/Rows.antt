-- What a turn of the loop adds to the neighbours' word.
use Prim.Native.Nat.{ℕ, zero, suc, ◌+◌, ◌≤◌, ◌<◌}
use native.Mathlib.Numerals.{add-one}
use mathlib.Core.Path.{◌≡◌, refl, sym, ap, ◌∙◌}
use mathlib.Core.List.{List}
use mathlib.Core.Bool.{Bool, false}
use lib.Dec.{ltb}
use borrow.Author.Tests.{lt-ltb, le-ltb}
use Rattle.bits.specs.Bits.{word_of, with_one}
use Rattle.bits.proofs.Masks.{word_of_set, word_of_skip}
use Rattle.network.specs.Network.{link_at, neighbours_at}
use Rattle.network.proofs.Entries.{node_many, link_from_none}

word_of_none : (k : ℕ) (f : ℕ → Bool) → ((i : ℕ) → f i ≡ false) → word_of k f ≡ 0
unfolding word_of
word_of_none zero f none = refl
word_of_none (suc k) f none = word_of_skip k f (none k) ∙ word_of_none k f none

-- where there are too many nodes, none has a neighbour
pub neighbours_many : (n : ℕ) (links : List ℕ) (U : ℕ) → 32 < n → neighbours_at n links U ≡ 0
unfolding neighbours_at
neighbours_many n links U many =
    word_of_none n (λ W. ltb 0 (link_at n links U W)) (λ W. ap (λ (x : ℕ). ltb 0 x) (link_from_none n links U W (node_many n U many)))

-- the turn of node W, to which there is a link or none
module _ (n : ℕ) (links : List ℕ) (U W word cost : ℕ) (e : word ≡ word_of W (λ X. ltb 0 (link_at n links U X))) (is : cost ≡ link_at n links U W) where
  pub link_more : W < 32 → 0 < cost → with_one word W ≡ word_of (W + 1) (λ X. ltb 0 (link_at n links U X))
  link_more few some =
      ap (λ (w : ℕ). with_one w W) e
      ∙ sym (rw add-one (word_of_set W (λ X. ltb 0 (link_at n links U X)) few (ap (ltb 0) (sym is) ∙ lt-ltb 0 cost some)))

  pub link_none_more : cost ≤ 0 → word ≡ word_of (W + 1) (λ X. ltb 0 (link_at n links U X))
  link_none_more none = e ∙ sym (rw add-one (word_of_skip W (λ X. ltb 0 (link_at n links U X)) (ap (ltb 0) (sym is) ∙ le-ltb 0 cost none)))
