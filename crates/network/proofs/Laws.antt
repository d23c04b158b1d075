-- What the crates above cite of a network: what one that is not refused meets, and what its links tell.
use Prim.Native.Nat.{ℕ, ◌*◌, ◌^◌, ◌≤◌, ◌<◌}
use native.Mathlib.Decide.{dec_lt}
use native.Mathlib.Omega.{arith}
use mathlib.Core.Path.{◌≡◌, refl, sym, ap, ◌∙◌}
use mathlib.Core.Logic.{by_cases}
use mathlib.Core.Bool.{Bool, true, false, cond, ◌&&◌, false≢true}
use lib.ListN.{length}
use lib.Dec.{leb, ltb, eqb}
use lib.Pow.{pow_mono}
use borrow.Author.Tests.{leb-true, eqb-true, lt-ltb, le-ltb, eq-eqb}
use Rattle.lists.proofs.Tests.{both}
use Rattle.stacks.specs.Stacks.{ok_size}
use Rattle.bits.specs.Bits.{has}
use Rattle.bits.proofs.Masks.{has_word_of, word_of_fits}
use Rattle.network.specs.Network.{Network, stacks, link_at, link, present, neighbours_at, neighbours, ok_sizes, ok_links, refusal_of}
use Rattle.network.specs.Answers.{checked_of}
use Rattle.std.specs.Prelude.{Ok, Err}
use Rattle.refusal.specs.declared.Refusal.{Refusal}
use Rattle.refusal.specs.Numbers.{named}
use Rattle.refusal.proofs.Answers.{answered_ok, answered_err}
use Rattle.network.proofs.Entries.{node_is, node_past, link_from_none, link_to_none, link_nodes}
use Rattle.network.proofs.Pairs.{links_none, links_same}

-- ---- a network that is not refused
pub record Valid (net : Network) : Type 0 where
  pub nodes : 1 ≤ net.n
  pub few : net.n ≤ 32
  pub size : ok_size net.p net.h ≡ true
  pub room : net.n * stacks net ≤ 16384
  pub links_long : length net.links ≡ net.n * net.n
  pub functions_long : length net.functions ≡ net.n * (3 * (net.p * net.p))
  pub no_loop : (U : ℕ) → link net U U ≡ 0
  pub two_way : (U W : ℕ) → present net U W ≡ present net W U

refusal_none : (s l : Bool) → ◌≡◌ {A = ℕ} (cond s (cond l 0 2) 1) 0 → (s ≡ true) × (l ≡ true)
refusal_none true true e = (refl, refl)
refusal_none true false e = absurd (omega arith)
refusal_none false l e = absurd (omega arith)

module _ (net : Network) where
  absent_from : (U W : ℕ) → net.n ≤ U → present net U W ≡ false
  unfolding present
  absent_from U W high = ap (λ (x : ℕ). ltb 0 x) (link_from_none net.n net.links U W (node_past net.n U high))

  absent_to : (U W : ℕ) → net.n ≤ W → present net U W ≡ false
  unfolding present
  absent_to U W high = ap (λ (x : ℕ). ltb 0 x) (link_to_none net.n net.links U W (node_past net.n W high))

  no_loops : ok_links net ≡ true → (U : ℕ) → link net U U ≡ 0
  no_loops good U = by_cases (dec_lt U net.n)
      (λ low. links_none net good U low)
      (λ high. link_from_none net.n net.links U U (node_past net.n U (omega arith)))

  both_ways : ok_links net ≡ true → (U W : ℕ) → present net U W ≡ present net W U
  both_ways good U W = by_cases (dec_lt U net.n)
      (λ u. by_cases (dec_lt W net.n)
      (λ w. links_same net good U W u w)
      (λ w. absent_to U W (omega arith) ∙ sym (absent_from W U (omega arith))))
      (λ u. absent_from U W (omega arith) ∙ sym (absent_to W U (omega arith)))

  of_sizes : ok_sizes net ≡ true → ok_links net ≡ true → Valid net
  unfolding ok_sizes
  of_sizes sizes good =
      let a = both (leb 1 net.n) _ sizes in
      let b = both (leb net.n _) _ a.1 in
      let c = both (ok_size net.p net.h) _ b.1 in
      let d = both (leb (net.n * stacks net) 16384) _ c.1 in
      let e = both (eqb (length net.links) (net.n * net.n)) _ d.1 in
      record {
        nodes = leb-true 1 net.n a.0;
        few = omega (arith, leb-true net.n _ b.0);
        size = c.0;
        room = leb-true (net.n * stacks net) 16384 d.0;
        links_long = eqb-true (length net.links) (net.n * net.n) e.0;
        functions_long = eqb-true (length net.functions) (net.n * (3 * (net.p * net.p))) e.1;
        no_loop = no_loops good;
        two_way = both_ways good;
      }

  pub valid : refusal_of net ≡ 0 → Valid net
  unfolding refusal_of
  valid e = let t = refusal_none (ok_sizes net) (ok_links net) e in of_sizes t.0 t.1

-- ---- what `check` answers
refusal_bound : (s l : Bool) → cond s (cond l 0 2) 1 ≤ 2
refusal_bound true true = omega arith
refusal_bound true false = omega arith
refusal_bound false l = omega arith

module _ (net : Network) where
  pub refusal_most : refusal_of net ≤ 2
  unfolding refusal_of
  refusal_most = refusal_bound (ok_sizes net) (ok_links net)

  pub checked_valid : (s : ℕ) → checked_of net ≡ Ok s → (refusal_of net ≡ 0) × (s ≡ stacks net)
  checked_valid s e = answered_ok (refusal_of net) (stacks net) s (sym e)

  pub checked_refused : (r : Refusal) → checked_of net ≡ Err r → (r ≡ named (refusal_of net)) × (1 ≤ refusal_of net) × (refusal_of net ≤ 2)
  checked_refused r e =
      let a = answered_err (refusal_of net) (stacks net) r (sym e) in
      let some : 1 ≤ refusal_of net = by_cases (dec_lt 0 (refusal_of net)) (λ h. h)
      (λ h. absurd (false≢true (sym a.0 ∙ eq-eqb (refusal_of net) 0 (omega arith)))) in
      (a.1, some, refusal_most)

-- ---- links
module _ (net : Network) where
  pub present_nodes : (U W : ℕ) → present net U W ≡ true → (U < net.n) × (W < net.n) × (net.n ≤ 32)
  unfolding present
  present_nodes U W e =
      let t = link_nodes net.n net.links U W e in
      let u = node_is net.n U t.0 in
      (u.0, (node_is net.n W t.1).0, u.1)

  pub has_neighbours : (U W : ℕ) → has (neighbours net U) W ≡ present net U W
  unfolding neighbours_at present
  has_neighbours U W =
      has_word_of net.n (λ X. ltb 0 (link_at net.n net.links U X)) W
      ∙ by_cases (dec_lt W net.n)
      (λ low. ap (λ (t : Bool). t && present net U W) (lt-ltb W net.n low))
      (λ high. ap (λ (t : Bool). t && present net U W) (le-ltb W net.n (omega arith)) ∙ sym (absent_to net U W (omega arith)))

  pub neighbours_fits : (U : ℕ) → refusal_of net ≡ 0 → neighbours net U < 2 ^ 32
  unfolding neighbours_at
  neighbours_fits U e =
      let few = (valid net e).few in
      omega (arith, word_of_fits net.n (λ X. ltb 0 (link_at net.n net.links U X)), pow_mono few)
