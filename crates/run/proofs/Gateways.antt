-- The gateways of a run: the nodes of the network, and behind them one that has no neighbour and no function, as every number that is no node has none.
use Prim.Native.Nat.{ℕ, zero, suc, ◌+◌, ◌≤◌, ◌<◌}
use native.Mathlib.Decide.{dec_lt}
use native.Mathlib.Omega.{arith}
use mathlib.Core.Path.{◌≡◌, refl, sym, ap, ◌∙◌}
use mathlib.Core.Logic.{by_cases}
use mathlib.Core.List.{List}
use mathlib.Core.Bool.{Bool, false, cond}
use lib.ListN.{replicate, set}
use lib.Dec.{ltb}
use borrow.Author.Tests.{lt-ltb, le-ltb}
use Rattle.bits.specs.Bits.{word_of}
use Rattle.lists.specs.Lists.{tabulate}
use Rattle.lists.proofs.Tables.{tabulate_one, tabulate_same, set_tabulate}
use Rattle.network.specs.Network.{Network, neighbours_at}
use Rattle.network.proofs.Entries.{node_past, link_from_none}
use Rattle.gateways.specs.Gateways.{word_at, grid_of}
use Rattle.hear.specs.declared.Gateway.{Gateway}
use Rattle.step.specs.InNetwork.{gateway_at}
use Rattle.run.specs.Turns.{nobody}

-- a grid of nothing but 0
abbrev no_words : List (List ℕ)
no_words = replicate 8 (replicate 8 0)

-- of 32 gateways the first i are those of the numbers below i
module _ (net : Network) (s : ℕ) where
  abbrev gateway_in : ℕ → ℕ → Gateway
  gateway_in i U = cond (ltb U i) (gateway_at net s U) (nobody net.p s)

  abbrev pub first_gateways : ℕ → List Gateway
  first_gateways i = tabulate 32 (gateway_in i)

  gateway_below : (i U : ℕ) → U < i → gateway_in i U ≡ gateway_at net s U
  gateway_below i U low = rw (lt-ltb U i low) refl

  gateway_past : (i U : ℕ) → i ≤ U → gateway_in i U ≡ nobody net.p s
  gateway_past i U past = rw (le-ltb U i past) refl

word_of_none : (k : ℕ) (f : ℕ → Bool) → ((i : ℕ) → f i ≡ false) → word_of k f ≡ 0
unfolding word_of
word_of_none zero f none = refl
word_of_none (suc k) f none = rw (word_of_none k f none, none k) refl

module _ (net : Network) (s U : ℕ) (past : net.n ≤ U) where
  no_neighbours : neighbours_at net.n net.links U ≡ 0
  unfolding neighbours_at
  no_neighbours = word_of_none net.n _ (λ W. ap (ltb 0) (link_from_none net.n net.links U W (node_past net.n U past)))

  no_grid : (kind : ℕ) → grid_of net.n net.p net.functions U kind ≡ no_words
  unfolding word_at tabulate
  no_grid kind = rw (node_past net.n U past) refl

  pub nobody_past : gateway_at net s U ≡ nobody net.p s
  nobody_past = rw (no_neighbours, no_grid 0, no_grid 1, no_grid 2) refl

module _ (net : Network) (s : ℕ) where
  pub gateways_none : replicate 32 (nobody net.p s) ≡ first_gateways net s 0
  gateways_none =
      tabulate_one 32 (nobody net.p s)
      ∙ tabulate_same (nobody net.p s) 32 (λ U. nobody net.p s) (gateway_in net s 0) (λ U low. sym (gateway_past net s 0 U (omega arith)))

  pub gateways_more : (i : ℕ) → i < 32 → set (first_gateways net s i) i (gateway_at net s i) ≡ first_gateways net s (i + 1)
  gateways_more i low =
      ap (set (first_gateways net s i) i) (sym (gateway_below net s (i + 1) i (omega arith)))
      ∙ set_tabulate (nobody net.p s) 32 (gateway_in net s i) (gateway_in net s (i + 1)) i low (λ U b ne. by_cases (dec_lt U i)
      (λ l. gateway_below net s i U l ∙ sym (gateway_below net s (i + 1) U (omega arith)))
      (λ n. gateway_past net s i U (omega arith) ∙ sym (gateway_past net s (i + 1) U (omega arith))))

  pub gateways_all : (i : ℕ) → net.n ≤ i → first_gateways net s i ≡ tabulate 32 (gateway_at net s)
  gateways_all i past =
      tabulate_same (nobody net.p s) 32 (gateway_in net s i) (gateway_at net s) (λ U b. by_cases (dec_lt U i)
      (λ l. gateway_below net s i U l)
      (λ n. gateway_past net s i U (omega arith) ∙ sym (nobody_past net s U (omega arith))))
