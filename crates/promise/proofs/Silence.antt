-- Once no message waits: a count of 0 says that no bit is set, and so the theory's state is quiet.
use Prim.Native.Nat.{ℕ, zero, suc, ◌<◌}
use native.Mathlib.Decide.{dec_lt}
use native.Mathlib.Omega.{arith}
use mathlib.Core.Path.{◌≡◌, ◌∙◌}
use mathlib.Core.Logic.{by_cases}
use mathlib.Core.List.{List, [], ◌∷◌}
use mathlib.Core.Bool.{true, false}
use lib.ListN.{get_or}
use Rattle.lists.proofs.Tests.{bool_cases}
use Rattle.relax.specs.Journeys.{Quiet}
use Rattle.relax.proofs.Ends.{waits}
use Rattle.bits.specs.Bits.{has}
use Rattle.bits.proofs.Laws.{has_zero}
use Rattle.bits.proofs.Counts.{ones_none}
use Rattle.words.specs.Words.{ones_in}
use Rattle.network.specs.Network.{Network}
use Rattle.network.proofs.Laws.{valid, present_nodes}
use Rattle.table.specs.Table.{Table, rows_each, vertex_node}
use Rattle.bridge.specs.Bridge.{graph_of, vertex_place, vertex_waiting, state_of}
use Rattle.bridge.proofs.States.{waiting_inside, waiting_outside}
use Rattle.promise.specs.Routes.{Network16, Reached}
use Rattle.promise.specs.Routes as routes
use Rattle.promise.proofs.Reaching.{bridge, reached}

-- no bit of any word
pub words_none : (ws : List ℕ) → ones_in ws ≡ 0 → (i v : ℕ) → v < 32 → has (get_or ws i 0) v ≡ false
unfolding ones_in
words_none [] e i v b = has_zero v
words_none (w ∷ ws) e zero v b = ones_none w (omega arith) v b
words_none (w ∷ ws) e (suc i) v b = words_none ws (omega arith) i v b

module _ (net : Network) (ok : Network16 net) (D : ℕ) (d : D < net.n) (t : Table) (r : Reached net t) (q : routes.Quiet net t) where
  -- a message waits only for a neighbour, and so for a node below 32
  few : (v U : ℕ) → vertex_waiting net D t v U ≡ true → U < 32
  few v U e =
      let w = waits (graph_of net D) (bridge net ok D d).lawful (reached net ok D d r) v U e in
      omega (arith, (present_nodes net (vertex_node net v) U w.sent).1, (valid net ok.valid).few)

  pub quiet : Quiet (state_of net D t)
  quiet v U = by_cases (dec_lt v (rows_each net))
      (λ b. bool_cases (vertex_waiting net D t v U)
      (λ e. waiting_inside net D t v U b ∙ words_none t.waiting q (vertex_place net D v) U (few v U e))
      (λ e. e))
      (λ n. waiting_outside net D t v U (omega arith))
