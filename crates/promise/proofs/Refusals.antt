-- NEVER 7 FROM FRESH: no cost is above the ceiling, a message that waits is delivered, and no lookup answers 7.
use Prim.Native.Nat.{ℕ, ◌≤◌, ◌<◌}
use mathlib.Core.Path.{◌≡◌}
use mathlib.Core.Logic.{◌≢◌}
use mathlib.Core.List.{List}
use mathlib.Core.Bool.{true, ◌&&◌}
use lib.ListN.{get_or}
use lib.Dec.{ltb}
use borrow.Author.Tests.{ltb-true}
use Rattle.std.specs.Prelude.{Err}
use Rattle.lists.proofs.Tests.{both}
use Rattle.refusal.specs.declared.Refusal.{Refusal}
use Rattle.stacks.specs.Stacks.{ok_number}
use Rattle.stacks.proofs.Tests.{within}
use Rattle.network.specs.Network.{Network, stacks}
use Rattle.table.specs.Table.{Table, no_row, ceiling, place}
use Rattle.table.specs.Answers.{ok_message_in, waits_in, ok_message, waits, message_refusal}
use Rattle.forward.specs.Answers.{lookup_of}
use Rattle.promise.specs.Routes.{Network16, Reached}
use Rattle.promise.proofs.Onward.{cost_most}
use Rattle.promise.proofs.Looking.{not_7}
use Rattle.promise.proofs.Running.{goes_through}

module _ (net : Network) (ok : Network16 net) where
  pub ceiling_kept : (t : Table) (U D N : ℕ) → Reached net t → get_or t.cost (place net U D N) 0 ≢ no_row → U < net.n → D < net.n → 1 ≤ N → N ≤ stacks net
      → get_or t.cost (place net U D N) 0 ≤ ceiling
  ceiling_kept t U D N r priced u d some most = cost_most net ok t r U D N priced u d (record { some = some; most = most })

  pub never_7 : (t : Table) (U D : ℕ) (stack : List ℕ) → Reached net t → lookup_of net t U D stack ≢ Err Refusal.Broken
  never_7 t U D stack r = not_7 net ok t r U D stack

  -- a message that waits is delivered
  pub delivers : (t : Table) (Q U D N : ℕ) → Reached net t → ok_message net t Q U D N ≡ true → waits net t Q U D N ≡ true → message_refusal net t Q U D N ≡ 0
  unfolding ok_message_in waits_in ok_number
  delivers t Q U D N r e w =
      let a = both (ltb Q net.n) (ltb U net.n && (ltb D net.n && ok_number net.p net.h N)) e in
      let b = both (ltb U net.n) (ltb D net.n && ok_number net.p net.h N) a.1 in
      let c = both (ltb D net.n) (ok_number net.p net.h N) b.1 in
      goes_through net ok t r Q D N U (ltb-true Q net.n a.0) (ltb-true D net.n c.0) (within net.p net.h N c.1) w
