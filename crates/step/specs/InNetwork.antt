-- A step in a network and a table that are right, as deliver and run take it.
use Rattle.std.specs.Prelude.{ℕ, Result}
use Rattle.refusal.specs.declared.Refusal.{Refusal}
use Rattle.network.specs.Network.{Network, neighbours}
use Rattle.gateways.specs.Gateways.{grid_of}
use Rattle.hear.specs.declared.Gateway.{Gateway}
use Rattle.table.specs.Table.{Table, delivered, offers_taken}
use Rattle.table.specs.Answers.{message_refusal, answer_by, table_by}

-- the node U as the gateway that hears, with so many stacks: the neighbours and the grids are those of U
abbrev pub gateway_at : Network → ℕ → ℕ → Gateway
gateway_at net most U = record {
  p = net.p;
  most = most;
  neighbours = neighbours net U;
  convert = grid_of net.n net.p net.functions U 0;
  wrap = grid_of net.n net.p net.functions U 1;
  unwrap = grid_of net.n net.p net.functions U 2;
}

-- what it answers, and the table that it leaves
module _ (net : Network) (t : Table) (Q U D N : ℕ) where
  abbrev pub step_answer : Result ℕ Refusal
  step_answer = answer_by (message_refusal net t Q U D N) (offers_taken net t Q U D N)

  unfoldable pub step_table : Table
  step_table = table_by (message_refusal net t Q U D N) (delivered net t Q U D N) t
