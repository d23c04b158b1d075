use mathlib.Core.Path.{◌≡◌}
use mathlib.Core.Bool.{false}
use Prim.Native.Nat.{ℕ, ◌+◌, ◌*◌, ◌<◌}
use Rattle.bits.specs.Bits.{has}
use Rattle.std.proofs.Common.{None}
use Rattle.table.proofs.Firsts.{Ahead}
use Rattle.waiting.proofs.search.search.Given as goal

abbrev pub invariant-loop-bit : goal.invariant-loop-bit
invariant-loop-bit l = (l.found ≡ None) × ((k : ℕ) → k < l.bit → has l.word k ≡ false)

abbrev pub invariant-loop-row : goal.invariant-loop-row
invariant-loop-row l = (l.found ≡ None) × Ahead l.waiting (l.node * l.rows + l.row)

abbrev pub invariant-table : goal.invariant-table
invariant-table l = (l.found ≡ None) × Ahead l.waiting (l.node * l.rows)
