-- What stands in the table while `fresh` fills it; no public contract cites it.
use Rattle.std.specs.Prelude.{ℕ, ◌+◌, ◌*◌, ◌/◌, ◌%◌, ◌≤◌, List, Bool, cond, ◌&&◌, ltb}
use Rattle.lists.specs.Lists.{tabulate}
use Rattle.network.specs.Network.{neighbours_at}
use Rattle.table.specs.Table.{no_row, home_in}

-- n nodes, p protocols and S stacks, as a network that is not refused has them
pub record Shape (n p S : ℕ) : Type 0 where
  pub few : n ≤ 32
  pub single : p ≤ S
  pub room : n * S ≤ 16384

-- r elements, of which those below k that pass the test have their value, and all others the same one
unfoldable pub set_below : ℕ → (ℕ → Bool) → (ℕ → ℕ) → ℕ → ℕ → List ℕ
set_below r test value other k = tabulate r (λ i. cond (ltb i k && test i) (value i) other)

module _ (n p S : ℕ) (functions : List ℕ) where
  -- the row at place i is a home
  unfoldable pub is_home : ℕ → Bool
  is_home i = home_in n p functions (i / S / n) (i / S % n) (i % S + 1)

  -- the costs and the waiting words once the homes below place k are set
  abbrev pub costs_below : ℕ → List ℕ
  costs_below k = set_below (n * (n * S)) is_home (λ i. 0) no_row k

  abbrev pub waits_below : List ℕ → ℕ → List ℕ
  waits_below links k = set_below (n * (n * S)) is_home (λ i. neighbours_at n links (i / S / n)) 0 k
