-- What private functions answer on the way; no public contract cites it.
use Rattle.std.specs.Prelude.{ℕ, List, Bool, ◌&&◌, ltb, eqb}
use Rattle.std.specs.Bool.{beq}
use Rattle.lists.specs.Lists.{every}
use Rattle.network.specs.Network.{link_at}

-- there is a link both ways, or none
unfoldable pub good_pair : ℕ → List ℕ → ℕ → ℕ → Bool
good_pair n links U W = beq (ltb 0 (link_at n links U W)) (ltb 0 (link_at n links W U))

-- no link from U to itself, and both ways or none to each node before U
unfoldable pub good_row : ℕ → List ℕ → ℕ → Bool
good_row n links U = eqb (link_at n links U U) 0 && every U (λ W. good_pair n links U W)

-- the links, each pair looked at once
unfoldable pub half_links : ℕ → List ℕ → Bool
half_links n links = every n (λ U. good_row n links U)
