-- Worked examples by computation: the small network of the specification, and networks that are refused.
use Prim.Native.Nat.{◌*◌}
use mathlib.Core.Path.{◌≡◌, refl}
use mathlib.Core.List.{[], ◌∷◌}
use mathlib.Core.Bool.{true, false}
use lib.ListN.{drop, replicate}
use lib.Dec.{leb}
use Rattle.lists.specs.Lists.{every}
use Rattle.bits.specs.Bits.{word_of}
use Rattle.stacks.specs.Stacks.{ok_size, count}
use Rattle.network.specs.Network.{network_of, is_node, link_at, present, neighbours_at, neighbours, ok_sizes, ok_links, refusal_of}
use Rattle.network.specs.SmallNetwork.{links, functions, smallnet}
use Rattle.network.specs.Answers.{checked_of}
use Rattle.std.specs.Prelude.{Ok}

pub not_refused : (refusal_of smallnet ≡ 0) × (checked_of smallnet ≡ Ok 6)
unfolding refusal_of ok_sizes ok_links ok_size every present link_at is_node
not_refused = (refl, refl)

-- node 1 has neighbours 0 and 2, node 3 has neighbour 2 only, and there is no node 4
pub words : (neighbours smallnet 1 ≡ 0b101) × (neighbours smallnet 3 ≡ 0b100) × (neighbours smallnet 4 ≡ 0)
unfolding neighbours_at word_of link_at is_node
words = (refl, refl, refl)

-- ---- refused
-- the link from 1 back to 0 is taken away
pub one_way : refusal_of (network_of 4 2 2 (0 ∷ 2 ∷ 0 ∷ 0 ∷ 0 ∷ drop 5 links) functions) ≡ 2
unfolding refusal_of ok_sizes ok_links ok_size every present link_at is_node
one_way = refl

-- the link from 0 to 1 is taken away: the other way round is refused too
pub one_way_back : refusal_of (network_of 4 2 2 (0 ∷ 0 ∷ drop 2 links) functions) ≡ 2
unfolding refusal_of ok_sizes ok_links ok_size every present link_at is_node
one_way_back = refl

-- a link from 0 to itself
pub to_itself : refusal_of (network_of 4 2 2 (9 ∷ drop 1 links) functions) ≡ 2
unfolding refusal_of ok_sizes ok_links ok_size every present link_at is_node
to_itself = refl

-- one link too few, and one function too few
pub short : (refusal_of (network_of 4 2 2 (drop 1 links) functions) ≡ 1) × (refusal_of (network_of 4 2 2 links (drop 1 functions)) ≡ 1)
unfolding refusal_of ok_sizes ok_size
short = (refl, refl)

-- no node, and 33 of them, whatever the slices hold
pub nodes : (refusal_of (network_of 0 2 2 [] []) ≡ 1) × (refusal_of (network_of 33 2 2 links functions) ≡ 1)
unfolding refusal_of ok_sizes ok_size
nodes = (refl, refl)

-- one node alone has too many stacks at p = 8, h = 12
pub too_high : refusal_of (network_of 1 8 12 (0 ∷ []) (replicate 192 0)) ≡ 1
unfolding refusal_of ok_sizes ok_size
too_high = refl

-- one node alone, which links to nothing
pub alone : refusal_of (network_of 1 1 1 (0 ∷ []) (0 ∷ 0 ∷ 0 ∷ [])) ≡ 0
unfolding refusal_of ok_sizes ok_links ok_size every present link_at is_node
alone = refl

-- p = 8, h = 3: room for 28 nodes and not for 29; p = 2, h = 12: for 2 and not for 3
pub room : (28 * count 8 3 ≡ 16352) × (leb (28 * count 8 3) 16384 ≡ true) × (leb (29 * count 8 3) 16384 ≡ false)
room = (refl, refl, refl)

pub room_of_two : (leb (2 * count 2 12) 16384 ≡ true) × (leb (3 * count 2 12) 16384 ≡ false)
room_of_two = (refl, refl)
