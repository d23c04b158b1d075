-- Worked examples by computation: what the nodes of the small network of the specification can do.
use mathlib.Core.Path.{◌≡◌, refl}
use mathlib.Core.List.{[]}
use mathlib.Core.Bool.{true, false}
use lib.ListN.{get_or}
use Rattle.lists.specs.Lists.{tabulate, some}
use Rattle.network.specs.Network.{is_node, link_at}
use Rattle.network.specs.SmallNetwork.{a, b, wrap_a_in_b, unwrap_a_from_b, functions, smallnet}
use Rattle.gateways.specs.Gateways.{word_at, grid_of, can, price, weight, receives_at, accepts}

-- nodes 0, 1 and 3 accept a only, node 2 accepts b only
pub accept_a : (accepts smallnet 0 a ≡ true) × (accepts smallnet 1 a ≡ true) × (accepts smallnet 2 a ≡ false) × (accepts smallnet 3 a ≡ true)
unfolding accepts receives_at some word_at is_node
accept_a = (refl, refl, refl, refl)

pub accept_b : (accepts smallnet 0 b ≡ false) × (accepts smallnet 1 b ≡ false) × (accepts smallnet 2 b ≡ true) × (accepts smallnet 3 b ≡ false)
unfolding accepts receives_at some word_at is_node
accept_b = (refl, refl, refl, refl)

pub functions_there : (can smallnet 1 wrap_a_in_b ≡ true) × (can smallnet 1 unwrap_a_from_b ≡ false) × (can smallnet 2 unwrap_a_from_b ≡ true)
unfolding can word_at is_node
functions_there = (refl, refl, refl)

-- link 3 and price 5; link 1 and price 1
pub weights : (weight smallnet 1 wrap_a_in_b 2 ≡ 8) × (weight smallnet 2 unwrap_a_from_b 3 ≡ 2)
unfolding weight price link_at word_at is_node
weights = (refl, refl)

-- the same as an array of arrays: row a, column b of the wrap grid holds price 5 and 1
pub grid_of_wrap : get_or (get_or (grid_of 4 2 functions 1 1) a []) b 0 ≡ 6
unfolding tabulate word_at is_node
grid_of_wrap = refl
