-- The laws that functions of src/ name in their attributes, so many to a name.
use Rattle.network.proofs.Bounds.{link_place, product_bound, product_fits, place_fits, square_small, counted_low}
use Rattle.network.proofs.Pairs.{half_is_all}

-- a link's place in the slice
pub ruleset places = (link_place, product_bound, product_fits, place_fits)

-- the sizes and links of a network
pub ruleset sizes = (counted_low, square_small, product_fits, half_is_all)
