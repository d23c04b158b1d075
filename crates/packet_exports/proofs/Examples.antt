-- A packed forward in numbers, to hold beside the header's shifts and masks.
use mathlib.Core.Path.{◌≡◌, refl}
use Rattle.packet_exports.specs.Packing.{pack_forward}

-- forward to node 2 by function 65, stack 4, cost 10, is 0x424100040000000A
forward_ten : pack_forward 2 65 4 10 ≡ 4774097097169305610
forward_ten = refl
