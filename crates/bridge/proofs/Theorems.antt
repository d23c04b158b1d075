-- THE THEOREMS: all that specs/Bridge.antt says of a network that is not refused, whose numbers have 16 bits.
use Prim.Native.Nat.{ℕ, ◌<◌}
use mathlib.Core.Path.{◌≡◌}
use Rattle.network.specs.Network.{Network, Numbers16, refusal_of}
use Rattle.bridge.specs.Bridge.{Bridged}
use Rattle.bridge.proofs.Weights.{lawful, neighbours_few, hop_function, function_hop}
use Rattle.bridge.proofs.Beginning.{fresh_sized, fresh_is_fresh}
use Rattle.bridge.proofs.States.{leads_nowhere}
use Rattle.table.proofs.Deliveries.{goes, delivered_sized}
use Rattle.table.proofs.Refusals.{goes_through, refused_stays}
use Rattle.bridge.proofs.Steps.{delivery_is_a_step, delivery_elsewhere}

pub bridged : (net : Network) → refusal_of net ≡ 0 → Numbers16 net → (D : ℕ) → D < net.n → Bridged net D
bridged net right numbers D d = record {
  lawful = lawful net right numbers D;
  neighbours_few = neighbours_few net;
  fresh_sized = fresh_sized net;
  fresh_is_fresh = fresh_is_fresh net D d;
  delivery_sized = λ t Q U E N sized e. delivered_sized net t Q U E N sized (goes net t Q U E N e).receiver;
  delivery_is_a_step = delivery_is_a_step net right D;
  delivery_elsewhere = delivery_elsewhere net D d;
  call_delivers = goes_through net;
  refused_is_none = refused_stays net;
  leads_nowhere = leads_nowhere net;
  hop_function = hop_function net right;
  function_hop = function_hop net right;
}
