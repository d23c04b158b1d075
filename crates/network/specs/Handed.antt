-- The network that a call is handed, as the definitions see it: its slices as lists.
use Rattle.network.specs.Network.{Network, network_of}
use Rattle.network.specs.declared.Network.{Network as Handed}

abbrev pub network : Handed → Network
network net = network_of net.n net.p net.h net.links.now net.functions.now
