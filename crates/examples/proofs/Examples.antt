-- The examples of the specification, by computation.
use mathlib.Core.Path.{refl}
use Rattle.lists.specs.Lists.{tabulate, every, some, first_below, how_many}
use Rattle.relax.specs.Graph.{wins}
use Rattle.stacks.specs.Stacks.{ok_size, ok_number, ok_stack}
use Rattle.functions.specs.Functions.{ok_function}
use Rattle.functions.specs.Answers.{ok_move}
use Rattle.bits.specs.Bits.{has, without, with_all, word_of, lowest, ones_of}
use Rattle.words.specs.Words.{ones_in, first_set_from, first_in}
use Rattle.network.specs.Network.{is_node, link_at, present, neighbours_at, ok_sizes, ok_links, refusal_of}
use Rattle.gateways.specs.Gateways.{word_at, can, price, weight, receives_at, accepts}
use Rattle.hear.specs.Hearing.{leads_by, leader, offer, takes, cost_at, way_at, waiting_at, heard, taken}
use Rattle.table.specs.Table.{fresh, home, rows_in, with_rows_in, cleared_at, delivered, offers_taken}
use Rattle.table.specs.Answers.{ok_lengths, refusal_by, refusal, ok_message_in, waits_in, ok_sender_in, message_refusal_in, deliver_refusal, deliver_table}
use Rattle.table.specs.Run.{run_of}
use Rattle.forward.specs.Forward.{ok_row, look_at}
use Rattle.packet.specs.Packet.{ok_packet}
use Rattle.carry.specs.Carry.{carry_of}
use Rattle.examples.specs.Examples.{Examples}

pub examples : Examples
unfolding tabulate every some first_below how_many wins ok_size ok_number ok_stack ok_function ok_move has without with_all word_of lowest ones_of ones_in
    first_set_from first_in is_node link_at present neighbours_at word_at receives_at accepts ok_sizes ok_links refusal_of can price weight leads_by leader
    offer takes cost_at way_at waiting_at heard taken fresh home rows_in with_rows_in cleared_at delivered offers_taken ok_lengths refusal_by refusal
    ok_message_in waits_in ok_sender_in message_refusal_in deliver_refusal deliver_table run_of ok_row look_at ok_packet carry_of
examples = record {
  P1 = (refl, refl);
  P2 = (refl, refl);
  P3 = refl;
  P4 = (refl, refl);
  P5 = refl;
  P6 = (refl, refl, refl);
  P7 = (refl, refl);
  P8 = (refl, refl, refl);
  P9 = (refl, refl);
  P10 = refl;
  P11 = refl;
  P12 = (refl, refl);
}
