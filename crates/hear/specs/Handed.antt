-- The gateway and the message that `hear` is handed, as the definitions see them.
use Rattle.hear.specs.Hearing.{Gateway, Message}
use Rattle.hear.specs.Answers.{gateway_of, message_of}
use Rattle.hear.specs.declared.Gateway.{Gateway as HandedGateway}
use Rattle.hear.specs.declared.Message.{Message as HandedMessage}

abbrev pub gateway_seen : HandedGateway → Gateway
gateway_seen g = gateway_of g.p g.most g.neighbours g.convert g.wrap g.unwrap

abbrev pub message_seen : HandedMessage → Message
message_seen m = message_of m.sender m.destination m.number m.cost m.link
