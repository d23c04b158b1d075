-- What private functions answer on the way; no public contract cites it.
use Rattle.std.specs.Prelude.{◌≡◌, Result}
use Rattle.carry.specs.declared.Carried.{Carried}
use Rattle.headers.specs.declared.Read.{Read}
use Rattle.headers.specs.declared.Unread.{Unread}
use Rattle.packet_exports.specs.Four.{read_four}
use Rattle.packet_exports.specs.declared.four.Four.{Four}

-- what carry answers, as four numbers and the refusal
abbrev pub four_of : Carried → Four
four_of c = record { first = c.hops; second = c.spent; third = c.node; fourth = c.number; refused = c.refused }

-- the four that conversions give
abbrev pub IsCarried : Carried → Four → Type 0
IsCarried c four = four ≡ four_of c

abbrev pub IsRead : Result Read Unread → Four → Type 0
IsRead answer four = four ≡ read_four answer
