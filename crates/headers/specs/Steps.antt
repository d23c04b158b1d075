-- What a private function answers on the way; no public contract cites it.
use Rattle.std.specs.Prelude.{ℕ, Result, Ok, Err}
use Rattle.stacks.specs.Stacks.{number}
use Rattle.refusal.specs.declared.Refusal.{Refusal}
use Rattle.refusal.specs.Numbers.{named}
use Rattle.header.specs.declared.Header.{Header}
use Rattle.headers.specs.Chains.{Reading, found, refused}
use Rattle.headers.specs.declared.Unread.{Unread}
use Rattle.headers.specs.declared.chain.Chained.{Chained}

abbrev pub unread : Refusal → ℕ → ℕ → Unread
unread refusal header start = record { refusal = refusal; header = header; start = start }

-- header number k from outside, which starts at s
abbrev pub judged_of : ℕ → ℕ → Result Header Refusal → Result Header Unread
judged_of k s (Ok header) = Ok header
judged_of k s (Err refusal) = Err (unread refusal k s)

-- a reading with the stack's number in the place of the stack
abbrev pub chained_of : Reading → Result Chained Unread
chained_of (found stack from to) = Ok (record { number = number 2 stack; from = from; to = to })
chained_of (refused refusal header start) = Err (unread (named refusal) header start)
