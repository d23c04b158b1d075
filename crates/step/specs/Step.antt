-- One delivery to a gateway, for every input: the contract of `step`. The part "Deliver" of the specification, from the table's side.
use Rattle.std.specs.Prelude.{ℕ, ◌*◌, ◌≡◌, Bool, ◌&&◌, length, leb, eqb, Result}
use Rattle.refusal.specs.declared.Refusal.{Refusal}
use Rattle.lists.specs.Lists.{unless}
use Rattle.hear.specs.Hearing.{Gateway}
use Rattle.table.specs.Table.{Table, delivered_in, offers_in}
use Rattle.table.specs.Answers.{message_refusal_in, answer_by, table_by}

-- Where this fails refusal 3 is given, for every size or length with which the rows cannot be counted: n nodes, p protocols and s stacks
-- within their bounds, and three slices of n x n x s rows.
unfoldable pub ok_rows : ℕ → ℕ → ℕ → ℕ → ℕ → ℕ → Bool
ok_rows n p s costs ways waits =
    leb 1 p && (leb p 8 && (leb n 32 && (leb s 16384
    && (eqb costs (n * (n * s)) && (eqb ways (n * (n * s)) && eqb waits (n * (n * s)))))))

-- the first refusal that applies, and 0 where none does; the link back costs `back`
unfoldable pub refusal_in : (n p s back : ℕ) (t : Table) (Q U D N : ℕ) → ℕ
refusal_in n p s back t Q U D N =
    unless (ok_rows n p s (length t.cost) (length t.way) (length t.waiting)) 3 (message_refusal_in n s back t Q U D N)

-- the message from Q to U, which is the gateway g, about D and the stack number N
module _ (n : ℕ) (g : Gateway) (back : ℕ) (t : Table) (Q U D N : ℕ) where
  abbrev pub refusal : ℕ
  refusal = refusal_in n g.p g.most back t Q U D N

  -- what `step` answers, and the table that it leaves
  abbrev pub answer_of : Result ℕ Refusal
  answer_of = answer_by refusal (offers_in n g back t Q U D N)

  unfoldable pub table_after : Table
  table_after = table_by refusal (delivered_in n g back t Q U D N) t

  -- both
  pub record Stepped (answer : Result ℕ Refusal) (after : Table) : Type 0 where
    pub answers : answer ≡ answer_of
    pub table : after ≡ table_after
