-- OUTCOMES COINCIDE, for the calls that C makes and for the tally: any two outcomes that a contract allows are equal.
use Prim.Native.Nat.{ℕ}
use mathlib.Core.Path.{◌≡◌, sym, ◌∙◌}
use mathlib.Core.List.{List}
use Rattle.std.specs.Prelude.{Result}
use Rattle.refusal.specs.declared.Refusal.{Refusal}
use Rattle.stacks.specs.Answers.{count_of, number_of, height_of, out_of}
use Rattle.functions.specs.Answers.{applied_of, inverse_of}
use Rattle.network.specs.Network.{Network}
use Rattle.table.specs.Table.{Table}
use Rattle.table.specs.Answers.{fresh_answer, fresh_table, count_answer, first_answer, deliver_answer, deliver_table}
use Rattle.table.specs.declared.Ran.{Ran}
use Rattle.forward.specs.Answers.{lookup_of}
use Rattle.carry.specs.Carry.{carry_of}
use Rattle.tally.specs.Tally.{added_to, after_delivery, after_run}
use Rattle.tally.specs.declared.Tally.{Tally}
use Rattle.packing.specs.Packing.{pack_result, pack_refused, pack_end}
use Rattle.stack_exports.specs.Packing.{pack_answer, pack_after}
use Rattle.table_exports.specs.Packing.{pack_counted, pack_first}
use Rattle.deliver_exports.specs.Packing.{pack_delivered}
use Rattle.deliver_exports.specs.Run.{RunExported}
use Rattle.packet_exports.specs.Packing.{pack_look}
use Rattle.packet_exports.specs.Four.{FourExported, carry_four, ReadExported}
use Rattle.coincide.proofs.Functions.{One, OneBoth, one, both}

-- ---- packing, of a value of any type with a number for each, and of an answer that is such a value or a refusal
pub pack : {A : Type 0} (number : A → ℕ) (value : A) → One (λ (r : ℕ). r ≡ number value)
pack number value = one (number value)

pub packed : {A : Type 0} (number : A → ℕ) (answer : Result A Refusal) → One (λ (r : ℕ). r ≡ pack_result number answer)
packed number answer = one (pack_result number answer)

pub packed_refused : (refusal : ℕ) → One (λ (r : ℕ). r ≡ pack_refused refusal)
packed_refused refusal = one (pack_refused refusal)

pub packed_end : (refusal : ℕ) → One (λ (r : ℕ). r ≡ pack_end refusal)
packed_end refusal = one (pack_end refusal)

-- ---- stacks
pub stack_count : (p h : ℕ) → One (λ (r : ℕ). r ≡ pack_answer (count_of p h))
stack_count p h = one (pack_answer (count_of p h))

pub number_of_lem : (p h : ℕ) (stack : List ℕ) → One (λ (r : ℕ). r ≡ pack_answer (number_of p h stack))
number_of_lem p h stack = one (pack_answer (number_of p h stack))

pub stack_of : (p h number : ℕ) (out : List ℕ) → OneBoth (λ (r : ℕ) (after : List ℕ). (r ≡ pack_answer (height_of p h number out))
    × (after ≡ out_of p h number out))
stack_of p h number out = both (pack_answer (height_of p h number out)) (out_of p h number out)

pub applied : (p h f number : ℕ) → One (λ (r : ℕ). r ≡ pack_after (applied_of p h f number))
applied p h f number = one (pack_after (applied_of p h f number))

pub inverse_of_lem : (p f : ℕ) → One (λ (r : ℕ). r ≡ pack_answer (inverse_of p f))
inverse_of_lem p f = one (pack_answer (inverse_of p f))

module _ (net : Network) (t : Table) where
  -- ---- table
  pub fresh : OneBoth (λ (r : ℕ) (after : Table). (r ≡ pack_counted (fresh_answer net t)) × (after ≡ fresh_table net t))
  fresh = both (pack_counted (fresh_answer net t)) (fresh_table net t)

  pub count : One (λ (r : ℕ). r ≡ pack_counted (count_answer net t))
  count = one (pack_counted (count_answer net t))

  pub first_waiting : One (λ (r : ℕ). r ≡ pack_first (first_answer net t))
  first_waiting = one (pack_first (first_answer net t))

  pub deliver : (Q U D N : ℕ) → OneBoth (λ (r : ℕ) (after : Table). (r ≡ pack_delivered (deliver_answer net t Q U D N)) × (after ≡ deliver_table net t Q U D N))
  deliver Q U D N = both (pack_delivered (deliver_answer net t Q U D N)) (deliver_table net t Q U D N)

  -- the answer, and the table and the caller's two numbers
  pub run : (limit : ℕ) (answer : List ℕ) → OneBoth (λ (r : ℕ) (after : Table × List ℕ). RunExported net limit t answer r after.0 after.1)
  run limit answer x y u v p q = (
    p.answers ∙ sym q.answers,
    λ i. ((p.table ∙ sym q.table) i, (p.written ∙ sym q.written) i),
  )

  -- ---- forward
  pub lookup : (U D : ℕ) (stack : List ℕ) → One (λ (r : ℕ). r ≡ pack_look (lookup_of net t U D stack))
  lookup U D stack = one (pack_look (lookup_of net t U D stack))

  pub carry : (U D : ℕ) (stack : List ℕ) (limit : ℕ) (answer : List ℕ) → OneBoth (FourExported (carry_four (carry_of net t U D stack limit)) answer)
  carry U D stack limit answer x y u v p q = (p.answers ∙ sym q.answers, p.written ∙ sym q.written)

-- ---- headers: the answer, and the buffer and the caller's four numbers
pub read_stack : (h : ℕ) (packet out answer : List ℕ) → OneBoth (λ (r : ℕ) (after : List ℕ × List ℕ). ReadExported h packet out answer r after.0 after.1)
read_stack h packet out answer x y u v p q = (
  p.numbered.answers ∙ sym q.numbered.answers,
  λ i. ((p.buffer ∙ sym q.buffer) i, (p.numbered.written ∙ sym q.numbered.written) i),
)

-- ---- tally
pub added : (t : Tally) (deliveries offers refused : ℕ) → One (λ (r : Tally). r ≡ added_to t deliveries offers refused)
added t deliveries offers refused = one (added_to t deliveries offers refused)

pub after_delivery_lem : {E : Type 0} (t : Tally) (answer : Result ℕ E) → One (λ (r : Tally). r ≡ after_delivery t answer)
after_delivery_lem t answer = one (after_delivery t answer)

pub after_run_lem : {E : Type 0} (t : Tally) (answer : Ran E) → One (λ (r : Tally). r ≡ after_run t answer)
after_run_lem t answer = one (after_run t answer)

pub tally_add : (t : Tally) (deliveries offers refused : ℕ) → One (λ (after : Tally). after ≡ added_to t deliveries offers refused)
tally_add = added
