-- OUTCOMES COINCIDE: any two outcomes that the contract of a public function allows are equal. An outcome is the answer and the final content of
-- every slice lent for writing; each contract stands here as src/*.rt states it. (But for `SameSlices`, which only says that no slice is exchanged.)
use Prim.Native.Nat.{ℕ}
use mathlib.Core.Path.{◌≡◌, sym, ◌∙◌}
use mathlib.Core.List.{List}
use mathlib.Core.Bool.{Bool}
use lib.ListN.{get_or}
use Rattle.std.specs.Prelude.{Result, Option}
use Rattle.refusal.specs.declared.Refusal.{Refusal}
use Rattle.refusal.specs.Numbers.{refusal_number, IsNumberOf}
use Rattle.stacks.specs.Answers.{count_of, number_of, height_of, out_of}
use Rattle.functions.specs.Answers.{moved_of, applied_of, inverse_of}
use Rattle.functions.specs.Parts.{kind_number, IsKindNumber, IsFunctionOf}
use Rattle.functions.specs.declared.Kind.{Kind}
use Rattle.bits.specs.Bits as bits
use Rattle.words.specs.Words as words
use Rattle.words.specs.declared.Found.{Found}
use Rattle.header.specs.Answers.{header_of}
use Rattle.header.specs.declared.Header.{Header}
use Rattle.headers.specs.Answers as headers
use Rattle.headers.specs.declared.Read.{Read}
use Rattle.headers.specs.declared.Unread.{Unread}
use Rattle.network.specs.Network.{Network}
use Rattle.network.specs.Network as networks
use Rattle.network.specs.Answers.{checked_of}
use Rattle.gateways.specs.Gateways.{word_at, grid_of}
use Rattle.gateways.specs.Gateways as gateways
use Rattle.hear.specs.Hearing.{Gateway, Message, Rows}
use Rattle.hear.specs.Answers.{Hears}
use Rattle.hear.specs.declared.Gateway.{Gateway as HandedGateway}
use Rattle.table.specs.Table.{Table}
use Rattle.table.specs.Answers.{ready_of, fresh_answer, fresh_table, count_answer, first_answer, deliver_answer, deliver_table}
use Rattle.table.specs.Run.{Runs, run_of}
use Rattle.table.specs.declared.Message.{Message as TableMessage}
use Rattle.step.specs.Step.{Stepped}
use Rattle.step.specs.InNetwork.{gateway_at}
use Rattle.packet.specs.Packet.{packet_of}
use Rattle.packet.specs.declared.Packet.{Packet}
use Rattle.forward.specs.Answers.{look_of, lookup_of}
use Rattle.carry.specs.Carry.{Carries, carry_of}
use Rattle.forward.specs.declared.Look.{Look}

-- what a contract allows is one outcome: of functions that only answer, and of functions that also write
abbrev pub One : {A : Type 0} → (A → Type 0) → Type 0
One {A} Allows = (x y : A) → Allows x → Allows y → x ≡ y

abbrev pub OneBoth : {A B : Type 0} → (A → B → Type 0) → Type 0
OneBoth {A} {B} Allows = (x y : A) (u v : B) → Allows x u → Allows y v → (x ≡ y) × (u ≡ v)

-- THE LAW: a contract that is an equation with a definition allows one outcome
pub one : {A : Type 0} (d : A) → One (λ x. x ≡ d)
one d x y p q = p ∙ sym q

pub both : {A B : Type 0} (d : A) (e : B) → OneBoth (λ x u. (x ≡ d) × (u ≡ e))
both d e x y u v p q = (p.0 ∙ sym q.0, p.1 ∙ sym q.1)

-- ---- refusal
pub refusal_to_u32 : (refusal : Refusal) → One (IsNumberOf refusal)
refusal_to_u32 refusal = one (refusal_number refusal)

-- ---- stacks and functions
pub stack_count : (p h : ℕ) → One (λ (r : Result ℕ Refusal). r ≡ count_of p h)
stack_count p h = one (count_of p h)

pub number_of_lem : (p h : ℕ) (stack : List ℕ) → One (λ (r : Result ℕ Refusal). r ≡ number_of p h stack)
number_of_lem p h stack = one (number_of p h stack)

pub stack_of : (p h number : ℕ) (out : List ℕ) → OneBoth (λ (r : Result ℕ Refusal) (after : List ℕ). (r ≡ height_of p h number out)
    × (after ≡ out_of p h number out))
stack_of p h number out = both (height_of p h number out) (out_of p h number out)

pub moved : (p most f number : ℕ) → One (λ (r : Result (Option ℕ) Refusal). r ≡ moved_of p most f number)
moved p most f number = one (moved_of p most f number)

pub applied : (p h f number : ℕ) → One (λ (r : Result (Option ℕ) Refusal). r ≡ applied_of p h f number)
applied p h f number = one (applied_of p h f number)

pub inverse_of_lem : (p f : ℕ) → One (λ (r : Result ℕ Refusal). r ≡ inverse_of p f)
inverse_of_lem p f = one (inverse_of p f)

pub kind_to_usize : (kind : Kind) → One (IsKindNumber kind)
kind_to_usize kind = one (kind_number kind)

pub function_from_usize : (f : ℕ) → One (IsFunctionOf f)
function_from_usize f x y p q = p ∙ sym q

-- ---- headers
pub header_at : (packet : List ℕ) (s announced e : ℕ) → One (λ (r : Result Header Refusal). r ≡ header_of packet s announced e)
header_at packet s announced e = one (header_of packet s announced e)

pub read_stack : (h : ℕ) (packet out : List ℕ) → OneBoth (λ (r : Result Read Unread) (after : List ℕ). (r ≡ headers.read_of h packet out)
    × (after ≡ headers.out_of h packet out))
read_stack h packet out = both (headers.read_of h packet out) (headers.out_of h packet out)

-- ---- bits and words
pub has : (word v : ℕ) → One (λ (r : Bool). r ≡ bits.has word v)
has word v = one (bits.has word v)

pub without : (word v : ℕ) → One (λ (r : ℕ). r ≡ bits.without word v)
without word v = one (bits.without word v)

pub with_all_lem : (word more : ℕ) → One (λ (r : ℕ). r ≡ bits.with_all word more)
with_all_lem word more = one (bits.with_all word more)

pub with_one_lem : (word v : ℕ) → One (λ (r : ℕ). r ≡ bits.with_one word v)
with_one_lem word v = one (bits.with_one word v)

pub lowest : (word : ℕ) → One (λ (r : ℕ). r ≡ bits.lowest word)
lowest word = one (bits.lowest word)

pub ones : (word : ℕ) → One (λ (r : ℕ). r ≡ bits.ones_of word)
ones word = one (bits.ones_of word)

pub ones_in : (list : List ℕ) → One (λ (r : ℕ). r ≡ words.ones_answer list)
ones_in list = one (words.ones_answer list)

pub first_in : (list : List ℕ) (from to : ℕ) → One (λ (r : Option Found). r ≡ words.first_between from to list)
first_in list from to = one (words.first_between from to list)

-- ---- network
pub entry : (list : List ℕ) (at : ℕ) → One (λ (r : ℕ). r ≡ get_or list at 0)
entry list at = one (get_or list at 0)

pub link : (net : Network) (u w : ℕ) → One (λ (r : ℕ). r ≡ networks.link net u w)
link net u w = one (networks.link net u w)

pub neighbours : (net : Network) (node : ℕ) → One (λ (r : ℕ). r ≡ networks.neighbours net node)
neighbours net node = one (networks.neighbours net node)

pub check : (net : Network) → One (λ (r : Result ℕ Refusal). r ≡ checked_of net)
check net = one (checked_of net)

-- ---- gateways
pub word_at_lem : (n p : ℕ) (functions : List ℕ) (node kind a b : ℕ) → One (λ (r : ℕ). r ≡ word_at n p functions node kind a b)
word_at_lem n p functions node kind a b = one (word_at n p functions node kind a b)

pub word : (net : Network) (node f : ℕ) → One (λ (r : ℕ). r ≡ gateways.word net node f)
word net node f = one (gateways.word net node f)

pub grid : (n p : ℕ) (functions : List ℕ) (node kind : ℕ) → One (λ (r : List (List ℕ)). r ≡ grid_of n p functions node kind)
grid n p functions node kind = one (grid_of n p functions node kind)

pub accepts : (net : Network) (node x : ℕ) → One (λ (r : Bool). r ≡ gateways.accepts net node x)
accepts net node x = one (gateways.accepts net node x)

-- ---- hear
pub hear : (g : Gateway) (m : Message) (rows : Rows) → OneBoth (Hears g m rows)
hear g m rows x y u v p q = (
  p.answers ∙ sym q.answers,
  λ i. record {
    costs = (p.costs ∙ sym q.costs) i;
    ways = (p.ways ∙ sym q.ways) i;
    waiting = (p.waiting ∙ sym q.waiting) i;
  },
)

-- ---- step
pub gateway_at_lem : (net : Network) (most node : ℕ) → One (λ (r : HandedGateway). r ≡ gateway_at net most node)
gateway_at_lem net most node = one (gateway_at net most node)

pub step : (n : ℕ) (g : Gateway) (link : ℕ) (t : Table) (Q U D N : ℕ) → OneBoth (Stepped n g link t Q U D N)
step n g link t Q U D N x y u v p q = (p.answers ∙ sym q.answers, p.table ∙ sym q.table)

-- ---- table
pub ready : (net : Network) (costs ways waits : ℕ) → One (λ (r : Result ℕ Refusal). r ≡ ready_of net costs ways waits)
ready net costs ways waits = one (ready_of net costs ways waits)

module _ (net : Network) (t : Table) where
  pub fresh : OneBoth (λ (r : Result ℕ Refusal) (after : Table). (r ≡ fresh_answer net t) × (after ≡ fresh_table net t))
  fresh = both (fresh_answer net t) (fresh_table net t)

  pub count : One (λ (r : Result ℕ Refusal). r ≡ count_answer net t)
  count = one (count_answer net t)

  pub first_waiting : One (λ (r : Result (Option TableMessage) Refusal). r ≡ first_answer net t)
  first_waiting = one (first_answer net t)

  pub deliver : (Q U D N : ℕ) → OneBoth (λ (r : Result ℕ Refusal) (after : Table). (r ≡ deliver_answer net t Q U D N) × (after ≡ deliver_table net t Q U D N))
  deliver Q U D N = both (deliver_answer net t Q U D N) (deliver_table net t Q U D N)

  pub run : (limit : ℕ) → OneBoth (Runs (run_of net limit t))
  run limit x y u v p q = (
    λ i. record {
      done = (p.done ∙ sym q.done) i;
      offers = (p.offers ∙ sym q.offers) i;
      refused = (p.refused ∙ sym q.refused) i;
    },
    p.table ∙ sym q.table,
  )

  -- ---- packet
  pub begin : (U D : ℕ) (stack : List ℕ) → One (λ (r : Result Packet Refusal). r ≡ packet_of net t U D stack)
  begin U D stack = one (packet_of net t U D stack)

  -- ---- forward
  pub look : (s U D N : ℕ) → One (λ (r : Result Look Refusal). r ≡ look_of net s t.cost t.way U D N)
  look s U D N = one (look_of net s t.cost t.way U D N)

  pub lookup : (U D : ℕ) (stack : List ℕ) → One (λ (r : Result Look Refusal). r ≡ lookup_of net t U D stack)
  lookup U D stack = one (lookup_of net t U D stack)

  -- ---- carry
  pub carry : (U D : ℕ) (stack : List ℕ) (limit : ℕ) → One (Carries (carry_of net t U D stack limit))
  carry U D stack limit x y p q = λ i. record {
    hops = (p.hops ∙ sym q.hops) i;
    spent = (p.spent ∙ sym q.spent) i;
    node = (p.node ∙ sym q.node) i;
    number = (p.number ∙ sym q.number) i;
    refused = (p.refused ∙ sym q.refused) i;
  }
