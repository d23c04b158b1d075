-- What the promises speak of: routes, tables that can come to be, and packets that are carried on. In the words of the specification.
use Rattle.std.specs.Prelude.{ℕ, suc, ◌+◌, ◌-◌, ◌*◌, ◌≤◌, ◌≡◌, List, [], ◌∷◌, true, Ok}
use Rattle.stacks.specs.Stacks.{ok_stack, number}
use Rattle.functions.specs.Functions.{apply, becomes}
use Rattle.words.specs.Words.{ones_in}
use Rattle.network.specs.Network.{Network, Numbers16, refusal_of, present}
use Rattle.gateways.specs.Gateways.{can, weight, accepts}
use Rattle.table.specs.Table.{Table, no_row, rows_each, fresh}
use Rattle.table.specs.Answers.{deliver_refusal, deliver_table}
use Rattle.table.specs.Run.{run_of}
use Rattle.carry.specs.Carry.{Journey}
use Rattle.forward.specs.Forward.{forward}
use Rattle.forward.specs.Answers.{lookup_of}
use Rattle.forward.specs.declared.Look.{Look}

-- a network that no call refuses, of 16-bit numbers as the slices hold them
pub record Network16 (net : Network) : Type 0 where
  pub valid : refusal_of net ≡ 0
  pub numbers : Numbers16 net

-- limits together
abbrev pub together : List ℕ → ℕ
together [] = 0
together (k ∷ limits) = k + together limits

module _ (net : Network) where
  -- "A route from U with stack H to D: zero or more hops. Each hop applies a function the node has, applicable to the stack, and crosses a
  -- present link. It ends at D with a stack of height 1 that D accepts. Every stack on it, the first included, has height at most h. Its
  -- cost is the sum of its hops' costs. Zero hops cost 0."
  pub data Route (D : ℕ) : ℕ → List ℕ → ℕ → Type 0 where
    arrived : (x : ℕ) → accepts net D x ≡ true → Route D D (x ∷ []) 0
    hop : (U W f cost : ℕ) (stack result : List ℕ) → can net U f ≡ true → present net U W ≡ true → ok_stack net.p net.h stack ≡ true
        → apply net.h f stack ≡ becomes result → Route D W result cost → Route D U stack (weight net U f W + cost)

  -- "Start from its fresh table and deliver waiting messages in any order, refused calls among them." (A refused call leaves the table.)
  pub data Reached : Table → Type 0 where
    begun : Reached (fresh net)
    delivery : {t : Table} (Q U D N : ℕ) → Reached t → Reached (deliver_table net t Q U D N)

  -- so many deliveries of waiting messages, in any order, since the fresh table
  pub data Done : ℕ → Table → Type 0 where
    begun : Done 0 (fresh net)
    delivery : {k : ℕ} {t : Table} (Q U D N : ℕ) → Done k t → deliver_refusal net t Q U D N ≡ 0 → Done (suc k) (deliver_table net t Q U D N)

  -- a bound for them: about each destination there are n x S rows, whose costs together fall at most n x S x no_row times, and up to the next
  -- fall there are at most as many deliveries as messages can wait about it
  abbrev pub most_deliveries : ℕ
  most_deliveries = net.n * (rows_each net * no_row * suc (rows_each net * net.n) + rows_each net * net.n)

  -- calls of run in a row, with these limits
  abbrev pub rounds : List ℕ → Table → Table
  rounds [] t = t
  rounds (k ∷ limits) t = rounds limits (run_of net k t).table

  -- a carry's outcome: "it arrives with a single header its destination accepts, having spent at most c"
  pub record Arrives (D c : ℕ) (j : Journey) : Type 0 where
    pub unrefused : j.refused ≡ 0
    pub there : j.node ≡ D
    pub header : (x : ℕ) × (accepts net D x ≡ true) × (j.number ≡ number net.p (x ∷ []))
    pub paid : j.spent ≤ c

  -- the tables that can come after one
  pub data Later (t : Table) : Table → Type 0 where
    now : Later t t
    delivery : {u : Table} (Q U D N : ℕ) → Later t u → Later t (deliver_table net u Q U D N)

  -- "Once no message waits"
  abbrev pub Quiet : Table → Type 0
  Quiet t = ones_in t.waiting ≡ 0

  -- "it can be carried on hop by hop, with more deliveries between the hops: each hop is one its gateway may perform, the stack stays within
  -- the height bound, no lookup refuses, and it arrives with a single header its destination accepts, having spent at most c"
  pub data Carried (D : ℕ) : Table → ℕ → List ℕ → ℕ → Type 0 where
    arrived : {t : Table} {c : ℕ} (x : ℕ) → lookup_of net t D D (x ∷ []) ≡ Ok Look.Delivered → accepts net D x ≡ true → Carried D t D (x ∷ []) c
    onward : {t : Table} {U c : ℕ} {stack : List ℕ} (W f cost : ℕ) (result : List ℕ)
        → lookup_of net t U D stack ≡ forward W f (number net.p result) cost
        → can net U f ≡ true → present net U W ≡ true → apply net.h f stack ≡ becomes result → ok_stack net.p net.h result ≡ true
        → weight net U f W ≤ c
        → ((u : Table) → Later t u → Carried D u W result (c - weight net U f W))
        → Carried D t U stack c
