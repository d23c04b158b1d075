-- What `ready` answers at each test, and what its answer tells the calls that start from it.
use Prim.Native.Nat.{ℕ, ◌*◌, ◌≤◌}
use native.Mathlib.Nat.{mul-le-mul, mul-le-mul_right}
use native.Mathlib.Omega.{arith}
use mathlib.Core.Path.{◌≡◌, refl, sym, ap, ◌∙◌}
use mathlib.Core.Bool.{Bool, true, false, cond, ◌&&◌, true≢false}
use lib.ListN.{length}
use lib.Dec.{eqb}
use borrow.Author.Tests.{eqb-true, eq-eqb, ne_eqb}
use Rattle.lists.proofs.Tests.{both}
use Rattle.stacks.proofs.Tests.{sizes}
use Rattle.stacks.proofs.Count.{count_some}
use Rattle.network.specs.Network.{Network, stacks, refusal_of}
use Rattle.network.specs.Answers.{checked_of}
use Rattle.std.specs.Prelude.{Result, Ok, Err}
use Rattle.refusal.specs.declared.Refusal.{Refusal}
use Rattle.refusal.specs.Numbers.{named}
use Rattle.refusal.proofs.Answers.{answered_ok, answered_err}
use Rattle.network.proofs.Laws.{checked_valid, checked_refused, valid}
use Rattle.table.specs.Table.{Table, Sized, rows_each, rows_all}
use Rattle.table.specs.Answers.{ok_lengths, refusal_by, refusal, ready_of}

-- ---- at each test of `ready`
module _ (net : Network) (costs ways waits s : ℕ) (found : checked_of net ≡ Ok s) where
  right : refusal_of net ≡ 0
  right = (checked_valid net s found).0

  rows_are : net.n * (net.n * s) ≡ rows_all net
  rows_are = ap (λ (k : ℕ). net.n * (net.n * k)) (checked_valid net s found).1

  -- the lengths as the code tests them
  abbrev long : Bool
  long = eqb costs (net.n * (net.n * s)) && (eqb ways (net.n * (net.n * s)) && eqb waits (net.n * (net.n * s)))

  lengths_are : long ≡ ok_lengths net costs ways waits
  unfolding ok_lengths
  lengths_are = ap (λ (k : ℕ). eqb costs k && (eqb ways k && eqb waits k)) rows_are

  pub not_long : long ≡ false → Err Refusal.Table ≡ ready_of net costs ways waits
  unfolding refusal_by
  not_long short = simp (eq-eqb (refusal_of net) 0 right, sym lengths_are ∙ short)

  pub all_long : long ≡ true → Ok s ≡ ready_of net costs ways waits
  unfolding refusal_by
  all_long good = simp (eq-eqb (refusal_of net) 0 right, sym lengths_are ∙ good) (ap Ok (checked_valid net s found).1)

pub not_ready : (net : Network) (costs ways waits : ℕ) (r : Refusal) → checked_of net ≡ Err r → ◌≡◌ {A = Result ℕ Refusal} (Err r)
    (ready_of net costs ways waits)
unfolding refusal_by
not_ready net costs ways waits r found =
    let a = checked_refused net r found in
    simp (ne_eqb (refusal_of net) 0 (λ (e : refusal_of net ≡ 0). omega (arith, e, a.1))) (ap Err a.0)

-- n, S and the rows are small enough to be worked out
pub record Small (net : Network) (s : ℕ) : Type 0 where
  pub few : net.n ≤ 32
  pub each : net.n * s ≤ 16384
  pub all : net.n * (net.n * s) ≤ 524288

pub small : (net : Network) (s : ℕ) → checked_of net ≡ Ok s → Small net s
small net s found =
    let w = valid net (checked_valid net s found).0 in
    let e = (checked_valid net s found).1 in
    let each : net.n * s ≤ 16384 = omega (arith, w.room, ap (λ (k : ℕ). net.n * k) e) in
    record { few = w.few; each = each; all = omega (arith, mul-le-mul w.few each) }

-- ---- what the calls know
pub record Ready (net : Network) (t : Table) (s : ℕ) : Type 0 where
  pub network : refusal_of net ≡ 0
  pub nothing : refusal net t ≡ 0
  pub stacks_are : s ≡ stacks net
  pub cost_long : length t.cost ≡ rows_all net
  pub way_long : length t.way ≡ rows_all net
  pub waiting_long : length t.waiting ≡ rows_all net

pub is_ready : (net : Network) (t : Table) (s : ℕ) → ready_of net (length t.cost) (length t.way) (length t.waiting) ≡ Ok s → Ready net t s
unfolding ok_lengths refusal refusal_by
is_ready net t s e =
    let d = answered_ok (refusal net t) (stacks net) s (sym e) in
    go (eqb (refusal_of net) 0) refl (ok_lengths net (length t.cost) (length t.way) (length t.waiting)) refl d.0 d.1
  where
    go : (a : Bool) → eqb (refusal_of net) 0 ≡ a → (b : Bool) → ok_lengths net (length t.cost) (length t.way) (length t.waiting) ≡ b
        → cond a (cond b 0 3) (refusal_of net) ≡ 0 → s ≡ stacks net → Ready net t s
    go true u true v d is =
        let l = both (eqb (length t.cost) (rows_all net)) (eqb (length t.way) (rows_all net) && eqb (length t.waiting) (rows_all net)) v in
        let m = both (eqb (length t.way) (rows_all net)) (eqb (length t.waiting) (rows_all net)) l.1 in
        record {
          network = eqb-true (refusal_of net) 0 u;
          nothing = simp (u, v);
          stacks_are = is;
          cost_long = eqb-true (length t.cost) (rows_all net) l.0;
          way_long = eqb-true (length t.way) (rows_all net) m.0;
          waiting_long = eqb-true (length t.waiting) (rows_all net) m.1;
        }
    go true u false v d is = absurd (omega arith)
    go false u b v d is = absurd (true≢false (sym (eq-eqb (refusal_of net) 0 d) ∙ u))

pub is_refused : (net : Network) (t : Table) (r : Refusal) → ready_of net (length t.cost) (length t.way) (length t.waiting) ≡ Err r
    → (r ≡ named (refusal net t)) × (eqb (refusal net t) 0 ≡ false)
unfolding refusal
is_refused net t r e =
    let a = answered_err (refusal_by net (length t.cost) (length t.way) (length t.waiting)) (stacks net) r (sym e) in
    (a.1, a.0)

pub sized_so : (net : Network) (t : Table) (s : ℕ) → Ready net t s → Sized net t
sized_so net t s r = record { costs = r.cost_long; ways = r.way_long; waits = r.waiting_long }

-- a call that is refused before it begins, and one that is not
pub begun : {A : Type 0} (net : Network) (t : Table) (s : ℕ) → Ready net t s → (x y : A) → cond (eqb (refusal net t) 0) x y ≡ x
begun net t s r x y = simp (eq-eqb (refusal net t) 0 r.nothing)

pub stopped : {A : Type 0} (net : Network) (t : Table) → eqb (refusal net t) 0 ≡ false → (x y : A) → cond (eqb (refusal net t) 0) x y ≡ y
stopped net t off x y = simp off

-- there are at most 524,288 rows
pub rows_few : (net : Network) (t : Table) (s : ℕ) → Ready net t s → (length t.waiting ≤ 524288) × (rows_each net ≤ 16384) × (rows_all net ≤ 524288)
rows_few net t s r =
    let w = valid net r.network in
    let all : rows_all net ≤ 32 * 16384 = mul-le-mul w.few w.room in
    (omega (arith, r.waiting_long), w.room, omega arith)

-- what is divided by is not 0
pub record Divides (net : Network) (s : ℕ) : Type 0 where
  pub nodes : 1 ≤ net.n
  pub some : 1 ≤ s
  pub few : s ≤ 16384
  pub each : net.n * s ≤ 16384

pub divides : (net : Network) (t : Table) (s : ℕ) → Ready net t s → Divides net s
divides net t s r =
    let w = valid net r.network in
    let z = sizes net.p net.h w.size in
    let each : net.n * s ≤ 16384 = omega (arith, w.room, ap (λ (k : ℕ). net.n * k) r.stacks_are) in
    record {
      nodes = w.nodes;
      few = omega (arith, mul-le-mul_right s w.nodes);
      some = omega (arith, r.stacks_are, z.some, count_some net.p net.h z.high);
      each = each;
    }

-- the rows of a ready table, counted with the s that is at hand
pub rows_at_hand : (net : Network) (t : Table) (s : ℕ) → Ready net t s → length t.waiting ≡ net.n * (net.n * s)
rows_at_hand net t s r = r.waiting_long ∙ ap (λ (k : ℕ). net.n * (net.n * k)) (sym r.stacks_are)
