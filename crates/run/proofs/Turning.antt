-- What one turn of a run does, from what the search found and what the step answered.
use Prim.Native.Nat.{ℕ, ◌+◌, ◌*◌, ◌/◌, ◌%◌, ◌≤◌, ◌<◌}
use native.Mathlib.Nat.{mul-le-mul, mul-le-mul_right}
use native.Mathlib.Omega.{arith}
use mathlib.Core.Path.{◌≡◌, refl, sym, ap, ◌∙◌, subst}
use mathlib.Core.List.{List}
use mathlib.Core.Bool.{Bool, true, false}
use lib.ListN.{length, get_or, set}
use lib.Dec.{eqb}
use borrow.Author.Tests.{eqb-true, lt-ltb, le-ltb}
use Rattle.bits.specs.Bits.{with_one}
use Rattle.words.specs.Words.{first_in}
use Rattle.words.specs.declared.Found.{Found}
use Rattle.stacks.proofs.Tests.{sizes}
use Rattle.stacks.proofs.Count.{count_some}
use Rattle.network.specs.Network.{Network, stacks, link}
use Rattle.network.proofs.Laws.{valid}
use Rattle.hear.specs.Handed.{gateway_seen}
use Rattle.hear.specs.declared.Gateway.{Gateway}
use Rattle.lists.proofs.Tables.{get_or_tabulate}
use Rattle.table.specs.Table.{Table, node_at, destination_at, number_at, delivered, offers_taken}
use Rattle.table.specs.Answers.{message_refusal, delivered_rows}
use Rattle.std.specs.Prelude.{Result, Ok, Err, Some, None}
use Rattle.refusal.specs.declared.Refusal.{Refusal}
use Rattle.refusal.specs.Numbers.{named}
use Rattle.step.specs.Step.{Stepped}
use Rattle.step.specs.InNetwork.{gateway_at, step_answer, step_table}
use Rattle.step.proofs.Network.{step_delivers}
use Rattle.run.specs.Flags.{Flagged}
use Rattle.run.specs.Turns.{Prepared, Countable, AllEquipped, turn_of, turn_at, table_at, Turned, flags_after}
use Rattle.run.proofs.Marks.{flags_right}

-- ---- the receiver's flags, where a row took an offer and where none did
pub some_took : (flags : List ℕ) (U D x word : ℕ) → 0 < x → word ≡ with_one (get_or flags U 0) D → set flags U word ≡ flags_after flags U D x
some_took flags U D x word some w = simp (lt-ltb 0 x some, w)

pub none_took : (flags : List ℕ) (U D x : ℕ) → x ≤ 0 → flags ≡ flags_after flags U D x
none_took flags U D x none = simp (le-ltb 0 x none)

-- no message waits
pub turned_quiet : (net : Network) (s : ℕ) (t : Table) (flags : List ℕ) → Flagged net.n s flags t.waiting → first_in t.waiting ≡ None
    → Turned net s t (Ok None) t flags
turned_quiet net s t flags f e = record { answers = sym (ap (turn_at net t) e); table = sym (ap (table_at net t) e); flagged = f }

-- ---- the message at place i waits for U, and the step has answered
module _ (net : Network) (t : Table) (x : Found) (found : first_in t.waiting ≡ Some x) (flags : List ℕ) where
  abbrev i : ℕ
  i = x.word

  abbrev U : ℕ
  U = x.bit

  abbrev Q : ℕ
  Q = node_at net i

  abbrev D : ℕ
  D = destination_at net i

  abbrev N : ℕ
  N = number_at net i

  -- counted with the network's own stacks
  turned : (w : Prepared net (stacks net) t) (answer : Result ℕ Refusal) (after : Table) (flags' : List ℕ) → Flagged net.n (stacks net) flags t.waiting
      → answer ≡ step_answer net t Q U D N → after ≡ step_table net t Q U D N → flags' ≡ flags_after flags U D (delivered_rows answer)
      → Turned net (stacks net) t (turn_of answer) after flags'
  unfolding step_table
  turned w answer after flags' f e q l = go (eqb (message_refusal net t Q U D N) 0) refl
    where
      go : (b : Bool) → eqb (message_refusal net t Q U D N) 0 ≡ b → Turned net (stacks net) t (turn_of answer) after flags'
      go true z =
          let a : answer ≡ Ok (offers_taken net t Q U D N) = e ∙ simp z in
          let b : after ≡ delivered net t Q U D N = q ∙ simp z in
          let c : flags' ≡ flags_after flags U D (offers_taken net t Q U D N) = l ∙ ap (λ (y : Result ℕ Refusal). flags_after flags U D (delivered_rows y)) a in
          let right = flags_right net t Q U D N w.sized (eqb-true (message_refusal net t Q U D N) 0 z) (stacks net) flags refl f in
          record {
            answers = ap turn_of e ∙ sym (ap (turn_at net t) found);
            table = q ∙ sym (ap (table_at net t) found);
            flagged = subst (λ (x : Table). Flagged net.n (stacks net) flags' x.waiting) (sym b)
                (subst (λ (x : List ℕ). Flagged net.n (stacks net) x (delivered net t Q U D N).waiting) (sym c) right);
          }
      go false z =
          let a : answer ≡ Err (named (message_refusal net t Q U D N)) = e ∙ simp z in
          let b : after ≡ t = q ∙ simp z in
          let c : flags' ≡ flags = l ∙ ap (λ (y : Result ℕ Refusal). flags_after flags U D (delivered_rows y)) a in
          record {
            answers = ap turn_of e ∙ sym (ap (turn_at net t) found);
            table = q ∙ sym (ap (table_at net t) found);
            flagged = subst (λ (x : Table). Flagged net.n (stacks net) flags' x.waiting) (sym b)
                (subst (λ (x : List ℕ). Flagged net.n (stacks net) x t.waiting) (sym c) f);
          }

  module _ (answer : Result ℕ Refusal) (after : Table) (flags' : List ℕ) (g : Gateway) (back : ℕ) where
    -- as the code has it, with the s stacks that it was handed
    abbrev Law : ℕ → Type 0
    Law s = Prepared net s t → Flagged net.n s flags t.waiting → g ≡ gateway_at net s U → back ≡ link net U (i / s / net.n)
        → Stepped net.n (gateway_seen g) back t (i / s / net.n) U (i / s % net.n) (i % s + 1) answer after
        → flags' ≡ flags_after flags U (i / s % net.n) (delivered_rows answer) → Turned net s t (turn_of answer) after flags'

    law : Law (stacks net)
    law w f own l x e =
        let d = step_delivers net t w.network w.sized Q U D N (stacks net) back g answer after refl l
        (ap (λ (y : Gateway). y.p) own) (ap (λ (y : Gateway). y.most) own) (λ low. own) x in
        turned w answer after flags' f d.0 d.1 e

    pub turned_step : (s : ℕ) → Law s
    turned_step s w f own l x e = subst Law (sym w.stacks_are) law w f own l x e

-- the gateway of a node below 32
pub equipped : (net : Network) (s : ℕ) (gateways : List Gateway) (U : ℕ) (d : Gateway) → AllEquipped net s gateways → U < 32
    → get_or gateways U d ≡ gateway_at net s U
equipped net s gateways U d all low = ap (λ (l : List Gateway). get_or l U d) all ∙ get_or_tabulate 32 (gateway_at net s) U d low

-- ---- the rows of a network that is right can be counted
pub countable : (net : Network) (s : ℕ) (t : Table) → Prepared net s t → Countable net.n s (length t.waiting)
countable net s t q =
    let w = valid net q.network in
    let z = sizes net.p net.h w.size in
    let e = ap (λ (k : ℕ). net.n * k) q.stacks_are in
    let each : net.n * s ≤ 16384 = omega (arith, w.room) in
    record {
      few = omega (arith, mul-le-mul w.few each);
      long = q.sized.waits ∙ ap (λ (k : ℕ). net.n * k) (sym e);
      nodes = w.nodes;
      some = omega (arith, q.stacks_are, z.some, count_some net.p net.h z.high);
      low = omega (arith, mul-le-mul_right s w.nodes);
    }
