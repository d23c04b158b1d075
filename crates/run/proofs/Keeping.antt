-- What the loop of a run keeps: the run so far, the lengths, the flags, and few enough offers.
use Prim.Native.Nat.{ℕ, zero, suc, ◌+◌, ◌*◌, ◌^◌, ◌≤◌, ◌<◌}
use native.Mathlib.Omega.{arith}
use mathlib.Core.Path.{◌≡◌, refl, sym, ap, ◌∙◌, subst}
use mathlib.Core.List.{List}
use mathlib.Core.Bool.{Bool, true, false, cond}
use lib.ListN.{length, get_or, length-replicate, get_or-replicate, replicate}
use lib.Dec.{eqb}
use native.Mathlib.Nat.{pow-suc}
use Rattle.bits.specs.Bits.{word_of}
use Rattle.words.specs.Words.{first_in}
use Rattle.words.specs.declared.Found.{Found}
use Rattle.network.specs.Network.{Network, refusal_of}
use Rattle.network.proofs.Laws.{valid}
use Rattle.table.specs.Table.{Table, Sized, node_at, destination_at, number_at}
use Rattle.table.specs.Answers.{refusal}
use Rattle.table.specs.Run.{RunOutcome, Runs, ends, steps, run_of}
use Rattle.run.specs.Flags.{Flagged}
use Rattle.run.specs.Turns.{Prepared, Turn, turn_of, turn_at, table_at, turn_answer, turn_table, Turned, continued}
use Rattle.std.specs.Prelude.{Ok, Err, Option, Some, None}
use Rattle.refusal.specs.declared.Refusal.{Refusal}
use Rattle.refusal.specs.Numbers.{named, refused_with}
use Rattle.table.specs.declared.Ran.{Ran}
use Rattle.table.proofs.Begins.{Ready, sized_so, begun, stopped}
use Rattle.table.proofs.Deliveries.{goes, delivered_sized, offers_most}
use Rattle.step.specs.InNetwork.{step_table}
use borrow.Author.Tests.{eqb-true}
use Rattle.run.proofs.Flags.{flagged_all}
use Rattle.run.proofs.Running.{ended, refused, offers, changed, Going, starts, goes_on, stops, all_done}

-- ---- no turn makes more offers than a gateway has rows
pub offers_few : (net : Network) (t : Table) (x : ℕ) → refusal_of net ≡ 0 → turn_answer net t ≡ Ok (Some x) → x ≤ 16384
offers_few net t x right e = go (first_in t.waiting) e
  where
    pick : (f : Found) (b : Bool) → turn_of (cond b (Ok (offers net t f)) (Err (named (refused net t f)))) ≡ Ok (Some x) → x ≤ 16384
    pick f true d =
        let q : offers net t f ≡ x = cc in
        omega (arith, offers_most net t (node_at net f.word) f.bit (destination_at net f.word) (number_at net f.word), (valid net right).room)
    pick f false d = absurd (let z : ◌≡◌ {A = ℕ} 0 1 = cc in omega arith)

    go : (f : Option Found) → turn_at net t f ≡ Ok (Some x) → x ≤ 16384
    go None d = absurd (let z : ◌≡◌ {A = ℕ} 0 1 = cc in omega arith)
    go (Some f) d = pick f (eqb (refused net t f) 0) d

-- ---- and each leaves a table of the right lengths
turn_sized : (net : Network) (t : Table) → Sized net t → Sized net (turn_table net t)
unfolding step_table
turn_sized net t z = go (first_in t.waiting)
  where
    pick : (f : Found) (b : Bool) → eqb (refused net t f) 0 ≡ b → Sized net (cond b (changed net t f) t)
    pick f true e =
        let g = goes net t (node_at net f.word) f.bit (destination_at net f.word) (number_at net f.word) (eqb-true (refused net t f) 0 e) in
        delivered_sized net t (node_at net f.word) f.bit (destination_at net f.word) (number_at net f.word) z g.receiver
    pick f false e = z

    go : (f : Option Found) → Sized net (table_at net t f)
    go None = z
    go (Some f) = pick f (eqb (refused net t f) 0) refl

-- ---- at first every flag of every node is set
all_bits : (k : ℕ) → word_of k (λ (d : ℕ). true) + 1 ≡ 2 ^ k
unfolding word_of
all_bits zero = refl
all_bits (suc k) = omega (arith, all_bits k, pow-suc 2 k)

pub flags_set : (n s w : ℕ) (flags waiting : List ℕ) → n ≤ 32 → 1 ≤ n → w ≡ word_of n (λ (d : ℕ). true) → flags ≡ replicate 32 w
    → length waiting ≡ n * (n * s) → Flagged n s flags waiting
flags_set n s w flags waiting small some e q long =
    flagged_all n s flags waiting small some (ap length q ∙ length-replicate 32 w)
    (λ u low. ap (λ (l : List ℕ). get_or l u 0) q ∙ get_or-replicate 32 u w 0 low ∙ omega (arith, e, all_bits n)) long

-- ---- what the loop keeps
module _ (net : Network) (s k : ℕ) (t₀ : Table) where
  pub record Keeps (d o : ℕ) (t : Table) (flags : List ℕ) : Type 0 where
    pub going : Going net k t₀ d o t
    pub sized : Sized net t
    pub flagged : Flagged net.n s flags t.waiting
    pub few : o ≤ 16384 * d

  pub keeps_first : (flags : List ℕ) → Sized net t₀ → Flagged net.n s flags t₀.waiting → Keeps 0 0 t₀ flags
  keeps_first flags z f = record { going = starts net k t₀; sized = z; flagged = f; few = omega arith }

  pub keeps_on : (d o x : ℕ) (t t' : Table) (flags flags' : List ℕ) (answer : Turn) → refusal_of net ≡ 0 → d < k → Keeps d o t flags
      → Turned net s t answer t' flags' → answer ≡ Ok (Some x) → Keeps (d + 1) (o + x) t' flags'
  keeps_on d o x t t' flags flags' answer right low q u e =
      let turned = sym u.answers ∙ e in
      record {
        going = subst (Going net k t₀ (d + 1) (o + x)) (sym u.table) (goes_on net k t₀ d o x t low q.going turned);
        sized = subst (Sized net) (sym u.table) (turn_sized net t q.sized);
        flagged = u.flagged;
        few = omega (arith, q.few, offers_few net t x right turned);
      }

  ran : (d o j : ℕ) (r : Option Refusal) (t : Table) → r ≡ refused_with j → steps net k t₀ ≡ continued d o (ends j t)
      → Runs (steps net k t₀) (record { done = d; offers = o; refused = r }) t
  ran d o j r t q e = record {
    done = omega (arith, ap (λ (x : RunOutcome). x.done) e);
    offers = omega (arith, ap (λ (x : RunOutcome). x.offers) e);
    refused = q ∙ sym (ap (λ (x : RunOutcome). refused_with x.refused) e);
    table = sym (ap (λ (x : RunOutcome). x.table) e);
  }

  pub ran_ends : (d o : ℕ) (r : Option Refusal) (t t' : Table) (flags flags' : List ℕ) (answer : Turn) → d < k → Keeps d o t flags
      → Turned net s t answer t' flags' → answer ≡ ended r → Runs (steps net k t₀) (record { done = d; offers = o; refused = r }) t'
  ran_ends d o r t t' flags flags' answer low q u e =
      let z = stops net k t₀ d o r t low q.going (sym u.answers ∙ e) in
      subst (Runs (steps net k t₀) (record { done = d; offers = o; refused = r })) (sym (u.table ∙ z.2)) (ran d o z.0 r t z.3 z.1)

  pub ran_out : (d o : ℕ) (t : Table) (flags : List ℕ) → d ≡ k → Keeps d o t flags
      → Runs (steps net k t₀) (record { done = k; offers = o; refused = None }) t
  ran_out d o t flags all q =
      subst (λ (x : ℕ). Runs (steps net k t₀) (record { done = x; offers = o; refused = None }) t) all
      (ran d o 0 None t refl (all_done net k t₀ d o t (omega arith) q.going))

-- ---- the whole call
pub prepared : (net : Network) (t : Table) (s : ℕ) → Ready net t s → Prepared net s t
prepared net t s r = record { network = r.network; stacks_are = r.stacks_are; sized = sized_so net t s r }

pub run_begun : (net : Network) (k : ℕ) (t after : Table) (s : ℕ) (answer : Ran Refusal) → Ready net t s → Runs (steps net k t) answer after
    → Runs (run_of net k t) answer after
unfolding run_of
run_begun net k t after s answer r h = subst (λ (o : RunOutcome). Runs o answer after) (sym (begun net t s r (steps net k t) (ends (refusal net t) t))) h

pub run_stopped : (net : Network) (k : ℕ) (t : Table) (r : Refusal) → (r ≡ named (refusal net t)) × (eqb (refusal net t) 0 ≡ false)
    → Runs (run_of net k t) (record { done = 0; offers = 0; refused = Some r }) t
unfolding run_of
run_stopped net k t r h =
    subst (λ (o : RunOutcome). Runs o (record { done = 0; offers = 0; refused = Some r }) t)
    (sym (stopped net t h.1 (steps net k t) (ends (refusal net t) t)))
    (record { done = refl; offers = refl; refused = simp h.1 (ap Some h.0); table = refl })
