-- What `count` and `first_waiting` answer: of a ready table, what was counted or found, and else the refusal.
use Prim.Native.Nat.{ℕ, ◌+◌, ◌/◌, ◌%◌}
use mathlib.Core.Path.{◌≡◌, sym, ap, ◌∙◌}
use Rattle.std.specs.Prelude.{Some, None, Ok, Err}
use lib.ListN.{length}
use Rattle.refusal.specs.declared.Refusal.{Refusal}
use Rattle.refusal.specs.Numbers.{named, answered}
use Rattle.words.specs.Words.{found_at, first_in}
use Rattle.network.specs.Network.{Network}
use Rattle.table.specs.Table.{Table}
use Rattle.table.specs.Answers.{refusal, ready_of, first_of, first_answer}
use Rattle.table.specs.declared.Message.{Message}
use Rattle.table.proofs.Begins.{Ready, is_refused, begun, stopped}

module _ (net : Network) (t : Table) where
  pub refuses : {A : Type 0} (x : A) (r : Refusal) → Err r ≡ ready_of net (length t.cost) (length t.way) (length t.waiting)
      → Err r ≡ answered (refusal net t) x
  refuses x r e =
      let h = is_refused net t r (sym e) in
      ap Err h.0 ∙ sym (stopped net t h.1 (Ok x) (Err (named (refusal net t))))

  module _ (s : ℕ) (r : Ready net t s) where
    pub answers : {A : Type 0} (x : A) → Ok x ≡ answered (refusal net t) x
    answers x = sym (begun net t s r (Ok x) (Err (named (refusal net t))))

    -- the message that a place and a bit stand for, with the s that is at hand
    abbrev message : ℕ → ℕ → ℕ → Message
    message i bit k = record { sender = i / k / net.n; receiver = bit; destination = i / k % net.n; number = i % k + 1 }

    pub first_message : (i bit : ℕ) → found_at i bit ≡ first_in t.waiting → Ok (Some (message i bit s)) ≡ first_answer net t
    first_message i bit e =
        ap (λ (k : ℕ). Ok (Some (message i bit k))) r.stacks_are ∙ ap (λ f. Ok (first_of net t f)) e ∙ answers (first_of net t (first_in t.waiting))

    pub first_quiet : None ≡ first_in t.waiting → Ok None ≡ first_answer net t
    first_quiet e = ap (λ f. Ok (first_of net t f)) e ∙ answers (first_of net t (first_in t.waiting))
