-- The function that leads from a stack to the heard one: what `leader` finds, and that it finds it.
use Prim.Native.Nat.{ℕ, ◌<◌}
use mathlib.Core.Path.{◌≡◌, refl, ap}
use mathlib.Core.Bool.{true, false≢true}
use lib.Dec.{ltb}
use borrow.Author.Tests.{ltb-true, eqb-true, eq-eqb, lt-ltb}
use Rattle.lists.proofs.Tests.{both, first_passes, first_only}
use Rattle.functions.specs.Answers.{moved_of}
use Rattle.refusal.specs.declared.Refusal.{Refusal}
use Rattle.std.specs.Prelude.{Result, Ok, Err, Option, Some, None}
use Rattle.functions.specs.Answers.{made}
use Rattle.hear.specs.Hearing.{Gateway, Message, is_number, leads_by, leader}
use Rattle.hear.proofs.Sources.{one_function}

is_number_lem : (m : ℕ) (a : Result (Option ℕ) Refusal) → is_number m a ≡ true → a ≡ made m
is_number_lem m (Ok (Some n)) e = ap made (eqb-true n m e)
is_number_lem m (Ok None) e = absurd (false≢true e)
is_number_lem m (Err r) e = absurd (false≢true e)

module _ (g : Gateway) (m : Message) where
  -- the gateway has f, and f makes the heard stack of the stack n
  pub record Leads (n f : ℕ) : Type 0 where
    pub has : 0 < g.words f
    pub makes : moved_of g.p g.most f n ≡ made m.number

  pub leads_of : (n f : ℕ) → leads_by g m n f ≡ true → Leads n f
  unfolding leads_by
  leads_of n f e =
      let d = both (ltb 0 (g.words f)) (is_number m.number (moved_of g.p g.most f n)) e in
      record { has = ltb-true 0 (g.words f) d.0; makes = is_number_lem m.number (moved_of g.p g.most f n) d.1 }

  pub leads_by_lem : (n f : ℕ) → Leads n f → leads_by g m n f ≡ true
  unfolding leads_by
  leads_by_lem n f l = simp (lt-ltb 0 (g.words f) l.has, ap (is_number m.number) l.makes) (eq-eqb m.number m.number refl)

  pub leader_found : (n : ℕ) → leader g m n < 192 → Leads n (leader g m n)
  unfolding leader
  leader_found n low = leads_of n (leader g m n) (first_passes 192 (leads_by g m n) low)

  -- no other function makes the heard stack of the same stack, so that the first one found is the one
  pub leader_only : (n f : ℕ) → f < 192 → Leads n f → leader g m n ≡ f
  unfolding leader
  leader_only n f low l =
      first_only 192 (leads_by g m n) f low (leads_by_lem n f l)
      (λ i b e. one_function g.p g.most i f n m.number (leads_of n i e).makes l.makes)
