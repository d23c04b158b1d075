-- What the answers of `header_at` say of the header.
use Prim.Native.Nat.{ℕ, ◌≤◌}
use mathlib.Core.Path.{◌≡◌, refl, ◌∙◌}
use mathlib.Core.List.{List}
use mathlib.Core.Bool.{Bool, true, false, cond}
use lib.ListN.{length}
use lib.Dec.{leb, eqb}
use borrow.Author.Tests.{eqb-true, eqb-false, le-leb, leb-true}
use Rattle.std.specs.Prelude.{Ok, Err}
use Rattle.refusal.specs.declared.Refusal.{Refusal}
use Rattle.refusal.specs.Numbers.{named}
use Rattle.header.specs.Fields.{announces, protocol, next, inside, end}
use Rattle.header.specs.Answers.{header_refusal, refusal_of, read_at, header_of}
use Rattle.header.specs.declared.Header.{Header}
use Rattle.header.proofs.Rightness.{passed}

module _ (packet : List ℕ) (s announced e : ℕ) where
  pub as_held : e ≤ length packet → refusal_of packet s announced e ≡ header_refusal packet s announced e
  unfolding refusal_of
  as_held within = simp (le-leb e (length packet) within)

  held : refusal_of packet s announced e ≡ 0 → (e ≤ length packet) × (header_refusal packet s announced e ≡ 0)
  unfolding refusal_of
  held fine = let p = passed (leb e (length packet)) 60 _ fine in (leb-true e (length packet) p.0, p.1)

  pub refused_is : (r : Refusal) → Err r ≡ header_of packet s announced e
      → (r ≡ named (refusal_of packet s announced e)) × (refusal_of packet s announced e ≡ 0 → ⊥)
  refused_is r d = go (refusal_of packet s announced e) (eqb (refusal_of packet s announced e) 0) refl d
    where
      go : (x : ℕ) (fine : Bool) → eqb x 0 ≡ fine → Err r ≡ cond fine (Ok (read_at packet s)) (Err (named x)) → (r ≡ named x) × (x ≡ 0 → ⊥)
      go x true z q = cc
      go x false z q = ((cc), eqb-false x 0 z)

  -- a right header
  pub record Passed (header : Header) : Type 0 where
    pub fine : header_refusal packet s announced e ≡ 0
    pub is_protocol : header.protocol ≡ protocol packet s
    pub is_inside : header.from ≡ inside packet s
    pub is_end : header.to ≡ end packet s
    pub is_after : header.after ≡ announces (next packet s)

  pub right_is : (header : Header) → Ok header ≡ header_of packet s announced e → Passed header
  right_is header d = go (refusal_of packet s announced e) refl (eqb (refusal_of packet s announced e) 0) refl d
    where
      go : (x : ℕ) → refusal_of packet s announced e ≡ x → (fine : Bool) → eqb x 0 ≡ fine
          → Ok header ≡ cond fine (Ok (read_at packet s)) (Err (named x)) → Passed header
      go x y true z same = record { fine = (held (y ∙ eqb-true x 0 z)).1; is_protocol = cc; is_inside = cc; is_end = cc; is_after = cc }
      go x y false z same = cc
