-- A header meets no refusal exactly where it is right.
use Prim.Native.Nat.{ℕ, suc}
use native.Mathlib.Omega.{arith}
use mathlib.Core.Path.{◌≡◌, refl}
use mathlib.Core.List.{List}
use mathlib.Core.Bool.{Bool, true, false}
use Rattle.lists.specs.Lists.{unless}
use Rattle.header.specs.Fields.{ok_room, ok_version, ok_header, ok_length, ok_checksum, ok_whole, Right}
use Rattle.header.specs.Answers.{header_refusal}

pub passed : (b : Bool) (r x : ℕ) → unless b (suc r) x ≡ 0 → (b ≡ true) × (x ≡ 0)
passed true r x e = (refl, e)
passed false r x e = absurd (omega arith)

module _ (packet : List ℕ) (s announced e : ℕ) where
  pub right : header_refusal packet s announced e ≡ 0 → Right packet s announced e
  unfolding header_refusal
  right none =
      let a = passed (ok_room packet s e) 60 _ none in
      let b = passed (ok_version packet s announced) 61 _ a.1 in
      let c = passed (ok_header packet s) 62 _ b.1 in
      let d = passed (ok_length packet s e) 63 _ c.1 in
      let f = passed (ok_checksum packet s) 64 _ d.1 in
      let g = passed (ok_whole packet s) 65 _ f.1 in
      record { room = a.0; versioned = b.0; header = c.0; length = d.0; checksum = f.0; whole = g.0 }

  pub unrefused : Right packet s announced e → header_refusal packet s announced e ≡ 0
  unfolding header_refusal
  unrefused r = simp (r.room, r.versioned, r.header, r.length, r.checksum, r.whole)
