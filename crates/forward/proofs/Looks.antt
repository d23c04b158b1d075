-- What a row answers at each test: its cost c, way w and resulting stack number M are plain numbers here, and look_of's and look_at's at the end.
use Prim.Native.Nat.{ℕ, zero, suc, ◌+◌, ◌*◌, ◌/◌, ◌%◌, ◌≤◌, ◌<◌}
use native.Mathlib.Nat.{mul-le-mul}
use native.Mathlib.Omega.{arith}
use mathlib.Core.Path.{◌≡◌, refl, sym, ap, ◌∙◌}
use mathlib.Core.Bool.{Bool, true, false, cond, ◌&&◌}
use mathlib.Core.List.{List}
use lib.Dec.{leb, ltb, eqb}
use borrow.Author.Tests.{lt-ltb, le-leb, ne_eqb, ltb-true, leb-true}
use Rattle.lists.proofs.Tests.{both}
use Rattle.std.specs.Prelude.{Result, Ok, Err, None}
use Rattle.refusal.specs.declared.Refusal.{Refusal}
use Rattle.refusal.specs.Numbers.{named}
use Rattle.stacks.specs.Stacks.{number, top, rest}
use Rattle.functions.specs.Functions.{kind_of, from_of, to_of}
use Rattle.functions.specs.Answers.{made, ok_move, move_number, moved_of, number_after}
use Rattle.functions.proofs.Laws.{moved_applied}
use Rattle.network.specs.Network.{Network, stacks, link, present}
use Rattle.network.proofs.Laws.{valid}
use Rattle.gateways.specs.Gateways.{word, can}
use Rattle.table.specs.Table.{Table, no_row, ceiling, home}
use Rattle.packet.specs.Packet.{packet_of, Placed}
use Rattle.packet.specs.declared.Packet.{Packet}
use Rattle.packet.proofs.Packets.{is_begun, placed, goes_on, is_over}
use Rattle.forward.specs.Forward.{forward, ok_way, answer, cost_of, way_of, function_of, ok_row, look_at}
use Rattle.forward.specs.Answers.{ok_place, row_answer, look_of, lookup_of}
use Rattle.forward.specs.declared.Look.{Look}

-- the row's place is worked out without wrapping
pub record Room (n s U D N : ℕ) : Type 0 where
  pub square : U * n ≤ 1024
  pub near : D < 32
  pub low : (U * n + D) * s ≤ 17301504
  pub some : 1 ≤ N
  pub most : N ≤ 16384

pub room : (n s U D N : ℕ) → ok_place n s U D N ≡ true → Room n s U D N
unfolding ok_place
room n s U D N e =
    let a = both (leb n 32) _ e in
    let b = both (leb s 16384) _ a.1 in
    let c = both (ltb U n) _ b.1 in
    let d = both (ltb D n) _ c.1 in
    let g = both (leb 1 N) (leb N s) d.1 in
    let few : n ≤ 32 = leb-true n 32 a.0 in
    let slim : s ≤ 16384 = leb-true s 16384 b.0 in
    let here : U < n = ltb-true U n c.0 in
    let there : D < n = ltb-true D n d.0 in
    let up : U ≤ 32 = omega arith in
    let square : U * n ≤ 32 * 32 = mul-le-mul up few in
    let row : U * n + D ≤ 1056 = omega arith in
    let low : (U * n + D) * s ≤ 1056 * 16384 = mul-le-mul row slim in
    record {
      square = omega arith;
      near = omega arith;
      low = omega arith;
      some = leb-true 1 N g.0;
      most = omega (arith, leb-true N s g.1);
    }

-- a function makes no stack of number 0
some_move : (p most k a b n m : ℕ) → move_number p most k a b n ≡ made m → 1 ≤ m
some_move p most zero a b n m e = go (eqb (top p n) a) e
  where
    go : (t : Bool) → cond t (made (p * rest p n + b + 1)) (Ok None) ≡ made m → 1 ≤ m
    go true d = let q : p * rest p n + b + 1 ≡ m = cc in omega arith
    go false d = absurd (let z : ◌≡◌ {A = ℕ} 0 1 = cc in omega arith)
some_move p most (suc zero) a b n m e = go (eqb (top p n) a && leb (p * n + b + 1) most) e
  where
    go : (t : Bool) → cond t (made (p * n + b + 1)) (Ok None) ≡ made m → 1 ≤ m
    go true d = let q : p * n + b + 1 ≡ m = cc in omega arith
    go false d = absurd (let z : ◌≡◌ {A = ℕ} 0 1 = cc in omega arith)
some_move p most (suc (suc k)) a b n m e = go (eqb (top p n) b) (ltb 0 (rest p n)) refl (eqb (top p (rest p n)) a) e
  where
    go : (t u : Bool) → ltb 0 (rest p n) ≡ u → (v : Bool) → cond (t && (u && v)) (made (rest p n)) (Ok None) ≡ made m → 1 ≤ m
    go true true h true d = let q : rest p n ≡ m = cc in omega (arith, ltb-true 0 (rest p n) h)
    go true true h false d = absurd (let z : ◌≡◌ {A = ℕ} 0 1 = cc in omega arith)
    go true false h v d = absurd (let z : ◌≡◌ {A = ℕ} 0 1 = cc in omega arith)
    go false u h v d = absurd (let z : ◌≡◌ {A = ℕ} 0 1 = cc in omega arith)

some_number : (p most f n m : ℕ) → moved_of p most f n ≡ made m → 1 ≤ m
some_number p most f n m e = go (ok_move p most f n) e
  where
    go : (t : Bool) → cond t (move_number p most (kind_of f) (from_of f) (to_of f) n) (Err Refusal.Range) ≡ made m → 1 ≤ m
    go true d = some_move p most (kind_of f) (from_of f) (to_of f) n m d
    go false d = absurd (let z : ◌≡◌ {A = ℕ} 0 1 = cc in omega arith)

-- the tests of a row's cost, passed
pub record Costed (c : ℕ) : Type 0 where
  pub row : c ≡ no_row → ⊥
  pub some : c ≡ 0 → ⊥
  pub low : c ≤ ceiling

module _ (net : Network) (U c w M : ℕ) (q : Costed c) where
  -- what a row answers where the packet is not delivered
  abbrev by_row : Result Look Refusal
  by_row = answer false (ok_way net U c w M) c w M

  broken : ok_way net U c w M ≡ false → Err Refusal.Broken ≡ by_row
  broken e = simp (ne_eqb c no_row q.row, e)

  module _ {x : ℕ} (is_x : x ≡ link net U (w / 256)) where
    pub no_link : x ≡ 0 → Err Refusal.Broken ≡ by_row
    unfolding present
    no_link e = broken (simp (le-leb 1 c (omega arith), le-leb c ceiling q.low, sym is_x ∙ e))

    module _ (linked : x ≡ 0 → ⊥) {y : ℕ} (is_y : y ≡ word net U (w % 256)) where
      pub no_function : y ≡ 0 → Err Refusal.Broken ≡ by_row
      unfolding present can
      no_function e = broken (simp (le-leb 1 c (omega arith), le-leb c ceiling q.low, lt-ltb 0 (link net U (w / 256)) (omega arith), sym is_y ∙ e))

      made_lem : (y ≡ 0 → ⊥) → 1 ≤ M → forward (w / 256) (w % 256) M c ≡ by_row
      unfolding present can
      made_lem able some =
          simp (
            ne_eqb c no_row q.row,
            le-leb 1 c (omega arith),
            le-leb c ceiling q.low,
            lt-ltb 0 (link net U (w / 256)) (omega arith),
            lt-ltb 0 (word net U (w % 256)) (omega arith),
            lt-ltb 0 M some,
          )

-- and with what `moved` answers
pub forwards : (net : Network) (s U N c w : ℕ) (q : Costed c) {x : ℕ} (is_x : x ≡ link net U (w / 256)) (linked : x ≡ 0 → ⊥)
    {y : ℕ} (is_y : y ≡ word net U (w % 256)) (able : y ≡ 0 → ⊥) (m : ℕ) → moved_of net.p s (w % 256) N ≡ made m
    → forward (w / 256) (w % 256) m c ≡ row_answer net s false U N c w
forwards net s U N c w q is_x linked is_y able m to =
    made_lem net U c w m q is_x linked is_y able (some_number net.p s (w % 256) N m to)
    ∙ ap (λ (M : ℕ). answer false (ok_way net U c w M) c w M) (sym (ap number_after to))

-- ---- THE LAW: with the number of stacks at hand it is look_at
module _ (net : Network) (t : Table) where
  pub look_is : (s U D N : ℕ) → Placed net s U D N → look_of net s t.cost t.way U D N ≡ look_at net t U D N
  unfolding ok_place ok_row look_at
  look_is s U D N q =
      let v = valid net q.network in
      let one : 1 * stacks net ≤ net.n * stacks net = mul-le-mul v.nodes (omega arith) in
      let few : stacks net ≤ 16384 = omega (arith, v.room) in
      let at_S : look_of net (stacks net) t.cost t.way U D N ≡ look_at net t U D N =
      simp (
        le-leb net.n 32 v.few,
        le-leb (stacks net) 16384 few,
        lt-ltb U net.n q.here,
        lt-ltb D net.n q.there,
        le-leb 1 N q.numbered,
        le-leb N (stacks net) q.within,
      )
      (ap (λ (M : ℕ). answer (home net U D N) (ok_way net U (cost_of net t U D N) (way_of net t U D N) M) (cost_of net t U D N) (way_of net t U D N) M)
      (ap number_after (moved_applied net.p net.h v.size (function_of net t U D N) N))) in
      ap (λ (k : ℕ). look_of net k t.cost t.way U D N) q.stacks_are ∙ at_S

  module _ (U D : ℕ) (stack : List ℕ) where
    -- lookup, once `begin` has told the number of stacks and the packet's
    pub looked : (k : Packet) → Ok k ≡ packet_of net t U D stack
        → {l : Result Look Refusal} → l ≡ look_of net k.stacks t.cost t.way U D k.number → l ≡ lookup_of net t U D stack
    looked k told is =
        let b = is_begun net t U D stack k told in
        is
        ∙ look_is k.stacks U D k.number (placed net t U D stack k.stacks k.number b)
        ∙ ap (look_at net t U D) b.number_is
        ∙ goes_on net t U D stack (look_at net t U D (number net.p stack)) (λ (m : ℕ). Err (named m)) k.stacks k.number b

    -- and where `begin` refuses
    pub refused : (r : Refusal) → Err r ≡ packet_of net t U D stack → Err r ≡ lookup_of net t U D stack
    refused r told =
        let o = is_over net t U D stack (look_at net t U D (number net.p stack)) (λ (m : ℕ). Err (named m)) r told in
        ap Err o.named_so ∙ o.answers
