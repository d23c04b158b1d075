-- What `read_row` answers at each of its tests, and what its answers tell `step`.
use Prim.Native.Nat.{ℕ, ◌+◌, ◌-◌, ◌*◌, ◌≤◌, ◌<◌}
use native.Mathlib.Omega.{arith}
use mathlib.Core.Path.{◌≡◌, refl, sym, ap, ◌∙◌}
use mathlib.Core.Bool.{Bool, true, false, cond, ◌&&◌}
use lib.ListN.{length, get_or}
use lib.Dec.{leb, ltb, eqb}
use mir.Syntax.{w64}
use mir.Val.{Fits}
use borrow.Author.Tests.{leb-true, lt-ltb, le-leb, lt-leb}
use Rattle.lists.proofs.Tests.{both}
use Rattle.bits.specs.Bits.{has}
use Rattle.table.specs.Table.{Table, ceiling, place_in, cost_in}
use Rattle.table.specs.Answers.{ok_message_in, waits_in, ok_sender_in, message_refusal_in}
use Rattle.table.proofs.Rows.{place_parts}
use Rattle.table.proofs.Order.{four_first, five_next, seven_last, then_none, all_pass}
use Rattle.step.specs.Step.{ok_rows, refusal_in}
use Rattle.step.specs.Steps.{told_of}
use Rattle.std.specs.Prelude.{Ok, Err}
use Rattle.refusal.specs.declared.Refusal.{Refusal}
use Rattle.refusal.specs.Numbers.{named}
use Rattle.refusal.proofs.Answers.{answered_ok}
use Rattle.step.specs.Steps.{HasPart}
use Rattle.step.specs.declared.Told.{Told}
use Rattle.step.proofs.Tests.{Sizes, sizes, Numbers, numbers, room}

-- ---- what is answered at each test
module _ (n p s link : ℕ) (t : Table) (Q U D N : ℕ) where
  refused : (k : ℕ) → refusal_in n p s link t Q U D N ≡ k → eqb k 0 ≡ false → Err (named k) ≡ told_of n p s link t Q U D N
  refused k e some = simp (e, some)

  abbrev Fit : Type 0
  Fit = ok_rows n p s (length t.cost) (length t.way) (length t.waiting) ≡ true

  pub bad_sizes : ok_rows n p s (length t.cost) (length t.way) (length t.waiting) ≡ false → Err Refusal.Table ≡ told_of n p s link t Q U D N
  unfolding refusal_in
  bad_sizes e = refused 3 (simp e) refl

  -- sizes that are right: the delivery's own refusals are left
  fits : Fit → refusal_in n p s link t Q U D N ≡ message_refusal_in n s link t Q U D N
  unfolding refusal_in
  fits fit = simp fit

  pub bad_numbers : Fit → ok_message_in n s Q U D N ≡ false → Err Refusal.Range ≡ told_of n p s link t Q U D N
  bad_numbers fit e = refused 4 (fits fit ∙ four_first n s link t Q U D N e) refl

  -- the place as the code works it out
  module _ (fit : Fit) (good : ok_message_in n s Q U D N ≡ true) (i : ℕ) (here : i ≡ Q * (n * s) + (D * s + (N - 1))) where
    is_at : i ≡ place_in n s Q D N
    is_at = here ∙ sym (place_parts n s Q D N)

    has_here : has (get_or t.waiting i 0) U ≡ has (get_or t.waiting (place_in n s Q D N) 0) U
    has_here = ap (λ (k : ℕ). has (get_or t.waiting k 0) U) is_at

    pub not_waiting : has (get_or t.waiting i 0) U ≡ false → Err Refusal.NoMessage ≡ told_of n p s link t Q U D N
    unfolding waits_in
    not_waiting e = refused 5 (fits fit ∙ five_next n s link t Q U D N good (sym has_here ∙ e)) refl

    module _ (waiting : has (get_or t.waiting i 0) U ≡ true) (c : ℕ) (costs : c ≡ get_or t.cost i 0) where
      there : has (get_or t.waiting (place_in n s Q D N) 0) U ≡ true
      there = sym has_here ∙ waiting

      is_told : c ≡ cost_in n s t Q D N
      is_told = costs ∙ ap (λ (k : ℕ). get_or t.cost k 0) is_at

      pub too_dear : ceiling < c → Err Refusal.Broken ≡ told_of n p s link t Q U D N
      unfolding waits_in ok_sender_in
      too_dear high = refused 7 (fits fit ∙ seven_last n s link t Q U D N good there (simp (lt-leb (cost_in n s t Q D N) ceiling (omega (arith, is_told)))))
          refl

      pub no_link : c ≤ ceiling → link ≡ 0 → Err Refusal.Broken ≡ told_of n p s link t Q U D N
      unfolding waits_in ok_sender_in
      no_link low none = refused 7 (fits fit ∙ seven_last n s link t Q U D N good there
          (simp (le-leb (cost_in n s t Q D N) ceiling (omega (arith, is_told)), none))) refl

      pub tells : c ≤ ceiling → (link ≡ 0 → ⊥) → Ok (record { place = i; cost = c }) ≡ told_of n p s link t Q U D N
      unfolding waits_in ok_sender_in
      tells low some =
          let linked : 0 < link = omega (arith, some) in
          let sends : (leb (cost_in n s t Q D N) ceiling && ltb 0 link) ≡ true = simp (
            le-leb (cost_in n s t Q D N) ceiling (omega (arith, is_told)),
            lt-ltb
                0 link linked,
          ) in
          simp (fits fit ∙ then_none n s link t Q U D N good there sends, is_at, is_told)

-- ---- and what the answers say
none_refused : (a : Bool) (r : ℕ) → ◌≡◌ {A = ℕ} (cond a r 3) 0 → (a ≡ true) × (r ≡ 0)
none_refused true r e = (refl, e)
none_refused false r e = absurd (omega arith)

module _ (n p s link : ℕ) (t : Table) (Q U D N : ℕ) where
  pub record Passed (i c : ℕ) : Type 0 where
    pub nothing : refusal_in n p s link t Q U D N ≡ 0
    pub place_is : i ≡ place_in n s Q D N
    pub cost_is : c ≡ cost_in n s t Q D N
    pub sized : Sizes n p s (length t.cost) (length t.way) (length t.waiting)
    pub numbered : Numbers n s Q U D N
    pub priced : c ≤ ceiling

  good : refusal_in n p s link t Q U D N ≡ 0
      → (ok_rows n p s (length t.cost) (length t.way) (length t.waiting) ≡ true) × (ok_message_in n s Q U D N ≡ true) × (cost_in n s t Q D N ≤ ceiling)
  unfolding refusal_in ok_sender_in
  good z =
      let r = none_refused (ok_rows n p s (length t.cost) (length t.way) (length t.waiting)) (message_refusal_in n s link t Q U D N) z in
      let a = all_pass n s link t Q U D N r.1 in
      (r.0, a.0, leb-true (cost_in n s t Q D N) ceiling (both (leb (cost_in n s t Q D N) ceiling) (ltb 0 link) a.2).0)

  pub passed : (told : Told) → Ok told ≡ told_of n p s link t Q U D N → Passed told.place told.cost
  passed told e =
      let a = answered_ok (refusal_in n p s link t Q U D N) (record { place = place_in n s Q D N; cost = cost_in n s t Q D N }) told e in
      let priced = ap (λ (x : Told). x.cost) a.1 in
      record {
        nothing = a.0;
        place_is = ap (λ (x : Told). x.place) a.1;
        cost_is = priced;
        sized = sizes n p s (length t.cost) (length t.way) (length t.waiting) (good a.0).0;
        numbered = numbers n s Q U D N (good a.0).1;
        priced = omega (arith, priced, (good a.0).2);
      }

-- ---- where they all hold: the sums fit, the row is in the table, and so is the receiver's part
pub record Lends (n s U i costs ways waits : ℕ) : Type 0 where
  pub place_bytes : Fits w64 (i * 4)
  pub inside : i < waits
  pub rows : Fits w64 (n * s)
  pub part : HasPart (n * s) U costs ways waits

pub lends : (n p s link : ℕ) (t : Table) (Q U D N i c : ℕ) → Passed n p s link t Q U D N i c → Lends n s U i (length t.cost) (length t.way) (length t.waiting)
lends n p s link t Q U D N i c x =
    let z = x.sized in
    let r = room n p s (length t.cost) (length t.way) (length t.waiting) Q U D N z x.numbered in
    let there : i < n * (n * s) = omega (arith, r.sends, r.inner, x.place_is, place_parts n s Q D N) in
    record {
      place_bytes = omega (arith, r.all);
      inside = omega (arith, z.waits_are);
      rows = omega (arith, r.each);
      part = record {
        few = omega (arith, r.hears, r.all);
        costs_end = omega (arith, r.hears, z.costs_are);
        ways_end = omega (arith, r.hears, z.ways_are);
        waits_end = omega (arith, r.hears, z.waits_are);
      };
    }
