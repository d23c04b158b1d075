-- A call at each number of a range, one after the other: as `all` and `any` test it is `every` and `some`, as `array::from_fn` gathers it is `tabulate`.
use Prim.Native.Nat.{ℕ, zero, suc, ◌+◌, ◌≤◌, ◌<◌}
use native.Mathlib.Nat.{zero-add}
use native.Mathlib.Decide.{ℕ_discrete}
use native.Mathlib.Omega.{arith}
use mathlib.Core.Path.{◌≡◌, refl, sym, ap, ◌∙◌, subst}
use mathlib.Core.Logic.{by_cases}
use mathlib.Core.List.{List, [], ◌∷◌, ◌++◌}
use mathlib.Core.Bool.{Bool, and-true, or-false}
use lib.ListN.{get_or}
use denote.Param.Members.{Mut}
use Rattle.std.specs.Fn.{Called}
use Rattle.std.specs.Array.{IsFromFnResultFrom, IsFromFnResult}
use Rattle.std.specs.List.{range_with_len, list_all, list_any}
use Rattle.std.proofs.lemmas.List.Folds.{list_all-append, list_any-append}
use Rattle.lists.specs.Lists.{tabulate, every, some}
use Rattle.lists.proofs.Tables.{is_tabulate}

range_more : (a n : ℕ) → range_with_len a (suc n) ≡ range_with_len a n ++ (a + n) ∷ []
range_more a zero = let e : a ≡ a + 0 = omega arith in ap (λ (k : ℕ). k ∷ []) e
range_more a (suc n) =
    let e : a + 1 + n ≡ a + suc n = omega arith in
    ap (a ∷◌) (range_more (a + 1) n ∙ ap (λ (k : ℕ). range_with_len (a + 1) n ++ k ∷ []) e)

pub all_every : (n : ℕ) (t : ℕ → Bool) → list_all t (range_with_len 0 n) ≡ every n t
unfolding every
all_every zero t = refl
all_every (suc n) t = ap (list_all t) (range_more 0 n) ∙ simp (list_all-append, all_every n t, zero-add, and-true)

pub any_some : (n : ℕ) (t : ℕ → Bool) → list_any t (range_with_len 0 n) ≡ some n t
unfolding some
any_some zero t = refl
any_some (suc n) t = ap (list_any t) (range_more 0 n) ∙ simp (list_any-append, any_some n t, zero-add, or-false)

-- an array made of calls, of which each leaves the closure as it was and answers h
module _ {F B : Type 0} {g : Mut F (ℕ × Unit {0}) B} {f : F} (d : B) (h : ℕ → B)
    (same : (x : ℕ) (r : B) (q : F) → Called g f (x, tt) r q → (q ≡ f) × (r ≡ h x)) (ys : List B) where
  made_at : (i n : ℕ) → IsFromFnResultFrom g f ys i n → (j : ℕ) → i ≤ j → j < i + n → get_or ys j d ≡ h j
  made_at i zero w j from to = absurd (omega arith)
  made_at i (suc n) w j from to =
      let now = same i w.1 w.0 w.3 in
      by_cases (ℕ_discrete j i)
      (λ e. ap (λ (k : ℕ). get_or ys k d) e ∙ w.2.1 d ∙ now.1 ∙ ap h (sym e))
      (λ ne. made_at (i + 1) n (subst (λ (p : F). IsFromFnResultFrom g p ys (i + 1) n) now.0 w.4) j (omega arith) (omega arith))

  pub array_tabulate : (n : ℕ) → IsFromFnResult g f ys n → ys ≡ tabulate n h
  array_tabulate n w = is_tabulate d ys n h w.long (λ i low. made_at 0 n w.each i (omega arith) (omega arith))
