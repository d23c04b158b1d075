-- The homes of the table: the rows that `fresh` sets, and the lists while it sets them. Each law is over plain numbers and lists.
use Prim.Native.Nat.{ℕ, zero, suc, ◌+◌, ◌-◌, ◌*◌, ◌/◌, ◌%◌, ◌≤◌, ◌<◌}
use native.Mathlib.Nat.{mul-le-mul, mul-le-mul_right, mul_assoc, suc-mul, le_of_lt, div-add-mod'}
use native.Mathlib.Decide.{dec_lt}
use native.Mathlib.Omega.{arith}
use mathlib.Core.Path.{◌≡◌, refl, sym, ap, ap₂, ◌∙◌}
use mathlib.Core.Logic.{by_cases}
use mathlib.Core.List.{List}
use mathlib.Core.Bool.{Bool, true, false, cond, ◌&&◌}
use lib.Arith.{digits_lt, digits_div, digits_mod}
use lib.ListN.{length, get_or, set}
use lib.Dec.{leb, ltb, eqb}
use borrow.Author.Tests.{lt-ltb, le-ltb, le-leb, eq-eqb, eqb-true, leb-true}
use Rattle.lists.specs.Lists.{tabulate_from, tabulate}
use Rattle.lists.proofs.Tables.{length_tabulate, get_or_tabulate, tabulate_same, set_tabulate}
use Rattle.lists.proofs.Tests.{both, bool_cases}
use Rattle.stacks.specs.Stacks.{one_to}
use Rattle.bits.specs.Bits.{ones_of}
use Rattle.bits.proofs.Counts.{ones_le, ones_zero}
use Rattle.words.specs.Words.{ones_in}
use Rattle.words.proofs.Search.{ones_in_most, ones_in_set}
use Rattle.gateways.specs.Gateways.{receives_at}
use Rattle.fresh.specs.Filling.{Shape, set_below, is_home}

-- ---- a list while the elements that pass a test are set, from the front on
module _ (r : ℕ) (test : ℕ → Bool) (value : ℕ → ℕ) (other : ℕ) where
  pub below_length : (k : ℕ) (l : List ℕ) → l ≡ set_below r test value other k → length l ≡ r
  unfolding set_below
  below_length k l e = ap length e ∙ length_tabulate r _

  pub same_long : (j k : ℕ) (l m : List ℕ) → l ≡ set_below r test value other j → m ≡ set_below r test value other k → length l ≡ length m
  same_long j k l m e d = below_length j l e ∙ sym (below_length k m d)

  pub below_none : tabulate r (λ i. other) ≡ set_below r test value other 0
  unfolding set_below
  below_none = tabulate_same 0 r (λ i. other) _ (λ i b. ap (λ (t : Bool). cond (t && test i) (value i) other) (sym (le-ltb i 0 (omega arith))))

  pub below_all : (k : ℕ) → r ≤ k → set_below r test value other k ≡ tabulate r (λ i. cond (test i) (value i) other)
  unfolding set_below
  below_all k all = tabulate_same 0 r _ (λ i. cond (test i) (value i) other)
      (λ i b. ap (λ (t : Bool). cond (t && test i) (value i) other) (lt-ltb i k (omega arith)))

  -- at k nothing is set yet
  below_here : (k : ℕ) → k < r → get_or (set_below r test value other k) k 0 ≡ other
  unfolding set_below
  below_here k low = get_or_tabulate r _ k 0 low ∙ ap (λ (t : Bool). cond (t && test k) (value k) other) (le-ltb k k (omega arith))

  -- nothing to set from k up to m
  pub below_jump : (k m : ℕ) → k ≤ m → ((i : ℕ) → k ≤ i → i < m → test i ≡ false) → set_below r test value other k ≡ set_below r test value other m
  unfolding set_below
  below_jump k m up none = tabulate_same 0 r _ _ (λ i b. same i)
    where
      same : (i : ℕ) → cond (ltb i k && test i) (value i) other ≡ cond (ltb i m && test i) (value i) other
      same i = by_cases (dec_lt i k)
          (λ low. ap (λ (t : Bool). cond (t && test i) (value i) other) (lt-ltb i k low ∙ sym (lt-ltb i m (omega arith))))
          (λ high. by_cases (dec_lt i m)
          (λ low. rw (le-ltb i k (omega arith), lt-ltb i m low, none i (omega arith) low))
          (λ past. ap (λ (t : Bool). cond (t && test i) (value i) other) (le-ltb i k (omega arith) ∙ sym (le-ltb i m (omega arith)))))

  pub below_skip : (k : ℕ) → test k ≡ false → set_below r test value other k ≡ set_below r test value other (k + 1)
  below_skip k e = below_jump k (k + 1) (omega arith) (λ i low high. let q : i ≡ k = omega arith in ap test q ∙ e)

  pub below_set : (k : ℕ) → k < r → test k ≡ true → set (set_below r test value other k) k (value k) ≡ set_below r test value other (k + 1)
  unfolding set_below
  below_set k low e =
      ap (λ (v : ℕ). set (tabulate r (λ i. cond (ltb i k && test i) (value i) other)) k v) (sym here)
      ∙ set_tabulate 0 r (λ i. cond (ltb i k && test i) (value i) other) (λ i. cond (ltb i (k + 1) && test i) (value i) other) k low (λ i b n. same i n)
    where
      here : cond (ltb k (k + 1) && test k) (value k) other ≡ value k
      here = rw (lt-ltb k (k + 1) (omega arith), e)

      same : (i : ℕ) → (i ≡ k → ⊥) → cond (ltb i k && test i) (value i) other ≡ cond (ltb i (k + 1) && test i) (value i) other
      same i n = by_cases (dec_lt i k)
          (λ lo. ap (λ (t : Bool). cond (t && test i) (value i) other) (lt-ltb i k lo ∙ sym (lt-ltb i (k + 1) (omega arith))))
          (λ hi. ap (λ (t : Bool). cond (t && test i) (value i) other) (le-ltb i k (omega arith) ∙ sym (le-ltb i (k + 1) (omega arith))))

-- before the first word is set no message waits
zeros : (r : ℕ) → ones_in (tabulate r (λ i. 0)) ≡ 0
unfolding ones_in tabulate
zeros r = go 0 r
  where
    go : (i k : ℕ) → ones_in (tabulate_from i k (λ j. 0)) ≡ 0
    go i zero = refl
    go i (suc k) = omega (arith, ones_zero, go (suc i) k)

pub none_waits : (r : ℕ) (test : ℕ → Bool) (value : ℕ → ℕ) → ones_in (set_below r test value 0 0) ≡ 0
none_waits r test value = ap ones_in (sym (below_none r test value 0)) ∙ zeros r

-- ---- the places of the nodes' own rows: node d has them from (d * n + d) * S on
module _ (n p S : ℕ) (shape : Shape n p S) where
  pub place_low : (d x : ℕ) → d < n → x < p → (d * n + d) * S + x < n * (n * S)
  place_low d x low small =
      let stack : x < S = omega (arith, shape.single) in
      let e : n * n * S ≡ n * (n * S) = mul_assoc n n S in
      omega (arith, digits_lt (digits_lt low low) stack, e)

  pub place_node : (d x : ℕ) → d < n → x < p → ((d * n + d) * S + x) / S / n ≡ d
  place_node d x low small =
      let stack : x < S = omega (arith, shape.single) in
      ap (λ (k : ℕ). k / n) (digits_div (d * n + d) stack) ∙ digits_div d low

  -- a later node's rows are later
  later : (d e : ℕ) → d ≤ e → (d * n + d) * S ≤ (e * n + e) * S
  later d e up =
      let rows : d * n + d ≤ e * n + e = omega (arith, mul-le-mul_right n up) in
      mul-le-mul_right S rows

  -- after the protocols of node d come the next node's rows
  next_node : (d : ℕ) → (d * n + d) * S + p ≤ ((d + 1) * n + (d + 1)) * S
  next_node d =
      let up : d ≤ d + 1 = omega arith in
      let rows : suc (d * n + d) ≤ (d + 1) * n + (d + 1) = omega (arith, mul-le-mul_right n up) in
      omega (arith, shape.single, mul-le-mul_right S rows, suc-mul (d * n + d) S)

  -- past the last node no row is left
  pub past_rows : n * (n * S) ≤ (n * n + n) * S
  past_rows =
      let rows : n * n ≤ n * n + n = omega arith in
      let e : n * n * S ≡ n * (n * S) = mul_assoc n n S in
      omega (arith, e, mul-le-mul_right S rows)

  -- no product wraps
  pub rows_most : n * (n * S) ≤ 524288
  rows_most = omega (arith, mul-le-mul shape.few shape.room)

  pub first_most : (d : ℕ) → d < n → (d * n ≤ 1024) × ((d * n + d) * S ≤ 524288)
  first_most d low =
      let e : n * n * S ≡ n * (n * S) = mul_assoc n n S in
      let few : d ≤ 32 = omega (arith, shape.few) in
      let square : d * n ≤ 32 * 32 = mul-le-mul few shape.few in
      let rows : d * n + d ≤ n * n = le_of_lt (digits_lt low low) in
      (omega arith, omega (arith, e, mul-le-mul_right S rows, rows_most))

-- ---- which of them are homes
module _ (n p S : ℕ) (shape : Shape n p S) (functions : List ℕ) where
  place_home : (d x : ℕ) → d < n → x < p → is_home n p S functions ((d * n + d) * S + x) ≡ receives_at n p functions d x
  unfolding is_home
  place_home d x low small =
      let stack : x < S = omega (arith, shape.single) in
      let some : 1 ≤ x + 1 = omega arith in
      let within : x + 1 ≤ p = omega arith in
      let same : x + 1 - 1 ≡ x = omega arith in
      simp (
        digits_div (d * n + d) stack,
        digits_mod (d * n + d) stack,
        digits_div d low,
        digits_mod d low,
        eq-eqb d d refl,
        le-leb 1 (x + 1) some,
        le-leb
            (x + 1) p within,
        same,
      )

  -- the place of a home by its node and protocol
  home_place : (i : ℕ) → is_home n p S functions i ≡ true → ((i / S / n * n + i / S / n) * S + i % S ≡ i) × (i % S < p)
  unfolding is_home
  home_place i e =
      let t = both (eqb (i / S / n) (i / S % n)) _ e in
      let own = eqb-true (i / S / n) (i / S % n) t.0 in
      let row : i / S / n * n + i / S / n ≡ i / S = ap (λ (k : ℕ). i / S / n * n + k) own ∙ div-add-mod' (i / S) n in (
        ap (λ (k : ℕ). k * S + i % S) row ∙ div-add-mod' i S,
        omega
            (arith, leb-true (i % S + 1) p (both (leb 1 (i % S + 1)) (leb (i % S + 1) p) (both (one_to p (i % S + 1)) _ t.1).0).1),
      )

  -- between the protocols of node d and the next node's rows there is no home
  no_home : (d i : ℕ) → (d * n + d) * S + p ≤ i → i < ((d + 1) * n + (d + 1)) * S → is_home n p S functions i ≡ false
  no_home d i from to = bool_cases (is_home n p S functions i) (λ e. absurd (never (home_place i e))) (λ e. e)
    where
      never : ((i / S / n * n + i / S / n) * S + i % S ≡ i) × (i % S < p) → ⊥
      never h = by_cases (dec_lt d (i / S / n))
          (λ past. let far = later n p S shape (d + 1) (i / S / n) (omega arith) in omega (arith, h.0, far))
          (λ up. let near = later n p S shape (i / S / n) d (omega arith) in omega (arith, h.0, h.1, near))

  -- ---- the turns of the loops, for the costs and for the waiting words alike
  module _ (value : ℕ → ℕ) (other d : ℕ) (low : d < n) (list : List ℕ) where
    -- protocol x of node d, where the node accepts it and where not
    pub turn_set : (x v : ℕ) → x < p → receives_at n p functions d x ≡ true → v ≡ value ((d * n + d) * S + x)
        → list ≡ set_below (n * (n * S)) (is_home n p S functions) value other ((d * n + d) * S + x)
        → set list ((d * n + d) * S + x) v ≡ set_below (n * (n * S)) (is_home n p S functions) value other ((d * n + d) * S + (x + 1))
    turn_set x v small takes here e =
        let next : (d * n + d) * S + x + 1 ≡ (d * n + d) * S + (x + 1) = omega arith in
        ap₂ (λ (l : List ℕ) (w : ℕ). set l ((d * n + d) * S + x) w) e here
        ∙ below_set (n * (n * S)) (is_home n p S functions) value other ((d * n + d) * S + x) (place_low n p S shape d x low small)
        (place_home d x low small ∙ takes)
        ∙ ap (set_below (n * (n * S)) (is_home n p S functions) value other) next

    pub turn_skip : (x : ℕ) → x < p → receives_at n p functions d x ≡ false
        → list ≡ set_below (n * (n * S)) (is_home n p S functions) value other ((d * n + d) * S + x)
        → list ≡ set_below (n * (n * S)) (is_home n p S functions) value other ((d * n + d) * S + (x + 1))
    turn_skip x small none e =
        let next : (d * n + d) * S + x + 1 ≡ (d * n + d) * S + (x + 1) = omega arith in
        e ∙ below_skip (n * (n * S)) (is_home n p S functions) value other ((d * n + d) * S + x) (place_home d x low small ∙ none)
        ∙ ap (set_below (n * (n * S)) (is_home n p S functions) value other) next

    -- after the last protocol of node d
    pub turn_last : (x : ℕ) → x ≡ p
        → list ≡ set_below (n * (n * S)) (is_home n p S functions) value other ((d * n + d) * S + x)
        → list ≡ set_below (n * (n * S)) (is_home n p S functions) value other (((d + 1) * n + (d + 1)) * S)
    turn_last x last e =
        e ∙ ap (λ (k : ℕ). set_below (n * (n * S)) (is_home n p S functions) value other ((d * n + d) * S + k)) last
        ∙ below_jump (n * (n * S)) (is_home n p S functions) value other ((d * n + d) * S + p) (((d + 1) * n + (d + 1)) * S) (next_node n p S shape d)
        (no_home d)

  -- ---- the messages, counted while the waiting words are set
  module _ (value : ℕ → ℕ) (d x : ℕ) (low : d < n) (small : x < p) (list : List ℕ)
      (e : list ≡ set_below (n * (n * S)) (is_home n p S functions) value 0 ((d * n + d) * S + x))
      (messages each w : ℕ) (ones : each ≡ ones_of w) (counted : messages ≡ ones_in list) where
    pub messages_fit : messages + each ≤ 16777248
    messages_fit =
        omega (arith, ones, ones_le w, counted, ones_in_most list, below_length _ _ _ _ _ list e, rows_most n p S shape)

    pub messages_more : messages + each ≡ ones_in (set list ((d * n + d) * S + x) w)
    messages_more =
        let row = place_low n p S shape d x low small in
        let inside : (d * n + d) * S + x < length list = omega (arith, row, below_length _ _ _ _ _ list e) in
        let clear : get_or list ((d * n + d) * S + x) 0 ≡ 0 =
        ap (λ (l : List ℕ). get_or l ((d * n + d) * S + x) 0) e ∙ below_here (n * (n * S)) (is_home n p S functions) value 0 ((d * n + d) * S + x) row in
        ap₂ ◌+◌ counted ones ∙ sym (ones_in_set list ((d * n + d) * S + x) w inside clear)
