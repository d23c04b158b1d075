-- Laws of the walks over a list of words: the count of all set bits, and the first word that is not 0.
use mathlib.Core.Path.{◌≡◌, sym, ap, ap₂, ◌∙◌}
use mathlib.Core.Bool.{Bool, cond}
use mathlib.Core.List.{List, [], ◌∷◌}
use Prim.Native.Nat.{ℕ, zero, suc, ◌+◌, ◌-◌, ◌*◌, ◌≤◌, ◌<◌, min}
use native.Mathlib.Decide.{dec_lt}
use native.Mathlib.Numerals.{add-one}
use native.Mathlib.Omega.{arith}
use borrow.Author.Tests.{eq-eqb, ne_eqb, le-leb, lt-leb}
use lib.Bits.{bit_or}
use lib.ListN.{length, take, drop, get_or, set, length-drop}
use lib.Seq.{drop-cons, take_all}
use Rattle.bits.specs.Bits.{lowest, ones_of}
use Rattle.bits.proofs.Bits.{zero_of_or}
use Rattle.bits.proofs.Counts.{ones_le, ones_zero}
use Rattle.std.specs.Prelude.{None}
use Rattle.words.specs.Words.{found_at, ones_in, ones_answer, first_set_from, first_between}

-- ---- the count
pub count_few : (ws : List ℕ) → length ws ≤ 524288 → ones_answer ws ≡ ones_in ws
unfolding ones_answer
count_few ws h = ap (λ (t : Bool). cond t (ones_in ws) 0) (le-leb (length ws) 524288 h)

pub count_many : (ws : List ℕ) → 524288 < length ws → ones_answer ws ≡ 0
unfolding ones_answer
count_many ws h = ap (λ (t : Bool). cond t (ones_in ws) 0) (lt-leb (length ws) 524288 h)

-- each word has at most 32 set bits
pub ones_in_most : (ws : List ℕ) → ones_in ws ≤ 32 * length ws
unfolding ones_in
ones_in_most [] = omega arith
ones_in_most (w ∷ ws) = omega (arith, ones_le w, ones_in_most ws)

-- a word in the place of a 0 adds its own
pub ones_in_set : (ws : List ℕ) (i w : ℕ) → i < length ws → get_or ws i 0 ≡ 0 → ones_in (set ws i w) ≡ ones_in ws + ones_of w
unfolding ones_in
ones_in_set [] i w h e = absurd (omega arith)
ones_in_set (v ∷ ws) zero w h e = let none : ones_of v ≡ 0 = ap ones_of e ∙ ones_zero in omega (arith, none)
ones_in_set (v ∷ ws) (suc i) w h e = omega (arith, ones_in_set ws i w (omega arith) e)

-- ---- the first word that is not 0
part_cons : (ws : List ℕ) (i to : ℕ) → i < to → i < length ws
    → take (to - i) (drop i ws) ≡ get_or ws i 0 ∷ take (to - (i + 1)) (drop (i + 1) ws)
part_cons ws i to h l =
    let e : to - i ≡ suc (to - (i + 1)) = omega arith in
    ap₂ take e (drop-cons ws i 0 l ∙ ap (λ (n : ℕ). get_or ws i 0 ∷ drop n ws) (sym (add-one i)))

pub first_here : (ws : List ℕ) (i to : ℕ) → i < to → i < length ws → (get_or ws i 0 ≡ 0 → ⊥)
    → first_between i to ws ≡ found_at i (lowest (get_or ws i 0))
unfolding first_between first_set_from
first_here ws i to h l ne =
    ap (λ (xs : List ℕ). first_set_from i xs) (part_cons ws i to h l)
    ∙ ap (λ (t : Bool). cond t (first_set_from (suc i) (take (to - (i + 1)) (drop (i + 1) ws))) (found_at i (lowest (get_or ws i 0)))) (ne_eqb
    (get_or ws i 0) 0 ne)

pub first_next : (ws : List ℕ) (i to : ℕ) → i < to → i < length ws → get_or ws i 0 ≡ 0 → first_between i to ws ≡ first_between (i + 1) to ws
unfolding first_between first_set_from
first_next ws i to h l z =
    ap (λ (xs : List ℕ). first_set_from i xs) (part_cons ws i to h l)
    ∙ ap (λ (t : Bool). cond t (first_set_from (suc i) (take (to - (i + 1)) (drop (i + 1) ws))) (found_at i (lowest (get_or ws i 0)))) (eq-eqb
    (get_or ws i 0) 0 z)
    ∙ ap (λ (n : ℕ). first_set_from n (take (to - (i + 1)) (drop (i + 1) ws))) (sym (add-one i))

-- four words whose OR is 0 are passed over at once
pub first_four : (ws : List ℕ) (i to : ℕ) → i + 3 < to → to ≤ length ws
    → bit_or (bit_or (bit_or (get_or ws i 0) (get_or ws (i + 1) 0)) (get_or ws (i + 2) 0)) (get_or ws (i + 3) 0) ≡ 0
    → first_between i to ws ≡ first_between (i + 4) to ws
first_four ws i to h l z =
    let three = zero_of_or (bit_or (bit_or (get_or ws i 0) (get_or ws (i + 1) 0)) (get_or ws (i + 2) 0)) (get_or ws (i + 3) 0) z in
    let two = zero_of_or (bit_or (get_or ws i 0) (get_or ws (i + 1) 0)) (get_or ws (i + 2) 0) three.0 in
    let one = zero_of_or (get_or ws i 0) (get_or ws (i + 1) 0) two.0 in
    next i (i + 1) (omega arith) (omega arith) one.0
    ∙ next (i + 1) (i + 2) (omega arith) (omega arith) one.1
    ∙ next (i + 2) (i + 3) (omega arith) (omega arith) two.1
    ∙ next (i + 3) (i + 4) (omega arith) (omega arith) three.1
  where
    next : (k n : ℕ) → n ≡ k + 1 → k < to → get_or ws k 0 ≡ 0 → first_between k to ws ≡ first_between n to ws
    next k n e m q = first_next ws k to m (omega arith) q ∙ ap (λ (j : ℕ). first_between j to ws) (sym e)

pub first_end : (ws : List ℕ) (i to : ℕ) → to ≤ i → first_between i to ws ≡ None
unfolding first_between first_set_from
first_end ws i to h =
    let e : to - i ≡ 0 = omega arith in
    ap (λ (n : ℕ). first_set_from i (take n (drop i ws))) e

-- a search past the list's end is one up to its end
pub first_cut : (ws : List ℕ) (i to : ℕ) → first_between i (min to (length ws)) ws ≡ first_between i to ws
unfolding first_between
first_cut ws i to = go (dec_lt to (length ws))
  where
    go : Dec (to < length ws) → first_between i (min to (length ws)) ws ≡ first_between i to ws
    go (yes h) = let e : min to (length ws) ≡ to = omega arith in ap (λ (n : ℕ). first_between i n ws) e
    go (no h) =
        let rest = drop i ws in
        let short : take (min to (length ws) - i) rest ≡ rest = take_all (min to (length ws) - i) rest (omega (arith, h, length-drop i ws)) in
        let long : take (to - i) rest ≡ rest = take_all (to - i) rest (omega (arith, h, length-drop i ws)) in
        ap (λ (xs : List ℕ). first_set_from i xs) (short ∙ sym long)
