-- Where rows and vertices stand, that no two of them stand at one place, and a list of which one part is replaced.
use Prim.Native.Nat.{ℕ, suc, ◌+◌, ◌-◌, ◌*◌, ◌/◌, ◌%◌, ◌≤◌, ◌<◌}
use native.Mathlib.Nat.{mul_assoc, add-mul, suc-mul, mul-le-mul_right, div-add-mod', div-lt_iff_lt-mul, mod-lt}
use native.Mathlib.Decide.{dec_lt}
use native.Mathlib.Omega.{arith}
use mathlib.Core.Path.{◌≡◌, sym, ap, ◌∙◌}
use mathlib.Core.Logic.{by_cases}
use mathlib.Core.List.{List}
use lib.Arith.{digits_lt, digits_div, digits_mod}
use lib.ListN.{length, get_or, drop, length-take, length-drop}
use lib.Seq.{get_or-take, get_or-drop}
use borrow.Rule.Slice.PartMut.{mid_of, put_mid, same_len_mid}
use Rattle.lists.proofs.Tables.{get_or_put_before, get_or_put_inside, get_or_put_after}
use Rattle.stacks.proofs.Tests.{Within}
use Rattle.network.specs.Network.{Network, stacks}
use Rattle.table.specs.Table.{place_in, rows_each, rows_all, place, node_at, destination_at, number_at, vertex, vertex_node, vertex_number}

-- ---- two digits are told by the number that they make
pub same_high : (s a b q r : ℕ) → q < s → r < s → a * s + q ≡ b * s + r → a ≡ b
same_high s a b q r hq hr e = sym (digits_div a hq) ∙ ap (λ (x : ℕ). x / s) e ∙ digits_div b hr

pub same_low : (s a b q r : ℕ) → q < s → r < s → a * s + q ≡ b * s + r → q ≡ r
same_low s a b q r hq hr e = sym (digits_mod a hq) ∙ ap (λ (x : ℕ). x % s) e ∙ digits_mod b hr

-- ---- vertices
module _ (net : Network) where
  -- a stack number
  abbrev pub Stack : ℕ → Type 0
  Stack N = Within net.p net.h N

  pub low : {N : ℕ} → Stack N → N - 1 < stacks net
  low w = omega (arith, w.some, w.most)

  pub vertex_node_lem : (U N : ℕ) → Stack N → vertex_node net (vertex net U N) ≡ U
  vertex_node_lem U N w = digits_div U (low w)

  pub vertex_number_lem : (U N : ℕ) → Stack N → vertex_number net (vertex net U N) ≡ N
  vertex_number_lem U N w = omega (arith, digits_mod U (low w), w.some)

  pub vertex_below : (U N : ℕ) → U < net.n → Stack N → vertex net U N < rows_each net
  vertex_below U N u w = digits_lt u (low w)

  pub of_vertex : (v : ℕ) → vertex net (vertex_node net v) (vertex_number net v) ≡ v
  of_vertex v = omega (arith, div-add-mod' v (stacks net))

  -- a vertex has a node and a stack
  pub record Vertex (v : ℕ) : Type 0 where
    pub node : vertex_node net v < net.n
    pub stack : Stack (vertex_number net v)

  pub is_vertex : (v : ℕ) → v < rows_each net → Vertex v
  is_vertex v h = by_cases (dec_lt 0 (stacks net))
      (λ some. record { node = (div-lt_iff_lt-mul some).1 h; stack = record { some = omega arith; most = omega (arith, mod-lt v some) } })
      (λ none. let z : stacks net ≡ 0 = omega arith in absurd (omega (arith, ap (λ (x : ℕ). net.n * x) z)))

-- ---- rows
-- a row's place by the part of its gateway
pub place_parts : (n s U D N : ℕ) → place_in n s U D N ≡ U * (n * s) + (D * s + (N - 1))
place_parts n s U D N = omega (arith, add-mul (U * n) D s, mul_assoc U n s)

module _ (net : Network) where
  pub place_split : (U D N : ℕ) → place net U D N ≡ U * rows_each net + vertex net D N
  place_split U D N = place_parts net.n (stacks net) U D N

  pub place_below : (U D N : ℕ) → U < net.n → D < net.n → Stack net N → place net U D N < rows_all net
  place_below U D N u d w = omega (arith, place_split U D N, digits_lt u (vertex_below net D N d w))

  pub record SameRow (U D N W E M : ℕ) : Type 0 where
    pub nodes : U ≡ W
    pub destinations : D ≡ E
    pub numbers : N ≡ M

  pub same_row : (U D N W E M : ℕ) → D < net.n → E < net.n → Stack net N → Stack net M → place net U D N ≡ place net W E M → SameRow U D N W E M
  same_row U D N W E M d e n m same =
      let high = same_high (stacks net) (U * net.n + D) (W * net.n + E) (N - 1) (M - 1) (low net n) (low net m) same in
      let under = same_low (stacks net) (U * net.n + D) (W * net.n + E) (N - 1) (M - 1) (low net n) (low net m) same in
      record {
        nodes = same_high net.n U W D E d e high;
        destinations = same_low net.n U W D E d e high;
        numbers = omega (arith, n.some, m.some);
      }

  -- the node, the destination and the stack number of the row at a place
  place_pair : (U D N : ℕ) → Stack net N → place net U D N / stacks net ≡ U * net.n + D
  place_pair U D N n = digits_div (U * net.n + D) (low net n)

  pub place_node : (U D N : ℕ) → D < net.n → Stack net N → node_at net (place net U D N) ≡ U
  place_node U D N d n = ap (λ (x : ℕ). x / net.n) (place_pair U D N n) ∙ digits_div U d

  pub place_destination : (U D N : ℕ) → D < net.n → Stack net N → destination_at net (place net U D N) ≡ D
  place_destination U D N d n = ap (λ (x : ℕ). x % net.n) (place_pair U D N n) ∙ digits_mod U d

  pub place_number : (U D N : ℕ) → Stack net N → number_at net (place net U D N) ≡ N
  place_number U D N n = omega (arith, digits_mod (U * net.n + D) (low net n), n.some)

  -- and back: every place is that of a row
  pub of_place : (i : ℕ) → place net (node_at net i) (destination_at net i) (number_at net i) ≡ i
  of_place i = omega (arith, ap (λ (x : ℕ). x * stacks net) (div-add-mod' (i / stacks net) net.n), div-add-mod' i (stacks net))

  pub record Row (i : ℕ) : Type 0 where
    pub node : node_at net i < net.n
    pub destination : destination_at net i < net.n
    pub stack : Stack net (number_at net i)

  pub is_row : (i : ℕ) → i < rows_all net → Row i
  is_row i h = by_cases (dec_lt 0 (stacks net))
      (λ some. by_cases (dec_lt 0 net.n)
      (λ nodes. record {
        node = (div-lt_iff_lt-mul nodes).1 ((div-lt_iff_lt-mul some).1 (omega (arith, mul_assoc net.n net.n (stacks net))));
        destination = mod-lt (i / stacks net) nodes;
        stack = record { some = omega arith; most = omega (arith, mod-lt i some) };
      })
      (λ none. absurd (omega (arith, ap (λ (x : ℕ). x * rows_each net) (nothing net.n none)))))
      (λ none. absurd (omega (arith, ap (λ (x : ℕ). net.n * (net.n * x)) (nothing (stacks net) none))))
    where
      nothing : (k : ℕ) → ¬ (0 < k) → k ≡ 0
      nothing k none = omega arith

-- ---- a list of n parts of e elements, of which the part of U is taken out
module _ (n e : ℕ) (xs : List ℕ) (long : length xs ≡ n * e) (U : ℕ) (node : U < n) where
  fits : U * e + e ≤ length xs
  fits = omega (arith, mul-le-mul_right e node, suc-mul U e)

  pub part_long : length (mid_of (U * e) e xs) ≡ e
  part_long = simp (length-take, length-drop) (omega (arith, fits))

  pub part_read : (j : ℕ) → j < e → get_or (mid_of (U * e) e xs) j 0 ≡ get_or xs (U * e + j) 0
  part_read j b = get_or-take e (drop (U * e) xs) j 0 b ∙ get_or-drop (U * e) xs j 0

  -- and other elements put there
  module _ (ys : List ℕ) (as_long : length ys ≡ e) where
    pub put_long : length (put_mid (U * e) e xs ys) ≡ n * e
    put_long = same_len_mid (U * e) e xs ys (as_long ∙ sym part_long) ∙ long

    pub put_here : (j : ℕ) → j < e → get_or (put_mid (U * e) e xs ys) (U * e + j) 0 ≡ get_or ys j 0
    put_here j b = get_or_put_inside 0 xs ys (U * e) e fits as_long j b

    pub put_there : (W j : ℕ) → (W ≡ U → ⊥) → j < e → get_or (put_mid (U * e) e xs ys) (W * e + j) 0 ≡ get_or xs (W * e + j) 0
    put_there W j other b = by_cases (dec_lt W U)
        (λ h. get_or_put_before 0 xs ys (U * e) e fits as_long (W * e + j) (digits_lt h b))
        (λ h. let after : suc U ≤ W = omega (arith, other) in
        get_or_put_after 0 xs ys (U * e) e fits as_long (W * e + j) (omega (arith, mul-le-mul_right e after, suc-mul U e)))
