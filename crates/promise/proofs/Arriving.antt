-- A carry arrives where the lookup shows a cost: the cost pays for every hop.
use Prim.Native.Nat.{ℕ, zero, suc, ◌+◌, ◌-◌, ◌≤◌, ◌<◌}
use native.Mathlib.Nat.{le_refl}
use native.Mathlib.Omega.{arith}
use mathlib.Core.Path.{◌≡◌, refl, sym, ap, ◌∙◌, subst}
use mathlib.Core.Logic.{◌≢◌}
use mathlib.Core.List.{List}
use mathlib.Core.Bool.{true}
use borrow.Author.Tests.{eq-eqb, le-leb}
use Rattle.lists.proofs.Tests.{bool_cases}
use Rattle.stacks.specs.Stacks.{number}
use Rattle.network.specs.Network.{Network}
use Rattle.network.proofs.Laws.{valid}
use Rattle.table.specs.Table.{Table, no_row, ceiling, rows_each, home}
use Rattle.table.specs.Answers.{refusal}
use Rattle.table.proofs.Rows.{Stack}
use Rattle.forward.specs.Forward.{forward, cost_of, next_of, result_of}
use Rattle.carry.specs.Carry.{Journey, stop, after, onward, journey, carry_of}
use Rattle.forward.specs.Answers.{lookup_of}
use Rattle.promise.specs.Routes.{Network16, Reached, Arrives}
use Rattle.promise.proofs.Reaching.{reached_refusal}
use Rattle.promise.proofs.Onward.{cost_most, goes_on}
use Rattle.promise.proofs.Looking.{packet_ok, numbered, shown}
use Rattle.promise.proofs.Homes.{number_one, at_home}
use Rattle.promise.proofs.Hopping.{rank, rank_most, rank_falls, away_row, looks_home, looks_on}

module _ (net : Network) (ok : Network16 net) (D : ℕ) where
  -- a packet that is home has arrived
  arrives_home : (c U N : ℕ) → 1 ≤ N → home net U D N ≡ true → Arrives net D c (stop U N 0)
  arrives_home c U N some e =
      let h = at_home net ok U D N e in
      record { unrefused = refl; there = h.there; header = (N - 1, h.accepted, omega (arith, number_one net.p (N - 1))); paid = omega arith }

  -- one hop more, which is paid for
  arrives_after : (c left cost : ℕ) (j : Journey) → left + cost ≤ c → Arrives net D left j → Arrives net D c (after cost j)
  arrives_after c left cost j most a = record { unrefused = a.unrefused; there = a.there; header = a.header; paid = omega (arith, a.paid) }

-- a rank that falls, and the hops that are left
none_left : (a b : ℕ) → a < b → b ≤ 0 → ⊥
none_left a b low most = omega arith

one_less : (a b left : ℕ) → a < b → b ≤ suc left → a ≤ left
one_less a b left low most = omega arith

-- a cost that a cost below the ceiling pays for is one
still_priced : (left weight cost : ℕ) → left + weight ≤ cost → cost ≤ ceiling → left ≢ no_row
still_priced left weight cost pays most z = omega arith

module _ (net : Network) (ok : Network16 net) (t : Table) (r : Reached net t) (D : ℕ) (d : D < net.n) where
  journey_arrives : (left U N : ℕ) → U < net.n → Stack net N → rank net t D (cost_of net t U D N) ≤ left → cost_of net t U D N ≢ no_row
      → Arrives net D (cost_of net t U D N) (journey net t D left U N)
  journey_arrives zero U N u n h c = bool_cases (home net U D N)
      (λ e. subst (Arrives net D (cost_of net t U D N)) (sym (ap (onward net t D 0 (λ W M. stop W M 8) U N) (looks_home net ok t r D d U N u n e)))
      (arrives_home net ok D (cost_of net t U D N) U N n.some e))
      (λ e. absurd (none_left _ _ (rank_falls net ok t r D d U N u n e c) h))
  journey_arrives (suc left) U N u n h c = bool_cases (home net U D N)
      (λ e. subst (Arrives net D (cost_of net t U D N))
      (sym (ap (onward net t D (suc left) (journey net t D left) U N) (looks_home net ok t r D d U N u n e)))
      (arrives_home net ok D (cost_of net t U D N) U N n.some e))
      (λ e. let g = goes_on net ok t r U D N (away_row net ok t r D d U N u n e) c in
      subst (Arrives net D (cost_of net t U D N)) (sym (ap (onward net t D (suc left) (journey net t D left) U N) (looks_on net ok t r D d U N u n e c)))
      (arrives_after net ok D (cost_of net t U D N) (cost_of net t (next_of net t U D N) D (result_of net t U D N)) _ _ g.pays
      (journey_arrives left (next_of net t U D N) (result_of net t U D N) g.next_node g.next_stack (one_less _ _ left (rank_falls net ok t r D d U N u n e c) h)
      (still_priced _ _ _ g.pays (cost_most net ok t r U D N c u d n)))))

module _ (net : Network) (ok : Network16 net) (t : Table) (U D W f M c : ℕ) (stack : List ℕ) (r : Reached net t)
    (e : lookup_of net t U D stack ≡ forward W f M c) where
  carry_arrives : (limit : ℕ) → limit ≤ 16384 → rows_each net ≤ limit → Arrives net D c (carry_of net t U D stack limit)
  unfolding carry_of
  carry_arrives limit few enough =
      let s = shown net t U D W f M c stack e in
      let k = s.asked in
      rw (eq-eqb (refusal net t) 0 (reached_refusal net ok r), packet_ok net t U D stack k, le-leb limit 16384 few)
      (subst (λ (x : ℕ). Arrives net D x (journey net t D limit U (number net.p stack))) s.cost
      (journey_arrives net ok t r D k.destination limit U (number net.p stack) k.node (numbered net ok stack k.stack_ok)
      (omega (arith, rank_most net t D (cost_of net t U D (number net.p stack)))) (λ z. s.priced (sym s.cost ∙ z))))

  pub carries : Arrives net D c (carry_of net t U D stack 16384)
  carries = carry_arrives 16384 (le_refl 16384) (valid net ok.valid).room
