-- The way of every row with a cost, but for the homes: it names a function that the node can, a link, and a stack that the function makes.
use Prim.Native.Nat.{ℕ, ◌+◌, ◌*◌, ◌/◌, ◌%◌, ◌<◌}
use native.Mathlib.Decide.{ℕ_discrete}
use native.Mathlib.Omega.{arith}
use mathlib.Core.Path.{◌≡◌, sym, ap, ◌∙◌, subst}
use mathlib.Core.Logic.{◌≢◌, by_cases}
use mathlib.Core.Bool.{Bool, true, false, cond, ◌&&◌}
use lib.ListN.{get_or}
use lib.Dec.{ltb, eqb}
use borrow.Author.Tests.{ltb-true}
use Rattle.lists.proofs.Tests.{bool_cases, both}
use Rattle.relax.specs.Graph.{wins}
use Rattle.functions.specs.Answers.{applied_of, number_after, made}
use Rattle.network.specs.Network.{Network, present}
use Rattle.network.proofs.Laws.{valid}
use Rattle.gateways.specs.Gateways.{can}
use Rattle.hear.specs.Hearing.{leader}
use Rattle.table.specs.Table.{Table, Sized, no_row, place, home, gateway, fresh, delivered}
use Rattle.table.specs.Answers.{message_refusal}
use Rattle.table.proofs.Rows.{Stack}
use Rattle.table.proofs.Deliveries.{Goes, goes, told, leader_of, offer_to, took, changes, stays}
use Rattle.table.proofs.Refusals.{delivery_cases}
use Rattle.bridge.specs.Bridge.{about}
use Rattle.bridge.proofs.Beginning.{fresh_cost}
use Rattle.bridge.proofs.Hops.{By, leader_about, leader_by}
use Rattle.promise.specs.Routes.{Network16, Reached, begun, delivery}
use Rattle.promise.proofs.Reaching.{sized}

module _ (net : Network) where
  -- at the node U, a packet whose stack has number N can go the way
  pub record Leading (U N way : ℕ) : Type 0 where
    pub can_it : can net U (way % 256) ≡ true
    pub linked : present net U (way / 256) ≡ true
    pub makes : applied_of net.p net.h (way % 256) N ≡ made (number_after (applied_of net.p net.h (way % 256) N))

  -- a way is made of the next node and a function below 256
  leading_by : (U N W f M : ℕ) → f < 192 → present net U W ≡ true → By net U N M f → Leading U N (256 * W + f)
  leading_by U N W f M low linked by =
      let node : (256 * W + f) / 256 ≡ W = omega arith in
      let function : (256 * W + f) % 256 ≡ f = omega arith in
      record {
        can_it = rw function by.has_it;
        linked = rw node linked;
        makes = rw function (by.makes ∙ ap (λ (m : ℕ). made m) (ap number_after (sym by.makes)));
      }

  -- the row of U for the destination D and the stack number N is one of the table's, and not a home
  pub record Away (U D N : ℕ) : Type 0 where
    pub node : U < net.n
    pub destination : D < net.n
    pub stack : Stack net N
    pub away : home net U D N ≡ false

  -- every row with a cost leads on
  Led : Table → Type 0
  Led t = (U D N : ℕ) → Away U D N → get_or t.cost (place net U D N) 0 ≢ no_row → Leading U N (get_or t.way (place net U D N) 0)

  led_fresh : Led (fresh net)
  unfolding Led
  led_fresh U D N a priced = absurd (priced (fresh_cost net U D N a.destination a.stack a.node ∙ ap (λ (b : Bool). cond b 0 no_row) a.away))

  module _ (ok : Network16 net) (t : Table) (s : Sized net t) (Q Z E M : ℕ) (go : Goes net t Q Z E M) (D N : ℕ) (d : D < net.n) (n : Stack net N) where
    -- a row of the hearing node that takes the offer goes to the sender, by the leader
    led_took : took net t Q Z E M D N ≡ true → Leading Z N (get_or (delivered net t Q Z E M).way (place net Z D N) 0)
    unfolding took
    led_took e =
        let f = leader_of net t Q Z E M N in
        let a = both (eqb D E) (ltb f 192 && wins (offer_to net t Q Z E M N) (get_or t.cost (place net Z D N) 0)) e in
        let low : f < 192 = ltb-true f 192 (both (ltb f 192) (wins (offer_to net t Q Z E M N) (get_or t.cost (place net Z D N) 0)) a.1).0 in
        let same : f ≡ leader (gateway net Z) (about M) N = leader_about net (told net t Q Z E M) Z N in
        let by : By net Z N M f = subst (By net Z N M) (sym same) (leader_by net (valid net ok.valid).size Z N M (omega arith)) in
        subst (Leading Z N) (sym (changes net t Q Z E M s go.receiver D N d n e).way) (leading_by Z N Q f M low go.linked by)

    -- every other row stays as it was
    led_stays : (U : ℕ) → (U ≡ Z → took net t Q Z E M D N ≡ false)
        → (get_or t.cost (place net U D N) 0 ≢ no_row → Leading U N (get_or t.way (place net U D N) 0))
        → get_or (delivered net t Q Z E M).cost (place net U D N) 0 ≢ no_row → Leading U N (get_or (delivered net t Q Z E M).way (place net U D N) 0)
    led_stays U not_took before priced =
        let kept = stays net t Q Z E M s go.receiver D N d n U not_took in
        subst (Leading U N) (sym kept.way) (before (λ e. priced (kept.cost ∙ e)))

  led_delivered : Network16 net → (t : Table) (Q Z E M : ℕ) → Sized net t → message_refusal net t Q Z E M ≡ 0 → Led t → Led (delivered net t Q Z E M)
  unfolding Led
  led_delivered ok t Q Z E M s e before U D N a priced =
      let go = goes net t Q Z E M e in
      bool_cases (took net t Q Z E M D N)
      (λ yes_took. by_cases (ℕ_discrete U Z)
      (λ q. subst (λ (X : ℕ). Leading X N (get_or (delivered net t Q Z E M).way (place net X D N) 0)) (sym q) (led_took ok t s Q Z E M go D N a.destination
      a.stack yes_took))
      (λ other. led_stays ok t s Q Z E M go D N a.destination a.stack U (λ q. absurd (other q)) (before U D N a) priced))
      (λ not_took. led_stays ok t s Q Z E M go D N a.destination a.stack U (λ q. not_took) (before U D N a) priced)

  led_reached : Network16 net → {t : Table} → Reached net t → Led t
  led_reached ok begun = led_fresh
  led_reached ok (delivery {t = t} Q Z E M r) =
      delivery_cases net t Q Z E M Led (λ e. led_delivered ok t Q Z E M (sized net r) e (led_reached ok r)) (led_reached ok r)

  pub led : Network16 net → {t : Table} → Reached net t → (U D N : ℕ) → Away U D N → get_or t.cost (place net U D N) 0 ≢ no_row
      → Leading U N (get_or t.way (place net U D N) 0)
  unfolding Led
  led ok r = led_reached ok r
