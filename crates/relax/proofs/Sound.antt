-- Costs never rise, and every known cost is 0 at home or pays for the next hop.
use Prim.Native.Nat.{ℕ, ◌≤◌}
use mathlib.Core.Path.{◌≡◌, ◌∙◌}
use mathlib.Core.Logic.{◌≢◌, ◌⊎◌, inl, inr, ⊎_elim, by_cases}
use mathlib.Core.Bool.{true}
use native.Mathlib.Omega.{arith}
use native.Mathlib.Nat.{le_refl, le_trans}
use Rattle.lists.proofs.Tests.{bool_cases}
use Rattle.relax.specs.Graph.{Graph, State, no_row, Fresh, Takes, Deliver, Step, deliver, stutter, Reach, Later, now, after}
use Rattle.relax.specs.Journeys.{Hop, Sound}
use Rattle.relax.proofs.Laws.{takes_below, takes_other, takes?, always}

module _ (g : Graph) where
  open g use {home}

  -- the vertex that a message is about keeps its cost
  pub sender_same : {s t : State} {x U : ℕ} → Deliver g s t x U → t.cost x ≡ s.cost x
  sender_same {x = x} d = d.keep_cost x (takes_other g)

  -- a delivery raises no cost: it lowers the rows that take its offer
  pub cost_falls : {s t : State} {x U : ℕ} → Deliver g s t x U → (v : ℕ) → t.cost v ≤ s.cost v
  cost_falls {s} {x = x} {U = U} d v = by_cases (takes? g s x U v)
      (λ k. omega (arith, d.take_cost v k, takes_below g k))
      (λ k. omega (arith, d.keep_cost v k))

  -- nor does a step
  pub step_falls : {s t : State} → Step g s t → (v : ℕ) → t.cost v ≤ s.cost v
  step_falls (deliver x U d) v = cost_falls d v
  step_falls (stutter e) v = omega (arith, e.same_cost v)

  -- so costs never rise
  pub later_falls : {s t : State} → Later g s t → (v : ℕ) → t.cost v ≤ s.cost v
  later_falls now v = le_refl _
  later_falls (after l k) v = le_trans (step_falls k v) (later_falls l v)

  sound_fresh : (s : State) → Fresh g s → Sound g s
  sound_fresh s f = record {
    home_zero = f.home_cost;
    known = λ v n. bool_cases (home v) (λ h. inl (h, f.home_cost v h)) (λ h. absurd (n (f.away_cost v h)));
  }

  module _ {s t : State} {x U : ℕ} (d : Deliver g s t x U) (p : Sound g s) (v : ℕ) where
    -- a row that took the offer pays for its hop to x, whose cost is as it was
    sound_took : Takes g s x U v → Hop g t v
    sound_took k = record {
      away = omega (arith, d.take_cost v k, k.hop);
      hop = rw (d.take_next v k) k.hop;
      pays = rw (d.take_next v k) (omega (arith, d.take_cost v k, sender_same d));
    }

    -- a row that did not still pays: the cost at its hop's end can only have fallen
    hop_kept : ¬ Takes g s x U v → Hop g s v → Hop g t v
    hop_kept k h = record {
      away = omega (arith, d.keep_cost v k, h.away);
      hop = rw (d.keep_next v k) h.hop;
      pays = rw (d.keep_next v k) (omega (arith, d.keep_cost v k, cost_falls d (s.next v), h.pays));
    }

    sound_kept : ¬ Takes g s x U v → t.cost v ≢ no_row → ((home v ≡ true) × (t.cost v ≡ 0)) ⊎ Hop g t v
    sound_kept k n = ⊎_elim
        (λ h. inl (h.0, d.keep_cost v k ∙ h.1))
        (λ h. inr (hop_kept k h))
        (p.known v (λ e. n (d.keep_cost v k ∙ e)))

  sound_deliver : (s t : State) (x U : ℕ) → Reach g s → Sound g s → Deliver g s t x U → Sound g t
  sound_deliver s t x U r p d = record {
    home_zero = λ v h. omega (arith, p.home_zero v h, cost_falls d v);
    known = λ v n. by_cases (takes? g s x U v) (λ k. inr (sound_took d p v k)) (λ k. sound_kept d p v k n);
  }

  -- 1. every reachable state is sound
  pub sound : {s : State} → Reach g s → Sound g s
  sound = always g (Sound g) sound_fresh sound_deliver
