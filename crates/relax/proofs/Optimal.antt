-- Every known cost is that of a route, and once no message waits it is that of a cheapest one.
use Prim.Native.Nat.{ℕ, ◌+◌, ◌≤◌, ◌<◌}
use mathlib.Core.Path.{◌≡◌, sym, ◌∙◌}
use mathlib.Core.Logic.{◌≢◌, ◌↔◌, ◌⊎◌, inl, inr, ⊎_elim, by_cases}
use mathlib.Core.Bool.{true, true≢false}
use native.Mathlib.Omega.{arith}
use native.Mathlib.Decide.{ℕ_discrete}
use Rattle.lists.proofs.Tests.{bool_cases}
use Rattle.relax.specs.Graph.{Graph, Lawful, State, no_row, wins, cleared, Fresh, Takes, Deliver, Reach}
use Rattle.relax.specs.Journeys.{Quiet, Route, here, via}
use Rattle.relax.proofs.Laws.{loses_above, cleared_only, takes_below, takes?, always}
use Rattle.relax.proofs.Sound.{cost_falls, sound}
use Rattle.relax.proofs.Ceiling.{below_no_row, offer_fits}

module _ (g : Graph) where
  open g use {weight, node, home}

  -- a vertex that gets a message costs no more than it offers
  pub heeds : {s t : State} {x U : ℕ} → Deliver g s t x U → (u : ℕ) → node u ≡ U → 0 < weight u x → t.cost u ≤ s.cost x + weight u x
  heeds {s} {t} {x} {U} d u e hop = by_cases (takes? g s x U u)
      (λ k. omega (arith, d.take_cost u k))
      (λ k. bool_cases (wins (s.cost x + weight u x) (s.cost u))
      (λ b. absurd (k (record { mine = e; hop = hop; better = b })))
      (λ b. omega (arith, d.keep_cost u k, loses_above (s.cost x + weight u x) (s.cost u) b)))

  module _ (ok : Lawful g) where
    -- ---- every known cost is that of a route: a row that takes an offer goes by a hop, and on as x does
    Routed : State → Type 0
    Routed s = (v : ℕ) → s.cost v ≢ no_row → Route g v (s.cost v)

    routed_fresh : (s : State) → Fresh g s → Routed s
    unfolding Routed
    routed_fresh s f v n = bool_cases (home v) (λ h. rw (f.home_cost v h) (here h)) (λ h. absurd (n (f.away_cost v h)))

    routed_deliver : (s t : State) (x U : ℕ) → Reach g s → Routed s → Deliver g s t x U → Routed t
    unfolding Routed
    routed_deliver s t x U r p d v n = by_cases (takes? g s x U v)
        (λ k. rw (d.take_cost v k) (via {u = v} {v = x} (omega (arith, k.hop)) (p x (λ e. omega (arith, takes_below g k, below_no_row g ok r v)))))
        (λ k. rw (d.keep_cost v k) (p v (λ e. n (d.keep_cost v k ∙ e))))

    -- 4. whatever has a cost has a route of that cost, in every reachable state
    pub routed : {s : State} → Reach g s → (v : ℕ) → s.cost v ≢ no_row → Route g v (s.cost v)
    unfolding Routed
    routed = always g Routed routed_fresh routed_deliver

    -- ---- where a hop from u leads to x, and x has a cost: a message about x waits for u's gateway, or u has heeded x
    Told : State → Type 0
    Told s = (x u : ℕ) → 0 < weight u x → s.cost x ≢ no_row → (s.waiting x (node u) ≡ true) ⊎ (s.cost u ≤ s.cost x + weight u x)

    told_fresh : (s : State) → Fresh g s → Told s
    unfolding Told
    told_fresh s f x u hop n = bool_cases (home x)
        (λ h. inl (f.home_waiting x (node u) h ∙ ok.hop_heard u x hop))
        (λ h. absurd (n (f.away_cost x h)))

    module _ {s t : State} {x U : ℕ} (d : Deliver g s t x U) (p : Told s) (v u : ℕ) (hop : 0 < weight u v) (k : ¬ Takes g s x U v) where
      -- v kept its cost, and its message for u's gateway is the one that was delivered, or not
      told_waited : s.waiting v (node u) ≡ true → (t.waiting v (node u) ≡ true) ⊎ (t.cost u ≤ t.cost v + weight u v)
      told_waited m = bool_cases (cleared x U v (node u))
          (λ e. let same = cleared_only x U v (node u) e in
          let h : 0 < weight u v → t.cost u ≤ s.cost v + weight u v = rw (← same.0) at (heeds d u same.1) in
          inr (omega (arith, d.keep_cost v k, h hop)))
          (λ e. inl (d.keep_waiting v (node u) k e ∙ m))

      told_kept : t.cost v ≢ no_row → (t.waiting v (node u) ≡ true) ⊎ (t.cost u ≤ t.cost v + weight u v)
      unfolding Told
      told_kept n = ⊎_elim told_waited
          (λ h. inr (omega (arith, d.keep_cost v k, cost_falls g d u)))
          (p v u hop (λ e. n (d.keep_cost v k ∙ e)))

    told_deliver : (s t : State) (x U : ℕ) → Reach g s → Told s → Deliver g s t x U → Told t
    unfolding Told
    told_deliver s t x U r p d v u hop n = by_cases (takes? g s x U v)
        (λ k. inl (d.take_waiting v (node u) k (ok.hop_heard u v hop)))
        (λ k. told_kept d p v u hop k n)

    pub told : {s : State} → Reach g s → (x u : ℕ) → 0 < weight u x → s.cost x ≢ no_row → (s.waiting x (node u) ≡ true) ⊎ (s.cost u ≤ s.cost x + weight u x)
    unfolding Told
    told = always g Told told_fresh told_deliver

    -- ---- in a quiet state
    module _ {s : State} (r : Reach g s) (q : Quiet s) where
      -- no message waits, so every hop has been heeded
      relaxed : (x u : ℕ) → 0 < weight u x → s.cost x ≢ no_row → s.cost u ≤ s.cost x + weight u x
      relaxed x u hop n = ⊎_elim (λ e. absurd (true≢false (sym e ∙ q x (node u)))) (λ h. h) (told r x u hop n)

      -- 4. in a quiet state no route is cheaper than the cost
      pub cheapest : {v k : ℕ} → Route g v k → s.cost v ≤ k
      cheapest (here {v = v} h) = omega (arith, (sound g r).home_zero v h)
      cheapest (via {u = u} {v = v} {k = k} hop p) = go (cheapest p)
        where
          go : s.cost v ≤ k → s.cost u ≤ k + weight u v
          go h = by_cases (ℕ_discrete (s.cost v) no_row)
              (λ e. omega (arith, below_no_row g ok r u))
              (λ n. omega (arith, relaxed v u (omega arith) n))

      -- whatever has a route has a cost
      pub found : {v k : ℕ} → Route g v k → s.cost v ≢ no_row
      found (here {v = v} h) = λ e. omega (arith, (sound g r).home_zero v h)
      found (via {u = u} {v = v} {k = k} hop p) = go (found p)
        where
          go : s.cost v ≢ no_row → s.cost u ≢ no_row
          go n e = omega (arith, relaxed v u (omega arith) n, offer_fits g ok r v u n (omega arith))

      -- the cost is `no_row` exactly where there is no route
      pub lost : (v : ℕ) → (s.cost v ≡ no_row) ↔ ((k : ℕ) → ¬ Route g v k)
      lost v = (λ e k p. found p e, λ none. by_cases (ℕ_discrete (s.cost v) no_row) (λ e. e) (λ n. absurd (none (s.cost v) (routed r v n))))
