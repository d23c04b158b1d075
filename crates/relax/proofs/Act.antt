-- The model is not empty: a start, a delivery for each message that waits, and from every reachable state a way to a quiet one.
-- `start` and `act` stand here and not in specs/: no theorem elsewhere rests on them, and `act` needs the decision `takes?`.
use Prim.Native.Nat.{ℕ, zero, suc, ◌+◌, ◌<◌}
use mathlib.Core.Path.{◌≡◌, ◌∙◌}
use mathlib.Core.Logic.{◌⊎◌, inl, inr, ⊎_elim, by_cases, ite, if_pos, if_neg}
use mathlib.Core.Bool.{Bool, true, false, cond, ◌||◌, or-false, or-true}
use native.Mathlib.Omega.{arith}
use native.Mathlib.Decide.{dec_lt}
use Rattle.lists.proofs.Tests.{bool_cases}
use Rattle.relax.specs.Graph.{Graph, Lawful, State, no_row, cleared, Fresh, Deliver, Step, deliver, Reach, more, Later, now, after}
use Rattle.relax.specs.Journeys.{Quiet, measure}
use Rattle.relax.proofs.Laws.{takes?}
use Rattle.relax.proofs.Ends.{measure_falls, waits, priced_below}

-- a test below n that passes, or none does
find : (n : ℕ) (p : ℕ → Bool) → ((i : ℕ) × (p i ≡ true)) ⊎ ((i : ℕ) → i < n → p i ≡ false)
find zero p = inr (λ i b. absurd (omega arith))
find (suc n) p = ⊎_elim (λ h. inl h) (λ low. bool_cases (p n) (λ e. inl (n, e)) (λ e. inr (go low e))) (find n p)
  where
    go : ((i : ℕ) → i < n → p i ≡ false) → p n ≡ false → (i : ℕ) → i < suc n → p i ≡ false
    go low e i b = by_cases (dec_lt i n) (low i) (λ h. let same : i ≡ n = omega arith in rw same e)

-- the same of a test of two numbers
find₂ : (m n : ℕ) (p : ℕ → ℕ → Bool) → ((i : ℕ) × (j : ℕ) × (p i j ≡ true)) ⊎ ((i j : ℕ) → i < m → j < n → p i j ≡ false)
find₂ zero n p = inr (λ i j b _. absurd (omega arith))
find₂ (suc m) n p = ⊎_elim (λ h. inl h) (λ low. ⊎_elim (λ h. inl (m, h.0, h.1)) (λ e. inr (go low e)) (find n (p m))) (find₂ m n p)
  where
    go : ((i j : ℕ) → i < m → j < n → p i j ≡ false) → ((j : ℕ) → j < n → p m j ≡ false) → (i j : ℕ) → i < suc m → j < n → p i j ≡ false
    go low e i j b h = by_cases (dec_lt i m) (λ l. low i j l h) (λ l. let same : i ≡ m = omega arith in rw same (e j h))

module _ (g : Graph) where
  open g use {size, weight, node, neighbour, home}

  -- a first state
  unfoldable pub start : State
  start = record {
    cost = λ v. cond (home v) 0 no_row;
    next = λ v. 0;
    waiting = λ v U. cond (home v) (neighbour (node v) U) false;
  }

  -- it is fresh, so that every graph has a reachable state
  pub start_fresh : Fresh g start
  unfolding start
  start_fresh = record {
    home_cost = λ v h. rw h;
    away_cost = λ v h. rw h;
    home_waiting = λ v U h. rw h;
    away_waiting = λ v U h. rw h;
  }

  -- the delivery as a function
  unfoldable pub act : State → ℕ → ℕ → State
  act s x U = record {
    cost = λ u. ite (takes? g s x U u) (s.cost x + weight u x) (s.cost u);
    next = λ u. ite (takes? g s x U u) x (s.next u);
    waiting = λ u Q. ite (takes? g s x U u) (s.waiting u Q || neighbour (node u) Q)
        (cond (cleared x U u Q) false (s.waiting u Q));
  }

  -- 6. whatever waits can be delivered
  pub act_delivers : (s : State) (x U : ℕ) → s.waiting x U ≡ true → Deliver g s (act s x U) x U
  unfolding act
  act_delivers s x U m = record {
    waits = m;
    take_cost = λ u k. if_pos (takes? g s x U u) k _ _;
    take_next = λ u k. if_pos (takes? g s x U u) k _ _;
    take_waiting = λ u Q k h. if_pos (takes? g s x U u) k _ _ ∙ rw h (or-true (s.waiting u Q));
    take_rest = λ u Q k h. if_pos (takes? g s x U u) k _ _ ∙ rw h (or-false (s.waiting u Q));
    keep_cost = λ u k. if_neg (takes? g s x U u) k _ _;
    keep_next = λ u k. if_neg (takes? g s x U u) k _ _;
    keep_waiting = λ u Q k e. if_neg (takes? g s x U u) k _ _ ∙ rw e;
    heard = λ u Q k e. if_neg (takes? g s x U u) k _ _ ∙ rw e;
  }

  -- a step before is a step more
  pub later_first : {s t u : State} → Step g s t → Later g t u → Later g s u
  later_first k now = after now k
  later_first k (after l m) = after (later_first k l) m

  module _ (ok : Lawful g) (N : ℕ) (few : (Q U : ℕ) → neighbour Q U ≡ true → U < N) where
    -- a message waits, or the state is quiet
    pub quiet? : {s : State} → Reach g s → ((x : ℕ) × (U : ℕ) × (s.waiting x U ≡ true)) ⊎ Quiet s
    quiet? {s} r = ⊎_elim (λ h. inl h) (λ none. inr (λ v U. bool_cases (s.waiting v U) (λ m. go none v U m) (λ e. e))) (find₂ size N s.waiting)
      where
        go : ((v U : ℕ) → v < size → U < N → s.waiting v U ≡ false) → (v U : ℕ) → s.waiting v U ≡ true → s.waiting v U ≡ false
        go none v U m = let k = waits g ok r v U m in none v U (priced_below g ok r v k.priced) (few _ _ k.sent)

    -- by induction on n, a bound of the measure: deliver whatever waits
    settles_within : (n : ℕ) {s : State} → Reach g s → measure size N s < n → (t : State) × Later g s t × Quiet t
    settles_within zero r b = absurd (omega arith)
    settles_within (suc n) {s} r b = ⊎_elim
        (λ m. go m.0 m.1 m.2 (λ d. settles_within n {s = act s m.0 m.1} (more r (deliver m.0 m.1 d)) (omega (arith, measure_falls g ok N few r d))))
        (λ q. (s, now, q))
        (quiet? r)
      where
        go : (x U : ℕ) → s.waiting x U ≡ true → (Deliver g s (act s x U) x U → (t : State) × Later g (act s x U) t × Quiet t)
            → (t : State) × Later g s t × Quiet t
        go x U m next =
            let d = act_delivers s x U m in
            let l = next d in
            (l.0, later_first (deliver x U d) l.1, l.2)

    -- 6. from every reachable state deliveries can lead to a quiet one
    pub settles : {s : State} → Reach g s → (t : State) × Later g s t × Quiet t
    settles {s} r = settles_within (suc (measure size N s)) r (omega arith)
