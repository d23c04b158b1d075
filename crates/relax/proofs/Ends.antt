-- Deliveries end: each lowers a measure, the sum of the costs before the number of messages that wait.
use Prim.Native.Nat.{ℕ, suc, ◌+◌, ◌*◌, ◌≤◌, ◌<◌}
use mathlib.Core.Path.{◌≡◌, sym, ◌∙◌, ap}
use mathlib.Core.Logic.{◌≢◌, ◌⊎◌, inl, inr, ⊎_elim, by_cases}
use mathlib.Core.Bool.{true, false, true≢false}
use native.Mathlib.Omega.{arith}
use native.Mathlib.Nat.{mul-le-mul_right}
use native.Mathlib.Decide.{dec_lt}
use Rattle.lists.specs.Lists as lists
use Rattle.lists.proofs.Tests.{bool_cases}
use Rattle.relax.specs.Graph.{Graph, Lawful, State, no_row, cleared, Fresh, Takes, Deliver, Reach, fresh}
use Rattle.relax.specs.Journeys.{sum, messages, measure, bound, Waits, Run, rest, one, idle}
use Rattle.relax.proofs.Sum.{sum_le, sum_lt, sum_most, bit_one, bit_le, bit_lt}
use Rattle.relax.proofs.Laws.{same_path, takes_below, takes?, heard_here, run_reach, always}
use Rattle.relax.proofs.Sound.{cost_falls, sound}
use Rattle.relax.proofs.Ceiling.{below_no_row}

-- no more messages wait than there are places for one
messages_most : (size N : ℕ) (s : State) → messages size N s ≤ size * N
unfolding messages
messages_most size N s = sum_most size N _ (λ v. omega (arith, sum_most N 1 (λ U. lists.one (s.waiting v U)) (λ U. bit_one (s.waiting v U))))

-- fewer wait, if none is new and one is gone
messages_lt : (size N : ℕ) (s t : State) (x U : ℕ) → x < size → U < N → ((v Q : ℕ) → t.waiting v Q ≡ true → s.waiting v Q ≡ true)
    → t.waiting x U ≡ false → s.waiting x U ≡ true → messages size N t < messages size N s
unfolding messages
messages_lt size N s t x U hx h_u sub a b = sum_lt size _ _
    (λ v. sum_le N _ _ (λ Q. bit_le (t.waiting v Q) (s.waiting v Q) (sub v Q)))
    x hx (sum_lt N _ _ (λ Q. bit_le (t.waiting x Q) (s.waiting x Q) (sub x Q)) U h_u (bit_lt (t.waiting x U) (s.waiting x U) a b))

module _ (g : Graph) (ok : Lawful g) where
  open g use {size, node, neighbour, home}

  -- the invariant
  Waited : State → Type 0
  Waited s = (v U : ℕ) → s.waiting v U ≡ true → Waits g s v U

  waited_fresh : (s : State) → Fresh g s → Waited s
  unfolding Waited
  waited_fresh s f v U m = bool_cases (home v)
      (λ h. record { priced = λ e. omega (arith, f.home_cost v h); sent = sym (f.home_waiting v U h) ∙ m })
      (λ h. absurd (true≢false (sym m ∙ f.away_waiting v U h)))

  -- what waits after a delivery that leaves v's row alone waited before
  waited_before : {s t : State} {x U : ℕ} → Deliver g s t x U → (v Q : ℕ) → t.waiting v Q ≡ true → ¬ Takes g s x U v → s.waiting v Q ≡ true
  waited_before {x = x} {U = U} d v Q m k = bool_cases (cleared x U v Q)
      (λ e. absurd (true≢false (sym m ∙ d.heard v Q k e)))
      (λ e. sym (d.keep_waiting v Q k e) ∙ m)

  module _ {s t : State} {x U : ℕ} (r : Reach g s) (d : Deliver g s t x U) (p : Waited s) (v Q : ℕ) (m : t.waiting v Q ≡ true) where
    waited_took : Takes g s x U v → Waits g t v Q
    unfolding Waited
    waited_took k = record {
      priced = λ e. omega (arith, d.take_cost v k, takes_below g k, below_no_row g ok r v);
      sent = bool_cases (neighbour (node v) Q) (λ h. h) (λ h. (p v Q (sym (d.take_rest v Q k h) ∙ m)).sent);
    }

    waited_kept : ¬ Takes g s x U v → Waits g t v Q
    unfolding Waited
    waited_kept k =
        let old = p v Q (waited_before d v Q m k) in
        record { priced = λ e. old.priced (sym (d.keep_cost v k) ∙ e); sent = old.sent }

  waited_deliver : (s t : State) (x U : ℕ) → Reach g s → Waited s → Deliver g s t x U → Waited t
  unfolding Waited
  waited_deliver s t x U r p d v Q m = by_cases (takes? g s x U v) (waited_took r d p v Q m) (waited_kept r d p v Q m)

  -- a message waits only about a vertex with a cost, and only for a gateway that its owner sends to
  pub waits : {s : State} → Reach g s → (v U : ℕ) → s.waiting v U ≡ true → Waits g s v U
  unfolding Waited
  waits = always g Waited waited_fresh waited_deliver

  -- whatever has a cost is a vertex
  pub priced_below : {s : State} → Reach g s → (v : ℕ) → s.cost v ≢ no_row → v < size
  priced_below r v n = ⊎_elim (λ h. ok.home_below v h.0) (λ h. ok.hop_from v _ h.hop) ((sound g r).known v n)

  -- N: every gateway that is sent to is below it
  module _ (N : ℕ) (few : (Q U : ℕ) → neighbour Q U ≡ true → U < N) where
    module _ {s t : State} {x U : ℕ} (r : Reach g s) (d : Deliver g s t x U) where
      total_falls : sum size t.cost ≤ sum size s.cost
      total_falls = sum_le size _ _ (cost_falls g d)

      -- if no row changes, one message fewer waits
      fewer_wait : ((u : ℕ) → ¬ Takes g s x U u) → messages size N t < messages size N s
      fewer_wait k =
          let old = waits r x U d.waits in
          messages_lt size N s t x U (priced_below r x old.priced) (few _ _ old.sent)
          (λ v Q m. waited_before d v Q m (k v)) (heard_here g d) d.waits

      -- if the sum of the costs does not fall, nobody took the offer
      none_takes : ¬ (sum size t.cost < sum size s.cost) → (u : ℕ) → ¬ Takes g s x U u
      none_takes n u k = n (sum_lt size _ _ (cost_falls g d) u (ok.hop_from u x k.hop) (omega (arith, d.take_cost u k, takes_below g k)))

      -- 5. each delivery lowers some cost, or leaves fewer messages
      pub lowers : (sum size t.cost < sum size s.cost) ⊎ ((sum size t.cost ≡ sum size s.cost) × (messages size N t < messages size N s))
      lowers = by_cases (dec_lt (sum size t.cost) (sum size s.cost))
          (λ h. inl h)
          (λ n. inr (omega (arith, total_falls), fewer_wait (none_takes n)))

      -- 5. so each delivery lowers the measure
      pub measure_falls : measure size N t < measure size N s
      unfolding measure
      measure_falls = ⊎_elim
          (λ h. omega (arith, mul-le-mul_right (suc (size * N)) h, messages_most size N t))
          (λ h. omega (arith, h.1, ap (λ (a : ℕ). a * suc (size * N)) h.0))
          lowers

    -- 5. no run is longer than the measure
    pub run_ends : {s t : State} {n : ℕ} → Reach g s → Run g s t n → measure size N t + n ≤ measure size N s
    run_ends r rest = omega arith
    run_ends r (one x U p d) = omega (arith, run_ends r p, measure_falls (run_reach g r p) d)
    run_ends r (idle p e) = omega (arith, run_ends r p, ap (measure size N) (same_path e))

    -- no measure is above the bound
    pub fresh_measure : {s : State} → Reach g s → measure size N s ≤ bound size N
    unfolding measure
    fresh_measure {s} r = omega (arith, mul-le-mul_right (suc (size * N)) (sum_most size no_row s.cost (below_no_row g ok r)), messages_most size N s)

    -- 5. every run of deliveries from a fresh state is finite, and no longer than this
    pub run_bound : {s t : State} {n : ℕ} → Fresh g s → Run g s t n → n ≤ size * no_row * suc (size * N) + size * N
    run_bound f p = omega (arith, run_ends (fresh f) p, fresh_measure (fresh f))
