-- A packet at a vertex with a known cost c is carried home: in at most c hops, and spending at most c, whatever is delivered on the way.
use Prim.Native.Nat.{ℕ, zero, suc, ◌+◌, ◌-◌, ◌≤◌, ◌<◌}
use mathlib.Core.Path.{◌≡◌, refl, sym, ◌∙◌, subst}
use mathlib.Core.Logic.{◌≢◌, ⊎_elim}
use mathlib.Core.Bool.{false, true≢false}
use native.Mathlib.Omega.{arith}
use Rattle.relax.specs.Graph.{Graph, Lawful, State, no_row, Reach, Later}
use Rattle.relax.specs.Journeys.{Hop, Carried, arrived, onward, Trip, begin, hop, Left}
use Rattle.relax.proofs.Laws.{reach_later}
use Rattle.relax.proofs.Sound.{sound, later_falls}
use Rattle.relax.proofs.Ceiling.{below_no_row}

module _ (g : Graph) where
  open g use {weight, home}

  -- by induction on n, a bound of c: the hop costs something, and costs only fall
  carried_within : (n : ℕ) {s : State} (v c : ℕ) → c < n → Reach g s → s.cost v ≤ c → c < no_row → Carried g s v c
  carried_within zero v c b r h l = absurd (omega arith)
  carried_within (suc n) {s} v c b r h l = ⊎_elim
      (λ k. arrived k.0)
      (λ k. go k (λ t f m. carried_within n {s = t} (s.next v) (c - weight v (s.next v)) (omega (arith, k.hop, k.pays)) (reach_later g r f) m (omega arith)))
      ((sound g r).known v (λ e. omega arith))
    where
      go : Hop g s v
          → ((t : State) → Later g s t → t.cost (s.next v) ≤ c - weight v (s.next v) → Carried g t (s.next v) (c - weight v (s.next v)))
          → Carried g s v c
      go k rest = onward {s = s} {v = v} {c = c} k.away h k.hop (omega (arith, k.pays)) (λ t f. rest t f (omega (arith, k.pays, later_falls g f (s.next v))))

  -- one hop more: the home case is excluded, and the rest is what `onward` promises of every later state
  left_on : {t z : State} {u n k c d : ℕ} → d ≡ c - k → Carried g t u d → home u ≡ false → Later g t z → n ≤ k → k ≤ c
      → Left g z (t.next u) (suc n) (k + weight u (t.next u)) c
  left_on e (arrived h) away f a b = absurd (true≢false (sym h ∙ away))
  left_on {t} {z} {u} {n} {k} {c} {d} e (onward a₀ b₀ p q rest) away f a b =
      let less : d - weight u (t.next u) ≡ c - (k + weight u (t.next u)) = omega arith in
      record { hops = omega arith; spent = omega arith; on = rw less at (rest z f) }

  left_hop : {t z : State} {u n k c : ℕ} → Left g t u n k c → home u ≡ false → Later g t z → Left g z (t.next u) (suc n) (k + weight u (t.next u)) c
  left_hop l away f = left_on refl l.on away f l.hops l.spent

  -- a packet makes no more hops than it spends, spends no more than c, and is carried on from where it is
  pub trip : {s : State} {v : ℕ} {t : State} {u c n k : ℕ} → Carried g s v c → Trip g s v t u n k → Left g t u n k c
  trip {s = s} {v = v} {c = c} p begin =
      let all : c ≡ c - 0 = omega arith in
      record { hops = omega arith; spent = omega arith; on = subst (Carried g s v) all p }
  trip p (hop q away f) = left_hop (trip p q) away f

  -- whoever can reach home for at most c, and later only for less, is carried home for c
  pub carried_for : {s : State} → Reach g s → (v c : ℕ) → s.cost v ≤ c → c < no_row → Carried g s v c
  carried_for r v c h l = carried_within (suc c) v c (omega arith) r h l

  module _ (ok : Lawful g) where
    -- 3. whoever has a cost c can be carried home for c
    pub carried : {s : State} → Reach g s → (v c : ℕ) → s.cost v ≡ c → c ≢ no_row → Carried g s v c
    carried r v c e n = carried_for r v c (omega arith) (omega (arith, below_no_row g ok r v))

    -- so wherever it has come to, the packet has made at most c hops, spent at most c, and is home or can go on
    pub travels : {s t : State} {v u n k : ℕ} → Reach g s → s.cost v ≢ no_row → Trip g s v t u n k → Left g t u n k (s.cost v)
    travels {s} {v = v} r h p = trip (carried r v (s.cost v) refl h) p
