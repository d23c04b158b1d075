-- What a lookup answers in a table that can come to be, and what its answer tells. It is never 7.
use Prim.Native.Nat.{ℕ, ◌<◌}
use native.Mathlib.Decide.{ℕ_discrete}
use mathlib.Core.Path.{◌≡◌, refl, ap, ◌∙◌}
use mathlib.Core.Logic.{◌≢◌, by_cases}
use mathlib.Core.List.{List}
use mathlib.Core.Bool.{Bool, true, false, cond, ◌&&◌}
use lib.Dec.{ltb, eqb}
use borrow.Author.Tests.{ltb-true, lt-ltb, eqb-false, eq-eqb, ne_eqb}
use Rattle.std.specs.Prelude.{Result, Ok, Err}
use Rattle.lists.proofs.Tests.{bool_cases, both}
use Rattle.refusal.specs.declared.Refusal.{Refusal}
use Rattle.stacks.specs.Stacks.{ok_stack, number}
use Rattle.stacks.proofs.Laws.{number_in_range}
use Rattle.stacks.proofs.Tests.{within}
use Rattle.network.specs.Network.{Network}
use Rattle.network.proofs.Laws.{valid}
use Rattle.table.specs.Table.{Table, no_row, home}
use Rattle.table.specs.Answers.{refusal}
use Rattle.table.proofs.Rows.{Stack}
use Rattle.forward.specs.Forward.{hop, forward, cost_of, next_of, function_of, result_of, ok_row, look_at}
use Rattle.packet.specs.Packet.{ok_packet}
use Rattle.forward.specs.Answers.{lookup_of}
use Rattle.forward.specs.declared.Hop.{Hop}
use Rattle.forward.specs.declared.Look.{Look}
use Rattle.promise.specs.Routes.{Network16, Reached}
use Rattle.promise.proofs.Reaching.{reached_refusal}
use Rattle.promise.proofs.Ways.{Away}
use Rattle.promise.proofs.Onward.{row_ok}

-- ---- a packet that is not refused
pub record Packet (net : Network) (U D : ℕ) (stack : List ℕ) : Type 0 where
  pub node : U < net.n
  pub destination : D < net.n
  pub stack_ok : ok_stack net.p net.h stack ≡ true

module _ (net : Network) (t : Table) (U D : ℕ) (stack : List ℕ) where
  pub packet : ok_packet net U D stack ≡ true → Packet net U D stack
  unfolding ok_packet
  packet e =
      let a = both (ltb U net.n) (ltb D net.n && ok_stack net.p net.h stack) e in
      let b = both (ltb D net.n) (ok_stack net.p net.h stack) a.1 in
      record { node = ltb-true U net.n a.0; destination = ltb-true D net.n b.0; stack_ok = b.1 }

  pub packet_ok : Packet net U D stack → ok_packet net U D stack ≡ true
  unfolding ok_packet
  packet_ok k = simp (lt-ltb U net.n k.node, lt-ltb D net.n k.destination, k.stack_ok)

-- its stack has a number
pub numbered : (net : Network) → Network16 net → (stack : List ℕ) → ok_stack net.p net.h stack ≡ true → Stack net (number net.p stack)
numbered net ok stack e = within net.p net.h (number net.p stack) (number_in_range net.p net.h (valid net ok.valid).size stack e)

-- ---- the tests that lead to an answer that is no refusal
given : {A : Type 0} (passed : Bool) (x : Result A Refusal) (r : Refusal) (y : A) → cond passed x (Err r) ≡ Ok y → (passed ≡ true) × (x ≡ Ok y)
given true x r y e = (refl, e)
given false x r y e = absurd (cc)

pub asked : (net : Network) (t : Table) (U D : ℕ) (stack : List ℕ) (y : Look) → lookup_of net t U D stack ≡ Ok y
    → Packet net U D stack × (look_at net t U D (number net.p stack) ≡ Ok y)
asked net t U D stack y e =
    let a = given (eqb (refusal net t) 0) _ _ y e in
    let b = given (ok_packet net U D stack) _ _ y a.1 in
    (packet net t U D stack b.0, b.1)

-- and those that lead to a row's own
forward_tests : (c d e : Bool) (w x y z W f M k : ℕ)
    → cond c (Ok Look.Delivered) (cond d (Err Refusal.NoRoute) (cond e (forward w x y z) (Err Refusal.Broken))) ≡ forward W f M k
    → (c ≡ false) × (d ≡ false) × (z ≡ k)
forward_tests false false true w x y z W f M k q =
    let same : hop w x y z ≡ hop W f M k = cc in
    (refl, refl, ap (λ (h : Hop). h.cost) same)
forward_tests false false false w x y z W f M k q = absurd (cc)
forward_tests false true e w x y z W f M k q = absurd (cc)
forward_tests true d e w x y z W f M k q = absurd (cc)

-- what a shown cost tells
pub record Shown (net : Network) (t : Table) (U D : ℕ) (stack : List ℕ) (c : ℕ) : Type 0 where
  pub asked : Packet net U D stack
  pub away : home net U D (number net.p stack) ≡ false
  pub cost : cost_of net t U D (number net.p stack) ≡ c
  pub priced : c ≢ no_row

pub shown : (net : Network) (t : Table) (U D W f M c : ℕ) (stack : List ℕ) → lookup_of net t U D stack ≡ forward W f M c → Shown net t U D stack c
unfolding look_at
shown net t U D W f M c stack e =
    let N = number net.p stack in
    let a = asked net t U D stack _ e in
    let q = forward_tests (home net U D N) (eqb (cost_of net t U D N) no_row) (ok_row net t U D N) (next_of net t U D N) (function_of net t U D N)
    (result_of net t U D N) (cost_of net t U D N) W f M c a.1 in
    record {
      asked = a.0;
      away = q.0;
      cost = q.2;
      priced = λ (z : c ≡ no_row). eqb-false (cost_of net t U D N) no_row q.1 (q.2 ∙ z);
    }

-- ---- and the other way round: what is answered where
module _ (net : Network) (ok : Network16 net) (t : Table) (r : Reached net t) (U D : ℕ) (stack : List ℕ) where
  abbrev N : ℕ
  N = number net.p stack

  module _ (k : Packet net U D stack) where
    looks : lookup_of net t U D stack ≡ look_at net t U D N
    looks = simp (eq-eqb (refusal net t) 0 (reached_refusal net ok r), packet_ok net t U D stack k)

    pub away_row : home net U D N ≡ false → Away net U D N
    away_row e = record { node = k.node; destination = k.destination; stack = numbered net ok stack k.stack_ok; away = e }

    pub looks_home : home net U D N ≡ true → lookup_of net t U D stack ≡ Ok Look.Delivered
    unfolding look_at
    looks_home e = looks ∙ simp e

    pub looks_none : home net U D N ≡ false → cost_of net t U D N ≡ no_row → lookup_of net t U D stack ≡ Err Refusal.NoRoute
    unfolding look_at
    looks_none e c = looks ∙ simp (e, eq-eqb (cost_of net t U D N) no_row c)

    pub looks_on : home net U D N ≡ false → cost_of net t U D N ≢ no_row
        → lookup_of net t U D stack ≡ forward (next_of net t U D N) (function_of net t U D N) (result_of net t U D N) (cost_of net t U D N)
    unfolding look_at
    looks_on e c = looks ∙ simp (e, ne_eqb (cost_of net t U D N) no_row c, row_ok net ok t r U D N (away_row e) c)

  -- a packet that is refused
  looks_refused : ok_packet net U D stack ≡ false → lookup_of net t U D stack ≡ Err Refusal.Range
  looks_refused e = simp (eq-eqb (refusal net t) 0 (reached_refusal net ok r), e)

  -- no lookup answers 7
  pub not_7 : lookup_of net t U D stack ≢ Err Refusal.Broken
  not_7 = bool_cases (ok_packet net U D stack)
      (λ e. let k = packet net t U D stack e in
      bool_cases (home net U D N)
      (λ h e7. cc (looks_home k h))
      (λ h. by_cases (ℕ_discrete (cost_of net t U D N) no_row)
      (λ c e7. cc (looks_none k h c))
      (λ c e7. cc (looks_on k h c))))
      (λ e e7. cc (looks_refused e))

  -- 6 is answered only where there is no cost
  pub six_none : Packet net U D stack → lookup_of net t U D stack ≡ Err Refusal.NoRoute → cost_of net t U D N ≡ no_row
  six_none k e6 = by_cases (ℕ_discrete (cost_of net t U D N) no_row) (λ c. c)
      (λ c. absurd (bool_cases (home net U D N)
      (λ h. cc (looks_home k h))
      (λ h. cc (looks_on k h c))))
