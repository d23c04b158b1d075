-- What the answers tell: delivered is said only of a packet that is home, a lookup answers where there is a route, and quiet is said where no message waits.
use Prim.Native.Nat.{ℕ, ◌-◌, ◌^◌, ◌≤◌, ◌<◌, min}
use native.Mathlib.Omega.{arith}
use mathlib.Core.Path.{◌≡◌, refl, sym, ap, ◌∙◌, subst}
use mathlib.Core.Logic.{◌≢◌, ◌↔◌, ◌⊎◌, inl, inr}
use mathlib.Core.List.{List, [], ◌∷◌}
use mathlib.Core.Bool.{Bool, true, false, cond, true≢false}
use lib.ListN.{length, get_or}
use lib.Dec.{eqb}
use borrow.Author.Tests.{eq-eqb}
use Rattle.std.specs.Prelude.{Option, Some, None, Ok, Err}
use Rattle.lists.proofs.Tests.{bool_cases}
use Rattle.refusal.specs.declared.Refusal.{Refusal}
use Rattle.refusal.specs.Numbers.{answered}
use Rattle.stacks.specs.Stacks.{number}
use Rattle.stacks.proofs.Laws.{stack_of_number}
use Rattle.bits.specs.Bits.{lowest}
use Rattle.bits.proofs.LowestBit.{lowest_has, lowest_below}
use Rattle.words.specs.Words.{first_in}
use Rattle.words.specs.declared.Found.{Found}
use Rattle.words.proofs.Answers.{Here, first_at, first_whole}
use Rattle.network.specs.Network.{Network}
use Rattle.network.proofs.Laws.{valid, present_nodes}
use Rattle.gateways.specs.Gateways.{accepts}
use Rattle.gateways.proofs.Laws.{accepts_below}
use Rattle.table.specs.Table.{Table, no_row, home}
use Rattle.table.specs.Answers.{refusal, first_of, first_answer}
use Rattle.forward.specs.Forward.{forward, cost_of, next_of, function_of, result_of, ok_row, look_at}
use Rattle.forward.specs.Answers.{lookup_of}
use Rattle.forward.specs.declared.Look.{Look}
use Rattle.promise.specs.Routes.{Network16, Route, Reached, Quiet, arrived, hop}
use Rattle.promise.proofs.Reaching.{sized, reached_refusal}
use Rattle.promise.proofs.Looking.{Packet, packet_ok, asked, looks_home, looks_on}
use Rattle.promise.proofs.Homes.{one_ok, one_home, at_home}
use Rattle.promise.proofs.Silence.{words_none}
use Rattle.promise.proofs.Fitting.{words_fit, nowhere_quiet}
use Rattle.promise.proofs.Least.{least, none}

-- ---- the test that leads to "delivered"
delivered_test : (c d e : Bool) (w x y z : ℕ)
    → cond c (Ok Look.Delivered) (cond d (Err Refusal.NoRoute) (cond e (forward w x y z) (Err Refusal.Broken))) ≡ Ok Look.Delivered → c ≡ true
delivered_test true d e w x y z q = refl
delivered_test false true e w x y z q = absurd (cc)
delivered_test false false true w x y z q = absurd (cc)
delivered_test false false false w x y z q = absurd (cc)

module _ (net : Network) (ok : Network16 net) where
  home_here : (U D : ℕ) (stack : List ℕ) → Packet net U D stack → home net U D (number net.p stack) ≡ true → Route net D U stack 0
  home_here U D stack k e =
      let N = number net.p stack in
      let h = at_home net ok U D N e in
      let one : (N - 1) ∷ [] ≡ stack = sym h.one ∙ stack_of_number net.p net.h (valid net ok.valid).size stack k.stack_ok in
      subst (λ (s : List ℕ). Route net D U s 0) one
      (subst (λ (X : ℕ). Route net D X ((N - 1) ∷ []) 0) (sym h.there) (arrived (N - 1) h.accepted))

  -- delivered is said only of a packet that is home
  pub delivered_here : (t : Table) (U D : ℕ) (stack : List ℕ) → lookup_of net t U D stack ≡ Ok Look.Delivered → Route net D U stack 0
  unfolding look_at
  delivered_here t U D stack e =
      let N = number net.p stack in
      let a = asked net t U D stack _ e in
      home_here U D stack a.0
      (delivered_test (home net U D N) (eqb (cost_of net t U D N) no_row) (ok_row net t U D N) (next_of net t U D N) (function_of net t U D N)
      (result_of net t U D N) (cost_of net t U D N) a.1)

  -- ---- a packet that has a route is none that is refused
  destined : {D U cost : ℕ} {stack : List ℕ} → Route net D U stack cost → D < net.n
  destined {D} (arrived x e) = (accepts_below net D x e).0
  destined (hop U W f cost stack result can_it linked fits makes rest) = destined rest

  sent : {D U cost : ℕ} {stack : List ℕ} → Route net D U stack cost → Packet net U D stack
  sent {D} (arrived x e) =
      let b = accepts_below net D x e in
      record { node = b.0; destination = b.0; stack_ok = one_ok net ok x b.1 }
  sent (hop U W f cost stack result can_it linked fits makes rest) = record {
    node = (present_nodes net U W linked).0;
    destination = destined rest;
    stack_ok = fits;
  }

  -- so one that is home is delivered, whatever the table holds
  pub delivered_there : (t : Table) (D x : ℕ) → refusal net t ≡ 0 → accepts net D x ≡ true → lookup_of net t D D (x ∷ []) ≡ Ok Look.Delivered
  unfolding look_at
  delivered_there t D x z e = simp (eq-eqb (refusal net t) 0 z, packet_ok net t D D (x ∷ []) (sent (arrived x e)), one_home net ok D x e)

  -- and the lookup answers one that has a route
  pub found : (t : Table) (U D cost : ℕ) (stack : List ℕ) → Reached net t → Quiet net t → Route net D U stack cost
      → (lookup_of net t U D stack ≡ Ok Look.Delivered) ⊎ ((W : ℕ) × (f : ℕ) × (M : ℕ) × (c : ℕ) × (lookup_of net t U D stack ≡ forward W f M c) × (c ≤ cost))
  found t U D cost stack r q p = bool_cases (home net U D N) (λ h. inl (looks_home net ok t r U D stack k h)) (λ h. inr (on h))
    where
      N : ℕ
      N = number net.p stack

      k : Packet net U D stack
      k = sent p

      priced : cost_of net t U D N ≢ no_row
      priced z = (none net ok t U D stack r q k).0 z cost p

      on : home net U D N ≡ false → (W : ℕ) × (f : ℕ) × (M : ℕ) × (c : ℕ) × (lookup_of net t U D stack ≡ forward W f M c) × (c ≤ cost)
      on h =
          let e = looks_on net ok t r U D stack k h priced in (
            next_of net t U D N,
            function_of net t U D N,
            result_of net t U D N,
            cost_of net t U D N,
            e,
            least net ok t U D (next_of net t U D N) (function_of net t U D N) (result_of net t U D N) (cost_of net t U D N) cost stack r q e p,
          )

  -- ---- quiet is said where no message waits
  module _ (t : Table) (r : Reached net t) where
    first_is : first_answer net t ≡ Ok (first_of net t (first_in t.waiting))
    first_is = simp (eq-eqb (refusal net t) 0 (reached_refusal net ok r))

    nowhere : (f : Option Found) → answered 0 (first_of net t f) ≡ Ok None → f ≡ None
    nowhere None e = refl
    nowhere (Some f) e = absurd (cc)

    -- the word that is found has a bit that is set
    none_there : Quiet net t → (f : Option Found) → first_in t.waiting ≡ f → f ≡ None
    none_there q None e = refl
    none_there q (Some f) e = absurd (true≢false (sym (lowest_has w some fit) ∙ words_none t.waiting q f.word (lowest w) (lowest_below w some fit)))
      where
        here : Here t.waiting 0 (min (length t.waiting) (length t.waiting)) f.word f.bit
        here = first_at t.waiting 0 (length t.waiting) f.word f.bit (first_whole t.waiting ∙ e)

        w : ℕ
        w = get_or t.waiting f.word 0

        some : 0 < w
        some = omega (arith, here.waits)

        fit : w < 2 ^ 32
        fit = words_fit net ok.valid r f.word (omega (arith, here.inside, (sized net r).waits))

  pub quiet_said : (t : Table) → Reached net t → (first_answer net t ≡ Ok None) ↔ Quiet net t
  quiet_said t r = (
    λ e. nowhere_quiet t.waiting (nowhere t r (first_in t.waiting) (sym (first_is t r) ∙ e)),
    λ q. first_is t r ∙ ap (λ (f : Option Found). Ok (first_of net t f)) (none_there t r q (first_in t.waiting) refl),
  )
