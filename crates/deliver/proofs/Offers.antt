-- THE LAWS of a delivery, row by row: which rows stay, which took an offer, of which one function, and that no offer wraps.
use Prim.Native.Nat.{ℕ, ◌+◌, ◌*◌, ◌≤◌, ◌<◌}
use native.Mathlib.Omega.{arith}
use mathlib.Core.Path.{◌≡◌, refl, sym, ap, ◌∙◌, subst}
use mathlib.Core.Logic.{◌⊎◌, inl, inr}
use mathlib.Core.Bool.{true, false}
use lib.ListN.{get_or}
use lib.Dec.{ltb, eqb}
use borrow.Author.Tests.{ltb-true, lt-ltb, eq-eqb, ne_eqb}
use Rattle.lists.proofs.Tests.{bool_cases, both}
use Rattle.relax.specs.Graph.{wins}
use Rattle.relax.proofs.Laws.{wins_below, loses_above}
use Rattle.functions.specs.Answers.{moved_of}
use Rattle.std.specs.Prelude.{Ok, Some}
use Rattle.bits.specs.Bits.{without, with_all}
use Rattle.network.specs.Network.{Network, stacks, link, present, neighbours, refusal_of}
use Rattle.network.proofs.Laws.{valid}
use Rattle.gateways.specs.Gateways.{word, can, price, weight}
use Rattle.gateways.proofs.Laws.{weight_most}
use Rattle.hear.specs.Hearing.{offer}
use Rattle.hear.proofs.Laws.{leader_leads, leader_is}
use Rattle.table.specs.Table.{Table, Sized, no_row, place, gateway, message, cleared, delivered}
use Rattle.table.specs.Answers.{message_refusal}
use Rattle.table.proofs.Rows.{Stack, same_row}
use Rattle.table.proofs.Deliveries.{Goes, goes, leader_of, offer_to, took, changes, stays, cleared_row, kept_row}

-- f is a function of U, and makes the stack with number N of the one with number M
pub record Leads (net : Network) (U N M f : ℕ) : Type 0 where
  pub low : f < 192
  pub has_it : can net U f ≡ true
  pub makes : moved_of net.p (stacks net) f M ≡ Ok (Some N)

module _ (net : Network) (t : Table) (Q U D N : ℕ) where
  -- "the offer is c + link(U,V) + price(U,f)"
  abbrev pub offered : ℕ → ℕ
  offered f = get_or t.cost (place net Q D N) 0 + weight net U f Q

  offered_is : (f : ℕ) → offer (gateway net U) (message net t Q U D N) f ≡ offered f
  unfolding offer weight price
  offered_is f = omega arith

  -- U's row for D and the stack number M took the offer of f, and of no other function
  pub record Took (M f : ℕ) : Type 0 where
    pub leads : Leads net U N M f
    pub only : (g : ℕ) → Leads net U N M g → g ≡ f
    pub cheaper : offered f < get_or t.cost (place net U D M) 0
    pub cost : get_or (delivered net t Q U D N).cost (place net U D M) 0 ≡ offered f
    pub way : get_or (delivered net t Q U D N).way (place net U D M) 0 ≡ 256 * Q + f
    pub waiting : get_or (delivered net t Q U D N).waiting (place net U D M) 0 ≡ with_all (get_or t.waiting (place net U D M) 0) (neighbours net U)

  -- the row of W, E and M is as it was, but for the one bit that the delivery clears
  pub record Kept (W E M : ℕ) : Type 0 where
    pub cost : get_or (delivered net t Q U D N).cost (place net W E M) 0 ≡ get_or t.cost (place net W E M) 0
    pub way : get_or (delivered net t Q U D N).way (place net W E M) 0 ≡ get_or t.way (place net W E M) 0
    pub waiting : get_or (delivered net t Q U D N).waiting (place net W E M) 0 ≡ get_or (cleared net t Q U D N).waiting (place net W E M) 0

  module _ (sized : Sized net t) (right : refusal_of net ≡ 0) (made : message_refusal net t Q U D N ≡ 0) where
    g : Goes net t Q U D N
    g = goes net t Q U D N made

    -- the sender is another node than the receiver
    apart : Q ≡ U → ⊥
    unfolding present
    apart e =
        let link_none = (valid net right).no_loop U in
        let linked = subst (λ (k : ℕ). present net U k ≡ true) e g.linked in
        omega (arith, link_none, ltb-true 0 (link net U U) linked)

    -- ---- every row that is not of the receiver and the destination stays
    pub other_row : (W E M : ℕ) → E < net.n → Stack net M → (W ≡ U → E ≡ D → ⊥) → Kept W E M
    unfolding took
    other_row W E M e m other =
        let s = stays net t Q U D N sized g.receiver E M e m W (λ (q : W ≡ U). simp (ne_eqb E D (other q))) in
        record { cost = s.cost; way = s.way; waiting = s.waiting }

    -- in the sender's word bit U alone is cleared, and every other word there stays
    pub sender_word : get_or (delivered net t Q U D N).waiting (place net Q D N) 0 ≡ without (get_or t.waiting (place net Q D N) 0) U
    sender_word =
        (other_row Q D N g.destination g.stack (λ q _. apart q)).waiting
        ∙ cleared_row net t Q U D N sized g.sender g.destination g.stack

    pub other_word : (W E M : ℕ) → E < net.n → Stack net M → (W ≡ U → E ≡ D → ⊥) → (place net W E M ≡ place net Q D N → ⊥)
        → get_or (delivered net t Q U D N).waiting (place net W E M) 0 ≡ get_or t.waiting (place net W E M) 0
    other_word W E M e m other elsewhere = (other_row W E M e m other).waiting ∙ kept_row net t Q U D N sized (place net W E M) elsewhere

    -- ---- a row of the receiver and the destination
    module _ (M : ℕ) (m : Stack net M) where
      -- the message is not about it
      not_sent : place net U D M ≡ place net Q D N → ⊥
      not_sent e = apart (sym (same_row net U D M Q D N g.destination g.destination m g.stack e).nodes)

      did : took net t Q U D N D M ≡ true → (leader_of net t Q U D N M < 192) × (offered (leader_of net t Q U D N M) < get_or t.cost (place net U D M) 0)
      unfolding took
      did e =
          let a = both (eqb D D) _ e in
          let b = both (ltb (leader_of net t Q U D N M) 192) _ a.1 in (
            ltb-true _ 192 b.0,
            omega (
              arith,
              offered_is (leader_of net t Q U D N M),
              wins_below (offer_to net t Q U D N M)
                  (get_or t.cost (place net U D M) 0) b.1,
            ),
          )

      led : (f : ℕ) → Leads net U N M f → leader_of net t Q U D N M ≡ f
      unfolding can
      led f l = leader_is (gateway net U) (message net t Q U D N) M f l.low (ltb-true 0 (word net U f) l.has_it) l.makes

      leading : leader_of net t Q U D N M < 192 → Leads net U N M (leader_of net t Q U D N M)
      unfolding can
      leading low =
          let l = leader_leads (gateway net U) (message net t Q U D N) M low in
          record { low = low; has_it = lt-ltb 0 (word net U (leader_of net t Q U D N M)) l.0; makes = l.1 }

      row_took : took net t Q U D N D M ≡ true → Took M (leader_of net t Q U D N M)
      row_took e =
          let d = did e in
          let c = changes net t Q U D N sized g.receiver D M g.destination m e in
          record {
            leads = leading d.0;
            only = λ f l. sym (led f l);
            cheaper = d.1;
            cost = c.cost ∙ offered_is (leader_of net t Q U D N M);
            way = c.way;
            waiting = c.waiting ∙ ap (λ (w : ℕ). with_all w (neighbours net U)) (kept_row net t Q U D N sized (place net U D M) not_sent);
          }

      row_kept : took net t Q U D N D M ≡ false → (f : ℕ) → Leads net U N M f → get_or t.cost (place net U D M) 0 ≤ offered f
      unfolding took
      row_kept e f l =
          let q = led f l in
          let low = lt-ltb (leader_of net t Q U D N M) 192 (omega (arith, l.low)) in
          let lost : wins (offer_to net t Q U D N M) (get_or t.cost (place net U D M) 0) ≡ false = simp (eq-eqb D D refl, low) at e in
          omega (arith, loses_above (offer_to net t Q U D N M) (get_or t.cost (place net U D M) 0) lost, offered_is (leader_of net t Q U D N M), ap offered q)

      -- it took the offer of exactly one function, or stayed, and then no function of U offers less
      pub own_row : ((f : ℕ) × Took M f) ⊎ (Kept U D M × ((f : ℕ) → Leads net U N M f → get_or t.cost (place net U D M) 0 ≤ offered f))
      own_row = bool_cases (took net t Q U D N D M)
          (λ e. inl (leader_of net t Q U D N M, row_took e))
          (λ e. let s = stays net t Q U D N sized g.receiver D M g.destination m U (λ _. e) in
          inr (record { cost = s.cost; way = s.way; waiting = s.waiting }, row_kept e))

    -- ---- no offer wraps
    pub offer_fits : (f : ℕ) → ((i : ℕ) → get_or net.links i 0 < 65536) → ((i : ℕ) → get_or net.functions i 0 < 65536) → offered f < no_row
    offer_fits f links functions = omega (arith, weight_most net U f Q links functions, g.priced)
