-- What `begin` answers at each test, and what its answer tells lookup and carry.
use Prim.Native.Nat.{ℕ, ◌≤◌, ◌<◌}
use native.Mathlib.Omega.{arith}
use mathlib.Core.Path.{◌≡◌, refl, sym, ap, ◌∙◌}
use mathlib.Core.List.{List}
use mathlib.Core.Bool.{Bool, true, false, cond, ◌&&◌}
use lib.ListN.{length}
use lib.Dec.{ltb, eqb}
use borrow.Author.Tests.{ltb-true, lt-ltb, le-ltb}
use Rattle.lists.proofs.Tests.{both}
use Rattle.std.specs.Prelude.{Result, Ok, Err}
use Rattle.refusal.specs.declared.Refusal.{Refusal}
use Rattle.refusal.specs.Numbers.{named}
use Rattle.refusal.proofs.Answers.{tested_ok, tested_err}
use Rattle.stacks.specs.Stacks.{ok_size, ok_stack, number}
use Rattle.stacks.specs.Answers.{number_of}
use Rattle.stacks.proofs.Tests.{within}
use Rattle.stacks.proofs.Laws.{number_in_range}
use Rattle.network.specs.Network.{Network}
use Rattle.network.proofs.Laws.{valid}
use Rattle.table.specs.Table.{Table}
use Rattle.table.specs.Answers.{refusal, ready_of}
use Rattle.table.proofs.Begins.{Ready, is_ready, is_refused, begun, stopped}
use Rattle.packet.specs.Packet.{ok_packet, packet, packet_from, packet_of, Placed}
use Rattle.packet.specs.declared.Packet.{Packet}

-- ---- at each test of `begin`
module _ (net : Network) (t : Table) (U D : ℕ) (stack : List ℕ) (s : ℕ) (told : Ok s ≡ ready_of net (length t.cost) (length t.way) (length t.waiting)) where
  answers : (ok : Bool) → ok_packet net U D stack ≡ ok
      → ◌≡◌ {A = Result Packet Refusal} (cond ok (Ok (packet s (number net.p stack))) (Err Refusal.Range)) (packet_of net t U D stack)
  answers ok d =
      ap (λ (b : Bool). cond b (Ok (packet s (number net.p stack))) (Err Refusal.Range)) (sym d)
      ∙ ap (λ (k : Result ℕ Refusal). packet_from k (ok_packet net U D stack) (number net.p stack)) told

  size : ok_size net.p net.h ≡ true
  size = (valid net (is_ready net t s (sym told)).network).size

  pub no_node : net.n ≤ U → Err Refusal.Range ≡ packet_of net t U D stack
  unfolding ok_packet
  no_node high = answers false (simp (le-ltb U net.n high))

  pub no_destination : U < net.n → net.n ≤ D → Err Refusal.Range ≡ packet_of net t U D stack
  unfolding ok_packet
  no_destination here high = answers false (simp (lt-ltb U net.n here, le-ltb D net.n high))

  pub no_stack : (r : Refusal) → U < net.n → D < net.n → Err r ≡ number_of net.p net.h stack → Err r ≡ packet_of net t U D stack
  unfolding ok_packet
  no_stack r here there is =
      let w = tested_err (ok_stack net.p net.h stack) (number net.p stack) Refusal.Range r (simp size at is) in
      ap Err w.1 ∙ answers false (simp (lt-ltb U net.n here, lt-ltb D net.n there) w.0)

  pub good_packet : (N : ℕ) → U < net.n → D < net.n → Ok N ≡ number_of net.p net.h stack → Ok (packet s N) ≡ packet_of net t U D stack
  unfolding ok_packet
  good_packet N here there is =
      let w = tested_ok (ok_stack net.p net.h stack) (number net.p stack) N Refusal.Range (simp size at is) in
      ap (λ (k : ℕ). Ok (packet s k)) w.1 ∙ answers true (simp (lt-ltb U net.n here, lt-ltb D net.n there) w.0)

-- ---- what lookup and carry know
pub record Begun (net : Network) (t : Table) (U D : ℕ) (stack : List ℕ) (s N : ℕ) : Type 0 where
  pub ready : Ready net t s
  pub good : ok_packet net U D stack ≡ true
  pub number_is : N ≡ number net.p stack

-- a call that is refused before it begins: what it answers is told by the refusal's number
pub record Over {A : Type 0} (r : Refusal) (refused : ℕ → A) (tested : A) : Type 0 where
  pub number : ℕ
  pub some : eqb number 0 ≡ false
  pub named_so : r ≡ named number
  pub answers : refused number ≡ tested

module _ (net : Network) (t : Table) (U D : ℕ) (stack : List ℕ) where
  pub is_begun : (k : Packet) → Ok k ≡ packet_of net t U D stack → Begun net t U D stack k.stacks k.number
  is_begun k is = go (ready_of net (length t.cost) (length t.way) (length t.waiting)) refl (ok_packet net U D stack) refl is
    where
      go : (a : Result ℕ Refusal) → ready_of net (length t.cost) (length t.way) (length t.waiting) ≡ a → (ok : Bool) → ok_packet net U D stack ≡ ok
          → Ok k ≡ packet_from a ok (number net.p stack) → Begun net t U D stack k.stacks k.number
      go (Ok m) u true v d =
          let q : packet m (number net.p stack) ≡ k = cc in
          record {
            ready = is_ready net t k.stacks (u ∙ ap (λ (x : Packet). Ok x.stacks) q);
            good = v;
            number_is = sym (ap (λ (x : Packet). x.number) q);
          }
      go (Ok m) u false v d = absurd (let z : ◌≡◌ {A = ℕ} 0 1 = cc in omega arith)
      go (Err r) u ok v d = absurd (let z : ◌≡◌ {A = ℕ} 0 1 = cc in omega arith)

  -- the packet stands at one of the nodes, with a number that a stack has
  pub placed : (s N : ℕ) → Begun net t U D stack s N → Placed net s U D N
  unfolding ok_packet
  placed s N b =
      let r = b.ready in
      let u = both (ltb U net.n) (ltb D net.n && ok_stack net.p net.h stack) b.good in
      let d = both (ltb D net.n) (ok_stack net.p net.h stack) u.1 in
      let w = within net.p net.h (number net.p stack) (number_in_range net.p net.h (valid net r.network).size stack d.1) in
      record {
        network = r.network;
        stacks_are = r.stacks_are;
        here = ltb-true U net.n u.0;
        there = ltb-true D net.n d.0;
        numbered = omega (arith, b.number_is, w.some);
        within = omega (arith, b.number_is, w.most);
      }

  -- a call that makes these tests first: one that nothing refuses, and one that is refused
  module _ {A : Type 0} (good : A) (refused : ℕ → A) where
    abbrev pub tested : A
    tested = cond (eqb (refusal net t) 0) (cond (ok_packet net U D stack) good (refused 4)) (refused (refusal net t))

    pub goes_on : (s N : ℕ) → Begun net t U D stack s N → good ≡ tested
    goes_on s N b = sym (begun net t s b.ready _ _ ∙ ap (λ (ok : Bool). cond ok good (refused 4)) b.good)

    pub is_over : (r : Refusal) → Err r ≡ packet_of net t U D stack → Over r refused tested
    is_over r is = go (ready_of net (length t.cost) (length t.way) (length t.waiting)) refl (ok_packet net U D stack) refl is
      where
        go : (a : Result ℕ Refusal) → ready_of net (length t.cost) (length t.way) (length t.waiting) ≡ a → (ok : Bool) → ok_packet net U D stack ≡ ok
            → Err r ≡ packet_from a ok (number net.p stack) → Over r refused tested
        go (Ok m) u true v d = absurd (let z : ◌≡◌ {A = ℕ} 0 1 = cc in omega arith)
        go (Ok m) u false v d = record {
          number = 4;
          some = refl;
          named_so = cc;
          answers = sym (begun net t m (is_ready net t m u) _ _ ∙ ap (λ (ok : Bool). cond ok good (refused 4)) v);
        }
        go (Err x) u ok v d =
            let w = is_refused net t x u in
            let q : r ≡ x = cc in
            record { number = refusal net t; some = w.1; named_so = q ∙ w.0; answers = sym (stopped net t w.1 _ _) }
