-- Which function a hop is by: the leader of the hearing gateway is the function that the specification speaks of.
use Prim.Native.Nat.{ℕ, ◌<◌}
use mathlib.Core.Path.{◌≡◌, refl, sym, ◌∙◌}
use mathlib.Core.Bool.{true}
use borrow.Author.Tests.{ltb-true, lt-ltb}
use Rattle.stacks.specs.Stacks.{ok_size}
use Rattle.functions.specs.Answers.{applied_of, made}
use Rattle.functions.proofs.Laws.{moved_applied, leads}
use Rattle.functions.proofs.Tests.{function}
use Rattle.network.specs.Network.{Network}
use Rattle.gateways.specs.Gateways.{can, word}
use Rattle.hear.specs.Hearing.{Message, leads_by, leader}
use Rattle.hear.proofs.Laws.{leader_leads, leader_is}
use Rattle.table.specs.Table.{gateway}
use Rattle.bridge.specs.Bridge.{about}

-- of a message only its stack number matters
pub leader_about : (net : Network) (m : Message) (U N : ℕ) → leader (gateway net U) m N ≡ leader (gateway net U) (about m.number) N
unfolding leader leads_by
leader_about net m U N = refl

-- f, which U can, makes the stack M of the stack N
pub record By (net : Network) (U N M f : ℕ) : Type 0 where
  pub has_it : can net U f ≡ true
  pub makes : applied_of net.p net.h f N ≡ made M

module _ (net : Network) (size : ok_size net.p net.h ≡ true) (U N M : ℕ) where
  pub leader_by : leader (gateway net U) (about M) N < 192 → By net U N M (leader (gateway net U) (about M) N)
  unfolding can
  leader_by low =
      let f = leader (gateway net U) (about M) N in
      let l = leader_leads (gateway net U) (about M) N low in
      record { has_it = lt-ltb 0 (word net U f) l.0; makes = sym (moved_applied net.p net.h size f N) ∙ l.1 }

  pub by_small : (f : ℕ) → By net U N M f → f < 192
  by_small f b = (function net.p f (leads net.p net.h f N M b.makes).by).kind

  pub by_leader : (f : ℕ) → By net U N M f → leader (gateway net U) (about M) N ≡ f
  unfolding can
  by_leader f b =
      leader_is (gateway net U) (about M) N f (by_small f b) (ltb-true 0 (word net U f) b.has_it)
      (moved_applied net.p net.h size f N ∙ b.makes)
