-- Nothing is lost in packing: within the ranges a lookup's answer is read back as it was, so different answers have different numbers.
use Prim.Native.Nat.{ℕ, ◌+◌, ◌*◌, ◌/◌, ◌^◌}
use native.Mathlib.Omega.{arith}
use mathlib.Core.Path.{◌≡◌, refl}
use borrow.Author.Tests.{eq-eqb, ne_eqb}
use Rattle.std.specs.Prelude.{Result, Ok, Err}
use Rattle.refusal.specs.declared.Refusal.{Refusal}
use Rattle.forward.specs.declared.Look.{Look}
use Rattle.packing.specs.Packing.{is_refused, is_found, sender_in, receiver_in, low_in, number_in}
use Rattle.packing.proofs.Unpacked.{refused_back, apart}
use Rattle.packet_exports.specs.Packing.{pack_forward, pack_look, unpack_look}
use Rattle.packet_exports.specs.Ranges.{ForwardFits, LookFits}

-- ---- the four parts of a forward
pub record ForwardRead (x next function number cost : ℕ) : Type 0 where
  pub told : is_refused x ≡ 0
  pub found : is_found x ≡ 1
  pub hops : sender_in x ≡ next
  pub applies : receiver_in x ≡ function
  pub numbered : number_in x ≡ number
  pub priced : low_in x ≡ cost

pub forward_read : (next function number cost : ℕ) → ForwardFits next function number cost
    → ForwardRead (pack_forward next function number cost) next function number cost
forward_read v f n c fits =
    let high : pack_forward v f n c / 2 ^ 62 ≡ 1 = omega arith in
    let fifty_six : pack_forward v f n c / 2 ^ 56 ≡ 64 + v = omega arith in
    let forty_eight : pack_forward v f n c / 2 ^ 48 ≡ (64 + v) * 256 + f = omega arith in
    let thirty_two : pack_forward v f n c / 2 ^ 32 ≡ ((64 + v) * 256 + f) * 65536 + n = omega arith in
    record { told = omega arith; found = omega arith; hops = omega arith; applies = omega arith; numbered = omega arith; priced = omega arith }

pub look_back : (a : Result Look Refusal) → LookFits a → unpack_look (pack_look a) ≡ a
unfolding unpack_look
look_back (Ok Look.Delivered) f = refl
look_back (Ok (Look.Forward x)) f =
    let m = forward_read x.next x.function x.number x.cost f in
    simp (
      eq-eqb (is_refused (pack_forward x.next x.function x.number x.cost)) 0 m.told,
      ne_eqb (is_found (pack_forward x.next x.function x.number x.cost)) 0 (λ e. omega (arith, e, m.found)),
      m.hops,
      m.applies,
      m.numbered,
      m.priced,
    )
look_back (Err r) f = refused_back r _

pub look_apart : (a b : Result Look Refusal) → LookFits a → LookFits b → pack_look a ≡ pack_look b → a ≡ b
look_apart a b f g e = apart pack_look unpack_look a b (look_back a f) (look_back b g) e
