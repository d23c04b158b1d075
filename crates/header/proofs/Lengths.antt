-- What the tests of one header say as numbers: how long it is at least, and that it lies within its packet and that within what holds it.
use Prim.Native.Nat.{ℕ, ◌+◌, ◌*◌, ◌%◌, ◌≤◌, ◌<◌}
use native.Mathlib.Omega.{arith}
use mathlib.Core.Path.{◌≡◌}
use mathlib.Core.List.{List}
use mathlib.Core.Bool.{Bool, true, false, cond, ◌&&◌, ◌||◌}
use lib.Dec.{leb, eqb}
use borrow.Author.Tests.{leb-true}
use Rattle.lists.proofs.Tests.{both}
use Rattle.header.specs.Fields.{byte, pair, version, protocol, shortest, header_length, packet_length, ok_room, ok_header, ok_length, end}

module _ (packet : List ℕ) (s : ℕ) where
  pub two_protocols : protocol packet s < 2
  unfolding protocol
  two_protocols = go (eqb (version packet s) 6)
    where
      go : (six : Bool) → cond six 1 0 < 2
      go true = omega arith
      go false = omega arith

  pub at_least_20 : 20 ≤ shortest packet s
  unfolding shortest
  at_least_20 = go (eqb (version packet s) 6)
    where
      go : (six : Bool) → 20 ≤ cond six 40 20
      go true = omega arith
      go false = omega arith

  pub header_fits : ok_header packet s ≡ true → header_length packet s ≤ packet_length packet s
  unfolding ok_header header_length packet_length
  header_fits ok = go (eqb (version packet s) 6) (4 * (byte packet s 0 % 16)) (pair packet s 4) (pair packet s 2) ok
    where
      go : (six : Bool) (x y z : ℕ) → (six || (leb 20 (cond six 40 x) && leb (cond six 40 x) (cond six (40 + y) z))) ≡ true
          → cond six 40 x ≤ cond six (40 + y) z
      go true x y z e = omega arith
      go false x y z e = leb-true x z (both (leb 20 x) (leb x z) e).1

  module _ (e : ℕ) where
    pub room_20 : ok_room packet s e ≡ true → s + 20 ≤ e
    unfolding ok_room
    room_20 ok = omega (arith, leb-true (s + shortest packet s) e ok, at_least_20)

    pub length_fits : ok_length packet s e ≡ true → end packet s ≤ e
    unfolding ok_length
    length_fits ok = leb-true (s + packet_length packet s) e ok
