-- The order of the refusals of a delivery: 4, then 5, then 7.
use Prim.Native.Nat.{ℕ}
use native.Mathlib.Omega.{arith}
use mathlib.Core.Path.{◌≡◌, refl}
use mathlib.Core.Bool.{Bool, true, false, cond}
use Rattle.table.specs.Table.{Table}
use Rattle.table.specs.Answers.{ok_message_in, waits_in, ok_sender_in, message_refusal_in}

module _ (n s back : ℕ) (t : Table) (Q U D N : ℕ) where
  -- numbers out of range are refused whatever the table holds
  pub four_first : ok_message_in n s Q U D N ≡ false → message_refusal_in n s back t Q U D N ≡ 4
  unfolding message_refusal_in
  four_first bad = simp bad

  -- a message that does not wait is refused whatever its sender's row and the link cost
  pub five_next : ok_message_in n s Q U D N ≡ true → waits_in n s t Q U D N ≡ false → message_refusal_in n s back t Q U D N ≡ 5
  unfolding message_refusal_in
  five_next good bad = simp (good, bad)

  pub seven_last : ok_message_in n s Q U D N ≡ true → waits_in n s t Q U D N ≡ true → ok_sender_in n s back t Q D N ≡ false → message_refusal_in n s back t
      Q U D N ≡ 7
  unfolding message_refusal_in
  seven_last good waits bad = simp (good, waits, bad)

  pub then_none : ok_message_in n s Q U D N ≡ true → waits_in n s t Q U D N ≡ true → ok_sender_in n s back t Q D N ≡ true → message_refusal_in n s back t Q
      U D N ≡ 0
  unfolding message_refusal_in
  then_none good waits sends = simp (good, waits, sends)

-- and where none applies, every test holds
none_refused : (a b c : Bool) → ◌≡◌ {A = ℕ} (cond a (cond b (cond c 0 7) 5) 4) 0 → (a ≡ true) × (b ≡ true) × (c ≡ true)
none_refused true true true e = (refl, refl, refl)
none_refused true true false e = absurd (omega arith)
none_refused true false c e = absurd (omega arith)
none_refused false b c e = absurd (omega arith)

pub all_pass : (n s back : ℕ) (t : Table) (Q U D N : ℕ) → message_refusal_in n s back t Q U D N ≡ 0
    → (ok_message_in n s Q U D N ≡ true) × (waits_in n s t Q U D N ≡ true) × (ok_sender_in n s back t Q D N ≡ true)
unfolding message_refusal_in
all_pass n s back t Q U D N e = none_refused (ok_message_in n s Q U D N) (waits_in n s t Q U D N) (ok_sender_in n s back t Q D N) e
