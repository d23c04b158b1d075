-- Nothing is lost in packing: within the range an answer is read back as it was, so different answers have different numbers.
use Prim.Native.Nat.{ℕ}
use native.Mathlib.Omega.{arith}
use mathlib.Core.Path.{◌≡◌}
use Rattle.std.specs.Prelude.{Result, Ok, Err}
use Rattle.refusal.specs.declared.Refusal.{Refusal}
use Rattle.packing.proofs.Unpacked.{refused_back, value_read, apart}
use Rattle.deliver_exports.specs.Packing.{pack_delivered, unpack_delivered}
use Rattle.deliver_exports.specs.Ranges.{DeliveredFits}

pub delivered_back : (a : Result ℕ Refusal) → DeliveredFits a → unpack_delivered (pack_delivered a) ≡ a
unfolding unpack_delivered
delivered_back (Ok x) f = value_read x (omega arith) _ _
delivered_back (Err r) f = refused_back r _

pub delivered_apart : (a b : Result ℕ Refusal) → DeliveredFits a → DeliveredFits b → pack_delivered a ≡ pack_delivered b → a ≡ b
delivered_apart a b f g e = apart pack_delivered unpack_delivered a b (delivered_back a f) (delivered_back b g) e
