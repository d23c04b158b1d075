-- Each refusal that a header meets has a name of its own, so that the number of the name is the one that the definition gives.
use Prim.Native.Nat.{ℕ}
use mathlib.Core.Path.{refl}
use mathlib.Core.List.{List}
use lib.ListN.{length}
use lib.Dec.{leb}
use Rattle.refusal.proofs.Named.{ListedOrNone, none_listed, unless_listed}
use Rattle.header.specs.Fields.{ok_room, ok_version, ok_header, ok_length, ok_checksum, ok_whole}
use Rattle.header.specs.Answers.{header_refusal, refusal_of}

module _ (packet : List ℕ) (s announced e : ℕ) where
  pub header_listed : ListedOrNone (header_refusal packet s announced e)
  unfolding header_refusal
  header_listed =
      unless_listed (ok_room packet s e) 61 _ refl (unless_listed (ok_version packet s announced) 62 _ refl
      (unless_listed (ok_header packet s) 63 _ refl (unless_listed (ok_length packet s e) 64 _ refl
      (unless_listed (ok_checksum packet s) 65 _ refl (unless_listed (ok_whole packet s) 66 0 refl none_listed)))))

  pub refusal_listed : ListedOrNone (refusal_of packet s announced e)
  unfolding refusal_of
  refusal_listed = unless_listed (leb e (length packet)) 61 _ refl header_listed
