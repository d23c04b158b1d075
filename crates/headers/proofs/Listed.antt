-- Each refusal of a reading has a name of its own, so that the number of the name is the one that the definition gives.
use Prim.Native.Nat.{ℕ, zero, suc}
use mathlib.Core.Path.{◌≡◌, refl}
use mathlib.Core.List.{List, [], ◌∷◌}
use mathlib.Core.Bool.{Bool, true, false, cond}
use lib.ListN.{length}
use lib.Dec.{eqb}
use borrow.Author.Tests.{eqb-false}
use Rattle.refusal.proofs.Named.{Listed}
use Rattle.stacks.specs.Stacks.{ok_size}
use Rattle.header.specs.Fields.{announces, protocol, next, inside, end}
use Rattle.header.specs.Answers.{header_refusal}
use Rattle.header.proofs.Listed.{header_listed}
use Rattle.headers.specs.Chains.{Reading, found, refused, follow, reading_of}

abbrev pub ReadingListed : Reading → Type 0
ReadingListed (found stack from to) = Unit {0}
ReadingListed (refused refusal header start) = Listed refusal

module _ (packet : List ℕ) where
  met_listed : (s announced e : ℕ) → eqb (header_refusal packet s announced e) 0 ≡ false → Listed (header_refusal packet s announced e)
  met_listed s announced e other = header_listed packet s announced e (eqb-false (header_refusal packet s announced e) 0 other)

  follow_listed : (left announced k s e : ℕ) (outer : List ℕ) → ReadingListed (follow packet left announced k s e outer)
  follow_listed zero announced k s e outer = go (eqb (header_refusal packet s announced e) 0) refl
    where
      go : (fine : Bool) → eqb (header_refusal packet s announced e) 0 ≡ fine
          → ReadingListed (cond fine (refused 67 k s) (refused (header_refusal packet s announced e) k s))
      go true q = refl
      go false q = met_listed s announced e q
  follow_listed (suc left) announced k s e outer =
      go (eqb (header_refusal packet s announced e) 0) refl (eqb (announces (next packet s)) 0)
      (follow_listed left (announces (next packet s)) (suc k) (inside packet s) (end packet s) (protocol packet s ∷ outer))
    where
      rest : Reading
      rest = follow packet left (announces (next packet s)) (suc k) (inside packet s) (end packet s) (protocol packet s ∷ outer)

      go : (fine : Bool) → eqb (header_refusal packet s announced e) 0 ≡ fine → (last : Bool)
          → ReadingListed rest
          → ReadingListed (cond fine (cond last (found (protocol packet s ∷ outer) (inside packet s) (end packet s)) rest)
          (refused (header_refusal packet s announced e) k s))
      go true q true more = tt
      go true q false more = more
      go false q last more = met_listed s announced e q

  pub reading_listed : (h : ℕ) → ReadingListed (reading_of h packet)
  unfolding reading_of
  reading_listed h = go (ok_size 2 h) (follow packet h 0 0 0 (length packet) []) (follow_listed h 0 0 0 (length packet) [])
    where
      go : (bounded : Bool) (reading : Reading) → ReadingListed reading → ReadingListed (cond bounded reading (refused 1 0 0))
      go true reading f = f
      go false reading f = refl
