-- Laws of the search through the flagged blocks of one node.
use mathlib.Core.Path.{◌≡◌, sym, ap, ◌∙◌}
use mathlib.Core.Bool.{true, false}
use mathlib.Core.List.{List}
use Prim.Native.Nat.{ℕ, ◌+◌, ◌*◌, ◌/◌, ◌%◌, ◌^◌, ◌≤◌, ◌<◌, min}
use native.Mathlib.Nat.{one-mul}
use native.Mathlib.Decide.{dec_lt, ℕ_discrete}
use native.Mathlib.Omega.{arith}
use lib.ListN.{length, get_or, set}
use lib.Pow.{pow_pos, pow_mono}
use Rattle.bits.specs.Bits.{bit, has, without, lowest}
use Rattle.bits.proofs.Bits.{bit_high}
use Rattle.bits.proofs.Laws.{has_of_zero, one_of_has, has_zero, has_without_there, without_le}
use Rattle.bits.proofs.LowestBit.{lowest_has, lowest_first, lowest_below}
use Rattle.words.specs.declared.Found.{Found}
use Rattle.std.specs.Prelude.{Option, Some, None}
use Rattle.words.specs.Words.{first_between}
use Rattle.words.proofs.Answers.{Here, first_at, first_nowhere}
use Rattle.run.specs.Flags.{Flagged}
use Rattle.table.proofs.Places.{block_from, block_to, block_fits, node_of, block_start, block_end, block_here, destination_before}
use Rattle.table.proofs.Firsts.{first_is}
use Rattle.run.proofs.Flags.{some_stacks, flagged_with}

-- the search is at the node u
pub record AtNode (n s : ℕ) (flags waiting : List ℕ) (u : ℕ) : Type 0 where
  pub flagged : Flagged n s flags waiting
  pub below : u < n
  pub rows : length waiting ≡ n * (n * s)

-- the node has a flag, and d is its lowest
pub record AtFlag (n s : ℕ) (flags waiting : List ℕ) (u d : ℕ) : Type 0 where
  pub node : AtNode n s flags waiting u
  pub some : get_or flags u 0 ≡ 0 → ⊥
  pub first : d ≡ lowest (get_or flags u 0)

never : true ≡ false → ⊥
never e = let z : ◌≡◌ {A = ℕ} 0 1 = cc in omega arith

-- a word without one of its bits is a smaller number
without_less : (w v : ℕ) → 0 < w → has w v ≡ true → without w v < w
unfolding without
without_less w v p one =
    let e : bit w v * 2 ^ v ≡ 2 ^ v = ap (λ (b : ℕ). b * 2 ^ v) (one_of_has w v one) ∙ one-mul (2 ^ v) in
    omega (arith, pow_pos v)

-- a word of 32 bits that waits names a receiver below 32
pub bit_low : (ws : List ℕ) (from to : ℕ) (f : Found) → ((k : ℕ) → get_or ws k 0 < 2 ^ 32) → first_between from to ws ≡ Some f → f.bit < 32
bit_low ws from to f fit found =
    let h = first_at ws from to f.word f.bit found in
    let some : 0 < get_or ws f.word 0 = omega (arith, h.waits) in
    omega (arith, h.lowest_bit, lowest_below (get_or ws f.word 0) some (fit f.word))

-- ---- the node
module _ {n s : ℕ} {flags waiting : List ℕ} {u : ℕ} (at : AtNode n s flags waiting u) where
  -- its rows are rows of the table
  pub node_inside : u * (n * s) + n * s ≤ length waiting
  node_inside = omega (arith, block_fits (n * s) u n at.below)

  -- a row whose destination has no flag is 0
  unflagged : (i : ℕ) → u * (n * s) ≤ i → i < u * (n * s) + n * s → has (get_or flags u 0) (i / s % n) ≡ false → get_or waiting i 0 ≡ 0
  unflagged i l h off = go (ℕ_discrete (get_or waiting i 0) 0)
    where
      go : Dec (get_or waiting i 0 ≡ 0) → get_or waiting i 0 ≡ 0
      go (yes z) = z
      go (no ne) =
          let on : has (get_or flags (i / s / n) 0) (i / s % n) ≡ true = at.flagged.set i (omega (arith, node_inside)) ne in
          absurd (never (sym on ∙ ap (λ (v : ℕ). has (get_or flags v 0) (i / s % n)) (node_of n s u i l h) ∙ off))

  -- with no flag there is nothing
  pub node_empty : get_or flags u 0 ≡ 0 → None ≡ first_between (u * (n * s)) (u * (n * s) + n * s) waiting
  node_empty z =
      first_is waiting (u * (n * s)) (u * (n * s) + n * s) None node_inside
      (λ k l h. unflagged k l h (ap (λ (w : ℕ). has w (k / s % n)) z ∙ has_zero (k / s % n)))

-- ---- the block of its lowest flag
module _ {n s : ℕ} {flags waiting : List ℕ} {u d : ℕ} (at : AtFlag n s flags waiting u d) where
  flag_set : has (get_or flags u 0) d ≡ true
  flag_set =
      let fits : get_or flags u 0 < 2 ^ 32 = omega (arith, at.node.flagged.few u, pow_mono at.node.flagged.fits) in
      ap (λ (k : ℕ). has (get_or flags u 0) k) at.first ∙ lowest_has (get_or flags u 0) (omega (arith, at.some)) fits

  -- it is that of a destination, since no flag stands at n or above
  pub destination_below : d < n
  destination_below = go (dec_lt d n)
    where
      go : Dec (d < n) → d < n
      go (yes h) = h
      go (no h) = absurd (never (sym flag_set ∙ has_of_zero (get_or flags u 0) d (bit_high n (get_or flags u 0) d (at.node.flagged.few u) (omega (arith, h)))))

  pub block_inside : (u * n + d) * s + s ≤ length waiting
  block_inside = omega (arith, node_inside at.node, block_end n s u d destination_below)

  -- what the block holds is the first of the node: the blocks before it have no flag
  pub block_found : (f : Option Found) (x : Found) → f ≡ first_between ((u * n + d) * s) ((u * n + d) * s + s) waiting → f ≡ Some x
      → Some x ≡ first_between (u * (n * s)) (u * (n * s) + n * s) waiting
  block_found f x answer told = first_is waiting (u * (n * s)) (u * (n * s) + n * s) (Some x) (node_inside at.node) (record {
    after = omega (arith, here.after, block_start n s u d destination_below);
    before = omega (arith, here.before, block_end n s u d destination_below);
    inside = here.inside;
    waits = here.waits;
    lowest_bit = here.lowest_bit;
    quiet = λ k l h. quiet k l h (dec_lt k ((u * n + d) * s));
  })
    where
      here : Here waiting ((u * n + d) * s) (min ((u * n + d) * s + s) (length waiting)) x.word x.bit
      here = first_at waiting ((u * n + d) * s) ((u * n + d) * s + s) x.word x.bit (sym answer ∙ told)

      quiet : (k : ℕ) → u * (n * s) ≤ k → k < x.word → Dec (k < (u * n + d) * s) → get_or waiting k 0 ≡ 0
      quiet k l h (no later) = here.quiet k (omega (arith, later)) h
      quiet k l h (yes sooner) =
          let place : k < n * (n * s) = omega (arith, here.inside, at.node.rows) in
          let inner : k < u * (n * s) + n * s = omega (arith, here.before, block_end n s u d destination_below) in
          let before : k / s % n < d = destination_before n s u d k (some_stacks n s k place) (node_of n s u k l inner) sooner in
          unflagged at.node k l inner (lowest_first (get_or flags u 0) (k / s % n) (omega (arith, at.first)))

  -- where it holds nothing its flag can go
  pub block_empty : (f : Option Found) → f ≡ first_between ((u * n + d) * s) ((u * n + d) * s + s) waiting → f ≡ None
      → Flagged n s (set flags u (without (get_or flags u 0) d)) waiting
  block_empty f answer told =
      flagged_with n s flags waiting waiting u (without (get_or flags u 0) d) at.node.flagged at.node.below
      (omega (arith, at.node.flagged.few u, without_le (get_or flags u 0) d))
      (λ i l ne. (λ node. on i l ne node (ℕ_discrete (i / s % n) d), λ other. at.node.flagged.set i l ne))
    where
      on : (i : ℕ) → i < length waiting → (get_or waiting i 0 ≡ 0 → ⊥) → i / s / n ≡ u → Dec (i / s % n ≡ d)
          → has (without (get_or flags u 0) d) (i / s % n) ≡ true
      on i l ne node (no other) =
          has_without_there (get_or flags u 0) d (i / s % n) other ∙ ap (λ (v : ℕ). has (get_or flags v 0) (i / s % n)) (sym node)
          ∙ at.node.flagged.set i l ne
      on i l ne node (yes same) =
          let block : i / s * s ≡ (u * n + d) * s = ap (λ (b : ℕ). b * s) (block_here n s u d i node same) in
          let place : i < n * (n * s) = omega (arith, at.node.rows) in
          let quiet = first_nowhere waiting ((u * n + d) * s) ((u * n + d) * s + s) (sym answer ∙ told) in
          absurd (ne (quiet i (omega (arith, block_from s i)) (omega (arith, block_to s i (some_stacks n s i place)))))

  -- and the word of flags is then a smaller number
  pub flag_falls : without (get_or flags u 0) d < get_or flags u 0
  flag_falls = without_less (get_or flags u 0) d (omega (arith, at.some)) flag_set
