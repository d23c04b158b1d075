-- Laws of the search's answers: an answer that says what is there is the answer of the search.
use mathlib.Core.Path.{◌≡◌, refl, sym, ap, ap₂, subst, ◌∙◌}
use mathlib.Core.List.{List}
use Prim.Native.Nat.{ℕ, ◌≤◌, ◌<◌, min}
use native.Mathlib.Decide.{dec_lt}
use native.Mathlib.Omega.{arith}
use lib.ListN.{length, get_or}
use Rattle.bits.specs.Bits.{lowest}
use Rattle.words.specs.declared.Found.{Found}
use Rattle.std.specs.Prelude.{Option, Some, None}
use Rattle.words.specs.Words.{found_at, first_in, first_between}
use Rattle.words.proofs.Answers.{Quiet, Here, Says, first_says, first_at, first_nowhere}

-- two answers that are both right are one
same_answer : (ws : List ℕ) (from to : ℕ) (f g : Option Found) → Says ws from to f → Says ws from to g → f ≡ g
same_answer ws from to None None p q = refl
same_answer ws from to None (Some g) p q = absurd (q.waits (p g.word q.after q.before))
same_answer ws from to (Some f) None p q = absurd (p.waits (q f.word p.after p.before))
same_answer ws from to (Some f) (Some g) p q = go (dec_lt f.word g.word) (dec_lt g.word f.word)
  where
    go : Dec (f.word < g.word) → Dec (g.word < f.word) → found_at f.word f.bit ≡ found_at g.word g.bit
    go (yes l) d = absurd (p.waits (q.quiet f.word p.after l))
    go (no a) (yes l) = absurd (q.waits (p.quiet g.word q.after l))
    go (no a) (no b) =
        let e : f.word ≡ g.word = omega (arith, a, b) in
        ap₂ found_at e (p.lowest_bit ∙ ap (λ (k : ℕ). lowest (get_or ws k 0)) e ∙ sym q.lowest_bit)

pub first_is : (ws : List ℕ) (from to : ℕ) (f : Option Found) → to ≤ length ws → Says ws from to f → f ≡ first_between from to ws
first_is ws from to f h s =
    let e : min to (length ws) ≡ to = omega arith in
    same_answer ws from to f (first_between from to ws) s (subst (λ (k : ℕ). Says ws from k (first_between from to ws)) e (first_says ws from to))

-- the search from i on has the answer of the whole search
abbrev pub Ahead : List ℕ → ℕ → Type 0
Ahead ws i = first_between i (length ws) ws ≡ first_in ws

joined : (ws : List ℕ) (from mid to : ℕ) → Quiet ws from mid → Quiet ws mid to → (k : ℕ) → from ≤ k → k < to → Dec (k < mid) → get_or ws k 0 ≡ 0
joined ws from mid to p q k l h (yes m) = p k l m
joined ws from mid to p q k l h (no m) = q k (omega (arith, m)) h

-- words that are 0 in front change no answer
sooner : (ws : List ℕ) (from mid to : ℕ) → from ≤ mid → Quiet ws from mid → (f : Option Found) → Says ws mid to f → Says ws from to f
sooner ws from mid to h before None q = λ k l m. joined ws from mid to before q k l m (dec_lt k mid)
sooner ws from mid to h before (Some f) q = record {
  after = omega (arith, q.after);
  before = q.before;
  inside = q.inside;
  waits = q.waits;
  lowest_bit = q.lowest_bit;
  quiet = λ k l m. joined ws from mid f.word before q.quiet k l m (dec_lt k mid);
}

module _ (ws : List ℕ) (from mid : ℕ) (ahead : Ahead ws from) (inside : mid ≤ length ws) where
  -- what the next part holds is the first of all
  pub part_found : (f : Option Found) (i v : ℕ) → f ≡ first_between from mid ws → f ≡ found_at i v → found_at i v ≡ first_in ws
  part_found f i v answer told = first_is ws from (length ws) (found_at i v) (omega arith) (record {
    after = here.after;
    before = here.inside;
    inside = here.inside;
    waits = here.waits;
    lowest_bit = here.lowest_bit;
    quiet = here.quiet;
  }) ∙ ahead
    where
      here : Here ws from (min mid (length ws)) i v
      here = first_at ws from mid i v (sym answer ∙ told)

  -- where it holds nothing the search goes on behind it
  pub part_passed : (f : Option Found) → f ≡ first_between from mid ws → f ≡ None → from ≤ mid → Ahead ws mid
  part_passed f answer told h =
      first_is ws from (length ws) (first_between mid (length ws) ws) (omega arith)
      (sooner ws from mid (length ws) h (λ k l m. first_nowhere ws from mid (sym answer ∙ told) k l (omega arith)) (first_between mid (length ws) ws) behind)
      ∙ ahead
    where
      behind : Says ws mid (length ws) (first_between mid (length ws) ws)
      behind =
          let whole : min (length ws) (length ws) ≡ length ws = omega arith in
          subst (λ (k : ℕ). Says ws mid k (first_between mid (length ws) ws)) whole (first_says ws mid (length ws))
