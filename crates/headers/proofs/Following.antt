-- What the loop of the chain's reader keeps, header by header: what is read from here on is what is read from the packet's first byte.
use Prim.Native.Nat.{ℕ, ◌+◌, ◌-◌, ◌*◌, ◌^◌, ◌≤◌, ◌<◌}
use native.Mathlib.Nat.{mul-le-mul_left, pow-succ'}
use native.Mathlib.Numerals.{add-one}
use native.Mathlib.Omega.{arith}
use mathlib.Core.Path.{◌≡◌, refl, sym, ap, subst, ◌∙◌}
use mathlib.Core.List.{List, [], ◌∷◌}
use mathlib.Core.Bool.{true}
use lib.ListN.{length}
use borrow.Author.Tests.{lt-ltb}
use Rattle.stacks.specs.Stacks.{below, number}
use Rattle.header.specs.Fields.{protocol}
use Rattle.header.specs.Answers.{header_refusal, refusal_of, header_of}
use Rattle.std.specs.Prelude.{Result, Ok, Err}
use Rattle.refusal.specs.declared.Refusal.{Refusal}
use Rattle.refusal.specs.Numbers.{named}
use Rattle.header.specs.declared.Header.{Header}
use Rattle.headers.specs.Chains.{follow}
use Rattle.headers.specs.Steps.{unread, judged_of, chained_of}
use Rattle.headers.specs.declared.Unread.{Unread}
use Rattle.headers.specs.declared.chain.Chained.{Chained}
use Rattle.header.proofs.Rightness.{right}
use Rattle.header.proofs.Lengths.{two_protocols, length_fits}
use Rattle.header.proofs.Outcomes.{as_held, refused_is, Passed, right_is}
use Rattle.headers.proofs.Numbering.{number_under, number_small, weight_small}
use Rattle.headers.proofs.Follows.{follow_refused, follow_high, follow_ends, follow_on}

-- the invariant: `outer` is the stack of the headers around this one, of which n is the number and 2 ^ k the weight
pub record Following (packet : List ℕ) (h announced k s e n weight : ℕ) : Type 0 where
  pub outer : List ℕ
  pub left : ℕ
  pub counted : left + k ≡ h
  pub high : length outer ≡ k
  pub small : below 2 outer ≡ true
  pub numbered : n ≡ number 2 outer
  pub weighed : weight ≡ 2 ^ k
  pub within : e ≤ length packet
  pub same : follow packet left announced k s e outer ≡ follow packet h 0 0 0 (length packet) []

pub starts : (packet : List ℕ) (h : ℕ) → Following packet h 0 0 0 (length packet) 0 1
starts packet h = record {
  outer = [];
  left = h;
  counted = omega arith;
  high = refl;
  small = refl;
  numbered = refl;
  weighed = refl;
  within = omega arith;
  same = refl;
}

abbrev chained : List ℕ → ℕ → Result Chained Unread
chained packet h = chained_of (follow packet h 0 0 0 (length packet) [])

-- what the header at s is judged to be
judged_ok : (k s : ℕ) (x : Result Header Refusal) (header : Header) → Ok header ≡ judged_of k s x → Ok header ≡ x
judged_ok k s (Ok y) header e = cc
judged_ok k s (Err r) header e = cc

judged_err : (k s : ℕ) (x : Result Header Refusal) (u : Unread) → Err u ≡ judged_of k s x → (r : Refusal) × (Err r ≡ x) × (u ≡ unread r k s)
judged_err k s (Ok y) u e = cc
judged_err k s (Err r) u e = (r, refl, (cc))

module _ {packet : List ℕ} {h announced k s e n weight : ℕ} (f : Following packet h announced k s e n weight) where
  -- where the loop ends
  pub at_end : k ≡ h → Following packet h announced h s e n weight
  at_end top = subst (λ (x : ℕ). Following packet h announced x s e n weight) top f

  -- the numbers stay small
  few : h ≤ 12 → n ≤ 8190
  few low = omega (arith, f.numbered, number_small f.outer f.small (omega (arith, f.counted, f.high)))

  light : h ≤ 12 → weight ≤ 4096
  light low = omega (arith, f.weighed, weight_small k (omega (arith, f.counted)))

  refusal_is : refusal_of packet s announced e ≡ header_refusal packet s announced e
  refusal_is = as_held packet s announced e f.within

  pub refuses : {u : Unread} → Err u ≡ judged_of k s (header_of packet s announced e) → Err u ≡ chained packet h
  refuses {u} answer =
      let j = judged_err k s (header_of packet s announced e) u answer in
      let d = refused_is packet s announced e j.0 j.1 in
      let is : u ≡ unread (named (header_refusal packet s announced e)) k s =
      j.2 ∙ ap (λ (r : Refusal). unread r k s) d.0 ∙ ap (λ (x : ℕ). unread (named x) k s) refusal_is in
      ap Err is ∙ ap chained_of (sym (follow_refused packet announced k s e f.outer f.left (λ z. d.1 (refusal_is ∙ z))) ∙ f.same)

  module _ {header : Header} (answer : Ok header ≡ judged_of k s (header_of packet s announced e)) where
    right_header : Passed packet s announced e header
    right_header = right_is packet s announced e header (judged_ok k s (header_of packet s announced e) header answer)

    pub one_or_two : header.protocol + 1 ≤ 2
    one_or_two = omega (arith, right_header.is_protocol, two_protocols packet s)

    pub sum_few : h ≤ 12 → n + weight * (header.protocol + 1) ≤ 16382
    sum_few low = omega (arith, few low, light low, mul-le-mul_left weight one_or_two)

    pub too_high : k ≡ h → Err (unread Refusal.Higher k s) ≡ chained packet h
    too_high top = ap chained_of (sym (follow_high packet announced k s e f.outer right_header.fine f.left (omega (arith, f.counted))) ∙ f.same)

    module _ (low : k < h) where
      -- the number with this header's protocol below those around it
      more : n + weight * (header.protocol + 1) ≡ number 2 (protocol packet s ∷ f.outer)
      more = rw (f.numbered, f.weighed, right_header.is_protocol, ← f.high) (sym (number_under (protocol packet s) f.outer))

      pub ends : header.after ≡ 0
          → Ok (record { number = n + weight * (header.protocol + 1); from = header.from; to = header.to }) ≡ chained packet h
      ends last =
          rw (more, right_header.is_inside, right_header.is_end)
          (ap chained_of
          (sym (follow_ends packet announced k s e f.outer right_header.fine f.left (omega (arith, f.counted)) (sym right_header.is_after ∙ last)) ∙ f.same))

      pub goes_on : (header.after ≡ 0 → ⊥)
          → Following packet h header.after (k + 1) header.from header.to (n + weight * (header.protocol + 1)) (weight * 2)
      goes_on on = record {
        outer = protocol packet s ∷ f.outer;
        left = f.left - 1;
        counted = omega (arith, f.counted);
        high = omega (arith, f.high);
        small = simp (lt-ltb (protocol packet s) 2 (two_protocols packet s)) f.small;
        numbered = more;
        weighed = rw (add-one k) (omega (arith, f.weighed, pow-succ' 2 k));
        within = omega (arith, f.within, right_header.is_end, length_fits packet s e (right packet s announced e right_header.fine).length);
        same =
            rw (right_header.is_after, right_header.is_inside, right_header.is_end)
            (sym (follow_on packet announced k s e f.outer right_header.fine f.left (omega (arith, f.counted)) (λ z. on (right_header.is_after ∙ z)))
            ∙ f.same);
      }
