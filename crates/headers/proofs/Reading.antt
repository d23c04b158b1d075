-- The reader, which collects the headers from outside to inside, finds the chains of headers and nothing else.
use Prim.Native.Nat.{ℕ, zero, suc, ◌+◌, ◌≤◌}
use native.Mathlib.Omega.{arith}
use mathlib.Core.Path.{◌≡◌, refl, sym, ap, ◌∙◌, subst, subst₂}
use mathlib.Core.Logic.{◌↔◌}
use mathlib.Core.List.{List, [], ◌∷◌, ◌++◌, append-nil}
use mathlib.Core.Bool.{Bool, true, false, cond}
use lib.ListN.{length, length-append}
use lib.Dec.{eqb, eqb-suc-zero}
use lib.Seq.{append_snoc}
use borrow.Author.Tests.{eqb-true}
use Rattle.stacks.specs.Stacks.{ok_size}
use Rattle.header.specs.Fields.{announces, next, protocol, inside, end, Right}
use Rattle.header.specs.Answers.{header_refusal}
use Rattle.headers.specs.Chains.{Chain, innermost, around, Reads, Reading, found, refused, follow, reading_of}
use Rattle.header.proofs.Rightness.{right, unrefused}

module _ (packet : List ℕ) where
  -- a chain is found, with what stands around it
  pub chain_found : {announced s e from to : ℕ} {stack : List ℕ} → Chain packet announced s e stack from to
      → (left k : ℕ) (outer : List ℕ) → length stack ≤ left → follow packet left announced k s e outer ≡ found (stack ++ outer) from to
  chain_found (innermost announced s e r last) zero k outer low = absurd (omega arith)
  chain_found (innermost announced s e r last) (suc left) k outer low = rw (unrefused packet s announced e r, last)
  chain_found (around announced s e v from to inner r more c) zero k outer low = absurd (omega (arith, length-append inner (protocol packet s ∷ [])))
  chain_found (around announced s e v from to inner r more c) (suc left) k outer low =
      rw (unrefused packet s announced e r, more, eqb-suc-zero v)
      (chain_found c left (suc k) (protocol packet s ∷ outer) (omega (arith, length-append inner (protocol packet s ∷ [])))
      ∙ ap (λ (stack : List ℕ). found stack from to) (sym (append_snoc inner (protocol packet s) outer)))

-- what was found is no refusal
found_past : (b : Bool) (x : Reading) (r k s from to : ℕ) (stack : List ℕ) → cond b x (refused r k s) ≡ found stack from to
    → (b ≡ true) × (x ≡ found stack from to)
found_past true x r k s from to stack e = (refl, e)
found_past false x r k s from to stack e = absurd (let z : ◌≡◌ {A = ℕ} 0 1 = cc in omega arith)

-- a chain inside what stands around it, which so many headers can have
pub record Within (packet : List ℕ) (announced s e left from to : ℕ) (outer stack : List ℕ) : Type 0 where
  pub inner : List ℕ
  pub whole : inner ++ outer ≡ stack
  pub chain : Chain packet announced s e inner from to
  pub low : length inner ≤ left

module _ (packet : List ℕ) where
  -- what is found is a chain
  pub found_chain : (left announced k s e from to : ℕ) (outer stack : List ℕ) → follow packet left announced k s e outer ≡ found stack from to
      → Within packet announced s e left from to outer stack
  found_chain zero announced k s e from to outer stack f =
      let g = found_past (eqb (header_refusal packet s announced e) 0) (refused 67 k s) _ k s from to stack f in
      absurd (let z : ◌≡◌ {A = ℕ} 0 1 = cc g.1 in omega arith)
  found_chain (suc left) announced k s e from to outer stack f =
      let g = found_past (eqb (header_refusal packet s announced e) 0) _ _ k s from to stack f in
      go (announces (next packet s)) refl g.1
      (found_chain left (announces (next packet s)) (suc k) (inside packet s) (end packet s) from to (protocol packet s ∷ outer) stack)
      (right packet s announced e (eqb-true (header_refusal packet s announced e) 0 g.0))
    where
      go : (v : ℕ) → announces (next packet s) ≡ v
          → cond (eqb v 0) (found (protocol packet s ∷ outer) (inside packet s) (end packet s))
          (follow packet left v (suc k) (inside packet s) (end packet s) (protocol packet s ∷ outer)) ≡ found stack from to
          → (follow packet left v (suc k) (inside packet s) (end packet s) (protocol packet s ∷ outer) ≡ found stack from to
          → Within packet v (inside packet s) (end packet s) left from to (protocol packet s ∷ outer) stack)
          → Right packet s announced e
          → Within packet announced s e (suc left) from to outer stack
      go zero last q deeper r =
          let begins : inside packet s ≡ from = cc in
          let ends : end packet s ≡ to = cc in
          record {
            inner = protocol packet s ∷ [];
            whole = cc;
            chain = subst₂ (λ x y. Chain packet announced s e (protocol packet s ∷ []) x y) begins ends (innermost announced s e r last);
            low = omega arith;
          }
      go (suc v) more q deeper r =
          let w = deeper (rw (eqb-suc-zero v) at q) in
          record {
            inner = w.inner ++ (protocol packet s ∷ []);
            whole = append_snoc w.inner (protocol packet s) outer ∙ w.whole;
            chain = around announced s e v from to w.inner r more w.chain;
            low = omega (arith, length-append w.inner (protocol packet s ∷ []), w.low);
          }

  -- so from one header on there is one chain
  pub one_chain : (stack stack' : List ℕ) (announced s e from from' to to' : ℕ)
      → Chain packet announced s e stack from to → Chain packet announced s e stack' from' to' → (stack ≡ stack') × (from ≡ from') × (to ≡ to')
  one_chain stack stack' announced s e from from' to to' c c' =
      let f = chain_found packet c (length stack + length stack') 0 [] (omega arith) in
      let f' = chain_found packet c' (length stack + length stack') 0 [] (omega arith) in
      let same : found (stack ++ []) from to ≡ found (stack' ++ []) from' to' = sym f ∙ f' in
      let stacks : stack ++ [] ≡ stack' ++ [] = cc in
      (sym (append-nil stack) ∙ stacks ∙ append-nil stack', (cc), (cc))

-- the reader finds a reading exactly where there is one
pub finds : (h : ℕ) (packet stack : List ℕ) (from to : ℕ) → (reading_of h packet ≡ found stack from to) ↔ Reads h packet stack from to
unfolding reading_of
finds h packet stack from to = (reads, read)
  where
    reads : reading_of h packet ≡ found stack from to → Reads h packet stack from to
    reads f =
        let w = found_chain packet h 0 0 0 (length packet) from to [] stack (found_past (ok_size 2 h) (follow packet h 0 0 0 (length packet) []) 1 0 0 from
        to stack f).1 in
        let same : w.inner ≡ stack = sym (append-nil w.inner) ∙ w.whole in
        record {
          bound = (found_past (ok_size 2 h) (follow packet h 0 0 0 (length packet) []) 1 0 0 from to stack f).0;
          chain = subst (λ (l : List ℕ). Chain packet 0 0 (length packet) l from to) same w.chain;
          low = subst (λ (l : List ℕ). length l ≤ h) same w.low;
        }

    read : Reads h packet stack from to → reading_of h packet ≡ found stack from to
    read r = rw r.bound (chain_found packet r.chain h 0 [] r.low ∙ ap (λ (l : List ℕ). found l from to) (append-nil stack))
