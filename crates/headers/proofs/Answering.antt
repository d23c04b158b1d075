-- What `read_stack` answers and writes at each return, over plain variables.
use Prim.Native.Nat.{ℕ, ◌≤◌}
use native.Mathlib.Omega.{arith}
use mathlib.Core.Path.{◌≡◌, refl, sym, ap, ◌∙◌}
use mathlib.Core.List.{List, [], ◌++◌}
use mathlib.Core.Bool.{Bool, true, cond}
use lib.ListN.{length, drop}
use lib.Dec.{leb}
use Rattle.stacks.specs.Stacks.{number, height, ok_size}
use Rattle.stacks.specs.Answers.{ok_out, height_of}
use Rattle.stacks.specs.Answers as stacks
use Rattle.stacks.proofs.Tests.{Good, good, good_ok, ok_size_yes}
use Rattle.stacks.proofs.Outcomes.{cond_value, cond_refused}
use Rattle.stacks.proofs.Numbers.{number_ok, stack_of_number_short, height_number}
use Rattle.headers.specs.Chains.{Reading, found, refused, reading_of, follow}
use Rattle.headers.specs.Answers.{answered, read_of, written, out_of}
use Rattle.headers.specs.Steps.{unread, chained_of}
use Rattle.headers.specs.declared.chain.Chained.{Chained}
use Rattle.headers.specs.declared.Read.{Read}
use Rattle.headers.specs.declared.Unread.{Unread}
use Rattle.std.specs.Prelude.{Result, Ok, Err}
use Rattle.refusal.specs.declared.Refusal.{Refusal}
use Rattle.headers.proofs.Reading.{finds}
use Rattle.headers.proofs.Bounds.{a_stack}

-- the reading behind a chain

refused_is : (out : List ℕ) (reading : Reading) (u : Unread) → Err u ≡ chained_of reading → (Err u ≡ answered out reading) × (out ≡ written out reading)
refused_is out (found stack from to) u e = cc
refused_is out (refused r k s) u e = ((cc), refl)

found_is : (reading : Reading) (chain : Chained) → Ok chain ≡ chained_of reading
    → (stack : List ℕ) × (reading ≡ found stack chain.from chain.to) × (chain.number ≡ number 2 stack)
found_is (found stack f t) chain e = (stack, (cc), (cc))
found_is (refused r k s) chain e = cc

-- what stacks::stack_of says of a stack's number, read back

module _ (h : ℕ) (stack out : List ℕ) (some : 1 ≤ h) (low : h ≤ 12) (g : Good 2 h stack) where
  high_is : height 2 h (number 2 stack) ≡ length stack
  high_is = height_number 2 h stack g.small g.low

  fits : ok_out 2 h (number 2 stack) out ≡ leb (length stack) (length out)
  unfolding ok_out
  fits = simp (ok_size_yes 2 h (omega arith) (omega arith) some low, number_ok 2 h stack (good_ok 2 h stack g), high_is)

  height_is : height_of 2 h (number 2 stack) out ≡ cond (leb (length stack) (length out)) (Ok (length stack)) (Err Refusal.Range)
  height_is = simp (fits, high_is)

  out_is : stacks.out_of 2 h (number 2 stack) out ≡ cond (leb (length stack) (length out)) (stack ++ drop (length stack) out) out
  out_is = simp (fits, high_is, stack_of_number_short 2 h stack g.small g.low)

-- what is asked of an answer r that leaves the buffer so
abbrev pub Answers : ℕ → List ℕ → List ℕ → Result Read Unread → List ℕ → Type 0
Answers h packet out r left = (r ≡ read_of h packet out) × (left ≡ out_of h packet out)

module _ (h : ℕ) (packet out : List ℕ) where
  module _ (bounds : (1 ≤ h) × (h ≤ 12)) where
    a_bound : ok_size 2 h ≡ true
    a_bound = ok_size_yes 2 h (omega arith) (omega arith) bounds.0 bounds.1

    is_follow : reading_of h packet ≡ follow packet h 0 0 0 (length packet) []
    unfolding reading_of
    is_follow = simp a_bound

    pub chain_refused : {u : Unread} → Err u ≡ chained_of (follow packet h 0 0 0 (length packet) []) → Answers h packet out (Err u) out
    chain_refused {u} e = rw is_follow (refused_is out (follow packet h 0 0 0 (length packet) []) u e)

    module _ {chain : Chained} (e : Ok chain ≡ chained_of (follow packet h 0 0 0 (length packet) [])) where
      -- the stack that was found
      record Stacked : Type 0 where
        stack : List ℕ
        read : reading_of h packet ≡ found stack chain.from chain.to
        numbered : chain.number ≡ number 2 stack
        a_good : Good 2 h stack

      stacked : Stacked
      stacked =
          let w = found_is (follow packet h 0 0 0 (length packet) []) chain e in
          record {
            stack = w.0;
            read = is_follow ∙ w.1;
            numbered = w.2;
            a_good = good 2 h w.0 (a_stack h packet w.0 chain.from chain.to ((finds h packet w.0 chain.from chain.to).0 (is_follow ∙ w.1)));
          }

      -- whether the buffer has room for it
      abbrev room : Bool
      room = leb (length stacked.stack) (length out)

      height_so : height_of 2 h chain.number out ≡ cond room (Ok (length stacked.stack)) (Err Refusal.Range)
      height_so = ap (λ (x : ℕ). height_of 2 h x out) stacked.numbered ∙ height_is h stacked.stack out bounds.0 bounds.1 stacked.a_good

      out_so : stacks.out_of 2 h chain.number out ≡ cond room (stacked.stack ++ drop (length stacked.stack) out) out
      out_so = ap (λ (x : ℕ). stacks.out_of 2 h x out) stacked.numbered ∙ out_is h stacked.stack out bounds.0 bounds.1 stacked.a_good

      pub stack_written : {high : ℕ} {left : List ℕ} → Ok high ≡ height_of 2 h chain.number out → left ≡ stacks.out_of 2 h chain.number out
          → Answers h packet out (Ok (record { height = high; number = chain.number; from = chain.from; to = chain.to })) left
      stack_written {high} value is =
          let c = cond_value room (length stacked.stack) high (sym (value ∙ height_so)) in
          rw stacked.read (simp c.0 ((cc (c.1, stacked.numbered)), is ∙ out_so ∙ simp c.0))

      pub no_room : {refusal : Refusal} {left : List ℕ} → Err refusal ≡ height_of 2 h chain.number out → left ≡ stacks.out_of 2 h chain.number out
          → Answers h packet out (Err (unread Refusal.NoRoom 0 0)) left
      no_room {refusal} value is =
          let c = cond_refused room (length stacked.stack) refusal (sym (value ∙ height_so)) in
          rw stacked.read (simp c.0 (refl, is ∙ out_so ∙ simp c.0))
