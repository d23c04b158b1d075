-- The readings of the answers that are enums: "A refusal returns its number and zeros". The number read from an answer is the refusal of its call,
-- and the values read with it are the call's, or zeros where it is refused.
use Prim.Native.Nat.{ℕ, suc}
use native.Mathlib.Decide.{ℕ_discrete}
use native.Mathlib.Omega.{arith}
use mathlib.Core.Path.{◌≡◌, refl, sym, ap, ◌∙◌, subst}
use mathlib.Core.Logic.{◌↔◌, by_cases}
use mathlib.Core.List.{List}
use mathlib.Core.Bool.{Bool, true, false, cond, ◌&&◌}
use lib.Dec.{leb, eqb}
use borrow.Author.Tests.{ne_eqb}
use Rattle.std.specs.Prelude.{Result, Ok, Err, Option, Some, None}
use Rattle.lists.specs.Lists.{unless}
use Rattle.refusal.specs.declared.Refusal.{Refusal}
use Rattle.refusal.specs.Numbers.{refusal_number, named, answered}
use Rattle.refusal.proofs.Named.{named_number, ListedOrNone, none_listed, unless_listed, cond_listed}
use Rattle.stacks.specs.Stacks.{ok_size, ok_stack, ok_number, number, count, height, stack_of}
use Rattle.stacks.specs.Answers as stack
use Rattle.functions.specs.Functions.{ok_function, apply, inverse, Outcome, becomes, cannot}
use Rattle.functions.specs.Answers as function
use Rattle.words.specs.Words.{ones_in, first_in}
use Rattle.words.specs.declared.Found.{Found}
use Rattle.network.specs.Network.{Network, stacks, ok_sizes, ok_links, refusal_of}
use Rattle.network.specs.Answers.{checked_of, checked_refusal, checked_stacks}
use Rattle.hear.specs.Hearing.{Gateway, Message, Rows, taken}
use Rattle.hear.specs.Answers.{hear_refusal, hear_answer, heard_refusal, heard_rows}
use Rattle.table.specs.Table.{Table, fresh, offers_taken}
use Rattle.table.specs.Answers.{
  refusal_by,
  refusal,
  fresh_answer,
  count_answer,
  first_of,
  first_answer,
  ok_message,
  waits,
  ok_sender,
  message_refusal_in,
  message_refusal,
  deliver_refusal,
  deliver_answer,
  counted_refusal,
  counted_messages,
  first_refusal,
  first_message,
  delivered_refusal,
  delivered_rows,
}
use Rattle.forward.specs.Answers.{look_refusal, look_onward}
use Rattle.forward.specs.declared.Look.{Look}

-- what is read from an answer: the refusal's number, 0 where nothing is refused, and with it these values, or else zeros
pub record Reads {A B : Type 0} (number : A → ℕ) (values : A → B) (answer : A) (refused : ℕ) (given zeros : B) : Type 0 where
  pub number_is : number answer ≡ refused
  pub values_are : values answer ≡ cond (eqb refused 0) given zeros

-- an answer that is given where nothing is refused
module _ {A B : Type 0} (number : Result A Refusal → ℕ) (values : Result A Refusal → B) (gives : Result A Refusal) (zeros : B)
    (none : number gives ≡ 0) (back : (q : Refusal) → number (Err q) ≡ refusal_number q) (clear : (q : Refusal) → values (Err q) ≡ zeros) where
  -- with the refusal r, 0 for none
  read : (r : ℕ) → ListedOrNone r → Reads number values (cond (eqb r 0) gives (Err (named r))) r (values gives) zeros
  read r listed = by_cases (ℕ_discrete r 0)
      (λ e. subst (λ (x : ℕ). Reads number values (cond (eqb x 0) gives (Err (named x))) x (values gives) zeros) (sym e)
      (record { number_is = none; values_are = refl }))
      (λ other. rw (ne_eqb r 0 other) (record { number_is = back (named r) ∙ listed other; values_are = rw (ne_eqb r 0 other) (clear (named r)) }))

  -- of a routine that has a test, with refusal 4 where it fails
  read_four : (ok : Bool) → Reads number values (cond ok gives (Err Refusal.Range)) (unless ok 4 0) (values gives) zeros
  read_four true = record { number_is = none; values_are = refl }
  read_four false = record { number_is = back Refusal.Range; values_are = clear Refusal.Range }

-- ---- the bare stack routines
module _ (p h : ℕ) where
  read_stack : (given : ℕ) (ok : Bool) → Reads stack.refusal stack.value (cond ok (Ok given) (Err Refusal.Range)) (unless ok 4 0) given 0
  read_stack given ok = read_four stack.refusal stack.value (Ok given) 0 refl (λ q. refl) (λ q. refl) ok

  pub stack_count_reads : Reads stack.refusal stack.value (stack.count_of p h) (unless (ok_size p h) 4 0) (count p h) 0
  stack_count_reads = read_stack (count p h) (ok_size p h)

  pub number_of_reads : (s : List ℕ) → Reads stack.refusal stack.value (stack.number_of p h s) (unless (ok_size p h && ok_stack p h s) 4 0) (number p s) 0
  number_of_reads s = read_stack (number p s) (ok_size p h && ok_stack p h s)

  pub stack_of_reads : (n : ℕ) (out : List ℕ) → Reads stack.refusal stack.value (stack.height_of p h n out) (unless (stack.ok_out p h n out) 4 0)
      (height p h n) 0
  stack_of_reads n out = read_stack (height p h n) (stack.ok_out p h n out)

  pub inverse_reads : (f : ℕ) → Reads stack.refusal stack.value (function.inverse_of p f) (unless (leb 1 p && (leb p 8 && ok_function p f)) 4 0) (inverse f) 0
  inverse_reads f = read_stack (inverse f) (leb 1 p && (leb p 8 && ok_function p f))

  -- where f is not applicable nothing is refused
  applied_none : (o : Outcome) → function.refusal_after (function.answer p o) ≡ 0
  applied_none (becomes s) = refl
  applied_none cannot = refl

  pub applied_reads : (f n : ℕ) → Reads function.refusal_after function.number_after (function.applied_of p h f n)
      (unless (ok_size p h && (ok_number p h n && ok_function p f)) 4 0) (function.number_after (function.answer p (apply h f (stack_of p h n)))) 0
  applied_reads f n =
      read_four function.refusal_after function.number_after (function.answer p (apply h f (stack_of p h n))) 0
      (applied_none (apply h f (stack_of p h n))) (λ q. refl) (λ q. refl) (ok_size p h && (ok_number p h n && ok_function p f))

-- ---- the calls on networks and tables, each of whose refusals has a name
check_listed : (net : Network) → ListedOrNone (refusal_of net)
unfolding refusal_of
check_listed net = unless_listed (ok_sizes net) 1 _ refl (unless_listed (ok_links net) 2 0 refl none_listed)

pub check_reads : (net : Network) → Reads checked_refusal checked_stacks (checked_of net) (refusal_of net) (stacks net) 0
check_reads net = read checked_refusal checked_stacks (Ok (stacks net)) 0 refl (λ q. refl) (λ q. refl) (refusal_of net) (check_listed net)

hear_listed : (g : Gateway) (m : Message) (r : Rows) → ListedOrNone (hear_refusal g m r)
unfolding hear_refusal
hear_listed g m r = unless_listed _ 4 _ refl (unless_listed _ 7 0 refl none_listed)

pub hear_reads : (g : Gateway) (m : Message) (r : Rows) → Reads heard_refusal heard_rows (hear_answer g m r) (hear_refusal g m r) (taken g m r) 0
hear_reads g m r = read heard_refusal heard_rows (Ok (taken g m r)) 0 refl (λ q. refl) (λ q. refl) (hear_refusal g m r) (hear_listed g m r)

module _ (net : Network) (t : Table) where
  table_listed : ListedOrNone (refusal net t)
  unfolding refusal refusal_by
  table_listed = cond_listed _ _ _ (unless_listed _ 3 0 refl none_listed) (check_listed net)

  read_count : (messages : ℕ) → Reads counted_refusal counted_messages (answered (refusal net t) messages) (refusal net t) messages 0
  read_count messages = read counted_refusal counted_messages (Ok messages) 0 refl (λ q. refl) (λ q. refl) (refusal net t) table_listed

  pub fresh_reads : Reads counted_refusal counted_messages (fresh_answer net t) (refusal net t) (ones_in (fresh net).waiting) 0
  fresh_reads = read_count (ones_in (fresh net).waiting)

  pub count_reads : Reads counted_refusal counted_messages (count_answer net t) (refusal net t) (ones_in t.waiting) 0
  count_reads = read_count (ones_in t.waiting)

  found_reads : (f : Option Found) → first_refusal (Ok (first_of net t f)) ≡ 0
  found_reads None = refl
  found_reads (Some f) = refl

  pub first_reads : Reads first_refusal first_message (first_answer net t) (refusal net t) (first_message (Ok (first_of net t (first_in t.waiting))))
      (first_message (Ok None))
  first_reads =
      read first_refusal first_message (Ok (first_of net t (first_in t.waiting))) (first_message (Ok None))
      (found_reads (first_in t.waiting)) (λ q. refl) (λ q. refl) (refusal net t) table_listed

  deliver_listed : (Q U D N : ℕ) → ListedOrNone (deliver_refusal net t Q U D N)
  unfolding deliver_refusal message_refusal_in
  deliver_listed Q U D N = cond_listed (eqb (refusal net t) 0) _ _ message_listed table_listed
    where
      message_listed : ListedOrNone (message_refusal net t Q U D N)
      message_listed = unless_listed (ok_message net t Q U D N) 4 _ refl (unless_listed (waits net t Q U D N) 5 _ refl
          (unless_listed (ok_sender net t Q U D N) 7 0 refl none_listed))

  pub deliver_reads : (Q U D N : ℕ) → Reads delivered_refusal delivered_rows (deliver_answer net t Q U D N) (deliver_refusal net t Q U D N)
      (offers_taken net t Q U D N) 0
  deliver_reads Q U D N =
      read delivered_refusal delivered_rows (Ok (offers_taken net t Q U D N)) 0 refl (λ q. refl) (λ q. refl) (deliver_refusal net t Q U D N)
      (deliver_listed Q U D N)

-- ---- a lookup's
-- no refusal has the number 0
number_some : (r : Refusal) → refusal_number r ≡ 0 → ⊥
number_some r e =
    let nine : refusal_number r ≡ 9 = ap refusal_number (sym (named_number r) ∙ ap named e) in
    omega arith

pub refused_is : (l : Result Look Refusal) (r : Refusal) → look_refusal l ≡ refusal_number r → l ≡ Err r
refused_is (Ok Look.Delivered) r e = absurd (number_some r (sym e))
refused_is (Ok (Look.Forward hop)) r e = absurd (number_some r (sym e))
refused_is (Err q) r e = ap Err (sym (named_number q) ∙ ap named e ∙ named_number r)

-- a refused lookup, and one that is delivered, has zeros
pub refused_zeros : (l : Result Look Refusal) (r : ℕ) → look_refusal l ≡ suc r → look_onward l ≡ look_onward (Ok Look.Delivered)
refused_zeros (Ok Look.Delivered) r e = absurd (omega arith)
refused_zeros (Ok (Look.Forward hop)) r e = absurd (omega arith)
refused_zeros (Err q) r e = refl

pub read_as : {A : Type 0} (l : Result Look Refusal) (r : Refusal) → (l ≡ Err r) ↔ A → (look_refusal l ≡ refusal_number r) ↔ A
read_as l r both = (λ e. both.0 (refused_is l r e), λ a. ap look_refusal (both.1 a))
