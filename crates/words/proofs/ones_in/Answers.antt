-- `words::ones_in` meets its contract: the sum of the words' set bits, as the library sums a list.
use mathlib.Core.Path.{◌≡◌, refl, sym, ap, ◌∙◌}
use mathlib.Core.List.{List}
use Prim.Native.Nat.{ℕ}
use borrow.Author.Rules.{rules}
use Rattle.std.specs.List.{sum_by}
use Rattle.std.proofs.lemmas.List.Recursion.{is_sum_by}
use Rattle.bits.specs.Bits.{ones_of}
use Rattle.words.specs.Words.{ones_in}
use Rattle.words.proofs.Search.{count_few, count_many}
use Rattle.words.proofs.ones_in.Goals as goal

is_sum : (ws : List ℕ) → ones_in ws ≡ sum_by ones_of ws
unfolding ones_in
is_sum ws = is_sum_by ones_in ones_of refl (λ w vs. refl) ws

pub returns-then-words-gt524288 : goal.returns-then-words-gt524288
returns-then-words-gt524288 c = sym (count_many c.args.words.now c.if-words-gt524288.true)

pub returns : goal.returns
returns c =
    let words = c.args.words.now in
    let total : c.sum.result ≡ sum_by ones_of c.iter.result.rest.now = search rules in
    total ∙ ap (sum_by ones_of) c.iter.ensures.rest ∙ sym (is_sum words) ∙ sym (count_few words c.if-words-gt524288.false)
