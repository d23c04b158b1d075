-- `words::first_in` meets its contract. The invariant: the search from i on has the answer of the whole search.
use mathlib.Core.Path.{sym, ap, ◌∙◌}
use Prim.Native.Nat.{ℕ}
use native.Mathlib.Omega.{arith}
use Rattle.words.specs.Words.{found_at, first_between}
use Rattle.words.proofs.Search.{first_here, first_next, first_end, first_cut}
use Rattle.words.proofs.first_in.Goals as goal

pub loop-i-init : goal.loop-i-init
loop-i-init c =
    let a = c.args in
    c.skipped-i.ensures ∙ ap (λ (n : ℕ). first_between a.from n a.words.now) c.min-end.ensures ∙ first_cut a.words.now a.from a.to

pub returns-then-word-ne0 : goal.returns-then-word-ne0
returns-then-word-ne0 c =
    let words = c.args.words.now in
    let i = c.loop-i.i in
    let end = c.min-end.result in
    ap (λ (v : ℕ). found_at i v) c.lowest.ensures
    ∙ sym (first_here words i end (omega arith) (omega arith) c.if-word-ne0.true)
    ∙ c.loop-i.invariant

pub loop-i-preserved : goal.loop-i-preserved
loop-i-preserved c =
    let words = c.args.words.now in
    let i = c.loop-i.i in
    let end = c.min-end.result in
    sym (first_next words i end (omega arith) (omega arith) c.if-word-ne0.false) ∙ c.loop-i.invariant

pub returns : goal.returns
returns c =
    let words = c.args.words.now in
    let end = c.min-end.result in
    sym (first_end words c.loop-i.i end (omega arith)) ∙ c.loop-i.invariant
