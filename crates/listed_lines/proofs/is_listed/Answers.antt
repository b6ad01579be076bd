use Prim.Native.Nat.{ℕ, ◌*◌}
use native.Mathlib.Omega.{arith}
use mathlib.Core.Path.{◌≡◌, sym, ap, ◌∙◌}
use mathlib.Core.Bool.{Bool}
use mathlib.Core.List.{List}
use lib.ListN.{length}
use Rattle.words.specs.Below.{any}
use Rattle.words.proofs.Below.{any_none, any_next, any_found}
use Rattle.listed_lines.specs.Listed.{line_numbers, stands_at, is_listed}
use Rattle.listed_lines.proofs.is_listed.Goals as goal

abbrev found : List ℕ → ℕ → List ℕ → Bool
found s count numbers = any count (λ i. stands_at s (line_numbers * i) numbers)

pub loop-i-init : goal.loop-i-init
loop-i-init c = any_none _

pub stands_at-requires : goal.stands_at-requires
stands_at-requires c = (ap length c.numbers_of-numbers.ensures, omega arith)

pub returns-then-stands_at : goal.returns-then-stands_at
unfolding is_listed
returns-then-stands_at c =
    let a = c.args in
    sym (any_found _ _ c.loop-i.i c.loop-i-test.true (sym c.stands_at.ensures ∙ c.if-stands_at.true))
    ∙ ap (found a.list.now a.count) c.numbers_of-numbers.ensures

pub loop-i-preserved : goal.loop-i-preserved
loop-i-preserved c = any_next _ _ c.loop-i.invariant (sym c.stands_at.ensures ∙ c.if-stands_at.false)

pub returns : goal.returns
unfolding is_listed
returns c =
    let a = c.args in
    let numbers = c.numbers_of-numbers in
    let end : c.loop-i.i ≡ a.count = omega arith in
    sym c.loop-i.invariant
    ∙ ap (λ (i : ℕ). found a.list.now i numbers.result) end
    ∙ ap (found a.list.now a.count) numbers.ensures
