-- The kinds that use their second operand have it renumbered.
use mathlib.Core.Path.{◌≡◌, sym, ap, ◌∙◌}
use mathlib.Core.Bool.{Bool, true, false, cond}
use Rattle.trail.specs.Kinds.{kind_of, uses_second}
use Rattle.trail.specs.Joining.{joined_word}
use Rattle.trail.proofs.KindTests.{kind-tests}
use Rattle.joined_lines.proofs.joined_second.Goals as goal

pub returns-in-1 : goal.returns-in-1
returns-in-1 c =
    let a = c.args in
    let used : uses_second (kind_of a.line.kind) ≡ true = search kind-tests depth 8 in
    λ t u inputs lines second.
    c.joined_word.ensures t u inputs lines second
    ∙ sym (ap (λ (b : Bool). cond b (joined_word t u a.names.now a.line.second) 0) used)

pub returns-in_default : goal.returns-in_default
returns-in_default c =
    let a = c.args in
    let unused : uses_second (kind_of a.line.kind) ≡ false = search kind-tests depth 8 in
    λ t u _ _ _. sym (ap (λ (b : Bool). cond b (joined_word t u a.names.now a.line.second) 0) unused)
