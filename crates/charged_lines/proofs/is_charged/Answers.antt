-- Three tests joined. A line whose mark is not set is not in the list, for each line of the list is marked.
use mathlib.Core.Path.{sym, ◌∙◌}
use mathlib.Core.Bool.{true≢false}
use Rattle.charged_lines.proofs.Marks.{unlisted}
use Rattle.charged_lines.proofs.is_charged.Goals as goal
use Rattle.charged_lines.proofs.is_charged.Goals.{then-costs, else-costs}

pub returns-then-is_marked : goal.returns-then-is_marked
returns-then-is_marked c =
    elim c.if-costs.branch [
      | then-costs w ↦ rw (sym c.costs.ensures ∙ w.if-costs.true) c.is_listed.ensures
      | else-costs w ↦ absurd (true≢false (sym c.if-is_marked.true ∙ w.value-is ∙ w.if-costs.false))
    ]

pub returns-else-is_marked : goal.returns-else-is_marked
returns-else-is_marked c =
    elim c.if-costs.branch [
      | then-costs w ↦
          rw (sym c.costs.ensures ∙ w.if-costs.true)
          (c.if-is_marked.false ∙ sym (unlisted c.requires.1 c.args.line (sym w.is_marked.ensures ∙ sym w.value-is ∙ c.if-is_marked.false)))
      | else-costs w ↦ rw (sym c.costs.ensures ∙ w.if-costs.false) c.if-is_marked.false
    ]
