-- The lines are those of the parts that reading gave.
use mathlib.Core.Path.{sym, ap}
use Rattle.sheet.specs.declared.Header.{Header}
use Rattle.answers.proofs.Calling.{refused_alone, was_read, asks_none}
use Rattle.reading_c.proofs.count_lines.Goals as goal

pub returns-in_err-header : goal.returns-in_err-header
returns-in_err-header c = refused_alone _ (λ n. n) _ _ _ c.from_residual.ensures.1 c.in_err-header.ensures

pub returns : goal.returns
returns c =
    let read = c.in_ok-header.ensures in
    asks_none _ read _ (ap (λ (h : Header). h.lines) (sym (was_read _ read).parts))
