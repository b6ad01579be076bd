-- The differential that was read, with three differences chosen by tests, is that of the changed trail.
use Rattle.changed_reports.proofs.Differentials.{differential_changed}
use Rattle.changed_reports.proofs.changed_differential.Goals as goal

pub returns : goal.returns
returns c =
    let a = c.args in
    differential_changed a.sheet.now.read a.k a.difference c.requires.0 a.i
    c.differential_at-before.ensures
    c.difference_of-stated.ensures c.difference_of-first.ensures c.difference_of-second.ensures
