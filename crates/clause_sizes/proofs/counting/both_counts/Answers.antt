-- Each count is counted by itself.
use Rattle.clause_sizes.proofs.SheetCounts.{counts_are}
use Rattle.clause_sizes.proofs.counting.both_counts.Goals as goal

pub returns : goal.returns
returns c = counts_are _ _ c.args.sheet.now.read c.variables_before.ensures c.clauses_of_lines.ensures
