-- Each turn passes at least one byte of the line.
use Rattle.std.proofs.Common.{◌-◌, length}
use Rattle.index_cases.proofs.lent.run_changes.Given as goal

abbrev pub decreases-loop-next : goal.decreases-loop-next
decreases-loop-next g l = length l.line - l.next
