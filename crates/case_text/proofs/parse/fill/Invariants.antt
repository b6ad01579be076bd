-- Each turn passes at least one byte of the line.
use Rattle.std.proofs.Common.{length, ◌-◌}
use Rattle.case_text.proofs.parse.fill.Given as goal

abbrev pub decreases-loop-at : goal.decreases-loop-at
decreases-loop-at l = length l.line - l.at
