-- `two_runs` reads, asks whether the words are a starting value, and runs: its answer is the verdict of these questions in order.
use Rattle.answers.proofs.Calling.{refused_by_reading, was_read}
use Rattle.sheet_runs.specs.Outcome.{outcome_means}
use Rattle.runs.proofs.StartTest.{running}
use Rattle.runs.proofs.two_runs.Goals as goal

pub returns-in_err-header : goal.returns-in_err-header
returns-in_err-header c = refused_by_reading _ outcome_means _ _ _ _ c.from_residual.ensures.1 c.in_err-header.ensures

pub is_start-requires : goal.is_start-requires
is_start-requires c = search (running, c.in_ok-header.ensures) depth 14

pub returns-then-not-is_start : goal.returns-then-not-is_start
returns-then-not-is_start c = let read = c.in_ok-header.ensures in search running depth 14

pub invariant_of-run_lines : goal.invariant_of-run_lines
invariant_of-run_lines c = record { read = was_read _ c.in_ok-header.ensures }

pub run_lines-requires : goal.run_lines-requires
run_lines-requires c = let read = c.in_ok-header.ensures in search running depth 14

pub returns : goal.returns
returns c = let read = c.in_ok-header.ensures in search running depth 14
