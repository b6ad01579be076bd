-- The call reads, asks for the room and whether the words are a starting value, and only then runs and writes.
use mathlib.Core.Path.{subst}
use Rattle.buffers.specs.Overwrite.{Wrote}
use Rattle.answers.proofs.Calling.{was_read, refuses_too, kept, kept_too, written}
use Rattle.sheet_runs.specs.Outcome.{Outcome}
use Rattle.runs_c.specs.Calls.{outcome_numbers}
use Rattle.runs.proofs.StartTest.{running}
use Rattle.runs_c.proofs.write_outcome.Goals as goal

pub returns-in_err-header : goal.returns-in_err-header
returns-in_err-header c = kept_too _ _ _ _ _ c.from_residual.ensures.1 (refuses_too _ _ _ _ c.in_err-header.ensures)

pub returns-then-out-lt3 : goal.returns-then-out-lt3
returns-then-out-lt3 c = let read = c.in_ok-header.ensures in kept _ _ _ (search running depth 14)

pub is_start-requires : goal.is_start-requires
is_start-requires c = let read = c.in_ok-header.ensures in search running depth 14

pub returns-then-not-is_start : goal.returns-then-not-is_start
returns-then-not-is_start c = let read = c.in_ok-header.ensures in kept _ _ _ (search running depth 14)

pub invariant_of-sheet : goal.invariant_of-sheet
invariant_of-sheet c = record { read = was_read _ c.in_ok-header.ensures }

pub run_lines-requires : goal.run_lines-requires
run_lines-requires c = let read = c.in_ok-header.ensures in search running depth 14

pub returns : goal.returns
returns c =
    let read = c.in_ok-header.ensures in
    let put = c.put_outcome in
    let wrote = subst (λ (o : Outcome). Wrote 0 (outcome_numbers o) c.args.out.now put.result put.new.out) c.run_lines.ensures put.ensures in
    written _ _ _ wrote (search running depth 14)
