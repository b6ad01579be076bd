-- The call reads, asks for the room, and writes the counts only then.
use mathlib.Core.Path.{subst}
use Rattle.buffers.specs.Overwrite.{Wrote}
use Rattle.clause_sizes.specs.declared.Counts.{Counts}
use Rattle.answers.proofs.Calling.{was_read, calling, refuses_too, kept, kept_too, written}
use Rattle.clauses_c.specs.Calls.{counts_numbers}
use Rattle.clauses_c.proofs.write_counts.Goals as goal

pub returns-in_err-header : goal.returns-in_err-header
returns-in_err-header c = kept_too _ _ _ _ _ c.from_residual.ensures.1 (refuses_too _ _ _ _ c.in_err-header.ensures)

pub returns-then-out-lt2 : goal.returns-then-out-lt2
returns-then-out-lt2 c = let read = c.in_ok-header.ensures in kept _ _ _ (search calling depth 12)

pub invariant_of-both_counts : goal.invariant_of-both_counts
invariant_of-both_counts c = record { read = was_read _ c.in_ok-header.ensures }

pub returns : goal.returns
returns c =
    let read = c.in_ok-header.ensures in
    let put = c.put_all in
    let wrote = subst (λ (n : Counts). Wrote 0 (counts_numbers n) c.args.out.now put.result put.new.out) c.both_counts-counts.ensures put.ensures in
    written _ _ _ wrote (search calling depth 12)
