use native.Mathlib.Omega.{arith}
use mathlib.Core.Path.{◌≡◌}
use Rattle.gate_writer.proofs.Writing.{rows_start, row_fits, rows_next}
use Rattle.clause_lists.specs.Lists.{run_clauses}
use Rattle.clause_writer.specs.Writing.{clauses_of_bit}
use Rattle.clause_writer.proofs.put_run.Goals as goal

pub loop-i-init : goal.loop-i-init
unfolding run_clauses
loop-i-init c =
    let a = c.args in
    rows_start (clauses_of_bit a.run) a.run.width a.at a.out.now c.requires

pub put_bit-next-requires : goal.put_bit-next-requires
unfolding run_clauses
put_bit-next-requires c =
    let a = c.args in
    let h = c.loop-i in
    (omega arith, row_fits (clauses_of_bit a.run) a.run.width a.at a.out.now c.requires h.i h.next h.out (omega arith) h.invariant h.auto.out)

pub loop-i-preserved : goal.loop-i-preserved
unfolding run_clauses
loop-i-preserved c =
    let a = c.args in
    let h = c.loop-i in
    rows_next (clauses_of_bit a.run) a.run.width a.at a.out.now c.requires h.i h.next _ h.out _ (omega arith) h.invariant c.put_bit-next.ensures

pub returns : goal.returns
unfolding run_clauses
returns c =
    let a = c.args in
    let h = c.loop-i in
    let e : h.i ≡ a.run.width = omega arith in
    rw e at h.invariant
