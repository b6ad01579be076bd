-- By how many of the block's records are lines': none, all, or some.
use Rattle.std.proofs.Common.{ℕ, ◌-◌, ◌*◌, ap, ◌∙◌, arith}
use Rattle.sheet.proofs.FormSizes.{lines_before}
use Rattle.block_questions.proofs.Rests.{rest_from}
use Rattle.block_questions.proofs.rest.block_rest.Goals as goal

pub overflow_mul-records : goal.overflow_mul-records
overflow_mul-records c = rw c.records_in_block-records.ensures (omega (arith, lines_before c.args.header.form c.args.i))

pub returns-then-header-records : goal.returns-then-header-records
returns-then-header-records c =
    let a = c.args in
    let is = c.records_in_block-records.ensures in
    let none = rw is at c.if-header-records.true in
    c.rest_from.ensures ∙ rest_from _ a.header a.i 0 (λ r l. omega arith) (λ r l m. omega arith) (omega arith)

pub returns-then-records-lines : goal.returns-then-records-lines
returns-then-records-lines c =
    let a = c.args in
    let is = c.records_in_block-records.ensures in
    let some = rw is at c.if-header-records.false in
    let full = rw is at c.if-records-lines.true in
    c.rest_from-then-records-lines.ensures ∙ rest_from _ a.header a.i c.records_in_block-records.result (λ r l. omega arith) (λ r l m. omega arith) (omega arith)

pub returns : goal.returns
returns c =
    let a = c.args in
    let is = c.records_in_block-records.ensures in
    let same = ap (λ (records : ℕ). records * a.i) is in
    c.rest_from-2.ensures ∙ rest_from _ a.header a.i (a.header.lines - c.records_in_block-records.result * a.i) (λ r l. omega arith) (λ r l m. omega arith) (omega arith)
