use Prim.Native.Nat.{◌<◌}
use native.Mathlib.Omega.{arith}
use mathlib.Core.Path.{sym, ap, ◌∙◌}
use Rattle.sheet.specs.Fields.{trail_of}
use Rattle.sheet_indexes.specs.Index.{word_count}
use Rattle.sheet_indexes.proofs.Users.{users_count}
use Rattle.sheet_indexes.proofs.Index.{part_inside}
use Rattle.sheet_indexes.proofs.Sizes.{index_most}
use Rattle.index_writer.specs.Placing.{users_before}
use Rattle.index_writer.proofs.Operands.{words_read, words_most}
use Rattle.index_writer.proofs.Starting.{started_none, started_next, started_all}
use Rattle.index_writer.proofs.index_starts.Goals as goal

pub loop-j-init : goal.loop-j-init
loop-j-init c =
    let read = c.args.sheet.now.read in
    let t = trail_of c.args.sheet.now.bytes.now in
    started_none t (words_most read) (λ x. ap (λ n. users_before t n x) (sym read.lines) ∙ sym (users_count t x)) c.count_users.ensures

pub overflow_cast-starts : goal.overflow_cast-starts
overflow_cast-starts c =
    let read = c.args.sheet.now.read in
    let h = c.loop-j in
    omega (arith, h.invariant.next_is, part_inside (trail_of c.args.sheet.now.bytes.now) h.j (omega (arith, words_read read)), index_most read)

pub overflow_add-next-in-loop-j : goal.overflow_add-next-in-loop-j
overflow_add-next-in-loop-j c =
    let read = c.args.sheet.now.read in
    let h = c.loop-j in
    let t = trail_of c.args.sheet.now.bytes.now in
    let known : h.j < word_count t = omega (arith, words_read read) in
    omega (arith, h.invariant.next_is, h.invariant.counts h.j (omega arith) known, part_inside t h.j known, index_most read)

pub loop-j-preserved : goal.loop-j-preserved
loop-j-preserved c =
    let read = c.args.sheet.now.read in
    let h = c.loop-j in
    started_next (trail_of c.args.sheet.now.bytes.now) (words_most read) (omega (arith, words_read read)) h.invariant

pub returns : goal.returns
returns c =
    let h = c.loop-j in
    started_all (trail_of c.args.sheet.now.bytes.now) (omega (arith, words_read c.args.sheet.now.read)) h.invariant
