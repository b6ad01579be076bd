use Prim.Native.Nat.{◌<◌}
use native.Mathlib.Nat.{zero-add}
use native.Mathlib.Omega.{arith}
use mathlib.Core.Path.{◌≡◌, refl, sym, ap, subst, ◌∙◌}
use lib.ListN.{length}
use Rattle.sheet.specs.Fields.{trail_of}
use Rattle.sheet_indexes.specs.Users.{users}
use Rattle.sheet_indexes.specs.Index.{word_count, part_start}
use Rattle.sheet_indexes.proofs.Index.{start_none, part_inside, index_length}
use Rattle.index_writer.specs.Placing.{Stands}
use Rattle.index_writer.proofs.Operands.{words_read}
use Rattle.index_writer.proofs.Standing.{stands_now, stands_since, stands_all}
use Rattle.index_writer.proofs.Starting.{count_written, next_start}
use Rattle.index_writer.proofs.put_index.Goals as goal

pub loop-j-init : goal.loop-j-init
loop-j-init c =
    let t = trail_of c.args.sheet.now.bytes.now in
    (refl, sym (start_none t), stands_now t c.put_users.ensures.stands)

pub bounds-out-at : goal.bounds-out-at
bounds-out-at c =
    let h = c.loop-j in
    omega (
      arith,
      h.invariant.0,
      h.invariant.1,
      c.put_users.ensures.stands.long,
      part_inside (trail_of c.args.sheet.now.bytes.now) h.j (omega (arith, words_read c.args.sheet.now.read)),
      c.requires.1,
    )

pub loop-j-preserved : goal.loop-j-preserved
loop-j-preserved c =
    let h = c.loop-j in
    let t = trail_of c.args.sheet.now.bytes.now in
    let known : h.j < word_count t = omega (arith, words_read c.args.sheet.now.read) in
    let placed = c.put_users.ensures in
    let written = count_written t placed h.j known h.invariant.1 (omega (arith, placed.stands.long, c.requires.1)) h.invariant.2 in
    (written.long, next_start t placed h.j known, written)

pub returns : goal.returns
returns c =
    let h = c.loop-j in
    let t = trail_of c.args.sheet.now.bytes.now in
    let all : h.j ≡ word_count t = omega (arith, words_read c.args.sheet.now.read) in
    let stands = stands_since t c.put_users.ensures.stands h.invariant.2 in
    record {
      next = h.invariant.1 ∙ ap (part_start t) all ∙ sym (index_length t) ∙ sym (zero-add _);
      now_is = stands_all t c.requires.1 (subst (λ n. Stands t n (λ x. length (users t x)) c.args.out.now h.out) all stands);
    }
