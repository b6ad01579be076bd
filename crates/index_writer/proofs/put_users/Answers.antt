use Prim.Native.Nat.{◌+◌, ◌<◌}
use native.Mathlib.Nat.{add-zero}
use native.Mathlib.Omega.{arith}
use mathlib.Core.Path.{◌≡◌, refl, sym, ap, ◌∙◌}
use Rattle.trail.specs.Trail.{line_count}
use Rattle.sheet.specs.Fields.{trail_of}
use Rattle.sheet_indexes.specs.Index.{part_start}
use Rattle.sheet_indexes.proofs.Users.{users_count}
use Rattle.index_writer.specs.Placing.{users_before}
use Rattle.index_writer.proofs.Naming.{users_none}
use Rattle.index_writer.proofs.Keeping.{kept_as}
use Rattle.index_writer.proofs.Standing.{stands_none}
use Rattle.index_writer.proofs.Operands.{first_word, second_word, after_one, after_two, placed_as, place_fits, place_taken, first_next, second_next}
use Rattle.index_writer.proofs.put_users.Goals as goal
use Rattle.index_writer.proofs.put_users.Goals.{then-names_another, else-names_another}

pub loop-i-init : goal.loop-i-init
loop-i-init c =
    let t = trail_of c.args.sheet.now.bytes.now in (
      refl,
      record {
        kept = kept_as (λ j. sym (ap (λ n. part_start t j + n) (users_none t j) ∙ add-zero (part_start t j))) c.requires.0;
        stands = stands_none t c.args.out.now (users_none t);
      },
    )

pub put_user-requires : goal.put_user-requires
put_user-requires c =
    let h = c.loop-i in
    let read = c.args.sheet.now.read in
    let inside : c.loop-i.i < c.args.sheet.now.header.lines = omega arith in
    let line = c.line_at-line.ensures in
    let next = first_next read h.i inside line in
    let fits = place_fits read h.invariant.1 c.requires.1 _ h.i (first_word read h.i inside line) next.0 next.1 in
    (fits.0, fits.1, fits.2, omega (arith, read.limits.lines_most))

pub put_user-requires-then-names_another : goal.put_user-requires-then-names_another
put_user-requires-then-names_another c =
    let h = c.loop-i in
    let read = c.args.sheet.now.read in
    let room = c.requires.1 in
    let inside : c.loop-i.i < c.args.sheet.now.header.lines = omega arith in
    let line = c.line_at-line.ensures in
    let next = first_next read h.i inside line in
    let put = c.put_user.ensures in
    let one = place_taken read h.invariant.1 room _ h.i (first_word read h.i inside line) next.0 next.1 put.0 put.1 in
    let another = sym c.names_another.ensures ∙ c.if-names_another.true in
    let then = second_next read h.i inside line another in
    let fits = place_fits read one room _ h.i (second_word read h.i inside line another) then.0 then.1 in
    (fits.0, fits.1, fits.2, omega (arith, read.limits.lines_most))

pub loop-i-preserved : goal.loop-i-preserved
loop-i-preserved c =
    let h = c.loop-i in
    let read = c.args.sheet.now.read in
    let room = c.requires.1 in
    let inside : c.loop-i.i < c.args.sheet.now.header.lines = omega arith in
    let line = c.line_at-line.ensures in
    let next = first_next read h.i inside line in
    let put = c.put_user.ensures in
    let one = place_taken read h.invariant.1 room _ h.i (first_word read h.i inside line) next.0 next.1 put.0 put.1 in
    let named = c.names_another.ensures in
    elim c.if-names_another.branch [
      | then-names_another w ↦
          let another = sym named ∙ w.if-names_another.true in
          let then = second_next read h.i inside line another in
          let again = w.put_user-then-names_another.ensures in
          let two = place_taken read one room _ h.i (second_word read h.i inside line another) then.0 then.1 (w.last-is ∙ again.0) (w.out-is ∙ again.1) in
          let all = placed_as read (after_two read h.i inside line another) two in
          (all.stands.long, all)
      | else-names_another w ↦
          let all = placed_as read (after_one read h.i inside line (sym named ∙ w.if-names_another.false)) one in
          rw (w.last-is, w.out-is) (all.stands.long, all)
    ]

pub returns : goal.returns
returns c =
    let h = c.loop-i in
    let read = c.args.sheet.now.read in
    let t = trail_of c.args.sheet.now.bytes.now in
    let all : h.i ≡ line_count t = omega (arith, read.lines) in
    placed_as read (λ j. ap (λ n. users_before t n j) all ∙ sym (users_count t j)) h.invariant.1
