-- `join_read` asks 20 to 22, then for the room, and writes only then.
use Prim.Native.Nat.{ℕ, ◌-◌}
use native.Mathlib.Omega.{arith}
use mathlib.Core.Path.{◌≡◌, ap, ◌∙◌}
use mathlib.Core.List.{List}
use borrow.Rule.Slice.PartMut.{put_mid}
use lib.ListN.{length}
use lib.Seq.{length-take-le}
use Rattle.buffers.proofs.Overwrite.{overwrite_part}
use Rattle.answers.proofs.Calling.{refuses_too, kept, kept_too, written}
use Rattle.joined_sheets.specs.JoinedSheet.{joined_sheet}
use Rattle.joining.proofs.Calling.{joined_need, lines_most, names_many, room_refused, room_enough}
use Rattle.joining.proofs.join_read.Goals as goal

pub returns-in_err-join_stage : goal.returns-in_err-join_stage
returns-in_err-join_stage c = kept_too _ _ _ _ _ c.from_residual.ensures.1 (refuses_too _ _ _ _ c.in_err-join_stage.ensures)

pub joined_bytes-need-requires : goal.joined_bytes-need-requires
joined_bytes-need-requires c =
    let a = c.args in
    lines_most a.names.now a.out.now a.first.now.read a.second.now.read c.in_ok-join_stage.ensures

pub returns-then-out-need : goal.returns-then-out-need
returns-then-out-need c =
    let a = c.args in
    let need = joined_need a.names.now a.out.now a.first.now.read a.second.now.read in
    kept _ _ _ (room_refused a.names.now a.out.now a.first.now.read a.second.now.read c.in_ok-join_stage.ensures _ (omega arith))

pub write_joined-requires : goal.write_joined-requires
write_joined-requires c =
    let a = c.args in
    let one = a.first.now.read in
    let two = a.second.now.read in
    let need = c.joined_bytes-need.result in (
      names_many a.names.now a.out.now one two c.in_ok-join_stage.ensures,
      lines_most a.names.now a.out.now one two c.in_ok-join_stage.ensures,
      length-take-le (need - 0) a.out.now (omega arith) ∙ omega arith,
    )

pub returns : goal.returns
returns c =
    let a = c.args in
    let s : List ℕ = a.out.now in
    let new : List ℕ = joined_sheet a.first.now.bytes.now a.second.now.bytes.now a.names.now in
    let need : ℕ = c.joined_bytes-need.result in
    let long : length new ≡ need = joined_need a.names.now s a.first.now.read a.second.now.read ∙ omega arith in
    let whole = ap (put_mid 0 (need - 0) s) c.write_joined.ensures ∙ overwrite_part 0 (need - 0) s new (omega arith) in
    written _ _ _ (record { next = omega arith; now_is = whole })
    (room_enough a.names.now s a.first.now.read a.second.now.read c.in_ok-join_stage.ensures _ (omega arith))
