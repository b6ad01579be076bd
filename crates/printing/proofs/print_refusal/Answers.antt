-- A refusal has room in its buffer.
use Rattle.std.proofs.Common.{arith, rules, ap, length, replicate}
use Rattle.buffers.proofs.Overwrite.{overwrite_length}
use Rattle.texts.specs.Refusals.{refusal_text}
use Rattle.texts.proofs.Refusals.{refusal_most}
use Rattle.printing.proofs.print_refusal.Goals as goal

pub slice_bounds-write_all-end : goal.slice_bounds-write_all-end
slice_bounds-write_all-end g c =
    let number = c.number.result in
    let place = c.place.result in
    let most = refusal_most number place (search rules) (search rules) in
    let put = c.refusal_text-bytes.ensures in
    omega (arith, put.next, ap length put.now_is, overwrite_length 0 (refusal_text number place) (replicate 64 0) (omega arith))
