-- `rotate_right_lem` by r is `rotate_left_lem` by n - r.
use Rattle.std.proofs.Common.{sym, ◌∙◌, arith}
use Rattle.words.proofs.Rotations.{rotate_right_left}
use Rattle.arithmetic.proofs.rotate_right.Goals as goal

pub returns : goal.returns
returns c =
    let a = c.args in
    c.rotate_left.ensures ∙ sym (rotate_right_left a.n a.r a.x (omega arith))
