-- Two digits at a time, the highest first. Assumes nothing.
use native.Mathlib.Omega.{arith}
use Rattle.digit_pairs.proofs.Pairs.{length_hundreds, hundreds_wrote, length_ten_thousands, ten_thousands_wrote}
use Rattle.digit_pairs.proofs.put_quick.Goals as goal

pub put_short-low-requires : goal.put_short-low-requires
put_short-low-requires c =
    (omega arith, omega (arith, length_hundreds c.args.value (omega arith)))

pub put_pair-requires : goal.put_pair-requires
put_pair-requires c =
    let short = c.put_short-low in
    (omega arith, omega (arith, length_hundreds c.args.value (omega arith), short.auto.out, short.ensures.next))

pub returns-then-value-lt10000 : goal.returns-then-value-lt10000
returns-then-value-lt10000 c =
    let short = c.put_short-low in
    hundreds_wrote c.args.value (omega arith) c.requires.1 short.ensures c.put_pair.ensures

pub put_short-middle-requires : goal.put_short-middle-requires
put_short-middle-requires c =
    (omega arith, omega (arith, length_ten_thousands c.args.value (omega arith)))

pub put_pair-low-requires : goal.put_pair-low-requires
put_pair-low-requires c =
    let short = c.put_short-middle in
    (omega arith, omega (arith, length_ten_thousands c.args.value (omega arith), short.auto.out, short.ensures.next))

pub put_pair-requires-2 : goal.put_pair-requires-2
put_pair-requires-2 c =
    let short = c.put_short-middle in
    let pair = c.put_pair-low in (
      omega arith,
      omega (arith, length_ten_thousands c.args.value (omega arith), short.auto.out, short.ensures.next, pair.auto.out, pair.ensures.next),
    )

pub returns : goal.returns
returns c =
    let short = c.put_short-middle in
    let middle = c.put_pair-low in
    ten_thousands_wrote c.args.value (omega arith) c.requires.1 short.ensures middle.ensures c.put_pair-2.ensures
