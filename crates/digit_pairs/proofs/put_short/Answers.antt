-- A number below 10 has one digit, one from 10 on two. Assumes nothing.
use native.Mathlib.Omega.{arith}
use Prim.Native.Nat.{ℕ, ◌+◌}
use mathlib.Core.Path.{sym, ap, subst}
use mathlib.Core.List.{List}
use lib.ListN.{length, set}
use Rattle.buffers.specs.Overwrite.{Wrote}
use Rattle.buffers.proofs.Appending.{wrote_set}
use Rattle.decimal.proofs.Decimals.{small, length_small}
use Rattle.digit_pairs.proofs.Pairs.{both_digits}
use Rattle.digit_pairs.proofs.put_short.Goals as goal

pub bounds-out-at : goal.bounds-out-at
bounds-out-at c = omega (arith, length_small c.args.value (omega arith))

pub returns-then-value-lt10 : goal.returns-then-value-lt10
returns-then-value-lt10 c =
    let a = c.args in
    subst (λ (text : List ℕ). Wrote a.at text a.out.now (a.at + 1) (set a.out.now a.at (48 + a.value)))
    (sym (small a.value (omega arith))) (wrote_set a.at (48 + a.value) a.out.now (bounds-out-at c))

pub put_pair-requires : goal.put_pair-requires
put_pair-requires c =
    let a = c.args in
    (omega arith, omega (arith, ap length (both_digits a.value (omega arith) (omega arith))))

pub returns : goal.returns
returns c =
    let a = c.args in
    let put = c.put_pair in
    subst (λ (text : List ℕ). Wrote a.at text a.out.now put.result put.new.out)
    (sym (both_digits a.value (omega arith) (omega arith))) put.ensures
