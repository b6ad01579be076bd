-- The shifts are the range.
use native.Mathlib.Omega.{arith}
use Rattle.clause_sizes.proofs.FilledBits.{shifts_fill, others_fill_none}
use Rattle.clause_sizes.proofs.sizes.filled_bits.Goals as goal

pub returns-in_default : goal.returns-in_default
returns-in_default c =
    others_fill_none c.args.n c.args.line c.requires.1 (λ e. omega arith) (λ e. omega arith)

pub returns-in_default-2 : goal.returns-in_default-2
returns-in_default-2 c =
    others_fill_none c.args.n c.args.line c.requires.1 (λ e. omega arith) (λ e. omega arith)

pub returns-in-7-to-8 : goal.returns-in-7-to-8
returns-in-7-to-8 c = shifts_fill c.args.n c.args.line c.requires.1 (omega arith) (omega arith)
