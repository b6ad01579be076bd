-- A store behind the literals that are there adds one to them.
use native.Mathlib.Omega.{arith}
use Rattle.bit_gates.proofs.Gathering.{one_more}
use Rattle.bit_gates.proofs.inputs.with.Goals as goal

pub returns : goal.returns
returns c =
    one_more c.args.inputs c.args.literal (omega arith) c.requires.0 c.requires.1
