-- A carry's literal is its variable, which the machine holds as it is.
use native.Mathlib.Omega.{arith}
use Prim.Native.Nat.{◌+◌}
use mathlib.Core.Path.{refl}
use lib.IntN.{pos}
use Rattle.run_literals.specs.Run.{carry_in}
use Rattle.run_literals.proofs.RunLiterals.{made_held}
use Rattle.run_literals.proofs.literals.carry_literal.Goals as goal

pub returns : goal.returns
unfolding carry_in
returns c = made_held {m = pos (c.args.run.carries + c.args.i)} (refl, omega arith)
