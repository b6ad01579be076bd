-- `signed` negates as the machine does, which is the negation where the literal's magnitude is below 2^31 - 1.
use Rattle.gate_writer.proofs.Signs.{same, minus_fits, negated}
use Rattle.gate_writer.proofs.signed.Goals as goal

pub overflow_sub-result : goal.overflow_sub-result
overflow_sub-result c = minus_fits c.args.literal c.requires

pub returns-then-one : goal.returns-then-one
returns-then-one c = rw c.if-one.true (negated c.args.literal c.requires)

pub returns-else-one : goal.returns-else-one
returns-else-one c = rw c.if-one.false (same c.args.literal c.requires)
