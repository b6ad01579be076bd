-- The carry stays below the number's bound.
use Rattle.std.proofs.Common.{◌^◌, ◌≤◌}
use Rattle.brute_force.proofs.power.times.Given as goal

abbrev pub invariant-loop-i : goal.invariant-loop-i
invariant-loop-i l = l.carry ≤ 2 ^ 32
