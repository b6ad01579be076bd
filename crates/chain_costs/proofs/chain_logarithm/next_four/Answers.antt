-- One shift brings the four bits down, or up, to the lowest four places.
use native.Mathlib.Omega.{arith}
use mathlib.Core.Path.{sym}
use Prim.Native.Nat.{◌-◌, ◌*◌, ◌^◌}
use lib.Pow.{mod-mod-pow}
use borrow.Author.Rules.{rules}
use Rattle.differential.specs.Logarithm.{highest_one}
use Rattle.differential.proofs.Logarithms.{next_four_down, next_four_up}
use Rattle.chain_costs.proofs.chain_logarithm.next_four.Goals as goal

pub returns-then-m-ge4 : goal.returns-then-m-ge4
returns-then-m-ge4 c =
    (rw c.requires.1 (sym (next_four_down c.args.p (omega arith))), search rules)

-- what the shift loses is above the lowest four places
pub returns-else-m-ge4 : goal.returns-else-m-ge4
returns-else-m-ge4 c =
    let p = c.args.p in
    (rw (c.requires.1, mod-mod-pow (p * 2 ^ (4 - highest_one p)) 28 4) (sym (next_four_up p (omega arith))), search rules)
