-- Part 0 is the header's line, part 1 + k the clauses of line k.
use native.Mathlib.Omega.{arith}
use Prim.Native.Nat.{suc, ◌-◌}
use mathlib.Core.Path.{◌≡◌}
use Rattle.clause_text.proofs.write_part.Goals as goal

pub returns-then-part-eq0 : goal.returns-then-part-eq0
returns-then-part-eq0 c =
    let e : c.args.part ≡ 0 = omega arith in
    rw e c.write_header.ensures

pub returns : goal.returns
returns c =
    let part = c.args.part in
    let e : part ≡ suc (part - 1) = omega arith in
    rw e c.write_clauses.ensures
