-- There is room for a part behind what is gathered.
use Rattle.std.proofs.Common.{◌-◌, ◌≤◌}
use Rattle.clause_file.specs.Parts.{most_bytes}
use Rattle.printing.proofs.print_parts.Given as goal

abbrev pub invariant-loop-part : goal.invariant-loop-part
invariant-loop-part g l = l.end ≤ 65536 - most_bytes
