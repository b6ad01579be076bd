-- As many numbers stand in the list as before, and each of its lines is marked.
use Prim.Native.Nat.{◌+◌, ◌*◌, ◌≤◌}
use native.Mathlib.Omega.{arith}
use mathlib.Core.Path.{◌≡◌, ◌∙◌}
use lib.ListN.{length}
use Rattle.differential.specs.Report.{report_means}
use Rattle.listed_lines.specs.Listed.{line_numbers}
use Rattle.charged_lines.specs.Charged.{marks_count, costs}
use Rattle.charged_lines.proofs.Marks.{marked_charge, list_charge, count_charge}
use Rattle.charged_lines.proofs.ChargedLines.charge.Goals as goal

pub invariant_of-self : goal.invariant_of-self
invariant_of-self c =
    let own = c.args.self.now in
    let told = c.charge-self.ensures in
    let dear = costs (report_means c.args.report) in
    let room : line_numbers * own.count + line_numbers ≤ length own.numbers = omega arith in
    let all : length own.marks ≡ marks_count = omega arith in
    record {
      room = list_charge own.marked c.args.line room all dear told.1 ∙ own.room;
      within = count_charge own.marked c.args.line room all dear told.0 (omega arith);
      marked = (marked_charge own.marked c.args.line room all dear told.0 told.1 told.2).0;
    }
