-- The line's number is written first; then, by one call for each report, its name and its numbers.
use native.Mathlib.Omega.{arith}
use mathlib.Core.Path.{◌≡◌, refl}
use mathlib.Core.List.{List, ◌++◌}
use Prim.Native.Nat.{ℕ}
use Rattle.buffers.proofs.Appending.{Left}
use Rattle.decimal.specs.Ascii.{ascii}
use Rattle.differential.specs.Report.{report_means}
use Rattle.differential.specs.declared.LineReport.{LineReport}
use Rattle.trail_reports.proofs.Matched.{small_found}
use Rattle.report_file.specs.Text.{name_text, line_text}
use Rattle.buffers.proofs.Appending.{left_room, left_last}
use Rattle.report_text.proofs.Lines.{fields_text, number_room, line_left}
use Rattle.report_text.proofs.put_report.Goals as goal

pub put_decimal-named-requires : goal.put_decimal-named-requires
put_decimal-named-requires c =
    number_room c.args.k c.args.report c.args.out.now c.requires.0

pub put_fields-requires : goal.put_fields-requires
unfolding ascii name_text
put_fields-requires c =
    left_room (line_left c.args.k c.args.report c.args.out.now c.requires.0 c.in-Impossible.is _ refl c.put_decimal-named.ensures)

pub put_fields-requires-in-Certain : goal.put_fields-requires-in-Certain
unfolding ascii name_text
put_fields-requires-in-Certain c =
    left_room (line_left c.args.k c.args.report c.args.out.now c.requires.0 c.in-Certain.is _ refl c.put_decimal-named.ensures)

pub in_sixteenths-weight-requires : goal.in_sixteenths-weight-requires
in_sixteenths-weight-requires c =
    omega (arith, (small_found c.in-Halves.is c.requires.1).weight)

pub put_fields-requires-in-Halves : goal.put_fields-requires-in-Halves
unfolding ascii name_text
put_fields-requires-in-Halves c =
    rw c.in_sixteenths-weight.ensures
    (left_room (line_left c.args.k c.args.report c.args.out.now c.requires.0 c.in-Halves.is _ refl c.put_decimal-named.ensures))

pub put_fields-requires-in-Counted : goal.put_fields-requires-in-Counted
unfolding ascii name_text
put_fields-requires-in-Counted c =
    left_room (line_left c.args.k c.args.report c.args.out.now c.requires.0 c.in-Counted.is _ refl c.put_decimal-named.ensures)

pub returns-in-Impossible : goal.returns-in-Impossible
unfolding ascii name_text
returns-in-Impossible c =
    let told = c.in-Impossible.is in
    left_last (line_left c.args.k c.args.report c.args.out.now c.requires.0 told _ refl c.put_decimal-named.ensures)
    c.put_fields.ensures

pub returns-in-Certain : goal.returns-in-Certain
unfolding ascii name_text
returns-in-Certain c =
    let told = c.in-Certain.is in
    left_last (line_left c.args.k c.args.report c.args.out.now c.requires.0 told _ refl c.put_decimal-named.ensures)
    c.put_fields-in-Certain.ensures

pub returns-in-Halves : goal.returns-in-Halves
unfolding ascii name_text
returns-in-Halves c =
    let told = c.in-Halves.is in
    left_last (line_left c.args.k c.args.report c.args.out.now c.requires.0 told _ refl c.put_decimal-named.ensures)
    (rw c.in_sixteenths-weight.ensures at c.put_fields-in-Halves.ensures)

pub returns-in-Counted : goal.returns-in-Counted
unfolding ascii name_text
returns-in-Counted c =
    let told = c.in-Counted.is in
    left_last (line_left c.args.k c.args.report c.args.out.now c.requires.0 told _ refl c.put_decimal-named.ensures)
    c.put_fields-in-Counted.ensures
