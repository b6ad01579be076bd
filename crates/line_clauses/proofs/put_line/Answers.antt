-- The second run's clauses stand behind the first's.
use mathlib.Core.Path.{refl}
use Rattle.sheet.specs.Fields.{trail_of}
use Rattle.line_clauses.proofs.ListParts.{room_first, room_second, list_written}
use Rattle.line_clauses.proofs.put_line.Goals as goal

pub put_run-after-requires : goal.put_run-after-requires
put_run-after-requires c =
    let t = trail_of c.args.sheet.now.bytes.now in
    room_first t c.args.k c.args.at c.args.out.now c.requires.1 c.first_run.ensures refl

pub put_run-requires : goal.put_run-requires
put_run-requires c =
    let t = trail_of c.args.sheet.now.bytes.now in
    let first = c.first_run.ensures in
    let wrote = c.put_run-after.ensures in
    room_second t c.args.k c.args.at c.args.out.now c.requires.1 first c.second_run.ensures wrote

pub returns : goal.returns
returns c =
    let t = trail_of c.args.sheet.now.bytes.now in
    let first = c.first_run.ensures in
    let wrote = c.put_run-after.ensures in
    let second = c.second_run.ensures in
    list_written t c.args.k c.args.at c.args.out.now c.requires.1 first second wrote
    c.put_run.ensures
