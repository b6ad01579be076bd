-- A line of the joined trail is one of the first's, one of the second's, renumbered, or none.
use Prim.Native.Nat.{◌+◌, ◌-◌}
use native.Mathlib.Omega.{arith}
use mathlib.Core.Path.{◌≡◌, sym, ap, ◌∙◌}
use Rattle.trail.specs.Trail.{line_count, line_at}
use Rattle.trail.specs.Joining.{joined_line, joined}
use Rattle.trail.proofs.Runs.{second_below}
use Rattle.trail.proofs.JoinedLines.{line_first, line_second, line_past}
use Rattle.sheet.specs.Fields.{trail_of}
use Rattle.sheet.proofs.WellFormed.{line_at_right}
use Rattle.joined_lines.proofs.joined_line_at.Goals as goal

pub returns-then-k-a : goal.returns-then-k-a
returns-then-k-a c =
    let a = c.args in
    c.line_at.ensures
    ∙ sym (line_first (trail_of a.first.now.bytes.now) (trail_of a.second.now.bytes.now) a.names.now a.k (omega (arith, a.first.now.read.lines)))

pub joined_line-requires : goal.joined_line-requires
joined_line-requires c =
    let a = c.args in
    let right = line_at_right a.second.now.bytes.now a.second.now.header a.second.now.read (a.k - a.first.now.header.lines) (omega arith) c.line_at-then-k-a-2.ensures in
    (a.first.now.read.limits, a.second.now.read.limits, c.requires, omega (arith, right.first_earlier), omega (arith, second_below right))

pub returns-then-k-a-2 : goal.returns-then-k-a-2
returns-then-k-a-2 c =
    let a = c.args in
    let t = trail_of a.first.now.bytes.now in
    let u = trail_of a.second.now.bytes.now in
    let names = a.names.now in
    let k = a.k - a.first.now.header.lines in
    let whole : line_count t + k ≡ a.k = omega (arith, a.first.now.read.lines) in
    c.joined_line.ensures t u a.first.now.read.inputs a.first.now.read.lines a.second.now.read.inputs
    ∙ ap (joined_line t u names) c.line_at-then-k-a-2.ensures
    ∙ sym (line_second t u names k (omega (arith, a.second.now.read.lines)))
    ∙ ap (line_at (joined t u names)) whole

pub returns : goal.returns
returns c =
    let a = c.args in
    sym
    (line_past (trail_of a.first.now.bytes.now) (trail_of a.second.now.bytes.now) a.names.now a.k
    (omega (arith, a.first.now.read.lines, a.second.now.read.lines)))
