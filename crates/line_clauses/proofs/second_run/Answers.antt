-- In the second run the ones of a word's difference negate its literals.
use Prim.Native.Nat.{ℕ}
use mathlib.Core.Path.{◌≡◌, sym, ap, ◌∙◌}
use native.Mathlib.Omega.{arith}
use borrow.Author.Rules.{rules}
use Rattle.trail.specs.declared.Line.{Line}
use Rattle.trail.specs.Trail.{Trail, line_at, difference_at}
use Rattle.differential.specs.declared.Differential.{Differential}
use Rattle.sheet.specs.Fields.{trail_of}
use Rattle.trail_reports.specs.Lines.{differential_of}
use Rattle.clause_sizes.proofs.SheetCounts.{before_most}
use Rattle.line_clauses.proofs.SameRun.{second_proper, second_run_is}
use Rattle.line_clauses.proofs.second_run.Goals as goal

-- the parts of a line's differential
module _ (t : Trail) (k : ℕ) (d : Differential) (is : d ≡ differential_of t k) where
  line_is : d.line ≡ line_at t k
  unfolding differential_of
  line_is = ap (λ (x : Differential). x.line) is

  first-is : d.first ≡ difference_at t d.line.first
  unfolding differential_of
  first-is = ap (λ (x : Differential). x.first) is ∙ ap (λ (l : Line). difference_at t l.first) (sym line_is)

  second_is : d.second ≡ difference_at t d.line.second
  unfolding differential_of
  second_is = ap (λ (x : Differential). x.second) is ∙ ap (λ (l : Line). difference_at t l.second) (sym line_is)

pub overflow_add-word : goal.overflow_add-word
overflow_add-word c =
    let limits = c.args.sheet.now.read.limits in
    omega (arith, limits.inputs_most, limits.lines_most)

pub overflow_sub-carries : goal.overflow_sub-carries
overflow_sub-carries c =
    let limits = c.args.sheet.now.read.limits in
    omega (arith, limits.width_least)

pub overflow_add-carries : goal.overflow_add-carries
overflow_add-carries c =
    let limits = c.args.sheet.now.read.limits in
    let fits = before_most c.args.sheet.now.bytes.now c.args.sheet.now.header c.args.sheet.now.read c.args.k c.requires.0 in
    omega (arith, c.args.sheet.now.read.width_most, c.requires.1)

pub invariant_of-result : goal.invariant_of-result
invariant_of-result c =
    let a = c.args in
    let t = trail_of a.sheet.now.bytes.now in
    let d = c.differential_at-differential.result in
    let is = c.differential_at-differential.ensures in
    record { proper = second_proper a.sheet.now.bytes.now a.sheet.now.header c.args.sheet.now.read a.k c.requires.0 d.line a.before (line_is t a.k d is) c.requires.1 d.first d.second (first-is t a.k d is) (second_is t a.k d is) }

pub returns : goal.returns
returns c =
    let a = c.args in
    let t = trail_of a.sheet.now.bytes.now in
    let d = c.differential_at-differential.result in
    let is = c.differential_at-differential.ensures in
    second_run_is a.sheet.now.bytes.now a.sheet.now.header c.args.sheet.now.read a.k c.requires.0 d.line a.before (line_is t a.k d is) c.requires.1 d.first d.second (first-is t a.k d is) (second_is t a.k d is) _
