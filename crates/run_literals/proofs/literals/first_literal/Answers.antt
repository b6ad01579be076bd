-- The first operand's difference signs the literal of the bit that is taken, which is one of the word's.
use native.Mathlib.Omega.{arith}
use mathlib.Core.Path.{sym, ap, subst, ◌∙◌}
use lib.IntN.{ℤ}
use Rattle.trail.specs.Kinds.{kind_of}
use Rattle.cnf.specs.Gates.Input.{literal}
use Rattle.clause_lists.specs.Kinds.{Taken, taken_input}
use Rattle.clause_lists.proofs.RunLiterals.{Within, taken_within}
use Rattle.run_literals.specs.Run.{word_in}
use Rattle.run_literals.proofs.RunLiterals.{first_signed, word_made}
use Rattle.run_literals.proofs.literals.first_literal.Goals as goal

pub bit_literal-requires : goal.bit_literal-requires
bit_literal-requires c =
    let r = c.args.run in
    let within = taken_within (kind_of r.line.kind) r.width r.line.amount c.args.i c.requires.0 in
    (c.args.run.proper.width_most, omega (arith, c.args.run.proper.line_right.first_earlier), subst (Within r.width) c.first_bit.ensures within)

pub returns : goal.returns
returns c =
    let r = c.args.run in
    let made = word_made c.args.run r.line.first r.first c.first_bit.result (first_signed c.args.run) c.bit_literal.ensures in
    let taken = ap (λ (p : Taken). taken_input p (word_in r r.line.first)) c.first_bit.ensures in
    (taken ∙ ap (λ (l : ℤ). literal l) (sym made.0), made.1)
