-- A refusal is the word, then its number and place; it always has room.
use native.Mathlib.Omega.{arith}
use borrow.Author.Rules.{rules}
use Rattle.decimal.specs.Ascii.{ascii}
use Rattle.decimal.specs.Decimal.{behind}
use Rattle.texts.specs.Refusals.{refusal_text}
use Rattle.texts.proofs.Refusals.{refusal_most}
use Rattle.texts.proofs.refusal_text.Goals as goal

pub put_line-requires : goal.put_line-requires
unfolding ascii behind refusal_text
put_line-requires c =
    omega (arith, refusal_most c.args.number c.args.place (search rules) (search rules))

pub returns : goal.returns
unfolding ascii behind refusal_text
returns c = c.put_line.ensures
