-- The header's line is the mark, then both counts.
use native.Mathlib.Omega.{arith}
use Rattle.decimal.specs.Ascii.{ascii}
use Rattle.decimal.specs.Decimal.{behind}
use Rattle.dimacs.specs.Text.{header_text}
use Rattle.clause_text.proofs.put_header.Goals as goal

pub put_line-requires : goal.put_line-requires
unfolding ascii behind header_text
put_line-requires c = omega arith

pub returns : goal.returns
unfolding ascii behind header_text
returns c = c.put_line.ensures
