-- The totals are the word, then the numbers.
use native.Mathlib.Omega.{arith}
use Rattle.decimal.specs.Ascii.{ascii}
use Rattle.decimal.specs.Decimal.{behind}
use Rattle.report_file.specs.Text.{totals_text}
use Rattle.report_text.proofs.put_totals.Goals as goal

pub put_line-requires : goal.put_line-requires
unfolding ascii behind totals_text
put_line-requires c = omega arith

pub returns : goal.returns
unfolding ascii behind totals_text
returns c = c.put_line.ensures
