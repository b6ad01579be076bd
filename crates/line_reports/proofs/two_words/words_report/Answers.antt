-- `words_report` goes by `clash`.
use Rattle.line_reports.proofs.two_words.words_report.Goals as goal

pub returns-then-clash : goal.returns-then-clash
returns-then-clash c = rw (← c.clash.ensures, c.if-clash.true)

pub returns-else-clash : goal.returns-else-clash
returns-else-clash c = rw (c.weight.ensures, ← c.clash.ensures, c.if-clash.false)
