-- What the calls for the parts of the report write, lent buffers that are long enough, is the report.
use Prim.Native.Nat.{◌+◌}
use native.Mathlib.Omega.{arith}
use mathlib.Core.Path.{sym, ◌∙◌}
use Rattle.words.proofs.Below.{concat_cong}
use Rattle.trail.specs.Trail.{line_count}
use Rattle.sheet.specs.Fields.{trail_of}
use Rattle.text_parts.proofs.Accepted.{written_part, parts_are_written}
use Rattle.text_parts.specs.Parts.{AnswersParts}
use Rattle.text_parts.proofs.Answers.{answers_parts}
use Rattle.report_file.specs.Parts.{report_part, report_text_call, MostIsEnough, written_report, EveryReportIsWritten}
use Rattle.report_file.proofs.Parts.{report_is_its_parts, parts_are_within}

pub most_is_enough : MostIsEnough
most_is_enough s accepts part most out room =
    parts_are_written s accepts part most (report_part (trail_of s) part) out (omega (arith, parts_are_within s accepts part most))

pub every_report_is_written : EveryReportIsWritten
unfolding written_report
every_report_is_written s accepts buffers long =
    concat_cong (line_count (trail_of s) + 1) _ (report_part (trail_of s))
    (λ part l. written_part s accepts part (omega arith) (report_part (trail_of s) part) (buffers part) (long part (omega arith)))
    ∙ sym (report_is_its_parts (trail_of s))

pub answers_report_parts : AnswersParts report_part report_text_call
answers_report_parts = answers_parts report_part
