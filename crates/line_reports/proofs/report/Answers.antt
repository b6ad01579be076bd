-- `report` goes by the kind's number: each arm, in the order of the match, has the report of that number's kind.
use mathlib.Core.Bool.{true}
use mathlib.Core.Logic.{◌≢◌, inl, inr}
use mathlib.Core.Path.{◌≡◌, refl, sym, ◌∙◌}
use Prim.Native.Nat.{ℕ, ◌<◌, ◌≤◌}
use native.Mathlib.Decide.{dec_le}
use native.Mathlib.Omega.{arith}
use Rattle.trail.specs.Kinds.{kind_of, uses_constant}
use Rattle.trail.proofs.KindNumbers.{at_key, in_range, at_no_kind, over}
use Rattle.differential.specs.Report.{impossible, own_addition, turning_back, reporting, report_by, report_of}
use Rattle.differential.specs.Report.Reporting.{two_words, constant}
use Rattle.differential.proofs.ReportKinds.{is_linear, report_by_lem, constant_report_lem, linear_report}
use Rattle.line_reports.proofs.report.Goals as goal

-- the numbers below 9 that have no arm of their own are those of the linear kinds
linear_number : (k : ℕ) → 1 ≤ k → k < 9 → k ≢ 5 → k ≢ 6 → is_linear (reporting (kind_of k)) ≡ true
unfolding kind_of
linear_number k least most not5 not6 = at (dec_le k 4)
  where
    at : Dec (k ≤ 4) → is_linear (reporting (kind_of k)) ≡ true
    at (yes low) =
        in_range (λ q. is_linear (reporting q) ≡ true) {a = 1} {b = 5} least (omega arith) (refl, (refl, (refl, (refl, tt))))
    at (no high) = in_range (λ q. is_linear (reporting q) ≡ true) {a = 7} {b = 9} (omega arith) most (refl, (refl, tt))

pub constant_report-requires : goal.constant_report-requires
unfolding kind_of
constant_report-requires c =
    let proper = c.requires.0 in
    let line = proper.line_right in
    let constant = line.constant_word (at_key (λ q. uses_constant q ≡ true) c.in-6.is refl) in
    (omega arith, omega arith, constant, proper.first_word, line.difference_word)

pub returns-in-5 : goal.returns-in-5
unfolding kind_of
returns-in-5 c =
    c.words_report.ensures
    ∙ sym (report_by_lem _ (at_key (λ q. reporting q ≡ two_words own_addition) c.in-5.is refl))

pub returns-in-6 : goal.returns-in-6
unfolding kind_of
returns-in-6 c =
    c.constant_report.ensures ∙ sym (constant_report_lem _ (at_key (λ q. reporting q ≡ constant) c.in-6.is refl))

pub returns-in-9 : goal.returns-in-9
unfolding kind_of
returns-in-9 c =
    c.words_report-in-9.ensures
    ∙ sym (report_by_lem _ (at_key (λ q. reporting q ≡ two_words turning_back) c.in-9.is refl))

pub returns-in-1-to-4 : goal.returns-in-1-to-4
returns-in-1-to-4 c =
    c.certain_if.ensures
    ∙ sym (linear_report _ (linear_number _ (omega arith) (omega arith) (λ e. omega arith) (λ e. omega arith)))

pub returns-in_default : goal.returns-in_default
unfolding report_of
returns-in_default c =
    let d = c.args.d in
    at_no_kind (λ q. impossible ≡ report_by (reporting q) d) (inl (omega arith)) refl

pub returns-in_default-2 : goal.returns-in_default-2
unfolding report_of
returns-in_default-2 c =
    let d = c.args.d in
    at_no_kind (λ q. impossible ≡ report_by (reporting q) d) (inr (omega arith)) refl
