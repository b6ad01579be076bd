-- `given_difference` goes by the kind's number: each arm has what that number's kind gives, and the last is left by every linear kind.
use mathlib.Core.Bool.{true}
use mathlib.Core.Logic.{⊎_elim}
use mathlib.Core.Path.{◌≡◌, refl, sym, ◌∙◌}
use Prim.Native.Nat.{◌^◌, ◌<◌, ◌≤◌}
use native.Mathlib.Omega.{arith}
use lib.Bits.{bit_xor}
use Rattle.words.specs.Words.{rotate_left, rotate_right, shift_left, shift_right}
use Rattle.trail.specs.Kinds.{kind_of, uses_amount}
use Rattle.trail.proofs.KindNumbers.{at_key, no_number}
use Rattle.differential.specs.declared.Differential.{Differential}
use Rattle.differential.specs.Report.{reporting, given_by, given_difference}
use Rattle.differential.specs.Demand2.{Proper}
use Rattle.differential.proofs.ReportKinds.{is_linear, none_given}
use Rattle.line_reports.proofs.linear_kinds.given_difference.Goals as goal

-- what a rotation's code asks; a shift's asks less
amount_right_lem : {d : Differential} → Proper d → d.width ≤ 64 → uses_amount (kind_of d.line.kind) ≡ true
    → (d.width ≤ 64) × (1 ≤ d.line.amount) × (d.line.amount < d.width) × (d.first < 2 ^ d.width)
amount_right_lem proper most used =
    (most, proper.line_right.amount_least used, proper.line_right.amount_most used, proper.first_word)

pub rotate_left-requires : goal.rotate_left-requires
unfolding kind_of
rotate_left-requires c =
    amount_right_lem c.requires.0 c.requires.1 (at_key (λ q. uses_amount q ≡ true) c.in-3.is refl)

pub rotate_right-requires : goal.rotate_right-requires
unfolding kind_of
rotate_right-requires c =
    amount_right_lem c.requires.0 c.requires.1 (at_key (λ q. uses_amount q ≡ true) c.in-4.is refl)

pub shift_left-requires : goal.shift_left-requires
unfolding kind_of
shift_left-requires c =
    let right = amount_right_lem c.requires.0 c.requires.1 (at_key (λ q. uses_amount q ≡ true) c.in-7.is refl) in
    (right.0, right.2)

pub shift_right-requires : goal.shift_right-requires
unfolding kind_of
shift_right-requires c =
    let right = amount_right_lem c.requires.0 c.requires.1 (at_key (λ q. uses_amount q ≡ true) c.in-8.is refl) in
    omega (arith, right.0, right.2)

pub returns-in-1 : goal.returns-in-1
unfolding given_difference kind_of
returns-in-1 c =
    let d = c.args.d in
    at_key (λ q. bit_xor d.first d.second ≡ given_by (reporting q) d) c.in-1.is refl

pub returns-in-2 : goal.returns-in-2
unfolding given_difference kind_of
returns-in-2 c =
    let d = c.args.d in
    at_key (λ q. d.first ≡ given_by (reporting q) d) c.in-2.is refl

pub returns-in-3 : goal.returns-in-3
unfolding given_difference kind_of
returns-in-3 c =
    let d = c.args.d in
    c.rotate_left.ensures
    ∙ at_key (λ q. rotate_left d.width d.line.amount d.first ≡ given_by (reporting q) d) c.in-3.is refl

pub returns-in-4 : goal.returns-in-4
unfolding given_difference kind_of
returns-in-4 c =
    let d = c.args.d in
    c.rotate_right.ensures
    ∙ at_key (λ q. rotate_right d.width d.line.amount d.first ≡ given_by (reporting q) d) c.in-4.is refl

pub returns-in-7 : goal.returns-in-7
unfolding given_difference kind_of
returns-in-7 c =
    let d = c.args.d in
    c.shift_left.ensures
    ∙ at_key (λ q. shift_left d.width d.line.amount d.first ≡ given_by (reporting q) d) c.in-7.is refl

pub returns-in-8 : goal.returns-in-8
unfolding given_difference kind_of
returns-in-8 c =
    let d = c.args.d in
    c.shift_right.ensures
    ∙ at_key (λ q. shift_right d.line.amount d.first ≡ given_by (reporting q) d) c.in-8.is refl

pub returns-in_default : goal.returns-in_default
unfolding given_difference kind_of
returns-in_default c =
    let d = c.args.d in
    let rest = c.in_default.in_default-own.rest in
    let others =
    ⊎_elim rest.0.0.0.0.0.1
    (⊎_elim rest.0.0.0.0.1 (⊎_elim rest.0.0.0.1 (⊎_elim rest.0.0.1 (⊎_elim rest.0.1 rest.1))))
    in
    sym (none_given (reporting (kind_of d.line.kind)) (no_number (λ q. is_linear (reporting q)) d.line.kind refl others) d)
