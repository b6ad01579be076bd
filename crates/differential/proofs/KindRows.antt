-- What each kind's entry for reports says of its lines, kind by kind: all other laws of reports go by the entry.
use mathlib.Core.Path.{◌≡◌, refl, ap, subst}
use mathlib.Core.Bool.{Bool, true}
use Prim.Native.Nat.{ℕ}
use Rattle.words.specs.Words.{sum_modulo}
use Rattle.trail.specs.Kinds.{Kind, kind_of, uses_second, uses_amount, uses_constant, makes_as, makes}
use Rattle.trail.specs.Kinds.Kind.{xorWords, xorConstant, rotatesLeft, rotatesRight, addWords, addConstant, shiftsLeft, shiftsRight, subtractWords, unknown}
use Rattle.differential.specs.declared.Differential.{Differential}
use Rattle.differential.specs.Report.{Reporting, reporting}
use Rattle.differential.specs.Report.Reporting.{linear, two_words, constant, none}
use Rattle.differential.specs.Demand2.{Proper, possible_number}
use Rattle.differential.proofs.Linear.{Linear, xor_words, xor_constant, rotate_left_lem, rotate_right_lem, shift_left_lem, shift_right_lem}
use Rattle.differential.proofs.Turning.{FitsAs, sum_fits, minus_fits}

-- ---- the word that a line makes

-- A linear kind's words differ by the given difference; a kind of two words is fitted by as many pairs as its addition; one with a
-- constant makes sums; every proper line has a report.
abbrev pub Says : Reporting → Differential → (ℕ → ℕ → ℕ) → Type 0
Says (linear given) d word = Proper d → Linear d word (given d)
Says (two_words sum) d word = Proper d → FitsAs d word (sum d)
Says constant d word = (x y : ℕ) → word x y ≡ sum_modulo d.width x d.line.constant
Says none d word = Proper d → ⊥

module _ (d : Differential) where
  row_says : (q : Kind) → kind_of d.line.kind ≡ q → Says (reporting q) d (makes_as q d.width d.line)
  row_says xorWords e = λ proper. xor_words proper
  row_says xorConstant e = λ proper. xor_constant proper (ap uses_constant e)
  row_says rotatesLeft e = λ proper. rotate_left_lem proper (ap uses_amount e)
  row_says rotatesRight e = λ proper. rotate_right_lem proper (ap uses_amount e)
  row_says addWords e = λ proper. sum_fits proper
  row_says addConstant e = λ x y. refl
  row_says shiftsLeft e = λ proper. shift_left_lem proper
  row_says shiftsRight e = λ proper. shift_right_lem proper
  row_says subtractWords e = λ proper. minus_fits proper
  row_says unknown e = λ proper. proper.line_right.kind_known e

  pub says : {p : Reporting} → reporting (kind_of d.line.kind) ≡ p → Says p d (makes d.width d.line)
  unfolding makes
  says how =
      subst (λ (p : Reporting). Says p d (makes d.width d.line)) how (row_says (kind_of d.line.kind) refl)

-- ---- the number of a report that is not impossible

abbrev pub number_by : Reporting → ℕ
number_by (linear given) = 1
number_by (two_words sum) = 2
number_by constant = 3
number_by none = 0

pub row_number : (q : Kind) → possible_number q ≡ number_by (reporting q)
row_number xorWords = refl
row_number xorConstant = refl
row_number rotatesLeft = refl
row_number rotatesRight = refl
row_number addWords = refl
row_number addConstant = refl
row_number shiftsLeft = refl
row_number shiftsRight = refl
row_number subtractWords = refl
row_number unknown = refl

-- ---- the differences that a report reads

-- two differentials that a report cannot tell apart: the second operand's difference counts only where the kind uses that operand
pub record SameParts (uses : Bool) (d e : Differential) : Type 0 where
  pub width : d.width ≡ e.width
  pub amount : d.line.amount ≡ e.line.amount
  pub difference : d.line.difference ≡ e.line.difference
  pub first : d.first ≡ e.first
  pub second : uses ≡ true → d.second ≡ e.second

abbrev pub Reads : Reporting → Bool → Type 0
Reads (linear given) uses = (d e : Differential) → SameParts uses d e → given d ≡ given e
Reads (two_words sum) uses = (d e : Differential) → SameParts uses d e → sum d ≡ sum e
Reads constant uses = Unit {0}
Reads none uses = Unit {0}

pub row_reads : (q : Kind) → Reads (reporting q) (uses_second q)
row_reads xorWords = λ d e same. cc (same.second refl)
row_reads xorConstant = λ d e same. cc
row_reads rotatesLeft = λ d e same. cc
row_reads rotatesRight = λ d e same. cc
row_reads addWords = λ d e same. cc (same.second refl)
row_reads addConstant = tt
row_reads shiftsLeft = λ d e same. cc
row_reads shiftsRight = λ d e same. cc
row_reads subtractWords = λ d e same. cc (same.second refl)
row_reads unknown = tt
