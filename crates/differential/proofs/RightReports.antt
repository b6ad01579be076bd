-- Each of the four reports is right where what it says is true and the line's kind is reported so.
use mathlib.Core.Path.{◌≡◌, refl, sym, ap, ◌∙◌}
use mathlib.Core.Logic.{◌↔◌, ◌≢◌, inl, inr}
use mathlib.Core.Bool.{true, false, true≢false}
use Prim.Native.Nat.{ℕ, ◌-◌, ◌*◌, ◌^◌, ◌<◌}
use native.Mathlib.Omega.{arith}
use lib.Pow.{pow_pos}
use Rattle.words.proofs.Below.{count_none}
use Rattle.words.proofs.Pairs.{pairs_none}
use Rattle.trail.specs.Kinds.{kind_of}
use Rattle.differential.specs.declared.Differential.{Differential}
use Rattle.differential.specs.Fits.{fits, fitting, fitting_pairs}
use Rattle.differential.specs.Report.{impossible, certain, halves, counted, Addition, Reporting, reporting}
use Rattle.differential.specs.Report.Reporting.{linear, two_words, constant}
use Rattle.differential.specs.Demand2.{CountedRight, possible_number, RightReport}
use Rattle.differential.proofs.KindRows.{number_by, row_number}

module _ (d : Differential) where
  abbrev NoneFits : Type 0
  NoneFits = (x y : ℕ) → x < 2 ^ d.width → y < 2 ^ d.width → fits d x y ≡ false

  pub impossible_right : ((x y : ℕ) → x < 2 ^ d.width → y < 2 ^ d.width → fits d x y ≡ false) → RightReport d impossible
  impossible_right none = record {
    impossible_exactly = (λ _. none, λ _. refl);
    certain_fits = λ e. absurd (omega arith);
    halves_right = λ e. absurd (omega arith);
    counted_right = λ e. absurd (omega arith);
    counted_fitting = λ e. absurd (omega arith);
    kind_number = inl refl;
  }

  -- a report with another number, where something fits
  possible : {number : ℕ} → number ≢ 0 → (NoneFits → ⊥) → (number ≡ 0) ↔ NoneFits
  possible other some = (λ e. absurd (other e), λ none. absurd (some none))

  -- a kind's own number is that of the way in which it is reported
  own_number : {p : Reporting} → reporting (kind_of d.line.kind) ≡ p → number_by p ≡ possible_number (kind_of d.line.kind)
  own_number how = sym (row_number (kind_of d.line.kind) ∙ ap number_by how)

  -- ---- the others, by how the kind is reported

  pub certain_right : {given : Differential → ℕ} → reporting (kind_of d.line.kind) ≡ linear given
      → ((x y : ℕ) → x < 2 ^ d.width → y < 2 ^ d.width → fits d x y ≡ true)
      → RightReport d certain
  certain_right how all = record {
    impossible_exactly = possible (λ e. omega arith) (λ none. true≢false (sym (all 0 0 word word) ∙ none 0 0 word word));
    certain_fits = λ _. all;
    halves_right = λ e. absurd (omega arith);
    counted_right = λ e. absurd (omega arith);
    counted_fitting = λ e. absurd (omega arith);
    kind_number = inr (own_number how);
  }
    where
      word : 0 < 2 ^ d.width
      word = pow_pos d.width

  pub halves_right : {sum : Differential → Addition} → reporting (kind_of d.line.kind) ≡ two_words sum
      → (bits : ℕ) → bits < d.width → fitting_pairs d ≡ 2 ^ (2 * d.width - bits) → RightReport d (halves bits)
  unfolding fitting_pairs
  halves_right how bits less pairs = record {
    impossible_exactly =
        possible (λ e. omega arith)
        (λ none. omega (arith, pow_pos (2 * d.width - bits), pairs_none d.width (fits d) none, pairs));
    certain_fits = λ e. absurd (omega arith);
    halves_right = λ _. record { bits = bits; weight_is = refl; bits_less = less; pairs_fit = pairs };
    counted_right = λ e. absurd (omega arith);
    counted_fitting = λ e. absurd (omega arith);
    kind_number = inr (own_number how);
  }

  pub counted_right : reporting (kind_of d.line.kind) ≡ constant
      → (w c : ℕ) → CountedRight d.width (fitting d) w c → RightReport d (counted w c (fitting d))
  unfolding fitting
  counted_right how w c right = record {
    impossible_exactly =
        possible (λ e. omega arith)
        (λ none.
        omega (arith, right.some, count_none (2 ^ d.width) (λ x. fits d x 0) (λ x l. none x 0 l (pow_pos d.width))));
    certain_fits = λ e. absurd (omega arith);
    halves_right = λ e. absurd (omega arith);
    counted_right = λ _. right;
    counted_fitting = λ _. refl;
    kind_number = inr (own_number how);
  }
