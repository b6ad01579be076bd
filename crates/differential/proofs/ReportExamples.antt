-- Reports of the kinds of document 02, W-201, by computation, at n = 4.
use mathlib.Core.Path.{◌≡◌, refl}
use mathlib.Core.Bool.{xor}
use mathlib.Core.List.{List, [], ◌∷◌, map}
use Prim.Native.Nat.{ℕ}
use Rattle.words.specs.Words.{bit, bit_below, shift_left, shift_right}
use Rattle.words.specs.Below.{any, count}
use Rattle.trail.specs.Kinds.{kind_of}
use Rattle.differential.specs.declared.Differential.{Differential}
use Rattle.differential.specs.TwoWords.{clashes, words_impossible, words_weight}
use Rattle.differential.specs.Report.{Report, report_of}
use Rattle.differential.proofs.Starred.{Case, says}

-- a line of a kind by an amount, its operands' differences, its stated one, and its report
abbrev pub line : ℕ → ℕ → ℕ → ℕ → ℕ → Report → Case
line k r α β γ v = record {
  differential = record { width = 4; line = record { kind = k; amount = r; first = 0; second = 1; constant = 0; difference = γ }; first = α; second = β };
  report = v;
}

-- Shifts by 1 are certain or impossible. Subtractions are halves or impossible, and not certain where they cost nothing.
abbrev pub cases : List Case
cases =
    line 7 1 9 0 2 (says 1 0 0 0)
    ∷ line 7 1 9 0 3 (says 0 0 0 0)
    ∷ line 8 1 9 0 4 (says 1 0 0 0)
    ∷ line 8 1 9 0 12 (says 0 0 0 0)
    ∷ line 9 0 8 0 8 (says 2 0 0 0)
    ∷ line 9 0 0 1 15 (says 2 0 48 0)
    ∷ line 9 0 0 0 1 (says 0 0 0 0)
    ∷ []

pub reported : map (λ (c : Case). report_of c.differential) cases ≡ map (λ (c : Case). c.report) cases
unfolding report_of kind_of shift_left shift_right any count bit bit_below xor clashes words_impossible words_weight
reported = refl
