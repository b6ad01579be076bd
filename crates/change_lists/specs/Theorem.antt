-- What a list of changes leaves of an accepted sheet, and what it replies (document 02, W-207).
use Rattle.std.specs.Prelude.{ℕ, ◌^◌, ◌<◌, ◌≤◌, ◌≡◌, ◌↔◌, ◌≢◌, List, [], ◌∷◌, ◌++◌, length, get_or}
use Rattle.buffers.specs.LittleEndian.{byte_at}
use Rattle.trail.specs.Trail.{line_at}
use Rattle.trail.specs.Changing.{stating}
use Rattle.sheet.specs.Form.{word_bytes}
use Rattle.sheet.specs.Fields.{form_of, header_of, trail_of}
use Rattle.sheet.specs.Checks.{check_position}
use Rattle.sheet.specs.Questions.{IsAccepted}
use Rattle.sheet.specs.declared.Header.{Header}
use Rattle.changed_sheets.specs.ChangedSheet.{difference_position, block_of_line, changed_sheet}
use Rattle.changed_sheets.specs.Theorem.{Outside}
use Rattle.change_lists.specs.Pairs.{Pair}
use Rattle.change_lists.specs.Applied.{change_of, sheet_after, reply_of, replies_to}

-- a pair that is applied: its line is one of the sheet's, and its difference is below 2 ^ n
abbrev pub Applies : Header → Pair → Type 0
Applies h p = (p.line < h.lines) × (p.difference < 2 ^ h.width)

-- so holds of each pair of the list that is applied
unfoldable pub EachApplied : Header → (Pair → Type 0) → List Pair → Type 0
EachApplied h So [] = Unit {0}
EachApplied h So (p ∷ ps) = (Applies h p → So p) × EachApplied h So ps

-- ---- the sheet

-- position i lies outside the difference field of the pair's line and the check of that line's block
abbrev pub Elsewhere : List ℕ → ℕ → Pair → Type 0
Elsewhere s i p =
    Outside (difference_position (form_of s) p.line) (word_bytes (form_of s)) i
    × Outside (check_position (block_of_line (form_of s) p.line)) 4 i

-- It is again an accepted sheet, of the same parts, inputs and length. A line that no pair is applied to is as before, and so is
-- every byte outside the difference fields of the pairs applied and the checks of their blocks.
pub record ListRight (s : List ℕ) (ps : List Pair) : Type 0 where
  pub accepted : IsAccepted (sheet_after s ps)
  pub parts : header_of (sheet_after s ps) ≡ header_of s
  pub inputs : (trail_of (sheet_after s ps)).inputs ≡ (trail_of s).inputs
  pub same_length : length (sheet_after s ps) ≡ length s
  pub other_lines : (k : ℕ) → EachApplied (header_of s) (λ p. p.line ≢ k) ps → line_at (trail_of (sheet_after s ps)) k ≡ line_at (trail_of s) k
  pub other_bytes : (i : ℕ) → EachApplied (header_of s) (Elsewhere s i) ps → byte_at (sheet_after s ps) i ≡ byte_at s i

abbrev pub ListsAreRight : Type 0
ListsAreRight = (s : List ℕ) (ps : List Pair) → IsAccepted s → ListRight s ps

-- ---- one pair among the others

-- the reply to pair p; past the end of the list 1, which no reply is
abbrev pub reply_among : List ℕ → List Pair → Pair → List Pair → ℕ
reply_among s before p after = get_or (replies_to s (before ++ (p ∷ after))) (length before) 1

-- Its reply is 0 exactly if it is applied, else 17 or 14; it is the one that the change call has for the sheet as it was lent, whatever
-- pairs stand before. Applied, it changes the sheet that these have left; else it is skipped. The last pair applied to a line wins:
-- the line is as it was, but for what it states.
pub record PairRight (s : List ℕ) (before : List Pair) (p : Pair) (after : List Pair) : Type 0 where
  pub zero_exactly : (reply_among s before p after ≡ 0) ↔ Applies (header_of s) p
  pub no_line : (header_of s).lines ≤ p.line → reply_among s before p after ≡ 17
  pub no_word : p.line < (header_of s).lines → 2 ^ (header_of s).width ≤ p.difference → reply_among s before p after ≡ 14
  pub alone : reply_among s before p after ≡ reply_of (change_of s p).answer
  pub applied : Applies (header_of s) p → sheet_after s (before ++ (p ∷ [])) ≡ changed_sheet (sheet_after s before) p.line p.difference
  pub skipped : (Applies (header_of s) p → ⊥) → sheet_after s (before ++ (p ∷ [])) ≡ sheet_after s before
  pub last_wins : Applies (header_of s) p → EachApplied (header_of s) (λ q. q.line ≢ p.line) after
      → line_at (trail_of (sheet_after s (before ++ (p ∷ after)))) p.line ≡ stating (line_at (trail_of s) p.line) p.difference

abbrev pub PairsAreRight : Type 0
PairsAreRight = (s : List ℕ) (before : List Pair) (p : Pair) (after : List Pair) → IsAccepted s → PairRight s before p after
