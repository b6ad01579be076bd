-- What a list of pairs comes to: what each change that is applied keeps, the list keeps.
use Prim.Native.Nat.{ℕ, ◌^◌, ◌<◌}
use native.Mathlib.Decide.{ℕ_discrete}
use native.Mathlib.Omega.{arith}
use mathlib.Core.Path.{◌≡◌, refl, sym, ap, subst, ◌∙◌}
use mathlib.Core.Logic.{◌≢◌}
use mathlib.Core.List.{List, [], ◌∷◌, ◌++◌}
use lib.ListN.{length, get_or}
use lib.Seq.{get_or_at}
use Rattle.buffers.specs.LittleEndian.{byte_at}
use Rattle.trail.specs.declared.Line.{Line}
use Rattle.trail.specs.Trail.{Trail, line_at}
use Rattle.trail.specs.Changing.{stating}
use Rattle.trail.proofs.Changed.{line_other, line_changed}
use Rattle.sheet.specs.Fields.{form_of, header_of, trail_of}
use Rattle.sheet.specs.Form.{word_bytes}
use Rattle.sheet.specs.Checks.{check_position}
use Rattle.sheet.specs.Questions.{IsAccepted}
use Rattle.sheet.specs.Facts.{SheetRead}
use Rattle.sheet.specs.declared.Form.{Form}
use Rattle.sheet.specs.declared.Header.{Header}
use Rattle.sheet.proofs.WellFormed.{has_read}
use Rattle.changed_sheets.specs.ChangedSheet.{difference_position, block_of_line, changed_sheet}
use Rattle.changed_sheets.specs.Theorem.{Outside, ChangedRight}
use Rattle.changed_sheets.proofs.Changed.{changed_sheets_are_right}
use Rattle.changed_sheets.proofs.Answered.{change_answers_in_order}
use Rattle.change_lists.specs.Pairs.{Pair}
use Rattle.change_lists.specs.Applied.{change_of, sheet_after, reply_of, replies_to}
use Rattle.change_lists.specs.Theorem.{Applies, EachApplied, Elsewhere, ListsAreRight, reply_among, PairsAreRight}
use Rattle.change_lists.proofs.Steps.{applies?, applied_answer, applied_sheet, skipped_sheet, skipped_reply, read_after, answer_by_parts}

-- ---- one list after the other

pub after_append : (s : List ℕ) (ps qs : List Pair) → sheet_after s (ps ++ qs) ≡ sheet_after (sheet_after s ps) qs
unfolding sheet_after
after_append s [] qs = refl
after_append s (p ∷ ps) qs = after_append (change_of s p).buffer ps qs

pub replies_append : (s : List ℕ) (ps qs : List Pair) → replies_to s (ps ++ qs) ≡ replies_to s ps ++ replies_to (sheet_after s ps) qs
unfolding sheet_after replies_to
replies_append s [] qs = refl
replies_append s (p ∷ ps) qs = ap (λ (l : List ℕ). reply_of (change_of s p).answer ∷ l) (replies_append (change_of s p).buffer ps qs)

pub replies_count : (s : List ℕ) (ps : List Pair) → length (replies_to s ps) ≡ length ps
unfolding replies_to
replies_count s [] = refl
replies_count s (p ∷ ps) = omega (arith, replies_count (change_of s p).buffer ps)

-- a last pair
pub after_last : (s : List ℕ) (ps : List Pair) (p : Pair) → sheet_after s (ps ++ (p ∷ [])) ≡ (change_of (sheet_after s ps) p).buffer
unfolding sheet_after
after_last s ps p = after_append s ps (p ∷ [])

pub replies_last : (s : List ℕ) (ps : List Pair) (p : Pair)
    → replies_to s (ps ++ (p ∷ [])) ≡ replies_to s ps ++ (reply_of (change_of (sheet_after s ps) p).answer ∷ [])
unfolding replies_to
replies_last s ps p = replies_append s ps (p ∷ [])

-- ---- what a list keeps

pub after_keeps : (h : Header) (Keeps : List ℕ → Type 0) (So : Pair → Type 0)
    → ((s : List ℕ) (p : Pair) → SheetRead s h → Applies h p → So p → Keeps s → Keeps (changed_sheet s p.line p.difference))
    → (s : List ℕ) (ps : List Pair) → SheetRead s h → EachApplied h So ps → Keeps s → Keeps (sheet_after s ps)
unfolding sheet_after EachApplied
after_keeps h Keeps So one s [] read each kept = kept
after_keeps h Keeps So one s (p ∷ ps) read each kept =
    after_keeps h Keeps So one (change_of s p).buffer ps (read_after read p) each.1 (at (applies? h p))
  where
    at : Dec (Applies h p) → Keeps (change_of s p).buffer
    at (yes a) = subst Keeps (sym (applied_sheet read p a)) (one s p read a (each.0 a) kept)
    at (no not) = subst Keeps (sym (skipped_sheet read p not)) kept

-- where nothing is asked of the pairs
any_pairs : (h : Header) (ps : List Pair) → EachApplied h (λ p. Unit {0}) ps
unfolding EachApplied
any_pairs h [] = tt
any_pairs h (p ∷ ps) = (λ a. tt, any_pairs h ps)

pub list_read : {s : List ℕ} {h : Header} → SheetRead s h → (ps : List Pair) → SheetRead (sheet_after s ps) h
unfolding sheet_after
list_read {s = s} {h = h} read [] = read
list_read {s = s} {h = h} read (p ∷ ps) = list_read {s = (change_of s p).buffer} {h = h} (read_after read p) ps

-- what a change that is applied leaves
module _ {s : List ℕ} {h : Header} (read : SheetRead s h) (p : Pair) (a : Applies h p) where
  right : ChangedRight s p.line p.difference
  right =
      changed_sheets_are_right s p.line p.difference read.accepted
      (subst (λ (g : Header). p.line < g.lines) (sym read.parts) a.0)
      (subst (λ (g : Header). p.difference < 2 ^ g.width) (sym read.parts) a.1)

  -- the pair's own line
  own_line : line_at (trail_of (changed_sheet s p.line p.difference)) p.line ≡ stating (line_at (trail_of s) p.line) p.difference
  own_line =
      ap (λ (t : Trail). line_at t p.line) right.trail
      ∙ line_changed (trail_of s) p.line p.difference (subst (λ (n : ℕ). p.line < n) (sym read.lines) a.0)

  other_line : (k : ℕ) → k ≢ p.line → line_at (trail_of (changed_sheet s p.line p.difference)) k ≡ line_at (trail_of s) k
  other_line k other =
      ap (λ (t : Trail). line_at t k) right.trail ∙ line_other (trail_of s) p.line p.difference k other

  -- a line, but for what it states
  same_but_stated : (k d : ℕ) → stating (line_at (trail_of (changed_sheet s p.line p.difference)) k) d ≡ stating (line_at (trail_of s) k) d
  same_but_stated k d = at (ℕ_discrete k p.line)
    where
      at : Dec (k ≡ p.line) → stating (line_at (trail_of (changed_sheet s p.line p.difference)) k) d ≡ stating (line_at (trail_of s) k) d
      at (yes e) =
          ap (λ (l : Line). stating l d)
          (subst (λ (i : ℕ). line_at (trail_of (changed_sheet s p.line p.difference)) i ≡ stating (line_at (trail_of s) i) p.difference) (sym e) own_line)
      at (no other) = ap (λ (l : Line). stating l d) (other_line k other)

-- ---- the sheet

module _ (s : List ℕ) (accepts : IsAccepted s) where
  abbrev h : Header
  h = header_of s

  read : SheetRead s h
  read = has_read s h accepts refl

  -- a fact of the sheet that every change keeps
  kept : (Keeps : List ℕ → Type 0)
      → ((t : List ℕ) (p : Pair) → SheetRead t h → Applies h p → Keeps t → Keeps (changed_sheet t p.line p.difference))
      → (ps : List Pair) → Keeps s → Keeps (sheet_after s ps)
  kept Keeps one ps now = after_keeps h Keeps (λ p. Unit {0}) (λ t p r a _. one t p r a) s ps read (any_pairs h ps) now

  other_lines : (k : ℕ) (ps : List Pair) → EachApplied h (λ p. p.line ≢ k) ps → line_at (trail_of (sheet_after s ps)) k ≡ line_at (trail_of s) k
  other_lines k ps each =
      after_keeps h (λ t. line_at (trail_of t) k ≡ line_at (trail_of s) k) (λ p. p.line ≢ k)
      (λ t p r a other same. other_line r p a k (λ e. other (sym e)) ∙ same) s ps read each refl

  other_bytes : (i : ℕ) (ps : List Pair) → EachApplied h (Elsewhere s i) ps → byte_at (sheet_after s ps) i ≡ byte_at s i
  other_bytes i ps each =
      after_keeps h (λ t. byte_at t i ≡ byte_at s i) (Elsewhere s i)
      (λ t p r a away same. at t p r a away ∙ same) s ps read each refl
    where
      at : (t : List ℕ) (p : Pair) → SheetRead t h → Applies h p → Elsewhere s i p → byte_at (changed_sheet t p.line p.difference) i ≡ byte_at t i
      at t p r a away =
          let form : form_of s ≡ form_of t = ap (λ (g : Header). g.form) (sym r.parts) in
          let there = subst (λ (f : Form). Outside (difference_position f p.line) (word_bytes f) i × Outside (check_position (block_of_line f p.line)) 4 i) form away in
          (right r p a).other_bytes i there.0 there.1

pub lists_are_right : ListsAreRight
lists_are_right s ps accepts =
    let after = list_read (read s accepts) ps in
    record {
      accepted = after.accepted;
      parts = after.parts;
      inputs =
          kept s accepts (λ t. (trail_of t).inputs ≡ (trail_of s).inputs)
          (λ t p r a same. ap (λ (q : Trail). q.inputs) (right r p a).trail ∙ same) ps refl;
      same_length = kept s accepts (λ t. length t ≡ length s) (λ t p r a same. (right r p a).same_length ∙ same) ps refl;
      other_lines = λ k each. other_lines s accepts k ps each;
      other_bytes = λ i each. other_bytes s accepts i ps each;
    }

-- ---- one pair among the others

module _ (s : List ℕ) (before : List Pair) (p : Pair) (after : List Pair) (accepts : IsAccepted s) where
  -- the sheet that the pairs before have left
  abbrev t : List ℕ
  t = sheet_after s before

  then_read : SheetRead t (header_of s)
  then_read = list_read (read s accepts) before

  alone : reply_among s before p after ≡ reply_of (change_of s p).answer
  unfolding replies_to
  alone =
      ap (λ (l : List ℕ). get_or l (length before) 1) (replies_append s before (p ∷ after))
      ∙ get_or_at (replies_to s before) (reply_of (change_of t p).answer) (replies_to (change_of t p).buffer after) 1 (length before) (replies_count s before)
      ∙ ap reply_of (answer_by_parts then_read p ∙ sym (answer_by_parts (read s accepts) p))

  zero_applied : reply_among s before p after ≡ 0 → Applies (header_of s) p
  zero_applied e = at (applies? (header_of s) p)
    where
      at : Dec (Applies (header_of s) p) → Applies (header_of s) p
      at (yes a) = a
      at (no not) = absurd (omega (arith, skipped_reply (read s accepts) p not, alone))

  wins : Applies (header_of s) p → EachApplied (header_of s) (λ q. q.line ≢ p.line) after
      → line_at (trail_of (sheet_after s (before ++ (p ∷ after)))) p.line ≡ stating (line_at (trail_of s) p.line) p.difference
  unfolding sheet_after
  wins a each =
      ap (λ (l : List ℕ). line_at (trail_of l) p.line) (after_append s before (p ∷ after))
      ∙ after_keeps (header_of s) (λ r. line_at (trail_of r) p.line ≡ line_at (trail_of (change_of t p).buffer) p.line) (λ q. q.line ≢ p.line)
      (λ r q known b other same. other_line known q b p.line (λ e. other (sym e)) ∙ same) (change_of t p).buffer after (read_after then_read p) each refl
      ∙ ap (λ (l : List ℕ). line_at (trail_of l) p.line) (applied_sheet then_read p a)
      ∙ own_line then_read p a
      ∙ kept s accepts (λ r. stating (line_at (trail_of r) p.line) p.difference ≡ stating (line_at (trail_of s) p.line) p.difference)
      (λ r q known b same. same_but_stated known q b p.line p.difference ∙ same) before refl

pub pairs_are_right : PairsAreRight
pairs_are_right s before p after accepts = record {
  zero_exactly = (zero_applied s before p after accepts, λ a. alone s before p after accepts ∙ ap reply_of (applied_answer (read s accepts) p a));
  no_line = λ past. alone s before p after accepts ∙ ap reply_of ((change_answers_in_order s p.line p.difference).past_the_last accepts past);
  no_word = λ known large.
      alone s before p after accepts ∙ ap reply_of ((change_answers_in_order s p.line p.difference).no_word accepts known large);
  alone = alone s before p after accepts;
  applied = λ a. after_last s before p ∙ applied_sheet (then_read s before p after accepts) p a;
  skipped = λ not. after_last s before p ∙ skipped_sheet (then_read s before p after accepts) p not;
  last_wins = wins s before p after accepts;
}
