-- The lines that the index names for a word, renewed one after the other.
use Prim.Native.Nat.{ℕ, ◌+◌, ◌<◌, ◌≤◌}
use native.Mathlib.Numerals.{add-one}
use native.Mathlib.Omega.{arith}
use mathlib.Core.Path.{◌≡◌, refl, sym, ap, ap₂, subst, ◌∙◌}
use mathlib.Core.List.{List}
use lib.ListN.{length, get_or, drop}
use lib.Seq.{drop-cons, drop-length}
use Rattle.std.specs.List.{between}
use Rattle.std.proofs.lemmas.List.Edits.{get_or-between}
use Rattle.trail.specs.Trail.{Trail, input_count}
use Rattle.sheet.specs.Fields.{trail_of}
use Rattle.sheet.specs.Facts.{SheetRead}
use Rattle.sheet.specs.declared.Header.{Header}
use Rattle.sheet_indexes.specs.Users.{users}
use Rattle.sheet_indexes.specs.Index.{word_count, index_of, part_start, most_numbers}
use Rattle.sheet_indexes.proofs.Users.{users_are_right}
use Rattle.sheet_indexes.proofs.Index.{part_inside, index_count, index_user}
use Rattle.sheet_indexes.proofs.Sizes.{index_most}
use Rattle.indexed_changes.specs.Renewed.{with_report, with_reports, renewed}
use Rattle.renewed_reports.specs.Walking.{part_at}
use Rattle.renewed_reports.proofs.Walking.{part_found, walk_inside}

-- ---- what is left to renew

module _ (t : Trail) (us : List ℕ) {whole : List ℕ} where
  pub renewed_next : (i n : ℕ) (now : List ℕ) {after : List ℕ} → i < length us → n ≡ get_or us i 0 → after ≡ with_report t n now
      → with_reports t (drop i us) now ≡ whole → with_reports t (drop (i + 1) us) after ≡ whole
  unfolding with_reports
  renewed_next i n now l e f left =
      ap₂ (with_reports t) (ap (λ (p : ℕ). drop p us) (add-one i)) (f ∙ ap (λ (p : ℕ). with_report t p now) e)
      ∙ sym (ap (λ (is : List ℕ). with_reports t is now) (drop-cons us i 0 l))
      ∙ left

  pub renewed_all : (i : ℕ) (now : List ℕ) → i ≡ length us → with_reports t (drop i us) now ≡ whole → now ≡ whole
  unfolding with_reports
  renewed_all i now e left = sym (ap (λ (is : List ℕ). with_reports t is now) (ap (λ (p : ℕ). drop p us) e ∙ drop-length us)) ∙ left

-- the changed line first
pub renewed_first : (t : Trail) (k : ℕ) (lent : List ℕ) {now : List ℕ} → now ≡ with_report t k lent
    → with_reports t (users t (input_count t + k)) now ≡ renewed t k lent
unfolding with_reports
renewed_first t k lent e = ap (with_reports t (users t (input_count t + k))) e

-- ---- what the sheet's own index says of line k's word

module _ {s : List ℕ} {h : Header} (read : SheetRead s h) (k : ℕ) (known : k < h.lines) {index : List ℕ} (own : index ≡ index_of (trail_of s)) where
  abbrev t : Trail
  t = trail_of s

  abbrev pub word : ℕ
  word = input_count t + k

  word_there : word < word_count t
  word_there = omega (arith, read.lines)

  pub walk_fits : (length index ≤ most_numbers) × ((j : ℕ) → j ≤ h.inputs + k → part_at index j < length index)
  walk_fits = (
    omega (arith, ap length own, index_most read),
    λ j less. subst (λ (x : List ℕ). part_at x j < length x) (sym own) (walk_inside t j (omega (arith, read.inputs, read.lines))),
  )

  -- from where its part was found
  module _ {at : ℕ} (here : at ≡ part_at index (h.inputs + k)) where
    found : at ≡ part_start t word
    found = here ∙ ap₂ part_at own (omega (arith, read.inputs)) ∙ part_found t word (omega (arith, word_there))

    pub part_fits : at + 1 + length (users t word) ≤ length index
    part_fits = omega (arith, ap length own, found, part_inside t word word_there)

    pub named_count : get_or index at 0 ≡ length (users t word)
    named_count = ap₂ (λ (x : List ℕ) (p : ℕ). get_or x p 0) own found ∙ index_count t word word_there

    -- the part is inside
    pub part_in : (at + 1 + get_or index at 0 ≤ length index) × (length index ≤ most_numbers)
    part_in = (omega (arith, named_count, part_fits), walk_fits.0)

    -- the part's lines, which the code takes out
    abbrev pub lines : List ℕ
    lines = between (at + 1) (at + 1 + get_or index at 0) index

    pub named_line : (i : ℕ) → i < length (users t word) → get_or lines i 0 ≡ get_or (users t word) i 0
    named_line i l =
        get_or-between index (at + 1) (at + 1 + get_or index at 0) i 0 (omega (arith, named_count))
        ∙ ap₂ (λ (x : List ℕ) (p : ℕ). get_or x (p + 1 + i) 0) own found
        ∙ index_user t word word_there i l

    -- it is one of the sheet
    pub named_there : (i : ℕ) → i < length (users t word) → get_or lines i 0 < h.lines
    named_there i l =
        omega (
          arith,
          named_line i l,
          (((users_are_right t word).exactly (get_or (users t word) i 0)).0 (record { place = i; inside = l; there = refl })).0,
          read.lines,
        )
