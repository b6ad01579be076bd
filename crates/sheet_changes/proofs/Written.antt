-- What the code writes, at the places that it works out from the form's sizes, is the changed sheet.
use Rattle.std.proofs.Common.{◌≡◌, ℕ, ◌+◌, ◌-◌, ◌*◌, ◌/◌, ◌%◌, ◌^◌, ◌<◌, ◌≤◌, ◌⊎◌, List, length, sym, ap, ◌∙◌, subst, ap₂, inl, inr, ⊎_elim, arith}
use Rattle.words.specs.Below.{total}
use Rattle.buffers.specs.Overwrite.{overwrite}
use Rattle.buffers.specs.LittleEndian.{number_at, bytes_of}
use Rattle.sheet.specs.Blocks.{block_bytes, check_offset}
use Rattle.sheet.specs.Form.{word_bytes, record_bytes, records_in_block}
use Rattle.sheet.specs.Fields.{form_of, header_of, record_position}
use Rattle.sheet.specs.Checks.{check_of, check_position}
use Rattle.sheet.specs.Facts.{SheetRead}
use Rattle.sheet.specs.declared.Form.{Form}
use Rattle.sheet.specs.declared.Header.{Header}
use Rattle.sheet.proofs.FormSizes.{word_numbers, difference_numbers}
use Rattle.sheet.proofs.FieldBytes.{SameAt, number_same}
use Rattle.sheet.proofs.CheckedBlocks.{accepted_checked}
use Rattle.changed_sheets.specs.ChangedSheet.{difference_position, block_of_line, with_stated, with_check, changed_sheet}
use Rattle.changed_sheets.proofs.ChangedBytes.{block_inside, field_inside, outside_field}
use Rattle.sheet_changes.proofs.Renewed.{checks_exchanged}

module _ {s : List ℕ} {h : Header} (read : SheetRead s h) {k : ℕ} (d : ℕ) (known : k < h.lines) where
  abbrev f : Form
  f = form_of s

  form : f ≡ h.form
  form = ap (λ (p : Header). p.form) read.parts

  known_so : k < (header_of s).lines
  known_so = subst (λ (p : Header). k < p.lines) (sym read.parts) known

  block_is : {r : ℕ} → r ≡ records_in_block h.form → 1 + k / r ≡ block_of_line f k
  block_is e = ap (λ (z : ℕ). 1 + k / z) (e ∙ ap records_in_block (sym form))

  at_is : {at : ℕ} → at ≡ record_position h.form k → at ≡ record_position f k
  at_is e = e ∙ ap (λ (g : Form). record_position g k) (sym form)

  word_is : {w : ℕ} → w ≡ word_bytes h.form → w ≡ word_bytes f
  word_is e = e ∙ ap word_bytes (sym form)

  -- ---- the two places lie in the sheet

  pub block_there : {r : ℕ} → r ≡ records_in_block h.form → (512 * (1 + k / r) + 512 ≤ length s) × (1 + k / r < 9)
  block_there e =
      let here = block_is e in
      let inside = block_inside s k d read.accepted known_so in
      (omega arith, omega (arith, read.blocks.whole, read.blocks.blocks_most))

  pub field_there : {at w : ℕ} → at ≡ record_position h.form k → w ≡ word_bytes h.form → at + 8 + w + w ≤ length s
  field_there e g =
      omega (arith, at_is e, word_is g, field_inside s k d read.accepted known_so, block_inside s k d read.accepted known_so)

  -- its numbers too
  pub numbers_there : {at w : ℕ} → at ≡ record_position h.form k → w ≡ word_bytes h.form → at + 8 + w + 4 * (w / 4) ≤ length s
  numbers_there e g = omega (arith, field_there e g)

  -- ---- the sheet with the new difference

  stated_is : {at w : ℕ} {m : List ℕ} → at ≡ record_position h.form k → w ≡ word_bytes h.form → m ≡ overwrite (at + 8 + w) (bytes_of w d) s
      → m ≡ with_stated s k d
  stated_is e g stated = stated ∙ ap₂ (λ (x y : ℕ). overwrite (x + 8 + y) (bytes_of y d) s) (at_is e) (word_is g)

  stated_same : {m : List ℕ} → m ≡ with_stated s k d → (i n : ℕ)
      → (i + n ≤ difference_position f k) ⊎ (difference_position f k + word_bytes f ≤ i) → SameAt i n m s
  stated_same e i n o =
      subst (λ (l : List ℕ). SameAt i n l s) (sym e) (record {
        byte = λ q less. outside_field s k d read.accepted known_so (i + q) (⊎_elim (λ l. inl (omega arith)) (λ l. inr (omega arith)) o);
      })

  -- the check that stands there still is that of the block with the old difference
  pub check_asked : {at w r old new : ℕ} {m : List ℕ} → at ≡ record_position h.form k → w ≡ word_bytes h.form
      → r ≡ records_in_block h.form → m ≡ overwrite (at + 8 + w) (bytes_of w d) s
      → old ≡ total (w / 4) (λ j. number_at 4 s (at + 8 + w + 4 * j)) % 2 ^ 32
      → new ≡ total (w / 4) (λ j. number_at 4 m (at + 8 + w + 4 * j)) % 2 ^ 32
      → (check_of m (1 + k / r) + old) % 2 ^ 32 ≡ (number_at 4 m (check_position (1 + k / r)) + new) % 2 ^ 32
  check_asked {at} {w} {r} {old} {new} {m} e g i stated old-is New-is =
      let b = 1 + k / r in
      let a = (record_bytes f * (k % records_in_block f) + 8 + word_bytes f) / 4 in
      let here : b ≡ block_of_line f k = block_is i in
      let place : at ≡ record_position f k = at_is e in
      let word : w ≡ word_bytes f = word_is g in
      let numbers = difference_numbers f k in
      let whole = word_numbers f in
      let field = field_inside s k d read.accepted known_so in
      let block = block_inside s k d read.accepted known_so in
      let is = stated_is e g stated in
      checks_exchanged b a (w / 4)
      (omega (arith, here, place, word, numbers, whole, field))
      (stated_same is (block_bytes * b) (4 * a) (inl (omega (arith, here, place, word, numbers))))
      (stated_same is (block_bytes * b + 4 * (a + w / 4)) (check_offset - 4 * (a + w / 4)) (inr (omega (arith, here, place, word, numbers, whole))))
      (omega (arith, here, place, word, numbers))
      old-is
      New-is
      (number_same 4 (check_position b) (stated_same is (check_position b) 4 (inr (omega (arith, here, field))))
      ∙ accepted_checked s read.accepted b (omega (arith, here, block)))

  -- ---- what was written

  pub change_written : {at w r : ℕ} {m t : List ℕ} → at ≡ record_position h.form k → w ≡ word_bytes h.form
      → r ≡ records_in_block h.form → m ≡ overwrite (at + 8 + w) (bytes_of w d) s → t ≡ with_check (1 + k / r) m
      → t ≡ changed_sheet s k d
  unfolding changed_sheet
  change_written e g i stated checked =
      checked ∙ ap₂ (λ (b : ℕ) (l : List ℕ). with_check b l) (block_is i) (stated_is e g stated)
