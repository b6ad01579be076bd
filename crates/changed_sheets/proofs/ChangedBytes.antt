-- The bytes of a changed sheet: what stands in the two places that were written, and that all else is as before.
use Prim.Native.Nat.{ℕ, ◌+◌, ◌*◌, ◌-◌, ◌/◌, ◌%◌, ◌^◌, ◌<◌, ◌≤◌}
use native.Mathlib.Nat.{mod-eq_of_lt, le_trans, lt_of_lt_of_le, pow-le-pow_right}
use native.Mathlib.Decide.{dec_le, dec_lt}
use native.Mathlib.Omega.{arith}
use mathlib.Core.Path.{◌≡◌, sym, ap, ◌∙◌}
use mathlib.Core.Logic.{◌⊎◌, inl, inr, ◌≢◌, ⊎_elim}
use mathlib.Core.List.{List}
use lib.ListN.{length}
use Rattle.buffers.specs.LittleEndian.{byte_at, number_at, bytes_of}
use Rattle.buffers.proofs.Overwrite.{overwrite_length, get_or_overwrite_outside}
use Rattle.buffers.proofs.LittleEndian.{length_bytes_of, number_written}
use Rattle.sheet.specs.Blocks.{block_bytes, check_offset}
use Rattle.sheet.specs.Form.{word_bytes, record_bytes, records_in_block}
use Rattle.sheet.specs.Fields.{form_of, header_of, record_position}
use Rattle.sheet.specs.Checks.{check_of, check_position}
use Rattle.sheet.specs.Questions.{IsAccepted}
use Rattle.sheet.specs.Facts.{Limited}
use Rattle.sheet.specs.declared.Form.{Form}
use Rattle.sheet.specs.declared.Mode.TheVariants.{Read}
use Rattle.sheet.proofs.FormSizes.{sizes, words_hold, record_inside, line_ends}
use Rattle.sheet.proofs.FieldBytes.{SameAt, number_same, check_same}
use Rattle.sheet.proofs.WellFormed.{accepted_whole, accepted_limited}
use Rattle.changed_sheets.specs.ChangedSheet.{difference_position, block_of_line, with_stated, with_check, changed_sheet}
use Rattle.changed_sheets.specs.Theorem.{Outside}

module _ (s : List ℕ) (k d : ℕ) (accepts : IsAccepted s) (known : k < (header_of s).lines) where
  abbrev f : Form
  f = form_of s

  -- line k's block
  abbrev b : ℕ
  b = block_of_line f k

  limits : Limited (header_of s)
  limits = accepted_limited Read s accepts

  -- the whole block lies in the sheet
  pub block_inside : block_bytes * b + block_bytes ≤ length s
  block_inside =
      omega (arith, record_inside f (header_of s).lines k known, (sizes f).record_holds, limits.enough, (accepted_whole Read s accepts).whole)

  -- the difference field lies in it, before the check
  pub field_inside : difference_position f k + word_bytes f ≤ check_position b
  unfolding record_position
  field_inside = omega (arith, line_ends f k, (sizes f).record_holds)

  -- what is written has room
  pub stated_fits : difference_position f k + length (bytes_of (word_bytes f) d) ≤ length s
  stated_fits = omega (arith, field_inside, block_inside, length_bytes_of (word_bytes f) d)

  pub stated_length : length (with_stated s k d) ≡ length s
  stated_length = overwrite_length (difference_position f k) (bytes_of (word_bytes f) d) s stated_fits

  check_fits : check_position b + length (bytes_of 4 (check_of (with_stated s k d) b)) ≤ length (with_stated s k d)
  check_fits = omega (arith, block_inside, stated_length, length_bytes_of 4 (check_of (with_stated s k d) b))

  pub changed_length : length (changed_sheet s k d) ≡ length s
  unfolding changed_sheet
  changed_length = overwrite_length (check_position b) _ (with_stated s k d) check_fits ∙ stated_length

  -- ---- all else is as before

  outside_check : (i : ℕ) → Outside (check_position b) 4 i → byte_at (changed_sheet s k d) i ≡ byte_at (with_stated s k d) i
  unfolding changed_sheet
  outside_check i o =
      get_or_overwrite_outside (check_position b) _ (with_stated s k d) check_fits i 0
      (⊎_elim inl (λ l. inr (omega (arith, length_bytes_of 4 (check_of (with_stated s k d) b)))) o)

  pub outside_field : (i : ℕ) → Outside (difference_position f k) (word_bytes f) i → byte_at (with_stated s k d) i ≡ byte_at s i
  outside_field i o =
      get_or_overwrite_outside (difference_position f k) _ s stated_fits i 0
      (⊎_elim inl (λ l. inr (omega (arith, length_bytes_of (word_bytes f) d))) o)

  pub other_bytes : (i : ℕ) → Outside (difference_position f k) (word_bytes f) i → Outside (check_position b) 4 i
      → byte_at (changed_sheet s k d) i ≡ byte_at s i
  other_bytes i o c = outside_check i c ∙ outside_field i o

  -- a stretch of bytes before or behind the field, and before or behind the check
  pub same_stretch : (i n : ℕ) → (i + n ≤ difference_position f k) ⊎ (difference_position f k + word_bytes f ≤ i)
      → (i + n ≤ check_position b) ⊎ (check_position b + 4 ≤ i) → SameAt i n (changed_sheet s k d) s
  same_stretch i n o c = record {
    byte = λ q less.
        other_bytes (i + q) (⊎_elim (λ l. inl (omega arith)) (λ l. inr (omega arith)) o) (⊎_elim (λ l. inl (omega arith)) (λ l. inr (omega arith)) c);
  }

  -- what stands in one block before its check lies outside the check of any block
  pub before_check : (c i n : ℕ) → block_bytes * c ≤ i → i + n ≤ block_bytes * c + check_offset
      → (i + n ≤ check_position b) ⊎ (check_position b + 4 ≤ i)
  before_check c i n l h = at (dec_le c b)
    where
      at : Dec (c ≤ b) → (i + n ≤ check_position b) ⊎ (check_position b + 4 ≤ i)
      at (yes e) = inl (omega arith)
      at (no e) = inr (omega arith)

  -- what stands in another block lies outside the field
  pub other_block : (c i n : ℕ) → c ≢ b → block_bytes * c ≤ i → i + n ≤ block_bytes * c + block_bytes
      → (i + n ≤ difference_position f k) ⊎ (difference_position f k + word_bytes f ≤ i)
  unfolding record_position
  other_block c i n other l h = at (dec_le c b)
    where
      at : Dec (c ≤ b) → (i + n ≤ difference_position f k) ⊎ (difference_position f k + word_bytes f ≤ i)
      at (yes e) = inl (omega arith)
      at (no e) = inr (omega (arith, field_inside))

  -- ---- what was written

  -- the difference is read again
  pub stated_number : d < 2 ^ (header_of s).width → number_at (word_bytes f) (changed_sheet s k d) (difference_position f k) ≡ d
  stated_number word =
      number_same (word_bytes f) (difference_position f k)
      (record { byte = λ q less. outside_check (difference_position f k + q) (inl (omega (arith, field_inside))) })
      ∙ number_written (word_bytes f) d (difference_position f k) s (omega (arith, field_inside, block_inside))
      ∙ mod-eq_of_lt (lt_of_lt_of_le word (le_trans (pow-le-pow_right {n = 2} (omega arith) limits.width_most) (words_hold f)))

  -- and every block's check is right
  same_check : check_of (with_stated s k d) b ≡ check_of (changed_sheet s k d) b
  same_check = check_same b (record { byte = λ q less. sym (outside_check (block_bytes * b + q) (inl (omega arith))) })

  check_small : (t : List ℕ) → check_of t b < 256 ^ 4
  unfolding check_of
  check_small t = omega arith

  pub renewed_check : number_at 4 (changed_sheet s k d) (check_position b) ≡ check_of (changed_sheet s k d) b
  unfolding changed_sheet
  renewed_check =
      number_written 4 (check_of (with_stated s k d) b) (check_position b) (with_stated s k d) (omega (arith, block_inside, stated_length))
      ∙ mod-eq_of_lt (check_small (with_stated s k d))
      ∙ same_check

  pub other_check : (c : ℕ) → c ≢ b → number_at 4 s (check_position c) ≡ check_of s c
      → number_at 4 (changed_sheet s k d) (check_position c) ≡ check_of (changed_sheet s k d) c
  other_check c other right =
      number_same 4 (check_position c) (same_stretch (check_position c) 4 (other_block c (check_position c) 4 other (omega arith) (omega arith)) apart)
      ∙ right
      ∙ sym (check_same c (same_stretch (block_bytes * c) check_offset (other_block c (block_bytes * c) check_offset other (omega arith) (omega arith)) (before_check c (block_bytes * c) check_offset (omega arith) (omega arith))))
    where
      apart : (check_position c + 4 ≤ check_position b) ⊎ (check_position b + 4 ≤ check_position c)
      apart = at (dec_lt c b)
        where
          at : Dec (c < b) → (check_position c + 4 ≤ check_position b) ⊎ (check_position b + 4 ≤ check_position c)
          at (yes l) = inl (omega arith)
          at (no l) = inr (omega arith)
