-- A trail's bytes say the trail: each piece stands where its field is read.
use Prim.Native.Nat.{ℕ, zero, suc, ◌+◌, ◌*◌, ◌-◌, ◌/◌, ◌%◌, ◌^◌, ◌<◌}
use native.Mathlib.Nat.{suc-mul, div-mul-le_self, add-zero, mod-lt, mod-eq_of_lt, div-add-mod, le-div_iff_mul-le, le_trans, lt_of_lt_of_le, pow-le-pow_right, mul-suc, mul-zero}
use native.Mathlib.Decide.{dec_lt}
use native.Mathlib.Omega.{arith}
use lib.Pow.{pow_pos}
use mathlib.Core.Path.{◌≡◌, refl, sym, ap, ap₂, subst, ◌∙◌}
use mathlib.Core.Bool.{Bool, true, false}
use mathlib.Core.List.{List}
use lib.ListN.{length, get_or, replicate, length-append, length-replicate, get_or-eq_default}
use lib.Seq.{ext_get_or}
use Rattle.words.specs.Below.{concat, tabulate}
use Rattle.words.proofs.Below.{below_suc, tabulate_cong, length_tabulate, get_d_tabulate}
use Rattle.buffers.specs.LittleEndian.{byte_at, number_at, bytes_of}
use Rattle.buffers.proofs.LittleEndian.{length_bytes_of}
use Rattle.buffers.proofs.Standing.{Stands, stands_whole, stands_at_lem, stands_left, stands_right, stands_number, stands_field}
use Rattle.trail.specs.declared.Line.{Line}
use Rattle.trail.specs.Kinds.{kind_of, uses_second, uses_amount, uses_constant}
use Rattle.trail.specs.Trail.{Trail, input_count, line_count, no_line, line_at}
use Rattle.trail.specs.WellFormed.{WellFormed, Sized}
use Rattle.trail.proofs.KindNumbers.{known_within}
use Rattle.sheet.specs.Fields.{line_of}
use Rattle.sheet.specs.declared.Record.{Record}
use Rattle.sheet.specs.Form.{mark_of, word_bytes, width_most, record_bytes, records_in_block, inputs_end}
use Rattle.sheet.specs.Blocks.{block_bytes}
use Rattle.sheet.specs.Questions.{line_blocks}
use Rattle.sheet.specs.Fields.{form_of, input_difference, record_from, record_position, record_of, trail_of}
use Rattle.sheet.proofs.FormSizes.{sizes, words_hold}
use Rattle.sheet.specs.declared.Form.{Form}
use Rattle.sheet_encoding.specs.Encoding.{record_bytes_of, header_block, line_block, encode}
use Rattle.sheet_encoding.proofs.FormLaws.{mark_long, mark_told}

-- ---- pieces of one length

module _ (f : ℕ → List ℕ) (m : ℕ) where
  pub pieces_length : (n : ℕ) → ((k : ℕ) → k < n → length (f k) ≡ m) → length (concat n f) ≡ m * n
  unfolding concat
  pieces_length zero h = sym (mul-zero m)
  pieces_length (suc n) h =
      length-append (concat n f) (f n)
      ∙ ap₂ ◌+◌ (pieces_length n (λ k l. h k (omega arith))) (h n (omega arith))
      ∙ sym (mul-suc m n)

  pub stands_piece : {at : ℕ} {s : List ℕ} (n : ℕ) → ((k : ℕ) → k < n → length (f k) ≡ m) → Stands at (concat n f) s
      → (k : ℕ) → k < n → Stands (at + m * k) (f k) s
  unfolding concat
  stands_piece zero h st k l = absurd (omega arith)
  stands_piece {at} {s} (suc n) h st k l =
      below_suc (λ i. Stands (at + m * i) (f i) s) n
      (stands_piece n (λ i g. h i (omega arith)) (stands_left (concat n f) (f n) st))
      (stands_at_lem (ap (λ (i : ℕ). at + i) (pieces_length n (λ i g. h i (omega arith)))) (stands_right (concat n f) (f n) st))
      k l

-- a list is what its elements make
tabulate_all : {A : Type 0} (l : List A) (d : A) → tabulate (length l) (λ k. get_or l k d) ≡ l
tabulate_all l d =
    ext_get_or d (tabulate (length l) (λ k. get_or l k d)) l (length_tabulate (length l) (λ k. get_or l k d))
    (λ i less. get_d_tabulate (length l) (λ k. get_or l k d) i d (omega (arith, length_tabulate (length l) (λ k. get_or l k d))))

-- ---- a record

pub record_length : (f : Form) (l : Line) → length (record_bytes_of f l) ≡ record_bytes f
unfolding record_bytes_of
record_length f l = simp (length-append, length_bytes_of, length-replicate) (omega (arith, (sizes f).record_holds))

-- a line's fields fit their bytes
pub record Fits (f : Form) (l : Line) : Type 0 where
  pub kind : l.kind < 256 ^ 1
  pub amount : l.amount < 256 ^ 1
  pub first : l.first < 256 ^ 2
  pub second : l.second < 256 ^ 2
  pub constant : l.constant < 256 ^ word_bytes f
  pub difference : l.difference < 256 ^ word_bytes f

-- a line's record: its fields, and the zero field
abbrev pub as_record : Line → Record
as_record l = record {
  kind = l.kind;
  amount = l.amount;
  first = l.first;
  second = l.second;
  zero = 0;
  constant = l.constant;
  difference = l.difference;
}

-- a byte is a number of one byte
one_byte : (s : List ℕ) {i j v : ℕ} → i ≡ j → number_at 1 s i ≡ v → byte_at s j ≡ v
unfolding number_at
one_byte s {i} e d = ap (byte_at s) (sym e) ∙ sym (add-zero (byte_at s i)) ∙ d

number_at_lem : (k : ℕ) (s : List ℕ) {i j v : ℕ} → i ≡ j → number_at k s i ≡ v → number_at k s j ≡ v
number_at_lem k s e d = ap (number_at k s) (sym e) ∙ d

pub record_read : (f : Form) (l : Line) → Fits f l → (s : List ℕ) (p : ℕ) → Stands p (record_bytes_of f l) s → record_from f s p ≡ as_record l
unfolding record_bytes_of
record_read f l fits s p st =
    let k = stands_field 1 l.kind _ fits.kind st in
    let a = stands_field 1 l.amount _ fits.amount k.1 in
    let x = stands_field 2 l.first _ fits.first a.1 in
    let y = stands_field 2 l.second _ fits.second x.1 in
    let z = stands_field 2 0 _ (omega arith) y.1 in
    let c = stands_field (word_bytes f) l.constant _ fits.constant z.1 in
    let d = stands_field (word_bytes f) l.difference _ fits.difference c.1 in
    let kind : byte_at s p ≡ l.kind = one_byte s refl k.0 in
    let amount : byte_at s (p + 1) ≡ l.amount = one_byte s refl a.0 in
    let first : number_at 2 s (p + 2) ≡ l.first = number_at_lem 2 s (omega arith) x.0 in
    let second : number_at 2 s (p + 4) ≡ l.second = number_at_lem 2 s (omega arith) y.0 in
    let none : number_at 2 s (p + 6) ≡ 0 = number_at_lem 2 s (omega arith) z.0 in
    let constant : number_at (word_bytes f) s (p + 8) ≡ l.constant = number_at_lem (word_bytes f) s (omega arith) c.0 in
    let difference : number_at (word_bytes f) s (p + 8 + word_bytes f) ≡ l.difference = number_at_lem (word_bytes f) s (omega arith) d.0 in
    λ i. record {
      kind = kind i;
      amount = amount i;
      first = first i;
      second = second i;
      zero = none i;
      constant = constant i;
      difference = difference i;
    }

-- ---- blocks

pub inputs_length : (f : Form) (t : Trail) → length (concat 8 (λ j. bytes_of (word_bytes f) (get_or t.inputs j 0))) ≡ word_bytes f * 8
inputs_length f t = pieces_length (λ j. bytes_of (word_bytes f) (get_or t.inputs j 0)) (word_bytes f) 8 (λ j _. length_bytes_of (word_bytes f) (get_or t.inputs j 0))

pub header_length : (f : Form) (t : Trail) → length (header_block f t) ≡ 512
unfolding header_block
header_length f t =
    simp (length-append, length_bytes_of, length-replicate, mark_long, inputs_length) (omega (arith, (sizes f).inputs_inside))

unfoldable pub records : Form → Trail → ℕ → ℕ → List ℕ
records f t i j = record_bytes_of f (line_at t (records_in_block f * i + j))

pub records_length : (f : Form) (t : Trail) (i : ℕ) → length (concat (records_in_block f) (records f t i)) ≡ record_bytes f * records_in_block f
unfolding records
records_length f t i =
    pieces_length (records f t i) (record_bytes f) (records_in_block f) (λ j _. record_length f (line_at t (records_in_block f * i + j)))

pub line_block_length : (f : Form) (t : Trail) (i : ℕ) → length (line_block f t i) ≡ 512
unfolding line_block records
line_block_length f t i =
    length-append (concat (records_in_block f) (records f t i)) (replicate (block_bytes - record_bytes f * records_in_block f) 0)
    ∙ ap₂ ◌+◌ (records_length f t i) (length-replicate (block_bytes - record_bytes f * records_in_block f) 0)
    ∙ omega (arith, (sizes f).filled)

pub encode_length : (f : Form) (t : Trail) → length (encode f t) ≡ 512 + 512 * line_blocks f (line_count t)
unfolding encode
encode_length f t =
    length-append (header_block f t) (concat (line_blocks f (line_count t)) (line_block f t))
    ∙ ap₂ ◌+◌ (header_length f t) (pieces_length (line_block f t) 512 (line_blocks f (line_count t)) (λ i _. line_block_length f t i))

pub header_stands : (f : Form) (t : Trail) → Stands 0 (header_block f t) (encode f t)
unfolding encode
header_stands f t = stands_left (header_block f t) _ (stands_whole _)

pub line_block_stands : (f : Form) (t : Trail) (i : ℕ) → i < line_blocks f (line_count t) → Stands (512 + 512 * i) (line_block f t i) (encode f t)
unfolding encode
line_block_stands f t i l =
    let behind = stands_right (header_block f t) (concat (line_blocks f (line_count t)) (line_block f t)) (stands_whole _) in
    stands_piece (line_block f t) 512 (line_blocks f (line_count t)) (λ j _. line_block_length f t j) (stands_at_lem (omega (arith, header_length f t)) behind) i l

-- record j of line block i
pub piece_stands : (f : Form) (t : Trail) (i j : ℕ) → i < line_blocks f (line_count t) → j < records_in_block f
    → Stands (512 + 512 * i + record_bytes f * j) (record_bytes_of f (line_at t (records_in_block f * i + j))) (encode f t)
unfolding line_block records
piece_stands f t i j l g =
    stands_piece (records f t i) (record_bytes f) (records_in_block f) (λ q _. record_length f (line_at t (records_in_block f * i + q)))
    (stands_left (concat (records_in_block f) (records f t i)) _ (line_block_stands f t i l)) j g

-- line k's block is there
pub block_there : (f : Form) (k lines : ℕ) → k < lines → k / records_in_block f < line_blocks f lines
block_there f k lines l = at (records_in_block f) (sizes f).records_least
  where
    at : (r : ℕ) → 0 < r → k / r < (lines + (r - 1)) / r
    at r some = (le-div_iff_mul-le some).1 (omega (arith, suc-mul (k / r) r, div-mul-le_self k r))

pub line_stands : (f : Form) (t : Trail) (k : ℕ) → k < line_count t → Stands (record_position f k) (record_bytes_of f (line_at t k)) (encode f t)
unfolding record_position
line_stands f t k l =
    let r = records_in_block f in
    let there = piece_stands f t (k / r) (k % r) (block_there f k (line_count t) l) (mod-lt k (sizes f).records_least) in
    subst (λ (q : ℕ). Stands (512 * (1 + k / r) + record_bytes f * (k % r)) (record_bytes_of f (line_at t q)) (encode f t)) (div-add-mod k r)
    (stands_at_lem (omega arith) there)

-- ---- a trail that fits

module _ (f : Form) {t : Trail} (good : WellFormed t) (sized : Sized (width_most f) t) where
  -- a word of the trail's width fits the form's bytes
  word_fits : (v : ℕ) → v < 2 ^ t.width → v < 256 ^ word_bytes f
  word_fits v l = lt_of_lt_of_le l (le_trans (pow-le-pow_right {n = 2} (omega arith) sized.width_most) (words_hold f))

  word_some : 0 < 256 ^ word_bytes f
  word_some = word_fits 0 (pow_pos t.width)

  -- an unused field is 0
  field_fits : (m v : ℕ) (b : Bool) → 0 < m → (b ≡ true → v < m) → (b ≡ false → v ≡ 0) → v < m
  field_fits m v true some h k = h refl
  field_fits m v false some h k = omega (arith, k refl)

  line_fits : (k : ℕ) → k < line_count t → Fits f (line_at t k)
  line_fits k l =
      let right = good.lines_right k l in
      let q = kind_of (line_at t k).kind in
      let known = known_within (line_at t k).kind right.kind_known in
      record {
        kind = omega (arith, known.1);
        amount = field_fits 256 (line_at t k).amount (uses_amount q) (omega arith) (λ e. omega (arith, right.amount_most e, (sizes f).width_fits)) right.amount_unused;
        first = omega (arith, right.first_earlier, sized.inputs_most, sized.lines_most);
        second = field_fits (256 ^ 2) (line_at t k).second (uses_second q) (omega arith) (λ e. omega (arith, right.second_earlier e, sized.inputs_most, sized.lines_most)) right.second_unused;
        constant = field_fits (256 ^ word_bytes f) (line_at t k).constant (uses_constant q) word_some (λ e. word_fits _ (right.constant_word e)) right.constant_unused;
        difference = word_fits _ right.difference_word;
      }

  input_fits : (j : ℕ) → get_or t.inputs j 0 < 256 ^ word_bytes f
  input_fits j = at (dec_lt j (input_count t))
    where
      at : Dec (j < input_count t) → get_or t.inputs j 0 < 256 ^ word_bytes f
      at (yes less) = word_fits _ (good.inputs_words j less)
      at (no past) = rw (get_or-eq_default t.inputs 0 {n = j} (omega arith)) word_some

  abbrev s : List ℕ
  s = encode f t

  -- ---- the header's fields

  pub record HeaderRead : Type 0 where
    pub width : byte_at s 4 ≡ t.width
    pub inputs : byte_at s 5 ≡ input_count t
    pub lines : number_at 2 s 6 ≡ line_count t
    pub input : (j : ℕ) → j < 8 → input_difference f s j ≡ get_or t.inputs j 0
    pub rest : Stands (inputs_end f) (replicate (block_bytes - inputs_end f) 0) s

  pub header_read : HeaderRead
  unfolding header_block
  header_read =
      let marked = stands_at_lem {p = 4} (omega (arith, mark_long f)) (stands_right (mark_of f) _ (header_stands f t)) in
      let w = stands_field 1 t.width _ (omega (arith, (sizes f).width_fits)) marked in
      let m = stands_field 1 (input_count t) _ (omega (arith, sized.inputs_most)) w.1 in
      let l = stands_field 2 (line_count t) _ (omega (arith, sized.lines_most)) m.1 in
      let words = stands_left (concat 8 input) (replicate (block_bytes - inputs_end f) 0) l.1 in
      let behind = stands_right (concat 8 input) (replicate (block_bytes - inputs_end f) 0) l.1 in
      record {
        width = one_byte s refl w.0;
        inputs = one_byte s refl m.0;
        lines = number_at_lem 2 s refl l.0;
        input = λ j less.
            stands_number (word_bytes f) (get_or t.inputs j 0) (8 + word_bytes f * j) s
            (stands_piece input (word_bytes f) 8 (λ q _. length_bytes_of (word_bytes f) (get_or t.inputs q 0)) words j less)
            ∙ mod-eq_of_lt (input_fits j);
        rest = stands_at_lem (omega (arith, inputs_length f t)) behind;
      }
    where
      input : ℕ → List ℕ
      input j = bytes_of (word_bytes f) (get_or t.inputs j 0)

  -- ---- the lines' records

  pub line_read : (k : ℕ) → k < line_count t → record_of f s k ≡ as_record (line_at t k)
  unfolding record_of
  line_read k l = record_read f (line_at t k) (line_fits k l) s (record_position f k) (line_stands f t k l)

  -- ---- the trail

  pub encode_form : form_of s ≡ f
  unfolding header_block
  encode_form = mark_told f s (stands_left (mark_of f) _ (header_stands f t))

  pub encode_trail : trail_of s ≡ t
  unfolding trail_of line_at
  encode_trail =
      let h = header_read in
      let inputs : tabulate (byte_at s 5) (input_difference (form_of s) s) ≡ t.inputs =
      ap₂ (λ (n : ℕ) (g : Form). tabulate n (input_difference g s)) h.inputs encode_form
      ∙ tabulate_cong (input_count t) (input_difference f s) (λ j. get_or t.inputs j 0) (λ j l. h.input j (omega (arith, sized.inputs_most)))
      ∙ tabulate_all t.inputs 0 in
      let lines : tabulate (number_at 2 s 6) (λ k. line_of (record_of (form_of s) s k)) ≡ t.lines =
      ap₂ (λ (n : ℕ) (g : Form). tabulate n (λ k. line_of (record_of g s k))) h.lines encode_form
      ∙ tabulate_cong (line_count t) (λ k. line_of (record_of f s k)) (λ k. get_or t.lines k no_line) (λ k l. ap line_of (line_read k l))
      ∙ tabulate_all t.lines no_line in
      λ i. record { width = h.width i; inputs = inputs i; lines = lines i }
