-- What a trail's bytes need of the forms: arithmetic with a form's own numbers and its mark, a case for each form.
use Prim.Native.Nat.{ℕ}
use native.Mathlib.Omega.{arith}
use mathlib.Core.Path.{◌≡◌, refl}
use mathlib.Core.Bool.{true}
use mathlib.Core.List.{List}
use lib.ListN.{length, replicate}
use Rattle.buffers.specs.LittleEndian.{bytes_of}
use Rattle.buffers.proofs.Standing.{Stands}
use Rattle.trail.specs.Trail.{no_line}
use Rattle.sheet.specs.Form.{mark_of, record_bytes}
use Rattle.sheet.specs.Fields.{form_of}
use Rattle.sheet.specs.Questions.{marked}
use Rattle.sheet.specs.declared.Form.{Form}
use Rattle.sheet.specs.declared.Form.TheVariants.{Narrow}
use Rattle.sheet_encoding.specs.Encoding.{record_bytes_of}

-- ---- the mark

pub mark_long : (f : Form) → length (mark_of f) ≡ 4
mark_long Narrow = refl

-- it is asked for
pub mark_there : (f : Form) (s : List ℕ) → Stands 0 (mark_of f) s → marked s ≡ true
unfolding marked
mark_there Narrow s st = rw (st.same 0 (omega arith), st.same 1 (omega arith), st.same 2 (omega arith), st.same 3 (omega arith))

-- and tells the form
pub mark_told : (f : Form) (s : List ℕ) → Stands 0 (mark_of f) s → form_of s ≡ f
unfolding form_of
mark_told Narrow s st = refl

-- ---- a record

-- a record past the last line is zero
pub no_line_zero : (f : Form) → record_bytes_of f no_line ≡ replicate (record_bytes f) 0
unfolding record_bytes_of bytes_of
no_line_zero Narrow = refl
