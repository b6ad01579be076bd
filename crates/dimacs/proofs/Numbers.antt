-- The text of a literal is one word, and is read as the literal. Assumes nothing.
use mathlib.Core.Path.{◌≡◌, refl, sym, ap, ◌∙◌}
use mathlib.Core.Bool.{Bool, true, false, not}
use mathlib.Core.List.{List, [], ◌∷◌, ◌++◌, append_assoc, append-nil}
use mathlib.Core.Option.{some}
use Prim.Native.Nat.{ℕ, suc, ◌+◌, ◌-◌, ◌*◌, ◌/◌, ◌%◌, ◌≤◌, ◌<◌}
use native.Mathlib.Nat.{mod-lt, div-add-mod}
use native.Mathlib.Omega.{arith}
use borrow.Author.Tests.{not-true}
use lib.Dec.{eqb}
use lib.IntN.{ℤ, pos, negsuc, neg_ℤ}
use lib.ListN.{length}
use Rattle.words.specs.Below.{all}
use Rattle.words.proofs.Below.{all_true}
use Rattle.decimal.specs.Ascii.{ascii}
use Rattle.decimal.specs.Decimal.{decimal}
use Rattle.decimal.proofs.Decimals.{small, large, by_digits, length_some}
use Rattle.dimacs.specs.Text.{literal_text}
use Rattle.dimacs.specs.Reading.{is_digit, with_digits, natural, mapped, integer}
use Rattle.dimacs.proofs.Pieces.{Without, without_append}

-- ---- the bytes of a number

-- a test that no digit passes
abbrev pub NoDigit : (ℕ → Bool) → Type 0
NoDigit test = all 10 (λ d. not (test (48 + d))) ≡ true

-- The bytes of a number are digits.
pub without_decimal : (test : ℕ → Bool) → NoDigit test → (v : ℕ) → Without test (decimal v)
without_decimal test None-passes = by_digits (λ v. Without test (decimal v))
    (λ v h. rw (small v h) (fails v h, tt))
    (λ v h tens.
    rw (large v h)
    (without_append test (decimal (v / 10)) ((48 + v % 10) ∷ []) tens (fails (v % 10) (mod-lt v (omega arith)), tt)))
  where
    fails : (d : ℕ) → d < 10 → test (48 + d) ≡ false
    fails d h = not-true (test (48 + d)) (all_true 10 (λ d. not (test (48 + d))) None-passes d h)

pub literal_some : (l : ℤ) → 1 ≤ length (literal_text l)
unfolding literal_text ascii
literal_some (pos k) = length_some k
literal_some (negsuc k) = omega arith

pub literal_without : (test : ℕ → Bool) → NoDigit test → test 45 ≡ false → (l : ℤ) → Without test (literal_text l)
unfolding literal_text ascii
literal_without test no_digit no_minus (pos k) = without_decimal test no_digit k
literal_without test no_digit no_minus (negsuc k) = (no_minus, without_decimal test no_digit (suc k))

-- ---- the number that they make

digit_told : (d : ℕ) → d < 10 → is_digit (48 + d) ≡ true
unfolding is_digit all
digit_told d h = all_true 10 (λ d. is_digit (48 + d)) refl d h

with_digit : (n d : ℕ) (bytes : List ℕ) → d < 10 → with_digits n ((48 + d) ∷ bytes) ≡ with_digits (10 * n + d) bytes
unfolding with_digits
with_digit n d bytes h =
    let e : 48 + d - 48 ≡ d = omega arith in
    rw (digit_told d h, e)

-- Any bytes may follow the digits, so that the last digit of a larger number may follow its tens.
with_decimal : (v : ℕ) (bytes : List ℕ) → with_digits 0 (decimal v ++ bytes) ≡ with_digits v bytes
with_decimal = by_digits (λ v. (bytes : List ℕ) → with_digits 0 (decimal v ++ bytes) ≡ with_digits v bytes)
    (λ v h bytes. rw (small v h) (with_digit 0 v bytes h ∙ ap (λ (n : ℕ). with_digits n bytes) (omega arith)))
    (λ v h tens bytes.
    rw (large v h, append_assoc)
    (tens ((48 + v % 10) ∷ bytes) ∙ with_digit (v / 10) (v % 10) bytes (mod-lt v (omega arith))
    ∙ ap (λ (n : ℕ). with_digits n bytes) (div-add-mod v 10)))

natural_some : (text : List ℕ) → 1 ≤ length text → natural text ≡ with_digits 0 text
unfolding natural
natural_some [] h = absurd (omega arith)
natural_some (b ∷ bs) h = refl

pub natural_decimal : (v : ℕ) → natural (decimal v) ≡ some v
unfolding with_digits
natural_decimal v =
    natural_some (decimal v) (length_some v) ∙ ap (with_digits 0) (sym (append-nil (decimal v))) ∙ with_decimal v []

-- a text without a minus
no_minus : (text : List ℕ) → 1 ≤ length text → Without (λ b. eqb b 45) text → integer text ≡ mapped pos (natural text)
unfolding integer
no_minus [] filled h = absurd (omega arith)
no_minus (b ∷ bs) filled h = rw h.0

minus : (text : List ℕ) → integer (45 ∷ text) ≡ mapped (λ n. neg_ℤ (pos n)) (natural text)
unfolding integer
minus text = refl

pub integer_literal : (l : ℤ) → integer (literal_text l) ≡ some l
unfolding literal_text mapped ascii all
integer_literal (pos k) =
    no_minus (decimal k) (length_some k) (without_decimal (λ b. eqb b 45) refl k)
    ∙ ap (mapped pos) (natural_decimal k)
integer_literal (negsuc k) = minus (decimal (suc k)) ∙ ap (mapped (λ n. neg_ℤ (pos n))) (natural_decimal (suc k))
