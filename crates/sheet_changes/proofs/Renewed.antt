-- A block's check by what changed in the block: a law on sums.
use Rattle.std.proofs.Common.{◌≡◌, ℕ, ◌+◌, ◌-◌, ◌*◌, ◌%◌, ◌^◌, ◌<◌, ◌≤◌, List, sym, ap, ◌∙◌, ap₂, arith}
use native.Mathlib.Nat.{mod-add-mod}
use Rattle.words.specs.Below.{total}
use Rattle.words.proofs.Below.{total_cong, total_exchanged}
use Rattle.buffers.specs.LittleEndian.{number_at}
use Rattle.sheet.specs.Blocks.{block_bytes, check_offset}
use Rattle.sheet.specs.Checks.{check_of}
use Rattle.sheet.proofs.FieldBytes.{SameAt, number_same, same_part}

-- ---- modulo 2 ^ 32

wrapped_both : (x y : ℕ) → (x % 2 ^ 32 + y % 2 ^ 32) % 2 ^ 32 ≡ (x + y) % 2 ^ 32
wrapped_both x y = omega arith

-- what is added on both sides is taken off
taken_off : (x u o : ℕ) → x < 2 ^ 32 → (x + o) % 2 ^ 32 ≡ (u + o) % 2 ^ 32 → u % 2 ^ 32 ≡ x
taken_off x u o small e = omega arith

-- ---- a block

-- The c numbers from the a-th on are others in t than in s, and no other number of block b is.
module _ {s t : List ℕ} (b a c : ℕ) (inside : a + c ≤ 127) (before : SameAt (block_bytes * b) (4 * a) t s)
    (behind : SameAt (block_bytes * b + 4 * (a + c)) (check_offset - 4 * (a + c)) t s) where
  abbrev numbers : List ℕ → ℕ → ℕ
  numbers l j = number_at 4 l (512 * b + 4 * j)

  -- they begin at this position
  module _ {at : ℕ} (position : at ≡ block_bytes * b + 4 * a) where
    abbrev changed : List ℕ → ℕ
    changed l = total c (λ i. number_at 4 l (at + 4 * i))

    there : (l : List ℕ) → changed l ≡ total c (λ i. numbers l (a + i))
    there l = total_cong c (λ i. number_at 4 l (at + 4 * i)) (λ i. numbers l (a + i)) (λ i _. ap (number_at 4 l) (omega arith))

    sums : total 127 (numbers t) + changed s ≡ total 127 (numbers s) + changed t
    sums =
        let rest : a + c + (127 - (a + c)) ≡ 127 = omega arith in
        let law = total_exchanged a c (127 - (a + c)) (numbers t) (numbers s) (λ i l. first i l) (λ i l. last i l) in
        omega (arith, there s, there t, law, ap (λ (n : ℕ). total n (numbers t)) rest, ap (λ (n : ℕ). total n (numbers s)) rest)
      where
        first : (i : ℕ) → i < a → numbers t i ≡ numbers s i
        first i l = number_same 4 (512 * b + 4 * i) (same_part (4 * i) 4 before (omega arith))

        last : (i : ℕ) → i < 127 - (a + c) → numbers t (a + c + i) ≡ numbers s (a + c + i)
        last i l =
            let e : 512 * b + 4 * (a + c + i) ≡ block_bytes * b + 4 * (a + c) + 4 * i = omega arith in
            ap (number_at 4 t) e ∙ number_same 4 _ (same_part (4 * i) 4 behind (omega arith)) ∙ ap (number_at 4 s) (sym e)

    -- so the new check with the old numbers is the old one with the new
    pub checks_exchanged : {old new check : ℕ} → old ≡ changed s % 2 ^ 32 → new ≡ changed t % 2 ^ 32 → check ≡ check_of s b
        → (check_of t b + old) % 2 ^ 32 ≡ (check + new) % 2 ^ 32
    unfolding check_of
    checks_exchanged old-is New-is check-is =
        ap (λ (o : ℕ). (check_of t b + o) % 2 ^ 32) old-is
        ∙ wrapped_both (total 127 (numbers t) + b) (changed s)
        ∙ ap (λ (z : ℕ). z % 2 ^ 32) (omega (arith, sums))
        ∙ sym (wrapped_both (total 127 (numbers s) + b) (changed t))
        ∙ sym (ap₂ (λ (k n : ℕ). (k + n) % 2 ^ 32) check-is New-is)

-- the old check, minus the old numbers, plus the new
pub renewed_sum : (t : List ℕ) (b old new stands without : ℕ) {check v : ℕ} → (check_of t b + old) % 2 ^ 32 ≡ (stands + new) % 2 ^ 32
    → check ≡ stands → (without + old) % 2 ^ 32 ≡ check → v ≡ (without + new) % 2 ^ 32 → v ≡ check_of t b
unfolding check_of
renewed_sum t b old new stands without exchanged taken subtracted added =
    added
    ∙ taken_off (check_of t b) (without + new) old (omega arith)
    (exchanged
    ∙ ap (λ (k : ℕ). (k + new) % 2 ^ 32) (sym (subtracted ∙ taken))
    ∙ mod-add-mod (without + old) (2 ^ 32) new
    ∙ ap (λ (z : ℕ). z % 2 ^ 32) (omega arith))
