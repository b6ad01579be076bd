-- Numbers as the code adds them up, with each sum wrapped: rules for `search`.
use Rattle.std.proofs.Common.{◌≡◌, ℕ, ◌+◌, ◌*◌, ◌%◌, ◌^◌, ◌≤◌, List, refl, ap, ◌∙◌, add-one}
use native.Mathlib.Nat.{mod-add-mod}
use Rattle.words.specs.Below.{total}
use Rattle.buffers.specs.LittleEndian.{number_at}
use Rattle.sheet.specs.Checks.{check_of}
use Rattle.sheet.proofs.Testing.{same_end}

-- the first j numbers from a position on, added up modulo 2 ^ 32
pub record Summed (s : List ℕ) (at j sum : ℕ) : Type 0 where
  pub is : sum ≡ total j (λ i. number_at 4 s (at + 4 * i)) % 2 ^ 32

pub summed_none : (s : List ℕ) (at : ℕ) → Summed s at 0 0
unfolding total
summed_none s at = record { is = refl }

wrap : (x y z : ℕ) {r : ℕ} → x ≡ z % 2 ^ 32 → r ≡ (x + y) % 2 ^ 32 → r ≡ (z + y) % 2 ^ 32
wrap x y z e d = d ∙ ap (λ (w : ℕ). (w + y) % 2 ^ 32) e ∙ mod-add-mod z (2 ^ 32) y

pub summed_next : (s : List ℕ) (at j sum x r : ℕ) → Summed s at j sum → x ≡ number_at 4 s (at + 4 * j) → r ≡ (sum + x) % 2 ^ 32
    → Summed s at (j + 1) r
unfolding total
summed_next s at j sum x r h e d =
    let w = wrap sum (number_at 4 s (at + 4 * j)) (total j (λ i. number_at 4 s (at + 4 * i))) h.is (d ∙ ap (λ (y : ℕ). (sum + y) % 2 ^ 32) e) in
    record { is = rw add-one w }

pub summed_all : (s : List ℕ) (at j n sum : ℕ) → Summed s at j sum → j ≤ n → n ≤ j → sum ≡ total n (λ i. number_at 4 s (at + 4 * i)) % 2 ^ 32
summed_all s at j n sum e h l = e.is ∙ ap (λ (i : ℕ). total i (λ i. number_at 4 s (at + 4 * i)) % 2 ^ 32) (same_end j n h l)

pub ruleset summing = (summed_none, summed_next)

-- a block's check: the sum of its numbers, and its index
pub check_summed : (s : List ℕ) (b sum r : ℕ) → sum ≡ total 127 (λ j. number_at 4 s (512 * b + 4 * j)) % 2 ^ 32 → r ≡ (sum + b) % 2 ^ 32
    → r ≡ check_of s b
unfolding check_of
check_summed s b sum r e d = wrap sum b (total 127 (λ j. number_at 4 s (512 * b + 4 * j))) e d
