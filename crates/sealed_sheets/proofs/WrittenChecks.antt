-- What the checks written one after the other leave in the bytes.
use Prim.Native.Nat.{ℕ, zero, suc, ◌+◌, ◌*◌, ◌-◌, ◌%◌, ◌^◌, ◌<◌, ◌≤◌}
use native.Mathlib.Omega.{arith}
use native.Mathlib.Nat.{mod-eq_of_lt}
use native.Mathlib.Numerals.{add-one}
use native.Mathlib.Decide.{dec_lt}
use mathlib.Core.Path.{◌≡◌, refl, sym, ap, ◌∙◌, subst}
use mathlib.Core.Logic.{◌⊎◌, inl, inr}
use mathlib.Core.Bool.{true, false}
use mathlib.Core.List.{List}
use lib.ListN.{length}
use lib.Seq.{ext_get_or}
use Rattle.words.proofs.Below.{below_suc}
use Rattle.buffers.specs.Overwrite.{overwrite}
use Rattle.buffers.specs.LittleEndian.{byte_at, number_at, bytes_of}
use Rattle.buffers.proofs.Overwrite.{overwrite_length, get_or_overwrite_inside, get_or_overwrite_outside}
use Rattle.buffers.proofs.LittleEndian.{length_bytes_of, number_cong, number_written}
use Rattle.sheet.specs.Checks.{check_of, check_position}
use Rattle.sheet.specs.Asking.{all_yes}
use Rattle.sheet.specs.Fields.{header_of}
use Rattle.sheet.specs.Questions.{questions}
use Rattle.sealed_sheets.specs.Sealing.{with_checks, sealed}
use Rattle.sheet.specs.declared.Mode.TheVariants.{Seal}
use Rattle.sealed_sheets.specs.Demands.{SameButChecks}
use Rattle.sealed_sheets.proofs.OnlyChecks.{same_check}

-- bytes written in the place of a block's check, four at most
module _ (s : List ℕ) (b : ℕ) (bytes : List ℕ) (few : length bytes ≤ 4) (room : 512 * b + 512 ≤ length s) where
  written : List ℕ
  written = overwrite (check_position b) bytes s

  fits : check_position b + length bytes ≤ length s
  fits = omega arith

  written_length : length written ≡ length s
  unfolding written
  written_length = overwrite_length (check_position b) bytes s fits

  written_outside : (i : ℕ) → (i < 512 * b + 508) ⊎ (512 * b + 512 ≤ i) → byte_at written i ≡ byte_at s i
  unfolding written
  written_outside i (inl l) = get_or_overwrite_outside (check_position b) bytes s fits i 0 (inl l)
  written_outside i (inr l) = get_or_overwrite_outside (check_position b) bytes s fits i 0 (inr (omega arith))

  written_inside : (j : ℕ) → j < length bytes → byte_at written (check_position b + j) ≡ byte_at bytes j
  unfolding written
  written_inside j l = get_or_overwrite_inside (check_position b) bytes s fits j 0 l

pub checks_none : (s : List ℕ) → s ≡ with_checks 0 s
unfolding with_checks
checks_none s = refl

-- what sealing leaves
module _ (s : List ℕ) where
  pub sealed_yes : all_yes (questions Seal s) ≡ true → sealed s ≡ with_checks (header_of s).blocks s
  unfolding sealed
  sealed_yes e = rw e

  pub sealed_no : all_yes (questions Seal s) ≡ false → sealed s ≡ s
  unfolding sealed
  sealed_no e = rw e

-- the checks of n blocks written
module _ (s : List ℕ) where
  next_same : (n : ℕ) (bytes : List ℕ) → length bytes ≤ 4 → 512 * suc n ≤ length s → SameButChecks (with_checks n s) s
      → SameButChecks (overwrite (check_position n) bytes (with_checks n s)) s
  unfolding written
  next_same n bytes few l before = record {
    same_length = written_length (with_checks n s) n bytes few room ∙ before.same_length;
    same_byte = λ i g. written_outside (with_checks n s) n bytes few room i (side i g (dec_lt i (512 * n + 508))) ∙ before.same_byte i g;
  }
    where
      room : 512 * n + 512 ≤ length (with_checks n s)
      room = omega (arith, before.same_length)

      side : (i : ℕ) → i % 512 < 508 → Dec (i < 512 * n + 508) → (i < 512 * n + 508) ⊎ (512 * n + 512 ≤ i)
      side i g (yes less) = inl less
      side i g (no more) = inr (omega arith)

  pub checks_same : (n : ℕ) → 512 * n ≤ length s → SameButChecks (with_checks n s) s
  unfolding with_checks
  checks_same zero l = record { same_length = refl; same_byte = λ i g. refl }
  checks_same (suc n) l = next_same n _ (simp length_bytes_of (omega arith)) l (checks_same n (omega arith))

  check_small : (b : ℕ) → check_of s b < 256 ^ 4
  unfolding check_of
  check_small b = omega arith

  -- each check is there
  pub check_there : (n : ℕ) → 512 * n ≤ length s → (b : ℕ) → b < n → number_at 4 (with_checks n s) (check_position b) ≡ check_of s b
  unfolding with_checks written
  check_there zero l b g = absurd (omega arith)
  check_there (suc n) l b g =
      below_suc (λ a. number_at 4 (with_checks (suc n) s) (check_position a) ≡ check_of s a) n
      (λ a less. number_cong 4 (with_checks (suc n) s) (with_checks n s) (check_position a)
      (λ j k. written_outside (with_checks n s) n _ (simp length_bytes_of (omega arith)) room (check_position a + j) (inl (omega arith)))
      ∙ check_there n (omega arith) a less)
      (number_written 4 (check_of s n) (check_position n) (with_checks n s) (omega (arith, room)) ∙ mod-eq_of_lt (check_small n))
      b g
    where
      room : 512 * n + 512 ≤ length (with_checks n s)
      room = omega (arith, (checks_same n (omega arith)).same_length)

  -- the code takes each check from the bytes as they are then
  pub checks_next : (n : ℕ) (t : List ℕ) (v : ℕ) → 512 * n ≤ length s → t ≡ with_checks n s → v ≡ check_of t n
      → overwrite (check_position n) (bytes_of 4 v) t ≡ with_checks (n + 1) s
  unfolding with_checks
  checks_next n t v l e d =
      let check : v ≡ check_of s n = d ∙ ap (λ x. check_of x n) e ∙ same_check (checks_same n l) n in
      rw (add-one, e, check)

-- two lists that are the same outside the checks, with the checks written
module _ {s t : List ℕ} (h : SameButChecks s t) where
  -- what lies outside the checks, or in a block whose check is written
  abbrev Settled : ℕ → ℕ → Type 0
  Settled b i = (i % 512 < 508) ⊎ (i < 512 * b)

  next_agree : (b : ℕ) → 512 * suc b ≤ length s → ((i : ℕ) → Settled b i → byte_at (with_checks b s) i ≡ byte_at (with_checks b t) i)
      → (i : ℕ) → Settled (suc b) i → byte_at (with_checks (suc b) s) i ≡ byte_at (with_checks (suc b) t) i
  unfolding with_checks written
  next_agree b l before i g = at (dec_lt i (512 * b + 508)) (dec_lt i (512 * b + 512))
    where
      room₁ : 512 * b + 512 ≤ length (with_checks b s)
      room₁ = omega (arith, (checks_same s b (omega arith)).same_length)

      room₂ : 512 * b + 512 ≤ length (with_checks b t)
      room₂ = omega (arith, h.same_length, (checks_same t b (omega (arith, h.same_length))).same_length)

      earlier : (i < 512 * b + 508) ⊎ (512 * b + 512 ≤ i) → Settled (suc b) i → Dec (i < 512 * b) → Settled b i
      earlier o k (yes less) = inr less
      earlier o (inl k) (no more) = inl k
      earlier (inl o) (inr k) (no more) = inl (omega arith)
      earlier (inr o) (inr k) (no more) = absurd (omega arith)

      outside : (i < 512 * b + 508) ⊎ (512 * b + 512 ≤ i) → byte_at (with_checks (suc b) s) i ≡ byte_at (with_checks (suc b) t) i
      outside o =
          written_outside (with_checks b s) b _ (simp length_bytes_of (omega arith)) room₁ i o
          ∙ before i (earlier o g (dec_lt i (512 * b)))
          ∙ sym (written_outside (with_checks b t) b _ (simp length_bytes_of (omega arith)) room₂ i o)

      inside : (j : ℕ) → j < 4 → byte_at (with_checks (suc b) s) (check_position b + j) ≡ byte_at (with_checks (suc b) t) (check_position b + j)
      inside j k =
          written_inside (with_checks b s) b _ (simp length_bytes_of (omega arith)) room₁ j (simp length_bytes_of (omega arith))
          ∙ ap (λ (v : ℕ). byte_at (bytes_of 4 v) j) (same_check h b)
          ∙ sym (written_inside (with_checks b t) b _ (simp length_bytes_of (omega arith)) room₂ j (simp length_bytes_of (omega arith)))

      at : Dec (i < 512 * b + 508) → Dec (i < 512 * b + 512) → byte_at (with_checks (suc b) s) i ≡ byte_at (with_checks (suc b) t) i
      at (yes less) d = outside (inl less)
      at (no more) (yes less) = subst (λ (k : ℕ). byte_at (with_checks (suc b) s) k ≡ byte_at (with_checks (suc b) t) k) whole (inside (i - check_position b) (omega arith))
        where
          whole : check_position b + (i - check_position b) ≡ i
          whole = omega arith
      at (no more) (no past) = outside (inr (omega arith))

  agree : (b : ℕ) → 512 * b ≤ length s → (i : ℕ) → Settled b i → byte_at (with_checks b s) i ≡ byte_at (with_checks b t) i
  unfolding with_checks
  agree zero l i (inl g) = h.same_byte i g
  agree zero l i (inr g) = absurd (omega arith)
  agree (suc b) l i g = next_agree b l (agree b (omega arith)) i g

  pub checks_agree : (b : ℕ) → length s ≡ 512 * b → with_checks b s ≡ with_checks b t
  checks_agree b e =
      let long₁ = (checks_same s b (omega arith)).same_length in
      let long₂ = (checks_same t b (omega (arith, h.same_length))).same_length in
      ext_get_or 0 (with_checks b s) (with_checks b t) (long₁ ∙ h.same_length ∙ sym long₂)
      (λ i l. agree b (omega arith) i (inr (omega (arith, long₁))))
