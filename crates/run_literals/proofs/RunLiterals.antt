-- The literals of a run as the code makes them, and which difference signs which word.
use Prim.Native.Nat.{ℕ, zero, suc, ◌+◌, ◌-◌, ◌*◌, ◌/◌, ◌%◌, ◌^◌, ◌≤◌, ◌<◌}
use native.Mathlib.Nat.{mul-le-mul_left}
use native.Mathlib.Decide.{ℕ_discrete}
use native.Mathlib.Omega.{arith}
use mathlib.Core.Path.{◌≡◌, refl, sym, ap, ◌∙◌, subst}
use mathlib.Core.Bool.{Bool, true, false, cond}
use borrow.Author.Tests.{eq-eqb, ne_eqb}
use lib.Bits.{bit_and, and_mask}
use lib.Dec.{eqb}
use lib.IntN.{ℤ, pos, neg_ℤ, ◌-ℤ◌}
use mir.Syntax.{w32}
use mir.Val.{to_z, of_z}
use Rattle.words.specs.Words.{bit}
use Rattle.trail.specs.WellFormed.{most_words}
use Rattle.trail.proofs.Runs.{second_below}
use Rattle.gate_writer.proofs.Signs.{same, negated}
use Rattle.run_literals.specs.declared.LineRun.{LineRun}
use Rattle.run_literals.specs.Proper.{ProperRun}
use Rattle.run_literals.specs.Run.{signed_literal, difference_in, word_in, CanNegate}

-- a literal as the machine holds it
abbrev pub held : ℤ → ℤ
held l = to_z w32 (of_z w32 l)

-- a literal that is l and can be negated
abbrev pub Made : ℤ → ℤ → Type 0
Made l m = (m ≡ l) × CanNegate m

pub made_held : {l m : ℤ} → Made l m → Made l (held m)
made_held {l} {m} h = let e = same m h.1 in (e ∙ h.0, subst CanNegate (sym e) h.1)

-- ---- bit i of word j of n bits, signed by a difference d

module _ (n j d i : ℕ) (hn : n ≤ 64) (hj : j < most_words) (hi : i < n) where
  pub variable_most : n * j + i + 1 ≤ 64 * most_words
  variable_most = let most : j ≤ most_words - 1 = omega arith in omega (arith, mul-le-mul_left n most)

  signed_small : CanNegate (signed_literal n j d i)
  unfolding signed_literal
  signed_small = at (bit d i) (n * j + i + 1) variable_most
    where
      at : (b : Bool) (v : ℕ) → v ≤ 64 * most_words → CanNegate (cond b (neg_ℤ (pos v)) (pos v))
      at true zero h = omega arith
      at true (suc v) h = omega arith
      at false v h = omega arith

  made : {m : ℤ} → m ≡ signed_literal n j d i → Made (signed_literal n j d i) m
  made e = (e, subst CanNegate (sym e) signed_small)

  -- the sign, as shift and mask give it
  pub negated_where_one : bit_and (d / 2 ^ i) 1 ≡ 1 → Made (signed_literal n j d i) (held (pos 0 -ℤ to_z w32 (n * j + i + 1)))
  unfolding signed_literal bit
  negated_where_one e =
      let one : bit d i ≡ true = eq-eqb (d / 2 ^ i % 2) 1 (sym (and_mask (d / 2 ^ i) 1) ∙ e) in
      made (rw one (negated (pos (n * j + i + 1)) (omega (arith, variable_most))))

  pub kept_where_none : (bit_and (d / 2 ^ i) 1 ≡ 1 → ⊥) → Made (signed_literal n j d i) (to_z w32 (n * j + i + 1))
  unfolding signed_literal bit
  kept_where_none none =
      let zero : bit d i ≡ false = ne_eqb (d / 2 ^ i % 2) 1 (λ e. none (and_mask (d / 2 ^ i) 1 ∙ e)) in
      made (rw zero (same (pos (n * j + i + 1)) (omega (arith, variable_most))))

-- ---- which difference signs which word

module _ (r : LineRun) where
  proper : ProperRun r.width r.word r.line r.first r.second r.carries
  proper = r.proper

  pub made_signed : difference_in r r.word ≡ r.made
  made_signed = rw (eq-eqb r.word r.word refl)

  pub first_signed : difference_in r r.line.first ≡ r.first
  first_signed =
      rw (ne_eqb r.line.first r.word (λ e. omega (arith, proper.line_right.first_earlier)), eq-eqb r.line.first r.line.first refl)

  pub second_signed : difference_in r r.line.second ≡ r.second
  second_signed =
      rw (ne_eqb r.line.second r.word (λ e. omega (arith, second_below proper.line_right))) (at (ℕ_discrete r.line.second r.line.first))
    where
      at : Dec (r.line.second ≡ r.line.first) → cond (eqb r.line.second r.line.first) r.first r.second ≡ r.second
      at (yes e) = rw (eq-eqb r.line.second r.line.first e) (proper.alike (sym e))
      at (no n) = rw (ne_eqb r.line.second r.line.first n)

  -- a word's literal, as its caller holds it
  pub word_made : (j d i : ℕ) {m : ℤ} → difference_in r j ≡ d → Made (signed_literal r.width j d i) m → Made (word_in r j i) (held m)
  unfolding word_in
  word_made j d i e h =
      let there = made_held h in
      (there.0 ∙ ap (λ (x : ℕ). signed_literal r.width j x i) (sym e), there.1)
