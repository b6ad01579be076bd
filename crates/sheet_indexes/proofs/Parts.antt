-- A list put together of parts, one for each number below a bound: where they stand.
use Prim.Native.Nat.{ℕ, zero, suc, ◌+◌, ◌-◌, ◌≤◌, ◌<◌}
use native.Mathlib.Decide.{dec_lt}
use native.Mathlib.Omega.{arith}
use mathlib.Core.Path.{◌≡◌, sym, ap, subst, ◌∙◌}
use mathlib.Core.List.{List, ◌++◌}
use lib.ListN.{length, get_or, length-append, get_or-append}
use lib.Seq.{get_or-append-add}
use Rattle.words.specs.Below.{concat}
use Rattle.words.proofs.Below.{below_suc}

module _ {A : Type 0} (f : ℕ → List A) where
  -- part j ends before the list does
  pub part_fits : (b j : ℕ) → j < b → length (concat j f) + length (f j) ≤ length (concat b f)
  unfolding concat
  part_fits zero j l = absurd (omega arith)
  part_fits (suc b) j l =
      below_suc (λ i. length (concat i f) + length (f i) ≤ length (concat b f ++ f b)) b
      (λ i less. omega (arith, part_fits b i less, length-append (concat b f) (f b)))
      (omega (arith, length-append (concat b f) (f b)))
      j l

  -- what stands in part j
  pub part_at : (b j p : ℕ) (d : A) → j < b → p < length (f j) → get_or (concat b f) (length (concat j f) + p) d ≡ get_or (f j) p d
  unfolding concat
  part_at zero j p d l h = absurd (omega arith)
  part_at (suc b) j p d l h =
      below_suc (λ i. p < length (f i) → get_or (concat b f ++ f b) (length (concat i f) + p) d ≡ get_or (f i) p d) b
      (λ i less inside.
      get_or-append (concat b f) (f b) d (length (concat i f) + p) (omega (arith, part_fits b i less)) ∙ part_at b i p d less inside)
      (λ inside. get_or-append-add (concat b f) (f b) p d)
      j l h

  -- every place lies in some part
  pub part_each : (P : ℕ → Type 0) (b : ℕ) → ((j : ℕ) → j < b → (p : ℕ) → p < length (f j) → P (length (concat j f) + p))
      → (q : ℕ) → q < length (concat b f) → P q
  unfolding concat
  part_each P zero each q l = absurd (omega arith)
  part_each P (suc b) each q l = at (part_each P b (λ j h. each j (omega arith)) q) (dec_lt q (length (concat b f)))
    where
      at : (q < length (concat b f) → P q) → Dec (q < length (concat b f)) → P q
      at before (yes less) = before less
      at before (no past) =
          subst P whole (each b (omega arith) (q - length (concat b f)) (omega (arith, length-append (concat b f) (f b))))
        where
          whole : length (concat b f) + (q - length (concat b f)) ≡ q
          whole = omega arith
