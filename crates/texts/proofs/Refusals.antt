-- A refusal's text has at most 64 bytes; and four refusals, by computation.
use Prim.Native.Nat.{ℕ, ◌^◌, ◌≤◌, ◌<◌}
use native.Mathlib.Omega.{arith}
use mathlib.Core.Path.{◌≡◌, refl}
use mathlib.Core.List.{[], ◌∷◌, ◌++◌}
use lib.ListN.{length, length-append}
use Rattle.decimal.specs.Ascii.{ascii}
use Rattle.decimal.specs.Decimal.{digits, decimal, spaced}
use Rattle.decimal.proofs.Decimals.{length_most_lem}
use Rattle.decimal.proofs.Writing.{length_spaced}
use Rattle.texts.specs.Refusals.{refusal_text}

pub refusal_most : (number place : ℕ) → number < 2 ^ 32 → place < 2 ^ 64 → length (refusal_text number place) ≤ 64
unfolding refusal_text ascii
refusal_most number place h g =
    omega (
      arith,
      length-append (spaced number) (spaced place ++ (10 ∷ [])),
      length-append (spaced place) (10 ∷ []),
      length_spaced number,
      length_spaced place,
      length_most_lem 9 number (omega arith),
      length_most_lem 19 place (omega arith),
    )

pub record RefusalsAsText : Type 0 where
  pub of_block : refusal_text 2 7 ≡ ascii "refused 2 7\n"
  pub of_line : refusal_text 23 247 ≡ ascii "refused 23 247\n"
  pub of_no_place : refusal_text 18 0 ≡ ascii "refused 18 0\n"
  pub of_most : refusal_text 4294967295 18446744073709551615 ≡ ascii "refused 4294967295 18446744073709551615\n"

pub refusals_as_text : RefusalsAsText
unfolding refusal_text spaced decimal digits ascii
refusals_as_text = record { of_block = refl; of_line = refl; of_no_place = refl; of_most = refl }
