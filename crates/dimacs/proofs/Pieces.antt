-- The pieces of a text: its lines, and the words of a line. Assumes nothing.
use mathlib.Core.Path.{◌≡◌, refl, sym, ap, ◌∙◌}
use mathlib.Core.Bool.{Bool, true, false}
use mathlib.Core.List.{List, [], ◌∷◌, ◌++◌, append-nil, append_assoc}
use Prim.Native.Nat.{ℕ, ◌≤◌}
use native.Mathlib.Omega.{arith}
use lib.ListN.{length}
use Rattle.dimacs.specs.Reading.{with_piece, pieces_from}

-- no byte of a text passes a test
abbrev pub Without : (ℕ → Bool) → List ℕ → Type 0
Without test [] = Unit {0}
Without test (b ∷ bs) = (test b ≡ false) × Without test bs

pub without_append : (test : ℕ → Bool) (text more : List ℕ) → Without test text → Without test more → Without test (text ++ more)
without_append test [] more h g = g
without_append test (b ∷ bs) more h g = (h.0, without_append test bs more h.1 g)

some_piece : (text : List ℕ) (pieces : List (List ℕ)) → 1 ≤ length text → with_piece text pieces ≡ text ∷ pieces
unfolding with_piece
some_piece [] pieces h = absurd (omega arith)
some_piece (b ∷ bs) pieces h = refl

module _ (parts : ℕ → Bool) where
  -- what does not part the text goes to what is begun
  begin : (begun text rest : List ℕ) → Without parts text → pieces_from parts begun (text ++ rest) ≡ pieces_from parts (begun ++ text) rest
  unfolding pieces_from
  begin begun [] rest h = ap (λ (t : List ℕ). pieces_from parts t rest) (sym (append-nil begun))
  begin begun (b ∷ bs) rest h =
      rw h.0
      (begin (begun ++ (b ∷ [])) bs rest h.1 ∙ ap (λ (t : List ℕ). pieces_from parts t rest) (append_assoc begun (b ∷ []) bs))

  -- a text that nothing parts, and a byte that does, are one piece,
  pub first_piece : (text : List ℕ) (b : ℕ) (rest : List ℕ) → Without parts text → 1 ≤ length text → parts b ≡ true
      → pieces_from parts [] (text ++ (b ∷ rest)) ≡ text ∷ pieces_from parts [] rest
  unfolding pieces_from
  first_piece text b rest h filled end = begin [] text (b ∷ rest) h ∙ rw end (some_piece text (pieces_from parts [] rest) filled)

  -- and so is the text alone
  pub last_piece : (text : List ℕ) → Without parts text → 1 ≤ length text → pieces_from parts [] text ≡ text ∷ []
  unfolding pieces_from
  last_piece text h filled =
      ap (pieces_from parts []) (sym (append-nil text)) ∙ begin [] text [] h ∙ some_piece text [] filled
