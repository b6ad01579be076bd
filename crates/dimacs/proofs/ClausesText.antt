-- The text of clauses that are joined is their texts, one after the other. Assumes nothing.
use mathlib.Core.Path.{◌≡◌, refl, sym, ap, ◌∙◌}
use mathlib.Core.List.{List, [], ◌∷◌, ◌++◌, append_assoc}
use Prim.Native.Nat.{ℕ, zero, suc}
use lib.IntN.{ℤ}
use Rattle.words.specs.Below.{concat}
use Rattle.dimacs.specs.Text.{clause_text, clauses_text}

pub clauses_text_append : (cs ds : List (List ℤ)) → clauses_text (cs ++ ds) ≡ clauses_text cs ++ clauses_text ds
unfolding clauses_text
clauses_text_append [] ds = refl
clauses_text_append (c ∷ cs) ds =
    ap (λ (t : List ℕ). clause_text c ++ t) (clauses_text_append cs ds) ∙ sym (append_assoc (clause_text c) (clauses_text cs) (clauses_text ds))

pub clauses_text_concat : (n : ℕ) (f : ℕ → List (List ℤ)) → clauses_text (concat n f) ≡ concat n (λ k. clauses_text (f k))
unfolding clauses_text concat
clauses_text_concat zero f = refl
clauses_text_concat (suc n) f =
    clauses_text_append (concat n f) (f n) ∙ ap (λ (t : List ℕ). t ++ clauses_text (f n)) (clauses_text_concat n f)
