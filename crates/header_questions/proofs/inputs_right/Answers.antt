-- The range is gone through from its first number on, as `all` counts.
use Prim.Native.Nat.{ℕ, zero, suc, ◌≤◌}
use native.Mathlib.Omega.{arith}
use mathlib.Core.Path.{◌≡◌, refl, sym, ap, ◌∙◌}
use mathlib.Core.Bool.{Bool, ◌&&◌}
use mathlib.Core.List.{List}
use borrow.Author.Rules.{rules}
use borrow.Author.Tests.{tests}
use lib.ListN.{length, get_or, take}
use lib.Seq.{take-length}
use Rattle.std.specs.List.{list_all, range_with_len}
use Rattle.std.proofs.lemmas.List.Folds.{list_all_more}
use Rattle.std.proofs.lemmas.List.FromFn.{length-range_with_len, get_or-range_with_len}
use Rattle.std.proofs.lemmas.Iterator.{YieldsList-from_range}
use Rattle.std.proofs.lemmas.Iterator.Search.{all_from_yields_List}
use Rattle.std.proofs.Common.{add-one}
use Rattle.words.specs.Below.{all}
use Rattle.words.proofs.Below.{all_cong}
use Rattle.sheet.specs.Questions.{input_right}
use Rattle.header_questions.proofs.inputs_right.Goals as goal

module _ (p : ℕ → Bool) where
  passed : (xs : List ℕ) (k : ℕ) → k ≤ length xs → list_all p (take k xs) ≡ all k (λ i. p (get_or xs i 0))
  unfolding all
  passed xs zero h = refl
  passed xs (suc k) h =
      ap (λ (n : ℕ). list_all p (take n xs)) (sym (add-one k))
      ∙ list_all_more p xs k 0 (omega arith)
      ∙ ap (λ (t : Bool). t && p (get_or xs k 0)) (passed xs k (omega arith))

  -- of the numbers of a range
  in_range : (n : ℕ) → list_all p (range_with_len 0 n) ≡ all n p
  in_range n =
      let xs = range_with_len 0 n in
      let long : length xs ≡ n = length-range_with_len 0 n in
      ap (list_all p) (sym (take-length xs))
      ∙ passed xs (length xs) (omega arith)
      ∙ ap (λ (m : ℕ). all m (λ i. p (get_or xs i 0))) long
      ∙ all_cong n _ p (λ i h. ap p (omega (arith, get_or-range_with_len 0 n i 0 h)))

pub returns : goal.returns
returns c =
    let right = input_right c.args.s.now c.args.header in
    all_from_yields_List right _ _ _ c.all.ensures.ran (YieldsList-from_range 0 8 8 refl refl) (λ x b q k. search (rules, tests)) ∙ in_range right 8
