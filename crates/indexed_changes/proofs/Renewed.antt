-- The reports of the changed line and of those that name its word, written anew, make the report afresh.
use Prim.Native.Nat.{ℕ, zero, suc, ◌+◌, ◌<◌, ◌≤◌}
use native.Mathlib.Decide.{ℕ_discrete}
use native.Mathlib.Omega.{arith}
use mathlib.Core.Path.{◌≡◌, refl, sym, ap, ap₂, subst, ◌∙◌}
use mathlib.Core.Logic.{◌≢◌, ◌⊎◌, inl, inr}
use mathlib.Core.Bool.{Bool, true, false, cond, true≢false}
use mathlib.Core.List.{List, [], ◌∷◌}
use borrow.Author.Tests.{eq-eqb, ne_eqb}
use lib.Dec.{eqb}
use lib.ListN.{length, get_or}
use Rattle.words.specs.Below.{total, concat}
use Rattle.words.proofs.Below.{concat_cong, length_concat, total_cong, total_same}
use Rattle.buffers.specs.Overwrite.{overwrite}
use Rattle.buffers.specs.LittleEndian.{byte_at}
use Rattle.buffers.proofs.Overwrite.{overwrite_length, get_or_overwrite_outside}
use Rattle.trail.specs.Trail.{Trail, input_count, line_count, line_at}
use Rattle.trail.specs.Changing.{with_difference}
use Rattle.trail.proofs.Changed.{changed_count}
use Rattle.differential.specs.Report.{Report}
use Rattle.trail_reports.specs.Lines.{line_report}
use Rattle.report_buffer.specs.Buffer.{report_size, report_bytes, sheet_bytes, bytes_needed}
use Rattle.report_buffer.proofs.ReportBytes.{length_fields}
use Rattle.sheet_indexes.specs.Users.{names_word, users, Names, Has}
use Rattle.sheet_indexes.proofs.Users.{names_tested, names_told, users_are_right}
use Rattle.sheet_indexes.proofs.Stays.{names_stay}
use Rattle.changed_sheets.specs.Theorem.{Outside}
use Rattle.indexed_changes.specs.Renewed.{with_reports, renewed, RenewsOnlyThese, RenewedIsAfresh}
use Rattle.indexed_changes.proofs.Replaced.{part_replaced}
use Rattle.indexed_changes.proofs.OtherReports.{report_other}

-- ---- what a list has

has_first : (i : ℕ) (is : List ℕ) → Has (i ∷ is) i
has_first i is = record { place = 0; inside = omega arith; there = refl }

has_behind : (i : ℕ) (is : List ℕ) (x : ℕ) → Has is x → Has (i ∷ is) x
has_behind i is x h = record { place = suc h.place; inside = omega (arith, h.inside); there = h.there }

has_none : (x : ℕ) → Has [] x → ⊥
has_none x h = omega (arith, h.inside)

has_either : (i : ℕ) (is : List ℕ) (x : ℕ) → Has (i ∷ is) x → (i ≡ x) ⊎ Has is x
has_either i is x h = at h.place h.inside h.there
  where
    at : (p : ℕ) → p < length (i ∷ is) → get_or (i ∷ is) p 0 ≡ x → (i ≡ x) ⊎ Has is x
    at zero inside e = inl e
    at (suc p) inside e = inr (record { place = p; inside = omega arith; there = e })

-- ---- reports written anew over a buffer that is put together of parts

module _ (t : Trail) where
  abbrev fresh : ℕ → List ℕ
  fresh i = report_bytes (line_report t i)

  fresh_length : (i : ℕ) → length (fresh i) ≡ report_size
  fresh_length i = let r : Report = line_report t i in length_fields r.number r.chains r.weight r.fitting

  -- where line i's report stands
  place : (f : ℕ → List ℕ) → ((x : ℕ) → length (f x) ≡ report_size) → (i : ℕ) → length (concat i f) ≡ bytes_needed i
  place f sized i = length_concat i f ∙ total_cong i (λ x. length (f x)) (λ x. report_size) (λ x l. sized x) ∙ total_same i report_size

  -- every part is fresh, or its line is still to come
  pub written_anew : (b : ℕ) (is : List ℕ) (f : ℕ → List ℕ) → ((x : ℕ) → length (f x) ≡ report_size) → ((x : ℕ) → Has is x → x < b)
      → ((x : ℕ) → x < b → (f x ≡ fresh x) ⊎ Has is x) → with_reports t is (concat b f) ≡ concat b fresh
  unfolding with_reports
  written_anew b [] f sized below each = concat_cong b f fresh (λ x l. at x (each x l))
    where
      at : (x : ℕ) → (f x ≡ fresh x) ⊎ Has [] x → f x ≡ fresh x
      at x (inl e) = e
      at x (inr h) = absurd (has_none x h)
  written_anew b (i ∷ is) f sized below each =
      ap (with_reports t is) one
      ∙ written_anew b is next (λ x. sized_next x (ℕ_discrete x i)) (λ x h. below x (has_behind i is x h))
      (λ x l. at x (ℕ_discrete x i) (each x l))
    where
      next : ℕ → List ℕ
      next x = cond (eqb x i) (fresh x) (f x)

      here : (x : ℕ) → x ≡ i → next x ≡ fresh x
      here x e = ap (λ (c : Bool). cond c (fresh x) (f x)) (eq-eqb x i e)

      elsewhere : (x : ℕ) → x ≢ i → f x ≡ next x
      elsewhere x h = ap (λ (c : Bool). cond c (fresh x) (f x)) (sym (ne_eqb x i h))

      sized_next : (x : ℕ) → Dec (x ≡ i) → length (next x) ≡ report_size
      sized_next x (yes e) = ap length (here x e) ∙ fresh_length x
      sized_next x (no h) = ap length (sym (elsewhere x h)) ∙ sized x

      one : overwrite (bytes_needed i) (fresh i) (concat b f) ≡ concat b next
      one =
          ap₂ (λ (p : ℕ) (new : List ℕ). overwrite p new (concat b f)) (sym (place f sized i)) (sym (here i refl))
          ∙ part_replaced f next b i (below i (has_first i is)) (sized_next i (yes refl) ∙ sym (sized i)) elsewhere

      at : (x : ℕ) → Dec (x ≡ i) → (f x ≡ fresh x) ⊎ Has (i ∷ is) x → (next x ≡ fresh x) ⊎ Has is x
      at x (yes e) given = inl (here x e)
      at x (no h) (inl e) = inl (sym (elsewhere x h) ∙ e)
      at x (no h) (inr has) = behind (has_either i is x has)
        where
          behind : (i ≡ x) ⊎ Has is x → (next x ≡ fresh x) ⊎ Has is x
          behind (inl e) = absurd (h (sym e))
          behind (inr there) = inr there

  -- ---- no other byte is written

  pub only_these : (b : ℕ) (is report : List ℕ) (q : ℕ) → length report ≡ bytes_needed b → ((i : ℕ) → Has is i → i < b)
      → ((i : ℕ) → Has is i → Outside (bytes_needed i) report_size q) → byte_at (with_reports t is report) q ≡ byte_at report q
  unfolding with_reports
  only_these b [] report q long below outside = refl
  only_these b (i ∷ is) report q long below outside =
      let fits : bytes_needed i + length (fresh i) ≤ length report = omega (arith, fresh_length i, below i (has_first i is)) in
      let away = subst (λ (n : ℕ). Outside (bytes_needed i) n q) (sym (fresh_length i)) (outside i (has_first i is)) in
      only_these b is (overwrite (bytes_needed i) (fresh i) report) q (overwrite_length (bytes_needed i) (fresh i) report fits ∙ long)
      (λ x h. below x (has_behind i is x h)) (λ x h. outside x (has_behind i is x h))
      ∙ get_or_overwrite_outside (bytes_needed i) (fresh i) report fits q 0 away

-- the changed line and those that name its word are lines of the trail
touched_below : (t : Trail) (k : ℕ) → k < line_count t → (x : ℕ) → Has (k ∷ users t (input_count t + k)) x → x < line_count t
touched_below t k known x h = at (has_either k (users t (input_count t + k)) x h)
  where
    at : (k ≡ x) ⊎ Has (users t (input_count t + k)) x → x < line_count t
    at (inl e) = omega arith
    at (inr there) = (((users_are_right t (input_count t + k)).exactly x).0 there).0

pub renews_only_these : RenewsOnlyThese
renews_only_these t k report q known long =
    only_these t (line_count t) (k ∷ users t (input_count t + k)) report q long (touched_below t k known)

-- ---- after a change

module _ (t : Trail) (k d : ℕ) (known : k < line_count t) where
  abbrev since : Trail
  since = with_difference t k d

  abbrev word : ℕ
  word = input_count t + k

  below : (x : ℕ) → Has (k ∷ users since word) x → x < line_count t
  below x h = omega (arith, touched_below since k (omega (arith, changed_count t k d)) x h, changed_count t k d)

  each : (x : ℕ) → x < line_count t → (report_bytes (line_report t x) ≡ fresh since x) ⊎ Has (k ∷ users since word) x
  each x l = at (ℕ_discrete x k) (names_word (line_at since x) word) refl
    where
      at : Dec (x ≡ k) → (b : Bool) → names_word (line_at since x) word ≡ b
          → (report_bytes (line_report t x) ≡ fresh since x) ⊎ Has (k ∷ users since word) x
      at (yes e) b told = inr (subst (Has (k ∷ users since word)) (sym e) (has_first k (users since word)))
      at (no other) true told =
          inr (has_behind k (users since word) x
          (((users_are_right since word).exactly x).1 (omega (arith, changed_count t k d), names_told (line_at since x) word told)))
      at (no other) false told =
          inl (ap report_bytes (sym (report_other t k d x other
          (λ names. true≢false (sym (names_tested (line_at t x) word names) ∙ sym (names_stay t k d x word) ∙ told)))))

pub renewed_is_afresh : RenewedIsAfresh
unfolding sheet_bytes
renewed_is_afresh t k d known =
    written_anew (with_difference t k d) (line_count t) (k ∷ users (with_difference t k d) (input_count t + k)) (λ x. report_bytes (line_report t x))
    (fresh_length t) (below t k d known) (each t k d known)
    ∙ ap (λ (n : ℕ). concat n (fresh (with_difference t k d))) (sym (changed_count t k d))
