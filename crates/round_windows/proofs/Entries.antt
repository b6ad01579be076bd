-- The entries' bytes: how large the fields are, how many bytes there are, and what stands where.
use Prim.Native.Nat.{ℕ, ◌+◌, ◌*◌, ◌<◌, ◌≤◌, ◌^◌}
use native.Mathlib.Omega.{arith}
use native.Mathlib.Nat.{zero-add, mod-eq_of_lt}
use mathlib.Core.Path.{◌≡◌, sym, ap, ◌∙◌}
use mathlib.Core.Logic.{◌≢◌}
use mathlib.Core.Bool.{Bool, true, false, cond}
use mathlib.Core.List.{List, ◌++◌}
use borrow.Author.Tests.{eq-eqb, ne_eqb}
use lib.Dec.{eqb}
use lib.ListN.{length, length-append}
use Rattle.words.specs.Below.{concat}
use Rattle.words.proofs.Below.{length_concat, total_cong, total_same}
use Rattle.sheet_indexes.proofs.Parts.{part_fits, part_at}
use Rattle.buffers.specs.LittleEndian.{byte_at, bytes_of, number_at}
use Rattle.buffers.proofs.LittleEndian.{length_bytes_of}
use Rattle.buffers.proofs.Standing.{Stands, stands_field, stands_number}
use Rattle.trail.specs.Trail.{Trail, line_count}
use Rattle.trail_reports.specs.Totals.{Sums, range_totals}
use Rattle.trail_reports.proofs.RangeTotals.{SmallSums, totals_small}
use Rattle.trail_reports.proofs.Demand2.{sheet_report_small}
use Rattle.sheet.specs.Fields.{trail_of}
use Rattle.sheet.specs.Questions.{IsAccepted}
use Rattle.sheet.specs.declared.Mode.TheVariants.{Read}
use Rattle.sheet.proofs.WellFormed.{accepted_sized}
use Rattle.round_windows.specs.Rounds.{round_line, window_lines, window_count}
use Rattle.round_windows.specs.Windows.{window_totals, Entry, entry_of, entry, entry_size, entry_bytes, window_bytes, EntryFits, EntriesFit}
use Rattle.round_windows.specs.Answered.{EntryStands}
use Rattle.round_windows.proofs.Rounds.{windows_are_right}

-- ---- the fields

-- totals of so few lines fit
pub entry_fits : {k : ℕ} (w : Sums) → SmallSums k w → k ≤ 248 → EntryFits (entry_of w)
entry_fits {k} w small few = at (eqb w.impossible 0)
  where
    at : (t : Bool) → EntryFits (cond t (record { weight = w.weight; chains = w.chains; mark = 0 }) (record { weight = 0; chains = 0; mark = 1 }))
    at true = record { weight = omega (arith, small.weight); chains = omega (arith, small.chains); mark = omega arith }
    at false = record { weight = omega arith; chains = omega arith; mark = omega arith }

-- the totals of a range of lines of an accepted sheet
pub range_small : (s : List ℕ) → IsAccepted s → (from lines : ℕ) → from + lines ≤ line_count (trail_of s)
    → SmallSums lines (range_totals (trail_of s) from lines)
range_small s accepted from lines inside = totals_small (trail_of s) from lines (λ i l. sheet_report_small s accepted (from + i) (omega arith))

pub entries_fit : EntriesFit
unfolding entry
entries_fit s starts r i accepted right least most l =
    let inside = ((windows_are_right (trail_of s) starts r right least most).each i l).inside in
    entry_fits (window_totals (trail_of s) starts r i) (range_small s accepted _ _ inside)
    (omega (arith, inside, (accepted_sized Read s accepted).lines_most))

-- ---- the bytes

pub entry_length : (e : Entry) → length (entry_bytes e) ≡ entry_size
unfolding entry_bytes
entry_length e = simp (length-append, length_bytes_of)

module _ (f : ℕ → Entry) where
  abbrev bytes : ℕ → List ℕ
  bytes i = entry_bytes (f i)

  pub entries_length : (n : ℕ) → length (concat n bytes) ≡ entry_size * n
  entries_length n = length_concat n bytes ∙ total_cong n _ (λ i. entry_size) (λ i l. entry_length (f i)) ∙ total_same n entry_size

  -- where all entries stand from the start, entry i stands behind the i before it
  pub entry_stands : (n : ℕ) (b : List ℕ) → Stands 0 (concat n bytes) b → (i : ℕ) → i < n → Stands (entry_size * i) (entry_bytes (f i)) b
  entry_stands n b whole i l = record {
    long = omega (arith, whole.long, part_fits bytes n i l, entries_length i);
    same = λ p h.
        let here : length (concat i bytes) + p ≡ entry_size * i + p = omega (arith, entries_length i) in
        ap (byte_at b) (sym (ap (λ (q : ℕ). 0 + q) here ∙ zero-add (entry_size * i + p)))
        ∙ whole.same (length (concat i bytes) + p) (omega (arith, part_fits bytes n i l))
        ∙ part_at bytes n i p 0 l h;
  }

pub windows_length : (t : Trail) (starts : List ℕ) (r : ℕ) → length (window_bytes t starts r) ≡ entry_size * window_count starts r
unfolding window_bytes
windows_length t starts r = entries_length (entry t starts r) (window_count starts r)

-- ---- what is read where an entry stands

pub fields_stand : (b : List ℕ) (at : ℕ) (w : Sums) → EntryFits (entry_of w) → Stands at (entry_bytes (entry_of w)) b → EntryStands b at w
unfolding entry_bytes
fields_stand b at w fit there =
    let e : Entry = entry_of w in
    let weight = stands_field 4 e.weight (bytes_of 2 e.chains ++ bytes_of 2 e.mark) fit.weight there in
    let chains = stands_field 2 e.chains (bytes_of 2 e.mark) fit.chains weight.1 in
    let mark = stands_number 2 e.mark (at + 4 + 2) b chains.1 ∙ mod-eq_of_lt fit.mark in
    let marked : number_at 2 b (at + 6) ≡ e.mark = ap (number_at 2 b) (omega arith) ∙ mark in
    record {
      weight = λ z. weight.0 ∙ ap (λ (x : Entry). x.weight) (possible z);
      chains = λ z. chains.0 ∙ ap (λ (x : Entry). x.chains) (possible z);
      unmarked = λ z. marked ∙ ap (λ (x : Entry). x.mark) (possible z);
      no_weight = λ n. weight.0 ∙ ap (λ (x : Entry). x.weight) (impossible n);
      no_chains = λ n. chains.0 ∙ ap (λ (x : Entry). x.chains) (impossible n);
      marked = λ n. marked ∙ ap (λ (x : Entry). x.mark) (impossible n);
    }
  where
    possible : w.impossible ≡ 0 → entry_of w ≡ record { weight = w.weight; chains = w.chains; mark = 0 }
    possible z = ap (λ (t : Bool). cond t (record { weight = w.weight; chains = w.chains; mark = 0 }) (record { weight = 0; chains = 0; mark = 1 })) (eq-eqb w.impossible 0 z)

    impossible : w.impossible ≢ 0 → entry_of w ≡ record { weight = 0; chains = 0; mark = 1 }
    impossible n = ap (λ (t : Bool). cond t (record { weight = w.weight; chains = w.chains; mark = 0 }) (record { weight = 0; chains = 0; mark = 1 })) (ne_eqb w.impossible 0 n)
