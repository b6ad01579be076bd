-- Both counts are the joined list's own, and never pass document 01's limits.
use mathlib.Core.Path.{◌≡◌, sym, ap, subst, ◌∙◌}
use lib.ListN.{length}
use Rattle.words.specs.Below.{concat}
use Rattle.trail.specs.Trail.{Trail, line_count}
use Rattle.cnf.specs.Formulas.{clauses_of}
use Rattle.cnf.proofs.Clauses.{Nonzero, every_in_concat, numbers_concat, clauses_numbers}
use Rattle.clause_lists.specs.Lists.{line_clauses, line_list, joined, clause_count}
use Rattle.clause_lists.specs.Pairing.{NamesLast}
use Rattle.clause_lists.proofs.BothRuns.{nonzero_line}
use Rattle.words.proofs.Below.{length_concat}
use Rattle.clause_lists.proofs.LimitsMet.{limits_right}
use Rattle.clause_lists.proofs.Demand3.{every_trail_pairs}
use Rattle.sheet.specs.Fields.{trail_of}
use Rattle.sheet.specs.declared.Mode.TheVariants.{Read}
use Rattle.sheet.proofs.WellFormed.{accepted_well_formed, accepted_sized}
use Rattle.clauses.specs.Demand3.{EverySheetCountsRight}
use Rattle.clauses.proofs.Written.{joined_list_lem}

clauses_joined : (t : Trail) → length (clauses_of (joined t)) ≡ clause_count t
unfolding joined line_list clause_count
clauses_joined t =
    ap (λ l. length (clauses_of l)) (numbers_concat (line_count t) (line_clauses t))
    ∙ ap length
    (clauses_numbers (concat (line_count t) (line_clauses t))
    (every_in_concat Nonzero (line_count t) (line_clauses t) (λ k _. nonzero_line t k)))
    ∙ length_concat (line_count t) (line_clauses t)

pub every_sheet_counts_right : EverySheetCountsRight
every_sheet_counts_right s accepts buffers long =
    let t = trail_of s in
    let good = accepted_well_formed Read s accepts in
    let same = joined_list_lem s accepts buffers long in
    record {
      clauses_written = ap (λ l. length (clauses_of l)) same ∙ clauses_joined t;
      names_last = subst (NamesLast t) (sym same) (every_trail_pairs t good).names_last;
      within_limits = limits_right.never_passed 32 t good (accepted_sized Read s accepts);
    }
