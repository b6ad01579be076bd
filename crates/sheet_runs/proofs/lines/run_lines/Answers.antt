use Prim.Native.Nat.{ℕ, ◌+◌, ◌-◌, ◌<◌}
use mathlib.Core.Path.{◌≡◌, refl, sym, ap, ◌∙◌}
use mathlib.Core.Bool.{true, false}
use mathlib.Core.List.{List}
use native.Mathlib.Decide.{dec_lt}
use native.Mathlib.Omega.{arith}
use borrow.Author.Rules.{rules}
use borrow.Author.Count.{below_none, below_more}
use Rattle.words.specs.Words.{bit}
use Rattle.trail.specs.Trail.{input_count, line_count}
use Rattle.trail.specs.WellFormed.{most_words}
use Rattle.trail.specs.Runs.{partner, line_follows}
use Rattle.trail.proofs.Runs.{partner_start}
use Rattle.sheet.specs.Fields.{trail_of}
use Rattle.sheet_runs.specs.Outcome.{disagrees}
use Rattle.sheet_runs.specs.Facts.{Holds}
use Rattle.sheet_runs.proofs.MadeWords.{made_holds, made_line, apart_bit}
use Rattle.sheet_runs.proofs.Disagreement.{all_follow, outcome_follows, outcome_disagrees, line_follows_lem}
use Rattle.sheet_runs.proofs.lines.run_lines.Goals as goal

pub begin-requires : goal.begin-requires
begin-requires c = (c.requires, refl, refl)

pub lines-init : goal.lines-init
lines-init c =
    let t = trail_of c.args.sheet.now.bytes.now in
    let x = c.args.start.now in
    let made : c.args.sheet.now.header.inputs ≡ input_count t + 0 = omega arith in (
      search rules,
      rw made at c.begin.ensures.0,
      rw made at c.begin.ensures.1,
      below_none (λ l. line_follows t x l ≡ true),
    )

pub run_line-apart-requires : goal.run_line-apart-requires
run_line-apart-requires c =
    let at = c.lines in
    let s = c.args.sheet.now.bytes.now in
    let h = c.args.sheet.now.header in
    let read = c.args.sheet.now.read in
    let x = c.args.start.now in
    let good = read.well_formed in
    let holds : (words : List ℕ) → Holds (trail_of s).width (input_count (trail_of s) + at.k) words → Holds h.width (h.inputs + at.k) words =
    λ words w. rw (read.width, read.inputs) at w in (
      omega arith,
      holds at.first (made_holds good x c.requires (input_count (trail_of s) + at.k) at.first (omega arith) at.invariant.1),
      holds at.second (made_holds good (partner (trail_of s) x) (partner_start good x c.requires) (input_count (trail_of s) + at.k) at.second (omega arith) at.invariant.2),
    )

pub bits-init : goal.bits-init
bits-init c = below_none _

pub bit-requires : goal.bit-requires
bit-requires c = omega arith

pub bits-preserved : goal.bits-preserved
bits-preserved c =
    below_more _ _ c.bits.invariant (sym c.bit.ensures ∙ c.if-bit.false)

pub lines-preserved : goal.lines-preserved
lines-preserved c =
    let at = c.lines in
    let s = c.args.sheet.now.bytes.now in
    let h = c.args.sheet.now.header in
    let read = c.args.sheet.now.read in
    let t = trail_of s in
    let x = c.args.start.now in
    let good = read.well_formed in
    let less : at.k < line_count t = omega arith in
    let room : input_count t + at.k < most_words = omega arith in
    let made = c.run_line-apart.ensures in
    let agrees : (i : ℕ) → i < t.width → disagrees t x at.k i ≡ false =
    λ i l. sym (apart_bit good x c.requires at.k less at.invariant.1 at.invariant.2 i)
    ∙ ap (λ (a : ℕ). bit a i) (sym made.2)
    ∙ elim (dec_lt i c.bits.i) [
      | yes passed ↦ c.bits.invariant i passed
      | no more ↦ c.bits_asked-asked.ensures.1.none i (omega arith) (omega arith)
    ] in (
      search rules,
      made_line good x c.requires at.k less room at.invariant.1 made.0,
      made_line good (partner t x) (partner_start good x c.requires) at.k less room at.invariant.2 made.1,
      below_more (λ l. line_follows t x l ≡ true) at.k at.invariant.3 (line_follows_lem good x c.requires at.k less agrees),
    )

pub returns-then-lines-k : goal.returns-then-lines-k
returns-then-lines-k c =
    let at = c.lines in
    let s = c.args.sheet.now.bytes.now in
    let x = c.args.start.now in
    sym (outcome_follows (trail_of s) x (all_follow (trail_of s) x (λ l less. at.invariant.3 l (omega arith))))

pub returns-then-bit : goal.returns-then-bit
returns-then-bit c =
    let at = c.lines in
    let s = c.args.sheet.now.bytes.now in
    let h = c.args.sheet.now.header in
    let read = c.args.sheet.now.read in
    let t = trail_of s in
    let x = c.args.start.now in
    let i = c.bits.i in
    let good = read.well_formed in
    let less : at.k < line_count t = omega arith in
    let apart : (j : ℕ) → disagrees t x at.k j ≡ bit c.run_line-apart.result j =
    λ j. sym (apart_bit good x c.requires at.k less at.invariant.1 at.invariant.2 j)
    ∙ ap (λ (a : ℕ). bit a j) (sym c.run_line-apart.ensures.2) in
    sym (outcome_disagrees t x at.k i (record {
      line_below = less;
      earlier_follow = at.invariant.3;
      bit_below = omega arith;
      disagrees_here = apart i ∙ sym c.bit.ensures ∙ c.if-bit.true;
      lower_agree = λ j l. apart j ∙ c.bits.invariant j l;
    }))
