use Prim.Native.Nat.{◌<◌}
use mathlib.Core.Path.{◌≡◌, sym, ap, ◌∙◌}
use native.Mathlib.Omega.{arith}
use lib.Bits.{bit_xor}
use lib.ListN.{length, get_or}
use Rattle.trail.specs.Trail.{input_count}
use Rattle.trail.specs.Runs.{partner}
use Rattle.trail.proofs.Runs.{run_input, start_length, length_partner, get_or_partner}
use Rattle.trail.proofs.Differences.{difference_input}
use Rattle.sheet.specs.Fields.{trail_of}
use Rattle.sheet_runs.proofs.MadeWords.{made_none, made_next}
use Rattle.sheet_runs.proofs.start.begin.Goals as goal

pub loop-j-init : goal.loop-j-init
loop-j-init c = (made_none _ _ _ c.requires.1, made_none _ _ _ c.requires.2)

pub bounds-first-j : goal.bounds-first-j
bounds-first-j c = omega (arith, start_length _ _ c.requires.0)

pub difference_at-requires : goal.difference_at-requires
difference_at-requires c = omega (arith, start_length _ _ c.requires.0)

pub bounds-second-j : goal.bounds-second-j
bounds-second-j c = omega (arith, start_length _ _ c.requires.0)

pub loop-j-preserved : goal.loop-j-preserved
loop-j-preserved c =
    let at = c.loop-j in
    let s = c.args.sheet.now.bytes.now in
    let x = c.args.start.now in
    let t = trail_of s in
    let among : at.j < length x = omega arith in
    let long : length x ≡ input_count t = start_length t x c.requires.0 in
    let difference = c.difference_at.ensures ∙ difference_input t at.j (omega arith) in
    let second = run_input t (partner t x) at.j (omega (arith, length_partner t x)) ∙ get_or_partner t x at.j among in (
      made_next t x at.j _ at.first (omega arith) at.invariant.0 (sym (run_input t x at.j among)),
      made_next t (partner t x) at.j _ at.second (omega arith) at.invariant.1
          (ap (bit_xor (get_or x at.j 0)) difference ∙ sym second),
    )

pub returns : goal.returns
returns c =
    let at = c.loop-j in
    let all : at.j ≡ c.args.sheet.now.header.inputs = omega (arith, start_length _ _ c.requires.0) in
    (rw all at at.invariant.0, rw all at at.invariant.1)
