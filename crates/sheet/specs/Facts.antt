-- What the code's inner functions may count on: facts that the questions before them have settled. No call that users make
-- requires any of these.
use Rattle.std.specs.Prelude.{ℕ, ◌+◌, ◌*◌, ◌/◌, ◌≤◌, ◌≡◌, List, length}
use Rattle.trail.specs.Trail.{input_count, line_count}
use Rattle.trail.specs.WellFormed.{WellFormed}
use Rattle.sheet.specs.Form.{width_most, blocks_most}
use Rattle.sheet.specs.Blocks.{block_bytes, length_most}
use Rattle.sheet.specs.Fields.{header_of, trail_of}
use Rattle.sheet.specs.Questions.{line_blocks}
use Rattle.sheet.specs.Questions.{IsAccepted}
use Rattle.sheet.specs.declared.Header.{Header}

-- what question 1 settles, which is asked before the form is known
pub record Whole (s : List ℕ) (h : Header) : Type 0 where
  pub whole : length s ≡ block_bytes * h.blocks
  pub blocks_least : 2 ≤ h.blocks
  pub blocks_most : h.blocks ≤ length_most / block_bytes

-- what questions 4 to 6 settle
pub record Limited (h : Header) : Type 0 where
  pub width_least : 2 ≤ h.width
  pub width_most : h.width ≤ width_most h.form
  pub inputs_least : 1 ≤ h.inputs
  pub inputs_most : h.inputs ≤ 8
  pub lines_least : 1 ≤ h.lines
  pub lines_most : h.lines ≤ 248
  pub enough : h.blocks ≡ 1 + line_blocks h.form h.lines
  pub blocks_most : h.blocks ≤ blocks_most h.form

-- what reading an accepted sheet settles: its parts are h, and what follows from the questions for the code above
pub record SheetRead (s : List ℕ) (h : Header) : Type 0 where
  pub accepted : IsAccepted s
  pub parts : header_of s ≡ h
  pub blocks : Whole s h
  pub limits : Limited h
  pub well_formed : WellFormed (trail_of s)
  pub width : (trail_of s).width ≡ h.width
  -- while no form has wider words
  pub width_most : h.width ≤ 32
  pub inputs : input_count (trail_of s) ≡ h.inputs
  pub lines : line_count (trail_of s) ≡ h.lines
