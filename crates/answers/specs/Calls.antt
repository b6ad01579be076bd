-- What a call on a sheet that writes comes to (document 01, "Questions, in order").
use Rattle.std.specs.Prelude.{ℕ, cond, List, [], length, take}
use Rattle.buffers.specs.Overwrite.{overwrite}
use Rattle.sheet.specs.Asking.{Question, all_yes, Verdict, verdict}
use Rattle.sheet.specs.Asking.Verdict.{accepted, refused}

-- its answer, and the lent buffer afterwards
pub record Call (A : Type 0) : Type 0 where
  pub answer : Verdict ℕ
  pub buffer : List A

-- A refusal returns number and place and changes no lent byte. Success writes the answer's bytes or numbers from the buffer's
-- start and leaves the rest, and answers how many they are.
unfoldable pub writing : {A : Type 0} → List Question → List A → List A → Call A
writing asks values out = record {
  answer = verdict asks (length values);
  buffer = cond (all_yes asks) (overwrite 0 values out) out;
}

-- what a call wrote: as many bytes or numbers from the buffer's start as its answer says
abbrev pub written_as : {A : Type 0} → Verdict ℕ → List A → List A
written_as (accepted n) buffer = take n buffer
written_as (refused number place) buffer = []

abbrev pub written : {A : Type 0} → Call A → List A
written c = written_as c.answer c.buffer
