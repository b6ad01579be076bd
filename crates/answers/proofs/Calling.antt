-- What a call on a sheet comes to, from what reading answered: laws for the calls of other crates, and rules for `search`.
use Prim.Native.Nat.{ℕ, ◌<◌, ◌≤◌}
use native.Mathlib.Nat.{zero-add}
use native.Mathlib.Omega.{arith}
use mathlib.Core.Path.{◌≡◌, refl, sym, ap, ap₂, subst, ◌∙◌}
use mathlib.Core.Bool.{Bool, true, false, ◌&&◌, cond}
use mathlib.Core.List.{List, [], ◌++◌, append-nil}
use borrow.Author.Tests.{lt-ltb, le-ltb, le-leb, lt-leb}
use lib.Dec.{leb, ltb}
use lib.ListN.{length, take, drop}
use lib.Seq.{take_at}
use Rattle.buffers.specs.Overwrite.{overwrite, Wrote}
use Rattle.buffers.proofs.Overwrite.{take_overwrite, drop_overwrite}
use Rattle.sheet.specs.Asking.{Question, all_yes, Verdict, verdict}
use Rattle.sheet.specs.Asking.Verdict.{accepted, refused}
use Rattle.sheet.specs.Fields.{header_of}
use Rattle.sheet.specs.Questions.{questions}
use Rattle.answers.specs.Answers.{number_of, place_of, answer_means, reading_means, count_means}
use Rattle.answers.specs.Calls.{writing, written_as, written as written-by}
use Rattle.sheet.specs.Facts.{SheetRead}
use Rattle.sheet.specs.declared.Header.{Header}
use Rattle.answers.specs.declared.Refusal.{Refusal}
use Rattle.sheet.specs.declared.Mode.TheVariants.{Read}
use Rattle.std.specs.Prelude.{Result, Ok, Err, IsErrAnd}
use Rattle.sheet.proofs.Asking.{yes_append, go_on, stop, verdict_yes, yes_verdict, no_verdict, comes}
use Rattle.sheet.proofs.Asking.Comes.{done, yes, no}
use Rattle.sheet.proofs.WellFormed.{has_read}

-- a stage that refuses: the call refuses with the same number and place, whatever else it asks
pub refused_by_stage : (qs own : List Question) (h : Header) {A : Type 0} (a : A) (r : Result Header Refusal) (v w : Refusal)
    → reading_means r ≡ verdict qs h → r ≡ Err v → w ≡ v → refused (number_of w) (place_of w) ≡ verdict (qs ++ own) a
refused_by_stage qs own h a r v w told e d =
    ap (λ (x : Refusal). refused (number_of x) (place_of x)) d ∙ sym (stop qs own h a (sym told ∙ ap reading_means e))

-- ---- a refusal that a call hands on by `?`

-- it means the same number and place, whatever the call would have answered,
pub same_refusal : {A B : Type 0} (f : A → B) (x : Result A Refusal) (e : Refusal) → IsErrAnd x (λ w. w ≡ e)
    → answer_means f x ≡ refused (number_of e) (place_of e)
same_refusal f (Ok a) e is = absurd is
same_refusal f (Err w) e is = ap (λ (r : Refusal). refused (number_of r) (place_of r)) is

-- and whatever else it asks
pub refuses_too : {A B : Type 0} (qs own : List Question) (a : A) (b : B) {n p : ℕ} → refused n p ≡ verdict qs a
    → refused n p ≡ verdict (qs ++ own) b
refuses_too qs own a b e = sym (stop qs own a b (sym e))

pub hands_on : {A B C : Type 0} (f : A → B) (qs own : List Question) (c : C) (b : B) (x : Result A Refusal) (e : Refusal)
    → IsErrAnd x (λ w. w ≡ e) → refused (number_of e) (place_of e) ≡ verdict qs c → answer_means f x ≡ verdict (qs ++ own) b
hands_on f qs own c b x e is told = same_refusal f x e is ∙ refuses_too qs own c b told

-- ---- what reading answered

module _ (s : List ℕ) where
  -- a sheet that reading refuses
  pub refused_by_reading : {A B : Type 0} (f : A → B) (own : List Question) (b : B) (x : Result A Refusal) (e : Refusal)
      → IsErrAnd x (λ w. w ≡ e) → refused (number_of e) (place_of e) ≡ verdict (questions Read s) (header_of s)
      → answer_means f x ≡ verdict (questions Read s ++ own) b
  refused_by_reading f own b x e is told =
      same_refusal f x e is ∙ refused_by_stage (questions Read s) own (header_of s) b (Err e) e e told refl refl

  -- the same of a call with no questions of its own
  pub refused_alone : {A B : Type 0} (f : A → B) (b : B) (x : Result A Refusal) (e : Refusal)
      → IsErrAnd x (λ w. w ≡ e) → refused (number_of e) (place_of e) ≡ verdict (questions Read s) (header_of s)
      → answer_means f x ≡ verdict (questions Read s) b
  refused_alone f b x e is told = refused_by_reading f [] b x e is told ∙ ap (λ qs. verdict qs b) (append-nil (questions Read s))

  module _ {h : Header} (read : accepted h ≡ verdict (questions Read s) (header_of s)) where
    -- what reading settles where it accepts
    pub was_read : SheetRead s h
    was_read = let yes = yes_verdict (questions Read s) (header_of s) h (sym read) in has_read s h yes.0 yes.1

    -- the call's own questions are asked,
    pub asks_own : {A : Type 0} (own : List Question) (a : A) {v : Verdict A} → v ≡ verdict own a → v ≡ verdict (questions Read s ++ own) a
    asks_own own a e = e ∙ sym (go_on (questions Read s) own a was_read.accepted)

    -- and a call that has none is answered
    pub asks_none : {A : Type 0} (a : A) {b : A} → b ≡ a → accepted b ≡ verdict (questions Read s) a
    asks_none a e = ap accepted e ∙ sym (verdict_yes (questions Read s) a was_read.accepted)

    -- the line number is held against the parts that reading gave
    pub line_past : (k : ℕ) → h.lines ≤ k → ltb k (header_of s).lines ≡ false
    line_past k l = subst (λ (g : Header). ltb k g.lines ≡ false) (sym was_read.parts) (le-ltb k h.lines l)

    pub line_there : (k : ℕ) → k < h.lines → ltb k (header_of s).lines ≡ true
    line_there k l = subst (λ (g : Header). ltb k g.lines ≡ true) (sym was_read.parts) (lt-ltb k h.lines l)

-- an answer that a call made
pub given : {A : Type 0} {a b : A} {v : Verdict A} → b ≡ a → accepted a ≡ v → accepted b ≡ v
given e d = ap accepted e ∙ d

-- the room is held against a need that was measured
pub too_short : (need most room : ℕ) → need ≡ most → room < need → leb most room ≡ false
too_short need most room e l = lt-leb most room (omega arith)

pub long_enough : (need most room : ℕ) → need ≡ most → need ≤ room → leb most room ≡ true
long_enough need most room e l = le-leb most room (omega arith)

pub ruleset calling = (
  refused_by_reading,
  refused_alone,
  was_read,
  asks_own,
  asks_none,
  line_past,
  line_there,
  given,
  comes,
  yes,
  no,
  done,
  le-leb,
  lt-leb,
  too_short,
  long_enough,
)

-- ---- what a call that writes leaves

-- questions that are answered with yes leave the others to decide
pub after_yes : {A : Type 0} (xs ys : List Question) (values out : List A) → all_yes xs ≡ true → writing (xs ++ ys) values out ≡ writing ys values out
unfolding writing
after_yes xs ys values out passed =
    let answer = go_on xs ys (length values) passed in
    let all : all_yes (xs ++ ys) ≡ all_yes ys = yes_append xs ys ∙ ap (λ (t : Bool). t && all_yes ys) passed in
    λ i. record { answer = answer i; buffer = cond (all i) (overwrite 0 values out) out }

module _ {A : Type 0} (asks : List Question) (values out : List A) where
  -- a refusal changes nothing
  pub kept : {n p : ℕ} → refused n p ≡ verdict asks (length values)
      → (refused n p ≡ (writing asks values out).answer) × (out ≡ (writing asks values out).buffer)
  unfolding writing
  kept e = (e, ap (λ t. cond t (overwrite 0 values out) out) (sym (no_verdict asks (length values) (sym e))))

  -- nor does one that is handed on by `?`
  pub kept_too : (x : Result ℕ Refusal) (e : Refusal) → IsErrAnd x (λ w. w ≡ e)
      → refused (number_of e) (place_of e) ≡ verdict asks (length values)
      → (count_means x ≡ (writing asks values out).answer) × (out ≡ (writing asks values out).buffer)
  unfolding writing
  kept_too x e is told = let k = kept told in (same_refusal (λ n. n) x e is ∙ k.0, k.1)

  -- what was written from the start is counted by the next position
  pub written : {p : ℕ} {after : List A} → Wrote 0 values out p after → accepted (length values) ≡ verdict asks (length values)
      → (accepted p ≡ (writing asks values out).answer) × (after ≡ (writing asks values out).buffer)
  unfolding writing
  written w e = (
    ap accepted (w.next ∙ zero-add (length values)) ∙ e,
    w.now_is ∙ ap (λ t. cond t (overwrite 0 values out) out) (sym (yes_verdict asks (length values) _ (sym e)).0),
  )

-- with yes to all that it asks, a call has written its values
pub written_values : {A : Type 0} (asks : List Question) (values out : List A) → all_yes asks ≡ true → length values ≤ length out
    → written-by (writing asks values out) ≡ values
unfolding writing
written_values asks values out passed room =
    ap₂ written_as (verdict_yes asks (length values) passed) (ap (λ (t : Bool). cond t (overwrite 0 values out) out) passed)
    ∙ ap (λ (n : ℕ). take n (overwrite 0 values out)) (sym (zero-add (length values)))
    ∙ take_overwrite 0 values out (omega arith)

-- A call that was not refused has its values at the buffer's start, and has kept the rest.
module _ {A : Type 0} (asks : List Question) (values out : List A) {n : ℕ} (answered : (writing asks values out).answer ≡ accepted n) where
  pub values_taken : take n (writing asks values out).buffer ≡ values
  unfolding writing overwrite
  values_taken =
      let told = yes_verdict asks (length values) n answered in
      ap (λ (t : Bool). take n (cond t (overwrite 0 values out) out)) told.0 ∙ take_at values _ n told.1

  pub rest_kept : length values ≤ length out → drop n (writing asks values out).buffer ≡ drop n out
  unfolding writing
  rest_kept room =
      let told = yes_verdict asks (length values) n answered in
      ap (λ (t : Bool). drop n (cond t (overwrite 0 values out) out)) told.0
      ∙ drop_overwrite 0 values out (omega arith) n (omega (arith, told.1))

-- and a call that is refused has written nothing
pub written_nothing : {A : Type 0} (asks : List Question) (values out : List A) {n p : ℕ} → verdict asks (length values) ≡ refused n p
    → written-by (writing asks values out) ≡ []
unfolding writing
written_nothing asks values out e = ap (λ (v : Verdict ℕ). written_as v (writing asks values out).buffer) e
