-- What the calls that write answer: each is an instance of `writing`, and its own questions come after the reading's.
use Prim.Native.Nat.{ℕ, ◌≤◌}
use mathlib.Core.Path.{◌≡◌, sym, ap, ◌∙◌}
use mathlib.Core.Bool.{Bool, true, cond}
use mathlib.Core.List.{List, ◌++◌}
use borrow.Author.Tests.{lt-ltb, le-ltb, le-leb, lt-leb}
use lib.ListN.{length}
use Rattle.buffers.specs.Overwrite.{overwrite}
use Rattle.sheet.specs.Asking.{Question, all_yes, Verdict, verdict}
use Rattle.sheet.specs.Fields.{header_of}
use Rattle.sheet.specs.Questions.{questions, room_questions, IsAccepted}
use Rattle.sheet.specs.declared.Mode.TheVariants.{Read}
use Rattle.sheet.proofs.Asking.{yes_both, yes_one, no_verdict, go_on, stop, Comes, comes}
use Rattle.sheet.proofs.Asking.Comes.{yes, no}
use Rattle.answers.specs.Calls.{writing}
use Rattle.demands.specs.Calls.{OnSheet, CallsAnswer}

-- any call of a sheet's questions and its own
on_sheet : {A : Type 0} (own : List ℕ → List A → List Question) (values : List ℕ → List A)
    → OnSheet (λ s out. writing (questions Read s ++ own s out) (values s) out)
unfolding writing
on_sheet own values = record {
  by_reading = λ s out number place e. stop (questions Read s) (own s out) (header_of s) (length (values s)) e;
  unwritten = λ s out number place e. ap (λ (t : Bool). cond t (overwrite 0 (values s) out) out) (no_verdict (questions Read s ++ own s out) _ e);
}

module _ {A : Type 0} (s : List ℕ) (accepts : IsAccepted s) (own : List Question) (values out : List A) where
  -- what its own questions come to is what the call answers
  own_answer : {v : Verdict ℕ} → Comes own (length values) v → (writing (questions Read s ++ own) values out).answer ≡ v
  unfolding writing
  own_answer told = go_on (questions Read s) own (length values) accepts ∙ sym (comes told)

  own_buffer : all_yes own ≡ true → (writing (questions Read s ++ own) values out).buffer ≡ overwrite 0 values out
  unfolding writing
  own_buffer e = ap (λ (t : Bool). cond t (overwrite 0 values out) out) (yes_both (questions Read s) own accepts e)

has_room : (need room : ℕ) → need ≤ room → all_yes (room_questions need room) ≡ true
has_room need room enough = yes_one _ 18 0 (le-leb need room enough)

pub calls_answer : CallsAnswer
calls_answer = record {
  line_report_on = λ k. on_sheet _ _;
  reports_on = on_sheet _ _;
  totals_on = on_sheet _ _;
  two_runs_on = λ x. on_sheet _ _;
  counts_on = on_sheet _ _;
  line_list_on = λ k. on_sheet _ _;
  line_report = λ s accepts k out. record {
    past_the_last = λ past. own_answer s accepts _ _ out (no (le-ltb _ _ past));
    too_short = λ there short. own_answer s accepts _ _ out (yes (lt-ltb _ _ there) (no (lt-leb _ _ short)));
  };
  reports = λ s accepts out. record { too_short = λ short. own_answer s accepts _ _ out (no (lt-leb _ _ short)) };
  totals = λ s accepts out. record {
    too_short = λ short. own_answer s accepts _ _ out (no (lt-leb _ _ short));
    numbers = λ enough. own_buffer s accepts _ _ out (has_room 3 (length out) enough);
  };
  two_runs = λ s accepts x out. record {
    too_short = λ short. own_answer s accepts _ _ out (no (lt-leb _ _ short));
    no_start = λ enough none. own_answer s accepts _ _ out (yes (le-leb _ _ enough) (no none));
  };
  counts = λ s accepts out. record {
    too_short = λ short. own_answer s accepts _ _ out (no (lt-leb _ _ short));
    numbers = λ enough. own_buffer s accepts _ _ out (has_room 2 (length out) enough);
  };
  line_list = λ s accepts k out. record {
    past_the_last = λ past. own_answer s accepts _ _ out (no (le-ltb _ _ past));
    too_short = λ there short. own_answer s accepts _ _ out (yes (lt-ltb _ _ there) (no (lt-leb _ _ short)));
  };
}
