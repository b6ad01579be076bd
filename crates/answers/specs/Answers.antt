-- What the answers of calls mean: the documents' number and place for a refusal, the value asked for else.
use Rattle.std.specs.Prelude.{ℕ, Result, Ok, Err}
use Rattle.sheet.specs.Asking.{Verdict}
use Rattle.sheet.specs.Asking.Verdict.{accepted, refused}
use Rattle.sheet.specs.declared.Header.{Header}
use Rattle.answers.specs.declared.Refusal.{Refusal}
use Rattle.answers.specs.declared.Refusal.TheVariants.{Length, Check, Mark, Width, Inputs, Lines, InputDifferences, HeaderRest, Kind, LaterOperand, SameOperands, Amount, Constant, Difference, UnusedField, Rest, NoSuchLine, Room, Start, OtherWidth, Names, JoinedLines, SelfXor, Pairs, Replies, NotOwn}
use Rattle.answers.specs.declared.Answer.{Answer}

-- the number of a refusal's question in the documents
abbrev pub number_of : Refusal → ℕ
number_of Length = 1
number_of (Check b) = 2
number_of Mark = 3
number_of Width = 4
number_of Inputs = 5
number_of Lines = 6
number_of InputDifferences = 7
number_of HeaderRest = 8
number_of (Kind k) = 9
number_of (LaterOperand k) = 10
number_of (SameOperands k) = 11
number_of (Amount k) = 12
number_of (Constant k) = 13
number_of (Difference k) = 14
number_of (UnusedField k) = 15
number_of (Rest b) = 16
number_of NoSuchLine = 17
number_of Room = 18
number_of Start = 19
number_of OtherWidth = 20
number_of Names = 21
number_of JoinedLines = 22
number_of (SelfXor k) = 23
number_of Pairs = 24
number_of Replies = 25
number_of NotOwn = 26

-- its place: a block, a line, or 0
abbrev pub place_of : Refusal → ℕ
place_of Length = 0
place_of (Check b) = b
place_of Mark = 0
place_of Width = 0
place_of Inputs = 0
place_of Lines = 0
place_of InputDifferences = 0
place_of HeaderRest = 0
place_of (Kind k) = k
place_of (LaterOperand k) = k
place_of (SameOperands k) = k
place_of (Amount k) = k
place_of (Constant k) = k
place_of (Difference k) = k
place_of (UnusedField k) = k
place_of (Rest b) = b
place_of NoSuchLine = 0
place_of Room = 0
place_of Start = 0
place_of OtherWidth = 0
place_of Names = 0
place_of JoinedLines = 0
place_of (SelfXor k) = k
place_of Pairs = 0
place_of Replies = 0
place_of NotOwn = 0

-- An answer is a value, of which the documents speak by f, or a refusal.
abbrev pub answer_means : {A B : Type 0} → (A → B) → Result A Refusal → Verdict B
answer_means f (Ok a) = accepted (f a)
answer_means f (Err r) = refused (number_of r) (place_of r)

-- what reading, sealing and each of their stages answer
abbrev pub reading_means : Result Header Refusal → Verdict Header
reading_means = answer_means (λ h. h)

-- what a call answers that counts: bytes, numbers or pairs
abbrev pub count_means : Result ℕ Refusal → Verdict ℕ
count_means = answer_means (λ n. n)

-- The struct that crosses to C. A refusal returns number and place, with count 0; an acceptance has 0 and 0, and its count.
abbrev pub answer_of : Verdict ℕ → Answer
answer_of (accepted n) = record { number = 0; place = 0; count = n }
answer_of (refused n p) = record { number = n; place = p; count = 0 }
