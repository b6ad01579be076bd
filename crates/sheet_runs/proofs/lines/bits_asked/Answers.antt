-- No bit of 0 is a one, and past the last bit there is none to ask for.
use native.Mathlib.Omega.{arith}
use mathlib.Core.Path.{ap, ◌∙◌}
use Prim.Native.Nat.{ℕ}
use Rattle.words.specs.Words.{bit}
use Rattle.words.proofs.Bits.{bit_none}
use Rattle.sheet_runs.proofs.lines.bits_asked.Goals as goal

pub returns-then-apart-eq0 : goal.returns-then-apart-eq0
returns-then-apart-eq0 c = (omega arith, record { none = λ j l less. ap (λ (a : ℕ). bit a j) (omega arith) ∙ bit_none j })

pub returns : goal.returns
returns c = (omega arith, record { none = λ j l less. absurd (omega arith) })
