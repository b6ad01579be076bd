-- `word_made` goes by the kind's number: what its arms ask and return is what the row of that number's kind says.
use mathlib.Core.Bool.{cond}
use mathlib.Core.Logic.{inl, inr}
use mathlib.Core.Path.{◌≡◌, refl}
use Prim.Native.Nat.{◌<◌}
use native.Mathlib.Omega.{arith}
use lib.Bits.{bit_xor}
use Rattle.words.specs.Words.{sum_modulo}
use Rattle.trail.specs.Kinds.{kind_of, uses_second, makes_as, makes}
use Rattle.trail.proofs.KindNumbers.{in_range, at_no_kind, last_kind}
use Rattle.line_words.proofs.word_made.Goals as goal

pub returns-in-1-to-2 : goal.returns-in-1-to-2
unfolding makes kind_of
returns-in-1-to-2 c =
    let a = c.args in
    rw c.other_input-in-1-to-2.ensures
    (in_range
    (λ q. bit_xor a.x (cond (uses_second q) a.y a.line.constant) ≡ makes_as q a.n a.line a.x a.y)
    {a = 1} {b = 3} {k = a.line.kind}
    (omega arith)
    (omega arith)
    (refl, (refl, tt)))

pub returns-in-5-to-6 : goal.returns-in-5-to-6
unfolding makes kind_of
returns-in-5-to-6 c =
    let a = c.args in
    rw (c.add.ensures, c.other_input-in-5-to-6.ensures)
    (in_range
    (λ q. sum_modulo a.n a.x (cond (uses_second q) a.y a.line.constant) ≡ makes_as q a.n a.line a.x a.y)
    {a = 5} {b = 7} {k = a.line.kind}
    (omega arith)
    (omega arith)
    (refl, (refl, tt)))

pub returns-in_default : goal.returns-in_default
unfolding makes
returns-in_default c =
    let a = c.args in
    at_no_kind (λ q. 0 ≡ makes_as q a.n a.line a.x a.y) (inl (omega arith)) refl

pub returns-in_default-2 : goal.returns-in_default-2
unfolding makes
returns-in_default-2 c =
    let a = c.args in
    let past : last_kind < a.line.kind = omega arith in
    at_no_kind (λ q. 0 ≡ makes_as q a.n a.line a.x a.y) (inr past) refl
