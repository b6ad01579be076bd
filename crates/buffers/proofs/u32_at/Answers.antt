-- `buffers::u32_at` meets its contract: four bytes are two numbers of two bytes, by `number_add`. Assumes nothing.
use native.Mathlib.Omega.{arith}
use borrow.Author.Rules.{rules}
use Rattle.buffers.proofs.LittleEndian.{number_add}
use Rattle.buffers.proofs.u32_at.Goals as goal

pub returns : goal.returns
returns c =
    let a = c.args in
    (omega (arith, number_add 2 2 a.s.now a.at), search rules)
