-- What inner functions of the code cite.
use Rattle.std.specs.Prelude.{ℕ, ◌^◌, ◌<◌, ◌≡◌, not}
use Rattle.words.specs.Words.{bit}
use Rattle.differential.specs.Constant.{state, is000, is_chain}

-- a word's ones stand at the positions, of 64, whose state is not 000
pub record Not000 (u v w : ℕ) : Type 0 where
  pub each : (i : ℕ) → i < 64 → bit w i ≡ not (is000 (state u v i))

-- a word's ones stand at the positions below n where a chain ends
pub record ChainEnds (n u v ends : ℕ) : Type 0 where
  pub each : (i : ℕ) → i < n → bit ends i ≡ is_chain u v i
  pub below : ends < 2 ^ n
