-- The last number below a bound that passes a test.
use Rattle.std.specs.Prelude.{ℕ, zero, suc, Bool, cond}

-- one more than the last number below the bound that passes; 0 where none does
unfoldable pub past_last : ℕ → (ℕ → Bool) → ℕ
past_last zero p = 0
past_last (suc b) p = cond (p b) (suc b) (past_last b p)
