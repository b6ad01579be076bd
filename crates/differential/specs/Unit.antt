-- The unit that weights are in, and how a logarithm is taken in it (document 01, "Line reports"). Whatever depends on the unit speaks
-- of these three.
use Rattle.std.specs.Prelude.{ℕ}

-- Weights are in sixteenths of a bit; whole bits become sixteenths "only by times 16".
abbrev pub unit : ℕ
unit = 16

-- "A = 16M + F": what F, the four bits after the highest one, adds to the logarithm. In sixteenths that is F itself.
abbrev pub table : ℕ → ℕ
table f = f

-- Demand 2, "N^16 <= 2^(16n-w+3c)": how many units the truth may be above A, for each chain.
abbrev pub slack : ℕ
slack = 3
