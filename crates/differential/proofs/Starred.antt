-- Document 01's starred cases at n = 4, as one theorem by computation.
use mathlib.Core.Path.{◌≡◌, refl}
use mathlib.Core.Bool.{xor}
use mathlib.Core.List.{List, [], ◌∷◌, map}
use Prim.Native.Nat.{ℕ}
use Rattle.words.specs.Words.{bit, bit_below, from_bits, sum_modulo}
use Rattle.words.specs.Below.{any, count, total}
use Rattle.trail.specs.Kinds.{kind_of, makes}
use Rattle.differential.specs.declared.Differential.{Differential}
use Rattle.differential.specs.Fits.{fits, fitting}
use Rattle.differential.specs.TwoWords.{clashes, words_impossible, words_weight}
use Rattle.differential.specs.Constant.{halvings, quiet, is_chain, chains, chain_t, chain_p}
use Rattle.differential.specs.Logarithm.{highest_one_below, highest_one, next_four, logarithm}
use Rattle.differential.specs.Weight.{chain_cost, constant_weight}
use Rattle.differential.specs.Report.{Report, report_of}

pub record Case : Type 0 where
  pub differential : Differential
  pub report : Report

-- the report's number, chains, weight in sixteenths, and N
abbrev pub says : ℕ → ℕ → ℕ → ℕ → Report
says number c w n = record { number = number; chains = c; weight = w; fitting = n }

-- kind 6 (a,u,v): the constant, the operand's difference and the result's
abbrev pub constant : ℕ → ℕ → ℕ → Report → Case
constant a u v r = record {
  differential = record {
    width = 4;
    line = record { kind = 6; amount = 0; first = 0; second = 0; constant = a; difference = v };
    first = u;
    second = 0;
  };
  report = r;
}

-- kind 5 (α,β to γ): the operands' differences and the result's
abbrev pub words : ℕ → ℕ → ℕ → Report → Case
words α β γ r = record {
  differential = record {
    width = 4;
    line = record { kind = 5; amount = 0; first = 0; second = 1; constant = 0; difference = γ };
    first = α;
    second = β;
  };
  report = r;
}

abbrev pub cases : List Case
cases =
    constant 0 1 1 (says 3 1 0 16)
    ∷ constant 0 1 3 (says 0 0 0 0)
    ∷ constant 1 1 1 (says 0 0 0 0)
    ∷ constant 1 1 3 (says 3 1 16 8)
    ∷ constant 3 4 4 (says 3 1 32 4)
    ∷ constant 3 4 12 (says 3 1 8 12)
    ∷ constant 5 8 8 (says 3 0 0 16)
    ∷ constant 0 0 0 (says 3 0 0 16)
    ∷ constant 7 0 1 (says 0 0 0 0)
    ∷ words 1 0 1 (says 2 0 16 0)
    ∷ words 8 0 8 (says 2 0 0 0)
    ∷ words 1 1 0 (says 2 0 16 0)
    ∷ words 0 0 1 (says 0 0 0 0)
    ∷ []

pub starred : map (λ (c : Case). report_of c.differential) cases ≡ map (λ (c : Case). c.report) cases
unfolding report_of kind_of fitting fits makes sum_modulo
    any count total bit bit_below from_bits xor
    clashes words_impossible words_weight
    halvings quiet is_chain chains chain_t chain_p highest_one_below highest_one next_four logarithm chain_cost constant_weight
starred = refl
