-- Literals, clauses and lists of numbers that spell them, and what satisfies them (document 01, "Clauses").
use Rattle.std.specs.Prelude.{ℕ, zero, suc, ◌-◌, Bool, true, false, not, ◌&&◌, ◌||◌, List, [], ◌∷◌, ◌++◌, get_or, ℤ, pos, negsuc}

-- An assignment gives every variable, from 1 on, the value 0 or 1: the value of variable k.
abbrev pub variable : List Bool → ℕ → Bool
variable a k = get_or a (k - 1) false

-- A literal is true where its variable is 1, or, if negated, where its variable is 0.
unfoldable pub holds : (ℕ → Bool) → ℤ → Bool
holds v (pos k) = v k
holds v (negsuc k) = not (v (suc k))

-- An assignment satisfies a clause if at least one of its literals is true,
unfoldable pub some_holds : (ℕ → Bool) → List ℤ → Bool
some_holds v [] = false
some_holds v (l ∷ ls) = holds v l || some_holds v ls

-- and clauses if it satisfies each.
unfoldable pub all_hold : (ℕ → Bool) → List (List ℤ) → Bool
all_hold v [] = true
all_hold v (c ∷ cs) = some_holds v c && all_hold v cs

-- A literal list is followed by 0: the numbers of a list of clauses,
unfoldable pub numbers : List (List ℤ) → List ℤ
numbers [] = []
numbers (c ∷ cs) = c ++ (pos zero ∷ numbers cs)

-- and the clauses of a list of numbers, read 0 by 0; `begun` has the literals since the last 0.
unfoldable pub clauses_from : List ℤ → List ℤ → List (List ℤ)
clauses_from begun [] = []
clauses_from begun (pos zero ∷ ns) = begun ∷ clauses_from [] ns
clauses_from begun (pos (suc k) ∷ ns) = clauses_from (begun ++ (pos (suc k) ∷ [])) ns
clauses_from begun (negsuc k ∷ ns) = clauses_from (begun ++ (negsuc k ∷ [])) ns

unfoldable pub clauses_of : List ℤ → List (List ℤ)
clauses_of ns = clauses_from [] ns

-- whether all clauses of a list of numbers are satisfied
unfoldable pub satisfies : (ℕ → Bool) → List ℤ → Bool
satisfies v ns = all_hold v (clauses_of ns)
