-- What is read. Of the bytes that a system's call brings nothing is known; where a reader tells what it has left, the bytes are those.
use Rattle.std.specs.Prelude.{ℕ, ◌≤◌, ◌<◌, List, length, take, Option, Result, IfOk}
use Rattle.std.specs.Io.KnownBytes.{Consumes, IsAtEnd}

-- as many bytes as the buffer has, at most
abbrev pub Within : {E : Type 0} → ℕ → Result ℕ E → Type 0
Within room r = IfOk r (λ n. n ≤ room)

-- the buffer begins with the bytes that the reader had left; where they do not fill it, the reader is at its end
abbrev pub ReadsFront : {E : Type 0} → Option (List ℕ) → Option (List ℕ) → Result ℕ E → List ℕ → Type 0
ReadsFront old new r buffer = IfOk r (λ n. Consumes old new (take n buffer) × (n < length buffer → IsAtEnd new))
