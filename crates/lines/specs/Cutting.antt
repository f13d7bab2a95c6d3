-- The bytes of an input that are looked at, and its lines: what src/cut.rt and src/lines.rt give. Assumes nothing.
use Rattle.std.specs.Prelude.{ℕ, cond, List, [], ◌∷◌, ◌==◌}

-- the code of a newline
abbrev pub newline : ℕ
newline = 10

-- so many bytes of an input are looked at
abbrev pub most_input : ℕ
most_input = 65536

-- b at the front of the first line
abbrev pub onto : ℕ → List (List ℕ) → List (List ℕ)
onto b [] = (b ∷ []) ∷ []
onto b (l ∷ ls) = (b ∷ l) ∷ ls

-- a newline ends a line, and what stands behind the last newline is a line too
abbrev pub lines_of : List ℕ → List (List ℕ)
lines_of [] = []
lines_of (b ∷ s) = cond (b == newline) ([] ∷ lines_of s) (onto b (lines_of s))
