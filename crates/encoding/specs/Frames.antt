-- The frame around a body of bytes, and lists with their count in front; byte shelves and archives are made of them. Assumes nothing.
use Rattle.std.specs.Prelude.{ℕ, ◌+◌, List, ◌∷◌, ◌++◌, length}
use Rattle.std.specs.List.{flat_map}
use Rattle.encoding.specs.Bytes.{little_endian}

-- a four-byte length of all that follows it, a two-byte kind, and the body
abbrev pub frame : ℕ → List ℕ → List ℕ
frame kind body = little_endian 4 (2 + length body) ++ (little_endian 2 kind ++ body)

-- the bytes of a frame before its body
abbrev pub frame_head : ℕ
frame_head = 6

-- a count in one byte, and then each element
abbrev pub counted : {X : Type 0} → (X → List ℕ) → List X → List ℕ
counted f xs = length xs ∷ flat_map f xs
