-- The limit on the places of any shelf; src/room.rt cites it. Assumes nothing.
use Rattle.std.specs.Prelude.{ℕ, min}

abbrev pub most_places : ℕ
most_places = 4096

-- how many places are used where memory has so many
abbrev pub room_of : ℕ → ℕ
room_of n = min n most_places
