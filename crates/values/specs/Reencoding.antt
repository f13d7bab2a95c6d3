-- When bytes are decoded and encoded again; src/any_value.rt cites it. Assumes nothing.
use Rattle.std.specs.Prelude.{ℕ, Bool, false, cond, List, length, is_some, ◌==◌}
use Rattle.values.specs.declared.value.Value.{Ghosts as Kind}

-- whether bytes are a value's, and another place has its width
abbrev pub reencodes : {V C : Type 0} → Kind V C → List ℕ → List ℕ → Bool
reencodes kind encoded out = cond (is_some (kind.parsed encoded)) (length out == kind.WIDTH) false
