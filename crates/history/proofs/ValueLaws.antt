-- A kind of value whose bytes come back as the value has different bytes for different values.
use Rattle.std.proofs.Common.{◌≡◌, length, Some, ap}
use Rattle.values.specs.declared.value.Value.{Ghosts as Kind}
use Rattle.history.specs.Layout.{coding}
use Rattle.history.specs.Laws.{Lawful}

pub lawful : {V C : Type 0} (k : Kind V C) → ((v : V) → length (k.bytes v) ≡ k.WIDTH) → ((v : V) → k.parsed (k.bytes v) ≡ Some v) → Lawful (coding k)
lawful k wide back = record { wide = wide; apart = λ v w e. (let a = back v in let b = back w in let m = ap k.parsed e in cc) }
