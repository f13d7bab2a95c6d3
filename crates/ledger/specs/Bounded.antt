-- What a list of bounded length means; `src/bounded.rt` cites it. Assumes nothing.
use Rattle.std.specs.Prelude.{ℕ, List, take}
use Rattle.ledger.specs.declared.bounded.Bounded.{Bounded}

-- the first `len` items; a `len` beyond the last item means all of them
abbrev pub elements : {T : Type 0} {n : ℕ} → Bounded T n → List T
elements b = take b.len b.items
