-- What a mark is numbered; `src/job.rt` cites it. Assumes nothing.
use Rattle.std.specs.Prelude.{ℕ}
use Rattle.ledger.specs.declared.job.Mark.{Mark}
use Rattle.ledger.specs.declared.job.Mark.TheVariants.{Conflict, Stale, Full}

abbrev pub mark_number : Mark → ℕ
mark_number Conflict = 1
mark_number Stale = 2
mark_number Full = 3
