use Rattle.std.proofs.Common.{◌≡◌, ◌≤◌, length}
use Rattle.ledger.specs.Searching.{highest}
use Rattle.ledger.specs.Model.{row, is_answered}
use Rattle.ledger.specs.Reading.{newest_answered}
use Rattle.ledger.specs.View.{view}
use Rattle.ledger.proofs.ledger.Ledger.newest_answered.Given as goal

-- no job of the versions that were passed, from the end, is answered
abbrev pub invariant-loop-index : goal.invariant-loop-index
invariant-loop-index l =
    (l.index-iterator.iter.count ≡ 0) × (length l.index-iterator.iter.iter.rest.now ≤ 32) ×
    (newest_answered (view l.self) l.«record» ≡ highest (λ v. is_answered (row (view l.self) v.job).state) l.index-iterator.iter.iter.rest.now)
