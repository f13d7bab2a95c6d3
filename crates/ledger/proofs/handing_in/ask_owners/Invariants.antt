use Rattle.std.proofs.Common.{◌≡◌, cond, length, take}
use Rattle.std.specs.List.{list_any}
use Rattle.ledger.specs.Delivering.{prepare_waits}
use Rattle.ledger.specs.Offices.{owns}
use Rattle.ledger.specs.Searching.{map_indexed}
use Rattle.ledger.proofs.handing_in.ask_owners.Given as goal

-- the owners of the entries that were passed are asked
abbrev pub invariant-loop-entry : goal.invariant-loop-entry
invariant-loop-entry g l =
    (length l.exchanges ≡ 8) ×
    (l.exchanges ≡ map_indexed (λ o e. cond (list_any (λ x. owns l.offices o (g.E.Entry.record_of x)) (take l.entry-index l.entries)) prepare_waits e) 0 l.initial.exchanges)
