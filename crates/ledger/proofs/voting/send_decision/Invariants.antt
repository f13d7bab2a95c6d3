use Rattle.std.proofs.Common.{◌≡◌, ◌++◌, map, length, take, drop}
use Rattle.ledger.specs.Delivering.{decision_waits}
use Rattle.ledger.proofs.voting.send_decision.Given as goal

-- the offices that were passed are told
abbrev pub invariant-loop-exchange : goal.invariant-loop-exchange
invariant-loop-exchange l =
    (length l.exchanges ≡ 8) ×
    (l.exchanges ≡ map (decision_waits l.outcome) (take l.exchange-index l.initial.exchanges) ++ drop l.exchange-index l.initial.exchanges)
