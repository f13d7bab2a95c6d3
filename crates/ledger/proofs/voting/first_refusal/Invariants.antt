use Rattle.std.proofs.Common.{◌≡◌, drop}
use Rattle.ledger.specs.Delivering.{first_refusal}
use Rattle.ledger.proofs.voting.first_refusal.Given as goal

-- the exchanges that are left answer for all
abbrev pub invariant-loop-exchange : goal.invariant-loop-exchange
invariant-loop-exchange l = first_refusal (drop l.exchange-index l.exchanges) ≡ first_refusal l.exchanges
