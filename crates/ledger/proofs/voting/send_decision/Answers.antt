use Rattle.std.proofs.Common.{rules}
use Rattle.std.proofs.lemmas.List.Edits.{map_over_more}
use Rattle.std.proofs.lemmas.List.{take_all, drop_all, get_or_default, length-set}
use Rattle.ledger.specs.Delivering.{decision_waits}
use Rattle.ledger.proofs.voting.send_decision.Goals as goal

pub loop-exchange-preserved : goal.loop-exchange-preserved
loop-exchange-preserved c = search (rules, map_over_more (decision_waits c.args.outcome), get_or_default, length-set)

pub returns : goal.returns
returns c = search (rules, take_all, drop_all)
