use Rattle.std.proofs.Common.{rules}
use lib.Seq.{take-set-lt}
use Rattle.std.proofs.lemmas.List.{length-take}
use Rattle.ledger.proofs.bounded.Bounded.replace.Goals as goal

pub returns : goal.returns
returns g c = search (rules, take-set-lt, length-take)
