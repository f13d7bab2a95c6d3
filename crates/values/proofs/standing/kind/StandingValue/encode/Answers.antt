use Rattle.std.proofs.Common.{rules}
use Rattle.encoding.proofs.Parts.{after_first}
use Rattle.values.specs.StandingLaws.{bytes_are}
use Rattle.values.proofs.standing.kind.StandingValue.encode.Goals as goal

pub returns-clause-written : goal.returns-clause-written
returns-clause-written c = search (rules, bytes_are, after_first)
