use Rattle.std.proofs.Common.{is_some, ap, ◌∙◌}
use Rattle.ledger.proofs.Positions.{written_found}
use Rattle.ledger.proofs.lookups.is_written.Goals as goal

pub returns : goal.returns
returns c = c.is_some.ensures ∙ ap is_some c.entry_of.ensures ∙ written_found c.args.writes.now c.args.«record»
