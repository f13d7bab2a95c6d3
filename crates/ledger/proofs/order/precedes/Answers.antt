use Rattle.std.proofs.Common.{◌∙◌}
use Rattle.ledger.specs.View.{row_view}
use Rattle.ledger.proofs.Preceding.{precedes_by_later}
use Rattle.ledger.proofs.order.precedes.Goals as goal

pub returns-then-listed_count : goal.returns-then-listed_count
returns-then-listed_count c = c.precedes_in_listed.ensures ∙ precedes_by_later (row_view c.args.first.now) (row_view c.args.later.now)
