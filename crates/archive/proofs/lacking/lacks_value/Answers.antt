use Rattle.std.proofs.Common.{◌&&◌, map, sym, ap, ◌∙◌}
use Rattle.history.proofs.Searches.{list_any-map}
use Rattle.ledger.specs.Model.{RowModel, is_answered}
use Rattle.ledger.specs.View.{row_view}
use Rattle.archive.specs.Leaves.{lacks_write, lacks_value}
use Rattle.archive.proofs.lacking.lacks_value.Goals as goal

pub returns : goal.returns
returns g c =
    c.rows_lack.ensures
    ∙ sym (list_any-map (λ (x : RowModel). is_answered x.state && lacks_write c.len.result x.writes) row_view c.args.ledger.now.rows)
    ∙ ap (λ n. lacks_value n (map row_view c.args.ledger.now.rows)) c.len.ensures
