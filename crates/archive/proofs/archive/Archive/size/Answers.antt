use Rattle.std.proofs.Common.{◌+◌, filter, sum_by, sym, ap, ◌∙◌}
use Rattle.history.proofs.ValueLaws.{lawful}
use Rattle.history.specs.Layout.{coding}
use Rattle.ledger.specs.View.{row_view}
use Rattle.archive.specs.Sizes.{row_size}
use Rattle.archive.proofs.RowLeaves.{has_leaf, archive_length}
use Rattle.archive.proofs.archive.Archive.size.Goals as goal

pub returns : goal.returns
returns g c =
    let rows = c.args.self.now.ledger.now.rows in
    ap (λ n. 12 + n) (c.leaves_size.ensures ∙ ap (λ w. sum_by (λ x. row_size w (row_view x)) (filter (λ x. has_leaf (row_view x)) rows)) c.WIDTH.ensures)
    ∙ sym (archive_length (g.S.Shelf.items c.args.self.now.shelf.now) (coding g.S.Value.Value) (lawful g.S.Value.Value g.met.S.Value.Value.bytes_width g.met.S.Value.Value.parsed_bytes) rows c.args.self.now.complete)
