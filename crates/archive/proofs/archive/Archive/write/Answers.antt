use Rattle.std.proofs.Common.{rules, sym, refl, ap, ◌∙◌}
use Rattle.std.specs.List.{flat_map}
use Rattle.encoding.specs.Outputs.{put_bytes}
use Rattle.encoding.specs.declared.cursor.Cursor.{Cursor}
use Rattle.encoding.proofs.OutputLaws.{put_whole}
use Rattle.history.specs.Layout.{coding, leaf_bytes}
use Rattle.ledger.specs.View.{view}
use Rattle.archive.specs.Leaves.{row_leaves}
use Rattle.archive.proofs.RowLeaves.{count_leaves}
use Rattle.archive.proofs.Outputs.{archive_put}
use Rattle.archive.proofs.archive.Archive.write.Goals as goal

pub returns : goal.returns
returns g c =
    let m = coding g.S.Value.Value in
    let items = g.S.Shelf.items c.args.self.now.shelf.now in
    let rows = (view c.args.self.now.ledger.now).rows in
    let leaves = c.put_leaves.ensures ∙ ap (put_bytes (flat_map (leaf_bytes m) (row_leaves items 0 rows))) c.put_head.ensures in
    let whole = leaves ∙ archive_put m items c.leaf_count.result rows _ (c.leaf_count.ensures.value ∙ sym (count_leaves items 0 rows)) in
    let front = whole ∙ put_whole _ _ refl c.requires in
    let name = ap (λ (k : Cursor). k.buffer.ghost_name) front in
    let now = ap (λ (k : Cursor). k.buffer.now) front in
    search (rules, name, now)
