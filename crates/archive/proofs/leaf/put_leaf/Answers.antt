use Rattle.std.proofs.Common.{ap, ◌∙◌}
use Rattle.history.specs.Layout.{coding}
use Rattle.history.proofs.ValueLaws.{lawful}
use Rattle.ledger.specs.View.{row_view}
use Rattle.archive.specs.Sizes.{row_size}
use Rattle.archive.proofs.Outputs.{leaf_put}
use Rattle.archive.proofs.leaf.put_leaf.Goals as goal

pub returns : goal.returns
returns g c =
    let m = g.S.Value.Value in
    let x = row_view c.args.row.now in
    leaf_put (coding m) (g.S.Shelf.items c.args.shelf.now) (lawful m g.met.S.Value.Value.bytes_width g.met.S.Value.Value.parsed_bytes) c.args.job x c.requires
    c.leaf_size-size.result c.frame_kind.result c.len.result c.len-2.result c.to_le_bytes.result c.as_slice.result.now c.as_slice-2.result.now
    c.args.cursor.now c.put_frame_head.new.self c.put_all.new.self c.put.new.self c.put_reads.new.cursor c.put-2.new.self c.put_writes.new.cursor
    (c.leaf_size-size.ensures.value ∙ ap (λ w. row_size w x) c.WIDTH.ensures) c.frame_kind.ensures c.to_le_bytes.ensures c.len.ensures.value c.as_slice.ensures.value c.len-2.ensures.value c.as_slice-2.ensures.value
    c.put_frame_head.ensures c.put_all.ensures c.put.ensures c.put_reads.ensures c.put-2.ensures c.put_writes.ensures
