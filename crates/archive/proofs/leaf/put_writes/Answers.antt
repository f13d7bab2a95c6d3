use Rattle.std.proofs.Common.{rules, ap, ◌∙◌}
use Rattle.encoding.specs.Outputs.{put_bytes}
use Rattle.encoding.proofs.OutputLaws.{each_turn, each_end}
use Rattle.history.specs.Layout.{coding, write_bytes}
use Rattle.archive.proofs.Writes.{joined_leaf_writes}
use Rattle.archive.proofs.leaf.put_writes.Goals as goal

pub loop-write-preserved : goal.loop-write-preserved
loop-write-preserved g c = search (rules, each_turn)

pub returns : goal.returns
returns g c =
    each_end _ _ _ c.args.writes.now c.loop-write.write-index c.loop-write-test.false c.loop-write.invariant
    ∙ ap (λ bs. put_bytes bs c.args.cursor.now) (joined_leaf_writes (write_bytes (coding g.S.Value.Value)) (g.S.Shelf.items c.args.shelf.now) c.args.writes.now)
