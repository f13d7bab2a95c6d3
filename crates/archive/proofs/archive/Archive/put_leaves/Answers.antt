use Rattle.std.proofs.Common.{length, sym, ◌∙◌}
use Rattle.history.specs.Layout.{coding}
use Rattle.ledger.proofs.Views.{no_table_row}
use Rattle.archive.proofs.Outputs.{rest_put, turn_with_leaf, turn_without, rows_end, complete_at}
use Rattle.archive.proofs.archive.Archive.put_leaves.Goals as goal
use Rattle.archive.proofs.archive.Archive.put_leaves.Goals.{then-has_leaf, else-has_leaf}

-- the row that is written is the row of this turn, and its job is answered
pub put_leaf-requires : goal.put_leaf-requires
put_leaf-requires g c =
    complete_at (length (g.S.Shelf.items c.args.self.now.shelf.now)) c.args.self.now.ledger.now.rows c.loop-job.job no_table_row c.loop-job-test.true c.args.self.now.complete
    (sym c.has_leaf.ensures ∙ c.if-has_leaf.true)

pub loop-job-preserved : goal.loop-job-preserved
loop-job-preserved g c =
    let m = coding g.S.Value.Value in
    let items = g.S.Shelf.items c.args.self.now.shelf.now in
    let rows = c.args.self.now.ledger.now.rows in
    let i = c.loop-job.job in
    let whole = rest_put m items rows 0 c.args.cursor.now in
    elim c.if-has_leaf.branch [
      | then-has_leaf w ↦
          turn_with_leaf m items rows i no_table_row c.loop-job.cursor c.loop-job-test.true w.put_leaf.new.cursor _ whole w.cursor-is
          (sym c.has_leaf.ensures ∙ w.if-has_leaf.true) w.put_leaf.ensures c.loop-job.invariant
      | else-has_leaf w ↦
          turn_without m items rows i no_table_row c.loop-job.cursor c.loop-job-test.true _ whole w.cursor-is (sym c.has_leaf.ensures ∙ w.if-has_leaf.false) c.loop-job.invariant
    ]

pub returns : goal.returns
returns g c = rows_end (coding g.S.Value.Value) (g.S.Shelf.items c.args.self.now.shelf.now) c.args.self.now.ledger.now.rows c.loop-job.job _ _ c.loop-job-test.false c.loop-job.invariant
