use Rattle.std.proofs.Common.{◌≡◌}
use Rattle.history.specs.Layout.{coding}
use Rattle.archive.proofs.Outputs.{rest_put}
use Rattle.archive.proofs.archive.Archive.put_leaves.Given as goal

-- the rows that are left make of the cursor what all make of it at the start
abbrev pub invariant-loop-job : goal.invariant-loop-job
invariant-loop-job g l =
    rest_put (coding g.S.Value.Value) (g.S.Shelf.items l.self.shelf.now) l.rows l.job l.cursor
    ≡ rest_put (coding g.S.Value.Value) (g.S.Shelf.items l.self.shelf.now) l.rows 0 l.initial.cursor
