use Rattle.std.proofs.Common.{◌≡◌, [], ◌∷◌, drop}
use Rattle.std.specs.List.{flat_map}
use Rattle.encoding.specs.Outputs.{put_bytes}
use Rattle.history.specs.Layout.{coding, write_bytes}
use Rattle.archive.specs.Leaves.{leaf_writes}
use Rattle.archive.proofs.leaf.put_writes.Given as goal

-- the writes that are left make of the cursor what all make of it at the start
abbrev pub invariant-loop-write : goal.invariant-loop-write
invariant-loop-write g l =
    put_bytes (flat_map (λ w. flat_map (write_bytes (coding g.S.Value.Value)) (leaf_writes (g.S.Shelf.items l.shelf) (w ∷ []))) (drop l.write-index l.writes)) l.cursor
    ≡ put_bytes (flat_map (λ w. flat_map (write_bytes (coding g.S.Value.Value)) (leaf_writes (g.S.Shelf.items l.shelf) (w ∷ []))) l.writes) l.initial.cursor
