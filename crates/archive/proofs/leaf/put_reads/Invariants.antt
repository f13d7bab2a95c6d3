use Rattle.std.proofs.Common.{◌≡◌, drop}
use Rattle.std.specs.List.{flat_map}
use Rattle.encoding.specs.Outputs.{put_bytes}
use Rattle.history.specs.Layout.{read_bytes}
use Rattle.archive.proofs.leaf.put_reads.Given as goal

-- the reads that are left make of the cursor what all make of it at the start
abbrev pub invariant-loop-read : goal.invariant-loop-read
invariant-loop-read l = put_bytes (flat_map read_bytes (drop l.read-index l.reads)) l.cursor ≡ put_bytes (flat_map read_bytes l.reads) l.initial.cursor
