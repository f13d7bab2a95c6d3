use Rattle.std.proofs.Common.{◌≡◌, drop}
use Rattle.encoding.specs.Outputs.{put_bytes}
use Rattle.encoding.proofs.cursor.Cursor.put_all.Given as goal

-- the bytes that are left make of the cursor what all make of it at the start
abbrev pub invariant-loop-byte : goal.invariant-loop-byte
invariant-loop-byte l = put_bytes (drop l.byte-index l.bytes) l.self ≡ put_bytes l.bytes l.initial.self
