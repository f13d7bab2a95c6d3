use Rattle.std.proofs.Common.{arith}
use Rattle.shelves.proofs.FrameRows.{length_values}
use Rattle.shelves.proofs.byte_shelf.ByteShelfShelf.len.Goals as goal

pub returns : goal.returns
returns g c = let s = c.args.self.now in omega (arith, length_values g.V.Value s.len s.bytes.now)
