use Rattle.std.proofs.Common.{◌<◌, min, rules, arith}
use Rattle.shelves.specs.FramedBytes.{byte_room}
use Rattle.shelves.proofs.FrameRows.{length_values, fetched_value}
use Rattle.shelves.proofs.byte_shelf.ByteShelfShelf.fetch.Goals as goal

pub frame_value-requires : goal.frame_value-requires
frame_value-requires g c = let s = c.args.self.now in omega (arith, length_values g.V.Value s.len s.bytes.now)

pub returns : goal.returns
returns g c =
    let m = g.V.Value in
    let s = c.args.self.now in
    let h : c.args.place < min s.len (byte_room m s) = omega (arith, length_values m s.len s.bytes.now) in
    let found = fetched_value m s.len s.bytes.now c.args.place h in
    search rules
