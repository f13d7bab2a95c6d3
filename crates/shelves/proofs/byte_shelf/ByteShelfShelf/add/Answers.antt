use Rattle.std.proofs.Common.{◌<◌, rules, arith}
use Rattle.shelves.specs.FramedBytes.{byte_room}
use Rattle.shelves.proofs.FrameRows.{length_values, values_more}
use Rattle.shelves.proofs.byte_shelf.ByteShelfShelf.add.Goals as goal

pub returns-then-place-frames_in : goal.returns-then-place-frames_in
returns-then-place-frames_in g c =
    let s = c.args.self.now in
    let long = length_values g.V.Value s.len s.bytes.now in
    search rules

pub returns : goal.returns
returns g c =
    let m = g.V.Value in
    let s = c.args.self.now in
    let v = c.args.value in
    let long = length_values m s.len s.bytes.now in
    let h : s.len < byte_room m s = omega arith in
    let more = values_more m s.len s.bytes.now v c.put_frame.new.bytes h (g.met.V.Value.bytes_width v) (g.met.V.Value.parsed_bytes v) c.put_frame.ensures in
    search rules
