-- What a byte shelf means: the values in its first frames, and what adding leaves in the bytes; src/byte_shelf.rt cites it. Assumes nothing.
use Rattle.std.specs.Prelude.{ℕ, ◌+◌, ◌*◌, ◌/◌, min, List, ◌++◌, map, length, take, drop}
use Rattle.std.specs.List.{range_with_len}
use Rattle.std.specs.Option.{unwrap_or}
use Rattle.encoding.specs.Frames.{frame, frame_head}
use Rattle.values.specs.declared.value.Value.{Ghosts as Kind}
use Rattle.shelves.specs.Adding.{if_full}
use Rattle.shelves.specs.Room.{room_of}
use Rattle.shelves.specs.declared.byte_shelf.ByteShelf.{ByteShelf}

module _ {V C : Type 0} (kind : Kind V C) where
  -- the bytes of a frame of the kind
  abbrev pub frame_size : ℕ
  frame_size = kind.WIDTH + frame_head

  -- how many frames are used in so many bytes
  abbrev pub frames_in : ℕ → ℕ
  frames_in n = room_of (n / frame_size)

  -- the value in the body of the frame at a place, or the spare value where it holds none
  abbrev pub value_in_frame : List ℕ → ℕ → V
  value_in_frame bs place = unwrap_or (kind.parsed (take kind.WIDTH (drop (place * frame_size + frame_head) bs))) kind.fallback

  -- the values in the first n frames, as far as there is room
  abbrev pub values_in : ℕ → List ℕ → List V
  values_in n bs = map (value_in_frame bs) (range_with_len 0 (min n (frames_in (length bs))))

  -- the bytes with the frame of a value at a place, and all others as before
  abbrev pub with_frame : List ℕ → ℕ → V → List ℕ
  with_frame bs place value = take (place * frame_size) bs ++ (frame kind.KIND (kind.bytes value) ++ drop (place * frame_size + frame_size) bs)

  -- how many values there is room for
  abbrev pub byte_room : ByteShelf V C → ℕ
  byte_room s = frames_in (length s.bytes.now)

  abbrev pub byte_items : ByteShelf V C → List V
  byte_items s = values_in s.len s.bytes.now

  -- the lent bytes, once a value was added
  abbrev pub bytes_after_add : ByteShelf V C → V → List ℕ
  bytes_after_add s value = if_full (byte_items s) (byte_room s) s.bytes.now (with_frame s.bytes.now (length (byte_items s)) value)
