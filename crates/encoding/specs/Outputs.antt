-- Bytes put one after another into a lent buffer; where the buffer ends, no more is put. `src/cursor.rt` cites it. Assumes nothing.
use Rattle.std.specs.Prelude.{ℕ, ◌+◌, cond, List, ◌++◌, length, drop, nat_lt, slice_set}
use Rattle.std.specs.List.{fold}
use Rattle.encoding.specs.declared.cursor.Cursor.{Cursor}

-- a cursor once a byte was put: it holds the same loan, in which the byte stands, and its position is behind the byte
abbrev pub put_byte : Cursor → ℕ → Cursor
put_byte c b = cond (nat_lt c.position (length c.buffer.now)) (record { buffer = record c.buffer { now = slice_set c.buffer.now c.position b }; position = c.position + 1 }) c

-- once several bytes were put
abbrev pub put_bytes : List ℕ → Cursor → Cursor
put_bytes bs c = fold put_byte c bs

-- a buffer with these bytes in front, in the place of as many of its own; it has at least so many
abbrev pub in_front : List ℕ → List ℕ → List ℕ
in_front bs buffer = bs ++ drop (length bs) buffer
