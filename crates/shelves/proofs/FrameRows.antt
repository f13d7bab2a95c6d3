-- Frames in a row of bytes: where one lies, how many values they mean, one more, and the one at a place.
use Rattle.std.proofs.Common.{◌≡◌, ℕ, suc, ◌+◌, ◌-◌, ◌*◌, ◌/◌, ◌<◌, ◌≤◌, min, List, [], ◌∷◌, ◌++◌, map, length, take, drop, Some, Ok, unwrap_or, sym, ap, ◌∙◌, mul-le-mul_right, suc-mul, div-mul-le_self, arith}
use Rattle.std.proofs.lemmas.List.FromFn.{length-map-range_with_len, get_or-map-range_with_len, map-range_with_len_more, fill_by_all}
use Rattle.std.proofs.lemmas.List.{length-append, length-take-le, length-drop, append_assoc, take_at, drop_at, take-append-le, drop-append-le, take-take, drop-take}
use Rattle.std.proofs.lemmas.Option.{slice_get-get_or}
use Rattle.std.specs.List.{range_with_len}
use Rattle.std.specs.Option.{ok_or}
use Rattle.encoding.specs.Bytes.{little_endian}
use Rattle.encoding.specs.Frames.{frame, frame_head}
use Rattle.values.specs.declared.value.Value.{Ghosts as Kind}
use Rattle.shelves.specs.Adding.{fetched}
use Rattle.shelves.specs.FramedBytes.{frame_size, frames_in, value_in_frame, values_in, with_frame}
use Rattle.shelves.specs.Room.{room_of}
use Rattle.shelves.specs.declared.fault.ShelfFault.TheVariants.{NoSuchPlace}

-- a frame that there is room for lies within the bytes
pub within : (size n k : ℕ) → k < room_of (n / size) → k * size + size ≤ n
within size n k h =
    let q : suc k ≤ n / size = omega arith in
    omega (arith, suc-mul k size, mul-le-mul_right size q, div-mul-le_self n size)

-- an earlier frame ends before a later one begins
earlier : (size k n : ℕ) → k < n → k * size + size ≤ n * size
earlier size k n h = omega (arith, suc-mul k size, mul-le-mul_right size h)

-- a part that lies in the front of a list
part_before : (xs ys : List ℕ) (j w a : ℕ) → j + w ≤ a → a ≤ length xs → take w (drop j (take a xs ++ ys)) ≡ take w (drop j xs)
part_before xs ys j w a h l =
    let n : length (take a xs) ≡ a = length-take-le a xs l in
    let m : j + (a - j) ≡ a = omega arith in
    let cut : drop j (take a xs) ≡ take (a - j) (drop j xs) = ap (λ x. drop j (take x xs)) (sym m) ∙ drop-take j (a - j) xs in
    ap (take w) (drop-append-le j (take a xs) ys (omega arith))
    ∙ take-append-le w (drop j (take a xs)) ys (omega (arith, length-drop j (take a xs)))
    ∙ ap (take w) cut
    ∙ take-take w (a - j) (drop j xs) (omega arith)

-- the body of the frame behind a front
part_in : (ps hs bs cs : List ℕ) (j w : ℕ) → length ps + length hs ≡ j → length bs ≡ w → take w (drop j (ps ++ ((hs ++ bs) ++ cs))) ≡ bs
part_in ps hs bs cs j w e f =
    ap (λ x. take w (drop j (ps ++ x))) (append_assoc hs bs cs)
    ∙ ap (λ x. take w (drop j x)) (sym (append_assoc ps hs (bs ++ cs)))
    ∙ ap (take w) (drop_at (ps ++ hs) (bs ++ cs) j (omega (arith, length-append ps hs)))
    ∙ take_at bs cs w f

module _ {V C : Type 0} (kind : Kind V C) where
  pub length_values : (n : ℕ) (bs : List ℕ) → length (values_in kind n bs) ≡ min n (frames_in kind (length bs))
  length_values n bs = length-map-range_with_len (value_in_frame kind bs) 0 (min n (frames_in kind (length bs)))

  pub fetched_value : (n : ℕ) (bs : List ℕ) (i : ℕ) → i < min n (frames_in kind (length bs)) → fetched (values_in kind n bs) i ≡ Ok (value_in_frame kind bs i)
  fetched_value n bs i h =
      ap (λ o. ok_or o NoSuchPlace) (slice_get-get_or (values_in kind n bs) i kind.fallback (omega (arith, length_values n bs))
      ∙ ap (λ x. Some x) (get_or-map-range_with_len (value_in_frame kind bs) 0 (min n (frames_in kind (length bs))) i i kind.fallback h (omega arith)))

  -- a frame behind the first n: as many bytes, the same values, and the frame's
  pub values_more : (n : ℕ) (bs : List ℕ) (v : V) (new : List ℕ) → n < frames_in kind (length bs) → length (kind.bytes v) ≡ kind.WIDTH → kind.parsed (kind.bytes v) ≡ Some v
      → new ≡ with_frame kind bs n v
      → (length new ≡ length bs) × (values_in kind (n + 1) new ≡ values_in kind n bs ++ v ∷ [])
  values_more n bs v new h e p f =
      let w = kind.WIDTH in
      let s = frame_size kind in
      let body = kind.bytes v in
      let framed = frame kind.KIND body in
      let end : n * s + s ≤ length bs = within s (length bs) n h in
      let front : length (take (n * s) bs) ≡ n * s = length-take-le (n * s) bs (omega arith) in
      let rest : length (drop (n * s + s) bs) ≡ length bs - (n * s + s) = length-drop (n * s + s) bs in
      let len : length new ≡ length bs = ap length f ∙ simp length-append (omega (arith, front, rest, end, e)) in
      let mid : take w (drop (n * s + frame_head) new) ≡ body =
      ap (λ x. take w (drop (n * s + frame_head) x)) f
      ∙ part_in (take (n * s) bs) (little_endian 4 (2 + length body) ++ little_endian 2 kind.KIND) body (drop (n * s + s) bs) (n * s + frame_head) w (omega arith) e in
      let here : value_in_frame kind new n ≡ v = ap (λ x. unwrap_or (kind.parsed x) kind.fallback) mid ∙ ap (λ o. unwrap_or o kind.fallback) p in
      let there : (k : ℕ) → k < n → value_in_frame kind new k ≡ value_in_frame kind bs k =
      λ k l. ap (λ x. unwrap_or (kind.parsed x) kind.fallback) (ap (λ x. take w (drop (k * s + frame_head) x)) f
      ∙ part_before bs (framed ++ drop (n * s + s) bs) (k * s + frame_head) w (n * s) (omega (arith, earlier s k n l)) (omega arith)) in
      let same : map (value_in_frame kind bs) (range_with_len 0 n) ≡ map (value_in_frame kind new) (range_with_len 0 n) =
      fill_by_all (value_in_frame kind new) (map (value_in_frame kind bs) (range_with_len 0 n)) n kind.fallback
      (length-map-range_with_len (value_in_frame kind bs) 0 n)
      (λ k l. get_or-map-range_with_len (value_in_frame kind bs) 0 n k k kind.fallback l (omega arith) ∙ sym (there k l)) in
      let more : min (n + 1) (frames_in kind (length new)) ≡ n + 1 = omega (arith, ap (frames_in kind) len) in
      let less : min n (frames_in kind (length bs)) ≡ n = omega arith in (
        len,
        ap (λ x. map (value_in_frame kind new) (range_with_len 0 x)) more
            ∙ map-range_with_len_more (value_in_frame kind new) 0 n n (omega arith)
            ∙ ap (λ x. x ++ value_in_frame kind new n ∷ []) (sym same)
            ∙ ap (λ y. map (value_in_frame kind bs) (range_with_len 0 n) ++ y ∷ []) here
            ∙ ap (λ x. map (value_in_frame kind bs) (range_with_len 0 x) ++ v ∷ []) (sym less),
      )
