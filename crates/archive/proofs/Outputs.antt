-- What writing a leaf, the leaves and the whole archive comes to.
use Rattle.std.proofs.Common.{◌≡◌, ℕ, zero, suc, ◌+◌, ◌-◌, ◌<◌, ◌≤◌, true, false, cond, ◌&&◌, List, [], ◌∷◌, ◌++◌, map, length, get_or, drop, Some, None, sym, ap, ◌∙◌, arith}
use Rattle.std.specs.List.{cons_option, flat_map}
use Rattle.std.proofs.lemmas.List.{at_drop_more, at_drop_all}
use Rattle.encoding.specs.Bytes.{little_endian}
use Rattle.encoding.specs.Frames.{counted}
use Rattle.encoding.specs.Outputs.{put_bytes}
use Rattle.encoding.specs.declared.cursor.Cursor.{Cursor}
use Rattle.encoding.proofs.OutputLaws.{put_append}
use Rattle.ledger.specs.Model.{RowModel, is_answered}
use Rattle.ledger.specs.View.{row_view}
use Rattle.ledger.specs.declared.job.Read.{Read}
use Rattle.ledger.specs.declared.job.Row.{Row}
use Rattle.ledger.specs.declared.job.Write.{Write}
use Rattle.history.specs.Layout.{Coding, leaf_frame, read_bytes, write_bytes, leaf_bytes, head_bytes, archive_bytes}
use Rattle.history.specs.Laws.{Lawful}
use Rattle.history.proofs.Sizes.{length_leaf}
use Rattle.archive.specs.Leaves.{leaf_writes, row_leaf, row_leaves, lacks_write, lacks_value}
use Rattle.archive.specs.Sizes.{row_size}
use Rattle.archive.proofs.Writes.{none_first, length_leaf_writes}
use Rattle.archive.proofs.RowLeaves.{leaf_sized}

module _ {V : Type 0} (C : Coding V) (items : List V) where
  -- a leaf is written as the head of its frame, its job number, and each of the two lists behind its count
  module _ (lawful : Lawful C) (j : ℕ) (x : RowModel) (complete : lacks_write (length items) x.writes ≡ false) where
    pub leaf_put : (size kind m n : ℕ) (job : List ℕ) (reads : List Read) (writes : List Write) (c c1 c2 c3 c4 c5 c6 : Cursor) →
        size ≡ row_size C.width x → kind ≡ leaf_frame x.kind → job ≡ little_endian 2 j → m ≡ length x.reads → reads ≡ x.reads → n ≡ length x.writes → writes ≡ x.writes →
        c1 ≡ put_bytes (little_endian 4 (size - 4) ++ little_endian 2 kind) c →
        c2 ≡ put_bytes job c1 →
        c3 ≡ put_bytes (m ∷ []) c2 →
        c4 ≡ put_bytes (flat_map read_bytes reads) c3 →
        c5 ≡ put_bytes (n ∷ []) c4 →
        c6 ≡ put_bytes (flat_map (write_bytes C) (leaf_writes items writes)) c5 →
        c6 ≡ put_bytes (leaf_bytes C (row_leaf items j x)) c
    leaf_put size kind m n job reads writes c c1 c2 c3 c4 c5 c6 z k b p rs q ws e1 e2 e3 e4 e5 e6 =
        let body = counted read_bytes x.reads ++ counted (write_bytes C) (leaf_writes items x.writes) in
        let sized : size - 4 ≡ 2 + length (little_endian 2 j ++ body) = omega (arith, length_leaf C lawful (row_leaf items j x), leaf_sized items C.width j x complete) in
        let head : c1 ≡ put_bytes (little_endian 4 (2 + length (little_endian 2 j ++ body)) ++ little_endian 2 (leaf_frame x.kind)) c =
        e1 ∙ (λ i. put_bytes (little_endian 4 (sized i) ++ little_endian 2 (k i)) c) in
        let first : c4 ≡ put_bytes (counted read_bytes x.reads) c2 = e4 ∙ (λ i. put_bytes (flat_map read_bytes (rs i)) (e3 i)) ∙ ap (λ h. put_bytes (h ∷ flat_map read_bytes x.reads) c2) p in
        let second : c6 ≡ put_bytes (counted (write_bytes C) (leaf_writes items x.writes)) c4 =
        e6 ∙ (λ i. put_bytes (flat_map (write_bytes C) (leaf_writes items (ws i))) (e5 i))
        ∙ ap (λ h. put_bytes (h ∷ flat_map (write_bytes C) (leaf_writes items x.writes)) c4) (q ∙ sym (length_leaf_writes items x.writes complete)) in
        second ∙ ap (put_bytes (counted (write_bytes C) (leaf_writes items x.writes))) first ∙ sym (put_append (counted read_bytes x.reads) (counted (write_bytes C) (leaf_writes items x.writes)) c2)
        ∙ ap (put_bytes body) (e2 ∙ (λ i. put_bytes (b i) (head i)))

  -- a row whose job is answered, and one whose job is not
  module _ (j : ℕ) (x : RowModel) (xs : List RowModel) (c : Cursor) where
    with_leaf : is_answered x.state ≡ true →
        put_bytes (flat_map (leaf_bytes C) (row_leaves items j (x ∷ xs))) c ≡ put_bytes (flat_map (leaf_bytes C) (row_leaves items (suc j) xs)) (put_bytes (leaf_bytes C (row_leaf items j x)) c)
    with_leaf e =
        ap (λ b. put_bytes (flat_map (leaf_bytes C) (cons_option (cond b (Some (row_leaf items j x)) None) (row_leaves items (suc j) xs))) c) e
        ∙ put_append (leaf_bytes C (row_leaf items j x)) (flat_map (leaf_bytes C) (row_leaves items (suc j) xs)) c

    with_none : is_answered x.state ≡ false → put_bytes (flat_map (leaf_bytes C) (row_leaves items j (x ∷ xs))) c ≡ put_bytes (flat_map (leaf_bytes C) (row_leaves items (suc j) xs)) c
    with_none e = ap (λ b. put_bytes (flat_map (leaf_bytes C) (cons_option (cond b (Some (row_leaf items j x)) None) (row_leaves items (suc j) xs))) c) e

  -- what the rows from i on make of the cursor
  abbrev pub rest_put : List Row → ℕ → Cursor → Cursor
  rest_put rows i c = put_bytes (flat_map (leaf_bytes C) (row_leaves items i (map row_view (drop i rows)))) c

  module _ (rows : List Row) (i : ℕ) (d : Row) (c : Cursor) (h : i < length rows) where
    next : rest_put rows i c ≡ put_bytes (flat_map (leaf_bytes C) (row_leaves items i (row_view (get_or rows i d) ∷ map row_view (drop (i + 1) rows)))) c
    next = at_drop_more (λ ys. put_bytes (flat_map (leaf_bytes C) (row_leaves items i (map row_view ys))) c) rows i d h

    counts : (e : Cursor) → put_bytes (flat_map (leaf_bytes C) (row_leaves items (suc i) (map row_view (drop (i + 1) rows)))) e ≡ rest_put rows (i + 1) e
    counts e = ap (λ n. put_bytes (flat_map (leaf_bytes C) (row_leaves items n (map row_view (drop (i + 1) rows)))) e) (omega arith)

    -- one turn of the loop, whose rest of the rows makes t of what is there so far
    pub turn_with_leaf : (e f t : Cursor) → f ≡ e → is_answered (row_view (get_or rows i d)).state ≡ true → e ≡ put_bytes (leaf_bytes C (row_leaf items i (row_view (get_or rows i d)))) c → rest_put rows i c ≡ t → rest_put rows (i + 1) f ≡ t
    turn_with_leaf e f t s a p inv = ap (rest_put rows (i + 1)) (s ∙ p) ∙ sym (next ∙ with_leaf i (row_view (get_or rows i d)) (map row_view (drop (i + 1) rows)) c a ∙ counts _) ∙ inv

    pub turn_without : (f t : Cursor) → f ≡ c → is_answered (row_view (get_or rows i d)).state ≡ false → rest_put rows i c ≡ t → rest_put rows (i + 1) f ≡ t
    turn_without f t s a inv = ap (rest_put rows (i + 1)) s ∙ sym (next ∙ with_none i (row_view (get_or rows i d)) (map row_view (drop (i + 1) rows)) c a ∙ counts _) ∙ inv

  pub rows_end : (rows : List Row) (i : ℕ) (c t : Cursor) → length rows ≤ i → rest_put rows i c ≡ t → c ≡ t
  rows_end rows i c t h inv = sym (at_drop_all (λ ys. put_bytes (flat_map (leaf_bytes C) (row_leaves items i (map row_view ys))) c) rows i h) ∙ inv

  -- the head and then the leaves are the archive
  pub archive_put : (n : ℕ) (xs : List RowModel) (c : Cursor) → n ≡ length (row_leaves items 0 xs) →
      put_bytes (flat_map (leaf_bytes C) (row_leaves items 0 xs)) (put_bytes (head_bytes C n) c) ≡ put_bytes (archive_bytes C (row_leaves items 0 xs)) c
  unfolding archive_bytes
  archive_put n xs c e =
      let ls = row_leaves items 0 xs in
      ap (λ k. put_bytes (flat_map (leaf_bytes C) ls) (put_bytes (head_bytes C k) c)) e ∙ sym (put_append (head_bytes C (length ls)) (flat_map (leaf_bytes C) ls) c)

-- no row of an answered job lacks a value
pub complete_at : (n : ℕ) (rows : List Row) (i : ℕ) (d : Row) → i < length rows → lacks_value n (map row_view rows) ≡ false → is_answered (row_view (get_or rows i d)).state ≡ true → lacks_write n (row_view (get_or rows i d)).writes ≡ false
complete_at n [] i d h e a = absurd (omega arith)
complete_at n (x ∷ rows) i d h e a = go i h a (λ k l. complete_at n rows k d l o.1)
  where
    o : ((is_answered x.state && lacks_write n (row_view x).writes) ≡ false) × (lacks_value n (map row_view rows) ≡ false)
    o = none_first (is_answered x.state && lacks_write n (row_view x).writes) (lacks_value n (map row_view rows)) e

    go : (k : ℕ) → k < suc (length rows) → is_answered (row_view (get_or (x ∷ rows) k d)).state ≡ true →
        ((k : ℕ) → k < length rows → is_answered (row_view (get_or rows k d)).state ≡ true → lacks_write n (row_view (get_or rows k d)).writes ≡ false) →
        lacks_write n (row_view (get_or (x ∷ rows) k d)).writes ≡ false
    go zero l a later = sym (ap (λ b. b && lacks_write n (row_view x).writes) a) ∙ o.0
    go (suc k) l a later = later k (omega arith) a
