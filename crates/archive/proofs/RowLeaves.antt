-- How many leaves the rows have, and how long they are.
use Rattle.std.proofs.Common.{◌≡◌, ℕ, suc, ◌+◌, ◌*◌, Bool, true, false, cond, ◌&&◌, List, [], ◌∷◌, filter, map, length, Some, None, sum_by, count_by, sym, refl, ap, ◌∙◌, arith}
use Rattle.std.specs.List.{cons_option}
use Rattle.std.proofs.lemmas.List.Sums.{sum_by-cons}
use Rattle.ledger.specs.Model.{RowModel, is_answered}
use Rattle.ledger.specs.View.{row_view}
use Rattle.ledger.specs.declared.job.Row.{Row}
use Rattle.history.specs.Layout.{Coding, archive_bytes}
use Rattle.history.specs.Laws.{Lawful, leaf_size, head_size}
use Rattle.history.proofs.Sizes.{bytes_sized}
use Rattle.archive.specs.Leaves.{row_leaf, row_leaves, lacks_write, lacks_value}
use Rattle.archive.specs.Sizes.{row_size}
use Rattle.archive.proofs.Writes.{none_first, length_leaf_writes}

-- a row that has a leaf
abbrev pub has_leaf : RowModel → Bool
has_leaf x = is_answered x.state

module _ {V : Type 0} (items : List V) where
  pub count_leaves : (j : ℕ) (xs : List RowModel) → length (row_leaves items j xs) ≡ count_by has_leaf xs
  count_leaves j [] = refl
  count_leaves j (x ∷ xs) = go (has_leaf x) (count_leaves (suc j) xs) ∙ sym (sum_by-cons (λ y. cond (has_leaf y) 1 0) x xs)
    where
      go : (b : Bool) → length (row_leaves items (suc j) xs) ≡ count_by has_leaf xs →
          length (cons_option (cond b (Some (row_leaf items j x)) None) (row_leaves items (suc j) xs)) ≡ cond b 1 0 + count_by has_leaf xs
      go true i = omega arith
      go false i = omega arith

  pub leaf_sized : (width j : ℕ) (x : RowModel) → lacks_write (length items) x.writes ≡ false → leaf_size width (row_leaf items j x) ≡ row_size width x
  leaf_sized width j x e = ap (λ n. 10 + (2 * length x.reads + (2 + width) * n)) (length_leaf_writes items x.writes e)

  leaves_sized : (width j : ℕ) (xs : List Row) → lacks_value (length items) (map row_view xs) ≡ false →
      sum_by (leaf_size width) (row_leaves items j (map row_view xs)) ≡ sum_by (λ x. row_size width (row_view x)) (filter (λ x. has_leaf (row_view x)) xs)
  leaves_sized width j [] e = refl
  leaves_sized width j (x ∷ xs) e =
      let o = none_first (has_leaf (row_view x) && lacks_write (length items) (row_view x).writes) (lacks_value (length items) (map row_view xs)) e in
      go (has_leaf (row_view x)) o.0 (leaves_sized width (suc j) xs o.1)
    where
      go : (b : Bool) → (b && lacks_write (length items) (row_view x).writes) ≡ false →
          sum_by (leaf_size width) (row_leaves items (suc j) (map row_view xs)) ≡ sum_by (λ y. row_size width (row_view y)) (filter (λ y. has_leaf (row_view y)) xs) →
          sum_by (leaf_size width) (cons_option (cond b (Some (row_leaf items j (row_view x))) None) (row_leaves items (suc j) (map row_view xs)))
          ≡ sum_by (λ y. row_size width (row_view y)) (cond b (x ∷ filter (λ y. has_leaf (row_view y)) xs) (filter (λ y. has_leaf (row_view y)) xs))
      go true n i =
          sum_by-cons (leaf_size width) (row_leaf items j (row_view x)) (row_leaves items (suc j) (map row_view xs)) ∙ (λ k. leaf_sized width j (row_view x) n k + i k)
          ∙ sym (sum_by-cons (λ y. row_size width (row_view y)) x (filter (λ y. has_leaf (row_view y)) xs))
      go false n i = i

  -- the archive is as long as the rows say
  pub archive_length : (C : Coding V) → Lawful C → (xs : List Row) → lacks_value (length items) (map row_view xs) ≡ false →
      length (archive_bytes C (row_leaves items 0 (map row_view xs))) ≡ head_size + sum_by (λ x. row_size C.width (row_view x)) (filter (λ x. has_leaf (row_view x)) xs)
  archive_length C lawful xs e = bytes_sized C lawful (row_leaves items 0 (map row_view xs)) ∙ ap (λ n. head_size + n) (leaves_sized C.width 0 xs e)
