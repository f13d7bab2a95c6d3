-- How long an archive is.
use Rattle.std.proofs.Common.{◌≡◌, ℕ, ◌+◌, ◌*◌, List, [], ◌∷◌, length, sum_by, refl, ◌∙◌, arith, length-append}
use Rattle.std.specs.List.{flat_map}
use Rattle.std.proofs.lemmas.List.Sums.{sum_by-cons}
use Rattle.history.specs.Histories.{Leaf}
use Rattle.encoding.specs.Frames.{counted}
use Rattle.history.specs.Layout.{Coding, read_bytes, write_bytes, leaf_bytes, leaves, archive_bytes}
use Rattle.history.specs.Laws.{Lawful, leaf_size, head_size, ArchiveSized}

length_joined : {X : Type 0} (f : X → List ℕ) (n : ℕ) → ((x : X) → length (f x) ≡ n) → (xs : List X) → length (flat_map f xs) ≡ n * length xs
length_joined f n e [] = omega arith
length_joined f n e (x ∷ xs) = let k = length_joined f n e xs in let m = e x in omega (arith, length-append (f x) (flat_map f xs))

module _ {V : Type 0} (C : Coding V) (lawful : Lawful C) where
  pub length_leaf : (x : Leaf V) → length (leaf_bytes C x) ≡ leaf_size C.width x
  length_leaf x =
      let a = length_joined read_bytes 2 (λ q. refl) x.reads in
      let b = length_joined (write_bytes C) (2 + C.width) (λ w. (let k = lawful.wide w.value in omega arith)) x.writes in
      omega (arith, length-append (flat_map read_bytes x.reads) (counted (write_bytes C) x.writes))

  length_leaves : (xs : List (Leaf V)) → length (flat_map (leaf_bytes C) xs) ≡ sum_by (leaf_size C.width) xs
  length_leaves [] = refl
  length_leaves (x ∷ xs) = length-append (leaf_bytes C x) (flat_map (leaf_bytes C) xs) ∙ (let k = length_leaves xs in let m = length_leaf x in omega (arith, sum_by-cons (leaf_size C.width) x xs))

  -- of any leaves
  pub bytes_sized : (xs : List (Leaf V)) → length (archive_bytes C xs) ≡ head_size + sum_by (leaf_size C.width) xs
  unfolding archive_bytes
  bytes_sized xs = let k = length_leaves xs in omega arith

  -- and of those of a history
  pub archive_sized : ArchiveSized C
  archive_sized h = bytes_sized (leaves h)
