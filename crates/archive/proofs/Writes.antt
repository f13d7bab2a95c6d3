-- The writes of a leaf, where the shelf lacks none of them: each is there with its value.
use Rattle.std.proofs.Common.{◌≡◌, ℕ, suc, Bool, true, false, ◌||◌, leb, List, [], ◌∷◌, ◌++◌, length, Some, None, Option, refl, ap, ◌∙◌, inl, inr, arith}
use Rattle.std.specs.List.{cons_option, slice_get, flat_map}
use Rattle.std.proofs.lemmas.List.{append-nil}
use Rattle.std.proofs.lemmas.Bool.{leb-false}
use Rattle.std.proofs.lemmas.Option.{slice_get_cases}
use Rattle.ledger.specs.declared.job.Write.{Write}
use Rattle.history.specs.Histories.{LeafWrite}
use Rattle.archive.specs.Leaves.{leaf_write, leaf_writes, lacks_write}

-- what a search that finds none says of the first element and of the rest
pub none_first : (a b : Bool) → (a || b) ≡ false → (a ≡ false) × (b ≡ false)
none_first true b e = (cc, cc)
none_first false b e = (refl, e)

module _ {V : Type 0} where
  there : (items : List V) (place : ℕ) → leb (length items) place ≡ false → (v : V) × (slice_get items place ≡ Some v)
  there items place e = elim (slice_get_cases items place).1 [
    | inl p ↦ (p.0, p.2)
    | inr p ↦ (let l = leb-false (length items) place e in let m = p.0 in absurd (omega arith))
  ]

  pub length_leaf_writes : (items : List V) (ws : List Write) → lacks_write (length items) ws ≡ false → length (leaf_writes items ws) ≡ length ws
  length_leaf_writes items [] e = refl
  length_leaf_writes items (w ∷ ws) e =
      let o = none_first (leb (length items) w.place) (lacks_write (length items) ws) e in
      let v = there items w.place o.0 in
      ap (λ (z : Option V). length (cons_option (leaf_write w z) (leaf_writes items ws))) v.1 ∙ ap suc (length_leaf_writes items ws o.1)

  -- the bytes of the writes, one after another
  pub joined_leaf_writes : (f : LeafWrite V → List ℕ) (items : List V) (ws : List Write) → flat_map (λ w. flat_map f (leaf_writes items (w ∷ []))) ws ≡ flat_map f (leaf_writes items ws)
  joined_leaf_writes f items [] = refl
  joined_leaf_writes f items (w ∷ ws) = go (slice_get items w.place) (joined_leaf_writes f items ws)
    where
      go : (o : Option V) → flat_map (λ w. flat_map f (leaf_writes items (w ∷ []))) ws ≡ flat_map f (leaf_writes items ws) →
          flat_map f (cons_option (leaf_write w o) []) ++ flat_map (λ w. flat_map f (leaf_writes items (w ∷ []))) ws ≡ flat_map f (cons_option (leaf_write w o) (leaf_writes items ws))
      go None i = i
      go (Some v) i = let x : LeafWrite V = record { «record» = w.«record»; version = w.version; value = v } in ap (λ t. t ++ flat_map (λ w. flat_map f (leaf_writes items (w ∷ []))) ws) (append-nil (f x)) ∙ ap (λ t. f x ++ t) i
