-- What holds of serial histories and their archives, for any kind of value; `src/lib.rt` cites it. Assumes nothing.
use Rattle.std.specs.Prelude.{◌≡◌, ℕ, ◌+◌, ◌*◌, ◌↔◌, List, length, Some, sum_by}
use Rattle.std.specs.Option.{option_map}
use Rattle.history.specs.Histories.{Leaf, outline, Conflict, leaf_of, is_before, Serial}
use Rattle.history.specs.Layout.{Coding, archive, leaves}

-- what the theorems need of a kind of value; the laws of the trait `Value` give it
pub record Lawful {V : Type 0} (C : Coding V) : Type 0 where
  pub wide : (v : V) → length (C.bytes v) ≡ C.width
  pub apart : (v w : V) → C.bytes v ≡ C.bytes w → v ≡ w

module _ {V : Type 0} where
  -- the same jobs, each with the same outline
  abbrev pub SameOutlines : List (Leaf V) → List (Leaf V) → Type 0
  SameOutlines g h = (j : ℕ) → option_map outline (leaf_of g j) ≡ option_map outline (leaf_of h j)

  -- every two jobs that conflict stand in the same order
  abbrev pub SameOrder : List (Leaf V) → List (Leaf V) → Type 0
  SameOrder g h = (i j : ℕ) (x y : Leaf V) → leaf_of g i ≡ Some x → leaf_of g j ≡ Some y → Conflict x y → is_before g i j ≡ is_before h i j

-- two serial histories have one archive exactly if they agree in outlines and in the order of conflicting jobs
abbrev pub ArchivesAgree : {V : Type 0} → Coding V → Type 0
ArchivesAgree {V} C =
    (g h : List (Leaf V)) → Serial g → Serial h → (archive C g ≡ archive C h) ↔ (SameOutlines g h × SameOrder g h)

-- the size of a leaf's frame
abbrev pub leaf_size : {V : Type 0} → ℕ → Leaf V → ℕ
leaf_size width x = 10 + (2 * length x.reads + (2 + width) * length x.writes)

-- the size of the head frame
abbrev pub head_size : ℕ
head_size = 12

abbrev pub ArchiveSized : {V : Type 0} → Coding V → Type 0
ArchiveSized {V} C = (h : List (Leaf V)) → length (archive C h) ≡ head_size + sum_by (leaf_size C.width) (leaves h)

-- each leaf of a serial history is in its archive, once
abbrev pub AllArchived : Type 0 → Type 0
AllArchived V = (h : List (Leaf V)) → Serial h → length (leaves h) ≡ length h
