-- The archive as bytes: a head frame and one frame for each leaf; `src/lib.rt` and the archive's writer cite it. Assumes nothing.
use Rattle.std.specs.Prelude.{ℕ, zero, suc, ◌+◌, List, [], ◌∷◌, ◌++◌, length}
use Rattle.std.specs.List.{flat_map, cons_option}
use Rattle.encoding.specs.Bytes.{little_endian}
use Rattle.encoding.specs.Frames.{frame, counted}
use Rattle.values.specs.declared.value.Value.{Ghosts as Kind}
use Rattle.ledger.specs.Limits.{last_job}
use Rattle.ledger.specs.declared.job.JobKind.{JobKind}
use Rattle.ledger.specs.declared.job.JobKind.TheVariants.{Amendment, Inspection}
use Rattle.ledger.specs.declared.job.Read.{Read}
use Rattle.history.specs.Histories.{LeafWrite, Leaf, leaf_of}

-- a kind of value, as an archive has it: its encoding, its number, and how many bytes a value has
pub record Coding (V : Type 0) : Type 0 where
  pub bytes : V → List ℕ
  pub kind : ℕ
  pub width : ℕ

-- that of a type of values
abbrev pub coding : {V C : Type 0} → Kind V C → Coding V
coding k = record { bytes = k.bytes; kind = k.KIND; width = k.WIDTH }

-- the kind of the head frame
abbrev pub head_frame : ℕ
head_frame = 1

-- the kind of a leaf's frame
abbrev pub leaf_frame : JobKind → ℕ
leaf_frame Amendment = 2
leaf_frame Inspection = 3

abbrev pub read_bytes : Read → List ℕ
read_bytes q = q.«record» ∷ (q.version ∷ [])

module _ {V : Type 0} (C : Coding V) where
  abbrev pub write_bytes : LeafWrite V → List ℕ
  write_bytes w = w.«record» ∷ (w.version ∷ C.bytes w.value)

  abbrev pub leaf_bytes : Leaf V → List ℕ
  leaf_bytes x = frame (leaf_frame x.kind) (little_endian 2 x.job ++ (counted read_bytes x.reads ++ counted write_bytes x.writes))

module _ {V : Type 0} where
  -- the leaves of the n jobs from k on, in rising job number
  abbrev pub rising : ℕ → ℕ → List (Leaf V) → List (Leaf V)
  rising k zero h = []
  rising k (suc n) h = cons_option (leaf_of h k) (rising (suc k) n h)

  -- the leaves in rising job number
  unfoldable pub leaves : List (Leaf V) → List (Leaf V)
  leaves h = rising 0 (last_job + 1) h

module _ {V : Type 0} (C : Coding V) where
  abbrev pub head_bytes : ℕ → List ℕ
  head_bytes count = frame head_frame (little_endian 2 count ++ (little_endian 2 C.kind ++ little_endian 2 C.width))

  -- the bytes of an archive of these leaves, which stand in rising job number
  unfoldable pub archive_bytes : List (Leaf V) → List ℕ
  archive_bytes xs = head_bytes (length xs) ++ flat_map (leaf_bytes C) xs

  -- the archive of a history
  abbrev pub archive : List (Leaf V) → List ℕ
  archive h = archive_bytes (leaves h)
