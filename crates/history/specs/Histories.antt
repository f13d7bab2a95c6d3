-- Leaves, histories of them, and what makes a history serial; `src/lib.rt` and the archive's layout cite it. Assumes nothing.
use Rattle.std.specs.Prelude.{◌≡◌, ℕ, suc, ◌+◌, ◌≤◌, Bool, true, cond, ◌||◌, List, [], ◌∷◌, map, is_some, None, Option, ◌==◌, nat_eq}
use Rattle.std.specs.List.{AllByRecursion, find, list_any}
use Rattle.ledger.specs.Limits.{last_job}
use Rattle.ledger.specs.declared.job.JobKind.{JobKind}
use Rattle.ledger.specs.declared.job.Read.{Read}

-- a write as a leaf has it: the version of the record that the job installed, and its value
pub record LeafWrite (V : Type 0) : Type 0 where
  pub «record» : ℕ
  pub version : ℕ
  pub value : V

-- all that an archive says of one answered job, a committed transaction: both lists are in the order of first use
pub record Leaf (V : Type 0) : Type 0 where
  pub job : ℕ
  pub kind : JobKind
  pub reads : List Read
  pub writes : List (LeafWrite V)

-- a leaf without its versions: what the job did, and not where it stands among the others
pub record Outline (V : Type 0) : Type 0 where
  pub job : ℕ
  pub kind : JobKind
  pub read : List ℕ
  pub written : List (ℕ × V)

-- a history is a list of leaves, the newest answer first
module _ {V : Type 0} where
  abbrev pub outline : Leaf V → Outline V
  outline x =
      record {
        job = x.job;
        kind = x.kind;
        read = map (λ (q : Read). q.«record») x.reads;
        written = map (λ (w : LeafWrite V). (w.«record», w.value)) x.writes;
      }

  abbrev pub wrote : Leaf V → ℕ → Bool
  wrote x r = list_any (λ w. nat_eq w.«record» r) x.writes

  -- read or wrote
  abbrev pub used : Leaf V → ℕ → Bool
  used x r = list_any (λ q. nat_eq q.«record» r) x.reads || wrote x r

  -- the two share a record that either wrote
  abbrev pub Conflict : Leaf V → Leaf V → Type 0
  Conflict x y = (r : ℕ) × (used x r ≡ true) × (used y r ≡ true) × ((wrote x r || wrote y r) ≡ true)

  -- how many leaves wrote the record
  abbrev pub writer_count : List (Leaf V) → ℕ → ℕ
  writer_count [] r = 0
  writer_count (x ∷ h) r = cond (wrote x r) 1 0 + writer_count h r

  -- the leaf of job j
  abbrev pub leaf_of : List (Leaf V) → ℕ → Option (Leaf V)
  leaf_of h j = find (λ x. x.job == j) h

  -- what was answered before job j
  abbrev pub earlier : List (Leaf V) → ℕ → List (Leaf V)
  earlier [] j = []
  earlier (x ∷ h) j = cond (x.job == j) h (earlier h j)

  -- job i was answered before job j
  abbrev pub is_before : List (Leaf V) → ℕ → ℕ → Bool
  is_before h i j = is_some (leaf_of (earlier h j) i)

  -- x may be answered next after h: it read each record at the version that the writers before it left, and installed the next one
  pub record Fits (x : Leaf V) (h : List (Leaf V)) : Type 0 where
    pub small : x.job ≤ last_job
    pub fresh : leaf_of h x.job ≡ None
    pub read : AllByRecursion (λ q. q.version ≡ writer_count h q.«record») x.reads
    pub written : AllByRecursion (λ w. w.version ≡ suc (writer_count h w.«record»)) x.writes

  -- each job read and wrote as if the jobs had run one after another, in the order of their answers
  abbrev pub Serial : List (Leaf V) → Type 0
  Serial [] = Unit {0}
  Serial (x ∷ h) = Fits x h × Serial h
