-- What a log says of jobs and records, by the calls and what they told alone; the newest event stands first. Assumes nothing.
use Rattle.std.specs.Prelude.{◌≡◌, ℕ, ◌+◌, Bool, true, cond, not, ◌&&◌, ◌||◌, List, [], ◌∷◌, ◌++◌, map, Some, None, Ok, Err, Option, Result, ◌==◌, nat_eq}
use Rattle.std.specs.List.{list_any}
use Rattle.ledger.specs.declared.job.JobKind.{JobKind}
use Rattle.ledger.specs.declared.job.JobKind.TheVariants.{Amendment}
use Rattle.history.specs.Histories.{Leaf, Outline}
use Rattle.house.specs.Runs.{Event}
use Rattle.house.specs.declared.fault.Fault.{Fault}
use Rattle.house.specs.declared.call.Call.{Call}
use Rattle.house.specs.declared.call.Call.TheVariants.{Open, Read, Write, HandIn, Deliver, Collect, Close, Withdraw, Archive}
use Rattle.house.specs.declared.call.Told.{Told}
use Rattle.house.specs.declared.call.Told.TheVariants as told
use Rattle.ledger.specs.declared.reading.Reading.TheVariants as reading
use Rattle.ledger.specs.declared.job.Collected.TheVariants as collected

abbrev pub contains : List ℕ → ℕ → Bool
contains xs x = list_any (λ y. nat_eq y x) xs

-- of a list with the newest first: what stands before, that is behind, the first occurrence
abbrev pub before : List ℕ → ℕ → List ℕ
before [] x = []
before (y ∷ ys) x = cond (y == x) ys (before ys x)

-- what the law sees of an event
pub data Occurrence (V : Type 0) : Type 0 where
  opened : ℕ → JobKind → Occurrence V
  -- job and record of a read that was not told as own
  read : ℕ → ℕ → Occurrence V
  wrote : ℕ → ℕ → V → Occurrence V
  answered : ℕ → Occurrence V
  nothing : Occurrence V

module _ {V : Type 0} where
  abbrev pub if_accepted : Result (Told V) Fault → Occurrence V → Occurrence V
  if_accepted (Ok t) x = x
  if_accepted (Err f) x = nothing

  abbrev pub unless_own : Told V → Occurrence V → Occurrence V
  unless_own told.Done x = x
  unless_own (told.Read reading.Blank) x = x
  unless_own (told.Read (reading.Own v)) x = nothing
  unless_own (told.Read (reading.Version n v)) x = x
  unless_own (told.Collected c) x = x
  unless_own (told.Archived size) x = x

  abbrev pub if_answered : Told V → Occurrence V → Occurrence V
  if_answered told.Done x = nothing
  if_answered (told.Read y) x = nothing
  if_answered (told.Collected collected.Answered) x = x
  if_answered (told.Collected (collected.Dropped mark)) x = nothing
  if_answered (told.Archived size) x = nothing

  abbrev pub if_told : (Told V → Occurrence V → Occurrence V) → Result (Told V) Fault → Occurrence V → Occurrence V
  if_told test (Ok t) x = test t x
  if_told test (Err f) x = nothing

  abbrev pub occurrence_of : Call V → Result (Told V) Fault → Occurrence V
  occurrence_of (Open j k) t = if_accepted t (opened j k)
  occurrence_of (Read j r) t = if_told unless_own t (read j r)
  occurrence_of (Write j r v) t = if_accepted t (wrote j r v)
  occurrence_of (HandIn j) t = nothing
  occurrence_of (Deliver j o) t = nothing
  occurrence_of (Collect j) t = if_told if_answered t (answered j)
  occurrence_of (Close j) t = if_accepted t (answered j)
  occurrence_of (Withdraw j) t = nothing
  occurrence_of (Archive n) t = nothing

  abbrev pub occurrence : Event V → Occurrence V
  occurrence e = occurrence_of e.call e.told

  -- what an occurrence makes of a job's type, its lists, and the answers

  abbrev pub kind_by : ℕ → Occurrence V → JobKind → JobKind
  kind_by j (opened i k) x = cond (j == i) k x
  kind_by j (read i r) x = x
  kind_by j (wrote i r v) x = x
  kind_by j (answered i) x = x
  kind_by j nothing x = x

  abbrev pub reads_by : ℕ → Occurrence V → List ℕ → List ℕ
  reads_by j (opened i k) rs = rs
  reads_by j (read i r) rs = cond (j == i && not (contains rs r)) (rs ++ r ∷ []) rs
  reads_by j (wrote i r v) rs = rs
  reads_by j (answered i) rs = rs
  reads_by j nothing rs = rs

  -- a value replaces the last one of its record, or joins the end
  abbrev pub with_value : List (ℕ × V) → ℕ → V → List (ℕ × V)
  with_value [] r v = (r, v) ∷ []
  with_value (x ∷ xs) r v = cond (x.0 == r) ((r, v) ∷ xs) (x ∷ with_value xs r v)

  abbrev pub writes_by : ℕ → Occurrence V → List (ℕ × V) → List (ℕ × V)
  writes_by j (opened i k) ws = ws
  writes_by j (read i r) ws = ws
  writes_by j (wrote i r v) ws = cond (j == i) (with_value ws r v) ws
  writes_by j (answered i) ws = ws
  writes_by j nothing ws = ws

  abbrev pub answers_by : Occurrence V → List ℕ → List ℕ
  answers_by (opened i k) js = js
  answers_by (read i r) js = js
  answers_by (wrote i r v) js = js
  answers_by (answered i) js = i ∷ js
  answers_by nothing js = js

  -- a job's type, by its accepted open
  abbrev pub kind_in : List (Event V) → ℕ → JobKind
  kind_in [] j = Amendment
  kind_in (e ∷ log) j = kind_by j (occurrence e) (kind_in log j)

  -- the records that a job read, in the order of first use
  abbrev pub reads_in : List (Event V) → ℕ → List ℕ
  reads_in [] j = []
  reads_in (e ∷ log) j = reads_by j (occurrence e) (reads_in log j)

  -- the records that a job wrote, each with its last value, in the order of first use
  abbrev pub writes_in : List (Event V) → ℕ → List (ℕ × V)
  writes_in [] j = []
  writes_in (e ∷ log) j = writes_by j (occurrence e) (writes_in log j)

  -- the answered jobs, the newest first
  abbrev pub answered_in : List (Event V) → List ℕ
  answered_in [] = []
  answered_in (e ∷ log) = answers_by (occurrence e) (answered_in log)

  abbrev pub is_answered_in : List (Event V) → ℕ → Bool
  is_answered_in log j = contains (answered_in log) j

  -- job i was answered before job j
  abbrev pub is_earlier_in : List (Event V) → ℕ → ℕ → Bool
  is_earlier_in log i j = contains (before (answered_in log) j) i

  abbrev pub wrote_in : List (Event V) → ℕ → ℕ → Bool
  wrote_in log j r = list_any (λ (x : ℕ × V). nat_eq x.0 r) (writes_in log j)

  -- read or wrote
  abbrev pub used_in : List (Event V) → ℕ → ℕ → Bool
  used_in log j r = contains (reads_in log j) r || wrote_in log j r

  -- two jobs share a record that either wrote
  abbrev pub ConflictIn : List (Event V) → ℕ → ℕ → Type 0
  ConflictIn log i j = (r : ℕ) × (used_in log i r ≡ true) × (used_in log j r ≡ true) × ((wrote_in log i r || wrote_in log j r) ≡ true)

  -- how many of these jobs wrote the record
  abbrev pub writers_in : List (Event V) → List ℕ → ℕ → ℕ
  writers_in log [] r = 0
  writers_in log (j ∷ js) r = cond (wrote_in log j r) 1 0 + writers_in log js r

  -- the version of an answered job in a record: how many of the jobs, answered up to and with it, wrote the record
  abbrev pub version_in : List (Event V) → ℕ → ℕ → ℕ
  version_in log j r = writers_in log (j ∷ before (answered_in log) j) r

  abbrev pub value_of : List (ℕ × V) → ℕ → Option V
  value_of [] r = None
  value_of (x ∷ xs) r = cond (x.0 == r) (Some x.1) (value_of xs r)

  abbrev pub writer_or : ℕ → Option V → Option (ℕ × V) → Option (ℕ × V)
  writer_or j None later = later
  writer_or j (Some v) later = Some (j, v)

  -- the first of these jobs that wrote the record, with its last value there
  abbrev pub last_writer_in : List (Event V) → List ℕ → ℕ → Option (ℕ × V)
  last_writer_in log [] r = None
  last_writer_in log (j ∷ js) r = writer_or j (value_of (writes_in log j) r) (last_writer_in log js r)

  abbrev pub outline_in : List (Event V) → ℕ → Outline V
  outline_in log j = record { job = j; kind = kind_in log j; read = reads_in log j; written = writes_in log j }

  -- the leaf of an answered job: it read a record at the number of jobs answered before it that wrote the record, and wrote one at its version there
  abbrev pub leaf_in : List (Event V) → ℕ → Leaf V
  leaf_in log j =
      record {
        job = j;
        kind = kind_in log j;
        reads = map (λ (r : ℕ). record { «record» = r; version = writers_in log (before (answered_in log) j) r }) (reads_in log j);
        writes = map (λ (x : ℕ × V). record { «record» = x.0; version = version_in log j x.0; value = x.1 }) (writes_in log j);
      }
