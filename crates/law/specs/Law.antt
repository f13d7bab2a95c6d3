-- The law of the house: what holds of all runs, by the calls and what they told; `src/lib.rt` and `src/perform.rt` cite it.
-- Assumes nothing of a run: any calls, accepted and refused, to a newly built house with any number of offices and any shelf.
use Rattle.std.specs.Prelude.{◌≡◌, ℕ, ◌<◌, ◌≤◌, true, false, cond, ◌↔◌, List, ◌∷◌, ◌++◌, map, length, drop, Some, None, Ok, Err, Option, Result, ◌≢◌}
use Rattle.std.specs.List.{ContainsAt as Has}
use Rattle.shelves.specs.declared.fault.ShelfFault.TheVariants.{NoSuchPlace}
use Rattle.ledger.specs.Limits.{most_offices}
use Rattle.ledger.specs.Model.{row, is_accepted}
use Rattle.ledger.specs.Answering.{is_held}
use Rattle.ledger.specs.declared.job.State.TheVariants.{Accepted}
use Rattle.history.specs.Histories.{Leaf, Outline, leaf_of}
use Rattle.history.specs.Layout.{Coding, archive}
use Rattle.protocol.specs.Calls.{Reached}
use Rattle.protocol.specs.Laws.{Calm}
use Rattle.house.specs.Model.{HouseModel}
use Rattle.house.specs.Committing.{office_in}
use Rattle.house.specs.Archiving.{house_leaves, house_archive, buffer_after}
use Rattle.house.specs.Runs.{call_told, step, Event, Progress, Run}
use Rattle.house.specs.Log.{contains, before, occurrence, read, answered_in, is_answered_in, is_earlier_in, ConflictIn, version_in, last_writer_in, outline_in, leaf_in}
use Rattle.house.specs.declared.fault.Fault.{Fault}
use Rattle.house.specs.declared.fault.Fault.TheVariants as fault
use Rattle.house.specs.declared.call.Call.{Call}
use Rattle.house.specs.declared.call.Call.TheVariants.{Collect, Archive}
use Rattle.house.specs.declared.call.Told.{Told}
use Rattle.house.specs.declared.call.Told.TheVariants as told
use Rattle.ledger.specs.declared.reading.Reading.TheVariants as reading
use Rattle.ledger.specs.declared.job.Collected.TheVariants.{Answered}

module _ {V : Type 0} where
  -- what a job did, if it was answered
  abbrev pub entry_in : List (Event V) → ℕ → Option (Outline V)
  entry_in log j = cond (is_answered_in log j) (Some (outline_in log j)) None

  -- two logs agree: the same jobs were answered with the same type and lists, and of every two answered jobs that share a record that either wrote the same was answered first
  pub record Agree (k l : List (Event V)) : Type 0 where
    pub jobs : (j : ℕ) → entry_in k j ≡ entry_in l j
    pub order : (i j : ℕ) → is_answered_in k i ≡ true → is_answered_in k j ≡ true → ConflictIn k i j → is_earlier_in k i j ≡ is_earlier_in l i j

  -- the last job answered before job j that wrote r, with its last value there
  abbrev pub source_in : List (Event V) → ℕ → ℕ → Option (ℕ × V)
  source_in log j r = last_writer_in log (before (answered_in log) j) r

  abbrev pub version_from : List (Event V) → ℕ → Option (ℕ × V) → ℕ
  version_from log r None = 0
  version_from log r (Some writer) = version_in log writer.0 r

  abbrev pub told_from : List (Event V) → ℕ → Option (ℕ × V) → Result (Told V) Fault
  told_from log r None = Ok (told.Read reading.Blank)
  told_from log r (Some writer) = Ok (told.Read (reading.Version (version_in log writer.0 r) writer.1))

  -- a read of r by job j told t: version and value of the last writer before j, or blank, and the leaf of j lists that version
  pub record Explained (m : HouseModel V) (log : List (Event V)) (j r : ℕ) (t : Result (Told V) Fault) : Type 0 where
    pub told : t ≡ told_from log r (source_in log j r)
    pub leaf : Leaf V
    pub found : leaf_of (house_leaves m) j ≡ Some leaf
    pub lists : Has leaf.reads (record { «record» = r; version = version_from log r (source_in log j r) })

pub record TheLaw {V : Type 0} (C : Coding V) : Type 0 where
  -- (a) the archives of two houses, perhaps of other offices, shelves and calls, are equal exactly if their logs agree
  pub archives : (p q : Progress V) → Run C p → Run C q → (house_archive C p.house ≡ house_archive C q.house) ↔ Agree p.log q.log
  -- the archive is what a long enough buffer gets, in front of what it held
  pub long_enough :
      (p : Progress V) → Run C p → (buffer : List ℕ) → length (house_archive C p.house) ≤ length buffer →
      (step C p.house (Archive (length buffer)) ≡ (Ok (told.Archived (length (house_archive C p.house))), p.house)) ×
      (buffer_after C p.house buffer ≡ house_archive C p.house ++ drop (length (house_archive C p.house)) buffer)
  -- it is that of the leaves that the log tells
  pub archived_log : (p : Progress V) → Run C p → house_archive C p.house ≡ archive C (map (leaf_in p.log) (answered_in p.log))
  -- (b) each accepted read, not told as own, of an answered job is explained by the jobs answered before it
  pub reads :
      (p : Progress V) → Run C p → (e : Event V) → Has p.log e → (j r : ℕ) → occurrence e ≡ read j r → is_answered_in p.log j ≡ true →
      Explained p.house p.log j r e.told
  -- (c) the line has the accepted and unanswered jobs, and no others
  pub line : (p : Progress V) → Run C p → (j : ℕ) → contains p.line j ≡ is_accepted (row p.house.ledger j).state
  -- with no inspection open and no message waiting, the first decided of them, if there are any, is not held, and collect tells answered
  pub first :
      (p : Progress V) → Run C p → Calm p.house.ledger → (j : ℕ) → (row p.house.ledger j).state ≡ Accepted →
      (t : ℕ) × (ts : List ℕ) × (p.line ≡ t ∷ ts) × (is_held p.house.ledger t ≡ false) × (call_told C p.house (Collect t) ≡ Ok (told.Collected Answered))

-- no call of a run finds that the shelf lacks a place
abbrev pub NeverLacking : {V : Type 0} → Coding V → Type 0
NeverLacking {V} C = (p : Progress V) → Run C p → (c : Call V) → call_told C p.house c ≢ Err (fault.Shelf NoSuchPlace)

-- the ledger of every run of the house, with its line, is one that calls of the ledger lead to: so what holds of those holds here
abbrev pub LedgerReached : {V : Type 0} → Coding V → Type 0
LedgerReached {V} C =
    (p : Progress V) → Run C p →
    (p.house.offices ≤ most_offices) × ((r : ℕ) → office_in p.house r < most_offices) × Reached p.house.offices (office_in p.house) p.house.ledger p.line
