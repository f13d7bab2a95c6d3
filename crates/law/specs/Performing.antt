-- What a call that runs does, and how it continues the runs of the rules; `src/perform.rt` and `src/lib.rt` cite it. Assumes nothing.
use Rattle.std.specs.Prelude.{◌≡◌, ℕ, false, List, ◌∷◌, ◌++◌, length, Some, None, Ok, Option, Result}
use Rattle.house.specs.Model.{HouseModel}
use Rattle.history.specs.Layout.{Coding}
use Rattle.house.specs.Archiving.{house_archive, buffer_after}
use Rattle.house.specs.RowArchiving.{rows_lack, rows_archive, rows_told, rows_buffer}
use Rattle.house.specs.Runs.{told_as, call_told, Event, Progress, proceeded, Run}
use Rattle.house.specs.Log.{writes_in, value_of}
use Rattle.house.specs.declared.fault.Fault.{Fault}
use Rattle.house.specs.declared.call.Call.{Call}
use Rattle.house.specs.declared.call.Call.TheVariants.{Open, Read, Write, HandIn, Deliver, Collect, Close, Withdraw, Archive}
use Rattle.house.specs.declared.call.Told.{Told}
use Rattle.house.specs.declared.call.Told.TheVariants as told
use Rattle.ledger.specs.declared.reading.Reading.TheVariants as reading

module _ {V : Type 0} where
  -- the first where the call is that of the archive, and the second where it is another
  abbrev pub if_archive : {X : Type 0} → Call V → X → X → X
  if_archive (Open j k) x y = y
  if_archive (Read j r) x y = y
  if_archive (Write j r v) x y = y
  if_archive (HandIn j) x y = y
  if_archive (Deliver j o) x y = y
  if_archive (Collect j) x y = y
  if_archive (Close j) x y = y
  if_archive (Withdraw j) x y = y
  if_archive (Archive n) x y = x

  -- a call with a buffer of so many bytes beside it: the archive gets the whole buffer, whatever length its call names
  abbrev pub fitted : Call V → (room : ℕ) → Call V
  fitted c room = if_archive c (Archive room) c

  -- the value that was told as own
  abbrev pub own_value : Told V → Option V
  own_value told.Done = None
  own_value (told.Read reading.Blank) = None
  own_value (told.Read (reading.Own v)) = Some v
  own_value (told.Read (reading.Version n v)) = None
  own_value (told.Collected c) = None
  own_value (told.Archived size) = None

module _ {V : Type 0} (C : Coding V) where
  -- what the code tells: it goes by the rules of the calls, but for the archive by the rows
  abbrev pub performed_told : HouseModel V → Call V → (room : ℕ) → Result (Told V) Fault
  performed_told m c room = if_archive c (told_as told.Archived (rows_told C m room)) (call_told C m c)

  -- what the buffer then holds: the archive alone writes to it
  abbrev pub performed_buffer : HouseModel V → Call V → List ℕ → List ℕ
  performed_buffer m c buffer = if_archive c (rows_buffer C m buffer) buffer

  -- the same by the rules: the archive of the answered jobs
  abbrev pub call_buffer : HouseModel V → Call V → List ℕ → List ℕ
  call_buffer m c buffer = if_archive c (buffer_after C m buffer) buffer

  -- the run with this call added, fitted to its buffer, is a run that has come to this house;
  -- and what was told, and what the buffer holds, is what the rules say in the house where the call began
  pub record Continued (p : Progress V) (c : Call V) (buffer : List ℕ) (t : Result (Told V) Fault) (left : List ℕ) (after : HouseModel V) : Type 0 where
    pub run : Run C (proceeded C p (fitted c (length buffer)))
    pub here : (proceeded C p (fitted c (length buffer))).house ≡ after
    pub told : t ≡ call_told C p.house (fitted c (length buffer))
    pub written : left ≡ call_buffer p.house c buffer

  -- a call with a buffer leads from one house to another: it continues every run that leads to the first
  abbrev pub Continues : HouseModel V → Call V → List ℕ → Result (Told V) Fault → List ℕ → HouseModel V → Type 0
  Continues before c buffer t left after = (p : Progress V) → Run C p → p.house ≡ before → Continued p c buffer t left after

-- in a house that calls have led to, the archive by the rows, which the code goes by, lacks no value and is that of the answered jobs
abbrev pub RowsArchived : {V : Type 0} → Coding V → Type 0
RowsArchived {V} C = (p : Progress V) → Run C p → (rows_lack p.house ≡ false) × (rows_archive C p.house ≡ house_archive C p.house)

-- a read was told as own exactly where its job had written the record before, and then it was told what the job had written last
abbrev pub OwnTold : {V : Type 0} → Coding V → Type 0
OwnTold {V} C =
    (p : Progress V) → Run C p → (later earlier : List (Event V)) (j r : ℕ) (t : Told V) → p.log ≡ later ++ record { call = Read j r; told = Ok t } ∷ earlier →
    own_value t ≡ value_of (writes_in earlier j) r
