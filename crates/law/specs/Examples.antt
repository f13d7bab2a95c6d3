-- Runs by computation, with values that are their own bytes: the law's two sides both occur; `src/lib.rt` cites it. Assumes nothing.
use Rattle.std.specs.Prelude.{◌≡◌, ℕ, List, [], ◌∷◌, map, Ok, Err, Result}
use Rattle.ledger.specs.declared.fault.LedgerFault.TheVariants.{Held, RecordNumber}
use Rattle.ledger.specs.declared.job.JobKind.TheVariants.{Amendment, Inspection}
use Rattle.ledger.specs.declared.job.Mark.TheVariants.{Stale}
use Rattle.history.specs.Examples.{own_bytes}
use Rattle.house.specs.Archiving.{house_archive}
use Rattle.house.specs.Runs.{Event, Progress, beginning, proceeded}
use Rattle.house.specs.Log.{answered_in}
use Rattle.house.specs.declared.fault.Fault.{Fault}
use Rattle.house.specs.declared.fault.Fault.TheVariants.{Ledger, ShortBuffer}
use Rattle.house.specs.declared.call.Call.{Call}
use Rattle.house.specs.declared.call.Call.TheVariants.{Open, Read, Write, HandIn, Deliver, Collect, Close, Withdraw, Archive}
use Rattle.house.specs.declared.call.Told.{Told}
use Rattle.house.specs.declared.call.Told.TheVariants as told
use Rattle.ledger.specs.declared.reading.Reading.TheVariants as reading
use Rattle.ledger.specs.declared.job.Collected.TheVariants.{Answered, Dropped}

abbrev pub after_calls : Progress (List ℕ) → List (Call (List ℕ)) → Progress (List ℕ)
after_calls p [] = p
after_calls p (c ∷ cs) = after_calls (proceeded own_bytes p c) cs

-- 412.00 US dollars
abbrev pub dollars : List ℕ
dollars = 0x48 ∷ 0x03 ∷ 0xF0 ∷ 0xA0 ∷ 0 ∷ 0 ∷ 0 ∷ 0 ∷ 0 ∷ 0 ∷ []

-- an inspection reads before an amendment is installed, and holds it back
abbrev pub day : Progress (List ℕ)
day =
    after_calls (beginning 2 [] 64)
    (Open 1 Amendment ∷ Write 1 0 dollars ∷ HandIn 1 ∷ Open 2 Inspection ∷ Read 2 0 ∷ Deliver 1 0 ∷ Deliver 1 0 ∷ Deliver 1 0 ∷ Collect 1 ∷ Close 2 ∷ Collect 1 ∷ Archive 45 ∷ Archive 46 ∷ [])

-- the same jobs in a house of 5 offices whose shelf was not empty, with other calls between: a second write, refused calls, a job withdrawn, one dropped for a stale read
abbrev pub other : Progress (List ℕ)
other =
    after_calls (beginning 5 (dollars ∷ []) 9)
    (Open 2 Inspection ∷ Open 9 Amendment ∷ Write 9 7 dollars ∷ Withdraw 9 ∷ Read 2 0 ∷ Open 8 Amendment ∷ Read 8 0 ∷ Read 8 64 ∷ Close 2 ∷ Open 1 Amendment ∷ Write 1 0 [] ∷ Write 1 0 dollars ∷ Read 1 0 ∷ HandIn 1 ∷
    Deliver 1 0 ∷ Deliver 1 0 ∷ Deliver 1 0 ∷ HandIn 8 ∷ Deliver 8 0 ∷ Deliver 8 0 ∷ Deliver 8 0 ∷ Collect 8 ∷ Collect 1 ∷ [])

-- the inspection reads after the answer: the order of the two is turned round
abbrev pub turned : Progress (List ℕ)
turned =
    after_calls (beginning 2 [] 64)
    (Open 1 Amendment ∷ Write 1 0 dollars ∷ HandIn 1 ∷ Deliver 1 0 ∷ Deliver 1 0 ∷ Deliver 1 0 ∷ Collect 1 ∷ Open 2 Inspection ∷ Read 2 0 ∷ Close 2 ∷ [])

-- two amendments install, and two inspections that see them in no common order hold both back
abbrev pub crossing : Progress (List ℕ)
crossing =
    after_calls (beginning 2 [] 64)
    (Open 3 Inspection ∷ Read 3 0 ∷ Open 4 Inspection ∷ Read 4 1 ∷ Open 1 Amendment ∷ Write 1 0 dollars ∷ HandIn 1 ∷ Deliver 1 0 ∷ Deliver 1 0 ∷ Deliver 1 0 ∷
    Open 2 Amendment ∷ Write 2 1 dollars ∷ HandIn 2 ∷ Deliver 2 1 ∷ Deliver 2 1 ∷ Deliver 2 1 ∷ Read 3 1 ∷ Read 4 0 ∷ Collect 1 ∷ Collect 2 ∷ Close 3 ∷ Collect 1 ∷ Collect 2 ∷ Close 4 ∷ Collect 2 ∷ Collect 1 ∷ [])

abbrev pub day_archive : List ℕ
day_archive =
    8 ∷ 0 ∷ 0 ∷ 0 ∷ 1 ∷ 0 ∷ 2 ∷ 0 ∷ 1 ∷ 0 ∷ 10 ∷ 0 ∷
    0x12 ∷ 0 ∷ 0 ∷ 0 ∷ 2 ∷ 0 ∷ 1 ∷ 0 ∷ 0 ∷ 1 ∷ 0 ∷ 1 ∷ 0x48 ∷ 0x03 ∷ 0xF0 ∷ 0xA0 ∷ 0 ∷ 0 ∷ 0 ∷ 0 ∷ 0 ∷ 0 ∷
    8 ∷ 0 ∷ 0 ∷ 0 ∷ 3 ∷ 0 ∷ 2 ∷ 0 ∷ 1 ∷ 0 ∷ 0 ∷ 0 ∷ []

abbrev pub all_told : Progress (List ℕ) → List (Result (Told (List ℕ)) Fault)
all_told p = map (λ (e : Event (List ℕ)). e.told) p.log

abbrev done : Result (Told (List ℕ)) Fault
done = Ok told.Done

abbrev blank : Result (Told (List ℕ)) Fault
blank = Ok (told.Read reading.Blank)

abbrev held : Result (Told (List ℕ)) Fault
held = Err (Ledger Held)

abbrev answered : Result (Told (List ℕ)) Fault
answered = Ok (told.Collected Answered)

-- what was told stands with the newest first

-- two runs in different orders, with other offices and another shelf, whose archives are one
pub record Alike : Type 0 where
  pub day_told :
      all_told day ≡
      Ok (told.Archived 46) ∷ Err (ShortBuffer 46) ∷ answered ∷ done ∷ held ∷ done ∷ done ∷ done ∷ blank ∷ done ∷ done ∷ done ∷ done ∷ []
  pub day_answers : answered_in day.log ≡ 1 ∷ 2 ∷ []
  pub other_told :
      all_told other ≡
      answered ∷ Ok (told.Collected (Dropped Stale)) ∷ done ∷ done ∷ done ∷ done ∷ done ∷ done ∷ done ∷ done ∷
      Ok (told.Read (reading.Own dollars)) ∷ done ∷ done ∷ done ∷ done ∷ Err (Ledger RecordNumber) ∷ blank ∷ done ∷ blank ∷ done ∷ done ∷ done ∷ done ∷ []
  pub same : (house_archive own_bytes day.house ≡ day_archive) × (house_archive own_bytes other.house ≡ day_archive)

-- the same jobs, and another archive
pub record Unlike : Type 0 where
  pub turned_told : all_told turned ≡ done ∷ Ok (told.Read (reading.Version 1 dollars)) ∷ done ∷ answered ∷ done ∷ done ∷ done ∷ done ∷ done ∷ done ∷ []
  pub different : house_archive own_bytes day.house ≡ house_archive own_bytes turned.house → ⊥

-- both amendments are held while one of the inspections is open
abbrev pub Crossing : Type 0
Crossing =
    all_told crossing ≡
    answered ∷ answered ∷ done ∷ held ∷ held ∷ done ∷ held ∷ held ∷ blank ∷ blank ∷ done ∷ done ∷ done ∷ done ∷ done ∷ done ∷
    done ∷ done ∷ done ∷ done ∷ done ∷ done ∷ blank ∷ done ∷ blank ∷ done ∷ []
