-- Worked cases of the rules, in one list, and what each says; `src/lib.rt` cites it. Assumes nothing.
use Rattle.std.specs.Prelude.{◌≡◌, ℕ, true, List, [], ◌∷◌, ℤ, pos, negsuc, Ok, Err, Result}
use Rattle.std.specs.Option.{ok_or}
use Rattle.std.specs.List.{AllByRecursion}
use Rattle.std.specs.Result.{result_map_both}
use Rattle.values.specs.Amounts.{amount_from_numbers}
use Rattle.values.specs.Standings.{reason_of, standing_bytes}
use Rattle.values.specs.Faults.{value_fault_number}
use Rattle.values.specs.declared.amount.Amount.{Amount}
use Rattle.values.specs.declared.fault.ValueFault.{ValueFault}
use Rattle.values.specs.declared.fault.ValueFault.TheVariants.{OutOfRange}
use Rattle.values.specs.declared.standing.Standing.TheVariants.{Stopped}
use Rattle.shelves.specs.FramedBytes.{frames_in}
use Rattle.ledger.specs.Model.{RowModel}
use Rattle.ledger.specs.Answering.{precedes}
use Rattle.ledger.specs.declared.job.JobKind.TheVariants.{Amendment}
use Rattle.ledger.specs.declared.job.State.TheVariants.{Accepted}
use Rattle.ledger.specs.declared.job.Read.{Read}
use Rattle.ledger.specs.declared.job.Write.{Write}
use Rattle.house.specs.Archiving.{house_archive}
use Rattle.house.specs.Committing.{office_in}
use Rattle.house.specs.Model.{built}
use Rattle.history.specs.Layout.{coding}
use Rattle.values.specs.declared.amount.AmountCell.{AmountCell}
use Rattle.values.specs.declared.value.Value.{Ghosts as Kind}

-- the bytes of a value that is made, or the number of the refusal
abbrev pub made_bytes : {V : Type 0} → (V → List ℕ) → Result V ValueFault → Result (List ℕ) ℕ
made_bytes bytes made = result_map_both bytes value_fault_number made

-- the row of an accepted amendment with these lists
abbrev pub accepted : List Read → List Write → RowModel
accepted rs ws = record { kind = Amendment; state = Accepted; reads = rs; writes = ws; exchanges = [] }

-- record 0 read at a version
abbrev pub has_read : ℕ → RowModel
has_read n = accepted (record { «record» = 0; version = n } ∷ []) []

-- record 0 installed as a version
abbrev pub has_installed : ℕ → RowModel
has_installed n = accepted [] (record { «record» = 0; place = 0; version = n } ∷ [])

pub data Case : Type 0 where
  -- in a house of so many offices, the record belongs to this office
  owned : (offices «record» office : ℕ) → Case
  -- so many units of the currency with a number are these bytes, or are refused with this number
  amount : (currency : ℕ) (units : ℤ) (made : Result (List ℕ) ℕ) → Case
  -- stopped for this reason is these bytes, or is refused with this number
  stopped : (reason : ℕ) (made : Result (List ℕ) ℕ) → Case
  -- a byte shelf of so many bytes has room for so many amounts
  room : (bytes count : ℕ) → Case
  -- a job with the first row precedes one with the second
  before : (first later : RowModel) → Case
  -- an unused house of amounts, whatever its offices and its shelf, has this archive
  unused : (archive : List ℕ) → Case

-- what a case says, where K is what the kind of value of amounts says of itself
abbrev pub Holds : Kind Amount AmountCell → Case → Type 0
Holds K (owned offices r office) = office_in (built {V = Amount} offices [] 0) r ≡ office
Holds K (amount currency units made) = made_bytes K.bytes (amount_from_numbers currency units) ≡ made
Holds K (stopped reason made) = made_bytes (λ r. standing_bytes (Stopped r)) (ok_or (reason_of reason) OutOfRange) ≡ made
Holds K (room bytes count) = frames_in K bytes ≡ count
Holds K (before first later) = precedes first later ≡ true
Holds K (unused archive) = (offices : ℕ) (items : List Amount) (capacity : ℕ) → house_archive (coding K) (built offices items capacity) ≡ archive

abbrev pub cases : List Case
cases =
    owned 5 13 3 ∷
    amount 840 (pos 41200) (Ok (0x48 ∷ 0x03 ∷ 0xF0 ∷ 0xA0 ∷ 0 ∷ 0 ∷ 0 ∷ 0 ∷ 0 ∷ 0 ∷ [])) ∷
    amount 392 (negsuc 0) (Ok (0x88 ∷ 0x01 ∷ 0xFF ∷ 0xFF ∷ 0xFF ∷ 0xFF ∷ 0xFF ∷ 0xFF ∷ 0xFF ∷ 0xFF ∷ [])) ∷
    amount 840 (pos 999999999999) (Ok (0x48 ∷ 0x03 ∷ 0xFF ∷ 0x0F ∷ 0xA5 ∷ 0xD4 ∷ 0xE8 ∷ 0 ∷ 0 ∷ 0 ∷ [])) ∷
    amount 840 (pos 1000000000000) (Err 17) ∷
    stopped 99 (Ok (0x03 ∷ 0x63 ∷ 0 ∷ 0 ∷ 0 ∷ [])) ∷
    room 32 2 ∷
    room 31 1 ∷
    before (has_installed 2) (has_read 2) ∷
    before (has_read 1) (has_installed 2) ∷
    unused (8 ∷ 0 ∷ 0 ∷ 0 ∷ 1 ∷ 0 ∷ 0 ∷ 0 ∷ 1 ∷ 0 ∷ 10 ∷ 0 ∷ []) ∷
    []

-- every case holds
abbrev pub Figures : Kind Amount AmountCell → Type 0
Figures K = AllByRecursion (Holds K) cases
