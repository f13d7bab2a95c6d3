-- A step of the house for each call, and runs: any list of calls to a newly built house, with what they told. Assumes nothing.
use Rattle.std.specs.Prelude.{ℕ, List, [], ◌∷◌, Result}
use Rattle.std.specs.Result.{result_map_both}
use Rattle.ledger.specs.Model.{LedgerModel}
use Rattle.protocol.specs.Calls.{line_after}
use Rattle.house.specs.Faults.{kept}
use Rattle.house.specs.Model.{HouseModel, built}
use Rattle.house.specs.Calls.{open_told, open_after, withdraw_told, withdraw_after, read_told, read_after, write_told, write_after}
use Rattle.house.specs.Committing.{hand_in_told, hand_in_after, deliver_told, deliver_after, collect_told, collect_after, close_told, close_after}
use Rattle.history.specs.Layout.{Coding}
use Rattle.house.specs.Archiving.{archive_told}
use Rattle.house.specs.declared.fault.Fault.{Fault}
use Rattle.house.specs.declared.call.Call.{Call}
use Rattle.house.specs.declared.call.Call.TheVariants.{Open, Read, Write, HandIn, Deliver, Collect, Close, Withdraw, Archive}
use Rattle.house.specs.declared.call.Told.{Told}
use Rattle.house.specs.declared.call.Told.TheVariants as told

-- what a call told, said as a value of `Told`
abbrev pub told_as : {A V : Type 0} → (A → Told V) → Result A Fault → Result (Told V) Fault
told_as f t = result_map_both f (λ e. e) t

module _ {V : Type 0} where
  abbrev pub nothing_more : Unit {0} → Told V
  nothing_more x = told.Done

-- what a call told, and how the house then stands
module _ {V : Type 0} (C : Coding V) where
  abbrev pub call_told : HouseModel V → Call V → Result (Told V) Fault
  call_told m (Open j k) = told_as nothing_more (open_told m j)
  call_told m (Read j r) = told_as told.Read (read_told m j r)
  call_told m (Write j r v) = told_as nothing_more (write_told m j r)
  call_told m (HandIn j) = told_as nothing_more (hand_in_told m j)
  call_told m (Deliver j o) = told_as nothing_more (deliver_told m j o)
  call_told m (Collect j) = told_as told.Collected (collect_told m j)
  call_told m (Close j) = told_as nothing_more (close_told m j)
  call_told m (Withdraw j) = told_as nothing_more (withdraw_told m j)
  call_told m (Archive n) = told_as told.Archived (archive_told C m n)

  abbrev pub call_after : HouseModel V → Call V → HouseModel V
  call_after m (Open j k) = kept (open_told m j) m (open_after m j k)
  call_after m (Read j r) = kept (read_told m j r) m (read_after m j r)
  call_after m (Write j r v) = kept (write_told m j r) m (write_after m j r v)
  call_after m (HandIn j) = kept (hand_in_told m j) m (hand_in_after m j)
  call_after m (Deliver j o) = kept (deliver_told m j o) m (deliver_after m j o)
  call_after m (Collect j) = kept (collect_told m j) m (collect_after m j)
  call_after m (Close j) = kept (close_told m j) m (close_after m j)
  call_after m (Withdraw j) = kept (withdraw_told m j) m (withdraw_after m j)
  call_after m (Archive n) = m

  abbrev pub step : HouseModel V → Call V → Result (Told V) Fault × HouseModel V
  step m c = (call_told m c, call_after m c)

-- a call and what it told
pub record Event (V : Type 0) : Type 0 where
  pub call : Call V
  pub told : Result (Told V) Fault

-- how far a run has come: the house, the log with the newest event first, and the line of the accepted and unanswered jobs in the order of their decisions
pub record Progress (V : Type 0) : Type 0 where
  pub house : HouseModel V
  pub log : List (Event V)
  pub line : List ℕ

abbrev pub beginning : {V : Type 0} → ℕ → List V → ℕ → Progress V
beginning offices items room = record { house = built offices items room; log = []; line = [] }

-- the line after a call that led from the first ledger to the second
abbrev pub line_through : {V : Type 0} → Call V → LedgerModel → LedgerModel → List ℕ → List ℕ
line_through (Open j k) before after q = line_after before after j q
line_through (Read j r) before after q = line_after before after j q
line_through (Write j r v) before after q = line_after before after j q
line_through (HandIn j) before after q = line_after before after j q
line_through (Deliver j o) before after q = line_after before after j q
line_through (Collect j) before after q = line_after before after j q
line_through (Close j) before after q = line_after before after j q
line_through (Withdraw j) before after q = line_after before after j q
line_through (Archive n) before after q = q

module _ {V : Type 0} (C : Coding V) where
  abbrev pub proceeded : Progress V → Call V → Progress V
  proceeded p c =
      record {
        house = call_after C p.house c;
        log = record { call = c; told = call_told C p.house c } ∷ p.log;
        line = line_through c p.house.ledger (call_after C p.house c).ledger p.line;
      }

  -- any calls, accepted and refused ones, to a newly built house with any number of offices and any shelf
  pub data Run : Progress V → Type 0 where
    begins : (offices : ℕ) (items : List V) (room : ℕ) → Run (beginning offices items room)
    proceeds : {p : Progress V} → Run p → (c : Call V) → Run (proceeded p c)
