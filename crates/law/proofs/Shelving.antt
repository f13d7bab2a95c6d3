-- No call of a run finds that the shelf lacks a place, and a long enough buffer gets the archive.
use Rattle.std.proofs.Common.{◌≡◌, ℕ, ◌≤◌, Bool, true, false, cond, eqb, ltb, leb, List, [], ◌∷◌, length, Some, None, Ok, Err, Option, sym, refl, ap, ◌∙◌, arith}
use Rattle.std.proofs.lemmas.Bool.{cond-false, le-ltb}
use Rattle.std.specs.List.{list_any}
use Rattle.ledger.specs.Model.{LedgerModel, row}
use Rattle.ledger.specs.Opening.{open_fault, withdraw_fault}
use Rattle.ledger.specs.Reading.{read_fault}
use Rattle.ledger.specs.Writing.{write_fault}
use Rattle.ledger.specs.Delivering.{hand_in_fault, deliver_fault}
use Rattle.ledger.specs.Answering.{collect_fault, close_fault}
use Rattle.ledger.specs.declared.fault.LedgerFault.{LedgerFault}
use Rattle.shelves.specs.declared.fault.ShelfFault.{ShelfFault}
use Rattle.shelves.specs.declared.fault.ShelfFault.TheVariants.{Full as ShelfFull, NoSuchPlace}
use Rattle.house.specs.declared.fault.Fault.{Fault}
use Rattle.house.specs.declared.call.Call.{Call}
use Rattle.house.specs.declared.call.Told.{Told}
use Rattle.house.specs.Faults.{after_checks}
use Rattle.house.specs.Model.{HouseModel}
use Rattle.house.specs.Calls.{shelved}
use Rattle.ledger.specs.Answering.{collected}
use Rattle.history.specs.Layout.{Coding}
use Rattle.house.specs.Archiving.{lacks_value, house_archive, archive_told}
use Rattle.house.specs.Runs.{told_as, nothing_more, call_told, Event, Progress}
use Rattle.law.proofs.Entries.{none_missing}
use Rattle.law.proofs.Tying.{Tied, read_found}
use Rattle.house.specs.declared.fault.Fault.TheVariants as fault
use Rattle.house.specs.declared.call.Call.TheVariants as call
use Rattle.house.specs.declared.call.Told.TheVariants as told

module _ {V : Type 0} (p : Progress V) (T : Tied p) where
  abbrev m : HouseModel V
  m = p.house

  abbrev l : LedgerModel
  l = p.house.ledger

  abbrev vs : List V
  vs = p.house.items

  abbrev log : List (Event V)
  log = p.log

  pub none_lacked : lacks_value m ≡ false
  none_lacked = go l.answered
    where
      go : (js : List ℕ) → list_any (λ j. list_any (λ w. leb (length vs) w.place) (row l j).writes) js ≡ false
      go [] = refl
      go (j ∷ js) = let i = go js in let z = none_missing vs (row l j).writes (T.within j) in rw (z, i) refl

  pub archived : (C : Coding V) (buffer : List ℕ) → length (house_archive C m) ≤ length buffer → archive_told C m (length buffer) ≡ Ok (length (house_archive C m))
  archived C buffer b =
      cond-false (lacks_value m) _ _ none_lacked
      ∙ cond-false (ltb (length buffer) (length (house_archive C m))) _ _ (le-ltb (length buffer) (length (house_archive C m)) b)

  ledger_or : {A : Type 0} (g : A → Told V) (o : Option LedgerFault) (a : A) → told_as g (after_checks o (Ok a)) ≡ Err (fault.Shelf NoSuchPlace) → ⊥
  ledger_or g None a e = grind arith
  ledger_or g (Some f) a e = let k : ◌≡◌ {A = Fault} (fault.Ledger f) (fault.Shelf NoSuchPlace) = cc in grind arith

  pub lacks_no_place : (C : Coding V) (c : Call V) → call_told C m c ≡ Err (fault.Shelf NoSuchPlace) → ⊥
  lacks_no_place C (call.Open j k) e = ledger_or nothing_more (open_fault l j) tt e
  lacks_no_place C (call.Read j r) e = let o = read_found p T j r in ledger_or told.Read (read_fault l j r) o.0 (sym (ap (λ t. told_as told.Read (after_checks (read_fault l j r) t)) o.1) ∙ e)
  lacks_no_place C (call.Write j r v) e = go (write_fault l j r) (eqb (length vs) m.room) e
    where
      go : (o : Option LedgerFault) (b : Bool) → told_as {V = V} nothing_more (after_checks o (shelved (cond b (Err ShelfFull) (Ok (length vs))))) ≡ Err (fault.Shelf NoSuchPlace) → ⊥
      go (Some f) b e = let k : ◌≡◌ {A = Fault} (fault.Ledger f) (fault.Shelf NoSuchPlace) = cc in grind arith
      go None true e = let k : ◌≡◌ {A = ShelfFault} ShelfFull NoSuchPlace = cc in grind arith
      go None false e = grind arith
  lacks_no_place C (call.HandIn j) e = ledger_or nothing_more (hand_in_fault l j) tt e
  lacks_no_place C (call.Deliver j o) e = ledger_or nothing_more (deliver_fault m.offices l j o) tt e
  lacks_no_place C (call.Collect j) e = ledger_or told.Collected (collect_fault l j) (collected (row l j).state) e
  lacks_no_place C (call.Close j) e = ledger_or nothing_more (close_fault l j) tt e
  lacks_no_place C (call.Withdraw j) e = ledger_or nothing_more (withdraw_fault l j) tt e
  lacks_no_place C (call.Archive n) e = go (lacks_value m) none_lacked (ltb n (length (house_archive C m))) e
    where
      go : (a : Bool) → a ≡ false → (b : Bool) → told_as {V = V} told.Archived (cond a (Err (fault.Shelf NoSuchPlace)) (cond b (Err (fault.ShortBuffer (length (house_archive C m)))) (Ok (length (house_archive C m))))) ≡ Err (fault.Shelf NoSuchPlace) → ⊥
      go true q b e = grind arith
      go false q true e = let k : ◌≡◌ {A = Fault} (fault.ShortBuffer (length (house_archive C m))) (fault.Shelf NoSuchPlace) = cc in grind arith
      go false q false e = grind arith
