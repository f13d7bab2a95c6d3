-- A read is told as own exactly where its job has written the record, and then it is told what the job wrote last.
use Rattle.std.proofs.Common.{◌≡◌, ℕ, zero, suc, pred, Bool, true, false, cond, eqb, List, [], ◌∷◌, Some, None, Ok, Err, Option, Result, sym, refl, ap, ◌∙◌, arith}
use mathlib.Core.List.{nil≢cons}
use Rattle.std.specs.Option.{ok_or}
use Rattle.std.specs.List.{slice_get}
use Rattle.shelves.specs.declared.fault.ShelfFault.{ShelfFault}
use Rattle.shelves.specs.declared.fault.ShelfFault.TheVariants.{NoSuchPlace}
use Rattle.ledger.specs.Model.{LedgerModel, row, first_unseen, has_written, written_place}
use Rattle.ledger.specs.Reading.{read_fault, version_read, version_source, read_source}
use Rattle.ledger.specs.declared.job.Read.{Read}
use Rattle.protocol.proofs.RowSteps.{entries}
use Rattle.protocol.proofs.VersionSteps.{written_place_entry, has_written_entry}
use Rattle.history.specs.Layout.{Coding}
use Rattle.house.specs.Calls.{own_reading, version_reading, reading_from, read_told}
use Rattle.house.specs.Log.{writes_in, value_of}
use Rattle.house.specs.Model.{HouseModel}
use Rattle.house.specs.Runs.{told_as, call_told, Event, Progress, begins, proceeds}
use Rattle.house.specs.declared.call.Told.{Told}
use Rattle.house.specs.declared.fault.Fault.{Fault}
use Rattle.ledger.specs.declared.reading.Reading.{Reading}
use Rattle.law.specs.Performing.{own_value, OwnTold}
use Rattle.law.proofs.Entries.{value_of_valued}
use Rattle.law.proofs.Tying.{passed, Tied}
use Rattle.law.proofs.TyingCalls.{tied}
use Rattle.house.specs.declared.call.Call.TheVariants as call
use Rattle.house.specs.declared.call.Told.TheVariants as told
use Rattle.ledger.specs.declared.reading.Reading.TheVariants as reading

module _ {V : Type 0} where
  own_some : (o : Option V) (x : Reading V) → own_reading (ok_or o NoSuchPlace) ≡ Ok x → own_value (told.Read x) ≡ o
  own_some None x e = absurd (grind arith)
  own_some (Some v) x e = let s : reading.Own v ≡ x = (let k : ◌≡◌ {A = Result (Reading V) Fault} (Ok (reading.Own v)) (Ok x) = e in cc) in ap (λ y. own_value (told.Read y)) (sym s)

  version_none : (n : ℕ) (t : Result V ShelfFault) (x : Reading V) → version_reading n t ≡ Ok x → own_value (told.Read x) ≡ None
  version_none n (Err f) x e = absurd (grind arith)
  version_none n (Ok v) x e = let s : reading.Version n v ≡ x = (let k : ◌≡◌ {A = Result (Reading V) Fault} (Ok (reading.Version n v)) (Ok x) = e in cc) in ap (λ y. own_value (told.Read y)) (sym s)

  installed_none : (l : LedgerModel) (vs : List V) (r n : ℕ) (x : Reading V) → reading_from vs (version_source l r n) ≡ Ok x → own_value (told.Read x) ≡ None
  installed_none l vs r zero x e = let s : reading.Blank ≡ x = (let k : ◌≡◌ {A = Result (Reading V) Fault} (Ok reading.Blank) (Ok x) = e in cc) in ap (λ y. own_value (told.Read y)) (sym s)
  installed_none l vs r (suc i) x e = version_none (suc i) _ x e

  module _ (p : Progress V) (T : Tied p) (j r : ℕ) where
    abbrev m : HouseModel V
    m = p.house

    abbrev l : LedgerModel
    l = p.house.ledger

    abbrev vs : List V
    vs = p.house.items

    abbrev W : List Read
    W = entries (row l j).writes

    -- the value that the job wrote last, by its row
    last_written : value_of (writes_in p.log j) r ≡ cond (eqb (first_unseen W r) 0) None (slice_get vs (pred (first_unseen W r)))
    last_written = ap (λ ws. value_of ws r) (sym (T.writes j)) ∙ value_of_valued vs W r (T.within j)

    own_read : (x : Reading V) → read_told m j r ≡ Ok x → own_value (told.Read x) ≡ value_of (writes_in p.log j) r
    own_read x e = go (has_written (row l j).writes r) refl (passed (read_fault l j r) (reading_from vs (read_source l (row l j) r)) x e).1 ∙ sym last_written
      where
        go : (b : Bool) → has_written (row l j).writes r ≡ b → reading_from vs (cond b (reading.Own (written_place (row l j).writes r)) (version_source l r (version_read l (row l j) r))) ≡ Ok x →
            own_value (told.Read x) ≡ cond (eqb (first_unseen W r) 0) None (slice_get vs (pred (first_unseen W r)))
        go true w g =
            let n : eqb (first_unseen W r) 0 ≡ false = grind (arith, has_written_entry (row l j).writes r) in
            own_some (slice_get vs (written_place (row l j).writes r)) x g ∙ ap (slice_get vs) (written_place_entry (row l j).writes r) ∙ sym (ap (λ b. cond b None (slice_get vs (pred (first_unseen W r)))) n)
        go false w g =
            let n : eqb (first_unseen W r) 0 ≡ true = grind (arith, has_written_entry (row l j).writes r) in
            installed_none l vs r (version_read l (row l j) r) x g ∙ sym (ap (λ b. cond b None (slice_get vs (pred (first_unseen W r)))) n)

    own_step : (t : Told V) → told_as told.Read (read_told m j r) ≡ Ok t → own_value t ≡ value_of (writes_in p.log j) r
    own_step t e = go (read_told m j r) refl e
      where
        go : (o : Result (Reading V) Fault) → read_told m j r ≡ o → told_as told.Read o ≡ Ok t → own_value t ≡ value_of (writes_in p.log j) r
        go (Ok x) q e = let s : told.Read x ≡ t = (let k : ◌≡◌ {A = Result (Told V) Fault} (Ok (told.Read x)) (Ok t) = e in cc) in ap own_value (sym s) ∙ own_read x q
        go (Err f) q e = absurd (grind arith)

  pub owns : (C : Coding V) → OwnTold C
  owns C p (begins offices items room) [] earlier j r t e = absurd (nil≢cons e)
  owns C p (begins offices items room) (x ∷ later) earlier j r t e = absurd (nil≢cons e)
  owns C p (proceeds {p = q} s c) [] earlier j r t e =
      let a : ◌≡◌ {A = Event V} (record { call = c; told = call_told C q.house c }) (record { call = call.Read j r; told = Ok t }) = cc in
      let b : c ≡ call.Read j r = ap (λ (x : Event V). x.call) a in
      let d : call_told C q.house c ≡ Ok t = ap (λ (x : Event V). x.told) a in
      let g : q.log ≡ earlier = cc in
      own_step q (tied C q s) j r t (ap (λ k. call_told C q.house k) (sym b) ∙ d) ∙ ap (λ es. value_of (writes_in es j) r) g
  owns C p (proceeds {p = q} s c) (x ∷ later) earlier j r t e = owns C q s later earlier j r t (cc)
