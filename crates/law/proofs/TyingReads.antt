-- An accepted read keeps log and house tied: it tells what the row then lists, or the job's own write and lists nothing.
use Rattle.std.proofs.Common.{◌≡◌, ℕ, suc, pred, ◌<◌, Bool, true, false, cond, not, ◌&&◌, eqb, List, [], ◌∷◌, ◌++◌, length, None, Ok, Result, sym, refl, ap, ◌∙◌, subst, arith}
use Rattle.std.proofs.lemmas.List.{map_push}
use Rattle.ledger.specs.Model.{LedgerModel, row, first_unseen, has_written, written_place}
use Rattle.ledger.specs.Reading.{newest, is_new_read, read_fault, version_read, version_source, read_source, read_done}
use Rattle.ledger.specs.declared.job.Read.{Read}
use Rattle.protocol.specs.Calls.{call_read, line_after}
use Rattle.protocol.proofs.Lookups.{unseen_push}
use Rattle.protocol.proofs.RowSteps.{entries, Core, core, core_after}
use Rattle.house.specs.declared.fault.Fault.{Fault}
use Rattle.ledger.specs.declared.reading.Reading.{Reading}
use Rattle.house.specs.Model.{HouseModel}
use Rattle.house.specs.Calls.{reading_from, read_told, read_after}
use Rattle.house.specs.Committing.{office_in}
use Rattle.house.specs.Runs.{told_as, Event, Progress}
use Rattle.house.specs.Log.{contains, Occurrence, read, occurrence_of, occurrence, kind_by, reads_by, writes_by, answers_by}
use Rattle.law.proofs.Entries.{Within, records_of, contains_record, valued}
use Rattle.law.proofs.Tying.{passed, version_told, Tied, read_low, version_found, own_found, rows, told_stays, advanced, unseen}
use Rattle.ledger.specs.declared.reading.Reading.TheVariants as reading
use Rattle.house.specs.declared.call.Call.TheVariants as call
use Rattle.house.specs.declared.call.Told.TheVariants as told

module _ {V : Type 0} (p : Progress V) (T : Tied p) where
  abbrev m : HouseModel V
  m = p.house

  abbrev l : LedgerModel
  l = p.house.ledger

  abbrev vs : List V
  vs = p.house.items

  abbrev office : ℕ → ℕ
  office = office_in p.house

  abbrev W : ℕ → List Read
  W k = entries (row l k).writes

  -- a read of what the job wrote lists nothing
  own_tied : (j r : ℕ) (v : V) → read_fault l j r ≡ None → has_written (row l j).writes r ≡ true →
      Tied (record { house = read_after m j r; log = record { call = call.Read j r; told = Ok (told.Read (reading.Own v)) } ∷ p.log; line = line_after l (read_done l j r) j p.line })
  own_tied j r v f w =
      unseen p T (call_read j r) f (record { call = call.Read j r; told = Ok (told.Read (reading.Own v)) }) (λ k x. ap (λ y. y.reads) (same k x)) (λ k x. ap (λ y. y.writes) (same k x)) refl (λ k x. ap (λ y. y.kind) (same k x)) refl
    where
      not_new : is_new_read (row l j) r ≡ false
      not_new = grind arith

      same : (k : ℕ) (x : Core) → core_after l (call_read j r) k x ≡ x
      same k x = ap (λ b. cond (eqb k j && b) (record { kind = x.kind; reads = x.reads ++ record { «record» = r; version = newest l (row l j) r } ∷ []; writes = x.writes }) x) not_new ∙ go (eqb k j)
        where
          go : (t : Bool) → cond (t && false) (record { kind = x.kind; reads = x.reads ++ record { «record» = r; version = newest l (row l j) r } ∷ []; writes = x.writes }) x ≡ x
          go true = refl
          go false = refl

  -- another read tells the version that is then listed
  version_tied : (j r : ℕ) (x : Reading V) → read_fault l j r ≡ None → has_written (row l j).writes r ≡ false → reading_from vs (version_source l r (version_read l (row l j) r)) ≡ Ok x →
      Tied (record { house = read_after m j r; log = record { call = call.Read j r; told = Ok (told.Read x) } ∷ p.log; line = line_after l (read_done l j r) j p.line })
  version_tied j r x f w g =
      advanced p T (call_read j r) f vs e
      (record {
        old = λ i b. refl;
        within = λ k. subst (Within (length vs)) (sym (after_writes k (eqb k j && is_new_read (row l j) r))) (T.within k);
        reads = λ k. added k ∙ sym (ap (λ D. reads_by k D (records_of (row l k).reads)) D);
        writes = λ k. ap (valued vs) (after_writes k (eqb k j && is_new_read (row l j) r)) ∙ sym (ap (λ D. writes_by k D (valued vs (W k))) D);
        kinds = λ k. after_kind k (eqb k j && is_new_read (row l j) r) ∙ sym (ap (λ D. kind_by k D (row l k).kind) D);
        answers = sym (ap (λ D. answers_by D l.answered) D);
        told = λ i s q.
            let y : ◌≡◌ {A = Occurrence V} (read j r) (read i s) = sym D ∙ q in
            let a : j ≡ i = cc in
            let b : r ≡ s = cc in
            subst (λ U. (0 < first_unseen (row (read_done l j r) U).reads s) × (version_told (read_done l j r) vs s (pred (first_unseen (row (read_done l j r) U).reads s)) ≡ e.told)) a
            (subst (λ u. (0 < first_unseen (row (read_done l j r) j).reads u) × (version_told (read_done l j r) vs u (pred (first_unseen (row (read_done l j r) j).reads u)) ≡ e.told)) b (
              omega (arith, listed),
              ap (λ z. version_told (read_done l j r) vs r (pred z)) listed ∙ told_stays p T (call_read j r) f vs e (λ i l. refl) r n (read_low p T j r) ∙ ap (told_as told.Read) g,
            ));
      })
    where
      e : Event V
      e = record { call = call.Read j r; told = Ok (told.Read x) }

      xs : List Read
      xs = (row l j).reads

      n : ℕ
      n = version_read l (row l j) r

      D : occurrence e ≡ read j r
      D =
          let o = version_found p T r n (read_low p T j r) in
          let s : x ≡ o.0 = (let k : ◌≡◌ {A = Result (Reading V) Fault} (Ok x) (Ok o.0) = sym g ∙ o.1 in cc) in
          ap (λ y. occurrence_of (call.Read j r) (Ok (told.Read y))) s ∙ o.2 j

      row_after_read : ℕ → Bool → Core
      row_after_read k b = cond b (record { kind = (row l k).kind; reads = (row l k).reads ++ record { «record» = r; version = newest l (row l j) r } ∷ []; writes = W k }) (core (row l k))

      after_writes : (k : ℕ) (b : Bool) → (row_after_read k b).writes ≡ W k
      after_writes k true = refl
      after_writes k false = refl

      after_kind : (k : ℕ) (b : Bool) → (row_after_read k b).kind ≡ (row l k).kind
      after_kind k true = refl
      after_kind k false = refl

      new_is : is_new_read (row l j) r ≡ eqb (first_unseen xs r) 0
      new_is = rest (eqb (first_unseen xs r) 0) (has_written (row l j).writes r) w
        where
          rest : (a b : Bool) → b ≡ false → a && not b ≡ a
          rest a b q = grind arith

      added : (k : ℕ) → records_of (row_after_read k (eqb k j && is_new_read (row l j) r)).reads ≡ cond (eqb k j && not (contains (records_of (row l k).reads) r)) (records_of (row l k).reads ++ r ∷ []) (records_of (row l k).reads)
      added k = go (eqb k j) refl
        where
          ys : List Read
          ys = (row l k).reads

          here : k ≡ j → is_new_read (row l j) r ≡ not (contains (records_of ys) r)
          here i = new_is ∙ sym (ap not (contains_record ys r) ∙ twice (eqb (first_unseen ys r) 0) ∙ ap (λ u. eqb (first_unseen (row l u).reads r) 0) i)
            where
              twice : (a : Bool) → not (not a) ≡ a
              twice true = refl
              twice false = refl

          both : (b c : Bool) → b ≡ c → records_of (row_after_read k b).reads ≡ cond c (records_of ys ++ r ∷ []) (records_of ys)
          both true true q = map_push (λ (z : Read). z.«record») ys (record { «record» = r; version = newest l (row l j) r })
          both true false q = absurd (grind arith)
          both false true q = absurd (grind arith)
          both false false q = refl

          go : (a : Bool) → eqb k j ≡ a → records_of (row_after_read k (a && is_new_read (row l j) r)).reads ≡ cond (a && not (contains (records_of ys) r)) (records_of ys ++ r ∷ []) (records_of ys)
          go true i = both (is_new_read (row l j) r) (not (contains (records_of ys) r)) (here (grind arith))
          go false i = refl

      listed : first_unseen (row (read_done l j r) j).reads r ≡ suc n
      listed = ap (λ y. first_unseen y.reads r) (rows p T (call_read j r) f vs e j) ∙ pick (eqb j j) (grind arith) (eqb (first_unseen xs r) 0) refl (is_new_read (row l j) r) new_is
        where
          pick : (a : Bool) → a ≡ true → (b : Bool) → eqb (first_unseen xs r) 0 ≡ b → (c : Bool) → c ≡ eqb (first_unseen xs r) 0 → first_unseen (row_after_read j (a && c)).reads r ≡ suc (cond b (newest l (row l j) r) (pred (first_unseen xs r)))
          pick true s true q true i = unseen_push xs r (newest l (row l j) r) r (grind arith) ∙ (let z : eqb r r ≡ true = grind arith in rw z refl)
          pick true s false q false i = grind arith
          pick true s true q false i = absurd (grind arith)
          pick true s false q true i = absurd (grind arith)
          pick false s b q c i = absurd (grind arith)

  pub read_tied : (j r : ℕ) (x : Reading V) → read_told m j r ≡ Ok x →
      Tied (record { house = read_after m j r; log = record { call = call.Read j r; told = Ok (told.Read x) } ∷ p.log; line = line_after l (read_done l j r) j p.line })
  read_tied j r x e = go (has_written (row l j).writes r) refl o.1
    where
      o : (read_fault l j r ≡ None) × (reading_from vs (read_source l (row l j) r) ≡ Ok x)
      o = passed (read_fault l j r) (reading_from vs (read_source l (row l j) r)) x e

      go : (b : Bool) → has_written (row l j).writes r ≡ b → reading_from vs (cond b (reading.Own (written_place (row l j).writes r)) (version_source l r (version_read l (row l j) r))) ≡ Ok x →
          Tied (record { house = read_after m j r; log = record { call = call.Read j r; told = Ok (told.Read x) } ∷ p.log; line = line_after l (read_done l j r) j p.line })
      go true w g =
          let v = own_found p T j r w in
          let s : reading.Own v.0 ≡ x = (let k : ◌≡◌ {A = Result (Reading V) Fault} (Ok (reading.Own v.0)) (Ok x) = sym v.1 ∙ g in cc) in
          subst (λ y. Tied (record { house = read_after m j r; log = record { call = call.Read j r; told = Ok (told.Read y) } ∷ p.log; line = line_after l (read_done l j r) j p.line })) s (own_tied j r v.0 o.0 w)
      go false w g = version_tied j r x o.0 w g
