-- What ties the log of a run to the house that it led to, and how an accepted call of the ledger keeps it.
use Rattle.std.proofs.Common.{◌≡◌, ℕ, zero, suc, pred, ◌<◌, ◌≤◌, Bool, true, false, cond, eqb, List, ◌∷◌, length, get_or, Some, None, Ok, Option, Result, sym, refl, ap, ◌∙◌, subst, arith}
use Rattle.std.specs.Option.{ok_or}
use Rattle.std.specs.List.{slice_get, AllByRecursion}
use Rattle.std.proofs.lemmas.Nat.{mod_below}
use Rattle.std.proofs.ByRecursion.{All-weaker}
use Rattle.ledger.specs.Limits.{most_offices}
use Rattle.ledger.specs.Faults.{guarded}
use Rattle.ledger.specs.Model.{LedgerModel, row, versions, is_amendment, is_answered, first_unseen, has_written, written_place}
use Rattle.ledger.specs.Reading.{newest_answered, version_read, no_version, version_source, read_source}
use Rattle.ledger.specs.declared.fault.LedgerFault.{LedgerFault}
use Rattle.ledger.specs.declared.job.Read.{Read}
use Rattle.protocol.specs.Calls.{LedgerCall, job_of, fault_of, done_by, line_after, Reached, next}
use Rattle.protocol.proofs.Lookups.{highest_small}
use Rattle.protocol.proofs.Matching.{Matched, invariants_of}
use Rattle.protocol.proofs.Stepping.{reached_matched}
use Rattle.protocol.proofs.RowSteps.{entries, Core, core, core_after, answers_after, core_done, answers_done}
use Rattle.protocol.proofs.VersionSteps.{Placed, written_place_entry, has_written_entry, installed_as, placed_done, version_stands}
use Rattle.shelves.specs.declared.fault.ShelfFault.TheVariants.{NoSuchPlace}
use Rattle.house.specs.declared.fault.Fault.{Fault}
use Rattle.ledger.specs.declared.reading.Reading.{Reading}
use Rattle.house.specs.declared.call.Told.{Told}
use Rattle.house.specs.Faults.{after_checks}
use Rattle.house.specs.Model.{HouseModel, with_ledger}
use Rattle.house.specs.Calls.{own_reading, version_reading, reading_from}
use Rattle.house.specs.Committing.{office_in}
use Rattle.house.specs.Runs.{told_as, Event, Progress}
use Rattle.house.specs.Log.{Occurrence, read, answered, nothing, occurrence_of, occurrence, kind_by, reads_by, writes_by, answers_by, kind_in, reads_in, writes_in, answered_in}
use Rattle.law.proofs.Entries.{Within, OnceEach, within_found, records_of, once_reads_after, once_writes_after, listed_stays, nth_some, valued}
use Rattle.ledger.specs.declared.reading.Reading.TheVariants as reading
use Rattle.house.specs.declared.call.Call.TheVariants as call
use Rattle.house.specs.declared.call.Told.TheVariants as told

-- what a passed check says
pub passed : {A : Type 0} (o : Option LedgerFault) (t : Result A Fault) (a : A) → after_checks o t ≡ Ok a → (o ≡ None) × (t ≡ Ok a)
passed None t a e = (refl, e)
passed (Some f) t a e = absurd (grind arith)

module _ {V : Type 0} where
  -- what a read of version n of record r tells
  abbrev pub version_told : LedgerModel → List V → ℕ → ℕ → Result (Told V) Fault
  version_told l vs r n = told_as told.Read (reading_from vs (version_source l r n))

  -- a read told the version that the job's row lists
  abbrev pub ToldAsListed : LedgerModel → List V → Event V → Type 0
  ToldAsListed l vs e = (j r : ℕ) → occurrence e ≡ read j r → (0 < first_unseen (row l j).reads r) × (version_told l vs r (pred (first_unseen (row l j).reads r)) ≡ e.told)

  pub record Tied (p : Progress V) : Type 0 where
    pub some : 0 < p.house.offices
    pub few : p.house.offices ≤ most_offices
    pub reached : Reached p.house.offices (office_in p.house) p.house.ledger p.line
    pub placed : Placed p.house.ledger
    -- each listed place is on the shelf
    pub within : (j : ℕ) → Within (length p.house.items) (entries (row p.house.ledger j).writes)
    pub once_reads : (j : ℕ) → OnceEach (row p.house.ledger j).reads
    pub once_writes : (j : ℕ) → OnceEach (entries (row p.house.ledger j).writes)
    pub reads : (j : ℕ) → records_of (row p.house.ledger j).reads ≡ reads_in p.log j
    pub writes : (j : ℕ) → valued p.house.items (entries (row p.house.ledger j).writes) ≡ writes_in p.log j
    pub kinds : (j : ℕ) → (row p.house.ledger j).kind ≡ kind_in p.log j
    pub answers : p.house.ledger.answered ≡ answered_in p.log
    pub told : AllByRecursion (ToldAsListed p.house.ledger p.house.items) p.log

  not_read : (j r : ℕ) (x : Occurrence V) → x ≡ nothing → x ≡ read j r → ⊥
  not_read j r x p q = let e : ◌≡◌ {A = Occurrence V} nothing (read j r) = sym p ∙ q in grind arith

  module _ (p : Progress V) (T : Tied p) where
    abbrev m : HouseModel V
    m = p.house

    abbrev l : LedgerModel
    l = p.house.ledger

    abbrev vs : List V
    vs = p.house.items

    abbrev office : ℕ → ℕ
    office = office_in p.house

    abbrev W : ℕ → List Read
    W k = entries (row l k).writes

    pub office_small : (r : ℕ) → office r < most_offices
    office_small r = let a = mod_below r m.offices T.some in let b = T.few in omega arith

    pub matched : Matched office l p.line
    matched = reached_matched m.offices office T.few office_small l p.line T.reached

    -- the job of an installed version wrote the record, and its place is on the shelf
    place_held : (r i : ℕ) → i < length (versions l r) → (get_or (versions l r) i no_version).place < length vs
    place_held r i b =
        let U = (get_or (versions l r) i no_version).job in
        let e = installed_as matched m.offices r i b in
        let w : has_written (row l U).writes r ≡ true = sym ((matched.rows.each U).wrote_is r) ∙ (invariants_of matched).installed_written U r (omega arith) in
        let y : 0 < first_unseen (W U) r = grind (arith, has_written_entry (row l U).writes r) in
        rw (T.placed r i b, written_place_entry (row l U).writes r) (within_found (length vs) (W U) r (T.within U) y)

    listed_low : (j r : ℕ) → pred (first_unseen (row l j).reads r) ≤ length (versions l r)
    listed_low j r = grind (arith, (invariants_of matched).reads_installed j r, (matched.rows.each j).unseen_is r, matched.count_is r)

    -- the version that a read would list is installed
    pub read_low : (j r : ℕ) → version_read l (row l j) r ≤ length (versions l r)
    read_low j r = go (eqb (first_unseen (row l j).reads r) 0) (is_amendment (row l j).kind)
      where
        go : (a b : Bool) → cond a (cond b (length (versions l r)) (newest_answered l r)) (pred (first_unseen (row l j).reads r)) ≤ length (versions l r)
        go true true = omega arith
        go true false = highest_small (λ v. is_answered (row l v.job).state) (versions l r)
        go false b = listed_low j r

    -- so no read of it finds that the shelf lacks a place
    pub version_found : (r n : ℕ) → n ≤ length (versions l r) → (x : Reading V) × (reading_from vs (version_source l r n) ≡ Ok x) × ((j : ℕ) → occurrence_of (call.Read j r) (Ok (told.Read x)) ≡ read j r)
    version_found r zero b = (reading.Blank, refl, λ j. refl)
    version_found r (suc i) b =
        let s = nth_some vs (get_or (versions l r) i no_version).place (place_held r i (omega arith)) in
        (reading.Version (suc i) s.0, ap (λ o. version_reading (suc i) (ok_or o NoSuchPlace)) s.1, λ j. refl)

    pub own_found : (j r : ℕ) → has_written (row l j).writes r ≡ true → (v : V) × (reading_from vs (reading.Own (written_place (row l j).writes r)) ≡ Ok (reading.Own v))
    own_found j r w = (s.0, ap (λ n. own_reading (ok_or (slice_get vs n) NoSuchPlace)) (written_place_entry (row l j).writes r) ∙ ap (λ o. own_reading (ok_or o NoSuchPlace)) s.1)
      where
        place : ℕ
        place = pred (first_unseen (W j) r)

        s : (v : V) × (slice_get vs place ≡ Some v)
        s = nth_some vs place (within_found (length vs) (W j) r (T.within j) (grind (arith, has_written_entry (row l j).writes r)))

    pub read_found : (j r : ℕ) → (x : Reading V) × (reading_from vs (read_source l (row l j) r) ≡ Ok x)
    read_found j r = go (has_written (row l j).writes r) refl
      where
        go : (b : Bool) → has_written (row l j).writes r ≡ b → (x : Reading V) × (reading_from vs (cond b (reading.Own (written_place (row l j).writes r)) (version_source l r (version_read l (row l j) r))) ≡ Ok x)
        go true w = let o = own_found j r w in (reading.Own o.0, o.1)
        go false w = let o = version_found r (version_read l (row l j) r) (read_low j r) in (o.0, o.1)

    -- an event that the law does not see, and nothing else
    pub unchanged : (e : Event V) → occurrence e ≡ nothing → (q : List ℕ) → q ≡ p.line → Tied (record { house = m; log = e ∷ p.log; line = q })
    unchanged e n q s =
        record {
          some = T.some;
          few = T.few;
          reached = rw s T.reached;
          placed = T.placed;
          within = T.within;
          once_reads = T.once_reads;
          once_writes = T.once_writes;
          reads = λ k. T.reads k ∙ sym (ap (λ D. reads_by k D (reads_in p.log k)) n);
          writes = λ k. T.writes k ∙ sym (ap (λ D. writes_by k D (writes_in p.log k)) n);
          kinds = λ k. T.kinds k ∙ sym (ap (λ D. kind_by k D (kind_in p.log k)) n);
          answers = T.answers ∙ sym (ap (λ D. answers_by D (answered_in p.log)) n);
          told = ((λ j r x. absurd (not_read j r (occurrence e) n x)), T.told);
        }

    -- an accepted call of the ledger
    module _ (c : LedgerCall) (f : fault_of m.offices office l c ≡ None) (vs' : List V) (e : Event V) where
      abbrev l' : LedgerModel
      l' = done_by m.offices office l c

      abbrev after : ℕ → Core
      after k = core_after l c k (core (row l k))

      -- what is left to show: that the ledger's step and the occurrence say the same
      pub record Agreed : Type 0 where
        pub old : (n : ℕ) → n < length vs → slice_get vs' n ≡ slice_get vs n
        pub within : (k : ℕ) → Within (length vs') (after k).writes
        pub reads : (k : ℕ) → records_of (after k).reads ≡ reads_by k (occurrence e) (records_of (row l k).reads)
        pub writes : (k : ℕ) → valued vs' (after k).writes ≡ writes_by k (occurrence e) (valued vs (W k))
        pub kinds : (k : ℕ) → (after k).kind ≡ kind_by k (occurrence e) (row l k).kind
        pub answers : answers_after l c ≡ answers_by (occurrence e) l.answered
        pub told : ToldAsListed l' vs' e

      pub rows : (k : ℕ) → core (row l' k) ≡ after k
      rows k = core_done matched m.offices c f k

      pub told_stays : ((n : ℕ) → n < length vs → slice_get vs' n ≡ slice_get vs n) → (r n : ℕ) → n ≤ length (versions l r) → version_told l' vs' r n ≡ version_told l vs r n
      told_stays old r zero b = refl
      told_stays old r (suc i) b =
          ap (λ y. told_as told.Read (version_reading (suc i) (ok_or (slice_get vs' y.place) NoSuchPlace))) (version_stands matched m.offices c r i (omega arith))
          ∙ ap (λ o. told_as told.Read (version_reading (suc i) (ok_or o NoSuchPlace))) (old (get_or (versions l r) i no_version).place (place_held r i (omega arith)))

      pub advanced : Agreed → Tied (record { house = record { offices = m.offices; ledger = l'; items = vs'; room = m.room }; log = e ∷ p.log; line = line_after l l' (job_of c) p.line })
      advanced D =
          record {
            some = T.some;
            few = T.few;
            reached = subst (λ o. Reached m.offices office (guarded o l l') (line_after l (guarded o l l') (job_of c) p.line)) f (next T.reached c);
            placed = placed_done matched m.offices T.placed c f;
            within = λ k. subst (λ x. Within (length vs') x.writes) (sym (rows k)) (D.within k);
            once_reads = λ k. subst (λ x. OnceEach x.reads) (sym (rows k)) (once_reads_after l c k (T.once_reads k));
            once_writes = λ k. subst (λ x. OnceEach x.writes) (sym (rows k)) (once_writes_after l c k (core (row l k)) (T.once_writes k));
            reads = λ k. ap (λ x. records_of x.reads) (rows k) ∙ D.reads k ∙ ap (reads_by k (occurrence e)) (T.reads k);
            writes = λ k. ap (λ x. valued vs' x.writes) (rows k) ∙ D.writes k ∙ ap (writes_by k (occurrence e)) (T.writes k);
            kinds = λ k. ap (λ x. x.kind) (rows k) ∙ D.kinds k ∙ ap (kind_by k (occurrence e)) (T.kinds k);
            answers = answers_done matched m.offices c f ∙ D.answers ∙ ap (answers_by (occurrence e)) T.answers;
            told = (D.told, All-weaker (ToldAsListed l vs) (ToldAsListed l' vs') on p.log T.told);
          }
        where
          on : (x : Event V) → ToldAsListed l vs x → ToldAsListed l' vs' x
          on x h j r q =
              let a = h j r q in
              let s : first_unseen (row l' j).reads r ≡ first_unseen (row l j).reads r = ap (λ y. first_unseen y.reads r) (rows j) ∙ listed_stays l c j r a.0 in
              (subst (λ n. 0 < n) (sym s) a.0, ap (λ n. version_told l' vs' r (pred n)) s ∙ told_stays D.old r (pred (first_unseen (row l j).reads r)) (listed_low j r) ∙ a.1)

    -- a call whose lists stay
    module _ (c : LedgerCall) (f : fault_of m.offices office l c ≡ None) (e : Event V) (same_Reads : (k : ℕ) (x : Core) → (core_after l c k x).reads ≡ x.reads) (same_writes : (k : ℕ) (x : Core) → (core_after l c k x).writes ≡ x.writes) where
      pub quiet : ((k : ℕ) (rs : List ℕ) → rs ≡ reads_by k (occurrence e) rs) → ((k : ℕ) (ws : List (ℕ × V)) → ws ≡ writes_by k (occurrence e) ws) → ((j r : ℕ) → occurrence e ≡ read j r → ⊥) →
          ((k : ℕ) → (core_after l c k (core (row l k))).kind ≡ kind_by k (occurrence e) (row l k).kind) → answers_after l c ≡ answers_by (occurrence e) l.answered →
          Tied (record { house = with_ledger m (done_by m.offices office l c); log = e ∷ p.log; line = line_after l (done_by m.offices office l c) (job_of c) p.line })
      quiet x y z s n =
          advanced c f vs e
          (record {
            old = λ i b. refl;
            within = λ k. subst (Within (length vs)) (sym (same_writes k (core (row l k)))) (T.within k);
            reads = λ k. ap records_of (same_Reads k (core (row l k))) ∙ x k (records_of (row l k).reads);
            writes = λ k. ap (valued vs) (same_writes k (core (row l k))) ∙ y k (valued vs (W k));
            kinds = s;
            answers = n;
            told = λ j r q. absurd (z j r q);
          })

      -- one that the law does not see
      pub unseen : occurrence e ≡ nothing → ((k : ℕ) (x : Core) → (core_after l c k x).kind ≡ x.kind) → answers_after l c ≡ l.answered →
          Tied (record { house = with_ledger m (done_by m.offices office l c); log = e ∷ p.log; line = line_after l (done_by m.offices office l c) (job_of c) p.line })
      unseen q s n =
          quiet (λ i rs. sym (ap (λ D. reads_by i D rs) q)) (λ i ws. sym (ap (λ D. writes_by i D ws) q)) (λ j r x. not_read j r (occurrence e) q x)
          (λ i. s i (core (row l i)) ∙ sym (ap (λ D. kind_by i D (row l i).kind) q)) (n ∙ sym (ap (λ D. answers_by D l.answered) q))

      -- one that answers
      pub answers_one : (j : ℕ) → occurrence e ≡ answered j → ((k : ℕ) (x : Core) → (core_after l c k x).kind ≡ x.kind) → answers_after l c ≡ j ∷ l.answered →
          Tied (record { house = with_ledger m (done_by m.offices office l c); log = e ∷ p.log; line = line_after l (done_by m.offices office l c) (job_of c) p.line })
      answers_one j q s n =
          quiet (λ i rs. sym (ap (λ D. reads_by i D rs) q)) (λ i ws. sym (ap (λ D. writes_by i D ws) q))
          (λ i r x. let z : ◌≡◌ {A = Occurrence V} (answered j) (read i r) = sym q ∙ x in grind arith)
          (λ i. s i (core (row l i)) ∙ sym (ap (λ D. kind_by i D (row l i).kind) q)) (n ∙ sym (ap (λ D. answers_by D l.answered) q))
