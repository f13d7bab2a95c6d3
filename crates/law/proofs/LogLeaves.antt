-- The jobs before an answered job, as the log and the rows tell them: who wrote a record last, and the leaf of each job.
use Rattle.std.proofs.Common.{◌≡◌, ℕ, suc, pred, ◌+◌, ◌<◌, Bool, true, false, cond, eqb, ◌⊎◌, List, [], ◌∷◌, map, length, Some, None, sym, refl, ap, ◌∙◌, subst, inl, inr, arith}
use Rattle.std.specs.List.{slice_get}
use Rattle.std.proofs.lemmas.Bool.{eqb-true, not-true, not-false}
use Rattle.ledger.specs.Model.{LedgerModel, row, first_unseen, has_written, installed_version, written_place}
use Rattle.ledger.specs.declared.job.Read.{Read}
use Rattle.history.specs.Histories.{LeafWrite}
use Rattle.protocol.specs.Laws.{writers, InSeries}
use Rattle.protocol.proofs.JobLists.{Among}
use Rattle.protocol.proofs.RowSteps.{entries}
use Rattle.protocol.proofs.VersionSteps.{written_place_entry, has_written_entry}
use Rattle.house.specs.Model.{HouseModel}
use Rattle.archive.specs.Leaves.{leaf_writes}
use Rattle.house.specs.Archiving.{job_leaf, house_leaves}
use Rattle.house.specs.Runs.{Event, Progress}
use Rattle.house.specs.Log.{before, writes_in, answered_in, wrote_in, writers_in, version_in, value_of, writer_or, last_writer_in, leaf_in}
use Rattle.law.proofs.Entries.{within_found, each_read, each_write, reads_by_record, nth_some, value_of_valued, leaf_writes_by_record}
use Rattle.law.proofs.Tying.{Tied}
use Rattle.law.proofs.SerialLeaves.{counts_same, series, row_wrote}

-- the jobs before a job

pub among_before : (xs : List ℕ) (j k : ℕ) → Among k (before xs j) → Among k xs
among_before [] j k m = m
among_before (x ∷ xs) j k m = go (eqb x j) m (among_before xs j k)
  where
    go : (b : Bool) → Among k (cond b xs (before xs j)) → (Among k (before xs j) → Among k xs) → (k ≡ x) ⊎ Among k xs
    go true m i = inr m
    go false m i = inr (i m)

pub series_before : (l : LedgerModel) (js : List ℕ) (j : ℕ) → InSeries l js → InSeries l (before js j)
series_before l [] j s = tt
series_before l (x ∷ js) j s = go (eqb x j) (series_before l js j s.1)
  where
    go : (b : Bool) → InSeries l (before js j) → InSeries l (cond b js (before js j))
    go true i = s.1
    go false i = i

-- what a job read and installed, by the jobs before it
abbrev pub Follows : LedgerModel → List ℕ → ℕ → ℕ → Type 0
Follows l js r j =
    (has_written (row l j).writes r ≡ true → installed_version (row l j).writes r ≡ suc (writers l js r)) ×
    (0 < first_unseen (row l j).reads r → first_unseen (row l j).reads r ≡ suc (writers l js r))

pub follows_before : (l : LedgerModel) (xs : List ℕ) (j : ℕ) → InSeries l xs → Among j xs → (r : ℕ) → Follows l (before xs j) r j
follows_before l [] j s m r = absurd m
follows_before l (x ∷ xs) j s m r = go (eqb x j) refl m (follows_before l xs j s.1)
  where
    go : (b : Bool) → eqb x j ≡ b → Among j (x ∷ xs) → (Among j xs → (r : ℕ) → Follows l (before xs j) r j) → Follows l (cond b xs (before xs j)) r j
    go true e m ih = subst (Follows l xs r) (eqb-true x j e) (s.0 r)
    go false e (inl m) ih = absurd (grind arith)
    go false e (inr m) ih = ih m r

module _ {V : Type 0} where
  module _ (p : Progress V) (T : Tied p) where
    abbrev m : HouseModel V
    m = p.house

    abbrev l : LedgerModel
    l = p.house.ledger

    abbrev vs : List V
    vs = p.house.items

    abbrev log : List (Event V)
    log = p.log

    -- the last value of a job in a record, by its row

    value_none : (j r : ℕ) → has_written (row l j).writes r ≡ false → value_of (writes_in log j) r ≡ None
    value_none j r e =
        let n : eqb (first_unseen (entries (row l j).writes) r) 0 ≡ true = not-false (eqb (first_unseen (entries (row l j).writes) r) 0) (sym (has_written_entry (row l j).writes r) ∙ e) in
        ap (λ xs. value_of xs r) (sym (T.writes j)) ∙ value_of_valued vs (entries (row l j).writes) r (T.within j) ∙ ap (λ b. cond b None (slice_get vs (pred (first_unseen (entries (row l j).writes) r)))) n

    value_some : (j r : ℕ) → has_written (row l j).writes r ≡ true → (v : V) × (value_of (writes_in log j) r ≡ Some v) × (slice_get vs (written_place (row l j).writes r) ≡ Some v)
    value_some j r e = (
      g.0,
      ap (λ ys. value_of ys r) (sym (T.writes j)) ∙ value_of_valued vs xs r (T.within j) ∙ ap (λ b. cond b None (slice_get vs place)) n ∙ g.1,
      ap (slice_get vs) (written_place_entry (row l j).writes r) ∙ g.1,
    )
      where
        xs : List Read
        xs = entries (row l j).writes

        place : ℕ
        place = pred (first_unseen xs r)

        n : eqb (first_unseen xs r) 0 ≡ false
        n = not-true (eqb (first_unseen xs r) 0) (sym (has_written_entry (row l j).writes r) ∙ e)

        g : (v : V) × (slice_get vs place ≡ Some v)
        g = nth_some vs place (within_found (length vs) xs r (T.within j) (grind (arith, n)))

    counts : (js : List ℕ) (r : ℕ) → writers_in log js r ≡ writers l js r
    counts [] r = refl
    counts (j ∷ js) r = counts_same (wrote_in log j r) (has_written (row l j).writes r) (writers_in log js r) (writers l js r) (row_wrote p T j r) (counts js r)

    -- the last writer among jobs in series: its version is how many of them wrote the record
    pub record Last (js : List ℕ) (r : ℕ) : Type 0 where
      pub job : ℕ
      pub value : V
      pub is : last_writer_in log js r ≡ Some (job, value)
      pub among : Among job js
      pub writes : has_written (row l job).writes r ≡ true
      pub at : slice_get vs (written_place (row l job).writes r) ≡ Some value
      pub number : writers l js r ≡ installed_version (row l job).writes r

    pub none_or_last : (js : List ℕ) (r : ℕ) → InSeries l js → ((last_writer_in log js r ≡ None) × (writers l js r ≡ 0)) ⊎ Last js r
    none_or_last [] r s = inl (refl, refl)
    none_or_last (j ∷ js) r s = go (has_written (row l j).writes r) refl (none_or_last js r s.1)
      where
        go : (b : Bool) → has_written (row l j).writes r ≡ b → ((last_writer_in log js r ≡ None) × (writers l js r ≡ 0)) ⊎ Last js r → ((last_writer_in log (j ∷ js) r ≡ None) × (writers l (j ∷ js) r ≡ 0)) ⊎ Last (j ∷ js) r
        go true e o =
            let v = value_some j r e in
            inr
            (record {
              job = j;
              value = v.0;
              is = ap (λ z. writer_or j z (last_writer_in log js r)) v.1;
              among = inl refl;
              writes = e;
              at = v.2;
              number = ap (λ b. cond b 1 0 + writers l js r) e ∙ (let n = (s.0 r).0 e in omega arith);
            })
        go false e (inl o) = inl (ap (λ z. writer_or j z (last_writer_in log js r)) (value_none j r e) ∙ o.0, ap (λ b. cond b 1 0 + writers l js r) e ∙ (let n = o.1 in omega arith))
        go false e (inr o) =
            inr
            (record {
              job = o.job;
              value = o.value;
              is = ap (λ z. writer_or j z (last_writer_in log js r)) (value_none j r e) ∙ o.is;
              among = inr o.among;
              writes = o.writes;
              at = o.at;
              number = ap (λ b. cond b 1 0 + writers l js r) e ∙ (let n = o.number in omega arith);
            })

    -- an answered writer's version is the one that it installed
    pub version_is : (U r : ℕ) → Among U (answered_in log) → has_written (row l U).writes r ≡ true → version_in log U r ≡ installed_version (row l U).writes r
    version_is U r i e =
        let a = (follows_before l (answered_in log) U (series p T) i r).0 e in
        counts (U ∷ before (answered_in log) U) r ∙ ap (λ b. cond b 1 0 + writers l (before (answered_in log) U) r) e ∙ (omega arith)

    -- the leaf of an answered job is the one that the log tells
    leaf_is : (j : ℕ) → Among j (answered_in log) → job_leaf m j ≡ leaf_in log j
    leaf_is j i =
        λ k.
        record {
          job = j;
          kind = T.kinds j k;
          reads = reads_are k;
          writes = writes_are k;
        }
      where
        js : List ℕ
        js = before (answered_in log) j

        reads_are : (row l j).reads ≡ (leaf_in log j).reads
        reads_are =
            reads_by_record (writers_in log js) (row l j).reads (each_read (writers_in log js) (row l j).reads (T.once_reads j) (λ r n. (follows_before l (answered_in log) j (series p T) i r).1 n ∙ ap suc (sym (counts js r))))
            ∙ ap (map {B = Read} (λ (r : ℕ). record { «record» = r; version = writers_in log js r })) (T.reads j)

        writes_are : leaf_writes vs (row l j).writes ≡ (leaf_in log j).writes
        writes_are =
            leaf_writes_by_record (version_in log j) vs (row l j).writes (each_write (version_in log j) (row l j).writes (T.once_writes j) (λ r e. sym (version_is j r i e)))
            ∙ ap (map {B = LeafWrite V} (λ (x : ℕ × V). record { «record» = x.0; version = version_in log j x.0; value = x.1 })) (T.writes j)

    leaves_are : (js : List ℕ) → ((j : ℕ) → Among j js → Among j (answered_in log)) → map (job_leaf m) js ≡ map (leaf_in log) js
    leaves_are [] h = refl
    leaves_are (j ∷ js) h = let a = leaf_is j (h j (inl refl)) in let b = leaves_are js (λ i q. h i (inr q)) in λ k. a k ∷ b k

    pub leaves_of_log : house_leaves m ≡ map (leaf_in log) (answered_in log)
    leaves_of_log = ap (map (job_leaf m)) T.answers ∙ leaves_are (answered_in log) (λ j i. i)
