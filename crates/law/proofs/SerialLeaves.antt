-- The leaves of the answered jobs: they are serial, and their outlines and order are those of the log.
use Rattle.std.proofs.Common.{◌≡◌, ℕ, suc, ◌+◌, ◌<◌, Bool, true, false, cond, ◌||◌, eqb, ◌≢◌, ◌↔◌, List, [], ◌∷◌, map, is_some, Some, None, Option, sym, refl, ap, ◌∙◌, subst, inl, inr, arith}
use Rattle.std.specs.List.{AllByRecursion, list_any}
use Rattle.std.proofs.ByRecursion.{All-weaker}
use Rattle.std.proofs.lemmas.Bool.{or_cases, or_left, or_right, eqb-true, eq-eqb, ne_eqb}
use Rattle.ledger.specs.Limits.{last_job}
use Rattle.ledger.specs.Model.{LedgerModel, row, has_written}
use Rattle.ledger.specs.declared.job.State.TheVariants.{Answered}
use Rattle.ledger.specs.declared.job.Read.{Read}
use Rattle.ledger.specs.declared.job.Write.{Write}
use Rattle.history.specs.Histories.{LeafWrite, Leaf, outline, writer_count, leaf_of, earlier, is_before, Serial}
use Rattle.std.specs.Option.{option_map}
use Rattle.history.specs.Laws.{Lawful, SameOutlines, SameOrder}
use Rattle.history.proofs.Searches.{list_any-map}
use Rattle.history.proofs.Agreement.{archives_agree}
use Rattle.history.proofs.ValueLaws.{lawful}
use Rattle.protocol.specs.Laws.{writers, InSeries}
use Rattle.protocol.proofs.JobLists.{Among, Different}
use Rattle.protocol.proofs.Answering.{answered_rows, answered_different, has_row}
use Rattle.protocol.proofs.Theorems.{answered_in_series}
use Rattle.protocol.proofs.RowSteps.{entries}
use Rattle.protocol.proofs.VersionSteps.{has_written_entry}
use Rattle.house.specs.Model.{HouseModel}
use Rattle.history.specs.Layout.{Coding}
use Rattle.house.specs.Archiving.{job_leaf, house_leaves, house_archive}
use Rattle.house.specs.Runs.{Event, Progress, Run}
use Rattle.house.specs.Log.{contains, before, reads_in, writes_in, answered_in, is_answered_in, is_earlier_in, wrote_in, used_in, ConflictIn, outline_in}
use Rattle.law.specs.Law.{entry_in, Agree}
use Rattle.law.proofs.Entries.{each_read, each_write, any_valued, pairs_of_leaf, all_leaf_writes}
use Rattle.law.proofs.Tying.{Tied, matched}
use Rattle.law.proofs.TyingCalls.{tied}
use Rattle.history.specs.Histories as histories

pub among_contained : (js : List ℕ) (j : ℕ) → contains js j ≡ true → Among j js
among_contained [] j e = absurd (grind arith)
among_contained (x ∷ js) j e = elim (or_cases (eqb x j) (contains js j) e) [
  | inl q ↦ inl (sym (eqb-true x j q))
  | inr q ↦ inr (among_contained js j q)
]

pub contained : (js : List ℕ) (j : ℕ) → Among j js → contains js j ≡ true
contained [] j i = absurd i
contained (x ∷ js) j (inl e) = or_left _ (contains js j) (eq-eqb x j (sym e))
contained (x ∷ js) j (inr i) = or_right (eqb x j) _ (contained js j i)

not_contained : (js : List ℕ) (j : ℕ) → AllByRecursion (λ x. j ≢ x) js → contains js j ≡ false
not_contained [] j a = refl
not_contained (x ∷ js) j a = let i = not_contained js j a.1 in let n : eqb x j ≡ false = ne_eqb x j (λ e. a.0 (sym e)) in rw (n, i) refl

isSome_cond : {X : Type 0} (b : Bool) (x : X) → is_some (cond b (Some x) None) ≡ b
isSome_cond true x = refl
isSome_cond false x = refl

pub counts_same : (a b : Bool) (m n : ℕ) → a ≡ b → m ≡ n → cond a 1 0 + m ≡ cond b 1 0 + n
counts_same a b m n p q = cc

module _ {V : Type 0} where
  -- leaves that are made from job numbers are found by them
  module _ (m : HouseModel V) where
    pub leaf_of_jobs : (js : List ℕ) (j : ℕ) → leaf_of (map (job_leaf m) js) j ≡ cond (contains js j) (Some (job_leaf m j)) None
    leaf_of_jobs [] j = refl
    leaf_of_jobs (x ∷ js) j = go (eqb x j) refl (leaf_of_jobs js j)
      where
        go : (b : Bool) → eqb x j ≡ b → leaf_of (map (job_leaf m) js) j ≡ cond (contains js j) (Some (job_leaf m j)) None →
            cond b (Some (job_leaf m x)) (leaf_of (map (job_leaf m) js) j) ≡ cond (b || contains js j) (Some (job_leaf m j)) None
        go true e i = ap (λ z. Some (job_leaf m z)) (eqb-true x j e)
        go false e i = i

    earlier_jobs : (js : List ℕ) (j : ℕ) → earlier (map (job_leaf m) js) j ≡ map (job_leaf m) (before js j)
    earlier_jobs [] j = refl
    earlier_jobs (x ∷ js) j = go (eqb x j) (earlier_jobs js j)
      where
        go : (b : Bool) → earlier (map (job_leaf m) js) j ≡ map (job_leaf m) (before js j) → cond b (map (job_leaf m) js) (earlier (map (job_leaf m) js) j) ≡ map (job_leaf m) (cond b js (before js j))
        go true i = refl
        go false i = i

  module _ (p : Progress V) (T : Tied p) where
    abbrev m : HouseModel V
    m = p.house

    abbrev l : LedgerModel
    l = p.house.ledger

    abbrev vs : List V
    vs = p.house.items

    abbrev log : List (Event V)
    log = p.log

    pub series : InSeries l (answered_in log)
    series = subst (InSeries l) T.answers (answered_in_series (matched p T))

    pub leaf_found : (j : ℕ) → is_answered_in log j ≡ true → leaf_of (house_leaves m) j ≡ Some (job_leaf m j)
    leaf_found j a = leaf_of_jobs m l.answered j ∙ ap (λ js. cond (contains js j) (Some (job_leaf m j)) None) T.answers ∙ ap (λ b. cond b (Some (job_leaf m j)) None) a

    found_leaf : (j : ℕ) (x : Leaf V) → leaf_of (house_leaves m) j ≡ Some x → (is_answered_in log j ≡ true) × (job_leaf m j ≡ x)
    found_leaf j x e = go (is_answered_in log j) refl
      where
        q : cond (is_answered_in log j) (Some (job_leaf m j)) None ≡ Some x
        q = sym (leaf_of_jobs m l.answered j ∙ ap (λ js. cond (contains js j) (Some (job_leaf m j)) None) T.answers) ∙ e

        go : (b : Bool) → is_answered_in log j ≡ b → (is_answered_in log j ≡ true) × (job_leaf m j ≡ x)
        go true i = (i, let z : ◌≡◌ {A = Option (Leaf V)} (Some (job_leaf m j)) (Some x) = sym (ap (λ b. cond b (Some (job_leaf m j)) None) i) ∙ q in cc)
        go false i = absurd (let z : ◌≡◌ {A = Option (Leaf V)} None (Some x) = sym (ap (λ b. cond b (Some (job_leaf m j)) None) i) ∙ q in grind arith)

    -- the log's words of a job, and its leaf

    written_is : (j : ℕ) → map {B = ℕ × V} (λ (w : LeafWrite V). (w.«record», w.value)) (job_leaf m j).writes ≡ writes_in log j
    written_is j = pairs_of_leaf vs (row l j).writes ∙ T.writes j

    outline_is : (j : ℕ) → outline (job_leaf m j) ≡ outline_in log j
    outline_is j = λ i. record { job = j; kind = T.kinds j i; read = T.reads j i; written = written_is j i }

    leaf_wrote : (j r : ℕ) → histories.wrote (job_leaf m j) r ≡ wrote_in log j r
    leaf_wrote j r = sym (list_any-map (λ (x : ℕ × V). eqb x.0 r) (λ (w : LeafWrite V). (w.«record», w.value)) (job_leaf m j).writes) ∙ ap (list_any (λ (x : ℕ × V). eqb x.0 r)) (written_is j)

    leaf_used : (j r : ℕ) → histories.used (job_leaf m j) r ≡ used_in log j r
    leaf_used j r =
        ap (λ b. b || histories.wrote (job_leaf m j) r) (sym (list_any-map (λ s. eqb s r) (λ (q : Read). q.«record») (row l j).reads) ∙ ap (λ rs. contains rs r) (T.reads j))
        ∙ ap (λ b. contains (reads_in log j) r || b) (leaf_wrote j r)

    pub row_wrote : (j r : ℕ) → wrote_in log j r ≡ has_written (row l j).writes r
    row_wrote j r = ap (list_any (λ (x : ℕ × V). eqb x.0 r)) (sym (T.writes j)) ∙ any_valued vs (entries (row l j).writes) r (T.within j) ∙ sym (has_written_entry (row l j).writes r)

    leaf_count : (js : List ℕ) (r : ℕ) → writer_count (map (job_leaf m) js) r ≡ writers l js r
    leaf_count [] r = refl
    leaf_count (j ∷ js) r = counts_same (histories.wrote (job_leaf m j) r) (has_written (row l j).writes r) (writer_count (map (job_leaf m) js) r) (writers l js r) (leaf_wrote j r ∙ row_wrote j r) (leaf_count js r)

    serial_jobs : (js : List ℕ) → InSeries l js → Different js → AllByRecursion (λ j. j < last_job + 1) js → Serial (map (job_leaf m) js)
    serial_jobs [] s d b = tt
    serial_jobs (j ∷ js) s d b = (
      record {
        small = let z = b.0 in omega arith;
        fresh = leaf_of_jobs m js j ∙ ap (λ t. cond t (Some (job_leaf m j)) None) (not_contained js j d.0);
        read =
            All-weaker (λ (q : Read). q.version ≡ writers l js q.«record») (λ (q : Read). q.version ≡ writer_count (map (job_leaf m) js) q.«record») (λ q e. e ∙ sym (leaf_count js q.«record»)) (row l j).reads
            (each_read (writers l js) (row l j).reads (T.once_reads j) (λ r. (s.0 r).1));
        written =
            all_leaf_writes (λ r n. n ≡ suc (writer_count (map (job_leaf m) js) r)) vs (row l j).writes
            (All-weaker (λ (w : Write). w.version ≡ suc (writers l js w.«record»)) (λ (w : Write). w.version ≡ suc (writer_count (map (job_leaf m) js) w.«record»)) (λ w e. e ∙ ap suc (sym (leaf_count js w.«record»))) (row l j).writes
            (each_write (λ r. suc (writers l js r)) (row l j).writes (T.once_writes j) (λ r. (s.0 r).0)));
      },
      serial_jobs js s.1 d.1 b.1,
    )

    serial_leaves : Serial (house_leaves m)
    serial_leaves =
        serial_jobs l.answered (answered_in_series (matched p T)) (answered_different (matched p T))
        (All-weaker (λ j. (row l j).state ≡ Answered) (λ j. j < last_job + 1) (has_row (matched p T)) l.answered (answered_rows (matched p T)))

    entry_is : (j : ℕ) → option_map outline (leaf_of (house_leaves m) j) ≡ entry_in log j
    entry_is j =
        ap (option_map outline) (leaf_of_jobs m l.answered j) ∙ go (contains l.answered j) ∙ ap (λ o. cond (contains l.answered j) (Some o) None) (outline_is j)
        ∙ ap (λ js. cond (contains js j) (Some (outline_in log j)) None) T.answers
      where
        go : (b : Bool) → option_map outline (cond b (Some (job_leaf m j)) None) ≡ cond b (Some (outline (job_leaf m j))) None
        go true = refl
        go false = refl

    before_is : (i j : ℕ) → is_before (house_leaves m) i j ≡ is_earlier_in log i j
    before_is i j =
        ap (λ h. is_some (leaf_of h i)) (earlier_jobs m l.answered j) ∙ ap is_some (leaf_of_jobs m (before l.answered j) i)
        ∙ isSome_cond (contains (before l.answered j) i) (job_leaf m i) ∙ ap (λ js. contains (before js j) i) T.answers

    either_wrote : (i j r : ℕ) → (histories.wrote (job_leaf m i) r || histories.wrote (job_leaf m j) r) ≡ (wrote_in log i r || wrote_in log j r)
    either_wrote i j r = ap (λ b. b || histories.wrote (job_leaf m j) r) (leaf_wrote i r) ∙ ap (λ b. wrote_in log i r || b) (leaf_wrote j r)

    leaves_conflict : (i j : ℕ) → ConflictIn log i j → histories.Conflict (job_leaf m i) (job_leaf m j)
    leaves_conflict i j c = (c.0, leaf_used i c.0 ∙ c.1, leaf_used j c.0 ∙ c.2, either_wrote i j c.0 ∙ c.3)

    jobs_conflict : (i j : ℕ) → histories.Conflict (job_leaf m i) (job_leaf m j) → ConflictIn log i j
    jobs_conflict i j c = (c.0, sym (leaf_used i c.0) ∙ c.1, sym (leaf_used j c.0) ∙ c.2, sym (either_wrote i j c.0) ∙ c.3)

  -- so equal archives and agreeing logs are one and the same, by the theorem on serial histories
  pub archives_logs : (C : Coding V) → Lawful C → (p q : Progress V) → Run C p → Run C q → (house_archive C p.house ≡ house_archive C q.house) ↔ Agree p.log q.log
  archives_logs C lawful p q r s = (there, back)
    where
      T : Tied p
      T = tied C p r

      U : Tied q
      U = tied C q s

      A : (house_archive C p.house ≡ house_archive C q.house) ↔ (SameOutlines (house_leaves p.house) (house_leaves q.house) × SameOrder (house_leaves p.house) (house_leaves q.house))
      A = archives_agree C lawful (house_leaves p.house) (house_leaves q.house) (serial_leaves p T) (serial_leaves q U)

      there : house_archive C p.house ≡ house_archive C q.house → Agree p.log q.log
      there e =
          let z = A.0 e in
          record {
            jobs = λ j. sym (entry_is p T j) ∙ z.0 j ∙ entry_is q U j;
            order = λ i j a b c. sym (before_is p T i j) ∙ z.1 i j (job_leaf p.house i) (job_leaf p.house j) (leaf_found p T i a) (leaf_found p T j b) (leaves_conflict p T i j c) ∙ before_is q U i j;
          }

      back : Agree p.log q.log → house_archive C p.house ≡ house_archive C q.house
      back a =
          A.1 (
            (λ j. entry_is p T j ∙ a.jobs j ∙ sym (entry_is q U j)),
            (λ i j x y f g c.
                let h = found_leaf p T i x f in
                let k = found_leaf p T j y g in
                let z : histories.Conflict (job_leaf p.house i) (job_leaf p.house j) = subst (λ u. histories.Conflict u (job_leaf p.house j)) (sym h.1) (subst (histories.Conflict x) (sym k.1) c) in
                before_is p T i j ∙ a.order i j h.0 k.0 (jobs_conflict p T i j z) ∙ sym (before_is q U i j)),
          )
