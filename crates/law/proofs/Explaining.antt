-- Each read of an answered job is explained by the jobs answered before it: it told the version and the value of the last of them that wrote the record.
use Rattle.std.proofs.Common.{◌≡◌, ℕ, suc, pred, ◌<◌, Bool, true, false, cond, eqb, ◌⊎◌, List, [], ◌∷◌, length, get_or, Some, None, Ok, Option, sym, refl, ap, ◌∙◌, inl, inr, arith}
use Rattle.std.specs.Option.{ok_or}
use Rattle.std.specs.List.{slice_get, ContainsAt as Has}
use Rattle.std.proofs.ByRecursion.{all-has}
use Rattle.ledger.specs.Model.{LedgerModel, row, versions, first_unseen, installed_version, written_place}
use Rattle.ledger.specs.Reading.{no_version}
use Rattle.ledger.specs.declared.job.Read.{Read}
use Rattle.protocol.specs.Laws.{writers}
use Rattle.protocol.proofs.JobLists.{Among}
use Rattle.protocol.proofs.Matching.{invariants_of}
use Rattle.shelves.specs.declared.fault.ShelfFault.TheVariants.{NoSuchPlace}
use Rattle.house.specs.Model.{HouseModel}
use Rattle.house.specs.Calls.{version_reading}
use Rattle.house.specs.Archiving.{job_leaf}
use Rattle.house.specs.Runs.{told_as, Event, Progress}
use Rattle.house.specs.Log.{before, read, occurrence, answered_in, is_answered_in, last_writer_in}
use Rattle.law.specs.Law.{version_from, told_from, Explained}
use Rattle.law.proofs.Tying.{version_told, ToldAsListed, Tied, matched}
use Rattle.law.proofs.SerialLeaves.{among_contained, series, leaf_found}
use Rattle.law.proofs.LogLeaves.{among_before, series_before, follows_before, Last, none_or_last, version_is}
use Rattle.house.specs.declared.call.Told.TheVariants as told
use Rattle.ledger.specs.declared.reading.Reading.TheVariants as reading

-- a listed version stands in the list
has_read : (xs : List Read) (r n : ℕ) → first_unseen xs r ≡ suc n → Has {X = Read} xs (record { «record» = r; version = n })
has_read [] r n e = absurd (grind arith)
has_read (x ∷ xs) r n e = go (eqb x.«record» r) refl e (has_read xs r n)
  where
    go : (b : Bool) → eqb x.«record» r ≡ b → cond b (suc x.version) (first_unseen xs r) ≡ suc n → (first_unseen xs r ≡ suc n → Has {X = Read} xs (record { «record» = r; version = n })) →
        Has {X = Read} (x ∷ xs) (record { «record» = r; version = n })
    go true q e h = let a : x.«record» ≡ r = grind arith in let b : x.version ≡ n = omega arith in (0, omega arith, λ d i. record { «record» = a i; version = b i })
    go false q e h = let o = h e in (suc o.0, let z = o.1 in omega arith, o.2)

module _ {V : Type 0} (p : Progress V) (T : Tied p) where
  abbrev m : HouseModel V
  m = p.house

  abbrev l : LedgerModel
  l = p.house.ledger

  abbrev vs : List V
  vs = p.house.items

  abbrev log : List (Event V)
  log = p.log

  -- what an installed version tells
  told_at : (U r i : ℕ) (v : V) → installed_version (row l U).writes r ≡ suc i → slice_get vs (written_place (row l U).writes r) ≡ Some v → version_told l vs r (suc i) ≡ Ok (told.Read (reading.Version (suc i) v))
  told_at U r i v e f =
      let M = matched p T in
      let q : M.machine.version U r ≡ suc i = (M.rows.each U).version_is r ∙ e in
      let b : i < M.machine.count r = let z = (invariants_of M).version_exists U r (omega arith) in omega arith in
      let k : M.machine.writer r (suc i) ≡ U = ap (M.machine.writer r) (sym q) ∙ (invariants_of M).version_writer U r (omega arith) in
      let j : (get_or (versions l r) i no_version).job ≡ U = sym (M.writer_is r i b) ∙ k in
      let c : i < length (versions l r) = omega (arith, M.count_is r) in
      ap (λ x. told_as told.Read (version_reading (suc i) (ok_or (slice_get vs x) NoSuchPlace))) (T.placed r i c ∙ ap (λ x. written_place (row l x).writes r) j)
      ∙ ap (λ o. told_as told.Read (version_reading (suc i) (ok_or o NoSuchPlace))) f

  pub explained : (e : Event V) → Has log e → (j r : ℕ) → occurrence e ≡ read j r → is_answered_in log j ≡ true → Explained m log j r e.told
  explained e h j r x a = go (none_or_last p T js r (series_before l (answered_in log) j (series p T)))
    where
      js : List ℕ
      js = before (answered_in log) j

      i : Among j (answered_in log)
      i = among_contained (answered_in log) j a

      s : (0 < first_unseen (row l j).reads r) × (version_told l vs r (pred (first_unseen (row l j).reads r)) ≡ e.told)
      s = all-has (ToldAsListed l vs) log e T.told h j r x

      n : first_unseen (row l j).reads r ≡ suc (writers l js r)
      n = (follows_before l (answered_in log) j (series p T) i r).1 s.0

      t : e.told ≡ version_told l vs r (writers l js r)
      t = sym s.1 ∙ ap (λ k. version_told l vs r (pred k)) n

      by : (o : Option (ℕ × V)) → last_writer_in log js r ≡ o → e.told ≡ told_from log r o → writers l js r ≡ version_from log r o → Explained m log j r e.told
      by o q f g =
          record {
            told = f ∙ ap (told_from log r) (sym q);
            leaf = job_leaf m j;
            found = leaf_found p T j a;
            lists = has_read (row l j).reads r (version_from log r (last_writer_in log js r)) (n ∙ ap suc (g ∙ ap (version_from log r) (sym q)));
          }

      go : ((last_writer_in log js r ≡ None) × (writers l js r ≡ 0)) ⊎ Last p T js r → Explained m log j r e.told
      go (inl o) = by None o.0 (t ∙ ap (version_told l vs r) o.1) o.1
      go (inr o) =
          let U = o.job in
          let k = among_before (answered_in log) j U o.among in
          let w : installed_version (row l U).writes r ≡ suc (writers l (before (answered_in log) U) r) = (follows_before l (answered_in log) U (series p T) k r).0 o.writes in
          let q = version_is p T U r k o.writes in
          let c = writers l (before (answered_in log) U) r in
          by (Some (U, o.value)) o.is
          (t ∙ ap (version_told l vs r) (o.number ∙ w) ∙ told_at U r c o.value w o.at ∙ ap (λ z. Ok (told.Read (reading.Version z o.value))) (sym (q ∙ w)))
          (o.number ∙ sym q)
