-- A decision is one move: the office installs, or releases what it held.
use Rattle.std.proofs.Common.{◌≡◌, ℕ, suc, ◌+◌, ◌<◌, ◌≤◌, Bool, true, false, cond, ◌&&◌, eqb, ltb, List, [], ◌∷◌, ◌++◌, length, get_or, Some, sym, refl, ap, ◌∙◌, zero-add, arith}
use native.Mathlib.Decide.{dec_le}
use lib.ListN.{get_or-eq_default}
use Rattle.std.proofs.lemmas.Bool.{lt-ltb, cond-true}
use Rattle.std.proofs.lemmas.List.{length_push}
use Rattle.ledger.specs.Searching.{map_indexed}
use Rattle.ledger.specs.Limits.{last_job, last_record, most_versions, most_offices}
use Rattle.ledger.specs.Model.{RowModel, LedgerModel, idle, row, versions, exchange, is_never_opened, has_written, written_place}
use Rattle.ledger.specs.Reading.{no_version}
use Rattle.ledger.specs.Delivering.{with_exchange, with_version, row_installed, install_done, dropped_decision}
use Rattle.ledger.specs.declared.job.Mark.{Mark}
use Rattle.ledger.specs.declared.job.State.TheVariants.{Accepted, Dropped}
use Rattle.ledger.specs.declared.job.Version.{Version}
use Rattle.ledger.specs.declared.message.Outcome.TheVariants.{Commit, Abort}
use Rattle.ledger.specs.declared.message.Message.TheVariants.{Decision}
use Rattle.protocol.specs.Calls.{line_after}
use Rattle.protocol.proofs.Machine.{Machine, then}
use Rattle.protocol.proofs.Lookups.{written_installed, version_installed, getD_indexed, length_indexed, getD_pushed}
use Rattle.protocol.proofs.Matching.{fits_accepted, exchange_fits, Orderly, RowMatches, Matched, rows_put, line_same, invariants_of, line_put, put_matched}
use Rattle.protocol.proofs.Exchanging.{still_orderly, holds_written}
use Rattle.protocol.proofs.Machine as machine

module _ {office : ℕ → ℕ} {ledger : LedgerModel} {q : List ℕ} (M : Matched office ledger q) (j o : ℕ) where
  -- a commit waits only where the office holds
  commit_held : (row ledger j).state ≡ Accepted → (exchange (row ledger j) o).waiting ≡ Some (Decision Commit) → M.machine.holds j o ≡ true
  commit_held e a =
      (M.rows.each j).holds_is o
      ∙ (sym (ap (λ s. exchange_fits s (exchange (row ledger j) o)) e ∙ ap (λ w. fits_accepted w (exchange (row ledger j) o).vote) a) ∙ (M.rows.orderly j).fitting o)

  -- so that the records that it installs have room
  pub room_to_install : (row ledger j).state ≡ Accepted → (exchange (row ledger j) o).waiting ≡ Some (Decision Commit) →
      (r : ℕ) → office r ≡ o → has_written (row ledger j).writes r ≡ true → length (versions ledger r) < most_versions
  room_to_install e a r p w = rw (M.count_is r) at ((invariants_of M).room j r (ap (M.machine.holds j) p ∙ commit_held e a) ((M.rows.each j).wrote_is r ∙ w))

  -- the version that a record gets
  abbrev pub new_version : ℕ → Version
  new_version r = record { job = j; place = written_place (row ledger j).writes r }

  -- each record after the installation: the bound of its versions does not bite
  pub versions_installed : (row ledger j).state ≡ Accepted → (exchange (row ledger j) o).waiting ≡ Some (Decision Commit) → (r : ℕ) →
      versions (install_done office ledger j o) r ≡ cond (eqb (office r) o && has_written (row ledger j).writes r) (versions ledger r ++ new_version r ∷ []) (versions ledger r)
  versions_installed e a r = go (dec_le (last_record + 1) r) ∙ unbound (eqb (office r) o && has_written (row ledger j).writes r) refl
    where
      F : ℕ → List Version → List Version
      F r vs = cond (eqb (office r) o && has_written (row ledger j).writes r) (with_version vs (new_version r)) vs

      go : Dec (last_record + 1 ≤ r) → versions (install_done office ledger j o) r ≡ F r (versions ledger r)
      go (yes p) =
          let a : versions (install_done office ledger j o) r ≡ [] = get_or-eq_default (map_indexed F 0 ledger.records) [] {n = r} (simp length_indexed (omega (arith, M.records_length))) in
          let b : versions ledger r ≡ [] = get_or-eq_default ledger.records [] {n = r} (omega (arith, M.records_length)) in
          grind (arith, (M.rows.orderly j).writes_small r)
      go (no p) = let l : r < length ledger.records = omega (arith, M.records_length) in simp zero-add at (getD_indexed F ledger.records 0 r [] l)

      unbound : (b : Bool) → eqb (office r) o && has_written (row ledger j).writes r ≡ b → cond b (with_version (versions ledger r) (new_version r)) (versions ledger r) ≡ cond b (versions ledger r ++ new_version r ∷ []) (versions ledger r)
      unbound true h = cond-true (ltb (length (versions ledger r)) most_versions) _ _ (lt-ltb _ _ (room_to_install e a r (grind arith) (grind arith)))
      unbound false h = refl

  module _ (jb : j ≤ last_job) (ob : o < most_offices) where
    pub commit_matched : (row ledger j).state ≡ Accepted → (exchange (row ledger j) o).waiting ≡ Some (Decision Commit) →
        Matched office (install_done office ledger j o) (line_after ledger (install_done office ledger j o) j q)
    commit_matched e a =
        record {
          machine = h;
          run = then M.run (machine.installs j o (grind (arith, now.phase_is)) (commit_held e a));
          rows = rows_put office ledger.rows M.machine h j x' jb M.rows at (grind arith) ordered;
          records_length = simp length_indexed M.records_length;
          count_is = count;
          writer_is = writer;
          answers_are = M.answers_are;
          line_is = line_put M j x' jb M.machine.line (line_same x.state j M.machine.line);
        }
      where
        x : RowModel
        x = row ledger j

        x' : RowModel
        x' = row_installed office ledger x o

        h : Machine
        h = machine.with_installed office M.machine j o

        now : RowMatches M.machine j x
        now = M.rows.each j

        t : Orderly office x
        t = M.rows.orderly j

        taken : is_never_opened x.state ≡ false
        taken = grind arith

        at : RowMatches h j x'
        at =
            record {
              phase_is = now.phase_is;
              unseen_is = now.unseen_is;
              wrote_is = λ r. now.wrote_is r ∙ sym (written_installed office ledger o x.writes r);
              version_is = λ r. grind (arith, now.version_is r, now.wrote_is r, version_installed office ledger o x.writes r, M.count_is r);
              holds_is = holds_written M j o jb ob taken idle false refl;
            }

        released : Orderly office (with_exchange x o idle)
        released = still_orderly M j o jb ob taken idle (rw e refl) (λ f. absurd (grind arith))

        ordered : Orderly office x'
        ordered =
            record {
              fitting = released.fitting;
              asked = λ f. absurd (grind arith);
              writes_small = λ r w. t.writes_small r (sym (written_installed office ledger o x.writes r) ∙ w);
              exchange_count = released.exchange_count;
              kind_fits = released.kind_fits;
            }

        count : (r : ℕ) → h.count r ≡ length (versions (install_done office ledger j o) r)
        count r = rw (versions_installed e a r) (grind (arith, now.wrote_is r, M.count_is r, length_push (versions ledger r) (new_version r)))

        writer : (r i : ℕ) → i < h.count r → h.writer r (suc i) ≡ (get_or (versions (install_done office ledger j o) r) i no_version).job
        writer r i l = rw (versions_installed e a r) (grind (arith, now.wrote_is r, M.count_is r, M.writer_is r i, getD_pushed (versions ledger r) (new_version r) no_version i))

    pub abort_matched : (m : Mark) → (row ledger j).state ≡ Dropped m →
        Matched office (dropped_decision office Abort ledger j o) (line_after ledger (dropped_decision office Abort ledger j o) j q)
    abort_matched m e =
        let now = M.rows.each j in
        let taken : is_never_opened (row ledger j).state ≡ false = grind arith in
        put_matched M j (with_exchange (row ledger j) o idle) (machine.with_hold M.machine j o false) jb
        (then M.run (machine.releases j o (grind (arith, now.phase_is)))) refl refl refl (line_same (row ledger j).state j M.machine.line)
        (record { phase_is = now.phase_is; unseen_is = now.unseen_is; wrote_is = now.wrote_is; version_is = now.version_is; holds_is = holds_written M j o jb ob taken idle false refl })
        (grind arith)
        (still_orderly M j o jb ob taken idle (rw e refl) (λ f. absurd (grind arith)))
