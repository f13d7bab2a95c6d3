-- Installed versions stand, and each has the place that its job wrote last.
-- each installed version has the place that its job's row lists
use Rattle.std.proofs.Common.{◌≡◌, ℕ, suc, pred, ◌+◌, ◌<◌, ◌≤◌, Bool, true, false, cond, not, ◌&&◌, eqb, List, [], ◌∷◌, ◌++◌, length, get_or, Some, None, sym, refl, ap, ◌∙◌, true≢false, arith}
use Rattle.std.proofs.lemmas.List.{length_push, get_or_append_left}
use Rattle.ledger.specs.Limits.{last_record}
use Rattle.ledger.specs.Model.{LedgerModel, new_ledger, row, versions, exchange, put_row, with_state, is_open, is_accepted, first_unseen, has_written, written_place}
use Rattle.ledger.specs.Opening.{open_done, withdraw_done}
use Rattle.ledger.specs.Reading.{newest, is_new_read, no_version, with_read, read_done}
use Rattle.ledger.specs.Writing.{write_done}
use Rattle.ledger.specs.Delivering.{hand_in_done, install_done, delivered_voting, dropped_decision}
use Rattle.ledger.specs.Answering.{answer_done, collect_done, close_done}
use Rattle.ledger.specs.declared.job.JobKind.{JobKind}
use Rattle.ledger.specs.declared.job.State.{State}
use Rattle.ledger.specs.declared.job.State.TheVariants.{Accepted, Ended}
use Rattle.ledger.specs.declared.job.Write.{Write}
use Rattle.ledger.specs.declared.job.Version.{Version}
use Rattle.ledger.specs.declared.message.Outcome.TheVariants.{Commit, Abort}
use Rattle.ledger.specs.declared.message.Message.TheVariants.{Prepare, Vote as VoteCast, Decision}
use Rattle.protocol.specs.Calls.{LedgerCall, call_open, call_read, call_write, call_hand_in, call_collect, call_close, call_withdraw, call_deliver, fault_of, done_by}
use Rattle.protocol.proofs.Invariants.{may_install}
use Rattle.protocol.proofs.Lookups.{getD_pushed}
use Rattle.protocol.proofs.Matching.{phase_by, Matched, invariants_of}
use Rattle.protocol.proofs.Deciding.{new_version, versions_installed}
use Rattle.protocol.proofs.Delivering.{delivered_by_cases}
use Rattle.protocol.proofs.Stepping.{no_versions}
use Rattle.protocol.proofs.RowSteps.{entries, with_entry, Core, core, core_after, core_done}

abbrev pub Placed : LedgerModel → Type 0
Placed l = (r i : ℕ) → i < length (versions l r) → (get_or (versions l r) i no_version).place ≡ written_place (row l (get_or (versions l r) i no_version).job).writes r

pub written_place_entry : (ws : List Write) (r : ℕ) → written_place ws r ≡ pred (first_unseen (entries ws) r)
written_place_entry [] r = refl
written_place_entry (w ∷ ws) r = let i = written_place_entry ws r in grind arith

pub has_written_entry : (ws : List Write) (r : ℕ) → has_written ws r ≡ not (eqb (first_unseen (entries ws) r) 0)
has_written_entry [] r = refl
has_written_entry (w ∷ ws) r = let i = has_written_entry ws r in grind arith

module _ {office : ℕ → ℕ} {ledger : LedgerModel} {q : List ℕ} (M : Matched office ledger q) (offices : ℕ) where
  abbrev installer : ℕ → ℕ → ℕ
  installer r i = (get_or (versions ledger r) i no_version).job

  pub installed_as : (r i : ℕ) → i < length (versions ledger r) → M.machine.version (installer r i) r ≡ suc i
  installed_as r i l =
      let b : i < M.machine.count r = omega (arith, M.count_is r) in
      rw (M.writer_is r i b) at ((invariants_of M).writer_version r (suc i) (omega arith) b)

  -- a job that has installed is past its writes
  not_open : (r i : ℕ) → i < length (versions ledger r) → is_open (row ledger (installer r i)).state ≡ false
  not_open r i l =
      past (row ledger (installer r i)).kind (row ledger (installer r i)).state
      (ap may_install (sym (M.rows.each (installer r i)).phase_is) ∙ (invariants_of M).installers (installer r i) r (let e = installed_as r i l in omega arith))
    where
      past : (k : JobKind) (s : State) → may_install (phase_by k s) ≡ true → is_open s ≡ false
      past k s h = grind arith

  kept_place : (l : LedgerModel) (U r : ℕ) → (core (row l U)).writes ≡ (core (row ledger U)).writes → written_place (row l U).writes r ≡ written_place (row ledger U).writes r
  kept_place l U r e = written_place_entry (row l U).writes r ∙ ap (λ xs. pred (first_unseen xs r)) e ∙ sym (written_place_entry (row ledger U).writes r)

  -- the list of records stays, and the writes of each job that has installed
  same_records : Placed ledger → (l : LedgerModel) → l.records ≡ ledger.records → ((r i : ℕ) → i < length (versions ledger r) → (core (row l (installer r i))).writes ≡ (core (row ledger (installer r i))).writes) → Placed l
  same_records P l e h r i b =
      let w : versions l r ≡ versions ledger r = ap (λ t. get_or t r []) e in
      rw w (let m : i < length (versions ledger r) = rw w at b in P r i m ∙ sym (kept_place l (installer r i) r (h r i m)))

  module _ (j o : ℕ) (e : (row ledger j).state ≡ Accepted) (a : (exchange (row ledger j) o).waiting ≡ Some (Decision Commit)) where
    Right : ℕ → Version → Type 0
    Right r u = u.place ≡ written_place (row ledger u.job).writes r

    install_placed : Placed ledger → ((k : ℕ) → (core (row (install_done office ledger j o) k)).writes ≡ (core (row ledger k)).writes) → Placed (install_done office ledger j o)
    unfolding Right
    install_placed P h r i l =
        let u = get_or (versions (install_done office ledger j o) r) i no_version in
        let w : Right r u = rw (versions_installed M j o e a r) (go (eqb (office r) o && has_written (row ledger j).writes r) (rw (versions_installed M j o e a r) at l)) in
        w ∙ sym (kept_place (install_done office ledger j o) u.job r (h u.job))
      where
        either : (t : Bool) → (t ≡ false → i < length (versions ledger r)) → Right r (cond t (new_version M j o r) (get_or (versions ledger r) i no_version))
        either true p = refl
        either false p = P r i (p refl)

        go : (t : Bool) → i < length (cond t (versions ledger r ++ new_version M j o r ∷ []) (versions ledger r)) → Right r (get_or (cond t (versions ledger r ++ new_version M j o r ∷ []) (versions ledger r)) i no_version)
        go false m = P r i m
        go true m =
            let n : i ≤ length (versions ledger r) = omega (arith, m, length_push (versions ledger r) (new_version M j o r)) in
            rw (getD_pushed (versions ledger r) (new_version M j o r) no_version i n) (either (eqb i (length (versions ledger r))) (λ p. grind arith))

    install_stands : (r i : ℕ) → i < length (versions ledger r) → get_or (versions (install_done office ledger j o) r) i no_version ≡ get_or (versions ledger r) i no_version
    install_stands r i l = rw (versions_installed M j o e a r) (go (eqb (office r) o && has_written (row ledger j).writes r))
      where
        go : (t : Bool) → get_or (cond t (versions ledger r ++ new_version M j o r ∷ []) (versions ledger r)) i no_version ≡ get_or (versions ledger r) i no_version
        go true = get_or_append_left (versions ledger r) (new_version M j o r ∷ []) no_version i l
        go false = refl

  module _ (c : LedgerCall) (f : fault_of offices office ledger c ≡ None) where
    writes_done : (k : ℕ) → (core (row (done_by offices office ledger c) k)).writes ≡ (core_after ledger c k (core (row ledger k))).writes
    writes_done k = ap (λ y. y.writes) (core_done M offices c f k)

  pub placed_done : Placed ledger → (c : LedgerCall) → fault_of offices office ledger c ≡ None → Placed (done_by offices office ledger c)
  placed_done P (call_open j s) f = same_records P (open_done ledger s j) refl (λ r i l. writes_done (call_open j s) f (installer r i) ∙ go (eqb (installer r i) j) (core (row ledger (installer r i))))
    where
      go : (b : Bool) (x : Core) → (cond b (record { kind = s; reads = x.reads; writes = x.writes }) x).writes ≡ x.writes
      go true x = refl
      go false x = refl
  placed_done P (call_hand_in j) f = same_records P (hand_in_done office ledger j) refl (λ r i l. writes_done (call_hand_in j) f (installer r i))
  placed_done P (call_close j) f = same_records P (close_done ledger j) refl (λ r i l. writes_done (call_close j) f (installer r i))
  placed_done P (call_withdraw j) f = same_records P (withdraw_done ledger j) refl (λ r i l. writes_done (call_withdraw j) f (installer r i))
  placed_done P (call_collect j) f = same_records P (collect_done ledger j) (go (is_accepted (row ledger j).state)) (λ r i l. writes_done (call_collect j) f (installer r i))
    where
      go : (b : Bool) → (cond b (answer_done ledger j) (put_row ledger j (with_state (row ledger j) Ended))).records ≡ ledger.records
      go true = refl
      go false = refl
  placed_done P (call_read j s) f = same_records P (read_done ledger j s) (go (is_new_read (row ledger j) s)) (λ r i l. writes_done (call_read j s) f (installer r i) ∙ same (eqb (installer r i) j && is_new_read (row ledger j) s) (core (row ledger (installer r i))))
    where
      go : (b : Bool) → (cond b (put_row ledger j (with_read (row ledger j) s (newest ledger (row ledger j) s))) ledger).records ≡ ledger.records
      go true = refl
      go false = refl

      same : (b : Bool) (x : Core) → (cond b (record { kind = x.kind; reads = x.reads ++ record { «record» = s; version = newest ledger (row ledger j) s } ∷ []; writes = x.writes }) x).writes ≡ x.writes
      same true x = refl
      same false x = refl
  placed_done P (call_write j s p) f = same_records P (write_done ledger j s p) refl (λ r i l. writes_done (call_write j s p) f (installer r i) ∙ other r i l (eqb (installer r i) j) refl)
    where
      other : (r i : ℕ) → i < length (versions ledger r) → (b : Bool) → eqb (installer r i) j ≡ b →
          (cond b (record { kind = (row ledger (installer r i)).kind; reads = (row ledger (installer r i)).reads; writes = with_entry (entries (row ledger (installer r i)).writes) s p }) (core (row ledger (installer r i)))).writes ≡ (core (row ledger (installer r i))).writes
      other r i l true e = absurd (let k : installer r i ≡ j = grind arith in let a = not_open r i l in let z : is_open (row ledger j).state ≡ false = rw k at a in let y : is_open (row ledger j).state ≡ true = grind arith in true≢false (sym y ∙ z))
      other r i l false e = refl
  placed_done P (call_deliver j o) f =
      delivered_by_cases office ledger j o (λ e. ((k : ℕ) → (core (row e k)).writes ≡ (core (row ledger k)).writes) → Placed e) (λ h. P)
      (λ p e h. same_records P (delivered_voting office Prepare ledger j o) refl (λ r i l. h (installer r i)))
      (λ v p e h. same_records P (delivered_voting office (VoteCast v) ledger j o) refl (λ r i l. h (installer r i)))
      (λ p e h. install_placed j o p e P h)
      (λ m p h. same_records P (dropped_decision office Abort ledger j o) refl (λ r i l. h (installer r i)))
      (row ledger j).state refl (exchange (row ledger j) o).waiting refl (writes_done (call_deliver j o) f)

  -- a version that is installed stands
  pub version_stands : (c : LedgerCall) → (r i : ℕ) → i < length (versions ledger r) → get_or (versions (done_by offices office ledger c) r) i no_version ≡ get_or (versions ledger r) i no_version
  version_stands (call_open j s) r i l = refl
  version_stands (call_hand_in j) r i l = refl
  version_stands (call_close j) r i l = refl
  version_stands (call_withdraw j) r i l = refl
  version_stands (call_write j s p) r i l = refl
  version_stands (call_collect j) r i l = go (is_accepted (row ledger j).state)
    where
      go : (b : Bool) → get_or (versions (cond b (answer_done ledger j) (put_row ledger j (with_state (row ledger j) Ended))) r) i no_version ≡ get_or (versions ledger r) i no_version
      go true = refl
      go false = refl
  version_stands (call_read j s) r i l = go (is_new_read (row ledger j) s)
    where
      go : (b : Bool) → get_or (versions (cond b (put_row ledger j (with_read (row ledger j) s (newest ledger (row ledger j) s))) ledger) r) i no_version ≡ get_or (versions ledger r) i no_version
      go true = refl
      go false = refl
  version_stands (call_deliver j o) r i l =
      delivered_by_cases office ledger j o (λ e. get_or (versions e r) i no_version ≡ get_or (versions ledger r) i no_version) refl (λ p e. refl) (λ v p e. refl) (λ p e. install_stands j o p e r i l) (λ m p. refl)
      (row ledger j).state refl (exchange (row ledger j) o).waiting refl

pub new_placed : Placed new_ledger
new_placed r i l = absurd (let z : i < 0 = rw (no_versions (last_record + 1) r) at l in omega arith)
