-- What every run of the ledger keeps, from the machine's invariants.
use Rattle.std.proofs.Common.{◌≡◌, ℕ, suc, ◌<◌, ◌≤◌, true, false, List, [], ◌∷◌, Some, None, Option, sym, refl, ap, ◌∙◌, subst, inl, inr, arith}
use Rattle.std.specs.List.{AllByRecursion}
use Rattle.std.proofs.ByRecursion.{All-weaker}
use Rattle.std.proofs.lemmas.Bool.{cases_lt}
use Rattle.std.specs.List.{list_any}
use Rattle.ledger.specs.Limits.{last_job}
use Rattle.ledger.specs.Model.{LedgerModel, idle, row, exchange, is_amendment, first_unseen, has_written, installed_version}
use Rattle.ledger.specs.Delivering.{waits}
use Rattle.ledger.specs.Answering.{is_held, collect_fault}
use Rattle.ledger.specs.declared.job.State.{State}
use Rattle.ledger.specs.declared.job.State.TheVariants.{Accepted}
use Rattle.ledger.specs.declared.message.Vote.{Vote}
use Rattle.ledger.specs.declared.message.Outcome.TheVariants.{Commit}
use Rattle.ledger.specs.declared.message.Message.{Message}
use Rattle.ledger.specs.declared.message.Message.TheVariants.{Decision}
use Rattle.protocol.specs.Laws.{message_fits, MessagesFit, RecordsHaveRoom, AnswersHaveRoom, writers, InSeries, AnswersInSeries, Calm, FirstCollectable}
use Rattle.protocol.proofs.Machine.{accepted, Answer, answered_writers, answers}
use Rattle.protocol.proofs.JobLists.{Among}
use Rattle.protocol.proofs.Invariants.{Series}
use Rattle.protocol.proofs.Runs.{sound, first_unpreceded}
use Rattle.protocol.proofs.Kept.{Kept, jobs, all_kept}
use Rattle.protocol.proofs.Lookups.{any_none_from}
use Rattle.protocol.proofs.Matching.{exchange_fits, RowMatches, Matched, row_behind}
use Rattle.protocol.proofs.Deciding.{room_to_install}
use Rattle.protocol.proofs.Answering.{not_held, room_to_answer}
use Rattle.protocol.proofs.Stepping.{reached_matched}
use Rattle.protocol.proofs.Machine as machine

message_fits_state : (s : State) (m : Message) (v : Option Vote) → exchange_fits s (record { waiting = Some m; vote = v }) ≡ true → message_fits s m ≡ true
message_fits_state s m v e = grind arith

pub messages_fit : MessagesFit
messages_fit offices office most few l q r j o m e =
    message_fits_state (row l j).state m (exchange (row l j) o).vote
    (ap (λ w. exchange_fits (row l j).state (record { waiting = w; vote = (exchange (row l j) o).vote })) (sym e) ∙ ((reached_matched offices office most few l q r).rows.orderly j).fitting o)

-- a commit waits at accepted jobs alone
commit_accepted : (s : State) → message_fits s (Decision Commit) ≡ true → s ≡ Accepted
commit_accepted s e = grind arith

pub records_have_room : RecordsHaveRoom
records_have_room offices office most few l q r j o s e p w =
    room_to_install (reached_matched offices office most few l q r) j o (commit_accepted (row l j).state (messages_fit offices office most few l q r j o (Decision Commit) e)) e s p w

pub answers_have_room : AnswersHaveRoom
answers_have_room offices office most few l q r j (inl f) = room_to_answer (reached_matched offices office most few l q r) j (grind arith) (grind arith)
answers_have_room offices office most few l q r j (inr f) = room_to_answer (reached_matched offices office most few l q r) j (grind arith) (grind arith)

module _ {office : ℕ → ℕ} {l : LedgerModel} {q : List ℕ} (M : Matched office l q) where
  -- what the answers say is in the rows
  writers_are : (answers : List Answer) → AllByRecursion (Kept M.machine) answers → (r : ℕ) → writers l (jobs answers) r ≡ answered_writers answers r
  writers_are [] k r = refl
  writers_are (a ∷ older) k r =
      let i = writers_are older k.1 r in
      let e : has_written (row l a.job).writes r ≡ a.wrote r = sym ((M.rows.each a.job).wrote_is r) ∙ k.0.same_wrote r in
      cc

  in_series : (answers : List Answer) → AllByRecursion (Kept M.machine) answers → Series answers → InSeries l (jobs answers)
  in_series [] k s = tt
  in_series (a ∷ older) k s = (λ r. (installed r, read r), in_series older k.1 s.1)
    where
      n : (r : ℕ) → writers l (jobs older) r ≡ answered_writers older r
      n = writers_are older k.1

      now : RowMatches M.machine a.job (row l a.job)
      now = M.rows.each a.job

      installed : (r : ℕ) → has_written (row l a.job).writes r ≡ true → installed_version (row l a.job).writes r ≡ suc (writers l (jobs older) r)
      installed r h = grind (arith, n r, (s.0 r).0, k.0.same_version r, k.0.same_wrote r, now.wrote_is r, now.version_is r)

      read : (r : ℕ) → 0 < first_unseen (row l a.job).reads r → first_unseen (row l a.job).reads r ≡ suc (writers l (jobs older) r)
      read r h = grind (arith, n r, (s.0 r).1, k.0.same_unseen r, now.unseen_is r)

  pub answered_in_series : InSeries l l.answered
  answered_in_series = rw M.answers_are at (in_series M.machine.answers (all_kept office M.machine M.run).kept (sound office M.machine M.run).series)

  -- the line has the accepted jobs and no others
  pub accepted_in_line : (j : ℕ) → (row l j).state ≡ Accepted → Among j q
  accepted_in_line j a = rw M.line_is at ((sound office M.machine M.run).line.complete j (grind (arith, (M.rows.each j).phase_is)))

  pub line_accepted : AllByRecursion (λ j. (row l j).state ≡ Accepted) q
  line_accepted =
      subst (AllByRecursion (λ j. (row l j).state ≡ Accepted)) M.line_is
      (All-weaker (λ j. M.machine.phase j ≡ machine.accepted) (λ j. (row l j).state ≡ Accepted) (λ j p. grind (arith, (M.rows.each j).phase_is)) M.machine.line
      (sound office M.machine M.run).line.only_accepted)

  collectable : Calm l → (t : ℕ) → (row l t).state ≡ Accepted → is_held l t ≡ false → collect_fault l t ≡ None
  collectable calm t is un = rw (is, amendment, silent, un) (grind (arith, near))
    where
      near : t ≤ last_job
      near = elim (cases_lt last_job t) [
        | inl p ↦ absurd (grind (arith, row_behind M t p))
        | inr p ↦ p
      ]

      amendment : is_amendment (row l t).kind ≡ true
      amendment = grind (arith, (M.rows.orderly t).kind_fits)

      silent : list_any waits (row l t).exchanges ≡ false
      silent = any_none_from waits (row l t).exchanges idle (calm.silent t)

  pub first_of_line : Calm l → (t : ℕ) (ts : List ℕ) → q ≡ t ∷ ts → ((row l t).state ≡ Accepted) × (is_held l t ≡ false) × (collect_fault l t ≡ None)
  first_of_line calm t ts e =
      let accepted : (row l t).state ≡ Accepted = (rw e at line_accepted).0 in
      let closed : (j : ℕ) → M.machine.phase j ≡ machine.inspecting → ⊥ = λ j p. grind (arith, calm.closed j, (M.rows.each j).phase_is) in
      let free = not_held M t (first_unpreceded office M.machine (sound office M.machine M.run) closed t ts (M.line_is ∙ e)) in
      (accepted, free, collectable calm t accepted free)

pub answers_in_series : AnswersInSeries
answers_in_series offices office most few l q r = answered_in_series (reached_matched offices office most few l q r)

pub first_collectable : FirstCollectable
first_collectable offices office most few l q r = first_of_line (reached_matched offices office most few l q r)
