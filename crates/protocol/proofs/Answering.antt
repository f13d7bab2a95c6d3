-- An answer is one move, if nothing holds the job back; the end of a dropped job is none.
use Rattle.std.proofs.Common.{◌≡◌, ℕ, ◌+◌, ◌<◌, ◌≤◌, Bool, true, false, cond, not, ◌&&◌, ◌||◌, eqb, ltb, leb, ◌≢◌, ◌⊎◌, List, ◌∷◌, length, None, sym, refl, ap, ◌∙◌, subst, inl, inr, true≢false, zero-add, arith}
use native.Mathlib.Decide.{dec_le}
use Rattle.std.specs.List.{AllByRecursion}
use Rattle.std.proofs.ByRecursion.{All-weaker}
use Rattle.std.proofs.lemmas.Bool.{cases_lt, eqb-false, ne_eqb, or_parts, or_cases, lt-ltb, cond-true}
use Rattle.std.specs.List.{list_any}
use Rattle.ledger.specs.Limits.{last_job}
use Rattle.ledger.specs.Model.{RowModel, LedgerModel, idle, no_row, row, exchange, put_row, with_state, is_never_opened, is_accepted, is_answered, first_unseen, has_written}
use Rattle.ledger.specs.Delivering.{waits}
use Rattle.ledger.specs.Answering.{precedes_in, precedes, is_pending, is_held, collect_fault, answer_done, collect_done, close_fault, close_done}
use Rattle.ledger.specs.declared.job.State.{State}
use Rattle.ledger.specs.declared.job.State.TheVariants.{NeverOpened, Open, Voting, Accepted, Dropped, Answered, Ended}
use Rattle.protocol.specs.Calls.{without, line_after}
use Rattle.protocol.proofs.Machine.{inspecting, Run, then}
use Rattle.protocol.proofs.JobLists.{without_absent, Among, Different, different_few}
use Rattle.protocol.proofs.Runs.{sound}
use Rattle.protocol.proofs.Kept.{jobs, jobs_answered, all_kept}
use Rattle.protocol.proofs.Lookups.{no_read_passes, no_write_passes, indexed_none, indexed_some, any_none_at, any_some}
use Rattle.protocol.proofs.Matching.{Orderly, RowMatches, Matched, none_moved, rows_put, line_by, line_unmoved, invariants_of, row_behind, line_put, put_matched}
use Rattle.protocol.proofs.Machine as machine

-- the rule's numbers and the machine's say the same of precedence

precedes_bool : (iu ru ij rj : ℕ) → ((0 < iu) × (iu < rj)) ⊎ (((0 < iu) × (iu < ij)) ⊎ ((0 < ru) × (ru ≤ ij))) → (ltb 0 iu && (ltb iu rj || ltb iu ij)) || (ltb 0 ru && leb ru ij) ≡ true
precedes_bool iu ru ij rj p = grind arith

bool_precedes : (iu ru ij rj : ℕ) → (ltb 0 iu && (ltb iu rj || ltb iu ij)) || (ltb 0 ru && leb ru ij) ≡ true → ((0 < iu) × (iu < rj)) ⊎ (((0 < iu) × (iu < ij)) ⊎ ((0 < ru) × (ru ≤ ij)))
bool_precedes iu ru ij rj p = grind arith

not_third : (e l b : Bool) → e ≡ false → l ≡ true → not e && (l && b) ≡ false → b ≡ false
not_third e l b p q c = grind arith

all_three : (e l b : Bool) → not e && (l && b) ≡ true → (e ≡ false) × (l ≡ true) × (b ≡ true)
all_three e l b h = grind arith

module _ {office : ℕ → ℕ} {ledger : LedgerModel} {q : List ℕ} (M : Matched office ledger q) where
  -- the test that the rule makes for one other row
  abbrev holds_back : ℕ → ℕ → RowModel → Bool
  holds_back j k y = not (eqb k j) && (is_pending y && precedes y (row ledger j))

  pub unheld : (j : ℕ) → is_held ledger j ≡ false → machine.Unpreceded M.machine j
  unheld j h U r n l p = go (dec_le (last_job + 1) U)
    where
      x : RowModel
      x = row ledger j

      y : RowModel
      y = row ledger U

      pending : is_pending y ≡ true
      pending = grind (arith, (M.rows.each U).phase_is)

      is : precedes_in y x r ≡ true
      is = precedes_bool _ _ _ _ (rw ((M.rows.each U).version_is r, (M.rows.each j).version_is r, (M.rows.each U).unseen_is r, (M.rows.each j).unseen_is r) at p)

      in_writes : Bool
      in_writes = list_any (λ z. precedes_in y x z.«record») y.writes

      in_reads : Bool
      in_reads = list_any (λ z. precedes_in y x z.«record») y.reads

      not_wrote : precedes y x ≡ false → has_written y.writes r ≡ true → ⊥
      not_wrote b i = let z = no_write_passes (λ z. precedes_in y x z.«record») y.writes r (or_parts in_writes in_reads b).0 i in true≢false (sym is ∙ rw z.1 at z.2)

      not_read : precedes y x ≡ false → 0 < first_unseen y.reads r → ⊥
      not_read b i = let z = no_read_passes (λ z. precedes_in y x z.«record») y.reads r (or_parts in_writes in_reads b).1 i in true≢false (sym is ∙ rw z.1 at z.3)

      listed : machine.Precedes M.machine U j r → (0 < M.machine.version U r → ⊥) → (0 < M.machine.unseen U r → ⊥) → ⊥
      listed (inl a) m o = m a.0
      listed (inr (inl a)) m o = m a.0
      listed (inr (inr a)) m o = o a.0

      go : Dec (last_job + 1 ≤ U) → ⊥
      go (yes b) = grind (arith, row_behind M U (omega arith))
      go (no b) =
          let c : not (eqb U j) && (is_pending y && precedes y x) ≡ false = simp zero-add at (indexed_none (holds_back j) ledger.rows 0 U no_row h (omega (arith, M.rows.rows_length))) in
          let b : precedes y x ≡ false = not_third (eqb U j) (is_pending y) (precedes y x) (ne_eqb U j n) pending c in
          listed p (λ i. not_wrote b (sym ((M.rows.each U).wrote_is r) ∙ (invariants_of M).installed_written U r i)) (λ i. not_read b (rw ((M.rows.each U).unseen_is r) at i))

  pub not_held : (t : ℕ) → machine.Unpreceded M.machine t → is_held ledger t ≡ false
  not_held t f = go (is_held ledger t) refl
    where
      x : RowModel
      x = row ledger t

      in_some : (U : ℕ) → precedes (row ledger U) x ≡ true → (r : ℕ) × (precedes_in (row ledger U) x r ≡ true)
      in_some U b = elim (or_cases (list_any (λ z. precedes_in (row ledger U) x z.«record») (row ledger U).writes) (list_any (λ z. precedes_in (row ledger U) x z.«record») (row ledger U).reads) b) [
        | inl p ↦ (let z = any_some (λ z. precedes_in (row ledger U) x z.«record») (row ledger U).writes p in (z.0.«record», z.1))
        | inr p ↦ (let z = any_some (λ z. precedes_in (row ledger U) x z.«record») (row ledger U).reads p in (z.0.«record», z.1))
      ]

      pending : (U : ℕ) → is_pending (row ledger U) ≡ true → machine.Pending M.machine U
      pending U l = grind (arith, (M.rows.each U).phase_is)

      before : (U r : ℕ) → precedes_in (row ledger U) x r ≡ true → machine.Precedes M.machine U t r
      before U r p = rw ((M.rows.each U).version_is r, (M.rows.each t).version_is r, (M.rows.each U).unseen_is r, (M.rows.each t).unseen_is r) (bool_precedes _ _ _ _ p)

      go : (b : Bool) → is_held ledger t ≡ b → b ≡ false
      go false c = refl
      go true c =
          let y = indexed_some (holds_back t) ledger.rows 0 no_row c in
          let k = y.0 in
          let h : not (eqb k t) && (is_pending (row ledger k) && precedes (row ledger k) x) ≡ true = simp zero-add at y.1 in
          let m = all_three (eqb k t) (is_pending (row ledger k)) (precedes (row ledger k) x) h in
          let r = in_some k m.2 in
          absurd (f k r.0 (eqb-false k t m.0) (pending k m.1) (before k r.0 r.1))

  -- the answered jobs are different, and each has a row
  pub answered_rows : AllByRecursion (λ j. (row ledger j).state ≡ Answered) ledger.answered
  answered_rows =
      subst (AllByRecursion (λ j. (row ledger j).state ≡ Answered)) M.answers_are
      (All-weaker (λ j. M.machine.phase j ≡ machine.answered) (λ j. (row ledger j).state ≡ Answered) (λ j p. grind (arith, (M.rows.each j).phase_is)) (jobs M.machine.answers)
      (jobs_answered M.machine M.machine.answers (all_kept office M.machine M.run).kept))

  pub answered_listed : (j : ℕ) → (row ledger j).state ≡ Answered → Among j ledger.answered
  answered_listed j e = subst (Among j) M.answers_are ((all_kept office M.machine M.run).listed j (grind (arith, (M.rows.each j).phase_is)))

  pub answered_different : Different ledger.answered
  answered_different = rw M.answers_are at (all_kept office M.machine M.run).different

  pub has_row : (j : ℕ) → (row ledger j).state ≡ Answered → j < last_job + 1
  has_row j e = elim (cases_lt j (last_job + 1)) [
    | inl l ↦ l
    | inr l ↦ absurd (grind (arith, row_behind M j (omega arith)))
  ]

  -- so one more job finds room among the answers
  pub room_to_answer : (j : ℕ) → j ≤ last_job → is_answered (row ledger j).state ≡ false → length ledger.answered < last_job + 1
  room_to_answer j b n =
      let rows = answered_rows in
      let small = All-weaker (λ i. (row ledger i).state ≡ Answered) (λ i. i < last_job + 1) has_row ledger.answered rows in
      let others = All-weaker (λ i. (row ledger i).state ≡ Answered) (λ i. j ≢ i) (λ i a e. apart i a e) ledger.answered rows in
      different_few (last_job + 1) (j ∷ ledger.answered) (omega arith, small) (others, answered_different)
    where
      apart : (i : ℕ) → (row ledger i).state ≡ Answered → j ≡ i → ⊥
      apart i a e = true≢false (sym (ap (λ k. is_answered (row ledger k).state) e ∙ ap is_answered a) ∙ n)

  -- a job is answered
  answer_matched : (j : ℕ) → j ≤ last_job → Run office (machine.with_answered M.machine j) → is_never_opened (row ledger j).state ≡ false → is_answered (row ledger j).state ≡ false → ((o : ℕ) → waits (exchange (row ledger j) o) ≡ false) →
      without j M.machine.line ≡ line_by (row ledger j).state Answered j M.machine.line → Matched office (answer_done ledger j) (line_after ledger (answer_done ledger j) j q)
  answer_matched j b run taken unanswered n u =
      record {
        machine = machine.with_answered M.machine j;
        run = run;
        rows =
            rows_put office ledger.rows M.machine (machine.with_answered M.machine j) j (with_state (row ledger j) Answered) b M.rows
            (record { phase_is = grind arith; unseen_is = now.unseen_is; wrote_is = now.wrote_is; version_is = now.version_is; holds_is = now.holds_is })
            (grind arith)
            (record { fitting = λ o. grind (arith, n o); asked = λ e. absurd (grind arith); writes_small = t.writes_small; exchange_count = λ e. t.exchange_count taken; kind_fits = grind arith });
        records_length = M.records_length;
        count_is = M.count_is;
        writer_is = M.writer_is;
        answers_are = ap (λ js. j ∷ js) M.answers_are ∙ sym (cond-true (ltb (length ledger.answered) (last_job + 1)) _ _ (lt-ltb _ _ (room_to_answer j b unanswered)));
        line_is = line_put M j (with_state (row ledger j) Answered) b (without j M.machine.line) u;
      }
    where
      now : RowMatches M.machine j (row ledger j)
      now = M.rows.each j

      t : Orderly office (row ledger j)
      t = M.rows.orderly j

  pub close_matched : (j : ℕ) → close_fault ledger j ≡ None → Matched office (close_done ledger j) (line_after ledger (close_done ledger j) j q)
  close_matched j f =
      answer_matched j (grind arith) (then M.run (machine.closes j inspecting)) (grind arith) (grind arith)
      (λ o. grind (arith, (M.rows.orderly j).fitting o))
      (without_absent j M.machine.line
      (All-weaker (λ t. M.machine.phase t ≡ machine.accepted) (λ t. t ≢ j) (λ t a e. let b : M.machine.phase t ≡ M.machine.phase j = ap M.machine.phase e in grind arith) M.machine.line
      (sound office M.machine M.run).line.only_accepted)
      ∙ line_unmoved (row ledger j).state Answered j M.machine.line (grind arith) refl)
    where
      inspecting : M.machine.phase j ≡ machine.inspecting
      inspecting = grind (arith, (M.rows.each j).phase_is)

  pub collect_matched : (j : ℕ) → collect_fault ledger j ≡ None → Matched office (collect_done ledger j) (line_after ledger (collect_done ledger j) j q)
  collect_matched j f = go (row ledger j).state refl
    where
      x : RowModel
      x = row ledger j

      now : RowMatches M.machine j x
      now = M.rows.each j

      t : Orderly office x
      t = M.rows.orderly j

      none_waits : list_any waits x.exchanges ≡ false
      none_waits = grind arith

      silent : (o : ℕ) → waits (exchange x o) ≡ false
      silent o = any_none_at waits x.exchanges o idle none_waits refl

      go : (s : State) → x.state ≡ s → Matched office (cond (is_accepted s) (answer_done ledger j) (put_row ledger j (with_state x Ended))) (line_after ledger (cond (is_accepted s) (answer_done ledger j) (put_row ledger j (with_state x Ended))) j q)
      go NeverOpened e = absurd (grind arith)
      go Open e = absurd (grind arith)
      go Voting e = absurd (grind arith)
      go Answered e = absurd (grind arith)
      go Ended e = absurd (grind arith)
      go Accepted e =
          answer_matched j (grind arith)
          (then M.run (machine.answers j (grind (arith, now.phase_is)) (λ o. grind (arith, silent o, t.fitting o, now.holds_is o)) (unheld j (grind arith))))
          (grind arith) (grind arith) silent (rw e refl)
      go (Dropped m) e =
          put_matched M j (with_state x Ended) M.machine (grind arith) M.run refl refl refl (line_unmoved x.state Ended j M.machine.line (grind arith) refl)
          (record { phase_is = grind (arith, now.phase_is); unseen_is = now.unseen_is; wrote_is = now.wrote_is; version_is = now.version_is; holds_is = now.holds_is })
          (none_moved M.machine j)
          (record { fitting = λ o. grind (arith, silent o); asked = λ q. absurd (grind arith); writes_small = t.writes_small; exchange_count = λ q. t.exchange_count (grind arith); kind_fits = grind (arith, t.kind_fits) })
