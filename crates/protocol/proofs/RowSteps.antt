-- What an accepted call makes of the kind and the lists of each row, and of the answers.
use Rattle.std.proofs.Common.{◌≡◌, ℕ, suc, ◌+◌, ◌≤◌, Bool, true, false, cond, ◌&&◌, eqb, ltb, List, [], ◌∷◌, ◌++◌, map, length, None, sym, refl, ap, ◌∙◌, arith}
use Rattle.std.proofs.lemmas.Bool.{lt-ltb, cond-true}
use Rattle.std.specs.List.{list_any}
use Rattle.ledger.specs.Limits.{last_job}
use Rattle.ledger.specs.Model.{RowModel, LedgerModel, idle, no_row, row, versions, exchange, put_row, with_state, is_never_opened, is_accepted, is_answered, first_unseen, has_written}
use Rattle.ledger.specs.Opening.{newly_opened}
use Rattle.ledger.specs.Reading.{newest, is_new_read, with_read}
use Rattle.ledger.specs.Writing.{with_place, with_write}
use Rattle.ledger.specs.Delivering.{vote_waits, vote_noted, waits, with_exchange, first_refusal, decided, counted, handed_in, vote_of, installed, row_installed, deliver_done}
use Rattle.ledger.specs.Answering.{with_answer, answer_done}
use Rattle.ledger.specs.declared.job.JobKind.{JobKind}
use Rattle.ledger.specs.declared.job.State.TheVariants.{Answered, Ended}
use Rattle.ledger.specs.declared.job.Read.{Read}
use Rattle.ledger.specs.declared.job.Write.{Write}
use Rattle.protocol.specs.Calls.{LedgerCall, call_open, call_read, call_write, call_hand_in, call_collect, call_close, call_withdraw, call_deliver, fault_of, done_by}
use Rattle.protocol.proofs.Lookups.{get_d_set}
use Rattle.protocol.proofs.Matching.{Matched, invariants_of}
use Rattle.protocol.proofs.Delivering.{delivered_by_cases}
use Rattle.protocol.proofs.Answering.{room_to_answer}
use Rattle.protocol.proofs.Machine as machine

-- a write as record and place; it is made a read, so that the look-ups of reads serve for both lists
abbrev pub write_entry : Write → Read
write_entry w = record { «record» = w.«record»; version = w.place }

abbrev pub entries : List Write → List Read
entries ws = map write_entry ws

-- an entry is replaced, or joins the end
abbrev pub with_entry : List Read → ℕ → ℕ → List Read
with_entry [] r p = record { «record» = r; version = p } ∷ []
with_entry (x ∷ xs) r p = cond (eqb x.«record» r) (record { «record» = r; version = p } ∷ xs) (x ∷ with_entry xs r p)

-- what a row says without its state, its exchanges and its installed versions
pub record Core : Type 0 where
  pub kind : JobKind
  pub reads : List Read
  pub writes : List Read

abbrev pub core : RowModel → Core
core x = record { kind = x.kind; reads = x.reads; writes = entries x.writes }

-- by the call, in the ledger where it is made
abbrev pub core_after : LedgerModel → LedgerCall → ℕ → Core → Core
core_after l (call_open j s) k x = cond (eqb k j) (record { kind = s; reads = x.reads; writes = x.writes }) x
core_after l (call_read j r) k x =
    cond (eqb k j && is_new_read (row l j) r) (record { kind = x.kind; reads = x.reads ++ record { «record» = r; version = newest l (row l j) r } ∷ []; writes = x.writes }) x
core_after l (call_write j r p) k x = cond (eqb k j) (record { kind = x.kind; reads = x.reads; writes = with_entry x.writes r p }) x
core_after l (call_hand_in j) k x = x
core_after l (call_collect j) k x = x
core_after l (call_close j) k x = x
core_after l (call_withdraw j) k x = x
core_after l (call_deliver j o) k x = x

abbrev pub answers_after : LedgerModel → LedgerCall → List ℕ
answers_after l (call_open j s) = l.answered
answers_after l (call_read j r) = l.answered
answers_after l (call_write j r p) = l.answered
answers_after l (call_hand_in j) = l.answered
answers_after l (call_collect j) = cond (is_accepted (row l j).state) (j ∷ l.answered) l.answered
answers_after l (call_close j) = j ∷ l.answered
answers_after l (call_withdraw j) = l.answered
answers_after l (call_deliver j o) = l.answered

entries_installed : (office : ℕ → ℕ) (l : LedgerModel) (o : ℕ) (xs : List Write) → entries (map (installed office l o) xs) ≡ entries xs
entries_installed office l o [] = refl
entries_installed office l o (x ∷ xs) = go (eqb (office x.«record») o) (entries_installed office l o xs)
  where
    go : (b : Bool) → entries (map (installed office l o) xs) ≡ entries xs →
        write_entry (cond b (record { «record» = x.«record»; place = x.place; version = suc (length (versions l x.«record»)) }) x) ∷ entries (map (installed office l o) xs) ≡ write_entry x ∷ entries xs
    go true i = cc
    go false i = cc

entries_with_place : (xs : List Write) (r p : ℕ) → entries (with_place xs r p) ≡ with_entry (entries xs) r p
entries_with_place [] r p = refl
entries_with_place (x ∷ xs) r p = go (eqb x.«record» r) (entries_with_place xs r p)
  where
    go : (b : Bool) → entries (with_place xs r p) ≡ with_entry (entries xs) r p →
        entries (cond b (record { «record» = r; place = p; version = x.version } ∷ xs) (x ∷ with_place xs r p)) ≡ cond b (record { «record» = r; version = p } ∷ entries xs) (write_entry x ∷ with_entry (entries xs) r p)
    go true i = refl
    go false i = cc

counted_core : (x : RowModel) → core (counted x) ≡ core x
counted_core x = go (list_any waits x.exchanges)
  where
    go : (b : Bool) → core (cond b x (decided (first_refusal x.exchanges) x)) ≡ core x
    go true = refl
    go false = refl

none_read : (xs : List Read) → ((r : ℕ) → first_unseen xs r ≡ 0) → xs ≡ []
none_read [] h = refl
none_read (x ∷ xs) h = absurd (let e = h x.«record» in grind arith)

none_written : (xs : List Write) → ((r : ℕ) → has_written xs r ≡ false) → xs ≡ []
none_written [] h = refl
none_written (x ∷ xs) h = absurd (let e = h x.«record» in grind arith)

module _ {office : ℕ → ℕ} {ledger : LedgerModel} {q : List ℕ} (M : Matched office ledger q) where
  -- a row is written: the core of each row, where that of the written one is as said
  put_core : (j : ℕ) (x : RowModel) (F : Core → Core) → j ≤ last_job → core x ≡ F (core (row ledger j)) → (k : ℕ) → core (row (put_row ledger j x) k) ≡ cond (eqb k j) (F (core (row ledger k))) (core (row ledger k))
  put_core j x F b e k = ap core (get_d_set ledger.rows j k x no_row (omega (arith, M.rows.rows_length))) ∙ go (eqb k j) refl
    where
      go : (t : Bool) → eqb k j ≡ t → core (cond t x (row ledger k)) ≡ cond t (F (core (row ledger k))) (core (row ledger k))
      go true i = let s : k ≡ j = grind arith in rw s e
      go false i = refl

  same_core : (j : ℕ) (x : RowModel) → j ≤ last_job → core x ≡ core (row ledger j) → (k : ℕ) → core (row (put_row ledger j x) k) ≡ core (row ledger k)
  same_core j x b e k = put_core j x (λ y. y) b e k ∙ go (eqb k j)
    where
      go : (t : Bool) → cond t (core (row ledger k)) (core (row ledger k)) ≡ core (row ledger k)
      go true = refl
      go false = refl

  -- a row that was never opened has empty lists
  unopened_core : (s : JobKind) (j : ℕ) → is_never_opened (row ledger j).state ≡ true → core (newly_opened s) ≡ record { kind = s; reads = (core (row ledger j)).reads; writes = (core (row ledger j)).writes }
  unopened_core s j f =
      let now = M.rows.each j in
      let is : M.machine.phase j ≡ machine.unopened = grind (arith, now.phase_is) in
      let a : (row ledger j).reads ≡ [] = none_read (row ledger j).reads (λ r. sym (now.unseen_is r) ∙ (invariants_of M).unopened_unread j r is) in
      let b : (row ledger j).writes ≡ [] = none_written (row ledger j).writes (λ r. sym (now.wrote_is r) ∙ (invariants_of M).unwritten j r (grind arith)) in
      λ i. record { kind = s; reads = sym a i; writes = entries (sym b i) }

  deliver_core : (j o : ℕ) → j ≤ last_job → (k : ℕ) → core (row (deliver_done office ledger j o) k) ≡ core (row ledger k)
  deliver_core j o b k =
      delivered_by_cases office ledger j o (λ e. core (row e k) ≡ core (row ledger k)) refl
      (λ p e. same_core j (with_exchange (row ledger j) o (vote_waits (vote_of office ledger j o))) b refl k)
      (λ v p e. same_core j (counted (with_exchange (row ledger j) o (vote_noted v))) b (counted_core (with_exchange (row ledger j) o (vote_noted v))) k)
      (λ p e. same_core j (row_installed office ledger (row ledger j) o) b (λ i. record { kind = (row ledger j).kind; reads = (row ledger j).reads; writes = entries_installed office ledger o (row ledger j).writes i }) k)
      (λ m p. same_core j (with_exchange (row ledger j) o idle) b refl k)
      (row ledger j).state refl (exchange (row ledger j) o).waiting refl

  module _ (offices : ℕ) where
    pub core_done : (c : LedgerCall) → fault_of offices office ledger c ≡ None → (k : ℕ) → core (row (done_by offices office ledger c) k) ≡ core_after ledger c k (core (row ledger k))
    core_done (call_open j s) f k = put_core j (newly_opened s) (λ y. record { kind = s; reads = y.reads; writes = y.writes }) (grind arith) (unopened_core s j (grind arith)) k
    core_done (call_hand_in j) f k = same_core j (handed_in office (row ledger j)) (grind arith) refl k
    core_done (call_withdraw j) f k = same_core j (with_state (row ledger j) Ended) (grind arith) refl k
    core_done (call_close j) f k = same_core j (with_state (row ledger j) Answered) (grind arith) refl k
    core_done (call_collect j) f k = go (is_accepted (row ledger j).state)
      where
        go : (t : Bool) → core (row (cond t (answer_done ledger j) (put_row ledger j (with_state (row ledger j) Ended))) k) ≡ core (row ledger k)
        go true = same_core j (with_state (row ledger j) Answered) (grind arith) refl k
        go false = same_core j (with_state (row ledger j) Ended) (grind arith) refl k
    core_done (call_deliver j o) f k = deliver_core j o (grind arith) k
    core_done (call_write j r p) f k =
        put_core j (with_write (row ledger j) r p) (λ y. record { kind = y.kind; reads = y.reads; writes = with_entry y.writes r p }) (grind arith)
        (λ i. record { kind = (row ledger j).kind; reads = (row ledger j).reads; writes = entries_with_place (row ledger j).writes r p i }) k
    core_done (call_read j r) f k = go (is_new_read (row ledger j) r)
      where
        x' : RowModel
        x' = with_read (row ledger j) r (newest ledger (row ledger j) r)

        added : Core → Core
        added y = record { kind = y.kind; reads = y.reads ++ record { «record» = r; version = newest ledger (row ledger j) r } ∷ []; writes = y.writes }

        none : (t : Bool) → core (row ledger k) ≡ cond (t && false) (added (core (row ledger k))) (core (row ledger k))
        none true = refl
        none false = refl

        one : (t : Bool) → cond t (added (core (row ledger k))) (core (row ledger k)) ≡ cond (t && true) (added (core (row ledger k))) (core (row ledger k))
        one true = refl
        one false = refl

        go : (b : Bool) → core (row (cond b (put_row ledger j x') ledger) k) ≡ cond (eqb k j && b) (added (core (row ledger k))) (core (row ledger k))
        go true = put_core j x' added (grind arith) refl k ∙ one (eqb k j)
        go false = none (eqb k j)

    -- the bound on answers does not bite
    answered_now : (j : ℕ) → j ≤ last_job → is_answered (row ledger j).state ≡ false → with_answer ledger.answered j ≡ j ∷ ledger.answered
    answered_now j b n = cond-true (ltb (length ledger.answered) (last_job + 1)) _ _ (lt-ltb _ _ (room_to_answer M j b n))

    pub answers_done : (c : LedgerCall) → fault_of offices office ledger c ≡ None → (done_by offices office ledger c).answered ≡ answers_after ledger c
    answers_done (call_open j s) f = refl
    answers_done (call_read j r) f = go (is_new_read (row ledger j) r)
      where
        go : (b : Bool) → (cond b (put_row ledger j (with_read (row ledger j) r (newest ledger (row ledger j) r))) ledger).answered ≡ ledger.answered
        go true = refl
        go false = refl
    answers_done (call_write j r p) f = refl
    answers_done (call_hand_in j) f = refl
    answers_done (call_collect j) f = go (is_accepted (row ledger j).state) refl
      where
        go : (t : Bool) → is_accepted (row ledger j).state ≡ t → (cond t (answer_done ledger j) (put_row ledger j (with_state (row ledger j) Ended))).answered ≡ cond t (j ∷ ledger.answered) ledger.answered
        go true e = answered_now j (grind arith) (grind arith)
        go false e = refl
    answers_done (call_close j) f = answered_now j (grind arith) (grind arith)
    answers_done (call_withdraw j) f = refl
    answers_done (call_deliver j o) f =
        delivered_by_cases office ledger j o (λ e. e.answered ≡ ledger.answered) refl (λ p e. refl) (λ v p e. refl) (λ p e. refl) (λ m p. refl) (row ledger j).state refl (exchange (row ledger j) o).waiting refl
