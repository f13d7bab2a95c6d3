-- Every call keeps log and house tied, so that they are tied in every run.
use Rattle.std.proofs.Common.{◌≡◌, ℕ, ◌+◌, ◌<◌, ◌≤◌, Bool, true, false, cond, eqb, List, [], ◌∷◌, ◌++◌, length, get_or, replicate, None, Ok, Err, Result, sym, refl, ap, ◌∙◌, subst, arith}
use Rattle.std.proofs.lemmas.List.{length_push}
use Rattle.ledger.specs.Limits.{last_job, most_offices, offices_built}
use Rattle.ledger.specs.Model.{RowModel, LedgerModel, unused, no_row, row, is_accepted}
use Rattle.ledger.specs.Opening.{open_fault, open_done, withdraw_fault}
use Rattle.ledger.specs.Writing.{write_fault, write_done}
use Rattle.ledger.specs.Delivering.{hand_in_fault, deliver_fault}
use Rattle.ledger.specs.Answering.{collect_fault, collect_done, close_fault}
use Rattle.ledger.specs.declared.job.JobKind.{JobKind}
use Rattle.ledger.specs.declared.job.JobKind.TheVariants.{Amendment}
use Rattle.ledger.specs.declared.job.State.{State}
use Rattle.ledger.specs.declared.job.State.TheVariants.{NeverOpened, Open, Voting, Accepted, Dropped, Answered, Ended}
use Rattle.ledger.specs.declared.job.Read.{Read}
use Rattle.protocol.specs.Calls.{call_open, call_write, call_hand_in, call_collect, call_close, call_withdraw, call_deliver, line_after, new}
use Rattle.protocol.proofs.Lookups.{in_replicate}
use Rattle.protocol.proofs.Matching.{line_same}
use Rattle.protocol.proofs.RowSteps.{entries, with_entry, Core, core, answers_after}
use Rattle.protocol.proofs.VersionSteps.{new_placed}
use Rattle.shelves.specs.Adding.{place_told}
use Rattle.house.specs.declared.fault.Fault.{Fault}
use Rattle.house.specs.declared.call.Call.{Call}
use Rattle.house.specs.declared.call.Told.{Told}
use Rattle.ledger.specs.declared.job.Collected.{Collected}
use Rattle.house.specs.Faults.{kept}
use Rattle.house.specs.Model.{HouseModel}
use Rattle.house.specs.Calls.{shelved, open_told, open_after, withdraw_told, withdraw_after, read_told, read_after, write_told, write_after}
use Rattle.ledger.specs.Answering.{collected}
use Rattle.house.specs.Committing.{office_in, hand_in_told, hand_in_after, deliver_told, deliver_after, collect_told, collect_after, close_told, close_after}
use Rattle.history.specs.Layout.{Coding}
use Rattle.house.specs.Archiving.{archive_told}
use Rattle.house.specs.Runs.{told_as, nothing_more, Event, Progress, beginning, proceeded, Run, begins, proceeds}
use Rattle.house.specs.Log.{Occurrence, opened, read, wrote, answered, nothing, occurrence_of, occurrence, with_value}
use Rattle.law.proofs.Entries.{Within, OnceEach, within_more, within_with_entry, records_of, nth_old, valued, valued_push, valued_with_entry}
use Rattle.law.proofs.Tying.{passed, Tied, unchanged, advanced, quiet, unseen, answers_one}
use Rattle.law.proofs.TyingReads.{read_tied}
use Rattle.house.specs.declared.call.Call.TheVariants as call
use Rattle.house.specs.declared.call.Told.TheVariants as told

offices_some : (n : ℕ) → 0 < offices_built n
offices_some n = grind arith

offices_few : (n : ℕ) → offices_built n ≤ most_offices
offices_few n = grind arith

abbrev is_dropped : State → Bool
is_dropped NeverOpened = false
is_dropped Open = false
is_dropped Voting = false
is_dropped Accepted = false
is_dropped (Dropped m) = true
is_dropped Answered = false
is_dropped Ended = false

new_row : (P : RowModel → Type 0) (n j : ℕ) → P unused → P no_row → P (get_or (replicate n unused) j no_row)
new_row P n j a b = in_replicate P n j unused no_row a b

module _ {V : Type 0} where
  collect_occurrence : (j : ℕ) (s : State) → occurrence_of {V = V} (call.Collect j) (Ok (told.Collected (collected s))) ≡ cond (is_dropped s) nothing (answered j)
  collect_occurrence j NeverOpened = refl
  collect_occurrence j Open = refl
  collect_occurrence j Voting = refl
  collect_occurrence j Accepted = refl
  collect_occurrence j Answered = refl
  collect_occurrence j Ended = refl
  collect_occurrence j (Dropped k) = refl

  module _ (p : Progress V) (T : Tied p) where
    abbrev m : HouseModel V
    m = p.house

    abbrev l : LedgerModel
    l = p.house.ledger

    abbrev vs : List V
    vs = p.house.items

    abbrev office : ℕ → ℕ
    office = office_in p.house

    abbrev W : ℕ → List Read
    W k = entries (row l k).writes

    open_tied : (j : ℕ) (k : JobKind) → open_fault l j ≡ None →
        Tied (record { house = open_after m j k; log = record { call = call.Open j k; told = Ok told.Done } ∷ p.log; line = line_after l (open_done l k j) j p.line })
    open_tied j k f =
        quiet p T (call_open j k) f (record { call = call.Open j k; told = Ok told.Done }) (λ i x. (lists_same i x (eqb i j)).0) (λ i x. (lists_same i x (eqb i j)).1)
        (λ i rs. refl) (λ i ws. refl) (λ i r x. let z : ◌≡◌ {A = Occurrence V} (opened j k) (read i r) = x in grind arith) (λ i. kind_same i (eqb i j)) refl
      where
        lists_same : (i : ℕ) (x : Core) (b : Bool) → ((cond b (record { kind = k; reads = x.reads; writes = x.writes }) x).reads ≡ x.reads) × ((cond b (record { kind = k; reads = x.reads; writes = x.writes }) x).writes ≡ x.writes)
        lists_same i x true = (refl, refl)
        lists_same i x false = (refl, refl)

        kind_same : (i : ℕ) (b : Bool) → (cond b (record { kind = k; reads = (row l i).reads; writes = W i }) (core (row l i))).kind ≡ cond b k (row l i).kind
        kind_same i true = refl
        kind_same i false = refl

    collect_tied : (j : ℕ) → collect_fault l j ≡ None →
        Tied (record { house = collect_after m j; log = record { call = call.Collect j; told = Ok (told.Collected (collected (row l j).state)) } ∷ p.log; line = line_after l (collect_done l j) j p.line })
    collect_tied j f = go (row l j).state refl
      where
        e : Event V
        e = record { call = call.Collect j; told = Ok (told.Collected (collected (row l j).state)) }

        is : (s : State) → (row l j).state ≡ s → occurrence e ≡ cond (is_dropped s) nothing (answered j)
        is s q = collect_occurrence j (row l j).state ∙ ap (λ s. cond (is_dropped s) nothing (answered j)) q

        answers_are : (s : State) → (row l j).state ≡ s → answers_after l (call_collect j) ≡ cond (is_accepted s) (j ∷ l.answered) l.answered
        answers_are s q = ap (λ s. cond (is_accepted s) (j ∷ l.answered) l.answered) q

        go : (s : State) → (row l j).state ≡ s → Tied (record { house = collect_after m j; log = e ∷ p.log; line = line_after l (collect_done l j) j p.line })
        go NeverOpened q = absurd (grind arith)
        go Open q = absurd (grind arith)
        go Voting q = absurd (grind arith)
        go Answered q = absurd (grind arith)
        go Ended q = absurd (grind arith)
        go Accepted q = answers_one p T (call_collect j) f e (λ i x. refl) (λ i x. refl) j (is Accepted q) (λ i x. refl) (answers_are Accepted q)
        go (Dropped k) q = unseen p T (call_collect j) f e (λ i x. refl) (λ i x. refl) (is (Dropped k) q) (λ i x. refl) (answers_are (Dropped k) q)

    write_tied : (j r : ℕ) (v : V) → write_fault l j r ≡ None →
        Tied (record { house = write_after m j r v; log = record { call = call.Write j r v; told = Ok told.Done } ∷ p.log; line = line_after l (write_done l j r (length vs)) j p.line })
    write_tied j r v f =
        advanced p T (call_write j r (length vs)) f (vs ++ v ∷ []) (record { call = call.Write j r v; told = Ok told.Done })
        (record {
          old = λ n b. nth_old vs v n b;
          within = λ k. inside k (eqb k j);
          reads = λ k. reads_same k (eqb k j);
          writes = λ k. values k (eqb k j);
          kinds = λ k. kind_same k (eqb k j);
          answers = refl;
          told = λ i s x. absurd (let z : ◌≡◌ {A = Occurrence V} (wrote j r v) (read i s) = x in grind arith);
        })
      where
        more : length (vs ++ v ∷ []) ≡ length vs + 1
        more = length_push vs v

        written : ℕ → Bool → Core
        written k b = cond b (record { kind = (row l k).kind; reads = (row l k).reads; writes = with_entry (W k) r (length vs) }) (core (row l k))

        inside : (k : ℕ) (b : Bool) → Within (length (vs ++ v ∷ [])) (written k b).writes
        inside k true = within_with_entry (length vs) (length (vs ++ v ∷ [])) (length vs) r (W k) (omega (arith, more)) (omega (arith, more)) (T.within k)
        inside k false = within_more (length vs) (length (vs ++ v ∷ [])) (W k) (omega (arith, more)) (T.within k)

        reads_same : (k : ℕ) (b : Bool) → records_of (written k b).reads ≡ records_of (row l k).reads
        reads_same k true = refl
        reads_same k false = refl

        values : (k : ℕ) (b : Bool) → valued (vs ++ v ∷ []) (written k b).writes ≡ cond b (with_value (valued vs (W k)) r v) (valued vs (W k))
        values k true = valued_with_entry vs v r (W k) (T.within k)
        values k false = valued_push vs v (W k) (T.within k)

        kind_same : (k : ℕ) (b : Bool) → (written k b).kind ≡ (row l k).kind
        kind_same k true = refl
        kind_same k false = refl

    -- a call is judged once: refused, and then nothing changes, or done
    judged : {A : Type 0} (c : Call V) (j : ℕ) (g : A → Told V) (t : Result A Fault) (after : HouseModel V) → ((f : Fault) → occurrence_of c (Err f) ≡ nothing) →
        ((a : A) → t ≡ Ok a → Tied (record { house = after; log = record { call = c; told = Ok (g a) } ∷ p.log; line = line_after l after.ledger j p.line })) →
        Tied (record { house = kept t m after; log = record { call = c; told = told_as g t } ∷ p.log; line = line_after l (kept t m after).ledger j p.line })
    judged c j g (Ok a) after r h = h a refl
    judged c j g (Err f) after r h = unchanged p T (record { call = c; told = Err f }) (r f) (line_after l l j p.line) (sym (line_same (row l j).state j p.line))

    tied_step : (C : Coding V) (c : Call V) → Tied (proceeded C p c)
    tied_step C (call.Open j k) = judged (call.Open j k) j nothing_more (open_told m j) (open_after m j k) (λ f. refl) (λ a e. open_tied j k (passed (open_fault l j) (Ok tt) a e).0)
    tied_step C (call.Read j r) = judged (call.Read j r) j told.Read (read_told m j r) (read_after m j r) (λ f. refl) (λ a e. read_tied p T j r a e)
    tied_step C (call.Write j r v) = judged (call.Write j r v) j nothing_more (write_told m j r) (write_after m j r v) (λ f. refl) (λ a e. write_tied j r v (passed (write_fault l j r) (shelved (place_told vs m.room)) a e).0)
    tied_step C (call.HandIn j) =
        judged (call.HandIn j) j nothing_more (hand_in_told m j) (hand_in_after m j) (λ f. refl)
        (λ a e. unseen p T (call_hand_in j) (passed (hand_in_fault l j) (Ok tt) a e).0 (record { call = call.HandIn j; told = Ok told.Done }) (λ k x. refl) (λ k x. refl) refl (λ k x. refl) refl)
    tied_step C (call.Deliver j o) =
        judged (call.Deliver j o) j nothing_more (deliver_told m j o) (deliver_after m j o) (λ f. refl)
        (λ a e. unseen p T (call_deliver j o) (passed (deliver_fault m.offices l j o) (Ok tt) a e).0 (record { call = call.Deliver j o; told = Ok told.Done }) (λ k x. refl) (λ k x. refl) refl (λ k x. refl) refl)
    tied_step C (call.Collect j) =
        judged (call.Collect j) j told.Collected (collect_told m j) (collect_after m j) (λ f. refl)
        (λ a e.
        let o = passed (collect_fault l j) (Ok (collected (row l j).state)) a e in
        let s : collected (row l j).state ≡ a = (let k : ◌≡◌ {A = Result Collected Fault} (Ok (collected (row l j).state)) (Ok a) = o.1 in cc) in
        subst (λ y. Tied (record { house = collect_after m j; log = record { call = call.Collect j; told = Ok (told.Collected y) } ∷ p.log; line = line_after l (collect_done l j) j p.line })) s (collect_tied j o.0))
    tied_step C (call.Close j) =
        judged (call.Close j) j nothing_more (close_told m j) (close_after m j) (λ f. refl)
        (λ a e. answers_one p T (call_close j) (passed (close_fault l j) (Ok tt) a e).0 (record { call = call.Close j; told = Ok told.Done }) (λ k x. refl) (λ k x. refl) j refl (λ k x. refl) refl)
    tied_step C (call.Withdraw j) =
        judged (call.Withdraw j) j nothing_more (withdraw_told m j) (withdraw_after m j) (λ f. refl)
        (λ a e. unseen p T (call_withdraw j) (passed (withdraw_fault l j) (Ok tt) a e).0 (record { call = call.Withdraw j; told = Ok told.Done }) (λ k x. refl) (λ k x. refl) refl (λ k x. refl) refl)
    tied_step C (call.Archive n) = unchanged p T (record { call = call.Archive n; told = told_as told.Archived (archive_told C m n) }) refl p.line refl

  beginning_tied : (offices : ℕ) (items : List V) (room : ℕ) → Tied (beginning offices items room)
  beginning_tied offices items room =
      record {
        some = offices_some offices;
        few = offices_few offices;
        reached = new;
        placed = new_placed;
        within = λ j. new_row (λ x. Within (length items) (entries x.writes)) (last_job + 1) j tt tt;
        once_reads = λ j. new_row (λ x. OnceEach x.reads) (last_job + 1) j tt tt;
        once_writes = λ j. new_row (λ x. OnceEach (entries x.writes)) (last_job + 1) j tt tt;
        reads = λ j. new_row (λ x. records_of x.reads ≡ []) (last_job + 1) j refl refl;
        writes = λ j. new_row (λ x. valued items (entries x.writes) ≡ []) (last_job + 1) j refl refl;
        kinds = λ j. new_row (λ x. x.kind ≡ Amendment) (last_job + 1) j refl refl;
        answers = refl;
        told = tt;
      }

  pub tied : (C : Coding V) (p : Progress V) → Run C p → Tied p
  tied C p (begins offices items room) = beginning_tied offices items room
  tied C p (proceeds {p = q} r c) = tied_step q (tied C q r) C c
