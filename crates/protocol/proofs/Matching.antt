-- The ledger goes with the machine: what the machine's aspects are of a ledger, and the step that writes one row.
use Rattle.std.proofs.Common.{◌≡◌, ℕ, suc, ◌+◌, ◌<◌, ◌≤◌, Bool, true, false, cond, not, ◌||◌, eqb, ◌≢◌, List, [], ◌∷◌, ◌++◌, length, get_or, set, is_some, Some, None, Option, sym, refl, ap, ◌∙◌, arith, length-set, get_or-set_same}
use lib.ListN.{get_or-eq_default}
use Rattle.ledger.specs.Limits.{last_job, last_record, most_offices}
use Rattle.ledger.specs.Model.{RowModel, LedgerModel, no_row, row, versions, exchange, put_row, is_amendment, is_never_opened, is_accepted, first_unseen, has_written, installed_version, is_listed}
use Rattle.ledger.specs.Reading.{no_version}
use Rattle.ledger.specs.Delivering.{waits, is_yes, holds}
use Rattle.ledger.specs.declared.job.JobKind.{JobKind}
use Rattle.ledger.specs.declared.job.JobKind.TheVariants.{Amendment, Inspection}
use Rattle.ledger.specs.declared.job.State.{State}
use Rattle.ledger.specs.declared.job.State.TheVariants.{NeverOpened, Open, Voting, Accepted, Dropped, Answered, Ended}
use Rattle.ledger.specs.declared.message.Vote.{Vote}
use Rattle.ledger.specs.declared.message.Vote.TheVariants.{Yes, Refused}
use Rattle.ledger.specs.declared.message.Outcome.TheVariants.{Commit, Abort}
use Rattle.ledger.specs.declared.message.Message.{Message}
use Rattle.ledger.specs.declared.message.Message.TheVariants.{Prepare, Vote as VoteCast, Decision}
use Rattle.ledger.specs.declared.message.Exchange.{Exchange}
use Rattle.protocol.specs.Calls.{without, line_after}
use Rattle.protocol.proofs.Machine.{Machine, Run}
use Rattle.protocol.proofs.Invariants.{Invariants}
use Rattle.protocol.proofs.Runs.{sound}
use Rattle.protocol.proofs.Kept.{jobs}
use Rattle.protocol.proofs.Lookups.{get_d_set}
use Rattle.protocol.proofs.Machine as machine

abbrev pub phase_by : JobKind → State → machine.Phase
phase_by k NeverOpened = machine.unopened
phase_by Amendment Open = machine.amending
phase_by Inspection Open = machine.inspecting
phase_by k Voting = machine.voting
phase_by k Accepted = machine.accepted
phase_by k Answered = machine.answered
phase_by k Ended = machine.over
phase_by k (Dropped m) = machine.over

abbrev pub phase_of : RowModel → machine.Phase
phase_of x = phase_by x.kind x.state

-- which exchanges go with which state of the job: a waiting vote is the one that the office has cast, and yes or not is all that matters of it

abbrev pub same_vote : Vote → Vote → Bool
same_vote Yes Yes = true
same_vote Yes (Refused m) = false
same_vote (Refused m) Yes = false
same_vote (Refused m) (Refused n) = true

abbrev pub is_vote : Vote → Option Vote → Bool
is_vote u None = false
is_vote u (Some v) = same_vote u v

abbrev pub fits_voting : Option Message → Option Vote → Bool
fits_voting None v = true
fits_voting (Some Prepare) v = not (is_some v)
fits_voting (Some (VoteCast u)) v = is_vote u v
fits_voting (Some (Decision x)) v = false

abbrev pub fits_accepted : Option Message → Option Vote → Bool
fits_accepted None v = not (is_some v)
fits_accepted (Some Prepare) v = false
fits_accepted (Some (VoteCast u)) v = false
fits_accepted (Some (Decision Commit)) v = is_yes v
fits_accepted (Some (Decision Abort)) v = false

abbrev pub fits_dropped : Option Message → Bool
fits_dropped None = true
fits_dropped (Some Prepare) = false
fits_dropped (Some (VoteCast u)) = false
fits_dropped (Some (Decision Commit)) = false
fits_dropped (Some (Decision Abort)) = true

-- a message waits, or a vote stands
abbrev pub is_used : Exchange → Bool
is_used e = is_some e.waiting || is_some e.vote

abbrev pub exchange_fits : State → Exchange → Bool
exchange_fits NeverOpened e = not (is_used e)
exchange_fits Open e = not (is_used e)
exchange_fits Voting e = fits_voting e.waiting e.vote
exchange_fits Accepted e = fits_accepted e.waiting e.vote
exchange_fits Answered e = not (waits e)
exchange_fits Ended e = not (waits e)
exchange_fits (Dropped m) e = fits_dropped e.waiting

-- the states of an inspection
abbrev pub is_inspection_state : State → Bool
is_inspection_state NeverOpened = true
is_inspection_state Open = true
is_inspection_state Voting = false
is_inspection_state Accepted = false
is_inspection_state Answered = true
is_inspection_state Ended = false
is_inspection_state (Dropped m) = false

-- what each row keeps by itself
pub record Orderly (office : ℕ → ℕ) (x : RowModel) : Type 0 where
  pub fitting : (o : ℕ) → exchange_fits x.state (exchange x o) ≡ true
  -- while a job votes, each office of a listed record was asked
  pub asked : x.state ≡ Voting → (r : ℕ) → is_listed x r ≡ true → is_used (exchange x (office r)) ≡ true
  pub writes_small : (r : ℕ) → has_written x.writes r ≡ true → r ≤ last_record
  pub exchange_count : is_never_opened x.state ≡ false → length x.exchanges ≡ most_offices
  pub kind_fits : is_amendment x.kind || is_inspection_state x.state ≡ true

-- the machine says of job j what the row says
pub record RowMatches (h : Machine) (j : ℕ) (x : RowModel) : Type 0 where
  pub phase_is : h.phase j ≡ phase_of x
  pub unseen_is : (r : ℕ) → h.unseen j r ≡ first_unseen x.reads r
  pub wrote_is : (r : ℕ) → h.wrote j r ≡ has_written x.writes r
  pub version_is : (r : ℕ) → h.version j r ≡ installed_version x.writes r
  pub holds_is : (o : ℕ) → h.holds j o ≡ holds (exchange x o)

pub record RowsMatch (office : ℕ → ℕ) (rows : List RowModel) (h : Machine) : Type 0 where
  pub rows_length : length rows ≡ last_job + 1
  pub each : (j : ℕ) → RowMatches h j (get_or rows j no_row)
  pub orderly : (j : ℕ) → Orderly office (get_or rows j no_row)

-- some run of the machine leads to where the ledger and its line are
pub record Matched (office : ℕ → ℕ) (ledger : LedgerModel) (q : List ℕ) : Type 0 where
  pub machine : Machine
  pub run : Run office machine
  pub rows : RowsMatch office ledger.rows machine
  pub records_length : length ledger.records ≡ last_record + 1
  pub count_is : (r : ℕ) → (machine).count r ≡ length (versions ledger r)
  pub writer_is : (r i : ℕ) → i < (machine).count r → (machine).writer r (suc i) ≡ (get_or (versions ledger r) i no_version).job
  pub answers_are : jobs (machine).answers ≡ ledger.answered
  pub line_is : (machine).line ≡ q

-- the two machines say the same of job k
pub record SameJob (h h' : Machine) (k : ℕ) : Type 0 where
  pub phase_stays : h'.phase k ≡ h.phase k
  pub unseen_stays : (r : ℕ) → h'.unseen k r ≡ h.unseen k r
  pub wrote_stays : (r : ℕ) → h'.wrote k r ≡ h.wrote k r
  pub version_stays : (r : ℕ) → h'.version k r ≡ h.version k r
  pub holds_stay : (o : ℕ) → h'.holds k o ≡ h.holds k o

abbrev pub OthersStay : Machine → Machine → ℕ → Type 0
OthersStay h h' j = (k : ℕ) → k ≢ j → SameJob h h' k

pub none_moved : (h : Machine) (j : ℕ) → OthersStay h h j
none_moved h j k n = record { phase_stays = refl; unseen_stays = λ r. refl; wrote_stays = λ r. refl; version_stays = λ r. refl; holds_stay = λ o. refl }

-- one row is written, and the machine moves on at that job alone
pub rows_put : (office : ℕ → ℕ) (rows : List RowModel) (h h' : Machine) (j : ℕ) (x : RowModel) → j ≤ last_job → RowsMatch office rows h →
    RowMatches h' j x → OthersStay h h' j → Orderly office x → RowsMatch office (set rows j x) h'
rows_put office rows h h' j x b s a o t =
    record {
      rows_length = simp length-set s.rows_length;
      each = λ k. rw (found k) (pick (eqb k j) refl);
      orderly = λ k. rw (found k) (ordered (eqb k j) k);
    }
  where
    found : (k : ℕ) → get_or (set rows j x) k no_row ≡ cond (eqb k j) x (get_or rows k no_row)
    found k = get_d_set rows j k x no_row (omega (arith, s.rows_length))

    ordered : (t' : Bool) (k : ℕ) → Orderly office (cond t' x (get_or rows k no_row))
    ordered true k = t
    ordered false k = s.orderly k

    pick : {k : ℕ} (t' : Bool) → eqb k j ≡ t' → RowMatches h' k (cond t' x (get_or rows k no_row))
    pick {k} true e = let q : k ≡ j = grind arith in rw q a
    pick {k} false e =
        let m = o k (grind arith) in
        let y = s.each k in
        record {
          phase_is = m.phase_stays ∙ y.phase_is;
          unseen_is = λ r. m.unseen_stays r ∙ y.unseen_is r;
          wrote_is = λ r. m.wrote_stays r ∙ y.wrote_is r;
          version_is = λ r. m.version_stays r ∙ y.version_is r;
          holds_is = λ p. m.holds_stay p ∙ y.holds_is p;
        }

-- the line after a step, by the states of the job before and after

abbrev pub line_by : State → State → ℕ → List ℕ → List ℕ
line_by s t j q = cond (is_accepted s) (cond (is_accepted t) q (without j q)) (cond (is_accepted t) (q ++ j ∷ []) q)

pub line_same : (s : State) (j : ℕ) (q : List ℕ) → q ≡ line_by s s j q
line_same s j q = go (is_accepted s)
  where
    go : (b : Bool) → q ≡ cond b (cond b q (without j q)) (cond b (q ++ j ∷ []) q)
    go true = refl
    go false = refl

pub line_unmoved : (s t : State) (j : ℕ) (q : List ℕ) → is_accepted s ≡ false → is_accepted t ≡ false → q ≡ line_by s t j q
line_unmoved s t j q a b = rw (a, b) refl

pub line_joined : (s t : State) (j : ℕ) (q : List ℕ) → is_accepted s ≡ false → is_accepted t ≡ true → q ++ j ∷ [] ≡ line_by s t j q
line_joined s t j q a b = rw (a, b) refl

module _ {office : ℕ → ℕ} {ledger : LedgerModel} {q : List ℕ} (M : Matched office ledger q) where
  pub invariants_of : Invariants office M.machine
  invariants_of = (sound office M.machine M.run).invariants

  pub row_after : (j : ℕ) (x : RowModel) → j ≤ last_job → get_or (set ledger.rows j x) j no_row ≡ x
  row_after j x b = get_or-set_same ledger.rows j x no_row (omega (arith, M.rows.rows_length))

  -- no job behind the last row
  pub row_behind : (k : ℕ) → last_job < k → row ledger k ≡ no_row
  row_behind k l = get_or-eq_default ledger.rows no_row {n = k} (omega (arith, M.rows.rows_length))

  pub line_put : (j : ℕ) (x : RowModel) → j ≤ last_job → (p : List ℕ) → p ≡ line_by (row ledger j).state x.state j M.machine.line →
      p ≡ line_by (row ledger j).state (get_or (set ledger.rows j x) j no_row).state j q
  line_put j x b p u = u ∙ ap (line_by (row ledger j).state x.state j) M.line_is ∙ ap (λ y. line_by (row ledger j).state y.state j q) (sym (row_after j x b))

  -- a step that writes one row, and leaves versions and answers
  pub put_matched : (j : ℕ) (x : RowModel) (h : Machine) → j ≤ last_job → Run office h → h.count ≡ M.machine.count → h.writer ≡ M.machine.writer → h.answers ≡ M.machine.answers →
      h.line ≡ line_by (row ledger j).state x.state j M.machine.line →
      RowMatches h j x → OthersStay M.machine h j → Orderly office x → Matched office (put_row ledger j x) (line_after ledger (put_row ledger j x) j q)
  put_matched j x h b run n o e u a r t =
      record {
        machine = h;
        run = run;
        rows = rows_put office ledger.rows M.machine h j x b M.rows a r t;
        records_length = M.records_length;
        count_is = rw n M.count_is;
        writer_is = rw n (rw o M.writer_is);
        answers_are = rw e M.answers_are;
        line_is = line_put j x b h.line u;
      }

  -- nothing is written
  pub stays_matched : (j : ℕ) → Matched office ledger (line_after ledger ledger j q)
  stays_matched j = rw (← line_same (row ledger j).state j q) M
