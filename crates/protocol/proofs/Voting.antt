-- A vote that arrives is no move; with the last one the job is accepted or dropped, which is one.
use Rattle.std.proofs.Common.{◌≡◌, ℕ, zero, suc, ◌<◌, ◌≤◌, Bool, true, false, cond, ◌||◌, List, [], ◌∷◌, get_or, is_some, Some, None, Option, sym, refl, ap, ◌∙◌, arith}
use lib.ListN.{length-map, get_or-map}
use Rattle.std.specs.List.{list_any}
use Rattle.ledger.specs.Limits.{last_job, most_offices}
use Rattle.ledger.specs.Model.{RowModel, LedgerModel, idle, row, exchange, put_row, is_never_opened}
use Rattle.ledger.specs.Delivering.{vote_noted, waits, is_yes, holds, with_exchange, refusal, first_of, first_refusal, outcome, decision_for, decision_waits, decided, delivered_voting}
use Rattle.ledger.specs.declared.job.Mark.{Mark}
use Rattle.ledger.specs.declared.job.State.TheVariants.{Voting, Accepted, Dropped}
use Rattle.ledger.specs.declared.message.Vote.{Vote}
use Rattle.ledger.specs.declared.message.Vote.TheVariants.{Yes, Refused}
use Rattle.ledger.specs.declared.message.Outcome.TheVariants.{Commit, Abort}
use Rattle.ledger.specs.declared.message.Message.{Message}
use Rattle.ledger.specs.declared.message.Message.TheVariants.{Vote as VoteCast}
use Rattle.ledger.specs.declared.message.Exchange.{Exchange}
use Rattle.protocol.specs.Calls.{line_after}
use Rattle.protocol.proofs.Machine.{voting, then}
use Rattle.protocol.proofs.Lookups.{any_none_at}
use Rattle.protocol.proofs.Matching.{is_vote, fits_voting, fits_accepted, fits_dropped, is_used, exchange_fits, Orderly, RowMatches, Matched, line_unmoved, line_joined, put_matched}
use Rattle.protocol.proofs.Exchanging.{still_orderly, holds_same, message_moved}
use Rattle.protocol.proofs.Machine as machine

same_yes : (u : Vote) (c : Option Vote) → is_vote u c ≡ true → is_yes (Some u) ≡ is_yes c
same_yes u None h = absurd (grind arith)
same_yes Yes (Some Yes) h = refl
same_yes Yes (Some (Refused m)) h = absurd (grind arith)
same_yes (Refused m) (Some Yes) h = absurd (grind arith)
same_yes (Refused m) (Some (Refused n)) h = refl

-- the decision that waits fits what was decided

abort_fits : (m : Mark) (e : Exchange) → exchange_fits (Dropped m) (decision_waits Abort e) ≡ true
abort_fits m e = go e.vote
  where
    go : (v : Option Vote) → fits_dropped (decision_for Abort v) ≡ true
    go None = refl
    go (Some v) = refl

commit_fits : (e : Exchange) → refusal e.vote ≡ None → exchange_fits Accepted (decision_waits Commit e) ≡ true
commit_fits e = go e.vote
  where
    go : (v : Option Vote) → refusal v ≡ None → fits_accepted (decision_for Commit v) v ≡ true
    go None a = refl
    go (Some Yes) a = refl
    go (Some (Refused m)) a = absurd (grind arith)

-- an office that was asked, and whose vote was noted and no refusal, holds
voted_yes : (e : Exchange) → waits e ≡ false → refusal e.vote ≡ None → is_used e ≡ true → holds e ≡ true
voted_yes e = go e.waiting e.vote
  where
    go : (w : Option Message) (v : Option Vote) → is_some w ≡ false → refusal v ≡ None → is_some w || is_some v ≡ true → is_yes v ≡ true
    go (Some w) v p a n = absurd (grind arith)
    go None None p a n = absurd (grind arith)
    go None (Some Yes) p a n = refl
    go None (Some (Refused m)) p a n = absurd (grind arith)

none_refused : (es : List Exchange) (i : ℕ) → first_refusal es ≡ None → refusal (get_or es i idle).vote ≡ None
none_refused [] i e = refl
none_refused (y ∷ es) i e = go (refusal y.vote) refl i e (none_refused es)
  where
    go : (m : Option Mark) → refusal y.vote ≡ m → (i : ℕ) → first_of m (first_refusal es) ≡ None → ((k : ℕ) → first_refusal es ≡ None → refusal (get_or es k idle).vote ≡ None) →
        refusal (get_or (y ∷ es) i idle).vote ≡ None
    go None q zero e ih = q
    go None q (suc i) e ih = ih i e
    go (Some m) q i e ih = absurd (grind arith)

pub vote_matched : {office : ℕ → ℕ} {ledger : LedgerModel} {q : List ℕ} (M : Matched office ledger q) (j o : ℕ) → j ≤ last_job → o < most_offices → (v : Vote) →
    (row ledger j).state ≡ Voting → (exchange (row ledger j) o).waiting ≡ Some (VoteCast v) →
    Matched office (delivered_voting office (VoteCast v) ledger j o) (line_after ledger (delivered_voting office (VoteCast v) ledger j o) j q)
vote_matched {office} {ledger} {q} M j o jb ob v s e = go (list_any waits y.exchanges) refl (first_refusal y.exchanges) refl
  where
    x : RowModel
    x = row ledger j

    now : RowMatches M.machine j x
    now = M.rows.each j

    t : Orderly office x
    t = M.rows.orderly j

    taken : is_never_opened x.state ≡ false
    taken = grind arith

    y : RowModel
    y = with_exchange x o (vote_noted v)

    same_hold : holds (vote_noted v) ≡ holds (exchange x o)
    same_hold = same_yes v (exchange x o).vote (sym (ap (λ s. exchange_fits s (exchange x o)) s ∙ ap (λ w. fits_voting w (exchange x o).vote) e) ∙ t.fitting o)

    ordered : Orderly office y
    ordered = still_orderly M j o jb ob taken (vote_noted v) (rw s refl) (λ _. refl)

    holds_noted : (p : ℕ) → M.machine.holds j p ≡ holds (exchange y p)
    holds_noted = holds_same M j o jb ob taken (vote_noted v) same_hold

    decided_at : (m : Option Mark) (p : ℕ) → exchange (decided m y) p ≡ decision_waits (outcome m) (exchange y p)
    decided_at m p = get_or-map (decision_waits (outcome m)) y.exchanges p idle

    holds_decided : (m : Option Mark) (p : ℕ) → M.machine.holds j p ≡ holds (exchange (decided m y) p)
    holds_decided m p = holds_noted p ∙ sym (ap holds (decided_at m p))

    voting : M.machine.phase j ≡ machine.voting
    voting = grind (arith, now.phase_is)

    go : (a : Bool) → list_any waits y.exchanges ≡ a → (b : Option Mark) → first_refusal y.exchanges ≡ b →
        Matched office (put_row ledger j (cond a y (decided b y))) (line_after ledger (put_row ledger j (cond a y (decided b y))) j q)
    go true p b r = message_moved M j o jb ob taken (vote_noted v) same_hold (rw s refl) (λ _. refl)
    go false p (Some m) r =
        put_matched M j (decided (Some m) y) (machine.with_phase M.machine j machine.over) jb (then M.run (machine.drops j voting)) refl refl refl
        (line_unmoved x.state (Dropped m) j M.machine.line (grind arith) refl)
        (record { phase_is = grind arith; unseen_is = now.unseen_is; wrote_is = now.wrote_is; version_is = now.version_is; holds_is = holds_decided (Some m) }) (grind arith)
        (record {
          fitting = λ i. rw (decided_at (Some m) i) (abort_fits m (exchange y i));
          asked = λ f. absurd (grind arith);
          writes_small = t.writes_small;
          exchange_count = λ f. length-map y.exchanges (decision_waits Abort) ∙ ordered.exchange_count taken;
          kind_fits = grind (arith, t.kind_fits);
        })
    go false p None r =
        put_matched M j (decided None y) (machine.with_accepted M.machine j) jb
        (then M.run
        (machine.accepts j voting
        (λ i l. holds_noted (office i) ∙ voted_yes (exchange y (office i)) (any_none_at waits y.exchanges (office i) idle p refl) (none_refused y.exchanges (office i) r)
        (ordered.asked s i (grind (arith, now.unseen_is i, now.wrote_is i))))))
        refl refl refl (line_joined x.state Accepted j M.machine.line (grind arith) refl)
        (record { phase_is = grind arith; unseen_is = now.unseen_is; wrote_is = now.wrote_is; version_is = now.version_is; holds_is = holds_decided None }) (grind arith)
        (record {
          fitting = λ i. rw (decided_at None i) (commit_fits (exchange y i) (none_refused y.exchanges i r));
          asked = λ f. absurd (grind arith);
          writes_small = t.writes_small;
          exchange_count = λ f. length-map y.exchanges (decision_waits Commit) ∙ ordered.exchange_count taken;
          kind_fits = grind (arith, t.kind_fits);
        })
