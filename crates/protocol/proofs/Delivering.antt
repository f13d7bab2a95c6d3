-- A delivery is what its message and the job's state make of it.
-- what holds of each way to deliver holds of the delivery; a message that does not fit the state leaves the ledger
use Rattle.std.proofs.Common.{◌≡◌, ℕ, ◌<◌, ◌≤◌, List, Some, None, Option, refl, arith}
use Rattle.ledger.specs.Limits.{last_job, most_offices}
use Rattle.ledger.specs.Model.{LedgerModel, row, exchange}
use Rattle.ledger.specs.Delivering.{install_done, delivered_voting, dropped_decision, delivered_if, deliver_done, deliver_fault}
use Rattle.ledger.specs.declared.job.Mark.{Mark}
use Rattle.ledger.specs.declared.job.State.{State}
use Rattle.ledger.specs.declared.job.State.TheVariants.{NeverOpened, Open, Voting, Accepted, Dropped, Answered, Ended}
use Rattle.ledger.specs.declared.message.Vote.{Vote}
use Rattle.ledger.specs.declared.message.Outcome.TheVariants.{Commit, Abort}
use Rattle.ledger.specs.declared.message.Message.{Message}
use Rattle.ledger.specs.declared.message.Message.TheVariants.{Prepare, Vote as VoteCast, Decision}
use Rattle.protocol.specs.Calls.{line_after}
use Rattle.protocol.proofs.Matching.{Matched, stays_matched}
use Rattle.protocol.proofs.Preparing.{prepare_matched}
use Rattle.protocol.proofs.Voting.{vote_matched}
use Rattle.protocol.proofs.Deciding.{commit_matched, abort_matched}

pub delivered_by_cases : (office : ℕ → ℕ) (ledger : LedgerModel) (j o : ℕ) (P : LedgerModel → Type 0) → P ledger →
    ((row ledger j).state ≡ Voting → (exchange (row ledger j) o).waiting ≡ Some Prepare → P (delivered_voting office Prepare ledger j o)) →
    ((v : Vote) → (row ledger j).state ≡ Voting → (exchange (row ledger j) o).waiting ≡ Some (VoteCast v) → P (delivered_voting office (VoteCast v) ledger j o)) →
    ((row ledger j).state ≡ Accepted → (exchange (row ledger j) o).waiting ≡ Some (Decision Commit) → P (install_done office ledger j o)) →
    ((m : Mark) → (row ledger j).state ≡ Dropped m → P (dropped_decision office Abort ledger j o)) →
    (s : State) → (row ledger j).state ≡ s → (m : Option Message) → (exchange (row ledger j) o).waiting ≡ m → P (delivered_if office s m ledger j o)
delivered_by_cases office ledger j o P a b c e f s p None q = a
delivered_by_cases office ledger j o P a b c e f NeverOpened p (Some m) q = a
delivered_by_cases office ledger j o P a b c e f Open p (Some m) q = a
delivered_by_cases office ledger j o P a b c e f Answered p (Some m) q = a
delivered_by_cases office ledger j o P a b c e f Ended p (Some m) q = a
delivered_by_cases office ledger j o P a b c e f Voting p (Some Prepare) q = b p q
delivered_by_cases office ledger j o P a b c e f Voting p (Some (VoteCast v)) q = c v p q
delivered_by_cases office ledger j o P a b c e f Voting p (Some (Decision x)) q = a
delivered_by_cases office ledger j o P a b c e f Accepted p (Some Prepare) q = a
delivered_by_cases office ledger j o P a b c e f Accepted p (Some (VoteCast v)) q = a
delivered_by_cases office ledger j o P a b c e f Accepted p (Some (Decision Commit)) q = e p q
delivered_by_cases office ledger j o P a b c e f Accepted p (Some (Decision Abort)) q = a
delivered_by_cases office ledger j o P a b c e f (Dropped m) p (Some Prepare) q = a
delivered_by_cases office ledger j o P a b c e f (Dropped m) p (Some (VoteCast v)) q = a
delivered_by_cases office ledger j o P a b c e f (Dropped m) p (Some (Decision Commit)) q = a
delivered_by_cases office ledger j o P a b c e f (Dropped m) p (Some (Decision Abort)) q = f m p

pub deliver_matched : {office : ℕ → ℕ} {ledger : LedgerModel} {q : List ℕ} (M : Matched office ledger q) (offices : ℕ) → offices ≤ most_offices → (j o : ℕ) → deliver_fault offices ledger j o ≡ None →
    Matched office (deliver_done office ledger j o) (line_after ledger (deliver_done office ledger j o) j q)
deliver_matched {office} {ledger} {q} M offices most j o f =
    let jb : j ≤ last_job = grind arith in
    let ob : o < most_offices = grind arith in
    delivered_by_cases office ledger j o (λ e. Matched office e (line_after ledger e j q)) (stays_matched M j)
    (λ p e. prepare_matched M j o jb ob p e) (λ v p e. vote_matched M j o jb ob v p e) (λ p e. commit_matched M j o jb ob p e) (λ m p. abort_matched M j o jb ob m p)
    (row ledger j).state refl (exchange (row ledger j) o).waiting refl
