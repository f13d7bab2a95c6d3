-- A delivery of a prepare, over plain numbers: n and p are the numbers of the job and of the office as they are looked up, j and o as the call names them. Assumes nothing.
use Rattle.std.proofs.Common.{◌≡◌, ℕ, ◌<◌, ◌≤◌, true, Some, None, Option, sym, ap, ◌∙◌, arith}
use Rattle.ledger.specs.Delivering.{with_exchange, vote_waits, vote_of, delivered_if, deliver_fault, deliver_done}
use Rattle.ledger.specs.Faults.{guarded}
use Rattle.ledger.specs.Limits.{last_job}
use Rattle.ledger.specs.Model.{LedgerModel, row, exchange, put_row, is_amendment}
use Rattle.ledger.specs.Offices.{office_of}
use Rattle.ledger.specs.declared.fault.LedgerFault.{LedgerFault}
use Rattle.ledger.specs.declared.job.State.{State}
use Rattle.ledger.specs.declared.job.State.TheVariants.{Voting}
use Rattle.ledger.specs.declared.message.Message.{Message}
use Rattle.ledger.specs.declared.message.Message.TheVariants.{Prepare}
use Rattle.ledger.specs.declared.offices.Offices.{Offices}

module _ (offices : Offices) (l : LedgerModel) (j o : ℕ) where
  not_refused : j ≤ last_job → o < offices.count → is_amendment (row l j).kind ≡ true → (row l j).state ≡ Voting → (exchange (row l j) o).waiting ≡ Some Prepare → deliver_fault offices.count l j o ≡ None
  not_refused h k a s m = grind arith

  abbrev voted : Offices → ℕ → ℕ → LedgerModel
  voted t n p = put_row l n (with_exchange (row l n) p (vote_waits (vote_of (office_of t) l n p)))

  done : (row l j).state ≡ Voting → (exchange (row l j) o).waiting ≡ Some Prepare → deliver_done (office_of offices) l j o ≡ voted offices j o
  done s m =
      ap (λ (t : State). delivered_if (office_of offices) t (exchange (row l j) o).waiting l j o) s
      ∙ ap (λ (t : Option Message). delivered_if (office_of offices) Voting t l j o) m

  pub prepared :
      (n : ℕ) → n ≡ j → (t : Offices) → t ≡ offices → (p : ℕ) → p ≡ o →
      j ≤ last_job → o < offices.count → is_amendment (row l j).kind ≡ true → (row l j).state ≡ Voting → (exchange (row l j) o).waiting ≡ Some Prepare →
      put_row l n (with_exchange (row l n) p (vote_waits (vote_of (office_of t) l n p))) ≡ guarded (deliver_fault offices.count l j o) l (deliver_done (office_of offices) l j o)
  prepared n e t f p q h k a s m =
      ap (λ i. voted t i p) e ∙ ap (λ i. voted t j i) q ∙ ap (λ (i : Offices). voted i j o) f ∙ sym (done s m)
      ∙ ap (λ (why : Option LedgerFault). guarded why l (deliver_done (office_of offices) l j o)) (sym (not_refused h k a s m))
