-- The line of a run has the accepted jobs, and the first of it can be collected.
use Rattle.std.proofs.Common.{◌≡◌, ℕ, Bool, true, false, List, [], ◌∷◌, Ok, sym, refl, ap, ◌∙◌, arith}
use Rattle.ledger.specs.Model.{LedgerModel, row, is_accepted}
use Rattle.ledger.specs.Answering.{is_held}
use Rattle.ledger.specs.declared.job.State.{State}
use Rattle.ledger.specs.declared.job.State.TheVariants.{Accepted}
use Rattle.protocol.specs.Laws.{Calm}
use Rattle.protocol.proofs.JobLists.{Among, all_at}
use Rattle.protocol.proofs.Theorems.{accepted_in_line, line_accepted, first_of_line}
use Rattle.house.specs.Faults.{after_checks}
use Rattle.house.specs.Model.{HouseModel}
use Rattle.ledger.specs.Answering.{collected}
use Rattle.history.specs.Layout.{Coding}
use Rattle.house.specs.Runs.{told_as, call_told, Event, Progress}
use Rattle.house.specs.Log.{contains}
use Rattle.law.proofs.Tying.{Tied, matched}
use Rattle.law.proofs.SerialLeaves.{among_contained, contained}
use Rattle.house.specs.declared.call.Call.TheVariants as call
use Rattle.house.specs.declared.call.Told.TheVariants as told
use Rattle.ledger.specs.declared.job.Collected.TheVariants.{Answered}

is_accepted_state : (s : State) → is_accepted s ≡ true → s ≡ Accepted
is_accepted_state s e = grind arith

module _ {V : Type 0} (p : Progress V) (T : Tied p) where
  abbrev m : HouseModel V
  m = p.house

  abbrev l : LedgerModel
  l = p.house.ledger

  abbrev vs : List V
  vs = p.house.items

  abbrev log : List (Event V)
  log = p.log

  pub line_contains : (j : ℕ) → contains p.line j ≡ is_accepted (row l j).state
  line_contains j = go (contains p.line j) refl (is_accepted (row l j).state) refl
    where
      go : (a : Bool) → contains p.line j ≡ a → (b : Bool) → is_accepted (row l j).state ≡ b → a ≡ b
      go true x true y = refl
      go false x false y = refl
      go true x false y = sym (ap is_accepted (all_at (λ j. (row l j).state ≡ Accepted) p.line j (line_accepted (matched p T)) (among_contained p.line j x))) ∙ y
      go false x true y = sym x ∙ contained p.line j (accepted_in_line (matched p T) j (is_accepted_state (row l j).state y))

  pub first_answered : (C : Coding V) → Calm l → (j : ℕ) → (row l j).state ≡ Accepted →
      (t : ℕ) × (ts : List ℕ) × (p.line ≡ t ∷ ts) × (is_held l t ≡ false) × (call_told C m (call.Collect t) ≡ Ok (told.Collected Answered))
  first_answered C calm j a = go p.line refl (accepted_in_line (matched p T) j a)
    where
      go : (q : List ℕ) → p.line ≡ q → Among j q → (t : ℕ) × (ts : List ℕ) × (p.line ≡ t ∷ ts) × (is_held l t ≡ false) × (call_told C m (call.Collect t) ≡ Ok (told.Collected Answered))
      go [] e i = absurd i
      go (t ∷ ts) e i =
          let f = first_of_line (matched p T) calm t ts e in
          (t, ts, e, f.1, ap (λ o. told_as told.Collected (after_checks o (Ok (collected (row l t).state)))) f.2 ∙ ap (λ s. Ok (told.Collected (collected s))) f.0)
