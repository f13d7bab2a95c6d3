-- In a house that calls have led to, the archive by the rows is that of the answered jobs, and no value of it is lacking.
use Rattle.std.proofs.Common.{◌≡◌, ℕ, suc, ◌+◌, ◌<◌, Bool, true, false, cond, ◌&&◌, ltb, List, [], ◌∷◌, ◌++◌, length, get_or, drop, Some, None, Ok, Err, Result, sym, refl, ap, ◌∙◌, subst, arith}
use Rattle.std.specs.List.{cons_option}
use Rattle.ledger.specs.Model.{RowModel, LedgerModel, no_row, row, is_answered}
use Rattle.ledger.specs.declared.job.State.{State}
use Rattle.ledger.specs.declared.job.State.TheVariants.{Answered}
use Rattle.history.specs.Histories.{Leaf, leaf_of}
use Rattle.history.specs.Layout.{Coding, rising, leaves, archive_bytes}
use Rattle.shelves.specs.declared.fault.ShelfFault.TheVariants.{NoSuchPlace}
use Rattle.archive.specs.Leaves.{leaf_if_answered, row_leaves, lacks_write, lacks_value}
use Rattle.protocol.proofs.JobLists.{all_at}
use Rattle.protocol.proofs.Answering.{answered_rows, answered_listed}
use Rattle.house.specs.Faults.{kept}
use Rattle.house.specs.Model.{HouseModel}
use Rattle.house.specs.Archiving.{job_leaf, house_leaves, lacks_value as lacks_listed, house_archive, archive_told, buffer_after}
use Rattle.house.specs.RowArchiving.{rows_lack, rows_archive, rows_told, rows_buffer}
use Rattle.house.specs.Runs.{Progress}
use Rattle.house.specs.Log.{contains}
use Rattle.house.specs.declared.fault.Fault.{Fault}
use Rattle.house.specs.declared.fault.Fault.TheVariants as fault
use Rattle.law.proofs.Entries.{none_missing}
use Rattle.law.proofs.SerialLeaves.{among_contained, contained, leaf_of_jobs}
use Rattle.law.proofs.Shelving.{none_lacked}
use Rattle.law.proofs.Tying.{Tied, matched}

is_answered_state : (s : State) → is_answered s ≡ true → s ≡ Answered
is_answered_state s e = grind arith

no_matter : (b : Bool) → (b && false) ≡ false
no_matter true = refl
no_matter false = refl

-- what an archive tells and leaves of a buffer, by its bytes and by whether a value is lacking

abbrev told_of : Bool → List ℕ → ℕ → Result ℕ Fault
told_of lacking bytes room = cond lacking (Err (fault.Shelf NoSuchPlace)) (cond (ltb room (length bytes)) (Err (fault.ShortBuffer (length bytes))) (Ok (length bytes)))

module _ {V : Type 0} where
  -- the leaves of rows are those of a history in rising job number, where the history has the same leaf for each job
  rows_rise : (items : List V) (h : List (Leaf V)) (k : ℕ) (xs : List RowModel) → ((i : ℕ) → i < length xs → leaf_of h (k + i) ≡ leaf_if_answered items (k + i) (get_or xs i no_row)) → rising k (length xs) h ≡ row_leaves items k xs
  rows_rise items h k [] e = refl
  rows_rise items h k (x ∷ xs) e =
      let first : leaf_of h k ≡ leaf_if_answered items k x = subst (λ n. leaf_of h n ≡ leaf_if_answered items n x) (omega arith) (e 0 (omega arith)) in
      let rest = rows_rise items h (suc k) xs (λ i l. subst (λ n. leaf_of h n ≡ leaf_if_answered items n (get_or xs i no_row)) (omega arith) (e (suc i) (omega arith))) in
      λ i. cons_option (first i) (rest i)

  module _ (p : Progress V) (T : Tied p) where
    abbrev m : HouseModel V
    m = p.house

    abbrev l : LedgerModel
    l = p.house.ledger

    abbrev vs : List V
    vs = p.house.items

    -- the answered jobs are those whose rows say so
    row_answered : (j : ℕ) → contains l.answered j ≡ is_answered (row l j).state
    row_answered j = go (contains l.answered j) refl (is_answered (row l j).state) refl
      where
        go : (a : Bool) → contains l.answered j ≡ a → (b : Bool) → is_answered (row l j).state ≡ b → a ≡ b
        go true x true y = refl
        go false x false y = refl
        go true x false y = sym (ap is_answered (all_at (λ j. (row l j).state ≡ Answered) l.answered j (answered_rows (matched p T)) (among_contained l.answered j x))) ∙ y
        go false x true y = sym x ∙ contained l.answered j (answered_listed (matched p T) j (is_answered_state (row l j).state y))

    leaves_rise : leaves (house_leaves m) ≡ row_leaves vs 0 l.rows
    unfolding leaves
    leaves_rise =
        ap (λ n. rising 0 n (house_leaves m)) (sym (matched p T).rows.rows_length)
        ∙ rows_rise vs (house_leaves m) 0 l.rows (λ i b. leaf_of_jobs m l.answered (0 + i) ∙ ap (λ t. cond t (Some (job_leaf m (0 + i))) None) (row_answered (0 + i)) ∙ ap (λ n. leaf_if_answered vs (0 + i) (row l n)) (omega arith))

    pub rows_archived : (C : Coding V) → house_archive C m ≡ rows_archive C m
    rows_archived C = ap (archive_bytes C) leaves_rise

    pub rows_complete : rows_lack m ≡ false
    rows_complete = go l.rows (λ j. none_missing vs (row l j).writes (T.within j))
      where
        go : (xs : List RowModel) → ((i : ℕ) → lacks_write (length vs) (get_or xs i no_row).writes ≡ false) → lacks_value (length vs) xs ≡ false
        go [] e = refl
        go (x ∷ xs) e = let i = go xs (λ k. e (suc k)) in let z = e 0 in let b = no_matter (is_answered x.state) in rw (z, b, i) refl

    -- so what the code tells and writes is what the rule of the archive says
    pub told_same : (C : Coding V) (room : ℕ) → rows_told C m room ≡ archive_told C m room
    told_same C room = ap (λ b. told_of b (rows_archive C m) room) (rows_complete ∙ sym (none_lacked p T)) ∙ ap (λ bytes. told_of (lacks_listed m) bytes room) (sym (rows_archived C))

    pub buffer_same : (C : Coding V) (buffer : List ℕ) → rows_buffer C m buffer ≡ buffer_after C m buffer
    buffer_same C buffer =
        ap (λ t. kept t buffer (rows_archive C m ++ drop (length (rows_archive C m)) buffer)) (told_same C (length buffer))
        ∙ ap (λ bytes. kept (archive_told C m (length buffer)) buffer (bytes ++ drop (length bytes) buffer)) (sym (rows_archived C))
