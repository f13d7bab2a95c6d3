-- A first reading is one move; a later one is none.
use Rattle.std.proofs.Common.{◌≡◌, ℕ, zero, suc, ◌<◌, ◌≤◌, Bool, true, false, cond, List, length, get_or, None, refl, arith}
use Rattle.ledger.specs.Searching.{highest}
use Rattle.ledger.specs.Model.{RowModel, LedgerModel, row, versions, put_row, is_answered, first_unseen}
use Rattle.ledger.specs.Reading.{newest_answered, newest, is_new_read, read_fault, no_version, with_read, read_done}
use Rattle.ledger.specs.declared.job.JobKind.{JobKind}
use Rattle.ledger.specs.declared.job.JobKind.TheVariants.{Amendment, Inspection}
use Rattle.ledger.specs.declared.job.Version.{Version}
use Rattle.protocol.specs.Calls.{line_after}
use Rattle.protocol.proofs.Machine.{answered_writers, then}
use Rattle.protocol.proofs.Invariants.{Invariants}
use Rattle.protocol.proofs.Lookups.{unseen_push, highest_small, highest_passes, none_higher}
use Rattle.protocol.proofs.Matching.{Orderly, RowMatches, Matched, line_same, invariants_of, put_matched, stays_matched}
use Rattle.protocol.proofs.Machine as machine

module _ {office : ℕ → ℕ} {ledger : LedgerModel} {q : List ℕ} (M : Matched office ledger q) where
  -- the newest answered version is the count of answered writers: its job is answered, and that of the next version is not
  newest_answered_is : (r : ℕ) → newest_answered ledger r ≡ answered_writers M.machine.answers r
  newest_answered_is r = fit n c refl refl
    where
      g : Invariants office M.machine
      g = invariants_of M

      F : Version → Bool
      F u = is_answered (row ledger u.job).state

      vs : List Version
      vs = versions ledger r

      n : ℕ
      n = highest F vs

      c : ℕ
      c = answered_writers M.machine.answers r

      U : ℕ → ℕ
      U i = (get_or vs i no_version).job

      installed_by : (i : ℕ) → i < length vs → M.machine.version (U i) r ≡ suc i
      installed_by i l = let e = M.writer_is r i (grind (arith, M.count_is r)) in rw e at (g.writer_version r (suc i) (omega arith) (grind (arith, M.count_is r)))

      up : (i : ℕ) → n ≡ suc i → suc i ≤ c
      up i e = grind (arith, highest_passes F vs i no_version e, installed_by i (omega (arith, highest_small F vs)), g.answered_low (U i) r, (M.rows.each (U i)).phase_is)

      down : (i : ℕ) → c ≡ suc i → n ≤ i → ⊥
      down i e l =
          let m : i < length vs = grind (arith, g.answers_installed r, M.count_is r) in
          grind (arith, none_higher F vs i no_version l m, installed_by i m, g.low_answered (U i) r, (M.rows.each (U i)).phase_is)

      fit : (a b : ℕ) → n ≡ a → c ≡ b → n ≡ c
      fit zero zero p q = cc
      fit (suc a) zero p q = absurd (omega (arith, up a p))
      fit zero (suc b) p q = absurd (down b q (omega arith))
      fit (suc a) (suc b) p q = grind (arith, up a p, down b q)

  pub read_matched : (j r : ℕ) → read_fault ledger j r ≡ None → Matched office (read_done ledger j r) (line_after ledger (read_done ledger j r) j q)
  read_matched j r f = go (is_new_read x r) refl
    where
      x : RowModel
      x = row ledger j

      now : RowMatches M.machine j x
      now = M.rows.each j

      t : Orderly office x
      t = M.rows.orderly j

      x' : RowModel
      x' = with_read x r (newest ledger x r)

      ordered : Orderly office x'
      ordered = record { fitting = t.fitting; asked = λ e. absurd (grind arith); writes_small = t.writes_small; exchange_count = t.exchange_count; kind_fits = t.kind_fits }

      at : (n : ℕ) → newest ledger x r ≡ n → first_unseen x.reads r ≡ 0 → RowMatches (machine.with_unseen M.machine j r (suc n)) j x'
      at n e z =
          record {
            phase_is = now.phase_is;
            unseen_is = λ s. grind (arith, now.unseen_is s, unseen_push x.reads r (newest ledger x r) s z);
            wrote_is = now.wrote_is;
            version_is = now.version_is;
            holds_is = now.holds_is;
          }

      by : (k : JobKind) → x.kind ≡ k → first_unseen x.reads r ≡ 0 → Matched office (put_row ledger j x') (line_after ledger (put_row ledger j x') j q)
      by Amendment e z =
          put_matched M j x' (machine.with_unseen M.machine j r (suc (M.machine.count r))) (grind arith)
          (then M.run (machine.reads_newest j r (grind (arith, now.phase_is)))) refl refl refl (line_same x.state j M.machine.line)
          (at (M.machine.count r) (grind (arith, M.count_is r)) z) (grind arith) ordered
      by Inspection e z =
          put_matched M j x' (machine.with_unseen M.machine j r (suc (answered_writers M.machine.answers r))) (grind arith)
          (then M.run (machine.reads_answered j r (grind (arith, now.phase_is)))) refl refl refl (line_same x.state j M.machine.line)
          (at (answered_writers M.machine.answers r) (grind (arith, newest_answered_is r)) z) (grind arith) ordered

      go : (b : Bool) → is_new_read x r ≡ b → Matched office (cond b (put_row ledger j x') ledger) (line_after ledger (cond b (put_row ledger j x') ledger) j q)
      go true e = by x.kind refl (grind arith)
      go false e = stays_matched M j
