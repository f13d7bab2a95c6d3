-- A prepare is one move if the office votes yes, and none if it refuses.
use Rattle.std.proofs.Common.{◌≡◌, ℕ, suc, ◌+◌, ◌<◌, ◌≤◌, Bool, true, false, cond, not, ◌&&◌, eqb, ◌≢◌, List, length, is_some, Some, None, Option, sym, refl, ap, ◌∙◌, zero-add, arith}
use native.Mathlib.Decide.{dec_le}
use Rattle.ledger.specs.Limits.{last_job, most_versions, most_offices}
use Rattle.ledger.specs.Model.{RowModel, LedgerModel, no_row, row, versions, exchange, put_row, is_never_opened, first_unseen, has_written, is_listed}
use Rattle.ledger.specs.Delivering.{vote_waits, is_yes, holds, with_exchange, conflicts, has_conflict, is_stale, is_full, vote_of, delivered_voting}
use Rattle.ledger.specs.declared.job.Mark.TheVariants.{Conflict, Stale, Full}
use Rattle.ledger.specs.declared.job.State.TheVariants.{Voting}
use Rattle.ledger.specs.declared.job.Read.{Read}
use Rattle.ledger.specs.declared.job.Write.{Write}
use Rattle.ledger.specs.declared.message.Vote.{Vote}
use Rattle.ledger.specs.declared.message.Vote.TheVariants.{Yes, Refused}
use Rattle.ledger.specs.declared.message.Message.TheVariants.{Prepare}
use Rattle.protocol.specs.Calls.{line_after}
use Rattle.protocol.proofs.Machine.{Clear, then}
use Rattle.protocol.proofs.Lookups.{no_read_passes, no_write_passes, indexed_none}
use Rattle.protocol.proofs.Matching.{fits_voting, exchange_fits, RowMatches, Matched, line_same, invariants_of, row_behind, put_matched}
use Rattle.protocol.proofs.Exchanging.{still_orderly, holds_written, message_moved}
use Rattle.protocol.proofs.Machine as machine

-- a vote is yes if none of the three tests is met
yes_if : (a b c : Bool) → cond a (Refused Conflict) (cond b (Refused Stale) (cond c (Refused Full) Yes)) ≡ Yes → (a ≡ false) × (b ≡ false) × (c ≡ false)
yes_if a b c e = grind arith

module _ (office : ℕ → ℕ) (x y : RowModel) (o : ℕ) where
  -- two rows that do not conflict, of which y holds
  no_conflict : conflicts office x o y ≡ false → holds (exchange y o) ≡ true → (r : ℕ) → office r ≡ o →
      (has_written x.writes r ≡ true → is_listed y r ≡ false) × (0 < first_unseen x.reads r → has_written y.writes r ≡ false)
  no_conflict c h r e = (not_listed, not_written)
    where
      f : Write → Bool
      f z = eqb (office z.«record») o && is_listed y z.«record»

      g : Read → Bool
      g z = eqb (office z.«record») o && has_written y.writes z.«record»

      not_listed : has_written x.writes r ≡ true → is_listed y r ≡ false
      not_listed l = let z = no_write_passes f x.writes r (grind arith) l in let q : eqb (office r) o && is_listed y r ≡ false = rw z.1 at z.2 in grind arith

      not_written : 0 < first_unseen x.reads r → has_written y.writes r ≡ false
      not_written l = let z = no_read_passes g x.reads r (grind arith) l in let q : eqb (office r) o && has_written y.writes r ≡ false = rw z.1 at z.3 in grind arith

module _ {office : ℕ → ℕ} {ledger : LedgerModel} {q : List ℕ} (M : Matched office ledger q) (j o : ℕ) where
  -- what each of the three tests tells if it is not met

  unconflicted : has_conflict office ledger j o ≡ false → (k : ℕ) → k ≢ j → M.machine.holds k o ≡ true → (conflicts office (row ledger j) o (row ledger k) ≡ false) × (holds (exchange (row ledger k) o) ≡ true)
  unconflicted e k n h = go (dec_le (last_job + 1) k)
    where
      f : ℕ → RowModel → Bool
      f k y = not (eqb k j) && conflicts office (row ledger j) o y

      go : Dec (last_job + 1 ≤ k) → (conflicts office (row ledger j) o (row ledger k) ≡ false) × (holds (exchange (row ledger k) o) ≡ true)
      go (yes p) = absurd (grind (arith, (M.rows.each k).holds_is o, row_behind M k (omega arith)))
      go (no p) =
          let c : not (eqb k j) && conflicts office (row ledger j) o (row ledger k) ≡ false = simp zero-add at (indexed_none f ledger.rows 0 k no_row e (omega (arith, M.rows.rows_length))) in
          (grind arith, sym ((M.rows.each k).holds_is o) ∙ h)

  current : is_stale office ledger j o ≡ false → (r : ℕ) → office r ≡ o → 0 < M.machine.unseen j r → M.machine.unseen j r ≡ suc (M.machine.count r)
  current e r q l =
      let z = no_read_passes f (row ledger j).reads r e (grind (arith, (M.rows.each j).unseen_is r)) in
      let u : eqb (office r) o && not (eqb z.0.version (length (versions ledger r))) ≡ false = rw z.1 at z.3 in
      grind (arith, (M.rows.each j).unseen_is r, M.count_is r, z.2)
    where
      f : Read → Bool
      f z = eqb (office z.«record») o && not (eqb z.version (length (versions ledger z.«record»)))

  room : is_full office ledger j o ≡ false → (r : ℕ) → office r ≡ o → M.machine.wrote j r ≡ true → M.machine.count r < most_versions
  room e r q l =
      let z = no_write_passes f (row ledger j).writes r e (sym ((M.rows.each j).wrote_is r) ∙ l) in
      let y : eqb (office r) o && eqb most_versions (length (versions ledger r)) ≡ false = rw z.1 at z.2 in
      grind (arith, M.count_is r, (invariants_of M).few_versions r)
    where
      f : Write → Bool
      f z = eqb (office z.«record») o && eqb most_versions (length (versions ledger z.«record»))

  clear : vote_of office ledger j o ≡ Yes → Clear office M.machine j o
  clear e = record { no_other_holder = other_holder; no_other_writer = other_writer; current = current tests.1; room = room tests.2 }
    where
      tests : (has_conflict office ledger j o ≡ false) × (is_stale office ledger j o ≡ false) × (is_full office ledger j o ≡ false)
      tests = yes_if (has_conflict office ledger j o) (is_stale office ledger j o) (is_full office ledger j o) e

      other_holder : (k r : ℕ) → k ≢ j → office r ≡ o → M.machine.holds k o ≡ true → M.machine.wrote j r ≡ true → machine.Lists M.machine k r → ⊥
      other_holder k r n q h wj l =
          let c = unconflicted tests.0 k n h in
          let m = no_conflict office (row ledger j) (row ledger k) o c.0 c.1 r q in
          grind (arith, m.0, (M.rows.each j).wrote_is r, (M.rows.each k).wrote_is r, (M.rows.each k).unseen_is r)

      other_writer : (k r : ℕ) → k ≢ j → office r ≡ o → M.machine.holds k o ≡ true → M.machine.wrote k r ≡ true → machine.Lists M.machine j r → ⊥
      other_writer k r n q h wk l =
          let c = unconflicted tests.0 k n h in
          let m = no_conflict office (row ledger j) (row ledger k) o c.0 c.1 r q in
          grind (arith, m.0, m.1, (M.rows.each j).wrote_is r, (M.rows.each k).wrote_is r, (M.rows.each j).unseen_is r)

not_yes : (v : Option Vote) → not (is_some v) ≡ true → is_yes v ≡ false
not_yes None h = refl
not_yes (Some v) h = absurd (grind arith)

pub prepare_matched : {office : ℕ → ℕ} {ledger : LedgerModel} {q : List ℕ} (M : Matched office ledger q) (j o : ℕ) → j ≤ last_job → o < most_offices →
    (row ledger j).state ≡ Voting → (exchange (row ledger j) o).waiting ≡ Some Prepare →
    Matched office (delivered_voting office Prepare ledger j o) (line_after ledger (delivered_voting office Prepare ledger j o) j q)
prepare_matched {office} {ledger} {q} M j o jb ob v e = go (vote_of office ledger j o) refl
  where
    x : RowModel
    x = row ledger j

    now : RowMatches M.machine j x
    now = M.rows.each j

    taken : is_never_opened x.state ≡ false
    taken = grind arith

    unheld : holds (exchange x o) ≡ false
    unheld = not_yes (exchange x o).vote (sym (ap (λ s. exchange_fits s (exchange x o)) v ∙ ap (λ w. fits_voting w (exchange x o).vote) e) ∙ (M.rows.orderly j).fitting o)

    go : (u : Vote) → vote_of office ledger j o ≡ u → Matched office (put_row ledger j (with_exchange x o (vote_waits u))) (line_after ledger (put_row ledger j (with_exchange x o (vote_waits u))) j q)
    go Yes u =
        put_matched M j (with_exchange x o (vote_waits Yes)) (machine.with_hold M.machine j o true) jb
        (then M.run (machine.votes_yes j o (grind (arith, now.phase_is)) (clear M j o u))) refl refl refl (line_same x.state j M.machine.line)
        (record { phase_is = now.phase_is; unseen_is = now.unseen_is; wrote_is = now.wrote_is; version_is = now.version_is; holds_is = holds_written M j o jb ob taken (vote_waits Yes) true refl })
        (grind arith)
        (still_orderly M j o jb ob taken (vote_waits Yes) (rw v refl) (λ _. refl))
    go (Refused m) u = message_moved M j o jb ob taken (vote_waits (Refused m)) (sym unheld) (rw v refl) (λ _. refl)
