-- One exchange of a row is written: what then waits and stands at each office, and how the row stays orderly.
use Rattle.std.proofs.Common.{◌≡◌, ℕ, ◌<◌, ◌≤◌, Bool, true, false, cond, eqb, List, sym, refl, ap, ◌∙◌, arith, length-set}
use Rattle.ledger.specs.Limits.{last_job, most_offices}
use Rattle.ledger.specs.Model.{RowModel, LedgerModel, idle, row, exchange, put_row, is_never_opened}
use Rattle.ledger.specs.Delivering.{holds, with_exchange}
use Rattle.ledger.specs.declared.job.State.TheVariants.{Voting}
use Rattle.ledger.specs.declared.message.Exchange.{Exchange}
use Rattle.protocol.specs.Calls.{line_after}
use Rattle.protocol.proofs.Lookups.{get_d_set}
use Rattle.protocol.proofs.Matching.{is_used, exchange_fits, Orderly, Matched, none_moved, line_same, put_matched}
use Rattle.protocol.proofs.Machine as machine

at_either : (P : Exchange → Type 0) (b : Bool) (e f : Exchange) → P e → P f → P (cond b e f)
at_either P true e f p q = p
at_either P false e f p q = q

-- what the written exchange has as the old one had it stays at each office
same_at_each : {A : Type 0} (F : Exchange → A) (x : RowModel) (o p : ℕ) (e : Exchange) → F e ≡ F (exchange x o) → F (cond (eqb p o) e (exchange x p)) ≡ F (exchange x p)
same_at_each F x o p e h = go (eqb p o) refl
  where
    go : (t : Bool) → eqb p o ≡ t → F (cond t e (exchange x p)) ≡ F (exchange x p)
    go true q = let i : p ≡ o = grind arith in rw i h
    go false q = refl

module _ {office : ℕ → ℕ} {ledger : LedgerModel} {q : List ℕ} (M : Matched office ledger q) (j o : ℕ) (jb : j ≤ last_job) (ob : o < most_offices) (taken : is_never_opened (row ledger j).state ≡ false) where
  abbrev x : RowModel
  x = row ledger j

  pub exchange_at : (e : Exchange) (p : ℕ) → exchange (with_exchange x o e) p ≡ cond (eqb p o) e (exchange x p)
  exchange_at e p = get_d_set x.exchanges o p e idle (omega (arith, (M.rows.orderly j).exchange_count taken))

  pub still_orderly : (e : Exchange) → exchange_fits x.state e ≡ true → (x.state ≡ Voting → is_used e ≡ true) → Orderly office (with_exchange x o e)
  still_orderly e s n =
      let t = M.rows.orderly j in
      record {
        fitting = λ p. rw (exchange_at e p) (at_either (λ y. exchange_fits x.state y ≡ true) (eqb p o) e (exchange x p) s (t.fitting p));
        asked = λ v r m. rw (exchange_at e (office r)) (at_either (λ y. is_used y ≡ true) (eqb (office r) o) e (exchange x (office r)) (n v) (t.asked v r m));
        writes_small = t.writes_small;
        exchange_count = λ v. simp length-set (t.exchange_count v);
        kind_fits = t.kind_fits;
      }

  -- the holds of the job, where they change at this office
  pub holds_written : (e : Exchange) (b : Bool) → holds e ≡ b → (p : ℕ) → machine.updated_at M.machine.holds j o b j p ≡ holds (exchange (with_exchange x o e) p)
  holds_written e b h p = rw (exchange_at e p) (go (eqb p o))
    where
      go : (c : Bool) → cond (eqb j j) (cond c b (M.machine.holds j p)) (M.machine.holds j p) ≡ holds (cond c e (exchange x p))
      go true = grind arith
      go false = grind (arith, (M.rows.each j).holds_is p)

  -- and where they stay
  pub holds_same : (e : Exchange) → holds e ≡ holds (exchange x o) → (p : ℕ) → M.machine.holds j p ≡ holds (exchange (with_exchange x o e) p)
  holds_same e h p = (M.rows.each j).holds_is p ∙ sym (ap holds (exchange_at e p) ∙ same_at_each holds x o p e h)

  -- a delivery that only moves a message on is no move
  pub message_moved : (e : Exchange) → holds e ≡ holds (exchange x o) → exchange_fits x.state e ≡ true → (x.state ≡ Voting → is_used e ≡ true) →
      Matched office (put_row ledger j (with_exchange x o e)) (line_after ledger (put_row ledger j (with_exchange x o e)) j q)
  message_moved e h s n =
      let now = M.rows.each j in
      put_matched M j (with_exchange x o e) M.machine jb M.run refl refl refl (line_same x.state j M.machine.line)
      (record { phase_is = now.phase_is; unseen_is = now.unseen_is; wrote_is = now.wrote_is; version_is = now.version_is; holds_is = holds_same e h })
      (none_moved M.machine j)
      (still_orderly e s n)
