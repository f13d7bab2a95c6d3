-- Open and withdraw are one move each.
use Rattle.std.proofs.Common.{◌≡◌, ℕ, ◌≤◌, List, get_or, replicate, None, refl, arith}
use Rattle.ledger.specs.Limits.{last_job, most_offices}
use Rattle.ledger.specs.Model.{LedgerModel, idle, row, with_state}
use Rattle.ledger.specs.Opening.{open_fault, newly_opened, open_done, withdraw_fault, withdraw_done}
use Rattle.ledger.specs.declared.job.JobKind.{JobKind}
use Rattle.ledger.specs.declared.job.JobKind.TheVariants.{Amendment, Inspection}
use Rattle.ledger.specs.declared.job.State.TheVariants.{Open, Ended}
use Rattle.protocol.specs.Calls.{line_after}
use Rattle.protocol.proofs.Machine.{then}
use Rattle.protocol.proofs.Lookups.{in_replicate}
use Rattle.protocol.proofs.Matching.{phase_by, Orderly, RowMatches, Matched, line_by, line_unmoved, invariants_of, put_matched}
use Rattle.protocol.proofs.Machine as machine

all_idle_at : (n o : ℕ) → get_or (replicate n idle) o idle ≡ idle
all_idle_at n o = in_replicate (λ e. e ≡ idle) n o idle idle refl refl

module _ {office : ℕ → ℕ} {ledger : LedgerModel} {q : List ℕ} (M : Matched office ledger q) where
  pub open_matched : (k : JobKind) (j : ℕ) → open_fault ledger j ≡ None → Matched office (open_done ledger k j) (line_after ledger (open_done ledger k j) j q)
  open_matched k j f = go k
    where
      small : j ≤ last_job
      small = grind arith

      is : M.machine.phase j ≡ machine.unopened
      is = grind (arith, (M.rows.each j).phase_is)

      ordered : (k : JobKind) → Orderly office (newly_opened k)
      ordered k = grind (arith, all_idle_at most_offices)

      at : (k : JobKind) → RowMatches (machine.with_phase M.machine j (phase_by k Open)) j (newly_opened k)
      at k =
          let g = invariants_of M in
          record {
            phase_is = grind arith;
            unseen_is = λ r. g.unopened_unread j r is;
            wrote_is = λ r. grind (arith, g.unwritten j r);
            version_is = λ r. grind (arith, g.installers j r);
            holds_is = λ o. grind (arith, g.holders j o, all_idle_at most_offices o);
          }

      unmoved : (p : List ℕ) → p ≡ line_by (row ledger j).state Open j p
      unmoved p = line_unmoved (row ledger j).state Open j p (grind arith) refl

      go : (k : JobKind) → Matched office (open_done ledger k j) (line_after ledger (open_done ledger k j) j q)
      go Amendment =
          put_matched M j (newly_opened Amendment) (machine.with_phase M.machine j machine.amending) small (then M.run (machine.opens j is)) refl refl refl
          (unmoved M.machine.line) (at Amendment) (grind arith) (ordered Amendment)
      go Inspection =
          put_matched M j (newly_opened Inspection) (machine.with_phase M.machine j machine.inspecting) small (then M.run (machine.opens_inspection j is)) refl refl refl
          (unmoved M.machine.line) (at Inspection) (grind arith) (ordered Inspection)

  pub withdraw_matched : (j : ℕ) → withdraw_fault ledger j ≡ None → Matched office (withdraw_done ledger j) (line_after ledger (withdraw_done ledger j) j q)
  withdraw_matched j f =
      let now = M.rows.each j in
      let t = M.rows.orderly j in
      put_matched M j (with_state (row ledger j) Ended) (machine.with_phase M.machine j machine.over) (grind arith)
      (then M.run (machine.withdraws j (grind (arith, now.phase_is)))) refl refl refl (line_unmoved (row ledger j).state Ended j M.machine.line (grind arith) refl)
      (record { phase_is = grind arith; unseen_is = now.unseen_is; wrote_is = now.wrote_is; version_is = now.version_is; holds_is = now.holds_is })
      (grind arith)
      (record { fitting = λ o. grind (arith, t.fitting o); asked = λ e. absurd (grind arith); writes_small = t.writes_small; exchange_count = λ e. t.exchange_count (grind arith); kind_fits = grind arith })
