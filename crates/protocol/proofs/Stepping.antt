-- Every step of the ledger, accepted or refused, is none, one or two of the machine's moves: so each run of the ledger goes with a run of the machine.
use Rattle.std.proofs.Common.{◌≡◌, ℕ, ◌+◌, ◌<◌, ◌≤◌, not, List, [], length, get_or, replicate, Some, None, Option, sym, refl, ap, ◌∙◌, arith}
use lib.ListN.{length-replicate}
use Rattle.ledger.specs.Limits.{last_job, last_record, most_offices}
use Rattle.ledger.specs.Faults.{guarded}
use Rattle.ledger.specs.Model.{LedgerModel, idle, unused, new_ledger, no_row, exchange}
use Rattle.ledger.specs.Delivering.{holds}
use Rattle.ledger.specs.declared.fault.LedgerFault.{LedgerFault}
use Rattle.ledger.specs.declared.job.Version.{Version}
use Rattle.protocol.specs.Calls.{LedgerCall, call_open, call_read, call_write, call_hand_in, call_collect, call_close, call_withdraw, call_deliver, job_of, fault_of, done_by, ledger_after, line_after, Reached, new, next}
use Rattle.protocol.proofs.Machine.{new_machine, start}
use Rattle.protocol.proofs.Lookups.{in_replicate}
use Rattle.protocol.proofs.Matching.{is_used, Orderly, RowMatches, RowsMatch, Matched, stays_matched}
use Rattle.protocol.proofs.Opening.{open_matched, withdraw_matched}
use Rattle.protocol.proofs.Reading.{read_matched}
use Rattle.protocol.proofs.Writing.{write_matched}
use Rattle.protocol.proofs.HandingIn.{hand_in_matched}
use Rattle.protocol.proofs.Delivering.{deliver_matched}
use Rattle.protocol.proofs.Answering.{close_matched, collect_matched}

module _ {office : ℕ → ℕ} {ledger : LedgerModel} {q : List ℕ} (M : Matched office ledger q) (offices : ℕ) (most : offices ≤ most_offices) (few : (r : ℕ) → office r < most_offices) where
  pub done_matched : (c : LedgerCall) → fault_of offices office ledger c ≡ None → Matched office (done_by offices office ledger c) (line_after ledger (done_by offices office ledger c) (job_of c) q)
  done_matched (call_open j k) f = open_matched M k j f
  done_matched (call_read j r) f = read_matched M j r f
  done_matched (call_write j r p) f = write_matched M j r p f
  done_matched (call_hand_in j) f = hand_in_matched M few j f
  done_matched (call_collect j) f = collect_matched M j f
  done_matched (call_close j) f = close_matched M j f
  done_matched (call_withdraw j) f = withdraw_matched M j f
  done_matched (call_deliver j o) f = deliver_matched M offices most j o f

  -- a refused call leaves the ledger: shown once for all calls
  step_matched : (c : LedgerCall) → Matched office (ledger_after offices office ledger c) (line_after ledger (ledger_after offices office ledger c) (job_of c) q)
  step_matched c = go (fault_of offices office ledger c) refl
    where
      go : (f : Option LedgerFault) → fault_of offices office ledger c ≡ f →
          Matched office (guarded f ledger (done_by offices office ledger c)) (line_after ledger (guarded f ledger (done_by offices office ledger c)) (job_of c) q)
      go None e = done_matched c e
      go (Some f) e = stays_matched M (job_of c)

-- a new ledger, with so many rows and records

idle_at : (o : ℕ) → exchange unused o ≡ idle
idle_at o = in_replicate (λ e. e ≡ idle) most_offices o idle idle refl refl

unused_matches : (j : ℕ) → RowMatches new_machine j unused
unused_matches j = record { phase_is = refl; unseen_is = λ r. refl; wrote_is = λ r. refl; version_is = λ r. refl; holds_is = λ o. sym (ap holds (idle_at o)) }

unused_orderly : (office : ℕ → ℕ) → Orderly office unused
unused_orderly office =
    record { fitting = λ o. ap (λ e. not (is_used e)) (idle_at o); asked = λ e. absurd (grind arith); writes_small = λ r e. absurd (grind arith); exchange_count = λ e. absurd (grind arith); kind_fits = refl }

rows_new : (office : ℕ → ℕ) (n : ℕ) → n ≡ last_job + 1 → RowsMatch office (replicate n unused) new_machine
rows_new office n e =
    record {
      rows_length = length-replicate n unused ∙ e;
      each = λ j. in_replicate (RowMatches new_machine j) n j unused no_row (unused_matches j) (record { phase_is = refl; unseen_is = λ r. refl; wrote_is = λ r. refl; version_is = λ r. refl; holds_is = λ o. refl });
      orderly = λ j. in_replicate (Orderly office) n j unused no_row (unused_orderly office) (record { fitting = λ o. refl; asked = λ e. absurd (grind arith); writes_small = λ r e. absurd (grind arith); exchange_count = λ e. absurd (grind arith); kind_fits = refl });
    }

pub no_versions : (n r : ℕ) → get_or (replicate {A = List Version} n []) r [] ≡ []
no_versions n r = in_replicate (λ vs. vs ≡ []) n r [] [] refl refl

new_matched : (office : ℕ → ℕ) → Matched office new_ledger []
new_matched office =
    record {
      machine = new_machine;
      run = start;
      rows = rows_new office (last_job + 1) refl;
      records_length = length-replicate {A = List Version} (last_record + 1) [];
      count_is = λ r. sym (ap length (no_versions (last_record + 1) r));
      writer_is = λ r i l. absurd (grind arith);
      answers_are = refl;
      line_is = refl;
    }

pub reached_matched : (offices : ℕ) (office : ℕ → ℕ) → offices ≤ most_offices → ((r : ℕ) → office r < most_offices) → (ledger : LedgerModel) (q : List ℕ) → Reached offices office ledger q → Matched office ledger q
reached_matched offices office most few ledger q new = new_matched office
reached_matched offices office most few ledger q (next {l = l} {q = p} r c) = step_matched (reached_matched offices office most few l p r) offices most few c
