-- A write is one move.
use Rattle.std.proofs.Common.{◌≡◌, ℕ, List, None, sym, refl, ◌∙◌, arith}
use Rattle.ledger.specs.Model.{LedgerModel, row}
use Rattle.ledger.specs.Writing.{write_fault, with_write, write_done}
use Rattle.protocol.specs.Calls.{line_after}
use Rattle.protocol.proofs.Machine.{then}
use Rattle.protocol.proofs.Lookups.{written_with_place, version_with_place}
use Rattle.protocol.proofs.Matching.{Matched, line_same, put_matched}
use Rattle.protocol.proofs.Machine as machine

pub write_matched : {office : ℕ → ℕ} {ledger : LedgerModel} {q : List ℕ} (M : Matched office ledger q) (j r p : ℕ) → write_fault ledger j r ≡ None →
    Matched office (write_done ledger j r p) (line_after ledger (write_done ledger j r p) j q)
write_matched {office} {ledger} {q} M j r p f =
    let now = M.rows.each j in
    let t = M.rows.orderly j in
    let xs = (row ledger j).writes in
    put_matched M j (with_write (row ledger j) r p) (machine.with_wrote M.machine j r) (grind arith)
    (then M.run (machine.writes j r (grind (arith, now.phase_is)))) refl refl refl (line_same (row ledger j).state j M.machine.line)
    (record {
      phase_is = now.phase_is;
      unseen_is = now.unseen_is;
      wrote_is = λ s. grind (arith, now.wrote_is s, written_with_place xs r p s);
      version_is = λ s. now.version_is s ∙ sym (version_with_place xs r p s);
      holds_is = now.holds_is;
    })
    (grind arith)
    (record {
      fitting = t.fitting;
      asked = λ e. absurd (grind arith);
      writes_small = λ s e. grind (arith, t.writes_small s, written_with_place xs r p s);
      exchange_count = t.exchange_count;
      kind_fits = t.kind_fits;
    })
