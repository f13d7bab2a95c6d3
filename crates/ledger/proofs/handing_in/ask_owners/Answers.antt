use Rattle.std.proofs.Common.{◌≡◌, ℕ, ◌%◌, Bool, cond, ◌||◌, eqb, get_or, take, ap, sym, ◌∙◌, length-set}
use Rattle.std.specs.List.{list_any}
use Rattle.std.proofs.lemmas.List.{take_all}
use Rattle.std.proofs.lemmas.List.Folds.{list_any_more}
use Rattle.ledger.specs.Delivering.{prepare_waits}
use Rattle.ledger.specs.Offices.{owns}
use Rattle.ledger.specs.Searching.{map_indexed}
use Rattle.ledger.proofs.MapsInPlace.{map_indexed_twice, map_indexed_same, map_indexed_kept, written_at, more_written}
use Rattle.ledger.proofs.handing_in.ask_owners.Goals as goal

pub loop-entry-init : goal.loop-entry-init
loop-entry-init g c = (c.told-exchanges, sym (map_indexed_kept 0 c.args.exchanges.now))

-- the entry of this turn has its owner asked, whatever those before it had asked
pub loop-entry-preserved : goal.loop-entry-preserved
loop-entry-preserved g c =
    let entries = c.args.entries.now in
    let i = c.loop-entry.entry-index in
    let x = c.entry-item.result in
    let n = c.office_of.result in
    let owner : ℕ → g.row.E.Denot → Bool = λ o y. owns c.args.offices o (g.E.Entry.record_of y) in
    let this : (o : ℕ) → eqb n o ≡ owner o (get_or entries i x) = λ o.
    ap (λ m. eqb m o) (c.office_of.ensures ∙ ap (λ r. r % c.args.offices.count) c.record.ensures) ∙ ap (owner o) c.entry-item.is
    in (
      simp length-set c.loop-entry.invariant.0,
      written_at prepare_waits n c.loop-entry.exchanges
          ∙ ap (map_indexed (λ k y. cond (eqb k n) prepare_waits y) 0) c.loop-entry.invariant.1
          ∙ map_indexed_twice _ _ 0 c.args.exchanges.now
          ∙ map_indexed_same _ _
          (λ o e.
          more_written prepare_waits e o n (list_any (owner o) (take i entries))
          ∙ ap (λ b. cond b prepare_waits e) (ap (λ b. list_any (owner o) (take i entries) || b) (this o) ∙ sym (list_any_more (owner o) entries i x c.loop-entry-test.true)))
          0 c.args.exchanges.now,
    )

pub returns : goal.returns
returns g c =
    c.loop-entry.invariant.1
    ∙ ap (λ ys. map_indexed (λ o e. cond (list_any (λ y. owns c.args.offices o (g.E.Entry.record_of y)) ys) prepare_waits e) 0 c.args.exchanges.now)
    (take_all c.loop-entry.entry-index c.args.entries.now c.loop-entry-test.false)
