use Rattle.std.proofs.Common.{arith}
use Rattle.std.proofs.lemmas.Grind.{common_steps}
use Rattle.ledger.specs.Model.{row, is_answered}
use Rattle.ledger.specs.View.{view}
use Rattle.ledger.proofs.Searches.{highest_push}
use Rattle.ledger.proofs.Tables.{one_row}
use Rattle.ledger.proofs.ledger.Ledger.newest_answered.Goals as goal

pub loop-index-init : goal.loop-index-init
loop-index-init c = grind (arith, common_steps)

pub returns-then-is_answered : goal.returns-then-is_answered
returns-then-is_answered c =
    let last = highest_push (λ v. is_answered (row (view c.args.self.now) v.job).state) c.next.new.self.iter.iter.rest.now c.in-Some.version.now in
    grind (arith, common_steps, one_row)

pub loop-index-preserved : goal.loop-index-preserved
loop-index-preserved c =
    let last = highest_push (λ v. is_answered (row (view c.args.self.now) v.job).state) c.next.new.self.iter.iter.rest.now c.in-Some.version.now in
    grind (arith, common_steps, one_row)

pub returns : goal.returns
returns c = grind (arith, common_steps)
