use Rattle.std.proofs.Common.{◌≡◌, ◌≤◌, true, Some, ◌∙◌, arith}
use Rattle.std.proofs.lemmas.Grind.{common_steps}
use Rattle.ledger.specs.Limits.{last_job}
use Rattle.ledger.specs.Model.{row, exchange, is_amendment}
use Rattle.ledger.specs.View.{view}
use Rattle.ledger.specs.declared.job.State.TheVariants.{Voting}
use Rattle.ledger.specs.declared.message.Message.TheVariants.{Prepare}
use Rattle.ledger.proofs.Prepared.{prepared}
use Rattle.ledger.proofs.Tables.{one_row}
use Rattle.ledger.proofs.ledger.Ledger.deliver.Goals as goal

pub returns-in-Voting-Some-Prepare-clause-after : goal.returns-in-Voting-Some-Prepare-clause-after
returns-in-Voting-Some-Prepare-clause-after c =
    let l = view c.args.self.now in
    let n : c.in_ok-job.job ≡ c.args.job = grind arith in
    let h : c.args.job ≤ last_job = grind arith in
    let a : is_amendment (row l c.args.job).kind ≡ true = grind (arith, common_steps, one_row) in
    let s : (row l c.args.job).state ≡ Voting = grind (arith, common_steps, one_row) in
    let m : (exchange (row l c.args.job) c.args.office).waiting ≡ Some Prepare = grind (arith, common_steps, one_row) in
    let q : c.in_ok-office.office.number ≡ c.args.office = grind arith in
    c.prepare.ensures ∙ prepared c.args.offices l c.args.job c.args.office c.in_ok-job.job n c.in_ok-office.office.offices (grind arith) c.in_ok-office.office.number q h (grind arith) a s m
