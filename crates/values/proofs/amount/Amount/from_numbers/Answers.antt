use Rattle.std.proofs.Common.{sym, ap, ◌∙◌, w64}
use Rattle.std.proofs.lemmas.Int.{to_z-of_z}
use Rattle.std.specs.Option.{ok_or}
use Rattle.values.specs.Amounts.{amount_of, amount_in_currency}
use Rattle.values.specs.declared.fault.ValueFault.TheVariants.{OutOfRange}
use Rattle.values.proofs.amount.Amount.from_numbers.Goals as goal

pub returns : goal.returns
returns c =
    c.new.ensures
    ∙ ap (λ z. ok_or (amount_of c.in_ok-try_from.field-0 z) OutOfRange) (to_z-of_z w64 c.args.units c.ranges.units)
    ∙ ap (λ r. amount_in_currency r c.args.units) (sym c.in_ok-try_from.was ∙ c.try_from.ensures)
