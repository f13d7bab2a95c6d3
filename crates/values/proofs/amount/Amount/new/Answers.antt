use Rattle.std.proofs.Common.{sym, refl, ap, w64}
use Rattle.std.proofs.lemmas.Int.{to_z-of_z}
use Rattle.std.specs.Option.{ok_or}
use Rattle.values.specs.declared.fault.ValueFault.TheVariants.{OutOfRange}
use Rattle.values.specs.AmountLaws.{amount_of_is}
use Rattle.values.proofs.amount.Amount.new.Goals as goal

pub returns-then-contains : goal.returns-then-contains
returns-then-contains c = sym (ap (λ o. ok_or o OutOfRange) (amount_of_is _ c.args.currency c.args.units refl (to_z-of_z w64 c.args.units c.ranges.units)))
