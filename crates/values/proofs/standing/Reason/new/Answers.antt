use Rattle.std.proofs.Common.{sym, refl, ap}
use Rattle.std.specs.Option.{ok_or}
use Rattle.values.specs.declared.fault.ValueFault.TheVariants.{OutOfRange}
use Rattle.values.specs.StandingLaws.{reason_of_is}
use Rattle.values.proofs.standing.Reason.new.Goals as goal

pub returns : goal.returns
returns c = sym (ap (λ o. ok_or o OutOfRange) (reason_of_is _ c.args.number refl))
