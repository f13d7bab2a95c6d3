use Rattle.std.proofs.Common.{refl, ap}
use Rattle.values.specs.declared.standing.Standing.TheVariants.{Stopped}
use Rattle.values.specs.StandingLaws.{reason_ext}
use Rattle.values.proofs.standing.kind.StandingValue.spare.Goals as goal

pub returns : goal.returns
returns c = ap (λ r. Stopped r) (reason_ext _ _ refl)
