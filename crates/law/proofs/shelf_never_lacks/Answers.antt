use Rattle.law.proofs.Lawfulness.{never_lacking}
use Rattle.law.proofs.shelf_never_lacks.Goals as goal

pub returns : goal.returns
returns g c = never_lacking _
