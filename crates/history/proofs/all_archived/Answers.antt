use Rattle.history.proofs.Counts.{all_archived}
use Rattle.history.proofs.all_archived.Goals as goal

pub returns : goal.returns
returns g c = all_archived
