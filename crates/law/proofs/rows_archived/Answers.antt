use Rattle.law.proofs.Performed.{archived_by_rows}
use Rattle.law.proofs.rows_archived.Goals as goal

pub returns : goal.returns
returns g c = archived_by_rows _
