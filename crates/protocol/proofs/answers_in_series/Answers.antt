use Rattle.protocol.proofs.Theorems.{answers_in_series}
use Rattle.protocol.proofs.answers_in_series.Goals as goal

pub returns : goal.returns
returns c = answers_in_series
