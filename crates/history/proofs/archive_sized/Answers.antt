use Rattle.history.proofs.Sizes.{archive_sized}
use Rattle.history.proofs.ValueLaws.{lawful}
use Rattle.history.proofs.archive_sized.Goals as goal

pub returns : goal.returns
returns g c = archive_sized _ (lawful g.V.Value g.met.V.Value.bytes_width g.met.V.Value.parsed_bytes)
