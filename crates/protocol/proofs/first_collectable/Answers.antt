use Rattle.protocol.proofs.Theorems.{first_collectable}
use Rattle.protocol.proofs.first_collectable.Goals as goal

pub returns : goal.returns
returns c = first_collectable
