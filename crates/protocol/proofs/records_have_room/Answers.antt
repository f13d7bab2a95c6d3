use Rattle.protocol.proofs.Theorems.{records_have_room}
use Rattle.protocol.proofs.records_have_room.Goals as goal

pub returns : goal.returns
returns c = records_have_room
