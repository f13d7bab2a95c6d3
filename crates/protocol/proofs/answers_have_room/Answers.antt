use Rattle.protocol.proofs.Theorems.{answers_have_room}
use Rattle.protocol.proofs.answers_have_room.Goals as goal

pub returns : goal.returns
returns c = answers_have_room
