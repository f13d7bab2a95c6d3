use Rattle.protocol.proofs.Theorems.{messages_fit}
use Rattle.protocol.proofs.messages_fit.Goals as goal

pub returns : goal.returns
returns c = messages_fit
