use Rattle.ledger.proofs.Example.{sessions}
use Rattle.ledger.proofs.theorems.known_sessions.Goals as goal

pub returns : goal.returns
returns c = sessions
