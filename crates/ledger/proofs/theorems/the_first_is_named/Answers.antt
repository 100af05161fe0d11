use Rattle.ledger.proofs.Naming.{first_named}
use Rattle.ledger.proofs.theorems.the_first_is_named.Goals as goal

pub returns : goal.returns
returns c = first_named
