use Rattle.ledger.proofs.Runs.{only_load_and_settle}
use Rattle.ledger.proofs.theorems.only_load_and_settle_make_whole.Goals as goal

pub returns : goal.returns
returns g c = only_load_and_settle g.met.F.Field.laws
