use Rattle.ledger.proofs.Runs.{data_stay}
use Rattle.ledger.proofs.theorems.data_stay.Goals as goal

pub returns : goal.returns
returns g c = data_stay g.met.F.Field.laws
