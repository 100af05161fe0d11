use Rattle.ledger.proofs.Alike.{any_encoder}
use Rattle.ledger.proofs.theorems.any_encoder_alike.Goals as goal

pub returns : goal.returns
returns g c = any_encoder g.met.F.Field.laws
