use Rattle.ledger.proofs.Encoders.{one_encoder}
use Rattle.ledger.proofs.theorems.one_encoder.Goals as goal

pub returns : goal.returns
returns g c = one_encoder g.met.F.Field.laws
