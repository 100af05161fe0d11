use Rattle.ledger.proofs.Runs.{segments_are}
use Rattle.ledger.proofs.theorems.segments_are_the_rules.Goals as goal

pub returns : goal.returns
returns g c = segments_are g.met.F.Field.laws
