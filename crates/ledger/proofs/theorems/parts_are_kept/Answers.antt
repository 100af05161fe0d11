use Rattle.ledger.proofs.Kept.{parts_kept}
use Rattle.ledger.proofs.theorems.parts_are_kept.Goals as goal

pub returns : goal.returns
returns g c = parts_kept g.F.Field.ops
