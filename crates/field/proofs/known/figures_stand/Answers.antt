use Rattle.field.proofs.Outside.{known}
use Rattle.field.proofs.known.figures_stand.Goals as goal

pub returns : goal.returns
returns c = known
