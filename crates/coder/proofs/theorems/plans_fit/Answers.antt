use Rattle.coder.proofs.Indices.{plans_fit}
use Rattle.coder.proofs.theorems.plans_fit.Goals as goal

pub returns : goal.returns
returns c = plans_fit
