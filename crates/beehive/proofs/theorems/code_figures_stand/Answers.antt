use Rattle.beehive.proofs.Worked.{figures}
use Rattle.beehive.proofs.theorems.code_figures_stand.Goals as goal

pub returns : goal.returns
returns c = figures
