use Rattle.beehive.proofs.Exists.{one_list}
use Rattle.beehive.proofs.theorems.one_lawful_list.Goals as goal

pub returns : goal.returns
returns g c = one_list g.met.F.Field.laws
