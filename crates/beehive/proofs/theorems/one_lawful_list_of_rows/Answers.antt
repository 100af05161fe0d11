use Rattle.beehive.proofs.Exists.{one_list_of_rows}
use Rattle.beehive.proofs.theorems.one_lawful_list_of_rows.Goals as goal

pub returns : goal.returns
returns g c = one_list_of_rows g.met.F.Field.laws
