use Rattle.ledger.proofs.Runs.{reads_answer}
use Rattle.ledger.proofs.theorems.reads_answer_the_data.Goals as goal

pub returns : goal.returns
returns g c = reads_answer g.met.F.Field.laws
