use Rattle.field.specs.Computed.{power_at}
use Rattle.field.proofs.entries.power_entry.Goals as goal

pub returns : goal.returns
returns g c = power_at c.requires.degree c.args.table.now c.requires.rule c.args.k c.requires.within
