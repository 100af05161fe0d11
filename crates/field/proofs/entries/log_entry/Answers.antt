use Rattle.field.specs.Computed.{log_is, log_below}
use Rattle.field.proofs.entries.log_entry.Goals as goal

pub returns : goal.returns
returns g c = record {
  value = log_is c.requires.degree c.args.table.now c.requires.rule c.args.a c.requires.some c.requires.within;
  bound = log_below c.requires.degree c.args.table.now c.requires.rule c.args.a c.requires.some c.requires.within;
}
