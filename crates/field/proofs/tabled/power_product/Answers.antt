use Rattle.std.proofs.Common.{sym, ◌∙◌}
use Rattle.field.specs.Fields.{powers_product}
use Rattle.field.proofs.tabled.power_product.Goals as goal

pub returns : goal.returns
returns g c = c.power.ensures ∙ sym (powers_product g.met.T.Tables.modulus c.args.i c.args.j)
