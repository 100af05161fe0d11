use Rattle.shelf.proofs.Ordering.{checks_in_order}
use Rattle.shelf.proofs.order.checks_stand.Goals as goal

pub returns : goal.returns
returns c = checks_in_order
