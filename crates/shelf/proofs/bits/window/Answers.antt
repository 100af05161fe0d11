use Rattle.std.proofs.Common.{arith}
use Rattle.shelf.proofs.Windows.{window_is}
use Rattle.shelf.proofs.bits.window.Goals as goal

pub returns : goal.returns
returns c =
    let e = window_is c.args.bytes.now c.args.i in
    record { value = omega arith; bound = omega arith }
