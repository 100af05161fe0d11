use Rattle.std.proofs.Common.{◌≡◌, true, leb, replicate, ap, ◌∙◌, arith}
use Rattle.shelf.specs.declared.shape.Shape.{Shape}
use Rattle.shelf.specs.Limits.{in_limits}
use Rattle.shelf.specs.Lay.{laid}
use Rattle.shelf.specs.Stored.{model_of, size}
use Rattle.shelf.proofs.Holds.{laid_is}
use Rattle.shelf.proofs.Numbers.{told_is}
use Rattle.shelf.proofs.Steps.{all_true}
use Rattle.shelf.proofs.store.Store.lay.Goals as goal

pub returns-clause-after : goal.returns-clause-after
returns-clause-after g c =
    let s = c.in_ok-laid.laid.shape in
    let old = c.args.self.now.memory in
    let new = c.wipe.new.self in
    let k = c.in_ok-laid.ensures.ok in
    let i : in_limits s.boxes s.rows s.width s.bits ≡ true = cc in
    let h : leb (size s) (g.M.Memory.room new s.bits) ≡ true = rw (c.wipe.ensures.same s.bits) (cc) in
    let w = rw (c.symbol_bits-2.ensures, c.size-2.ensures.value) at c.wipe.ensures.after in
    let e : laid s.boxes s.rows s.width s.bits ≡ laid c.args.boxes c.args.rows c.args.width c.args.bits = cc in
    ap (λ (t : Shape). model_of (replicate 16 true) (g.M.Memory.symbol new t.bits) t) (told_is s (g.M.Memory.room new s.bits) i h)
    ∙ laid_is (replicate 16 true) (g.M.Memory.symbol old s.bits) s (g.M.Memory.symbol new s.bits) (λ j q. all_true j (omega arith)) w
    ∙ e
