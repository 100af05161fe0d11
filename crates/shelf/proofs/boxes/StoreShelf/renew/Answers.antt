use Rattle.std.proofs.Common.{true, set, ap, ◌∙◌, arith}
use Rattle.std.proofs.lemmas.Result.{err_from_is_err_and}
use Rattle.shelf.specs.Stored.{model_by}
use Rattle.shelf.proofs.Chains.{denied, accepted}
use Rattle.shelf.proofs.Index.{size_small}
use Rattle.shelf.proofs.Shown.{box_is, renewed}
use Rattle.shelf.proofs.Steps.{box_in}
use Rattle.shelf.proofs.boxes.StoreShelf.renew.Goals as goal

pub returns-in_err-i-clause-value : goal.returns-in_err-i-clause-value
returns-in_err-i-clause-value g c =
    let s = c.args.self.now in
    let p = err_from_is_err_and c.from_residual.result c.from_residual.ensures.1 in
    rw (p.1, p.2) (denied _ _ _ _ c.box_index.ensures.value c.in_err-i.was ∙ box_is s.live (g.M.Memory.symbol s.memory) (g.M.Memory.room s.memory) s.shape c.told-told.result.shape c.told-told.ensures.value c.args.b)

pub wipe-requires : goal.wipe-requires
wipe-requires g c =
    let t = c.told-told.result in
    let q = box_in t.shape c.in_ok-i.i c.in_ok-i.ensures.ok.2 in
    let l = size_small t in
    rw (c.symbol_bits.ensures, c.box_size-size.ensures) (omega arith, omega arith)

pub returns-clause-value : goal.returns-clause-value
returns-clause-value g c =
    let s = c.args.self.now in
    (accepted _ _ _ c.in_ok-i.ensures.value).0 ∙ box_is s.live (g.M.Memory.symbol s.memory) (g.M.Memory.room s.memory) s.shape c.told-told.result.shape c.told-told.ensures.value c.args.b

pub returns-clause-after : goal.returns-clause-after
returns-clause-after g c =
    let s = c.args.self.now in
    let now = g.M.Memory.symbol c.wipe.new.self in
    let room = g.M.Memory.room c.wipe.new.self in
    let k = c.in_ok-i.ensures.ok in
    let w = rw (c.symbol_bits.ensures, c.box_size-size.ensures, k.1) at c.wipe.ensures.after in
    ap (λ i. model_by (set s.live i true) now room s.shape) k.1 ∙ renewed s.live (g.M.Memory.symbol s.memory) (g.M.Memory.room s.memory) s.shape c.told-told.result.shape c.told-told.ensures.value now room c.wipe.ensures.same c.args.b k.0 (omega arith) w
