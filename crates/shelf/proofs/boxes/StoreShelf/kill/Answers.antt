use Rattle.std.proofs.Common.{false, set, ap, ◌∙◌}
use Rattle.std.proofs.lemmas.Result.{err_from_is_err_and}
use Rattle.shelf.specs.Stored.{model_by}
use Rattle.shelf.proofs.Chains.{denied, accepted}
use Rattle.shelf.proofs.Shown.{box_is, killed}
use Rattle.shelf.proofs.boxes.StoreShelf.kill.Goals as goal

pub returns-in_err-i-clause-value : goal.returns-in_err-i-clause-value
returns-in_err-i-clause-value g c =
    let s = c.args.self.now in
    let p = err_from_is_err_and c.from_residual.result c.from_residual.ensures.1 in
    rw (p.1, p.2) (denied _ _ _ _ c.box_index.ensures.value c.in_err-i.was ∙ box_is s.live (g.M.Memory.symbol s.memory) (g.M.Memory.room s.memory) s.shape c.told.result.shape c.told.ensures.value c.args.b)

pub returns-clause-value : goal.returns-clause-value
returns-clause-value g c =
    let s = c.args.self.now in
    (accepted _ _ _ c.in_ok-i.ensures.value).0 ∙ box_is s.live (g.M.Memory.symbol s.memory) (g.M.Memory.room s.memory) s.shape c.told.result.shape c.told.ensures.value c.args.b

pub returns-clause-after : goal.returns-clause-after
returns-clause-after g c =
    let s = c.args.self.now in
    let k = c.in_ok-i.ensures.ok in
    ap (λ i. model_by (set s.live i false) (g.M.Memory.symbol s.memory) (g.M.Memory.room s.memory) s.shape) k.1 ∙ killed s.live (g.M.Memory.symbol s.memory) (g.M.Memory.room s.memory) s.shape c.told.result.shape c.told.ensures.value c.args.b k.0
