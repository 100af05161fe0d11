use Rattle.std.proofs.Common.{◌-◌, Bool, false, get_or, Ok, Result, ap, ◌∙◌}
use Rattle.refusal.specs.declared.denial.Denial.{Denial}
use Rattle.refusal.specs.Checks.{and_then}
use Rattle.std.proofs.lemmas.Result.{err_from_is_err_and}
use Rattle.shelf.proofs.Chains.{denied, accepted}
use Rattle.shelf.proofs.Shown.{stands_is}
use Rattle.shelf.proofs.boxes.StoreShelf.stands.Goals as goal

pub returns-in_err-i : goal.returns-in_err-i
returns-in_err-i g c =
    let s = c.args.self.now in
    let v : Result Bool Denial = Ok (get_or s.live (c.args.b - 1) false) in
    let p = err_from_is_err_and c.from_residual.result c.from_residual.ensures.1 in
    rw (p.1, p.2) (ap (λ r. and_then r v) (denied _ _ _ _ c.box_index.ensures.value c.in_err-i.was) ∙ stands_is s.live (g.M.Memory.symbol s.memory) (g.M.Memory.room s.memory) s.shape c.told.result.shape c.told.ensures.value c.args.b)

pub returns : goal.returns
returns g c =
    let s = c.args.self.now in
    let v : Result Bool Denial = Ok (get_or s.live (c.args.b - 1) false) in
    let k = accepted _ _ _ c.in_ok-i.ensures.value in
    ap (λ i. Ok (get_or s.live i false)) k.1 ∙ ap (λ r. and_then r v) k.0 ∙ stands_is s.live (g.M.Memory.symbol s.memory) (g.M.Memory.room s.memory) s.shape c.told.result.shape c.told.ensures.value c.args.b
