use Rattle.std.proofs.Common.{length, sym, ◌∙◌}
use Rattle.std.proofs.lemmas.Result.{err_from_is_err_and}
use Rattle.shelf.proofs.Chains.{denied, accepted}
use Rattle.shelf.proofs.Shown.{take_is, row_is}
use Rattle.shelf.proofs.boxes.StoreShelf.take.Goals as goal

pub returns-in_err-start-clause-value : goal.returns-in_err-start-clause-value
returns-in_err-start-clause-value g c =
    let s = c.args.self.now in
    let p = err_from_is_err_and c.from_residual.result c.from_residual.ensures.1 in
    rw (p.1, p.2) (denied _ _ _ _ c.judge_take.ensures.value c.in_err-start.was ∙ take_is s.live (g.M.Memory.symbol s.memory) (g.M.Memory.room s.memory) s.shape c.told-told.result.shape c.told-told.ensures.value c.args.b c.args.row (length c.args.out.now))

pub returns-clause-value : goal.returns-clause-value
returns-clause-value g c =
    let s = c.args.self.now in
    (accepted _ _ _ c.in_ok-start.ensures.value).0 ∙ take_is s.live (g.M.Memory.symbol s.memory) (g.M.Memory.room s.memory) s.shape c.told-told.result.shape c.told-told.ensures.value c.args.b c.args.row (length c.args.out.now)

pub returns-clause-after : goal.returns-clause-after
returns-clause-after g c =
    let s = c.args.self.now in
    let k = accepted _ _ _ c.in_ok-start.ensures.value in
    rw (c.symbol_bits.ensures, k.1) at c.read.ensures ∙ row_is s.live (g.M.Memory.symbol s.memory) (g.M.Memory.room s.memory) s.shape c.told-told.result.shape c.told-told.ensures.value c.args.b c.args.row (length c.args.out.now) (sym k.0)
