use Rattle.shelf.proofs.Shown.{boxes_is, shaped}
use Rattle.shelf.proofs.boxes.StoreShelf.boxes.Goals as goal

pub returns : goal.returns
returns g c =
    let s = c.args.self.now in
    let symbol = g.M.Memory.symbol s.memory in
    let room = g.M.Memory.room s.memory in
    let t = c.told.result in
    record {
      value = boxes_is s.live symbol room s.shape t.shape c.told.ensures.value;
      shaped = shaped s.live symbol room s.shape t.shape c.told.ensures.value t.limits;
    }
