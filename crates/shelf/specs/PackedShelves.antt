-- What a packed shelf shows: m bits a symbol, the most significant first, without gaps.
use Rattle.std.specs.Prelude.{◌*◌, ◌/◌, length}
use Rattle.shelf.specs.declared.store.Store.{Store}
use Rattle.shelf.specs.declared.packed.Packed.{Packed}
use Rattle.shelf.specs.Bits.{symbol_at}
use Rattle.shelf.specs.Model.{Model}
use Rattle.shelf.specs.Stored.{model_by}

abbrev pub packed_model : Store Packed → Model
packed_model s = model_by s.live (λ m p. symbol_at s.memory.bytes.now m p) (λ m. (8 * length s.memory.bytes.now) / m) s.shape
