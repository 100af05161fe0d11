-- What a word shelf shows: a symbol in each cell.
use Rattle.std.specs.Prelude.{length, slice_index}
use Rattle.shelf.specs.declared.store.Store.{Store}
use Rattle.shelf.specs.declared.words.Words.{Words}
use Rattle.shelf.specs.Model.{Model}
use Rattle.shelf.specs.Stored.{model_by}

abbrev pub word_model : Store Words → Model
word_model s = model_by s.live (λ m p. slice_index s.memory.cells.now p) (λ m. length s.memory.cells.now) s.shape
