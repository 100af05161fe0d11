-- What a trouble says.
use Rattle.std.specs.Prelude.{ℕ, List, codes}
use Rattle.gateways.specs.declared.batch.Trouble.{Trouble}
use Rattle.gateways.specs.declared.batch.Trouble.TheVariants.{Memory, Symbol, Gateway, Answers}

abbrev pub message : Trouble → List ℕ
message Memory = codes "no memory"
message Symbol = codes "a symbol of the record is no code of the field"
message (Gateway i) = codes "there is no such gateway"
message Answers = codes "the gateways that answer do not fix the record"
