use Rattle.std.proofs.Common.{◌+◌, ◌-◌, ◌%◌, ◌^◌, length, get_or, ap, ◌∙◌, arith}
use lib.Bits.{bit_and}
use Rattle.std.specs.List.{between}
use Rattle.std.proofs.lemmas.Nat.{and_mask}
use Rattle.std.proofs.lemmas.List.Edits.{get_or-between}
use Rattle.shelf.proofs.Tabs.{tab_all, tab_more}
use Rattle.shelf.proofs.words.WordsMemory.read.Goals as goal

pub loop-j-preserved : goal.loop-j-preserved
loop-j-preserved c =
    let xs = c.args.self.now.cells.now in
    let m = c.args.m.count in
    let j = c.loop-j.j in
    let e = c.args.start + length c.args.out.now in
    let x = get_or (between c.args.start e xs) j 0 in
    tab_more c.loop-j.out j _ _ c.loop-j.invariant (omega arith)
    (ap (λ k. bit_and x (k - 1)) c.codes.ensures.value ∙ and_mask x m ∙ ap (λ z. z % 2 ^ m) (get_or-between xs c.args.start e j 0 (omega arith)))

pub returns : goal.returns
returns c = tab_all c.loop-j.out (length c.args.out.now) _ (omega arith) (λ k h. c.loop-j.invariant k (omega arith))
