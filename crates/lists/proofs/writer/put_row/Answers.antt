use Rattle.std.proofs.Common.{sym, ◌∙◌, arith}
use Rattle.std.proofs.lemmas.List.{take_all}
use Rattle.lists.proofs.Answered.{item_more}
use Rattle.lists.proofs.Writing.{wrote_then, wrote_as}
use Rattle.lists.proofs.writer.put_row.Goals as goal

pub loop-item-preserved : goal.loop-item-preserved
loop-item-preserved g c ws size told =
    wrote_as _ _ _ _ _ _
    (sym (item_more ws c.loop-item.item c.unwrap.result (sym (told _ _ c.word.ensures) ∙ c.unwrap.ensures)))
    (wrote_then _ _ _ _ _ _ _ _ (c.loop-item.invariant ws size told) c.put.ensures.wrote)

pub returns : goal.returns
returns g c ws size told = wrote_as _ _ _ _ _ _ (take_all c.loop-item.item ws (omega (arith, size))) (c.loop-item.invariant ws size told)
