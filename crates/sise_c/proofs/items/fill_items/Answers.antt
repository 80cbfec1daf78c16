-- Each item's words are written where there is room for all, and none is left where the reader refuses.
use Rattle.std.proofs.Common.{rules, arith}
use Rattle.sise_c.proofs.ItemLaws.{gave_item, gave_refusal, falls, fewer, fills_none, fills_all, fills_room, fills_more}
use Rattle.sise_c.proofs.items.fill_items.Goals as goal

pub loop-item-init : goal.loop-item-init
loop-item-init c = fills_none _ _ c.new-reader.ensures c.requires

pub returns-in_default : goal.returns-in_default
returns-in_default c = fills_all _ _ c.loop-item.invariant (gave_refusal _ _ c.next_item-next.ensures c.in_default.is)

pub put_item-requires : goal.put_item-requires
put_item-requires c = fills_room _ _ c.loop-item.invariant (gave_item _ _ c.next_item-next.ensures c.in-Ok.is)

pub overflow_add-items : goal.overflow_add-items
overflow_add-items c =
    let n = fewer _ c.loop-item.invariant.reached (gave_item _ _ c.next_item-next.ensures c.in-Ok.is) in
    search rules

pub loop-item-smaller : goal.loop-item-smaller
loop-item-smaller c = falls _ c.loop-item.invariant.reached (gave_item _ _ c.next_item-next.ensures c.in-Ok.is) (omega arith)

pub loop-item-preserved : goal.loop-item-preserved
loop-item-preserved c = fills_more _ _ c.loop-item.invariant (gave_item _ _ c.next_item-next.ensures c.in-Ok.is) c.put_item.ensures c.put_item.auto.words
