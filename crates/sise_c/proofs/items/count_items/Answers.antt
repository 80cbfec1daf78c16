-- Each item that is read is one item fewer that is left, and the refusal that ends them says how the text ends.
use Rattle.std.proofs.Common.{◌≡◌, ℕ, rules, ◌∙◌, sym, arith, Result, Ok, Err, MatchResult}
use Rattle.std.specs.Result.{result_and}
use Rattle.sise_parser.specs.Refusals.{refusal_of}
use Rattle.sise_parser.specs.Reader.{Ending, ended, not_ended}
use Rattle.sise_parser.specs.Meaning.{finished_as}
use Rattle.sise_parser.specs.declared.error.ParseError.{ParseError}
use Rattle.sise_c.proofs.ItemLaws.{gave_item, gave_refusal, falls, fewer, counts_none, counts_more, counts_all, counts_ends}
use Rattle.sise_c.proofs.items.count_items.Goals as goal

pub loop-items-init : goal.loop-items-init
loop-items-init c = counts_none _ c.new-reader.ensures

pub overflow_add-items : goal.overflow_add-items
overflow_add-items c = let n = fewer _ c.loop-items.invariant.reached (gave_item _ _ c.next_item-next.ensures c.in-Ok.is) in search rules

pub loop-items-smaller : goal.loop-items-smaller
loop-items-smaller c = falls _ c.loop-items.invariant.reached (gave_item _ _ c.next_item-next.ensures c.in-Ok.is) (omega arith)

pub loop-items-preserved : goal.loop-items-preserved
loop-items-preserved c = counts_more _ c.loop-items.invariant (gave_item _ _ c.next_item-next.ensures c.in-Ok.is)

counted : {m : ℕ} {x : Ending} (f : Result (Unit {0}) ParseError) {r : Result ℕ ParseError} {n : ℕ} → n ≡ m → finished_as f ≡ x → r ≡ result_and f (Ok n)
    → MatchResult r (λ k. (k ≡ m) × (x ≡ ended)) (λ e. x ≡ not_ended (refusal_of e))
counted (Ok u) d z e = rw e (d, sym z)
counted (Err x) d z e = rw e (sym z)

pub returns-in-Err : goal.returns-in-Err
returns-in-Err c =
    let e = gave_refusal _ _ c.next_item-next.ensures c.in-Err.is in
    counted c.ending_by.result (counts_all _ c.loop-items.invariant e) (c.ending_by.ensures ∙ counts_ends _ c.loop-items.invariant e) c.and.ensures
