-- Each return is one case of what the counting gave.
use Rattle.sise_tree.proofs.ParseCases.{parse_long, parse_stopped, parse_full, parse_fillable, parse_filled}
use Rattle.sise_tree.proofs.parse.parse_tree.Goals as goal

pub returns-then-text-gt-LONGEST : goal.returns-then-text-gt-LONGEST
returns-then-text-gt-LONGEST c = parse_long _ _ _ c.if-text-gt-LONGEST.true

pub returns-in_default : goal.returns-in_default
returns-in_default c =
    let a = c.args in
    parse_stopped a.text.now a.reader a.table.now c.if-text-gt-LONGEST.false c.count_nodes-answer.ensures c.in_default.not-Ok

pub returns-then-nodes-table : goal.returns-then-nodes-table
returns-then-nodes-table c =
    let a = c.args in
    parse_full a.text.now a.reader a.table.now c.if-text-gt-LONGEST.false c.count_nodes-answer.ensures c.in-Ok.is c.if-nodes-table.true

pub fill_nodes-requires : goal.fill_nodes-requires
fill_nodes-requires c =
    let a = c.args in
    parse_fillable a.text.now a.reader a.table.now c.if-text-gt-LONGEST.false c.count_nodes-answer.ensures c.in-Ok.is c.if-nodes-table.false

pub returns : goal.returns
returns c =
    let a = c.args in
    parse_filled a.text.now a.reader a.table.now c.if-text-gt-LONGEST.false c.count_nodes-answer.ensures c.in-Ok.is c.if-nodes-table.false c.fill_nodes.ensures
