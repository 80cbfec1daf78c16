-- On a table that holds a tree the lookup of the nodes on the way answers for the whole, whether its atoms are atoms or not.
use mathlib.Core.Path.{◌≡◌, refl, sym, ap, ◌∙◌}
use mathlib.Core.Bool.{true, false≢true}
use Rattle.std.specs.Prelude.{Ok, Err}
use Rattle.std.specs.Result.{result_eq}
use Rattle.std.proofs.lemmas.Result.{err_from_is_err_and}
use Rattle.std.specs.contracts.prelude.UnitPartialEq.TheImpl as unit
use Rattle.sise_tree.specs.contracts.tree.TableErrorPartialEq.TheImpl as reason
use Rattle.sise_tree.specs.FindPath.{found_as}
use Rattle.sise_tree.specs.declared.tree.TableError.TheVariants.{NotATree, NoAtom}
use Rattle.sise_tree.specs.Held.{Held}
use Rattle.sise_tree.proofs.HeldLaws.{some_held, none_held}
use Rattle.sise_tree.proofs.FindTree.{too_long, no_tree_lem, index_found, index_refused}
use Rattle.sise_tree.proofs.tree.TreeTable.index_path.Goals as goal

pub returns-then-self-gt-LONGEST : goal.returns-then-self-gt-LONGEST
returns-then-self-gt-LONGEST c = sym (too_long _ _ _ c.if-self-gt-LONGEST.true)

-- where the answer is the same as this one it is this one
is_none : (h : Held) → result_eq unit.eq-value.it reason.eq-value.it h (Err NotATree) ≡ true → h ≡ Err NotATree
is_none (Ok tt) e = absurd (false≢true e)
is_none (Err NotATree) e = refl
is_none (Err NoAtom) e = absurd (false≢true e)

pub returns-then-eq : goal.returns-then-eq
returns-then-eq c = sym (no_tree_lem _ _ _ c.if-self-gt-LONGEST.false (none_held _ _ c.holds_tree.ensures (is_none c.holds_tree.result (sym c.eq.ensures ∙ c.if-eq.true))))

pub returns-in_err-find_path : goal.returns-in_err-find_path
returns-in_err-find_path c =
    let p = err_from_is_err_and c.from_residual.result c.from_residual.ensures.1 in
    let tree = some_held _ _ c.holds_tree.ensures (λ z. false≢true (sym c.if-eq.false ∙ rw z at c.eq.ensures)) in
    rw (p.1, p.2) (index_refused _ _ _ c.if-self-gt-LONGEST.false tree _ (sym (ap found_as c.in_err-find_path.was) ∙ c.find_path.ensures))

pub returns : goal.returns
returns c =
    let tree = some_held _ _ c.holds_tree.ensures (λ z. false≢true (sym c.if-eq.false ∙ rw z at c.eq.ensures)) in
    index_found _ _ _ c.if-self-gt-LONGEST.false tree (sym (ap found_as c.in_ok-find_path.was) ∙ c.find_path.ensures)
