-- The bytes of an atom are that part of the text.
use mathlib.Core.Path.{refl, ap, ◌∙◌}
use Rattle.sise_parser.proofs.Parts.{part_by_ends}
use Rattle.sise_tree.specs.declared.tree.NodeWords.{NodeWords}
use Rattle.sise_tree_writer.proofs.walk.Place.turn.Goals as goal

pub returns : goal.returns
returns c =
    let n = c.node-node.ensures.1 in
    let none : _ = λ z. c.if-node-eq0.false (ap (λ (x : NodeWords). x.kind) n ∙ z) in
    (c.if-self.false, none, rw (c.wide-at.ensures.same, c.wide.ensures.same, n) (part_by_ends _ _ _ (c.requires.atom c.if-self.false none)), refl)
