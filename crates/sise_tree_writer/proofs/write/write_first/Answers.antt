-- The token stands at the position, and the record has it counted.
use native.Mathlib.Omega.{arith}
use mathlib.Core.Path.{◌∙◌}
use Rattle.sise_serializer.specs.Parts.{first_item}
use Rattle.sise_serializer.proofs.Bytes.{pasted_if_lem}
use Rattle.sise_tree_writer.proofs.write.write_first.Goals as goal

pub returns : goal.returns
unfolding first_item
returns c = record { serializer = c.behind_first.ensures; buffer = c.paste.ensures ∙ pasted_if_lem _ _ _ (omega (arith, c.requires.inside)) }
