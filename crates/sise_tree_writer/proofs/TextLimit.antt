-- 13's limit for a tree's writing: over a text of just 16,777,216 bytes the tree is written, and over one of a byte more it is refused before all else.
-- Assumes nothing.
use Prim.Native.Nat.{ℕ}
use mathlib.Core.Path.{◌≡◌, ◌∙◌}
use mathlib.Core.Bool.{false, cond}
use mathlib.Core.List.{List}
use lib.ListN.{length}
use Rattle.sise_serializer.specs.Serializer.{Style, is_sound}
use Rattle.sise_serializer.specs.Calls.{Call}
use Rattle.sise_serializer.specs.declared.serializer.Serializer.{Serializer}
use Rattle.sise_tree.specs.Tree.{Node}
use Rattle.sise_tree.specs.Decision.{decide}
use Rattle.sise_tree.proofs.TextLimit.{not_over, is_over_lem}
use Rattle.sise_tree_writer.specs.SerializeTree.{refuse, write_node, write_tree}

-- serialize_tree, write_text and serialize_house, which differ in the calls
module _ (s : Style) (buffer : List ℕ) (w : Serializer) (text words : List ℕ) (calls : Node → List Call) where
  pub write_at : length text ≡ 16777216
      → write_tree s buffer w text words calls ≡ cond (is_sound w) (write_node s buffer w text calls (decide text words)) (refuse 11 buffer w)
  unfolding write_tree
  write_at at = rw (not_over text at)

  -- with any table, and so 11 before 15
  pub unsound_at : length text ≡ 16777216 → is_sound w ≡ false → write_tree s buffer w text words calls ≡ refuse 11 buffer w
  unsound_at at h = write_at at ∙ rw h

  -- with any record, and so 13 before 11
  pub write_over : length text ≡ 16777217 → write_tree s buffer w text words calls ≡ refuse 13 buffer w
  unfolding write_tree
  write_over over = rw (is_over_lem text over)
