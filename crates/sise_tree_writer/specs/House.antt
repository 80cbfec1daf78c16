-- The house style (document 01, "Trees"; document 02, 2.1).
-- Assumes nothing.
use Rattle.std.specs.Prelude.{ℕ, true, List, [], ◌∷◌}
use Rattle.sise_serializer.specs.Serializer.{Style, style}
use Rattle.sise_tree_writer.specs.SerializeTree.{Writes}
use Rattle.sise_tree_writer.specs.Writing.{write_text}

-- "house style, LF, two spaces"
unfoldable pub house_style : Style
house_style = style (10 ∷ []) (32 ∷ 32 ∷ [])

-- "The house style's threshold becomes 72"
abbrev pub house_threshold : ℕ
house_threshold = 72

-- a whole text in house style at a threshold: the tree that the table holds, and a "final break"
unfoldable pub house_at : ℕ → List ℕ → List ℕ → List ℕ → Writes
house_at t buffer text words = write_text house_style buffer text words t true

-- a whole text in house style
abbrev pub house : List ℕ → List ℕ → List ℕ → Writes
house = house_at house_threshold
