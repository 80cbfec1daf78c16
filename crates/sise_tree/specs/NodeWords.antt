-- A node's four words together.
-- Assumes nothing.
use Rattle.std.specs.Prelude.{ℕ, ◌≡◌, ◌/◌, ◌<◌, List, cond, ltb, length, Option, Some, None}
use Rattle.sise_tree.specs.Tree.{kind, first, second, span}
use Rattle.sise_tree.specs.declared.tree.NodeWords.{NodeWords}

-- node i's
abbrev pub words_at : List ℕ → ℕ → NodeWords
words_at words i = record { kind = kind words i; first = first words i; second = second words i; span = span words i }

-- the same, if the table has them all
abbrev pub node_words : List ℕ → ℕ → Option NodeWords
node_words words i = cond (ltb i (length words / 4)) (Some (words_at words i)) None

-- these are node i's words, which the table has
abbrev pub Words : List ℕ → ℕ → NodeWords → Type 0
Words words i n = (i < length words / 4) × (n ≡ words_at words i)
