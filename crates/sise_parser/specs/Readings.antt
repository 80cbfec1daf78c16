-- Reading a text call by call (document 01: "Reading a text is any number of `next_item` calls").
-- Assumes nothing.
use Rattle.std.specs.Prelude.{ℕ, ◌≡◌, List, [], ◌∷◌}
use Rattle.sise_parser.specs.Reader.{Answer, next_item}
use Rattle.sise_parser.specs.Meaning.{answer_as, next_as}
use Rattle.sise_parser.specs.declared.reader.Reader.{Reader}
use Rattle.sise_parser.specs.declared.reader.Next.{Next}

-- results n of calls that a program made, each meeting its contract, "each with the record that the last one left": the record before them, their
-- answers, and the record after them
pub data Read (text : List ℕ) : Reader → List Answer → Reader → Type 0 where
  none : {r : Reader} → Read text r [] r
  more : {r v : Reader} {l : List Answer} (n : Next) → next_as n ≡ next_item text r → Read text n.reader l v → Read text r (answer_as n.answer ∷ l) v
