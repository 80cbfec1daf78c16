-- How many items a text begins with (document 01, "parser.rs: the reader").
-- Assumes nothing.
use Rattle.std.specs.Prelude.{ℕ, zero, suc, ◌+◌, List, length}
use Rattle.sise_parser.specs.Reader.{item, refused, fresh_reader, next_item}
use Rattle.sise_parser.specs.declared.reader.Reader.{Reader}

-- the items of at most k calls, up to the first refusal
unfoldable pub count_from : ℕ → List ℕ → Reader → ℕ
count_from zero text r = 0
count_from (suc k) text r = elim (next_item text r).answer [ item i ↦ 1 + count_from k text (next_item text r).reader | refused e ↦ 0 ]

-- one call more than there are bytes: "A reader over n bytes gives at most n items"
unfoldable pub count_items : List ℕ → ℕ
count_items text = count_from (suc (length text)) text fresh_reader
