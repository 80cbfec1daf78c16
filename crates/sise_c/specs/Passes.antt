-- How far the private functions that go over a text's items have come: they count the items, and then write the words of each.
-- Assumes nothing.
use Rattle.std.specs.Prelude.{ℕ, suc, ◌+◌, ◌-◌, ◌*◌, ◌≤◌, ◌≡◌, true, List, length}
use Rattle.sise_parser.specs.Reader.{is_sound}
use Rattle.sise_parser.specs.declared.reader.Reader.{Reader}
use Rattle.sise_parser.specs.declared.reader.ParsedItem.{ParsedItem}
use Rattle.sise_serializer.specs.Bytes.{pasted}
use Rattle.sise_c.specs.Items.{items_from, ending_from, items_of, ending_of, all_words}

-- so many calls are enough where n items are read
abbrev pub calls : List ℕ → ℕ → ℕ
calls text n = suc (length text - n)

-- the items that are left
abbrev pub items_left : List ℕ → Reader → ℕ → List ParsedItem
items_left text r n = items_from (calls text n) text r

-- n items are read where the reader's record is r
pub record Reached (text : List ℕ) (r : Reader) (n : ℕ) : Type 0 where
  pub sound : is_sound (length text) r ≡ true
  pub early : n ≤ r.position

-- n items are counted, and those that are left make up all
pub record Counts (text : List ℕ) (r : Reader) (n : ℕ) : Type 0 where
  pub reached : Reached text r n
  pub total : n + length (items_left text r n) ≡ length (items_of text)
  pub ends : ending_from (calls text n) text r ≡ ending_of text

-- the words of n items are written over those that were w₀, and writing those that are left gives all
pub record Fills (text w₀ : List ℕ) (r : Reader) (words : List ℕ) (n : ℕ) : Type 0 where
  pub reached : Reached text r n
  pub same : length words ≡ length w₀
  pub room : 4 * (n + length (items_left text r n)) ≤ length w₀
  pub gives : pasted words (4 * n) (all_words (items_left text r n)) ≡ pasted w₀ 0 (all_words (items_of text))
