-- What the reader answers (document 01, "parser.rs: the reader" and "Refusals").
-- Assumes nothing.
use Rattle.std.specs.Prelude.{ℕ, zero, suc, ◌+◌, ◌-◌, Bool, true, false, ◌&&◌, cond, List, [], ◌∷◌, leb, eqb, length, drop, take}
use Rattle.sise_parser.specs.Refusals.{Refusal, refusal}
use Rattle.sise_parser.specs.Lexer.{Lexed, found, bad, eof, opening, closing, atom, between}
use Rattle.sise_parser.specs.declared.reader.Phase.{Phase}
use Rattle.sise_parser.specs.declared.reader.Phase.TheVariants.{Beginning, Parsing, Finishing}
use Rattle.sise_parser.specs.declared.reader.Reader.{Reader}
use Rattle.sise_parser.specs.declared.reader.ParsedItem.{ParsedItem}
use Rattle.sise_parser.specs.declared.reader.ParsedItem.TheVariants.{Atom, ListStart, ListEnd}

abbrev pub reader : ℕ → Phase → ℕ → Reader
reader p f n = record { position = p; phase = f; lists = n }

-- "a fresh reader": "position 0, beginning, no open list"
abbrev pub fresh_reader : Reader
fresh_reader = reader 0 Beginning 0

-- "open at least 1 exactly while parsing"
abbrev pub lists_fit : Phase → ℕ → Bool
lists_fit Beginning n = eqb n 0
lists_fit Parsing n = leb 1 n
lists_fit Finishing n = eqb n 0

-- "Sound: position at most the text's length", here n, "open at most position, open at least 1 exactly while parsing"
unfoldable pub is_sound : ℕ → Reader → Bool
is_sound n r = leb r.position n && (leb r.lists r.position && lists_fit r.phase r.lists)

-- an item, or a refusal
pub data Answer : Type 0 where
  item : ParsedItem → Answer
  refused : Refusal → Answer

-- the record after a call, and its answer
pub record Next : Type 0 where
  pub reader : Reader
  pub answer : Answer

abbrev pub next : Reader → Answer → Next
next r a = record { reader = r; answer = a }

-- 9 to 11 have no place
abbrev pub refused_with : ℕ → Answer
refused_with n = refused (refusal n 0 0)

-- "A list closes at its `)`; the last close ... gives finishing"
abbrev pub closed : ℕ → ℕ → Reader
closed p n = cond (eqb n 1) (reader p Finishing 0) (reader p Parsing (n - 1))

-- the token at or after the position
unfoldable pub token_at : List ℕ → Reader → Lexed
token_at text r = between (drop r.position text) r.position

-- what it gives, with n open lists; a refusal leaves phase and open lists
unfoldable pub in_beginning : ℕ → Lexed → Next
in_beginning n (bad e p) = next (reader p Beginning n) (refused e)
in_beginning n (found eof s p) = next (reader p Beginning n) (refused (refusal 5 s 0))
in_beginning n (found opening s p) = next (reader p Parsing 1) (item (ListStart s))
in_beginning n (found closing s p) = next (reader p Beginning n) (refused (refusal 6 s 0))
in_beginning n (found (atom k) s p) = next (reader p Finishing n) (item (Atom s k))

unfoldable pub in_parsing : ℕ → Lexed → Next
in_parsing n (bad e p) = next (reader p Parsing n) (refused e)
in_parsing n (found eof s p) = next (reader p Parsing n) (refused (refusal 5 s 0))
in_parsing n (found opening s p) = next (reader p Parsing (n + 1)) (item (ListStart s))
in_parsing n (found closing s p) = next (closed p n) (item (ListEnd s))
in_parsing n (found (atom k) s p) = next (reader p Parsing n) (item (Atom s k))

unfoldable pub next_in : Phase → List ℕ → Reader → Next
next_in Beginning text r = in_beginning r.lists (token_at text r)
next_in Parsing text r = in_parsing r.lists (token_at text r)
next_in Finishing text r = next r (refused_with 9)

-- next_item: "11, then 9 or 10, then the text"
unfoldable pub next_item : List ℕ → Reader → Next
next_item text r =
    elim (is_sound (length text) r) [
      | true ↦ next_in r.phase text r
      | false ↦ next r (refused_with 11)
    ]

-- the record after k calls of next_item from a fresh reader
unfoldable pub after_calls : List ℕ → ℕ → Reader
after_calls text zero = fresh_reader
after_calls text (suc k) = (next_item text (after_calls text k)).reader

-- the answers of k calls from a record on, "each with the record that the last one left"
unfoldable pub answers_from : List ℕ → Reader → ℕ → List Answer
answers_from text r zero = []
answers_from text r (suc k) = (next_item text r).answer ∷ answers_from text (next_item text r).reader k

-- accepted, or a refusal: "Reader finish consumes the reader"
pub data Ending : Type 0 where
  ended : Ending
  not_ended : Refusal → Ending

unfoldable pub ends_at : Lexed → Ending
ends_at (bad e p) = not_ended e
ends_at (found eof s p) = ended
ends_at (found opening s p) = not_ended (refusal 7 s 0)
ends_at (found closing s p) = not_ended (refusal 7 s 0)
ends_at (found (atom k) s p) = not_ended (refusal 7 s 0)

unfoldable pub finish_in : Phase → List ℕ → Reader → Ending
finish_in Beginning text r = not_ended (refusal 10 0 0)
finish_in Parsing text r = not_ended (refusal 10 0 0)
finish_in Finishing text r = ends_at (token_at text r)

-- finish
unfoldable pub finish_reading : List ℕ → Reader → Ending
finish_reading text r =
    elim (is_sound (length text) r) [
      | true ↦ finish_in r.phase text r
      | false ↦ not_ended (refusal 11 0 0)
    ]

-- "that part of the caller's text, and ... an empty part if the place and length asked lie outside it"
unfoldable pub part_of : List ℕ → ℕ → ℕ → List ℕ
part_of text place n = elim (leb (place + n) (length text)) [ true ↦ take n (drop place text) | false ↦ [] ]
