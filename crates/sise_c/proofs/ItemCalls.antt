-- The words of a text's items mean the calls that write them again: what follows them, such as a finish, goes on after these calls.
-- Assumes nothing.
use Prim.Native.Nat.{ℕ}
use mathlib.Core.Path.{◌≡◌, refl, ap}
use mathlib.Core.List.{List, [], ◌∷◌, ◌++◌, map}
use Rattle.sise_parser.specs.declared.reader.ParsedItem.{ParsedItem}
use Rattle.sise_parser.specs.declared.reader.ParsedItem.TheVariants.{Atom, ListStart, ListEnd}
use Rattle.sise_serializer.specs.Calls.{Call}
use Rattle.sise_serializer.specs.Words.{call_of, decoded}
use Rattle.sise_c.specs.Items.{all_words, item_call}

pub words_are_calls : (text : List ℕ) (l : List ParsedItem) (rest : List ℕ) → decoded (all_words l ++ rest) text ≡ map (item_call text) l ++ decoded rest text
unfolding all_words decoded call_of
words_are_calls text [] rest = refl
words_are_calls text (Atom p n ∷ l) rest = ap (λ (cs : List Call). item_call text (Atom p n) ∷ cs) (words_are_calls text l rest)
words_are_calls text (ListStart p ∷ l) rest = ap (λ (cs : List Call). item_call text (ListStart p) ∷ cs) (words_are_calls text l rest)
words_are_calls text (ListEnd p ∷ l) rest = ap (λ (cs : List Call). item_call text (ListEnd p) ∷ cs) (words_are_calls text l rest)
