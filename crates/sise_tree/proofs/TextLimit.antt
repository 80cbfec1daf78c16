-- 13's limit (document 01, "Refusals": "text over 16,777,216 bytes"): a text of just as many bytes is read, and one of a byte more is refused before all else.
-- Assumes nothing.
use Prim.Native.Nat.{ℕ}
use mathlib.Core.Path.{◌≡◌, sym, ap, ◌∙◌}
use mathlib.Core.Bool.{true, false}
use mathlib.Core.List.{List, [], ◌∷◌}
use lib.Dec.{ltb}
use native.Mathlib.Omega.{arith}
use borrow.Author.Tests.{le-leb}
use Rattle.sise_util.specs.Atom.{kind_prefix, kind_of, is_atom, outside, has_quote}
use lib.ListN.{length, replicate, length-replicate}
use Rattle.sise_util.specs.Chars.{within}
use Rattle.sise_util.specs.Classes.{class_of}
use Rattle.sise_parser.specs.Lexer.{between, plain}
use Rattle.sise_parser.specs.Reader.{reader, fresh_reader, is_sound, item, Next, next, token_at, in_beginning, next_in, next_item}
use Rattle.sise_parser.specs.declared.reader.Phase.TheVariants.{Finishing}
use Rattle.sise_parser.specs.declared.reader.ParsedItem.TheVariants.{Atom}
use Rattle.sise_parser.specs.declared.reader.Reader.{Reader}
use Rattle.sise_parser.proofs.Calls.{next_unsound}
use Rattle.sise_parser.proofs.ReaderLaws.{fresh_sound}
use Rattle.sise_tree.specs.Tree.{atom, size, kind_at, table_at}
use Rattle.sise_tree.specs.Decision.{decide}
use Rattle.sise_tree.specs.Answers.{answered, refused_with}
use Rattle.sise_tree.specs.ParseTree.{longest, top, attach, turn, got, read_stage, read_answer, read_from, read_node, filled_with, Parses, parsed, parse_tree}
use Rattle.sise_tree.specs.ParseText.{parses, text_read, parse_text}
use Rattle.sise_tree.specs.IndexPath.{indexed_in, index_path}
use Rattle.sise_tree.specs.FindPath.{follow, refused, looked_up, find_path}

module _ (text : List ℕ) (at : length text ≡ 16777216) where
  pub not_over : ltb longest (length text) ≡ false
  not_over = ap (ltb longest) at

  pub parse_at : (r : Reader) (words : List ℕ) → parse_tree text r words ≡ parsed r words (read_node text r)
  unfolding parse_tree
  parse_at r words = rw not_over

  pub text_at : (words : List ℕ) → parse_text text words ≡ text_read text words (read_node text fresh_reader)
  unfolding parse_text
  text_at words = rw not_over

  pub path_at : (words path : List ℕ) → index_path words text path ≡ indexed_in (decide text words) path
  unfolding index_path
  path_at words path = rw not_over

  pub find_at : (words path : List ℕ) → find_path words text path ≡ looked_up 0 (follow words 0 path)
  unfolding find_path
  find_at words path = rw not_over

  -- 11, in every phase, and so before 9
  pub unsound_at : (r : Reader) (words : List ℕ) → is_sound (length text) r ≡ false → parse_tree text r words ≡ record { reader = r; answer = refused_with 11; words = words }
  unfolding parsed read_node read_from read_answer
  unsound_at r words h =
      parse_at r words ∙ ap (λ (x : Next). parsed r words (read_answer text (read_from (length text) text x.reader) x.reader top x.answer)) (sym (next_unsound text r h))

module _ (text : List ℕ) (over : length text ≡ 16777217) where
  pub is_over_lem : ltb longest (length text) ≡ true
  is_over_lem = ap (ltb longest) over

  -- with any record, and so before 11
  pub parse_over : (r : Reader) (words : List ℕ) → parse_tree text r words ≡ record { reader = r; answer = refused_with 13; words = words }
  unfolding parse_tree
  parse_over r words = rw is_over_lem

  pub text_over : (words : List ℕ) → parse_text text words ≡ parses (refused_with 13) words
  unfolding parse_text
  text_over words = rw is_over_lem

  -- with any table, and so before 15
  pub path_over : (words path : List ℕ) → index_path words text path ≡ refused_with 13
  unfolding index_path
  path_over words path = rw is_over_lem

  pub find_over : (words path : List ℕ) → find_path words text path ≡ refused 13
  unfolding find_path
  find_over words path = rw is_over_lem

-- row 13's example, 16,777,217 spaces
pub row_13 : (n : ℕ) → n ≡ 16777217 → (r : Reader) (words : List ℕ) → (parse_tree (replicate n 32) r words).answer ≡ refused_with 13
row_13 n e r words = ap (λ (p : Parses). p.answer) (parse_over (replicate n 32) (length-replicate n 32 ∙ e) r words)

-- `a`, a space, and any bytes behind them, as many as the limit allows: a node is read
module _ (rest : List ℕ) where
  abbrev long : List ℕ
  long = 97 ∷ 32 ∷ rest

  its_item : next_item long fresh_reader ≡ next (reader 1 Finishing 0) (item (Atom 0 1))
  unfolding next_item next_in token_at in_beginning between plain class_of within
  its_item = rw (fresh_sound (length long), next_item)

  its_kind : kind_at long 0 1 ≡ 1
  unfolding kind_prefix kind_of is_atom outside has_quote class_of within
  its_kind = rw (le-leb 1 (length long) (omega arith), kind_prefix)

  its_node : read_node long fresh_reader ≡ got (atom 1 0 1) (reader 1 Finishing 0)
  unfolding read_node read_from read_answer read_stage turn attach
  its_node = ap (λ (x : Next). read_answer long (read_from (length long) long x.reader) x.reader top x.answer) its_item ∙ ap (λ (k : ℕ). got (atom k 0 1) (reader 1 Finishing 0)) its_kind

  pub longest_text : length long ≡ 16777216 → parse_tree long fresh_reader (replicate 4 9) ≡ record { reader = reader 1 Finishing 0; answer = answered 1; words = 1 ∷ 0 ∷ 1 ∷ 1 ∷ [] }
  unfolding parsed filled_with table_at size
  longest_text at = parse_at long at fresh_reader (replicate 4 9) ∙ ap (parsed fresh_reader (replicate 4 9)) its_node
