-- Each return is one case: of what the counting gave, of what finish says of the rest of the text, and of the room in the table.
use Prim.Native.Nat.{ℕ, ◌/◌, ◌≤◌, ◌<◌}
use mathlib.Core.Path.{◌≡◌, refl, sym, ap, ◌∙◌, subst}
use mathlib.Core.Bool.{Bool, cond, false≢true}
use mathlib.Core.List.{List}
use lib.ListN.{length}
use borrow.Author.Tests.{lt-ltb, le-ltb, le-leb, lt-leb}
use Rattle.sise_parser.specs.Reader.{fresh_reader, finish_reading}
use Rattle.sise_parser.specs.Meaning.{finished_as}
use Rattle.std.specs.Prelude.{Result, Ok, Err}
use Rattle.std.proofs.lemmas.Result.{err_from_is_err_and}
use Rattle.sise_parser.specs.declared.error.ParseError.{ParseError}
use Rattle.sise_parser.specs.declared.reader.Reader.{Reader}
use Rattle.sise_tree.specs.Tree.{Node, size}
use Rattle.sise_tree.specs.Answers.{answered, refused, refused_with, tree_refusal, parsed_as}
use Rattle.sise_tree.specs.ParseTree.{longest, ReadNode, got, stopped, read_node, filled_with}
use Rattle.sise_tree.specs.ParseText.{ParsesText, parses, placed_in, ended_with, text_read, parse_text, DoesParseText}
use Rattle.sise_tree.specs.Filling.{counted, DoesCount, CanFill, DoesFill}
use Rattle.sise_tree.specs.declared.parse.TreeError.{TreeError}
use Rattle.sise_tree.specs.declared.parse.TreeError.TheVariants.{Refused, TextTooLong, TableFull}
use Rattle.sise_tree.proofs.ParseCases.{is_answered, was_got, parse_fillable}
use Rattle.sise_tree.proofs.whole.parse_text.Goals as goal

module _ (text words : List ℕ) where
  shown : {d e : ParsesText} {x : Result ℕ TreeError} {now : List ℕ} → d ≡ e → DoesParseText e x now → DoesParseText d x now
  shown {x = x} {now = now} z h = subst (λ (p : ParsesText). DoesParseText p x now) (sym z) h

  long : longest < length text → DoesParseText (parse_text text words) (Err TextTooLong) words
  unfolding parse_text
  long h =
      shown (ap (λ (b : Bool). cond b (parses (refused_with 13) words) (text_read text words (read_node text fresh_reader))) (lt-ltb longest (length text) h))
      (record { answer = refl; words = refl })

  module _ (short : length text ≤ longest) where
    read : {y : ReadNode} → read_node text fresh_reader ≡ y → parse_text text words ≡ text_read text words y
    unfolding parse_text
    read e =
        ap (λ (b : Bool). cond b (parses (refused_with 13) words) (text_read text words (read_node text fresh_reader))) (le-ltb longest (length text) short) ∙
        ap (text_read text words) e

    -- the counting, from a fresh reader
    module _ {r q : Reader} (fresh : r ≡ fresh_reader) {x : Result ℕ TreeError} (counting : DoesCount (read_node text r) q x) where
      counts : DoesCount (read_node text fresh_reader) q x
      counts = rw fresh at counting

      unread : {d : TreeError} → x ≡ Err d → DoesParseText (parse_text text words) (Err d) words
      unread {d} s = go (read_node text fresh_reader) refl
        where
          same : refused (tree_refusal d) ≡ counted (read_node text fresh_reader)
          same = ap parsed_as (sym s) ∙ counts.answer

          go : (y : ReadNode) → read_node text fresh_reader ≡ y → DoesParseText (parse_text text words) (Err d) words
          go (got n r) e = absurd (false≢true (ap is_answered (same ∙ ap counted e)))
          go (stopped z r) e = shown (read e) (record { answer = same ∙ ap counted e; words = refl })

      fillable : {k : ℕ} → x ≡ Ok k → k ≤ length words / 4 → {p : Reader} → p ≡ fresh_reader → CanFill text p words
      fillable a u v = subst (λ (r : Reader). CanFill text r words) (sym v) (parse_fillable text fresh_reader words short counts a u)

      module _ {k : ℕ} (a : x ≡ Ok k) {f : Result (Unit {0}) ParseError} (ends : finished_as f ≡ finish_reading text q) where
        -- a node was counted, and finish answered so
        by : {g : Result (Unit {0}) ParseError} {n : Node} → f ≡ g → read_node text fresh_reader ≡ got n q → parse_text text words ≡ ended_with words n (finished_as g)
        by {n = n} t e = read e ∙ ap (ended_with words n) (sym ends ∙ ap finished_as t)

        more : {e : ParseError} → f ≡ Err e → DoesParseText (parse_text text words) (Err (Refused e)) words
        more t = was_got text fresh_reader words short counts a λ n e z. shown (by t e) (record { answer = refl; words = refl })

        full : f ≡ Ok tt → length words / 4 < k → DoesParseText (parse_text text words) (Err TableFull) words
        unfolding placed_in
        full t u =
            was_got text fresh_reader words short counts a λ n e z.
            shown
            (by t e ∙
            ap (λ (b : Bool). cond b (parses (answered (size n)) (filled_with n words)) (parses (refused_with 14) words))
            (lt-leb (size n) (length words / 4) (subst (λ (m : ℕ). length words / 4 < m) z u)))
            (record { answer = refl; words = refl })

        filled : f ≡ Ok tt → k ≤ length words / 4 → {p : Reader} → p ≡ fresh_reader → {now : List ℕ} → DoesFill text p words now
            → DoesParseText (parse_text text words) (Ok k) now
        unfolding placed_in
        filled t u {p} v {now} w =
            was_got text fresh_reader words short counts a λ n e z.
            shown
            (by t e ∙
            ap (λ (b : Bool). cond b (parses (answered (size n)) (filled_with n words)) (parses (refused_with 14) words))
            (le-leb (size n) (length words / 4) (subst (λ (m : ℕ). m ≤ length words / 4) z u)))
            (record { answer = ap answered z; words = w n q (ap (read_node text) v ∙ e) })

pub returns-then-text-gt-LONGEST : goal.returns-then-text-gt-LONGEST
returns-then-text-gt-LONGEST c = long _ _ c.if-text-gt-LONGEST.true

pub returns-in_err-nodes : goal.returns-in_err-nodes
returns-in_err-nodes c =
    let p = err_from_is_err_and c.from_residual.result c.from_residual.ensures.1 in
    rw (p.1, p.2) (unread _ _ c.if-text-gt-LONGEST.false c.new-behind.ensures c.count_nodes.ensures c.in_err-nodes.was)

pub returns-in_err-finish : goal.returns-in_err-finish
returns-in_err-finish c =
    let p = err_from_is_err_and c.from_residual-in_err-finish.result c.from_residual-in_err-finish.ensures.1 in
    rw (p.1, p.2) (more _ _ c.if-text-gt-LONGEST.false c.new-behind.ensures c.count_nodes.ensures c.in_ok-nodes.was c.finish.ensures c.in_err-finish.was)

pub returns-then-nodes-table : goal.returns-then-nodes-table
returns-then-nodes-table c =
    full _ _ c.if-text-gt-LONGEST.false c.new-behind.ensures c.count_nodes.ensures c.in_ok-nodes.was c.finish.ensures c.in_ok-finish.was c.if-nodes-table.true

pub fill_nodes-requires : goal.fill_nodes-requires
fill_nodes-requires c =
    fillable _ _ c.if-text-gt-LONGEST.false c.new-behind.ensures c.count_nodes.ensures c.in_ok-nodes.was c.if-nodes-table.false c.new.ensures

pub returns : goal.returns
returns c =
    filled _ _ c.if-text-gt-LONGEST.false c.new-behind.ensures c.count_nodes.ensures c.in_ok-nodes.was c.finish.ensures c.in_ok-finish.was
    c.if-nodes-table.false c.new.ensures c.fill_nodes.ensures
