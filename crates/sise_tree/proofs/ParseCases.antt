-- What parse_tree answers and leaves, by what the counting gave.
-- Assumes nothing.
use Prim.Native.Nat.{ℕ, ◌/◌, ◌≤◌, ◌<◌}
use mathlib.Core.Path.{◌≡◌, refl, sym, ap, ◌∙◌, subst}
use mathlib.Core.Bool.{Bool, true, false, cond, false≢true}
use mathlib.Core.List.{List}
use lib.Dec.{leb}
use lib.ListN.{length}
use borrow.Author.Tests.{lt-ltb, le-ltb, le-leb, lt-leb}
use Rattle.sise_parser.specs.declared.reader.Reader.{Reader}
use Rattle.sise_tree.specs.Tree.{Node, size}
use Rattle.sise_tree.specs.Answers.{Answer, answered, refused, refused_with, parsed_as}
use Rattle.sise_tree.specs.ParseTree.{longest, ReadNode, got, stopped, read_node, filled_with, Parses, parsed, parse_tree, DoesParse}
use Rattle.sise_tree.specs.Filling.{counted, reader_of, DoesCount, CanFill, DoesFill}
use Rattle.std.specs.Prelude.{Result, Ok, Err}
use Rattle.sise_tree.specs.declared.parse.TreeError.{TreeError}
use Rattle.sise_tree.specs.declared.parse.TreeError.TheVariants.{TextTooLong, TableFull}
use Rattle.sise_tree.specs.declared.parse.TreeRead.{TreeRead}

abbrev pub is_answered : Answer → Bool
is_answered (answered n) = true
is_answered (refused e) = false

abbrev number_in : Answer → ℕ
number_in (answered n) = n
number_in (refused e) = 0

-- an answer that is no number of nodes
pub not_nodes : (a : Result ℕ TreeError) → ((n : ℕ) → a ≡ Ok n → ⊥) → is_answered (parsed_as a) ≡ false
not_nodes (Ok n) h = absurd (h n refl)
not_nodes (Err e) h = refl

module _ (text : List ℕ) (r : Reader) (words : List ℕ) where
  pub parse_long : longest < length text → DoesParse (parse_tree text r words) (record { reader = r; answer = Err TextTooLong }) words
  unfolding parse_tree
  parse_long h =
      let z = ap (λ (b : Bool). cond b (record { reader = r; answer = refused_with 13; words = words }) (parsed r words (read_node text r))) (lt-ltb longest (length text) h) in
      record { reader = ap (λ (d : Parses). d.reader) (sym z); answer = ap (λ (d : Parses). d.answer) (sym z); words = ap (λ (d : Parses). d.words) (sym z) }

  module _ (short : length text ≤ longest) where
    short_parses : {x : TreeRead} {now : List ℕ} → DoesParse (parsed r words (read_node text r)) x now → DoesParse (parse_tree text r words) x now
    unfolding parse_tree
    short_parses {x} {now} d =
        subst (λ (p : Parses). DoesParse p x now)
        (sym (ap (λ (b : Bool). cond b (record { reader = r; answer = refused_with 13; words = words }) (parsed r words (read_node text r))) (le-ltb longest (length text) short)))
        d

    -- a node was counted
    module _ {q : Reader} {x : Result ℕ TreeError} {k : ℕ} (d : DoesCount (read_node text r) q x) (a : x ≡ Ok k) where
      pub was_got : {C : Type 0} → ((n : Node) → read_node text r ≡ got n q → k ≡ size n → C) → C
      was_got {C} j = go (read_node text r) refl
        where
          same : answered k ≡ counted (read_node text r)
          same = ap parsed_as (sym a) ∙ d.answer

          go : (y : ReadNode) → read_node text r ≡ y → C
          go (got n p) e = j n (e ∙ ap (got n) (sym (d.reader ∙ ap reader_of e))) (ap number_in (same ∙ ap counted e))
          go (stopped z p) e = absurd (false≢true (sym (ap is_answered (same ∙ ap counted e))))

      by : {n : Node} (now : List ℕ) {y : TreeRead} → read_node text r ≡ got n q → {b : Bool} → leb (size n) (length words / 4) ≡ b
          → DoesParse (cond b (record { reader = q; answer = answered (size n); words = filled_with n words }) (record { reader = r; answer = refused_with 14; words = words })) y now
          → DoesParse (parse_tree text r words) y now
      unfolding parsed
      by {n} now {y} e t h =
          short_parses
          (subst (λ (p : Parses). DoesParse p y now)
          (sym (ap (parsed r words) e ∙ ap (λ (b : Bool). cond b (record { reader = q; answer = answered (size n); words = filled_with n words }) (record { reader = r; answer = refused_with 14; words = words })) t))
          h)

      -- more than the table has
      pub parse_full : length words / 4 < k → DoesParse (parse_tree text r words) (record { reader = r; answer = Err TableFull }) words
      parse_full u =
          was_got λ n e z.
          by words e (lt-leb (size n) (length words / 4) (subst (λ (m : ℕ). length words / 4 < m) z u)) (record { reader = refl; answer = refl; words = refl })

      module _ (u : k ≤ length words / 4) where
        pub parse_fillable : CanFill text r words
        parse_fillable = was_got λ n e z. (n, q, record { short = short; reads = e; room = subst (λ (m : ℕ). m ≤ length words / 4) z u })

        pub parse_filled : {now : List ℕ} → DoesFill text r words now → DoesParse (parse_tree text r words) (record { reader = q; answer = Ok k }) now
        parse_filled {now} f =
            was_got λ n e z.
            by now e (le-leb (size n) (length words / 4) (subst (λ (m : ℕ). m ≤ length words / 4) z u))
            (record { reader = refl; answer = ap answered z; words = f n q e })

    -- none was
    pub parse_stopped :
        {q : Reader} {x : Result ℕ TreeError} → DoesCount (read_node text r) q x → ((n : ℕ) → x ≡ Ok n → ⊥)
        → DoesParse (parse_tree text r words) (record { reader = q; answer = x }) words
    unfolding parsed
    parse_stopped {q} {x} d s = short_parses (go (read_node text r) refl)
      where
        go : (y : ReadNode) → read_node text r ≡ y → DoesParse (parsed r words (read_node text r)) (record { reader = q; answer = x }) words
        go (got n p) e = absurd (false≢true (sym (not_nodes x s) ∙ ap is_answered (d.answer ∙ ap counted e)))
        go (stopped z p) e =
            subst (λ (y : ReadNode). DoesParse (parsed r words y) (record { reader = q; answer = x }) words) (sym e)
            (record { reader = d.reader ∙ ap reader_of e; answer = d.answer ∙ ap counted e; words = refl })
