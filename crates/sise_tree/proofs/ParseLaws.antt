-- What is known of a node that was read: it has no more nodes than the bytes it took, its atoms lie in the text, and the record after it is sound, with
-- the lists open that were open before it. So the table that parse_tree writes holds the node.
-- Assumes nothing.
use Prim.Native.Nat.{ℕ, ◌+◌, ◌*◌, ◌≤◌}
use native.Mathlib.Omega.{arith}
use mathlib.Core.Path.{◌≡◌, refl, sym, ap, ◌∙◌}
use mathlib.Core.Bool.{true, false, false≢true}
use mathlib.Core.List.{List}
use lib.ListN.{length, drop}
use borrow.Author.Tests.{leb-true, eqb-true}
use Rattle.sise_parser.specs.Reader.{Next, lists_fit, is_sound}
use Rattle.sise_parser.specs.declared.reader.Phase.{Phase}
use Rattle.sise_parser.specs.declared.reader.Phase.TheVariants.{Beginning, Parsing, Finishing}
use Rattle.sise_parser.specs.declared.reader.Reader.{Reader}
use Rattle.sise_parser.proofs.Calls.{sound_parts}
use Rattle.sise_parser.proofs.RefusedLaws.{atom_item}
use Rattle.sise_tree.specs.Tree.{Node, Nodes, size, sizes, lies, lies_all, Holds}
use Rattle.sise_tree.specs.ParseTree.{got, read_node, filled_with}
use Rattle.sise_tree.specs.Descent.{ReadsNode, one, many, ReadsNodes, none, more}
use Rattle.sise_tree.proofs.TreeLaws.{words_after_lem, own_kind}
use Rattle.sise_tree.proofs.ReadSteps.{begins, took}
use Rattle.sise_tree.proofs.Descent.{read_descent}

module _ (text : List ℕ) where
  -- a node was read from the record r on, and left q
  pub record NodeTaken (r : Reader) (n : Node) (q : Reader) : Type 0 where
    pub bytes : r.position + size n ≤ q.position
    pub within : q.position ≤ length text
    pub in_text : lies text n ≡ true
    pub lists : q.lists ≡ r.lists
    pub was : is_sound (length text) r ≡ true
    pub sound : is_sound (length text) q ≡ true
    pub begun : begins q.phase ≡ false

  record NodesTaken (r : Reader) (c : Nodes) (q : Reader) : Type 0 where
    bytes : r.position + sizes c ≤ q.position
    in_text : lies_all text c ≡ true
    lists : q.lists ≡ r.lists

  mutual
    unfolding size sizes lies lies_all

    node_taken : {r q : Reader} {n : Node} → ReadsNode text r n q → NodeTaken r n q
    node_taken {r} (one {k = k} {p = p} {n = n} e w) =
        let t = took text r e in
        record {
          bytes = omega (arith, t.moves);
          within = t.within;
          in_text = rw w (own_kind text p n (omega (arith, t.leaves.0, t.within)) (atom_item text r (ap (λ (x : Next). x.answer) e)));
          lists = t.leaves.1;
          was = t.sound;
          sound = t.stays;
          begun = t.leaves.2;
        }
    node_taken {r} (many {t = t} e d z) =
        let b = took text r e in
        let c = nodes_taken d in
        let f = took text t z in
        record {
          bytes = omega (arith, b.moves, c.bytes, f.moves);
          within = f.within;
          in_text = c.in_text;
          lists = omega (arith, b.leaves.0, c.lists, f.leaves.0);
          was = b.sound;
          sound = f.stays;
          begun = f.leaves.1;
        }

    nodes_taken : {r q : Reader} {c : Nodes} → ReadsNodes text r c q → NodesTaken r c q
    nodes_taken none = record { bytes = omega arith; in_text = refl; lists = refl }
    nodes_taken (more h k) =
        let a = node_taken h in
        let b = nodes_taken k in
        record { bytes = omega (arith, a.bytes, b.bytes); in_text = rw a.in_text b.in_text; lists = b.lists ∙ a.lists }

  module _ (r : Reader) {n : Node} {q : Reader} (h : read_node text r ≡ got n q) where
    pub node_read_taken : NodeTaken r n q
    node_read_taken = node_taken (read_descent text r h)

    -- no more nodes than bytes
    pub at_most_bytes : size n ≤ length text
    at_most_bytes = let t = node_read_taken in omega (arith, t.bytes, t.within)

    pub read_lies : lies text n ≡ true
    read_lies = node_read_taken.in_text

    -- so the table that is written holds the node that was read
    pub read_holds : (words : List ℕ) → Holds text (filled_with n words) n
    unfolding filled_with
    read_holds words = words_after_lem text 0 n (drop (4 * size n) words) read_lies

    -- the record after it: sound, with the lists open that were
    pub read_sound : is_sound (length text) q ≡ true
    read_sound = node_read_taken.sound

    pub read_lists : q.lists ≡ r.lists
    read_lists = node_read_taken.lists

    -- the first node of a text is its only one
    pub read_first : r.phase ≡ Beginning → q.phase ≡ Finishing
    read_first e = go q.phase refl
      where
        none_open : q.lists ≡ 0
        none_open =
            read_lists ∙ eqb-true r.lists 0 (ap (λ (f : Phase). lists_fit f r.lists) (sym e) ∙ (sound_parts (length text) r node_read_taken.was).fit)

        go : (f : Phase) → q.phase ≡ f → f ≡ Finishing
        go Beginning d = absurd (false≢true (sym node_read_taken.begun ∙ ap begins d))
        go Parsing d =
            let k : 1 ≤ q.lists = leb-true 1 q.lists (ap (λ (f : Phase). lists_fit f q.lists) (sym d) ∙ (sound_parts (length text) q read_sound).fit) in
            absurd (omega (arith, none_open))
        go Finishing d = refl

    -- after a node inside a list the list is still open
    pub read_inner : r.phase ≡ Parsing → q.phase ≡ Parsing
    read_inner e = go q.phase refl
      where
        some_open : 1 ≤ r.lists
        some_open = leb-true 1 r.lists (ap (λ (f : Phase). lists_fit f r.lists) (sym e) ∙ (sound_parts (length text) r node_read_taken.was).fit)

        go : (f : Phase) → q.phase ≡ f → f ≡ Parsing
        go Beginning d = absurd (false≢true (sym node_read_taken.begun ∙ ap begins d))
        go Parsing d = refl
        go Finishing d =
            let z : q.lists ≡ 0 = eqb-true q.lists 0 (ap (λ (f : Phase). lists_fit f q.lists) (sym d) ∙ (sound_parts (length text) q read_sound).fit) in
            absurd (omega (arith, some_open, read_lists))
