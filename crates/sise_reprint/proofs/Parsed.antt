-- parse_text answers a number of nodes exactly for a text of at most 16,777,216 bytes that is read to its end as one node with so many nodes, for which the
-- table has room; the table that it leaves holds that node, and each atom of it is one.
-- Assumes nothing.
use Prim.Native.Nat.{ℕ, ◌/◌, ◌≤◌}
use native.Mathlib.Omega.{arith}
use mathlib.Core.Path.{◌≡◌, refl, sym, ap, ◌∙◌}
use mathlib.Core.Bool.{true}
use mathlib.Core.List.{List}
use lib.Dec.{leb, ltb}
use lib.ListN.{length, take, drop, length-drop}
use borrow.Author.Tests.{le-leb, leb-true, le-ltb, ltb-false}
use Rattle.sise_util.specs.Atom.{is_atom_prefix}
use Rattle.sise_util.proofs.Ranges.{split, both}
use Rattle.sise_util.proofs.AtomLaws.{atom_test}
use Rattle.sise_parser.specs.Refusals.{Refusal}
use Rattle.sise_parser.specs.Reader.{Next, fresh_reader, Ending, ended, not_ended, finish_reading}
use Rattle.sise_parser.specs.declared.reader.Reader.{Reader}
use Rattle.sise_parser.proofs.RefusedLaws.{atom_item}
use Rattle.sise_tree.specs.Tree.{Node, Nodes, size, atoms_hold, atoms_hold_all}
use Rattle.sise_tree.specs.Answers.{answered, refused}
use Rattle.sise_tree.specs.ParseTree.{longest, ReadNode, got, stopped, read_node, filled_with}
use Rattle.sise_tree.specs.ParseText.{ParsesText, placed_in, ended_with, text_read, parse_text}
use Rattle.sise_tree.specs.Descent.{ReadsNode, one, many, ReadsNodes, none, more}
use Rattle.sise_tree.proofs.Descent.{read_descent}
use Rattle.sise_tree.proofs.ReadSteps.{took}
use Rattle.sise_tree_writer.specs.Alike.{tree_of, ReadsAs}

-- ---- the atoms of a node that was read

module _ (text : List ℕ) where
  mutual
    unfolding atoms_hold atoms_hold_all is_atom_prefix

    atoms_read : {r q : Reader} {n : Node} → ReadsNode text r n q → atoms_hold text n ≡ true
    atoms_read {r} (one {p = p} {n = n} e w) =
        let t = took text r e in
        both (leb n (length (drop p text))) _
        (le-leb n (length (drop p text)) (omega (arith, t.leaves.0, t.within, length-drop p text)))
        ((atom_test (take n (drop p text))).1 (atom_item text r (ap (λ (x : Next). x.answer) e)))
    atoms_read (many e d z) = all_atoms_read d

    all_atoms_read : {r q : Reader} {c : Nodes} → ReadsNodes text r c q → atoms_hold_all text c ≡ true
    all_atoms_read none = refl
    all_atoms_read (more {n = n} h k) = both (atoms_hold text n) _ (atoms_read h) (all_atoms_read k)

  pub read_atoms : {n : Node} {q : Reader} → read_node text fresh_reader ≡ got n q → atoms_hold text n ≡ true
  read_atoms h = atoms_read (read_descent text fresh_reader h)

-- ---- what the answer says

-- a refusal is no answer
pub no_nodes : {A : Type 0} {k : ℕ} {e : Refusal} → refused e ≡ answered k → A
no_nodes {k = k} {e} h = let z : ◌≡◌ {A = ℕ} 0 1 = cc in absurd (omega arith)

-- the text is read as this node, for which the table has room
pub record Parsed (text words : List ℕ) (k : ℕ) : Type 0 where
  pub node : Node
  pub reader : Reader
  pub reads : read_node text fresh_reader ≡ got node reader
  pub ends : finish_reading text reader ≡ ended
  pub short : length text ≤ longest
  pub nodes : k ≡ size node
  pub table : size node ≤ length words / 4

module _ (text words : List ℕ) where
  -- where it is, this is what parse_text leaves
  module _ (short : length text ≤ longest) {n : Node} {q : Reader} (reads : read_node text fresh_reader ≡ got n q) where
    by_ending : {e : Ending} → finish_reading text q ≡ e → parse_text text words ≡ ended_with words n e
    unfolding parse_text
    by_ending e = rw (le-ltb longest (length text) short) (ap (text_read text words) reads ∙ ap (ended_with words n) e)

    pub parses_to : finish_reading text q ≡ ended → size n ≤ length words / 4 → parse_text text words ≡ record { answer = answered (size n); words = filled_with n words }
    unfolding placed_in
    parses_to e le = by_ending e ∙ rw (le-leb (size n) (length words / 4) le)

    ended_by : {k : ℕ} (e : Ending) → finish_reading text q ≡ e → (parse_text text words).answer ≡ answered k → Parsed text words k
    unfolding placed_in
    ended_by {k} ended e h =
        let a : (placed_in words n).answer ≡ answered k = sym (ap (λ (p : ParsesText). p.answer) (by_ending e)) ∙ h in
        split (leb (size n) (length words / 4))
        (λ y.
        let z : answered (size n) ≡ answered k = rw (y, placed_in) at a in
        let same : size n ≡ k = cc in
        record { node = n; reader = q; reads = reads; ends = e; short = short; nodes = sym same; table = leb-true (size n) (length words / 4) y })
        (λ y. no_nodes (rw (y, placed_in) at a))
    ended_by (not_ended f) e h = no_nodes (sym (ap (λ (p : ParsesText). p.answer) (by_ending e)) ∙ h)

  pub was_parsed : {k : ℕ} → (parse_text text words).answer ≡ answered k → Parsed text words k
  unfolding parse_text
  was_parsed {k} h = split (ltb longest (length text)) (λ e. no_nodes (rw e at h)) (λ e. of (ltb-false longest (length text) e) (read_node text fresh_reader) refl)
    where
      stops : length text ≤ longest → {y : ReadNode} → read_node text fresh_reader ≡ y → parse_text text words ≡ text_read text words y
      stops short e = rw (le-ltb longest (length text) short) (ap (text_read text words) e)

      of : length text ≤ longest → (y : ReadNode) → read_node text fresh_reader ≡ y → Parsed text words k
      of short (stopped f q) e = no_nodes (sym (ap (λ (p : ParsesText). p.answer) (stops short e)) ∙ h)
      of short (got n q) e = ended_by short e (finish_reading text q) refl h

module _ {text words : List ℕ} {k : ℕ} (p : Parsed text words k) where
  -- its words
  pub parsed_words : (parse_text text words).words ≡ filled_with p.node words
  parsed_words = ap (λ (x : ParsesText). x.words) (parses_to text words p.short p.reads p.ends p.table)

  abbrev pub parsed_reads : ReadsAs text (tree_of text p.node)
  parsed_reads = record { node = p.node; reader = p.reader; reads = p.reads; same = refl; ended = p.ends }
