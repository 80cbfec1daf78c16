-- The node that a recursive descent reads: an atom is one item; a list is its start, its nodes one after the other, and its end.
-- Assumes nothing.
use Rattle.std.specs.Prelude.{ℕ, ◌≡◌, List}
use Rattle.sise_parser.specs.Reader.{item, next, next_item}
use Rattle.sise_parser.specs.declared.reader.Reader.{Reader}
use Rattle.sise_parser.specs.declared.reader.ParsedItem.TheVariants.{Atom, ListStart, ListEnd}
use Rattle.sise_tree.specs.Tree.{Node, atom, list, Nodes, empty, ◌then◌, kind_at}

mutual
  -- from the record r on, calls of next_item read the node and leave the record q
  pub data ReadsNode (text : List ℕ) : Reader → Node → Reader → Type 0 where
    one : {r q : Reader} {k p n : ℕ} → next_item text r ≡ next q (item (Atom p n)) → k ≡ kind_at text p n → ReadsNode text r (atom k p n) q
    many : {r s t q : Reader} {c : Nodes} {p e : ℕ} → next_item text r ≡ next s (item (ListStart p)) → ReadsNodes text s c t
        → next_item text t ≡ next q (item (ListEnd e)) → ReadsNode text r (list c) q

  pub data ReadsNodes (text : List ℕ) : Reader → Nodes → Reader → Type 0 where
    none : {r : Reader} → ReadsNodes text r empty r
    more : {r s q : Reader} {n : Node} {c : Nodes} → ReadsNode text r n s → ReadsNodes text s c q → ReadsNodes text r (n then c) q
