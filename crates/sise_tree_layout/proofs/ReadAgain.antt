-- A tree that is written is read as the same tree, atoms by their bytes: its calls are its items, demand 3 reads the items back, and they spell the node.
-- Assumes nothing.
use Prim.Native.Nat.{ℕ, ◌+◌, ◌-◌, min}
use native.Mathlib.Omega.{arith}
use mathlib.Core.Path.{◌≡◌, refl, sym, ap, ap₂, ◌∙◌, subst}
use mathlib.Core.Bool.{Bool, true, false≢true}
use mathlib.Core.List.{List, [], ◌∷◌, ◌++◌, append_assoc, map-append, nil≢cons, head-eq_of_cons-eq, tail-eq_of_cons-eq}
use lib.Dec.{leb}
use lib.ListN.{length, take, drop, length-take, length-drop}
use borrow.Author.Tests.{leb-false}
use Rattle.sise_util.proofs.Ranges.{split}
use Rattle.sise_parser.specs.declared.reader.Reader.{Reader}
use Rattle.sise_parser.specs.Reader.{part_of, next_item, next, fresh_reader, finish_reading, ended}
use Rattle.sise_layout.specs.Reading.{as_read, Stands}
use Rattle.sise_serializer.specs.Serializer.{Style, Answer, accepted, refused, fresh_serializer}
use Rattle.sise_serializer.specs.declared.serializer.Serializer.{Serializer}
use Rattle.sise_serializer.specs.Calls.{largest, is_accepted, Call, put_atom_call, begin_list_call, end_list_call, finish_call, step, Item, atom as item_atom, list_start, list_end, Placed, placed, item_at, item_of, items_of, writing}
use Rattle.sise_layout.specs.Texts.{text_of, Blank}
use Rattle.sise_layout.proofs.Written.{writes}
use Rattle.sise_layout.proofs.Ended.{finished_done}
use Rattle.sise_layout.proofs.ReadBack.{follows}
use Rattle.sise_layout.proofs.Buffers.{same_text}
use Rattle.sise_layout.proofs.Following.{Follows, over, goes}
use Rattle.sise_serializer.specs.declared.serializer.Phase.TheVariants.{Done}
use Rattle.sise_tree.specs.Descent.{ReadsNode, one, many, ReadsNodes, none, more}
use Rattle.sise_tree_writer.specs.Alike.{Tree, leaf, branch, Trees, ◌also◌, tree_of, trees_of, ReadsAs}
use Rattle.sise_tree.proofs.TreeLaws.{anded}
use Rattle.sise_tree.proofs.Descent.{descent_read}
use Rattle.sise_tree.specs.Tree.{Node, atom, list, Nodes, empty, ◌then◌, kind_at}
use Rattle.sise_tree_writer.specs.SerializeTree.{node_calls, row_calls, tree_calls, fits}

-- the items of calls that are accepted
unfoldable call_item : Call → List Item
call_item (put_atom_call a t) = item_atom a ∷ []
call_item (begin_list_call t) = list_start ∷ []
call_item end_list_call = list_end ∷ []
call_item (finish_call wished) = []

unfoldable call_items : List Call → List Item
call_items [] = []
call_items (c ∷ cs) = call_item c ++ call_items cs

unfoldable mutual
  -- a node's items
  node_items : List ℕ → Node → List Item
  node_items text (atom k p n) = item_atom (part_of text p n) ∷ []
  node_items text (list c) = list_start ∷ (row_items text c ++ list_end ∷ [])

  row_items : List ℕ → Nodes → List Item
  row_items text empty = []
  row_items text (n then c) = node_items text n ++ row_items text c

items_append : (a b : List Call) → call_items (a ++ b) ≡ call_items a ++ call_items b
unfolding call_items
items_append [] b = refl
items_append (c ∷ a) b = ap (λ (l : List Item). call_item c ++ l) (items_append a b) ∙ sym (append_assoc (call_item c) (call_items a) (call_items b))

module _ (text : List ℕ) (t : ℕ) where
  mutual
    unfolding call_item call_items node_items row_items node_calls row_calls

    node_items_lem : (n : Node) (a : ℕ) → call_items (node_calls text a t n) ≡ node_items text n
    node_items_lem (atom k p n) a = refl
    node_items_lem (list c) a =
        ap (λ (l : List Item). list_start ∷ l) (items_append (row_calls text largest t c) (end_list_call ∷ []) ∙ ap (λ (l : List Item). l ++ list_end ∷ []) (row_items_lem c largest))

    row_items_lem : (c : Nodes) (a : ℕ) → call_items (row_calls text a t c) ≡ row_items text c
    row_items_lem empty a = refl
    row_items_lem (n then c) a = items_append (node_calls text a t n) (row_calls text t t c) ∙ ap₂ (λ (x y : List Item). x ++ y) (node_items_lem n a) (row_items_lem c t)

-- calls that are all accepted
item_of_lem : (c : Call) (a : Answer) → is_accepted a ≡ true → items_of (item_of c a) ≡ call_item c
unfolding item_at call_item
item_of_lem (put_atom_call b t) (accepted o) h = refl
item_of_lem (begin_list_call t) (accepted o) h = refl
item_of_lem end_list_call (accepted o) h = refl
item_of_lem (finish_call wished) (accepted o) h = refl
item_of_lem c (refused n) h = absurd (false≢true h)

module _ (s : Style) (room : ℕ) where
  written_items : (cs : List Call) (w : Serializer) → fits s room w cs ≡ true → items_of (writes s room w cs).items ≡ call_items cs
  unfolding writes fits call_items
  written_items [] w h = refl
  written_items (c ∷ cs) w h =
      anded h λ a more.
      map-append (λ (p : Placed). p.item) (item_of c (step s room w c).answer) (writes s room (step s room w c).serializer cs).items
      ∙ ap₂ (λ (x y : List Item). x ++ y) (item_of_lem c (step s room w c).answer a) (written_items cs (step s room w c).serializer more)

  -- an accepted finish is the last of them
  finished : (cs : List Call) (w : Serializer) (wished : Bool) → fits s room w (cs ++ finish_call wished ∷ []) ≡ true → (writes s room w (cs ++ finish_call wished ∷ [])).last.phase ≡ Done
  unfolding writes fits
  finished [] w wished h = anded {a = is_accepted (step s room w (finish_call wished)).answer} h λ a more. finished_done s room w wished a
  finished (c ∷ cs) w wished h = anded {a = is_accepted (step s room w c).answer} h λ a more. finished cs (step s room w c).serializer wished more

-- an atom's bytes in a text where they stand
part_stands : (text a : List ℕ) (p : ℕ) → take (length a) (drop p text) ≡ a → part_of text p (length a) ≡ a
unfolding part_of
part_stands text a p h = split (leb (p + length a) (length text)) (λ e. rw (e, part_of) h) (λ e. rw (e, part_of) (sym (none_left a (omega (arith, leb-false, e, long)))))
  where
    long : min (length a) (length text - p) ≡ length a
    long = ap (λ (n : ℕ). min (length a) n) (sym (length-drop p text)) ∙ sym (length-take (length a) (drop p text)) ∙ ap length h

    none_left : (l : List ℕ) → length l ≡ 0 → l ≡ []
    none_left [] e = refl
    none_left (x ∷ l) e = absurd (omega arith)

-- items followed in a text spell the node whose items they are
module _ (text from : List ℕ) where
  -- a node read from r on, with these items left
  record Spelt (r : Reader) (n : Node) (rest : List Item) : Type 0 where
    node : Node
    reader : Reader
    left : List Placed
    reads : ReadsNode text r node reader
    same : tree_of text node ≡ tree_of from n
    follow : Follows text reader left
    items : items_of left ≡ rest

  record SpeltAll (r : Reader) (c : Nodes) (rest : List Item) : Type 0 where
    nodes : Nodes
    reader : Reader
    left : List Placed
    reads : ReadsNodes text r nodes reader
    same : trees_of text nodes ≡ trees_of from c
    follow : Follows text reader left
    items : items_of left ≡ rest

  -- the first of the items, read
  record Took (r : Reader) (i : Item) (rest : List Item) : Type 0 where
    offset : ℕ
    reader : Reader
    left : List Placed
    gives : next_item text r ≡ next reader (as_read (placed i offset))
    stands : Stands text (placed i offset)
    follow : Follows text reader left
    items : items_of left ≡ rest

  took : {r : Reader} {ps : List Placed} {i : Item} {rest : List Item} → Follows text r ps → items_of ps ≡ i ∷ rest → Took r i rest
  took (over n f) e = absurd (nil≢cons e)
  took {r} {i} (goes {r' = q} {i = p} {is = ps} n f s t) e =
      let z : p.item ≡ i = head-eq_of_cons-eq e in
      record {
        offset = p.offset;
        reader = q;
        left = ps;
        gives = subst (λ (x : Item). next_item text r ≡ next q (as_read (placed x p.offset))) z n;
        stands = subst (λ (x : Item). Stands text (placed x p.offset)) z s;
        follow = t;
        items = tail-eq_of_cons-eq e;
      }

  atom_spelt : {r : Reader} {w p n : ℕ} {rest : List Item} → Took r (item_atom (part_of from p n)) rest → Spelt r (atom w p n) rest
  unfolding as_read Stands tree_of
  atom_spelt {p} {n} t = record {
    node = atom (kind_at text t.offset (length (part_of from p n))) t.offset (length (part_of from p n));
    reader = t.reader;
    left = t.left;
    reads = one t.gives refl;
    same = ap leaf (part_stands text (part_of from p n) t.offset t.stands);
    follow = t.follow;
    items = t.items;
  }

  list_spelt : {r : Reader} {c : Nodes} {rest : List Item} (t : Took r list_start (row_items from c ++ (list_end ∷ rest))) (a : SpeltAll t.reader c (list_end ∷ rest))
      → Took a.reader list_end rest → Spelt r (list c) rest
  unfolding as_read tree_of
  list_spelt t a e = record {
    node = list a.nodes;
    reader = e.reader;
    left = e.left;
    reads = many t.gives a.reads e.gives;
    same = ap branch a.same;
    follow = e.follow;
    items = e.items;
  }

  then_spelt : {r : Reader} {n : Node} {c : Nodes} {is rest : List Item} (t : Spelt r n is) → SpeltAll t.reader c rest → SpeltAll r (n then c) rest
  unfolding trees_of
  then_spelt t a = record {
    nodes = t.node then a.nodes;
    reader = a.reader;
    left = a.left;
    reads = more t.reads a.reads;
    same = ap₂ (λ (x : Tree) (y : Trees). x also y) t.same a.same;
    follow = a.follow;
    items = a.items;
  }

  mutual
    unfolding node_items row_items trees_of

    spelt : (n : Node) {r : Reader} {ps : List Placed} (rest : List Item) → Follows text r ps → items_of ps ≡ node_items from n ++ rest → Spelt r n rest
    spelt (atom w p k) rest t e = atom_spelt (took t e)
    spelt (list c) rest t e =
        let d = took t (e ∙ ap (λ (l : List Item). list_start ∷ l) (append_assoc (row_items from c) (list_end ∷ []) rest)) in
        let a = spelt_all c (list_end ∷ rest) d.follow d.items in
        list_spelt d a (took a.follow a.items)

    spelt_all : (c : Nodes) {r : Reader} {ps : List Placed} (rest : List Item) → Follows text r ps → items_of ps ≡ row_items from c ++ rest → SpeltAll r c rest
    spelt_all empty rest t e = record { nodes = empty; reader = _; left = _; reads = none; same = refl; follow = t; items = e }
    spelt_all (n then c) rest t e =
        let d = spelt n (row_items from c ++ rest) t (e ∙ append_assoc (node_items from n) (row_items from c) rest) in
        then_spelt d (spelt_all c rest d.follow d.items)

over_ended : {text : List ℕ} {r : Reader} {ps : List Placed} → Follows text r ps → items_of ps ≡ [] → finish_reading text r ≡ ended
over_ended (over n f) e = f
over_ended (goes n f s t) e = absurd (nil≢cons (sym e))

-- a tree written whole, at any threshold, in a blank style, is read as itself
module _ (s : Style) (blank : Blank s) (buffer text : List ℕ) (t : ℕ) (n : Node) (wished : Bool) where
  abbrev calls : List Call
  calls = tree_calls text t n ++ finish_call wished ∷ []

  pub read_again : fits s (length buffer) fresh_serializer calls ≡ true → ReadsAs (text_of (writing s buffer calls)) (tree_of text n)
  unfolding call_items call_item
  read_again h = rw (same_text s buffer calls) (record {
    node = r.node;
    reader = r.reader;
    reads = descent_read (writes s (length buffer) fresh_serializer calls).text r.reads;
    same = r.same;
    ended = over_ended r.follow r.items;
  })
    where
      follow : Follows (writes s (length buffer) fresh_serializer calls).text fresh_reader (writes s (length buffer) fresh_serializer calls).items
      follow = follows s blank (length buffer) calls (finished s (length buffer) (tree_calls text t n) fresh_serializer wished h)

      items : items_of (writes s (length buffer) fresh_serializer calls).items ≡ node_items text n ++ []
      items =
          written_items s (length buffer) calls fresh_serializer h
          ∙ items_append (tree_calls text t n) (finish_call wished ∷ [])
          ∙ ap (λ (l : List Item). l ++ []) (node_items_lem text t n t)

      r : Spelt (writes s (length buffer) fresh_serializer calls).text text fresh_reader n []
      r = spelt (writes s (length buffer) fresh_serializer calls).text text n [] follow items
