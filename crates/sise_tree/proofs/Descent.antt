-- Reading item after item with lists open is recursive descent: read_node gives a node exactly if a descent reads it.
-- Assumes nothing.
use Prim.Native.Nat.{ℕ, suc}
use mathlib.Core.Path.{◌≡◌, refl, sym, ap, ◌∙◌, subst}
use mathlib.Core.List.{List}
use lib.ListN.{length}
use Rattle.sise_parser.specs.Reader.{item, next, next_item}
use Rattle.sise_parser.specs.declared.reader.Reader.{Reader}
use Rattle.sise_parser.specs.declared.reader.ParsedItem.{ParsedItem}
use Rattle.sise_parser.specs.declared.reader.ParsedItem.TheVariants.{Atom, ListStart, ListEnd}
use Rattle.sise_tree.specs.Tree.{Node, atom, Nodes, empty, ◌then◌}
use Rattle.sise_tree.specs.ParseTree.{Frames, top, ◌▹◌, Stage, inside, whole, closes, snoc, attach, close, turn, got, read_stage, read_node}
use Rattle.sise_tree.specs.Filling.{reader_of}
use Rattle.sise_tree.specs.Descent.{ReadsNode, one, many, ReadsNodes, none, more}
use Rattle.sise_tree.proofs.ReadSteps.{node_in, read_on, read_item, Leads, leads}

-- these children, and then those
unfoldable join : Nodes → Nodes → Nodes
join empty d = d
join (n then c) d = n then join c d

join_empty : (c : Nodes) → join c empty ≡ c
unfolding join
join_empty empty = refl
join_empty (n then c) = ap (λ (d : Nodes). n then d) (join_empty c)

join_snoc : (c : Nodes) (n : Node) (d : Nodes) → join (snoc c n) d ≡ join c (n then d)
unfolding join snoc
join_snoc empty n d = refl
join_snoc (m then c) n d = ap (λ (d : Nodes). m then d) (join_snoc c n d)

module _ (text : List ℕ) where
  -- what a descent reads is read with any lists open
  mutual
    unfolding turn attach close read_stage join

    node_read : {r q : Reader} {n : Node} → ReadsNode text r n q → (f : Frames) → read_on text r f ≡ read_stage (read_on text q) q (attach f n)
    node_read {r} {q} (one {p = p} {n = m} e k) f = read_item text r f e ∙ ap (λ (w : ℕ). read_stage (read_on text q) q (attach f (atom w p m))) (sym k)
    node_read {r} (many {t = t} {c = c} e d z) f = read_item text r f e ∙ nodes_read d f empty ∙ read_item text t (f ▹ c) z

    nodes_read : {r q : Reader} {c : Nodes} → ReadsNodes text r c q → (f : Frames) (d : Nodes) → read_on text r (f ▹ d) ≡ read_on text q (f ▹ join d c)
    nodes_read {r} none f d = ap (λ (c : Nodes). read_on text r (f ▹ c)) (sym (join_empty d))
    nodes_read {q = q} (more {n = n} {c = c} h k) f d =
        node_read h (f ▹ d) ∙ nodes_read k f (snoc d n) ∙ ap (λ (c : Nodes). read_on text q (f ▹ c)) (join_snoc d n c)

  pub descent_read : {r q : Reader} {n : Node} → ReadsNode text r n q → read_node text r ≡ got n q
  unfolding read_node attach read_stage
  descent_read d = node_read d top

  -- so a descent reads one node only
  pub descent_once : {r q p : Reader} {n m : Node} → ReadsNode text r n q → ReadsNode text r m p → (n ≡ m) × (q ≡ p)
  descent_once {n = n} d e = let z = sym (descent_read d) ∙ descent_read e in (ap (node_in n) z, ap reader_of z)

  -- the other way: the open lists are those of a descent that is on its way
  snoc_reads : {r s q : Reader} {c : Nodes} {n : Node} → ReadsNodes text r c s → ReadsNode text s n q → ReadsNodes text r (snoc c n) q
  unfolding snoc
  snoc_reads none h = more h none
  snoc_reads (more k l) h = more k (snoc_reads l h)

  module _ (r₀ : Reader) where
    abbrev Opened : Frames → Reader → Type 0
    Opened top r = r ≡ r₀
    Opened (f ▹ c) r = (s : Reader) × (t : Reader) × (p : ℕ) × Opened f s × (next_item text s ≡ next t (item (ListStart p))) × ReadsNodes text t c r

    abbrev OpenedIn : Stage → Reader → Type 0
    OpenedIn (inside f) r = Opened f r
    OpenedIn (whole n) r = ReadsNode text r₀ n r
    OpenedIn (closes p) r = Unit {0}

    attach_opened : (f : Frames) {s q : Reader} {n : Node} → Opened f s → ReadsNode text s n q → OpenedIn (attach f n) q
    unfolding attach
    attach_opened top {q = q} {n = n} o h = subst (λ (r : Reader). ReadsNode text r n q) o h
    attach_opened (f ▹ c) (s, t, p, o, e, l) h = (s, t, p, o, e, snoc_reads l h)

    turn_opened : (f : Frames) (i : ParsedItem) (r : Reader) {q : Reader} → Opened f r → next_item text r ≡ next q (item i) → OpenedIn (turn text f i) q
    unfolding turn close
    turn_opened f (Atom p n) r o e = attach_opened f o (one e refl)
    turn_opened f (ListStart p) r {q} o e = (r, q, p, o, e, none)
    turn_opened top (ListEnd p) r o e = tt
    turn_opened (f ▹ c) (ListEnd p) r (s, t, b, o, d, l) e = attach_opened f o (many d l e)

    opened_leads : {n : Node} {q : Reader} → Leads text n q (λ f r. Opened f r → ReadsNode text r₀ n q)
    opened_leads {q = q} =
        record {
          ended = λ f r i e t o. subst (λ (s : Stage). OpenedIn s q) t (turn_opened f i r o e);
          went = λ f g r s i e t h o. h (subst (λ (z : Stage). OpenedIn z s) t (turn_opened f i r o e));
        }

    pub read_descent : {n : Node} {q : Reader} → read_node text r₀ ≡ got n q → ReadsNode text r₀ n q
    unfolding read_node
    read_descent h = leads text opened_leads (suc (length text)) top r₀ h refl
