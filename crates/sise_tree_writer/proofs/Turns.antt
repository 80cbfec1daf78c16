-- The turns of a walk over a table that holds a tree make the tree's calls, one after the other: at each place the calls left are those of the nodes left
-- in the innermost open list, its end, and what is left of the lists around it.
-- Assumes nothing.
use Prim.Native.Nat.{ℕ, ◌+◌, ◌-◌, ◌*◌, ◌<◌}
use native.Mathlib.Omega.{arith}
use mathlib.Core.Path.{◌≡◌, refl, sym, ◌∙◌}
use mathlib.Core.Bool.{true, false, cond}
use Rattle.std.specs.Prelude.{Option, Some, None, IfSome}
use mathlib.Core.List.{List, [], ◌∷◌, ◌++◌, append_assoc}
use lib.Dec.{eqb}
use lib.ListN.{length}
use borrow.Author.Tests.{ne_eqb}
use Rattle.sise_parser.specs.Reader.{part_of}
use Rattle.sise_serializer.specs.Calls.{largest, Call, put_atom_call, begin_list_call, end_list_call}
use Rattle.sise_tree.specs.Tree.{Node, atom, list, Nodes, empty, ◌then◌, size, sizes, table_at, lies, span}
use Rattle.sise_tree.proofs.TreeLaws.{sits_kind, size_pos, holds_words}
use Rattle.sise_tree.specs.Decision.{decide, is_some}
use Rattle.sise_tree.proofs.LocalLaws.{stands, Held, held}
use Rattle.sise_tree.proofs.WalkLaws.{Around, Walk, walk_root, walk_atom, walk_list, walk_close, walk_ends, walk_within}
use Rattle.sise_tree_writer.specs.SerializeTree.{node_calls, row_calls, tree_calls}
use Rattle.sise_tree_writer.specs.Walking.{IsTurn, NodeIn, AtomIn, Passable, started, left_list, passed, CanTurn, turns_left, Comes, begun, on, turn_call}
use Rattle.sise_tree_writer.specs.declared.walk.Place.{Place}
use Rattle.sise_tree_writer.proofs.Atoms.{node_there, atom_there}
use Rattle.sise_tree_writer.specs.declared.walk.Turn.{Turn}
use Rattle.sise_tree_writer.specs.declared.walk.Turn.TheVariants as turn

-- ---- the calls left

-- the innermost list's nodes, an atom that comes first at the threshold a, then its end, and what is left of the lists around it
unfoldable pub pending : List ℕ → ℕ → ℕ → Nodes → List Nodes → List Call
pending text a t c [] = row_calls text a t c ++ end_list_call ∷ []
pending text a t c (d ∷ o) = row_calls text a t c ++ end_list_call ∷ pending text t t d o

pending_atom : (text : List ℕ) (a t k p m : ℕ) (c : Nodes) (o : List Nodes) → pending text a t (atom k p m then c) o ≡ put_atom_call (part_of text p m) a ∷ pending text t t c o
unfolding pending row_calls node_calls
pending_atom text a t k p m c [] = refl
pending_atom text a t k p m c (d ∷ o) = refl

pending_list : (text : List ℕ) (a t : ℕ) (d c : Nodes) (o : List Nodes) → pending text a t (list d then c) o ≡ begin_list_call t ∷ pending text largest t d (c ∷ o)
unfolding pending row_calls node_calls
pending_list text a t d c [] = simp append_assoc
pending_list text a t d c (b ∷ o) = simp append_assoc

-- ---- where a walk is

-- at a place, with the calls `rest` left: before the first node, or inside it
pub data At (words text : List ℕ) (t : ℕ) (p : Place) (rest : List Call) : Type 0 where
  root : (n : Node) → Held text words n → p ≡ started words → rest ≡ tree_calls text t n → At words text t p rest
  inside : (c : Nodes) (o : List Nodes) → Walk words p.list p.i c o → p.end ≡ p.list + span words p.list → rest ≡ pending text (cond p.begins largest t) t c o → At words text t p rest

-- the same of what is due, if anything is; else no call is left
abbrev pub AtDue : List ℕ → List ℕ → ℕ → Option Place → List Call → Type 0
AtDue words text t None rest = rest ≡ []
AtDue words text t (Some p) rest = At words text t p rest

-- one turn: its call is the first of those left, and the walk goes on with the others
pub record Turned (words text : List ℕ) (t : ℕ) (p : Place) (rest : List Call) (x : Turn) : Type 0 where
  pub more : List Call
  pub due : rest ≡ turn_call x t ∷ more
  pub next : AtDue words text t (passed words p x) more
  pub passable : Passable words p x
  pub within : (p.i ≡ p.end → ⊥) → p.i < span words 0
  pub started : IfSome (passed words p x) (λ q. 0 < q.i)
  pub less : turns_left words (passed words p x) < turns_left words (Some p)

-- the nodes left behind a node that is passed
fewer : (l i : ℕ) → i < l → (1 + l) * (l - i) ≡ 1 + l + (1 + l) * (l - (i + 1))
fewer l i h = let e : l - i ≡ 1 + (l - (i + 1)) = omega arith in rw e (omega arith)

module _ (words text : List ℕ) (t : ℕ) where
  -- the node that is due is one of the first node's
  pub due_within : {p : Place} {rest : List Call} → At words text t p rest → (p.i ≡ p.end → ⊥) → p.i < span words 0
  unfolding sizes
  due_within (root n h e q) f = rw e (omega (arith, h.spans, size_pos n))
  due_within (inside empty o w z q) f = absurd (f (omega (arith, z, w.rest.stop)))
  due_within (inside (n then c) o w z q) f = let bounds = walk_within words (n then c) o w in omega (arith, bounds.1, size_pos n)

  -- where a list ends, a node was passed
  pub end_started : {p : Place} {rest : List Call} → At words text t p rest → p.i ≡ p.end → 0 < p.i
  end_started (root n h e q) z = omega (arith, h.spans, size_pos n, (rw e at z))
  end_started (inside c o w e q) z = omega (arith, (walk_within words c o w).0)

  -- ---- before the first node

  root_turn : (n : Node) → Held text words n → (x : Turn) → IsTurn text words (started words) x → Turned words text t (started words) (tree_calls text t n) x
  unfolding node_calls table_at size pending lies
  root_turn n h turn.End z = absurd (omega (arith, z, h.spans, size_pos n))
  root_turn (atom w m k) h turn.List z = let s = stands words 0 (holds_words h.holds) in absurd (sits_kind text w m k h.holds.in_text (sym s.kinds ∙ z.1))
  root_turn (list c) h turn.List z =
      record {
        more = pending text largest t c [];
        due = refl;
        next = inside c [] (walk_root c h) refl refl;
        passable = omega (arith, h.fits);
        within = due_within (root (list c) h refl refl);
        started = omega arith;
        less = omega (arith, h.fits, fewer (length words) 0);
      }
  root_turn (atom w m k) h (turn.Atom a begins) z =
      let s = stands words 0 (holds_words h.holds) in
      record {
        more = [];
        due = rw (z.2, z.3, s.firsts, s.seconds);
        next = refl;
        passable = omega (arith, h.fits);
        within = due_within (root (atom w m k) h refl refl);
        started = tt;
        less = omega arith;
      }
  root_turn (list c) h (turn.Atom a begins) z = let s = stands words 0 (holds_words h.holds) in absurd (z.1 s.kinds)

  -- ---- inside it

  module _ {p : Place} (ends : p.end ≡ p.list + span words p.list) where
    close_turn : (c : Nodes) (o : List Nodes) → Walk words p.list p.i c o → p.i ≡ p.end → Turned words text t p (pending text (cond p.begins largest t) t c o) turn.End
    unfolding left_list pending row_calls Around
    close_turn c [] w z =
        let none = walk_ends words c [] w (z ∙ ends) in
        let r = w.rest in
        let last : p.list ≡ 0 = w.around in
        record {
          more = [];
          due = rw none;
          next = rw last refl;
          passable = record { listed = omega (arith, r.stop, r.fit, r.behind, r.after); away = λ f. absurd (f last) };
          within = λ f. absurd (f z);
          started = rw last tt;
          less = rw last (omega arith);
        }
    close_turn c (d ∷ o) w z =
        let none = walk_ends words c (d ∷ o) w (z ∙ ends) in
        let r = w.rest in
        let child = w.around.0 in
        let inner : eqb p.list 0 ≡ false = ne_eqb p.list 0 (λ (e : p.list ≡ 0). omega (arith, child.away, child.within)) in
        record {
          more = pending text t t d o;
          due = rw none;
          next = rw inner (inside d o (walk_close words d o (rw none at w)) refl refl);
          passable = record { listed = omega (arith, r.stop, r.fit, r.behind, r.after); away = λ f. child.within };
          within = λ f. absurd (f z);
          started = rw inner (end_started {p = p} (inside c (d ∷ o) w ends refl) z);
          less = rw inner (omega (arith, child.away, child.within));
        }

    inside_turn : (c : Nodes) (o : List Nodes) → Walk words p.list p.i c o → (x : Turn) → IsTurn text words p x → Turned words text t p (pending text (cond p.begins largest t) t c o) x
    unfolding sizes size
    inside_turn c o w turn.End z = close_turn c o w z
    inside_turn empty o w turn.List z = absurd (z.0 (omega (arith, ends, w.rest.stop)))
    inside_turn (atom g m k then c) o w turn.List z = absurd ((walk_atom words g m k c o w).some z.1)
    inside_turn (list d then c) o w turn.List z =
        let s = walk_list words d c o w in
        record {
          more = pending text largest t d (c ∷ o);
          due = pending_list text (cond p.begins largest t) t d c o;
          next = inside d (c ∷ o) s.next refl refl;
          passable = omega (arith, w.rest.fit);
          within = due_within {p = p} (inside (list d then c) o w ends refl);
          started = omega arith;
          less = omega (arith, w.rest.fit, fewer (length words) p.i);
        }
    inside_turn empty o w (turn.Atom a begins) z = absurd (z.0 (omega (arith, ends, w.rest.stop)))
    inside_turn (atom g m k then c) o w (turn.Atom a begins) z =
        let s = walk_atom words g m k c o w in
        let bounds = walk_within words (atom g m k then c) o w in
        let later : eqb p.i 0 ≡ false = ne_eqb p.i 0 (λ (e : p.i ≡ 0). omega (arith, bounds.0)) in
        record {
          more = pending text t t c o;
          due = pending_atom text (cond p.begins largest t) t g m k c o ∙ rw (z.2, z.3, s.places, s.lengths);
          next = rw later (inside c o s.next ends refl);
          passable = omega (arith, w.rest.fit);
          within = due_within {p = p} (inside (atom g m k then c) o w ends refl);
          started = rw later (omega arith);
          less = rw later (omega (arith, w.rest.fit, fewer (length words) p.i));
        }
    inside_turn (list d then c) o w (turn.Atom a begins) z = absurd (z.1 (walk_list words d c o w).kinds)

  -- each turn is made
  pub turned : {p : Place} {rest : List Call} (x : Turn) → At words text t p rest → IsTurn text words p x → Turned words text t p rest x
  turned x (root n h e q) z = rw (e, q) (root_turn n h x (rw e at z))
  turned x (inside c o w e q) z = rw q (inside_turn e c o w x z)

  -- so a walk that goes on is where it makes the calls left
  pub come : is_some (decide text words) ≡ true → {due : Option Place} → Comes text words due → (rest : List Call) × AtDue words text t due rest
  come h begun = let (n, d, i) = held text words h in (tree_calls text t n, root n i refl refl)
  come h (on p x c z) = let (rest, at) = come h c in let m = turned x at z in (m.more, m.next)

-- ---- a walk over a table that holds a tree

module _ {text words : List ℕ} {p : Place} (can : CanTurn text words (Some p)) where
  abbrev here : At words text 0 p (come words text 0 can.0 can.1).0
  here = (come words text 0 can.0 can.1).1

  pub node_in : NodeIn words p
  node_in = λ f. node_there text words can.0 p.i (due_within words text 0 here f)

  pub atom_in : AtomIn text words p
  atom_in = λ f. atom_there text words can.0 p.i (due_within words text 0 here f)

  module _ (x : Turn) (is : IsTurn text words p x) where
    pub may_pass : Passable words p x
    may_pass = (turned words text 0 x here is).passable

    pub nearer : CanTurn text words (passed words p x) × (turns_left words (passed words p x) < turns_left words (Some p))
    nearer = ((can.0, on p x can.1 is), (turned words text 0 x here is).less)
