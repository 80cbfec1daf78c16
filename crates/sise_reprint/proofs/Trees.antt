-- A tree's calls and its number of nodes depend on the tree of bytes alone; equal trees are the same tree; and a text is read as one tree.
-- Assumes nothing.
use Prim.Native.Nat.{ℕ, ◌+◌}
use mathlib.Core.Path.{◌≡◌, refl, sym, ap, ap₂, ◌∙◌, subst}
use mathlib.Core.Bool.{true}
use mathlib.Core.List.{List, [], ◌∷◌, ◌++◌}
use Rattle.sise_serializer.specs.Calls.{largest, Call, put_atom_call, begin_list_call, end_list_call, finish_call}
use Rattle.sise_tree.specs.Tree.{Node, atom, list, Nodes, empty, ◌then◌, size, sizes}
use Rattle.sise_tree.specs.ParseTree.{ReadNode, got, stopped}
use Rattle.sise_tree_writer.specs.SerializeTree.{node_calls, row_calls}
use Rattle.sise_tree_writer.specs.Writing.{text_calls}
use Rattle.sise_tree_writer.specs.Alike.{Tree, leaf, branch, Trees, nothing, ◌also◌, tree_of, trees_of, ReadsAs}
use Rattle.sise_reprint.specs.Equal.{Equal, atoms, lists, Equals, none, more}

-- ---- of a tree of bytes

unfoldable mutual
  -- its calls, as `node_calls` makes them of a node
  pub calls_of : ℕ → ℕ → Tree → List Call
  calls_of a t (leaf b) = put_atom_call b a ∷ []
  calls_of a t (branch c) = begin_list_call t ∷ (calls_of_all largest t c ++ end_list_call ∷ [])

  pub calls_of_all : ℕ → ℕ → Trees → List Call
  calls_of_all a t nothing = []
  calls_of_all a t (x also c) = calls_of a t x ++ calls_of_all t t c

-- with a finish behind them
unfoldable pub whole_calls : ℕ → Tree → List Call
whole_calls t x = calls_of t t x ++ finish_call true ∷ []

unfoldable mutual
  -- its nodes
  pub nodes_in : Tree → ℕ
  nodes_in (leaf b) = 1
  nodes_in (branch c) = 1 + nodes_in_all c

  pub nodes_in_all : Trees → ℕ
  nodes_in_all nothing = 0
  nodes_in_all (x also c) = nodes_in x + nodes_in_all c

module _ (text : List ℕ) where
  mutual
    unfolding calls_of calls_of_all node_calls row_calls tree_of trees_of

    calls_of_lem : (t a : ℕ) (n : Node) → node_calls text a t n ≡ calls_of a t (tree_of text n)
    calls_of_lem t a (atom k p n) = refl
    calls_of_lem t a (list c) = ap (λ (l : List Call). begin_list_call t ∷ (l ++ end_list_call ∷ [])) (calls_of_all_lem t largest c)

    calls_of_all_lem : (t a : ℕ) (c : Nodes) → row_calls text a t c ≡ calls_of_all a t (trees_of text c)
    calls_of_all_lem t a empty = refl
    calls_of_all_lem t a (n then c) = ap₂ (λ (x y : List Call). x ++ y) (calls_of_lem t a n) (calls_of_all_lem t t c)

  mutual
    unfolding nodes_in nodes_in_all size sizes tree_of trees_of

    pub nodes_of : (n : Node) → size n ≡ nodes_in (tree_of text n)
    nodes_of (atom k p n) = refl
    nodes_of (list c) = ap (λ (k : ℕ). 1 + k) (nodes_of_all c)

    nodes_of_all : (c : Nodes) → sizes c ≡ nodes_in_all (trees_of text c)
    nodes_of_all empty = refl
    nodes_of_all (n then c) = ap₂ (λ (k m : ℕ). k + m) (nodes_of n) (nodes_of_all c)

  pub whole_calls_lem : (t : ℕ) (n : Node) → text_calls text t true n ≡ whole_calls t (tree_of text n)
  unfolding text_calls whole_calls
  whole_calls_lem t n = ap (λ (l : List Call). l ++ finish_call true ∷ []) (calls_of_lem t t n)

-- ---- equal trees

mutual
  pub equal_same : {x y : Tree} → Equal x y → x ≡ y
  equal_same (atoms e) = ap leaf e
  equal_same (lists h) = ap branch (equals_same h)

  equals_same : {c d : Trees} → Equals c d → c ≡ d
  equals_same none = refl
  equals_same (more h k) = ap₂ (λ (x : Tree) (c : Trees). x also c) (equal_same h) (equals_same k)

mutual
  equal_self : (x : Tree) → Equal x x
  equal_self (leaf a) = atoms refl
  equal_self (branch c) = lists (equals_self c)

  equals_self : (c : Trees) → Equals c c
  equals_self nothing = none
  equals_self (x also c) = more (equal_self x) (equals_self c)

pub same_equal : {x y : Tree} → x ≡ y → Equal x y
same_equal {x} e = subst (Equal x) e (equal_self x)

-- ---- a text is read as one tree

abbrev node_or : Node → ReadNode → Node
node_or n (got m q) = m
node_or n (stopped e q) = n

pub reads_once : {text : List ℕ} {x y : Tree} → ReadsAs text x → ReadsAs text y → x ≡ y
reads_once {text} r q =
    let n : r.node ≡ q.node = ap (node_or r.node) (sym r.reads ∙ q.reads) in
    sym r.same ∙ ap (tree_of text) n ∙ q.same
