-- Which tree a table holds, read from its words in order.
-- Assumes nothing.
use Rattle.std.specs.Prelude.{ℕ, zero, suc, ◌+◌, Bool, true, false, List, [], ◌∷◌, eqb, length}
use Rattle.std.proofs.Math.Option.{Option, none, some}
use Rattle.sise_tree.specs.Tree.{Node, atom, list, Nodes, empty, ◌then◌, sizes, sits, second}

-- an answer, if the test holds
unfoldable pub guard : {A : Type 0} → Bool → Option A → Option A
guard true x = x
guard false x = none

-- the next answer, made of the last
unfoldable pub bind : {A B : Type 0} → Option A → (A → Option B) → Option B
bind none f = none
bind (some a) f = f a

unfoldable pub is_some : {A : Type 0} → Option A → Bool
is_some none = false
is_some (some a) = true

-- nodes, and the words after them
pub record Read : Type 0 where
  pub nodes : Nodes
  pub rest : List ℕ

-- a node in front of them
unfoldable pub ahead : Node → Read → Read
ahead n r = record { nodes = n then r.nodes; rest = r.rest }

-- so many nodes from the words on, the first of which stands d nodes behind their parent, over a text; the first number bounds the nodes
unfoldable pub row : ℕ → List ℕ → ℕ → ℕ → List ℕ → Option Read
row zero text d c ws = none
row (suc f) text d zero ws = some (record { nodes = empty; rest = ws })
row (suc f) text d (suc c) [] = none
row (suc f) text d (suc c) (k ∷ []) = none
row (suc f) text d (suc c) (k ∷ a ∷ []) = none
row (suc f) text d (suc c) (k ∷ a ∷ b ∷ []) = none
row (suc f) text d (suc c) (k ∷ a ∷ b ∷ s ∷ ws) =
    elim (eqb k 0) [
      | true ↦
          guard (eqb b d)
          (bind (row f text 1 a ws)
          (λ r. guard (eqb s (1 + sizes r.nodes)) (bind (row f text (d + s) c r.rest) (λ q. some (ahead (list r.nodes) q)))))
      | false ↦ guard (eqb s 1) (guard (sits text k a b) (bind (row f text (d + 1) c ws) (λ r. some (ahead (atom k a b) r))))
    ]

-- the node of a row of one
unfoldable pub only : Nodes → Option Node
only empty = none
only (n then c) = some n

-- the tree that the words hold, over a text: `some n` exactly if they hold n (proofs/DecisionLaws.antt); the first node's third word is compared
-- with itself, and so not looked at
unfoldable pub decide : List ℕ → List ℕ → Option Node
decide text words = bind (row (suc (length words)) text (second words 0) 1 words) (λ r. only r.nodes)
