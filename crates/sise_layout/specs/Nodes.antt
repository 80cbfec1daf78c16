-- One node (document 01: "the items spell exactly one node: an atom, or a list start, its nodes if any, and its list end").
-- Assumes nothing.
use Rattle.std.specs.Prelude.{ℕ, List, [], ◌∷◌, ◌++◌}
use Rattle.sise_serializer.specs.Calls.{Item, atom, list_start, list_end}

mutual
  pub data Node : List Item → Type 0 where
    leaf : (a : List ℕ) → Node (atom a ∷ [])
    list : {is : List Item} → Nodes is → Node (list_start ∷ (is ++ list_end ∷ []))

  pub data Nodes : List Item → Type 0 where
    none : Nodes []
    more : {is js : List Item} → Node is → Nodes js → Nodes (is ++ js)
