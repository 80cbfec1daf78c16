-- Naming the threshold 0 gives what the house call gave while its threshold was 0, refusals too; and what an accepted house call writes is what the
-- writer's own calls write, made one after the other from a fresh record.
-- Assumes nothing.
use Prim.Native.Nat.{ℕ}
use mathlib.Core.Path.{◌≡◌, refl, ap}
use mathlib.Core.Bool.{true}
use mathlib.Core.Option.{some}
use mathlib.Core.List.{List, [], ◌∷◌, ◌++◌}
use Rattle.sise_serializer.specs.Serializer.{style, fresh_serializer}
use Rattle.sise_serializer.specs.Calls.{finish_call, writing}
use Rattle.sise_tree.specs.Tree.{Node}
use Rattle.sise_tree.specs.Decision.{decide}
use Rattle.sise_tree.specs.Answers.{answered}
use Rattle.sise_tree_writer.specs.SerializeTree.{tree_calls, Writes, write_tree}
use Rattle.sise_tree_writer.specs.Writing.{text_calls}
use Rattle.sise_tree_writer.specs.House.{house_style, house_at}
use Rattle.sise_tree_writer.proofs.Measuring.{tree_accepted}

-- the house call as document 01 has it, "LF, two spaces, threshold 0, final break": the tree's calls at 0, and a finish with a break
pub at_0 : (buffer text words : List ℕ)
    → house_at 0 buffer text words ≡ write_tree (style (10 ∷ []) (32 ∷ 32 ∷ [])) buffer fresh_serializer text words (λ n. tree_calls text 0 n ++ finish_call true ∷ [])
unfolding house_at house_style text_calls
at_0 buffer text words = refl

-- at every threshold
pub by_calls : (t : ℕ) (buffer text words : List ℕ) {o : ℕ} → (house_at t buffer text words).answer ≡ answered o
    → (n : Node) × (decide text words ≡ some n) × ((house_at t buffer text words).buffer ≡ (writing house_style buffer (tree_calls text t n ++ finish_call true ∷ [])).buffer)
unfolding house_at text_calls
by_calls t buffer text words h =
    let k = tree_accepted house_style buffer fresh_serializer text words (text_calls text t true) h in
    (k.node, k.decided, ap (λ (d : Writes). d.buffer) k.same)
