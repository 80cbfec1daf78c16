-- A tree call that answers an offset may be written: its calls fit, and what is written of them is what the call leaves in the buffer.
-- Assumes nothing.
use Prim.Native.Nat.{ℕ, ◌+◌, ◌≤◌}
use mathlib.Core.Path.{◌≡◌, sym, ap, ◌∙◌}
use mathlib.Core.Bool.{Bool}
use mathlib.Core.Option.{some-injective}
use mathlib.Core.List.{List}
use Rattle.std.specs.Prelude.{Option, Some, None}
use lib.ListN.{length}
use Rattle.sise_serializer.specs.Bytes.{pasted}
use Rattle.sise_serializer.specs.Serializer.{Style}
use Rattle.sise_serializer.specs.Parts.{break_bytes}
use Rattle.sise_serializer.specs.declared.serializer.Serializer.{Serializer}
use Rattle.sise_tree.specs.Answers.{answered}
use Rattle.sise_tree_writer.specs.SerializeTree.{tree_calls, Writes, write_tree}
use Rattle.sise_tree_writer.specs.Writing.{text_calls, calls_of}
use Rattle.sise_tree_writer.specs.Walking.{Writable, WritesNodes}
use Rattle.sise_tree_writer.proofs.Measuring.{Accepted, tree_accepted, accepted_checked}
use Rattle.sise_tree_writer.proofs.Finishing.{text_tree, text_room, text_written}

module _ (s : Style) (b : List ℕ) (w : Serializer) (text words : List ℕ) (t : ℕ) where
  -- a tree
  module _ {o : ℕ} (e : (write_tree s b w text words (tree_calls text t)).answer ≡ answered o) where
    tree_taken : Accepted s b w text words (tree_calls text t)
    tree_taken = tree_accepted s b w text words (tree_calls text t) e

    pub tree_writable : Writable s b w text words t
    tree_writable = record {
      walkable = record { sound = tree_taken.sound; checked = accepted_checked tree_taken };
      fit = λ n d. rw (some-injective _ _ (sym d ∙ tree_taken.decided)) tree_taken.fit;
    }

    pub tree_made : {r : ℕ} {now : List ℕ} → WritesNodes s b w text words t r now → now ≡ (write_tree s b w text words (tree_calls text t)).buffer
    tree_made m = m.buffer tree_taken.node tree_taken.decided ∙ sym (ap (λ (d : Writes). d.buffer) tree_taken.same)

  -- a tree, and the finish behind it
  module _ (wished : Bool) {o : ℕ} (e : (write_tree s b w text words (text_calls text t wished)).answer ≡ answered o) where
    text_taken : Accepted s b w text words (text_calls text t wished)
    text_taken = tree_accepted s b w text words (text_calls text t wished) e

    pub text_writable : Writable s b w text words t
    text_writable = record {
      walkable = record { sound = text_taken.sound; checked = accepted_checked text_taken };
      fit = λ n d. rw (some-injective _ _ (sym d ∙ text_taken.decided)) (text_tree _ _ _ _ _ _ _ text_taken.fit);
    }

    module _ {at : ℕ} {mid : List ℕ} (m : WritesNodes s b w text words t at mid) where
      pub text_ends : at + length (break_bytes wished s.line_break) ≤ length b
      unfolding text_calls
      text_ends =
          rw (m.end text_taken.node text_taken.decided)
          (text_room s b w (tree_calls text t text_taken.node) wished text_taken.fit)

      pub text_made : {now : List ℕ} → now ≡ pasted mid at (break_bytes wished s.line_break) → now ≡ (write_tree s b w text words (text_calls text t wished)).buffer
      unfolding text_calls
      text_made q =
          text_written s b w (tree_calls text t text_taken.node) wished text_taken.fit (m.end text_taken.node text_taken.decided)
          (m.buffer text_taken.node text_taken.decided) q
          ∙ sym (ap (λ (d : Writes). d.buffer) text_taken.same)

  -- either
  pub writable : (finish : Option Bool) {o : ℕ} → (write_tree s b w text words (calls_of text t finish)).answer ≡ answered o → Writable s b w text words t
  writable None e = tree_writable e
  writable (Some wished) e = text_writable wished e
