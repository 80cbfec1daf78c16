-- What calls over a record's words leave.
-- Assumes nothing.
use Prim.Native.Nat.{ℕ}
use mathlib.Core.Path.{◌≡◌, refl, sym, ap, ◌∙◌}
use mathlib.Core.Bool.{Bool, true, false, false≢true}
use mathlib.Core.List.{List, [], ◌∷◌}
use lib.ListN.{length}
use Rattle.sise_util.proofs.Ranges.{split}
use Rattle.sise_parser.specs.Refusals.{Refusal}
use Rattle.sise_parser.specs.Reader.{next_item, finish_reading}
use Rattle.sise_parser.specs.declared.reader.Reader.{Reader}
use Rattle.sise_serializer.specs.Bytes.{pasted}
use Rattle.sise_serializer.specs.Calls.{Call, step}
use Rattle.sise_serializer.specs.Serializer.{Style, Written}
use Rattle.sise_serializer.specs.declared.serializer.Serializer.{Serializer}
use Rattle.sise_serializer.proofs.Bytes.{pasted_none}
use Rattle.sise_serializer.proofs.Verdicts.{Verdict, refuses, puts, verdict}
use Rattle.sise_tree.specs.Answers.{Answer, answered, refused}
use Rattle.sise_tree.specs.ParseTree.{parse_tree}
use Rattle.sise_tree.specs.Tree.{Node, atom, list}
use Rattle.sise_tree_writer.specs.SerializeTree.{node_calls, tree_calls, fits, Writes, refuse, written, write_tree, serialize_tree}
use Rattle.sise_tree_writer.proofs.Measuring.{on_answer, written_off, Tested, fails, passes, tested}
use Rattle.std.specs.Prelude.{Option, None, Some}
use Rattle.sise_c.specs.Records.{reader_words, serializer_of, serializer_words}
use Rattle.sise_c.specs.Singly.{stands, next_by, next_of, ending_answer, finish_by, finish_of, leaves, call_by, call_on, tree_stands, next_tree_by, next_tree_of, tree_leaves, put_tree_by, put_tree_of}
use Rattle.sise_c.proofs.RecordLaws.{reader_kept, writer_kept, writer_words}

-- ---- a refused call leaves the words and the buffer: the record that it hands back is the one that it was given, and it has no bytes

abbrev is_refused : Answer → Bool
is_refused (answered n) = false
is_refused (refused e) = true

written_nothing : (buf : List ℕ) {s : Style} {room : ℕ} {w : Serializer} {c : Call} {d : Written} → Verdict s room w c d → {x : Refusal} → (leaves buf w d).answer ≡ refused x
    → (d.serializer ≡ w) × (d.bytes ≡ [])
written_nothing buf (refuses n u) e = (refl, refl)
written_nothing buf (puts p o q) e = absurd (false≢true (ap is_refused e))

pub refused_stays : (c : Call) (s : Style) (ws buf : List ℕ) → length ws ≡ 9 → {x : Refusal} → (call_on c s ws buf).answer ≡ refused x
    → ((call_on c s ws buf).words ≡ ws) × ((call_on c s ws buf).buffer ≡ buf)
unfolding call_on call_by
refused_stays c s ws buf n {x} h = go (serializer_of ws) refl h
  where
    go : (o : Option Serializer) → serializer_of ws ≡ o → (call_by c s ws buf o).answer ≡ refused x → ((call_by c s ws buf o).words ≡ ws) × ((call_by c s ws buf o).buffer ≡ buf)
    go None e r = (refl, refl)
    go (Some w) e r =
        let t = written_nothing buf (verdict s (length buf) w c) r in
        (ap serializer_words t.0 ∙ writer_words ws n e, ap (pasted buf w.position) t.1 ∙ pasted_none buf w.position)

-- the same of a tree: its calls are one or more, and so their writing has an answer where they fit
module _ (s : Style) (buf : List ℕ) (w : Serializer) where
  written_stays : (c : Call) (cs : List Call) {x : Refusal} → (written s buf w (c ∷ cs)).answer ≡ refused x → written s buf w (c ∷ cs) ≡ refuse 22 buf w
  written_stays c cs h =
      split (fits s (length buf) w (c ∷ cs))
      (λ f. let (o, e) = on_answer s buf w c cs f in absurd (false≢true (ap is_refused (sym e ∙ h))))
      (written_off s buf w (c ∷ cs))

module _ (s : Style) (buf : List ℕ) (w : Serializer) (text table : List ℕ) (t : ℕ) where
  node_stays : (n : Node) {x : Refusal} → (written s buf w (tree_calls text t n)).answer ≡ refused x → written s buf w (tree_calls text t n) ≡ refuse 22 buf w
  unfolding node_calls
  node_stays (atom k p n) h = written_stays s buf w _ _ h
  node_stays (list c) h = written_stays s buf w _ _ h

  tree_stays : {x : Refusal} → (serialize_tree s buf w text table t).answer ≡ refused x → (k : ℕ) × (serialize_tree s buf w text table t ≡ refuse k buf w)
  unfolding serialize_tree
  tree_stays {x} h = of (tested s w text table)
    where
      of : Tested s w text table → (k : ℕ) × (write_tree s buf w text table (tree_calls text t) ≡ refuse k buf w)
      of (fails k lt q) = (k, q buf (tree_calls text t))
      of (passes n d a f v q) = let z = q buf (tree_calls text t) in (22, z ∙ node_stays n (sym (ap (λ (y : Writes). y.answer) z) ∙ h))

pub refused_tree_stays : (s : Style) (ws buf text table : List ℕ) (t : ℕ) → length ws ≡ 9 → {x : Refusal} → (put_tree_of s ws buf text table t).answer ≡ refused x
    → ((put_tree_of s ws buf text table t).words ≡ ws) × ((put_tree_of s ws buf text table t).buffer ≡ buf)
unfolding put_tree_of put_tree_by
refused_tree_stays s ws buf text table t n {x} h = go (serializer_of ws) refl h
  where
    go : (o : Option Serializer) → serializer_of ws ≡ o → (put_tree_by s ws buf text table t o).answer ≡ refused x
        → ((put_tree_by s ws buf text table t o).words ≡ ws) × ((put_tree_by s ws buf text table t o).buffer ≡ buf)
    go None e r = (refl, refl)
    go (Some w) e r =
        let (k, z) = tree_stays s buf w text table t r in
        (ap (λ (d : Writes). serializer_words d.serializer) z ∙ writer_words ws n e, ap (λ (d : Writes). d.buffer) z)

-- ---- calls over the words of a record are calls over the record, so a list of calls gives over words what it gives over records

pub next_kept : (text : List ℕ) (r : Reader) → next_of text (reader_words r) ≡ stands (next_item text r)
unfolding next_of next_by
next_kept text r = ap (next_by text (reader_words r)) (reader_kept r)

pub finish_kept : (text : List ℕ) (r : Reader) → finish_of text (reader_words r) ≡ ending_answer (finish_reading text r)
unfolding finish_of finish_by
finish_kept text r = ap (finish_by text) (reader_kept r)

pub call_kept : (c : Call) (s : Style) (w : Serializer) (buf : List ℕ) → call_on c s (serializer_words w) buf ≡ leaves buf w (step s (length buf) w c)
unfolding call_on call_by
call_kept c s w buf = ap (call_by c s (serializer_words w) buf) (writer_kept w)

pub next_tree_kept : (text : List ℕ) (r : Reader) (table : List ℕ) → next_tree_of text (reader_words r) table ≡ tree_stands (parse_tree text r table)
unfolding next_tree_of next_tree_by
next_tree_kept text r table = ap (next_tree_by text (reader_words r) table) (reader_kept r)

pub put_tree_kept : (s : Style) (w : Serializer) (buf text table : List ℕ) (t : ℕ)
    → put_tree_of s (serializer_words w) buf text table t ≡ tree_leaves (serialize_tree s buf w text table t)
unfolding put_tree_of put_tree_by
put_tree_kept s w buf text table t = ap (put_tree_by s (serializer_words w) buf text table t) (writer_kept w)
