-- The bytes of an enquiry are those of demand 3's length formula for what is added: each item pays for its own, and a tree closes every list that it opens.
-- Assumes nothing.
use Prim.Native.Nat.{ℕ, ◌+◌, ◌-◌, ◌*◌, ◌≤◌}
use native.Mathlib.Omega.{arith}
use mathlib.Core.Path.{◌≡◌, refl, sym, ap, ◌∙◌}
use mathlib.Core.Bool.{Bool, true}
use mathlib.Core.Option.{some}
use mathlib.Core.List.{List, [], ◌∷◌, ◌++◌, append_assoc, append-nil}
use lib.ListN.{length, length-append}
use Rattle.sise_parser.specs.Reader.{part_of}
use Rattle.sise_serializer.specs.Bytes.{pasted}
use Rattle.sise_serializer.specs.Serializer.{Style, Piece, Written, is_sound, fresh_serializer, first_atom, first_list, inner, inner_as, close, close_as}
use Rattle.sise_serializer.specs.declared.serializer.Serializer.{Serializer}
use Rattle.sise_serializer.specs.Calls.{largest, Call, put_atom_call, begin_list_call, end_list_call, finish_call, Placed, items_of, step, run}
use Rattle.sise_serializer.proofs.Sound.{sound}
use Rattle.sise_serializer.proofs.Kept.{atom_bytes_lem, sound_kept}
use Rattle.sise_serializer.proofs.Verdicts.{end_of, Puts, atom_alone, atom_inside, list_first, list_inside, list_closed, text_ended, Verdict, refuses, puts, verdict}
use Rattle.sise_layout.specs.Texts.{atom_bytes, lists}
use Rattle.sise_layout.proofs.Written.{writes}
use Rattle.sise_layout.proofs.Buffers.{tied}
use Rattle.sise_layout.proofs.Lengths.{bytes_of, counts}
use Rattle.sise_tree.specs.Tree.{Node, atom, list, Nodes, empty, ◌then◌}
use Rattle.sise_tree.specs.Decision.{decide}
use Rattle.sise_tree_writer.specs.SerializeTree.{node_calls, row_calls, tree_calls, fits, refuse, write_tree, serialize_tree}
use Rattle.sise_tree_writer.specs.Writing.{text_calls, write_text, IsWritten}
use Rattle.sise_tree_writer.specs.Walking.{after}
use Rattle.sise_tree_writer.specs.Sizes.{adds, enquiry, commit_text}
use Rattle.sise_tree_writer.proofs.CallLaws.{fits_first, run_after, lists_after, accepted_lists}
use Rattle.sise_tree_writer.proofs.Placing.{puts_end, lands_put, fits_lands}
use Rattle.sise_tree_writer.proofs.Measuring.{tree_accepted}
use Rattle.sise_tree_writer.proofs.Sizes.{run_grown}
use Rattle.sise_tree_layout.proofs.SizeLaws.{other_size, written_of, size_between}

-- ---- the open lists

-- the lists that are open after calls that are all accepted
unfoldable through : List Call → ℕ → ℕ
through [] n = n
through (c ∷ cs) n = through cs (lists_after c n)

through_lists : (s : Style) (room : ℕ) (cs : List Call) (w : Serializer) → is_sound w ≡ true → fits s room w cs ≡ true → (after s room w cs).lists ≡ through cs w.lists
unfolding after through
through_lists s room [] w h f = refl
through_lists s room (c ∷ cs) w h f =
    let (o, e, more) = fits_first s room w c cs f in
    through_lists s room cs (step s room w c).serializer (sound_kept s room w c h) more ∙ ap (through cs) (accepted_lists s room w h c e)

-- a tree's calls leave as many as there were
module _ (text : List ℕ) (t : ℕ) where
  mutual
    unfolding node_calls row_calls through

    node_through : (n : Node) (a : ℕ) (rest : List Call) (m : ℕ) → through (node_calls text a t n ++ rest) m ≡ through rest m
    node_through (atom k p l) a rest m = refl
    node_through (list c) a rest m =
        let z : m + 1 - 1 ≡ m = omega arith in
        ap (λ (l : List Call). through l (m + 1)) (append_assoc (row_calls text largest t c) (end_list_call ∷ []) rest)
        ∙ row_through c largest (end_list_call ∷ rest) (m + 1)
        ∙ ap (through rest) z

    row_through : (c : Nodes) (a : ℕ) (rest : List Call) (m : ℕ) → through (row_calls text a t c ++ rest) m ≡ through rest m
    row_through empty a rest m = refl
    row_through (n then c) a rest m =
        ap (λ (l : List Call). through l m) (append_assoc (node_calls text a t n) (row_calls text t t c) rest)
        ∙ node_through n a (row_calls text t t c ++ rest) m
        ∙ row_through c t rest m

tree_through : (text : List ℕ) (t : ℕ) (n : Node) (m : ℕ) → through (tree_calls text t n) m ≡ m
unfolding through
tree_through text t n m = ap (λ (l : List Call). through l m) (sym (append-nil (tree_calls text t n))) ∙ node_through text t n t [] m

text_through : (text : List ℕ) (t : ℕ) (wished : Bool) (n : Node) (m : ℕ) → through (text_calls text t wished n) m ≡ m
unfolding text_calls through
text_through text t wished n m = node_through text t n t (finish_call wished ∷ []) m

-- ---- the bytes

step_long : {s : Style} {room : ℕ} {w : Serializer} {c : Call} {r : Written} → Verdict s room w c r → r.serializer.position ≡ w.position + length r.bytes
step_long (refuses n u) = omega arith
step_long (puts p q f) = puts_end q ∙ omega (arith, length-append p.layout p.token)

writes_long : (s : Style) (room : ℕ) (cs : List Call) (w : Serializer) → (writes s room w cs).last.position ≡ w.position + length (writes s room w cs).text
unfolding writes
writes_long s room [] w = omega arith
writes_long s room (c ∷ cs) w =
    let r = step s room w c in
    omega (arith, writes_long s room cs r.serializer, step_long (verdict s room w c), length-append r.bytes (writes s room r.serializer cs).text)

-- "atom bytes + 2 × lists + spaces + breaks × line_break length + indents × indentation length", where v came after w, with so many breaks and indents between
abbrev pub length_added : Style → Serializer → Serializer → List Placed → ℕ → ℕ → ℕ
length_added s w v items breaks indents =
    atom_bytes (items_of items) + 2 * lists (items_of items) + (v.spaces - w.spaces) + breaks * length s.line_break + indents * length s.indentation

-- as many times as there were, and as many more
times_more : (a n k m : ℕ) → a ≡ n + k → a * m ≡ n * m + k * m
times_more a n k m e = ap (λ (x : ℕ). x * m) e ∙ omega arith

module _ (s : Style) (b : List ℕ) (w : Serializer) (cs : List Call) (h : is_sound w ≡ true) (f : fits s (length b) w cs ≡ true) (keeps : through cs w.lists ≡ w.lists) where
  abbrev v : Serializer
  v = (run s b w cs).last

  run_counted : v.position + (w.spaces + w.breaks * length s.line_break + w.indents * length s.indentation)
      ≡ w.position + bytes_of (run s b w cs).items + (v.spaces + v.breaks * length s.line_break + v.indents * length s.indentation)
  run_counted =
      let k = tied s cs b w in
      let c = counts s (length b) cs w (sound w h) in
      let same : v.lists ≡ w.lists = ap (λ (x : Serializer). x.lists) (run_after s w cs b f) ∙ through_lists s (length b) cs w h f ∙ keeps in
      rw (k.last, k.items) (omega (arith, c, writes_long s (length b) cs w, rw k.last at same))

-- of serialize_tree and write_text, which differ in the calls
module _ (s : Style) (b : List ℕ) (w : Serializer) (text words : List ℕ) (calls : Node → List Call) (keeps : (n : Node) (m : ℕ) → through (calls n) m ≡ m) where
  tree_length : {x y z : ℕ} → enquiry w (write_tree s b w text words calls) ≡ adds x y z
      → (n : Node) × (decide text words ≡ some n) × (x ≡ length_added s w (write_tree s b w text words calls).serializer (run s b w (calls n)).items y z)
  tree_length {x} {y} {z} e =
      let (o, a, d) = written_of s b w text words calls e in
      let k = tree_accepted s b w text words calls a in
      let n = k.node in
      let g = run_grown s (calls n) b w in
      let i = rw k.same at (size_between s b w text words calls e) in
      let v = (run s b w (calls n)).last in (
        n,
        k.decided,
        rw k.same
            (omega (arith, run_counted s b w (calls n) k.sound k.fit (keeps n w.lists), g.spaces, i.bytes, times_more v.breaks w.breaks y (length s.line_break) i.breaks, times_more v.indents w.indents z (length s.indentation) i.indents)),
      )

-- the size of a tree, in any record
pub size_length : (s : Style) (b : List ℕ) (w : Serializer) (text words : List ℕ) (t : ℕ) {x y z : ℕ} → enquiry w (serialize_tree s b w text words t) ≡ adds x y z
    → (n : Node) × (decide text words ≡ some n) × (x ≡ length_added s w (serialize_tree s b w text words t).serializer (run s b w (tree_calls text t n)).items y z)
unfolding serialize_tree
size_length s b w text words t e = tree_length s b w text words (tree_calls text t) (tree_through text t) e

-- and of a whole text
pub text_length : (s : Style) (b text words : List ℕ) (t : ℕ) (wished : Bool) {x y z : ℕ} → enquiry fresh_serializer (write_text s b text words t wished) ≡ adds x y z
    → (n : Node) × (decide text words ≡ some n) × (x ≡ length_added s fresh_serializer (write_text s b text words t wished).serializer (run s b fresh_serializer (text_calls text t wished n)).items y z)
text_length s b text words t wished e = tree_length s b fresh_serializer text words (text_calls text t wished) (text_through text t wished) e

-- ---- no tree takes no byte, so no bytes, breaks and indents at all are never a size

token_some : {s : Style} {w : Serializer} {c : Call} {p : Piece} → ((wished : Bool) → c ≡ finish_call wished → ⊥) → Puts s w c p → 1 ≤ length p.token
unfolding first_atom first_list inner inner_as close close_as
token_some f (atom_alone {a = a} e h) = atom_bytes_lem a h
token_some f (atom_inside {a = a} e h) = atom_bytes_lem a h
token_some f (list_first e) = omega arith
token_some f (list_inside e) = omega arith
token_some f (list_closed e) = omega arith
token_some f (text_ended {wished = wished} e) = absurd (f wished refl)

first_some : (s : Style) (b : List ℕ) (w : Serializer) (c : Call) (cs : List Call) → ((wished : Bool) → c ≡ finish_call wished → ⊥) → fits s (length b) w (c ∷ cs) ≡ true
    → w.position + 1 ≤ (run s b w (c ∷ cs)).last.position
unfolding run
first_some s b w c cs item f =
    let k = fits_lands s (length b) w c cs f in
    let r = step s (length b) w c in
    let at : r.serializer.position ≡ end_of w k.piece = ap (λ (x : Written). x.serializer.position) (lands_put k) ∙ puts_end k.puts in
    omega (arith, at, token_some item k.puts, (run_grown s cs (pasted b w.position r.bytes) r.serializer).position)

-- a tree's first call is an item
first_item_lem : (text : List ℕ) (t : ℕ) (n : Node) → (c : Call) × (cs : List Call) × (tree_calls text t n ≡ c ∷ cs) × ((wished : Bool) → c ≡ finish_call wished → ⊥)
unfolding node_calls
first_item_lem text t (atom k p m) = (put_atom_call (part_of text p m) t, [], refl, λ wished e. not_atom e)
  where
    not_atom : {a : List ℕ} {u : ℕ} {wished : Bool} → put_atom_call a u ≡ finish_call wished → ⊥
    not_atom {a} {u} {wished} e = let z : ◌≡◌ {A = ℕ} 0 1 = cc in omega arith
first_item_lem text t (list c) = (begin_list_call t, row_calls text largest t c ++ end_list_call ∷ [], refl, λ wished e. not_list e)
  where
    not_list : {u : ℕ} {wished : Bool} → begin_list_call u ≡ finish_call wished → ⊥
    not_list {u} {wished} e = let z : ◌≡◌ {A = ℕ} 0 1 = cc in omega arith

-- of serialize_tree and write_text: calls that begin with a tree's
module _ (s : Style) (b : List ℕ) (w : Serializer) (text words : List ℕ) (t : ℕ) (more : List Call) where
  pub some_bytes : {x y z : ℕ} → enquiry w (write_tree s b w text words (λ n. tree_calls text t n ++ more)) ≡ adds x y z → 1 ≤ x
  some_bytes e =
      let calls : Node → List Call = λ n. tree_calls text t n ++ more in
      let (o, a, d) = written_of s b w text words calls e in
      let k = tree_accepted s b w text words calls a in
      let (c, cs, z, item) = first_item_lem text t k.node in
      let i = rw k.same at (size_between s b w text words calls e) in
      let is : calls k.node ≡ c ∷ (cs ++ more) = ap (λ (l : List Call). l ++ more) z in
      let up : w.position + 1 ≤ (run s b w (calls k.node)).last.position = rw is (first_some s b w c (cs ++ more) item (rw is at k.fit)) in
      omega (arith, i.bytes, up)

-- so with no bytes, as the words that a refused enquiry leaves, no whole text is committed
pub no_bytes : (s : Style) (b text words : List ℕ) (t : ℕ) (wished : Bool) → IsWritten (write_text s b text words t wished) → (y z : ℕ)
    → commit_text s b text words t wished (adds 0 y z) ≡ refuse 23 b fresh_serializer
unfolding text_calls
no_bytes s b text words t wished k y z =
    other_size b fresh_serializer (write_text s b text words t wished) (adds 0 y z) k
    (λ e. let one = some_bytes s b fresh_serializer text words t (finish_call wished ∷ []) (sym e) in omega arith)
