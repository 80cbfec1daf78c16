-- After 11, 17 and 19 no refusal but 22 is left: the first of a tree's calls that is refused, if one is, is refused with 22. For a tree's calls begin
-- and end their lists in pairs, so each is made in a phase that takes it.
-- Assumes nothing.
use Prim.Native.Nat.{ℕ, ◌+◌, ◌-◌, ◌≤◌, ◌<◌, min}
use native.Mathlib.Omega.{arith}
use mathlib.Core.Path.{◌≡◌, refl, sym, ap, ◌∙◌}
use mathlib.Core.Bool.{Bool, true, false, cond, false≢true}
use mathlib.Core.Option.{Option, none, some}
use mathlib.Core.List.{List, [], ◌∷◌, ◌++◌, append_assoc, append-nil}
use lib.Dec.{leb}
use lib.ListN.{length}
use borrow.Author.Tests.{leb-true, leb-false, eqb-true, ne_eqb}
use Rattle.sise_util.specs.Atom.{is_atom}
use Rattle.sise_util.proofs.Ranges.{split, and_first, and_second}
use Rattle.sise_parser.specs.Reader.{part_of}
use Rattle.sise_serializer.specs.Serializer as writer
use Rattle.sise_serializer.specs.Serializer.{Style, Piece, Written, limit, lists_fit, is_sound, fresh_serializer, first_atom, first_list, inner, inner_as, phase_after, close, close_as}
use Rattle.sise_serializer.specs.declared.serializer.Phase.{Phase}
use Rattle.sise_serializer.specs.declared.serializer.Phase.TheVariants.{Beginning, Writing, Finished, Done}
use Rattle.sise_serializer.specs.declared.serializer.Serializer.{Serializer}
use Rattle.sise_serializer.proofs.Sound.{sound, writing_lists}
use Rattle.sise_serializer.specs.Calls.{largest, Call, put_atom_call, begin_list_call, end_list_call, finish_call, step}
use Rattle.sise_serializer.proofs.Verdicts.{end_of, put, Puts, atom_alone, atom_inside, list_first, list_inside, list_closed, text_ended}
use Rattle.sise_tree.specs.Tree.{atoms_hold, atoms_hold_all, Node, atom, list, Nodes, empty, ◌then◌}
use Rattle.sise_tree.specs.Decision.{decide}
use Rattle.sise_tree.specs.Answers.{refused_with}
use Rattle.sise_serializer.specs.Phases.{is_over}
use Rattle.sise_tree_writer.specs.SerializeTree.{node_calls, row_calls, tree_calls, fits, Writes, refuse, written, write_tree, serialize_tree}
use Rattle.sise_tree_writer.specs.Writing.{text_calls}
use Rattle.sise_tree_writer.proofs.CallLaws.{checked_atom, fits_off}
use Rattle.sise_tree_writer.proofs.Placing.{puts_sound, placed, not_placed, puts_place, put_fits}
use Rattle.sise_tree_writer.proofs.Measuring.{no_answer, Tested, fails, passes, tested, same_number, on_answer}
use Rattle.sise_tree_writer.proofs.Finishing.{tree_begun}

-- a refusal's number, or what follows an accepted call
abbrev pub refusal_or : writer.Answer → Option ℕ → Option ℕ
refusal_or (writer.Answer.accepted o) later = later
refusal_or (writer.Answer.refused n) later = some n

-- the number of the first refusal among the calls, made one after the other
unfoldable pub first_refusal : Style → ℕ → Serializer → List Call → Option ℕ
first_refusal s room w [] = none
first_refusal s room w (c ∷ cs) = refusal_or (step s room w c).answer (first_refusal s room (step s room w c).serializer cs)

-- it is none where the calls fit, and else 22
abbrev pub Only22 : Style → ℕ → Serializer → List Call → Type 0
Only22 s room w cs = first_refusal s room w cs ≡ cond (fits s room w cs) none (some 22)

-- ---- a sound record is sound after each item

no : {A : Type 0} → false ≡ true → A
no e = absurd (false≢true e)

-- a sound record in this phase, with so many lists open
record At (f : Phase) (d : ℕ) (w : Serializer) : Type 0 where
  sound : is_sound w ≡ true
  phase : w.phase ≡ f
  lists : w.lists ≡ d

-- the first item
module _ (s : Style) {w : Serializer} (at : At Beginning 0 w) where
  after_first_atom : (a : List ℕ) → is_atom a ≡ true → end_of w (first_atom w a) ≤ limit → At Finished 0 (first_atom w a).after
  unfolding first_atom
  after_first_atom a g e = record {
    sound = puts_sound {s = s} at.sound (atom_alone {t = 0} at.phase g) e;
    phase = refl;
    lists = refl;
  }

  after_first_list : end_of w (first_list w) ≤ limit → At Writing 1 (first_list w).after
  unfolding first_list
  after_first_list e = record {
    sound = puts_sound {s = s} at.sound (list_first {t = 0} at.phase) e;
    phase = refl;
    lists = refl;
  }

-- an item in a list, and a list's end
module _ (s : Style) {d : ℕ} {w : Serializer} (at : At Writing d w) where
  after_atom : (a : List ℕ) (t : ℕ) → is_atom a ≡ true → end_of w (inner s w a false t) ≤ limit → At Writing d (inner s w a false t).after
  unfolding inner inner_as
  after_atom a t g e = record {
    sound = puts_sound {s = s} at.sound (atom_inside {t = t} at.phase g) e;
    phase = refl;
    lists = at.lists;
  }

  after_list : (t : ℕ) → end_of w (inner s w (40 ∷ []) true t) ≤ limit → At Writing (d + 1) (inner s w (40 ∷ []) true t).after
  unfolding inner inner_as
  after_list t e = record {
    sound = puts_sound {s = s} at.sound (list_inside {t = t} at.phase) e;
    phase = refl;
    lists = ap (λ (n : ℕ). n + 1) at.lists;
  }

  after_end : end_of w (close s w) ≤ limit → At (phase_after (d - 1)) (d - 1) (close s w).after
  unfolding close close_as
  after_end e = record {
    sound = puts_sound {s = s} at.sound (list_closed at.phase) e;
    phase = ap (λ (n : ℕ). phase_after (n - 1)) at.lists;
    lists = ap (λ (n : ℕ). n - 1) at.lists;
  }

-- ---- calls of which only 22 is to be feared

module _ (s : Style) (room : ℕ) where
  put_refusal : (w : Serializer) (c : Call) (cs : List Call) (p : Piece) → step s room w c ≡ put w p → first_refusal s room w (c ∷ cs) ≡ first_refusal s room p.after cs
  unfolding first_refusal
  put_refusal w c cs p e = ap (λ (r : Written). refusal_or r.answer (first_refusal s room r.serializer cs)) e

  no_room : (w : Serializer) (c : Call) (cs : List Call) → step s room w c ≡ writer.refuse 22 w → Only22 s room w (c ∷ cs)
  unfolding first_refusal
  no_room w c cs e =
      ap (λ (r : Written). refusal_or r.answer (first_refusal s room r.serializer cs)) e
      ∙ sym (ap (λ (x : Bool). cond x none (some 22)) (fits_off s room w c cs (ap (λ (r : Written). r.answer) e)))

  -- a call that may be made, if only 22 is to be feared of those behind it
  only_on : (w : Serializer) {c : Call} (cs : List Call) {p : Piece} → is_sound w ≡ true → Puts s w c p → (end_of w p ≤ limit → Only22 s room p.after cs) → Only22 s room w (c ∷ cs)
  only_on w {c} cs {p} h q more =
      let is = puts_place s room w h q in
      split (leb (end_of w p) (min room limit))
      (λ e.
      let le = leb-true (end_of w p) (min room limit) e in
      let on = is ∙ placed room w p le in
      put_refusal w c cs p on ∙ more (omega arith) ∙ sym (ap (λ (x : Bool). cond x none (some 22)) (put_fits s room w c cs p on)))
      (λ e. no_room w c cs (is ∙ not_placed room w p (leb-false (end_of w p) (min room limit) e)))

  -- from every sound record in this phase, with so many lists open
  record Takes (f : Phase) (d : ℕ) (cs : List Call) : Type 0 where
    only : (w : Serializer) → At f d w → Only22 s room w cs

  no_calls : {f : Phase} {d : ℕ} → Takes f d []
  unfolding first_refusal fits
  no_calls = record { only = λ w at. refl }

  module _ {cs : List Call} where
    first_atom_lem : (a : List ℕ) (t : ℕ) → is_atom a ≡ true → Takes Finished 0 cs → Takes Beginning 0 (put_atom_call a t ∷ cs)
    first_atom_lem a t g k = record { only = λ w at. only_on w cs at.sound (atom_alone at.phase g) (λ e. k.only _ (after_first_atom s at a g e)) }

    first_list_lem : (t : ℕ) → Takes Writing 1 cs → Takes Beginning 0 (begin_list_call t ∷ cs)
    first_list_lem t k = record { only = λ w at. only_on w cs at.sound (list_first at.phase) (λ e. k.only _ (after_first_list s at e)) }

    an_atom : {d : ℕ} (a : List ℕ) (t : ℕ) → is_atom a ≡ true → Takes Writing d cs → Takes Writing d (put_atom_call a t ∷ cs)
    an_atom a t g k = record { only = λ w at. only_on w cs at.sound (atom_inside at.phase g) (λ e. k.only _ (after_atom s at a t g e)) }

    a_list : {d : ℕ} (t : ℕ) → Takes Writing (d + 1) cs → Takes Writing d (begin_list_call t ∷ cs)
    a_list t k = record { only = λ w at. only_on w cs at.sound (list_inside at.phase) (λ e. k.only _ (after_list s at t e)) }

    an_end : (d : ℕ) → Takes (phase_after (d - 1)) (d - 1) cs → Takes Writing d (end_list_call ∷ cs)
    an_end d k = record { only = λ w at. only_on w cs at.sound (list_closed at.phase) (λ e. k.only _ (after_end s at e)) }

  a_finish : (wished : Bool) → Takes Finished 0 (finish_call wished ∷ [])
  unfolding first_refusal fits
  a_finish wished = record { only = λ w at. only_on w [] at.sound (text_ended at.phase) (λ e. refl) }

  -- ---- a node's calls, before others

  -- a list's end inside another list
  inner_end : {d : ℕ} {cs : List Call} → 0 < d → Takes Writing d cs → Takes Writing (d + 1) (end_list_call ∷ cs)
  unfolding phase_after
  inner_end {d} o k =
      let z : d + 1 - 1 ≡ d = omega arith in
      an_end (d + 1) (rw (z, ne_eqb d 0 (λ e. omega arith)) k)

  outer_end : {cs : List Call} → Takes Finished 0 cs → Takes Writing 1 (end_list_call ∷ cs)
  unfolding phase_after
  outer_end k = an_end 1 k

  module _ (text : List ℕ) (t : ℕ) where
    mutual
      unfolding node_calls row_calls atoms_hold atoms_hold_all

      -- inside a list
      node_takes : (n : Node) (a d : ℕ) (rest : List Call) → atoms_hold text n ≡ true → 0 < d → Takes Writing d rest → Takes Writing d (node_calls text a t n ++ rest)
      node_takes (atom w p m) a d rest h o k = an_atom (part_of text p m) a (checked_atom text p m h) k
      node_takes (list c) a d rest h o k =
          a_list t
          (rw (append_assoc (row_calls text largest t c) (end_list_call ∷ []) rest) (row_takes c largest (d + 1) (end_list_call ∷ rest) h (omega arith) (inner_end o k)))

      row_takes : (c : Nodes) (a d : ℕ) (rest : List Call) → atoms_hold_all text c ≡ true → 0 < d → Takes Writing d rest → Takes Writing d (row_calls text a t c ++ rest)
      row_takes empty a d rest h o k = k
      row_takes (n then c) a d rest h o k =
          rw (append_assoc (node_calls text a t n) (row_calls text t t c) rest)
          (node_takes n a d (row_calls text t t c ++ rest) (and_first (atoms_hold text n) (atoms_hold_all text c) h) o
          (row_takes c t d rest (and_second (atoms_hold text n) (atoms_hold_all text c) h) o k))

    -- as the whole text
    whole_takes : (n : Node) (rest : List Call) → atoms_hold text n ≡ true → Takes Finished 0 rest → Takes Beginning 0 (tree_calls text t n ++ rest)
    unfolding node_calls atoms_hold
    whole_takes (atom w p m) rest h k = first_atom_lem (part_of text p m) t (checked_atom text p m h) k
    whole_takes (list c) rest h k =
        first_list_lem t
        (rw (append_assoc (row_calls text largest t c) (end_list_call ∷ []) rest) (row_takes c largest 1 (end_list_call ∷ rest) h (omega arith) (outer_end k)))

-- ---- the laws

-- of a tree's calls, from a sound record that takes one
module _ (s : Style) (room : ℕ) (w : Serializer) (text : List ℕ) (t : ℕ) (n : Node) where
  tree_in : (f : Phase) → w.phase ≡ f → is_sound w ≡ true → is_over f ≡ false → atoms_hold text n ≡ true → Only22 s room w (tree_calls text t n ++ [])
  tree_in Beginning e h o g =
      let z : w.lists ≡ 0 = eqb-true w.lists 0 (ap (λ (p : Phase). lists_fit p w.lists) (sym e) ∙ (sound w h).checked.opens) in
      (whole_takes s room text t n [] g (no_calls s room)).only w (record { sound = h; phase = e; lists = z })
  tree_in Writing e h o g = (node_takes s room text t n t w.lists [] g (writing_lists w h e) (no_calls s room)).only w (record { sound = h; phase = e; lists = refl })
  tree_in Finished e h o g = no (sym o)
  tree_in Done e h o g = no (sym o)

  pub tree_refusal : is_sound w ≡ true → is_over w.phase ≡ false → atoms_hold text n ≡ true
      → first_refusal s room w (tree_calls text t n) ≡ cond (fits s room w (tree_calls text t n)) none (some 22)
  tree_refusal h o g = rw (append-nil (tree_calls text t n)) at (tree_in w.phase refl h o g)

fresh_at : At Beginning 0 fresh_serializer
unfolding fresh_serializer is_sound
fresh_at = record { sound = refl; phase = refl; lists = refl }

-- of a tree's calls, and of a finish, from a fresh record
pub text_refusal : (s : Style) (room : ℕ) (text : List ℕ) (t : ℕ) (wished : Bool) (n : Node) → atoms_hold text n ≡ true
    → first_refusal s room fresh_serializer (text_calls text t wished n) ≡ cond (fits s room fresh_serializer (text_calls text t wished n)) none (some 22)
unfolding text_calls
text_refusal s room text t wished n g = (whole_takes s room text t n (finish_call wished ∷ []) g (a_finish s room wished)).only fresh_serializer fresh_at

-- ---- what it says of the tree calls

off_number : {k : ℕ} (x : Bool) → cond x none (some 22) ≡ some k → (x ≡ false) × (k ≡ 22)
off_number {k} true e = let z : ◌≡◌ {A = ℕ} 0 1 = cc in absurd (omega arith)
off_number {k} false e = (refl, cc)

-- what is refused for its room has the number of the first refusal, which is 22
pub refused_first : (s : Style) (b : List ℕ) (w : Serializer) (cs : List Call) {k : ℕ} → Only22 s (length b) w cs → first_refusal s (length b) w cs ≡ some k
    → (k ≡ 22) × (written s b w cs ≡ refuse k b w)
unfolding written
refused_first s b w cs only e = let (f, z) = off_number (fits s (length b) w cs) (sym only ∙ e) in (z, rw (f, z))

-- calls that are some, and of which only 22 is to be feared once the tests are passed
module _ (s : Style) (b : List ℕ) (w : Serializer) (text : List ℕ) (calls : Node → List Call) (begun : (n : Node) → (c : Call) × (cs : List Call) × (calls n ≡ c ∷ cs))
    (only : (n : Node) → is_sound w ≡ true → is_over w.phase ≡ false → atoms_hold text n ≡ true → Only22 s (length b) w (calls n)) where
  made_22 : (n : Node) → Only22 s (length b) w (calls n) → (written s b w (calls n)).answer ≡ refused_with 22 → first_refusal s (length b) w (calls n) ≡ some 22
  made_22 n o h =
      let (c, cs, e) = begun n in
      split (fits s (length b) w (calls n))
      (λ f. let (p, a) = on_answer s b w c cs (rw e at f) in no_answer (sym h ∙ ap (λ (l : List Call). (written s b w l).answer) e ∙ a))
      (λ f. o ∙ ap (λ (x : Bool). cond x none (some 22)) f)

  answer_22 : (words : List ℕ) → (write_tree s b w text words calls).answer ≡ refused_with 22
      → (n : Node) × (decide text words ≡ some n) × (first_refusal s (length b) w (calls n) ≡ some 22)
  answer_22 words e = of (tested s w text words)
    where
      of : Tested s w text words → (n : Node) × (decide text words ≡ some n) × (first_refusal s (length b) w (calls n) ≡ some 22)
      of (fails k lt q) = let z = same_number (sym (ap (λ (x : Writes). x.answer) (q b calls)) ∙ e) in absurd (omega arith)
      of (passes n d a h v q) = (n, d, made_22 n (only n h v a) (sym (ap (λ (x : Writes). x.answer) (q b calls)) ∙ e))

text_begun : (text : List ℕ) (t : ℕ) (wished : Bool) (n : Node) → (c : Call) × (cs : List Call) × (text_calls text t wished n ≡ c ∷ cs)
unfolding text_calls
text_begun text t wished n = let (c, cs, e) = tree_begun text t n in (c, cs ++ finish_call wished ∷ [], ap (λ (l : List Call). l ++ finish_call wished ∷ []) e)

-- serialize_tree answers 22 only if the first of the tree's calls that is refused is refused with 22
pub tree_22 : (s : Style) (b : List ℕ) (w : Serializer) (text words : List ℕ) (t : ℕ) → (serialize_tree s b w text words t).answer ≡ refused_with 22
    → (n : Node) × (decide text words ≡ some n) × (first_refusal s (length b) w (tree_calls text t n) ≡ some 22)
unfolding serialize_tree
tree_22 s b w text words t = answer_22 s b w text (tree_calls text t) (tree_begun text t) (λ n. tree_refusal s (length b) w text t n) words

-- and so does write_text
pub text_22 : (s : Style) (b text words : List ℕ) (t : ℕ) (wished : Bool) → (write_tree s b fresh_serializer text words (text_calls text t wished)).answer ≡ refused_with 22
    → (n : Node) × (decide text words ≡ some n) × (first_refusal s (length b) fresh_serializer (text_calls text t wished n) ≡ some 22)
text_22 s b text words t wished =
    answer_22 s b fresh_serializer text (text_calls text t wished) (text_begun text t wished) (λ n h o g. text_refusal s (length b) text t wished n g) words
