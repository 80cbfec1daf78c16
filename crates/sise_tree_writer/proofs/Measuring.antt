-- From the answers of a walk, and of the checks before it, to what the tree calls promise.
-- Assumes nothing.
use Prim.Native.Nat.{ℕ, ◌+◌, ◌≤◌, ◌<◌}
use native.Mathlib.Omega.{arith}
use mathlib.Core.Path.{◌≡◌, refl, sym, ap, ◌∙◌}
use mathlib.Core.Bool.{true, false, false≢true}
use mathlib.Core.Option.{Option as Maybe, none, some, some-injective}
use Rattle.std.specs.Prelude.{Result, Ok, Err}
use mathlib.Core.List.{List, [], ◌∷◌}
use lib.Dec.{ltb}
use lib.ListN.{length}
use borrow.Author.Tests.{lt-ltb, le-ltb, ltb-false}
use Rattle.sise_util.proofs.Ranges.{split}
use Rattle.sise_serializer.specs.Serializer as writer
use Rattle.sise_serializer.specs.Serializer.{Style, is_sound}
use Rattle.sise_serializer.specs.declared.serializer.Serializer.{Serializer}
use Rattle.sise_serializer.specs.Parts.{wrote_of}
use Rattle.sise_serializer.specs.Calls.{Call, step, run}
use Rattle.sise_tree.specs.Tree.{Node, atoms_hold}
use Rattle.sise_tree.specs.Decision.{decide, is_some}
use Rattle.sise_tree.specs.ParseTree.{longest}
use Rattle.sise_tree.specs.Answers.{answered, refused_with, number_of}
use Rattle.sise_tree.proofs.LocalLaws as local
use Rattle.sise_tree.specs.Held.{held_as}
use Rattle.sise_tree.specs.declared.tree.TableError.{TableError}
use Rattle.sise_tree.specs.declared.tree.TableError.TheVariants as table
use Rattle.sise_tree.proofs.HeldLaws.{flawed_held, none_held}
use Rattle.sise_tree_writer.specs.Answers.{error_number, refusal_of}
use Rattle.sise_serializer.specs.Phases.{is_over}
use Rattle.sise_tree_writer.specs.SerializeTree.{fits, Writes, refuse, first_offset, written, write_node, write_tree, DoesMeasure}
use Rattle.sise_tree_writer.specs.Writing.{Checked}
use Rattle.sise_tree_writer.specs.Walking.{after, first_answer, Finds, all, off}
use Rattle.sise_serializer.specs.declared.serializer.Placed.{Placed}
use Rattle.sise_tree_writer.specs.declared.serialize.WriteTreeError.{WriteTreeError}
use Rattle.sise_tree_writer.specs.declared.serialize.WriteTreeError.TheVariants.{NotATree, InvalidAtom, NoRoom}
use Rattle.sise_tree_writer.specs.Answers.{TreeWrote}
use Rattle.sise_tree_writer.proofs.CallLaws.{fits_first, run_after}
use Rattle.sise_tree_writer.proofs.Placing.{fits_lands, lands_answers}

-- a refusal is no answer
pub no_answer : {A : Type 0} {n o : ℕ} → refused_with n ≡ answered o → A
no_answer {n = n} {o} e = let z : ◌≡◌ {A = ℕ} 0 1 = cc in absurd (omega arith)

pub same_number : {n k : ℕ} → refused_with n ≡ refused_with k → n ≡ k
same_number e = ap number_of e

-- a refusal leaves the record; whatever the buffer is
pub refused_measures : (b : List ℕ) (w : Serializer) {n : ℕ} (e : WriteTreeError) → error_number e ≡ n → DoesMeasure (refuse n b w) (record { serializer = w; answer = Err e })
refused_measures b w e q = record { serializer = refl; answer = ap refused_with q }

-- ---- the checks, in their order

none_decided : (l words : List ℕ) → is_some (decide l words) ≡ false → decide l words ≡ none
unfolding is_some
none_decided l words h = of (decide l words) h
  where
    of : (d : Maybe Node) → is_some d ≡ false → d ≡ none
    of none e = refl
    of (some n) e = absurd (false≢true (sym e))

module _ (s : Style) (b : List ℕ) (w : Serializer) (text words : List ℕ) (calls : Node → List Call) where
  pub tree_long : longest < length text → write_tree s b w text words calls ≡ refuse 13 b w
  unfolding write_tree
  tree_long h = rw (lt-ltb longest (length text) h)

  module _ (short : length text ≤ longest) where
    pub tree_unsound : is_sound w ≡ false → write_tree s b w text words calls ≡ refuse 11 b w
    unfolding write_tree
    tree_unsound h = rw (le-ltb longest (length text) short, h)

    module _ (fine : is_sound w ≡ true) where
      decided : {d : Maybe Node} → decide text words ≡ d → write_tree s b w text words calls ≡ write_node s b w text calls d
      unfolding write_tree
      decided e = rw (le-ltb longest (length text) short, fine) (ap (write_node s b w text calls) e)

      pub tree_none : is_some (decide text words) ≡ false → write_tree s b w text words calls ≡ refuse 15 b w
      unfolding write_node
      tree_none h = decided (none_decided text words h)

      module _ {n : Node} (d : decide text words ≡ some n) where
        pub tree_atoms : atoms_hold text n ≡ false → write_tree s b w text words calls ≡ refuse 17 b w
        unfolding write_node
        tree_atoms h = decided d ∙ rw h

        pub tree_over : atoms_hold text n ≡ true → is_over w.phase ≡ true → write_tree s b w text words calls ≡ refuse 19 b w
        unfolding write_node
        tree_over h o = decided d ∙ rw (h, o)

      pub tree_in : write_tree s b w text words calls ≡ write_node s b w text calls (decide text words)
      tree_in = decided refl

  -- once the tests are passed, the tree that the table holds decides
  pub node_checked : Checked text words → is_over w.phase ≡ false → {r : TreeWrote}
      → ((n : Node) → decide text words ≡ some n → DoesMeasure (written s b w (calls n)) r)
      → DoesMeasure (write_node s b w text calls (decide text words)) r
  unfolding write_node
  node_checked k o f = let (n, d, h) = local.held text words k.holds in rw (d, k.atoms n d, o) (f n d)

-- the table holds no tree of atoms: 15 or 17
pub unheld_measures : (s : Style) (b : List ℕ) (w : Serializer) (text words : List ℕ) (calls : Node → List Call) → length text ≤ longest → is_sound w ≡ true
    → (e : TableError) → Err e ≡ held_as text (decide text words)
    → DoesMeasure (write_tree s b w text words calls) (record { serializer = w; answer = Err (refusal_of e) })
unheld_measures s b w text words calls short fine table.NoAtom e =
    let (n, d, a) = flawed_held text (decide text words) e refl in
    rw (tree_atoms s b w text words calls short fine d a) (refused_measures b w InvalidAtom refl)
unheld_measures s b w text words calls short fine table.NotATree e =
    rw (tree_none s b w text words calls short fine (none_held text (decide text words) e refl)) (refused_measures b w NotATree refl)

-- a tree call is refused before its calls are made, with 11 to 19, whatever they are and whatever the buffer is; or it comes to what they write
pub data Tested (s : Style) (w : Serializer) (text words : List ℕ) : Type 0 where
  fails : (k : ℕ) → k < 22 → ((b : List ℕ) (calls : Node → List Call) → write_tree s b w text words calls ≡ refuse k b w) → Tested s w text words
  passes : (n : Node) → decide text words ≡ some n → atoms_hold text n ≡ true → is_sound w ≡ true → is_over w.phase ≡ false
      → ((b : List ℕ) (calls : Node → List Call) → write_tree s b w text words calls ≡ written s b w (calls n)) → Tested s w text words

module _ (s : Style) (w : Serializer) (text words : List ℕ) where
  node_tested : length text ≤ longest → is_sound w ≡ true → (d : Maybe Node) → decide text words ≡ d → Tested s w text words
  unfolding write_tree write_node
  node_tested short f none d = fails 15 (omega arith) (λ b calls. rw (le-ltb longest (length text) short, f, d))
  node_tested short f (some n) d =
      let e = le-ltb longest (length text) short in
      split (atoms_hold text n)
      (λ a. split (is_over w.phase) (λ v. fails 19 (omega arith) (λ b calls. rw (e, f, d, a, v))) (λ v. passes n d a f v (λ b calls. rw (e, f, d, a, v))))
      (λ a. fails 17 (omega arith) (λ b calls. rw (e, f, d, a)))

  pub tested : Tested s w text words
  unfolding write_tree
  tested =
      split (ltb longest (length text)) (λ e. fails 13 (omega arith) (λ b calls. rw e))
      (λ e.
      split (is_sound w) (λ f. node_tested (ltb-false longest (length text) e) f (decide text words) refl)
      (λ f. fails 11 (omega arith) (λ b calls. rw (e, f))))

-- ---- the calls

pub first_offset_lem : (s : Style) (b : List ℕ) (w : Serializer) (cs : List Call) {o : ℕ} → first_answer s (length b) w cs ≡ writer.Answer.accepted o
    → first_offset (run s b w cs).answers ≡ answered o
unfolding first_answer run
first_offset_lem s b w [] h = let z : ◌≡◌ {A = ℕ} 0 1 = cc in absurd (omega arith)
first_offset_lem s b w (c ∷ cs) h = rw h

pub offset_first : (s : Style) (b : List ℕ) (w : Serializer) (cs : List Call) {o : ℕ} → first_offset (run s b w cs).answers ≡ answered o
    → first_answer s (length b) w cs ≡ writer.Answer.accepted o
unfolding first_answer run
offset_first s b w [] h = no_answer h
offset_first s b w (c ∷ cs) {o} h = of (step s (length b) w c).answer refl
  where
    of : (a : writer.Answer) → (step s (length b) w c).answer ≡ a → (step s (length b) w c).answer ≡ writer.Answer.accepted o
    of (writer.Answer.accepted x) e = let z : answered x ≡ answered o = (rw e at h) in let y : x ≡ o = cc in e ∙ ap writer.Answer.accepted y
    of (writer.Answer.refused n) e = no_answer (rw e at h)

-- what calls leave that all fit
abbrev pub left : Style → List ℕ → Serializer → List Call → Writes
left s b w cs = record { serializer = (run s b w cs).last; answer = first_offset (run s b w cs).answers; buffer = (run s b w cs).buffer }

-- calls that fit, or do not
module _ (s : Style) (b : List ℕ) (w : Serializer) (cs : List Call) where
  pub written_on : fits s (length b) w cs ≡ true
      → written s b w cs ≡ left s b w cs
  unfolding written
  written_on f = rw f

  pub written_off : fits s (length b) w cs ≡ false → written s b w cs ≡ refuse 22 b w
  unfolding written
  written_off f = rw f

  pub fits_measures : {o : ℕ} → fits s (length b) w cs ≡ true → first_answer s (length b) w cs ≡ writer.Answer.accepted o
      → DoesMeasure (written s b w cs) (record { serializer = after s (length b) w cs; answer = Ok o })
  fits_measures f a = rw (written_on f) (record { serializer = sym (run_after s w cs b f); answer = sym (first_offset_lem s b w cs a) })

-- what a walk finds in room bytes is what holds of a buffer of so many bytes
module _ {s : Style} {room : ℕ} {w : Serializer} {cs : List Call} (b : List ℕ) (long : length b ≡ room) where
  pub found : {m : Result Placed WriteTreeError} → Finds s room w cs m → DoesMeasure (written s b w cs) (wrote_of w m)
  found (all f a) = rw (← long) (fits_measures s b w cs (rw long f) (rw long a))
  found (off f) = rw (written_off s b w cs (rw long f)) (refused_measures b w NoRoom refl)

-- ---- what a tree call's answer says

module _ (s : Style) (b : List ℕ) (w : Serializer) where
  -- without an answer the buffer is as it was
  none_made : (cs : List Call) → fits s (length b) w cs ≡ true → ((o : ℕ) → first_offset (run s b w cs).answers ≡ answered o → ⊥) → (run s b w cs).buffer ≡ b
  unfolding run
  none_made [] y g = refl
  none_made (c ∷ cs) y g = let (o, e, more) = fits_first s (length b) w c cs y in absurd (g o (rw e))

  written_kept : (cs : List Call) → ((o : ℕ) → (written s b w cs).answer ≡ answered o → ⊥) → (written s b w cs).buffer ≡ b
  written_kept cs f =
      split (fits s (length b) w cs)
      (λ y.
      let on = written_on s b w cs y in
      ap (λ (d : Writes). d.buffer) on ∙ none_made cs y (λ o e. f o (ap (λ (d : Writes). d.answer) on ∙ e)))
      (λ y. ap (λ (d : Writes). d.buffer) (written_off s b w cs y))

  module _ (text words : List ℕ) (calls : Node → List Call) where
    pub tree_kept : ((o : ℕ) → (write_tree s b w text words calls).answer ≡ answered o → ⊥) → (write_tree s b w text words calls).buffer ≡ b
    tree_kept f = of (tested s w text words)
      where
        of : Tested s w text words → (write_tree s b w text words calls).buffer ≡ b
        of (fails k lt q) = ap (λ (d : Writes). d.buffer) (q b calls)
        of (passes n d a h v q) = ap (λ (d : Writes). d.buffer) (q b calls) ∙ written_kept (calls n) (λ o e. f o (ap (λ (d : Writes). d.answer) (q b calls) ∙ e))

    -- an answer says that all tests were passed, and that the calls fit and are made
    pub record Accepted : Type 0 where
      pub node : Node
      pub decided : decide text words ≡ some node
      pub atoms : atoms_hold text node ≡ true
      pub sound : is_sound w ≡ true
      pub fit : fits s (length b) w (calls node) ≡ true
      -- in each buffer, and with other calls too
      pub made : (x : List ℕ) (others : Node → List Call) → write_tree s x w text words others ≡ written s x w (others node)
      pub same : write_tree s b w text words calls ≡ left s b w (calls node)

    pub tree_accepted : {o : ℕ} → (write_tree s b w text words calls).answer ≡ answered o → Accepted
    tree_accepted {o} e = of (tested s w text words)
      where
        of : Tested s w text words → Accepted
        of (fails k lt q) = no_answer (sym (ap (λ (d : Writes). d.answer) (q b calls)) ∙ e)
        of (passes n d a h v q) =
            split (fits s (length b) w (calls n))
            (λ y. record { node = n; decided = d; atoms = a; sound = h; fit = y; made = q; same = q b calls ∙ written_on s b w (calls n) y })
            (λ y. no_answer (sym (ap (λ (d : Writes). d.answer) (q b calls ∙ written_off s b w (calls n) y)) ∙ e))

-- the table of an accepted call was checked
pub accepted_checked : {s : Style} {b : List ℕ} {w : Serializer} {text words : List ℕ} {calls : Node → List Call} → Accepted s b w text words calls → Checked text words
unfolding is_some
accepted_checked k = record { holds = ap is_some k.decided; atoms = λ m e. rw (some-injective _ _ (sym e ∙ k.decided)) k.atoms }

module _ (s : Style) (b : List ℕ) (w : Serializer) where
  -- calls that fit answer an offset
  pub on_answer : (c : Call) (cs : List Call) → fits s (length b) w (c ∷ cs) ≡ true → (o : ℕ) × ((written s b w (c ∷ cs)).answer ≡ answered o)
  on_answer c cs f =
      let k = fits_lands s (length b) w c cs f in
      (w.position + length k.piece.layout, ap (λ (x : Writes). x.answer) (written_on s b w (c ∷ cs) f) ∙ ap first_offset (lands_answers s b w c k cs))
