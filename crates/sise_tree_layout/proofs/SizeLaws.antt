-- Size first, then the text (document 02, 2.2). For equal inputs the enquiry and the commit are one call; 23 says exactly that 01's checks pass and another
-- answer is due; the three numbers are what is added to the record, in every buffer that holds it.
-- Assumes nothing.
use Prim.Native.Nat.{ℕ, ◌+◌, ◌-◌, ◌≤◌, ◌<◌}
use native.Mathlib.Omega.{arith}
use mathlib.Core.Path.{◌≡◌, refl, sym, ap, ◌∙◌}
use mathlib.Core.Bool.{Bool, true, false, false≢true}
use mathlib.Core.List.{List}
use lib.Dec.{eqb}
use lib.ListN.{length}
use borrow.Author.Tests.{eqb-true, eq-eqb}
use Rattle.sise_util.proofs.Ranges.{split, and_first, and_second}
use Rattle.sise_parser.specs.Refusals.{Refusal}
use Rattle.sise_serializer.specs.Serializer.{Style, fresh_serializer}
use Rattle.sise_serializer.specs.declared.serializer.Serializer.{Serializer}
use Rattle.sise_serializer.specs.Calls.{Call}
use Rattle.sise_tree.specs.Tree.{Node}
use Rattle.sise_tree.specs.Answers.{Answer, answered, refused, refused_with}
use Rattle.sise_tree_writer.specs.SerializeTree.{Writes, refuse, write_tree, serialize_tree, DoesWrite}
use Rattle.sise_tree_writer.specs.Writing.{write_text, IsWritten}
use Rattle.sise_tree_writer.specs.Sizes.{Enquiry, adds, refuses, added, enquiry_by, enquiry, same, commit, commit_tree, commit_text, MeasuresTree, MeasuresText, CommitsTree, CommitsText}
use Rattle.sise_tree_writer.specs.Answers.{TreeWrote}
use Rattle.sise_tree_writer.specs.declared.serialize.WriteTreeError.{WriteTreeError}
use Rattle.sise_tree_writer.specs.declared.size.TreeSize.{TreeSize}
use Rattle.std.specs.Prelude.{Result}
use Rattle.sise_tree_layout.proofs.TreeRooms.{tree_measured}
use Rattle.sise_tree_writer.proofs.Sizes.{tree_grown, never_23, commit_refused, sized, commit_same, commit_changed}

-- ---- two answers are compared as they are

pub same_self : (x : Enquiry) → same x x ≡ true
same_self (adds x y z) = rw (eq-eqb x x refl, eq-eqb y y refl, eq-eqb z z refl)
same_self (refuses n) = eq-eqb n n refl

pub same_one : (x y : Enquiry) → same x y ≡ true → x ≡ y
same_one (adds a b c) (adds x y z) h =
    let more = and_second (eqb a x) _ h in
    ap (λ (n : ℕ). adds n b c) (eqb-true a x (and_first (eqb a x) _ h))
    ∙ ap (λ (n : ℕ). adds x n c) (eqb-true b y (and_first (eqb b y) _ more))
    ∙ ap (adds x y) (eqb-true c z (and_second (eqb b y) _ more))
same_one (adds a b c) (refuses n) h = absurd (false≢true h)
same_one (refuses m) (adds x y z) h = absurd (false≢true h)
same_one (refuses m) (refuses n) h = ap refuses (eqb-true m n h)

pub same_other : (x y : Enquiry) → (x ≡ y → ⊥) → same x y ≡ false
same_other x y f = split (same x y) (λ e. absurd (f (same_one x y e))) (λ e. e)

-- a size is no refusal
no_size : {A : Type 0} {x y z n : ℕ} → refuses n ≡ adds x y z → A
no_size {x = x} {y} {z} {n} e = let o : ◌≡◌ {A = ℕ} 0 1 = cc in absurd (omega arith)

-- nor is a refusal an answer
no_offset : {A : Type 0} {r : Refusal} {o : ℕ} → refused r ≡ answered o → A
no_offset {r = r} {o} e = let z : ◌≡◌ {A = ℕ} 0 1 = cc in absurd (omega arith)

-- ---- what a commit does, where one call does d

module _ (b : List ℕ) (w : Serializer) (d : Writes) where
  -- with the enquiry's answer for the same inputs it is that call: record, answer and buffer
  pub one_call : commit b w d (enquiry w d) ≡ d
  one_call = of d.answer refl
    where
      of : (a : Answer) → d.answer ≡ a → commit b w d (enquiry w d) ≡ d
      of (answered o) e = commit_same b w d (enquiry w d) e (ap (λ (x : Enquiry). same x (added w d.serializer)) (sized b w d (enquiry w d) e) ∙ same_self (added w d.serializer))
      of (refused x) e = commit_refused b w d (enquiry w d) (λ o h. no_offset (sym e ∙ h))

  module _ (given : Enquiry) where
    -- with another one, a refusal too, it is refused with 23 if 01's checks pass, and leaves record and buffer
    pub other_size : IsWritten d → (given ≡ enquiry w d → ⊥) → commit b w d given ≡ refuse 23 b w
    other_size (o, e) f = commit_changed b w d given e (same_other given (added w d.serializer) (λ h. f (h ∙ sym (sized b w d given e))))

    -- 23 is given nowhere else
    pub only_other : (d.answer ≡ refused_with 23 → ⊥) → (commit b w d given).answer ≡ refused_with 23 → IsWritten d × (given ≡ enquiry w d → ⊥)
    only_other never h = of d.answer refl
      where
        changed : (given ≡ enquiry w d → ⊥)
        changed e = never (sym (ap (λ (x : Writes). x.answer) (ap (commit b w d) e ∙ one_call)) ∙ h)

        of : (a : Answer) → d.answer ≡ a → IsWritten d × (given ≡ enquiry w d → ⊥)
        of (answered o) e = ((o, e), changed)
        of (refused x) e = absurd (never (sym (ap (λ (y : Writes). y.answer) (commit_refused b w d given (λ o k. no_offset (sym e ∙ k)))) ∙ h))

    -- what 01 refuses, the commit refuses with the same number, whatever was handed over: so 23 comes after all of 01's checks
    pub refused_first : {n : ℕ} → d.answer ≡ refused_with n → commit b w d given ≡ d
    refused_first e = commit_refused b w d given (λ o h. no_offset (sym e ∙ h))

  -- a refusal that is handed over where the inputs now fit
  pub refusal_given : IsWritten d → (n : ℕ) → commit b w d (refuses n) ≡ refuse 23 b w
  refusal_given (o, e) n = other_size (refuses n) (o, e) (λ h. no_size (h ∙ sized b w d (refuses n) e))

-- ---- of serialize_tree and write_text, which differ in the calls

-- so many bytes, breaks and indents lie between the records w and v
pub record Between (w v : Serializer) (x y z : ℕ) : Type 0 where
  pub bytes : v.position ≡ w.position + x
  pub breaks : v.breaks ≡ w.breaks + y
  pub indents : v.indents ≡ w.indents + z

module _ (s : Style) (b : List ℕ) (w : Serializer) (text words : List ℕ) (calls : Node → List Call) where
  abbrev call : List ℕ → Writes
  call x = write_tree s x w text words calls

  -- 23 exactly where the call is written and the enquiry's answer is another one
  pub is_23 : (given : Enquiry) → (commit b w (call b) given).answer ≡ refused_with 23 → IsWritten (call b) × (given ≡ enquiry w (call b) → ⊥)
  is_23 given h = only_other b w (call b) given (never_23 s b w text words calls) h

  -- a size says that the call is written
  pub written_of : {x y z : ℕ} → enquiry w (call b) ≡ adds x y z → (o : ℕ) × ((call b).answer ≡ answered o) × (added w (call b).serializer ≡ adds x y z)
  written_of {x} {y} {z} e = of (call b).answer refl
    where
      of : (a : Answer) → (call b).answer ≡ a → (o : ℕ) × ((call b).answer ≡ answered o) × (added w (call b).serializer ≡ adds x y z)
      of (answered o) h = (o, h, sym (sized b w (call b) (adds x y z) h) ∙ e)
      of (refused r) h = no_size (sym (ap (λ (a : Answer). enquiry_by a w (call b).serializer) h) ∙ e)

  -- the three numbers are the differences between the records
  pub size_between : {x y z : ℕ} → enquiry w (call b) ≡ adds x y z → Between w (call b).serializer x y z
  size_between {x} {y} {z} e =
      let (o, h, k) = written_of e in
      let g = tree_grown s b w text words calls in
      let v = (call b).serializer in
      let p : v.position - w.position ≡ x = cc in
      let q : v.breaks - w.breaks ≡ y = cc in
      let r : v.indents - w.indents ≡ z = cc in
      record { bytes = omega (arith, g.position); breaks = omega (arith, g.breaks); indents = omega (arith, g.indents) }

  -- where it fits, the size does not depend on the buffer's length
  pub any_room : {x y z : ℕ} → enquiry w (call b) ≡ adds x y z → (b' : List ℕ) → w.position + x ≤ length b' → enquiry w (call b') ≡ adds x y z
  any_room {x} {y} {z} e b' le =
      let (o, h, k) = written_of e in
      let m = tree_measured s w text calls b words b' h in
      let fit : (call b).serializer.position ≤ length b' = omega (arith, (size_between e).bytes) in
      sized b' w (call b') (adds x y z) (m.answer fit ∙ h) ∙ ap (added w) (m.serializer fit) ∙ k

  -- and a shorter buffer is refused with 22
  pub too_short : {x y z : ℕ} → enquiry w (call b) ≡ adds x y z → (b' : List ℕ) → length b' < w.position + x → enquiry w (call b') ≡ refuses 22
  too_short e b' lt =
      let (o, h, k) = written_of e in
      let short : length b' < (call b).serializer.position = omega (arith, (size_between e).bytes) in
      ap (enquiry w) ((tree_measured s w text calls b words b' h).short short)

-- ---- of the programs: what measure_tree answers, handed to commit_tree with a buffer of the length asked for, does what serialize_tree does; and so for whole
-- texts

pub pair_tree : (s : Style) (b : List ℕ) (w : Serializer) (text words : List ℕ) (t : ℕ) (m : Result TreeSize WriteTreeError) {r : TreeWrote} {now : List ℕ}
    → MeasuresTree s (length b) w text words t m → CommitsTree s b w text words t m r now
    → DoesWrite (serialize_tree s b w text words t) r now
pair_tree s b w text words t m h d = rw (ap (commit_tree s b w text words t) (h b refl) ∙ one_call b w (serialize_tree s b w text words t)) at d

pub pair_text : (s : Style) (b text words : List ℕ) (t : ℕ) (wished : Bool) (m : Result TreeSize WriteTreeError) {r : TreeWrote} {now : List ℕ}
    → MeasuresText s (length b) text words t wished m → CommitsText s b text words t wished m r now
    → DoesWrite (write_text s b text words t wished) r now
pair_text s b text words t wished m h d =
    rw (ap (commit_text s b text words t wished) (h b refl) ∙ one_call b fresh_serializer (write_text s b text words t wished)) at d
