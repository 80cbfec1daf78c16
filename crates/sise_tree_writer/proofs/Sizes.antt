-- What a tree would add: the counts of the record only go up, one call never answers 23, and so the differences between two records are a size.
-- Assumes nothing.
use Prim.Native.Nat.{ℕ}
use native.Mathlib.Omega.{arith}
use mathlib.Core.Path.{◌≡◌, refl, sym, ap, ◌∙◌}
use mathlib.Core.Bool.{Bool, true, false}
use Rattle.std.specs.Prelude.{Err}
use mathlib.Core.List.{List, [], ◌∷◌}
use lib.ListN.{length}
use Rattle.sise_util.proofs.Ranges.{split}
use Rattle.sise_serializer.specs.Bytes.{pasted}
use Rattle.sise_serializer.specs.Serializer.{Style, Piece, Written, Gap, new_line, nothing, space, gap_at, laid, first_atom, first_list, inner, inner_as, close, close_as, last}
use Rattle.sise_serializer.specs.declared.serializer.Serializer.{Serializer}
use Rattle.sise_serializer.specs.Calls.{Call, step, run}
use Rattle.sise_serializer.proofs.Verdicts.{Puts, atom_alone, atom_inside, list_first, list_inside, list_closed, text_ended, Verdict, refuses, puts, verdict}
use Rattle.sise_tree.specs.Tree.{Node}
use Rattle.sise_tree.specs.Answers.{Answer, answered, refused, refused_with}
use Rattle.sise_tree_writer.specs.Answers.{put_as}
use Rattle.sise_tree_writer.specs.SerializeTree.{fits, Writes, refuse, written, write_tree, DoesWrite, DoesMeasure}
use Rattle.sise_tree_writer.specs.Sizes.{Enquiry, added, enquiry_by, enquiry, same, commit, Grown}
use Rattle.sise_tree_writer.specs.declared.serialize.WriteTreeError.TheVariants.{SizeChanged}
use Rattle.sise_tree_writer.specs.Answers.{TreeWrote}
use Rattle.sise_tree_writer.proofs.Measuring.{no_answer, written_on, written_off, Tested, fails, passes, tested, same_number, on_answer}

-- ---- the counts go up

grown_not : (w : Serializer) → Grown w w
grown_not w = record { position = omega arith; spaces = omega arith; breaks = omega arith; indents = omega arith }

grown_on : {u v w : Serializer} → Grown u v → Grown v w → Grown u w
grown_on a b = record {
  position = omega (arith, a.position, b.position);
  spaces = omega (arith, a.spaces, b.spaces);
  breaks = omega (arith, a.breaks, b.breaks);
  indents = omega (arith, a.indents, b.indents);
}

module _ (s : Style) (w : Serializer) where
  inner_grown : (token : List ℕ) (isList : Bool) (g : Gap) → Grown w (inner_as s w token isList g).after
  unfolding inner_as laid
  inner_grown token isList new_line = record { position = omega arith; spaces = omega arith; breaks = omega arith; indents = omega arith }
  inner_grown token isList nothing = record { position = omega arith; spaces = omega arith; breaks = omega arith; indents = omega arith }
  inner_grown token isList space = record { position = omega arith; spaces = omega arith; breaks = omega arith; indents = omega arith }

  close_grown : (b : Bool) → Grown w (close_as s w b).after
  unfolding close_as
  close_grown true = record { position = omega arith; spaces = omega arith; breaks = omega arith; indents = omega arith }
  close_grown false = record { position = omega arith; spaces = omega arith; breaks = omega arith; indents = omega arith }

  last-grown : (wished : Bool) → Grown w (last s w wished).after
  unfolding last
  last-grown true = record { position = omega arith; spaces = omega arith; breaks = omega arith; indents = omega arith }
  last-grown false = record { position = omega arith; spaces = omega arith; breaks = omega arith; indents = omega arith }

  puts_grown : {c : Call} {p : Piece} → Puts s w c p → Grown w p.after
  unfolding first_atom first_list inner close
  puts_grown (atom_alone e f) = record { position = omega arith; spaces = omega arith; breaks = omega arith; indents = omega arith }
  puts_grown (atom_inside {a = a} {t = t} e f) = inner_grown a false (gap_at w t)
  puts_grown (list_first e) = record { position = omega arith; spaces = omega arith; breaks = omega arith; indents = omega arith }
  puts_grown (list_inside {t = t} e) = inner_grown (40 ∷ []) true (gap_at w t)
  puts_grown (list_closed e) = close_grown _
  puts_grown (text_ended {wished = wished} e) = last-grown wished

  verdict_grown : {room : ℕ} {c : Call} {r : Written} → Verdict s room w c r → Grown w r.serializer
  verdict_grown (refuses n u) = grown_not w
  verdict_grown (puts p q f) = puts_grown q

-- over calls, accepted or not
pub run_grown : (s : Style) (cs : List Call) (b : List ℕ) (w : Serializer) → Grown w (run s b w cs).last
unfolding run
run_grown s [] b w = grown_not w
run_grown s (c ∷ cs) b w =
    let r = step s (length b) w c in
    grown_on (verdict_grown s w (verdict s (length b) w c)) (run_grown s cs (pasted b w.position r.bytes) r.serializer)

module _ (s : Style) (b : List ℕ) (w : Serializer) where
  written_grown : (cs : List Call) → Grown w (written s b w cs).serializer
  written_grown cs =
      split (fits s (length b) w cs)
      (λ f. rw (written_on s b w cs f) (run_grown s cs b w))
      (λ f. rw (written_off s b w cs f) (grown_not w))

  -- ---- 23 is no answer of one call

  written_unsized : (cs : List Call) → (written s b w cs).answer ≡ refused_with 23 → ⊥
  written_unsized [] h = unfold written fits run in let z = same_number h in absurd (omega arith)
  written_unsized (c ∷ cs) h =
      split (fits s (length b) w (c ∷ cs))
      (λ f. let (o, e) = on_answer s b w c cs f in no_answer (sym h ∙ e))
      (λ f. let z = same_number (sym (ap (λ (d : Writes). d.answer) (written_off s b w (c ∷ cs) f)) ∙ h) in absurd (omega arith))

  module _ (text words : List ℕ) (calls : Node → List Call) where
    pub tree_grown : Grown w (write_tree s b w text words calls).serializer
    tree_grown = of (tested s w text words)
      where
        of : Tested s w text words → Grown w (write_tree s b w text words calls).serializer
        of (fails k lt q) = rw (q b calls) (grown_not w)
        of (passes n d a h v q) = rw (q b calls) (written_grown (calls n))

    pub never_23 : (write_tree s b w text words calls).answer ≡ refused_with 23 → ⊥
    never_23 e = of (tested s w text words)
      where
        of : Tested s w text words → ⊥
        of (fails k lt q) = let z = same_number (sym (ap (λ (d : Writes). d.answer) (q b calls)) ∙ e) in omega arith
        of (passes n d a h v q) = written_unsized (calls n) (sym (ap (λ (d : Writes). d.answer) (q b calls)) ∙ e)

    pub measured_grown : {r : TreeWrote} → DoesMeasure (write_tree s b w text words calls) r → Grown w r.serializer
    measured_grown m = rw m.serializer tree_grown

-- ---- enquiry and commit

-- what a plan says is what the enquiry answers
pub planned_enquiry : {d : Writes} {r : TreeWrote} (w : Serializer) → DoesMeasure d r → enquiry_by (put_as r.answer) w r.serializer ≡ enquiry w d
planned_enquiry {d} {r} w m = ap (λ (a : Answer). enquiry_by a w r.serializer) m.answer ∙ ap (enquiry_by d.answer w) m.serializer

module _ (b : List ℕ) (w : Serializer) (d : Writes) (given : Enquiry) where
  -- a refusal of 01 stays
  pub commit_refused : ((o : ℕ) → d.answer ≡ answered o → ⊥) → commit b w d given ≡ d
  unfolding commit
  commit_refused f = of d.answer refl
    where
      of : (a : Answer) → d.answer ≡ a → commit b w d given ≡ d
      of (answered o) e = absurd (f o e)
      of (refused x) e = rw (e, commit)

  module _ {o : ℕ} (e : d.answer ≡ answered o) where
    pub sized : enquiry w d ≡ added w d.serializer
    sized = rw e

    pub commit_same : same given (added w d.serializer) ≡ true → commit b w d given ≡ d
    unfolding commit
    commit_same h = rw (e, commit, h)

    pub commit_changed : same given (added w d.serializer) ≡ false → commit b w d given ≡ refuse 23 b w
    unfolding commit
    commit_changed h = rw (e, commit, h)

-- ---- what a commit promises, of a plan that says what one call does

module _ (b : List ℕ) (w : Serializer) (d : Writes) (given : Enquiry) {r : TreeWrote} (m : DoesMeasure d r) where
  pub does_refused : ((o : ℕ) → put_as r.answer ≡ answered o → ⊥) → d.buffer ≡ b → DoesWrite (commit b w d given) r b
  does_refused f k =
      rw (commit_refused b w d given (λ o e. f o (m.answer ∙ e)))
      (record { serializer = m.serializer; answer = m.answer; buffer = sym k })

  module _ {o : ℕ} (e : put_as r.answer ≡ answered o) {x : Bool} (h : x ≡ same given (added w r.serializer)) where
    of_size : {y : Bool} → x ≡ y → same given (added w d.serializer) ≡ y
    of_size z = ap (λ (v : Serializer). same given (added w v)) (sym m.serializer) ∙ sym h ∙ z

    pub does_changed : x ≡ false → DoesWrite (commit b w d given) (record { serializer = w; answer = Err SizeChanged }) b
    does_changed z =
        rw (commit_changed b w d given (sym m.answer ∙ e) (of_size z))
        (record { serializer = refl; answer = refl; buffer = refl })

    pub does_same : x ≡ true → {now : List ℕ} → now ≡ d.buffer → DoesWrite (commit b w d given) r now
    does_same z q =
        rw (commit_same b w d given (sym m.answer ∙ e) (of_size z))
        (record { serializer = m.serializer; answer = m.answer; buffer = q })
