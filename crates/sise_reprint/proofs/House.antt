-- What the house call leaves after parse_text depends on the threshold, the tree of bytes and the buffer alone; and a text that it writes is read as that tree.
-- Assumes nothing.
use Prim.Native.Nat.{ℕ, ◌≤◌}
use native.Mathlib.Omega.{arith}
use mathlib.Core.Path.{◌≡◌, refl, sym, ap, ◌∙◌}
use mathlib.Core.Bool.{true}
use mathlib.Core.List.{List, [], ◌∷◌}
use lib.Dec.{leb, lit<}
use lib.ListN.{length}
use lib.Seq.{length-take-le}
use borrow.Author.Tests.{le-ltb, le-leb, leb-true}
use Rattle.sise_util.specs.Chars.{one_of}
use Rattle.sise_util.proofs.Ranges.{split}
use Rattle.sise_serializer.specs.Serializer.{limit, fresh_serializer, is_sound}
use Rattle.sise_serializer.specs.Calls.{Call, step, run, writing}
use Rattle.sise_serializer.specs.Bytes.{pasted}
use Rattle.sise_serializer.specs.declared.serializer.Serializer.{Serializer}
use Rattle.sise_serializer.proofs.Kept.{fresh_sound}
use Rattle.sise_serializer.proofs.Sound.{sound}
use Rattle.sise_layout.specs.Texts.{Blank, text_of}
use Rattle.sise_tree.specs.Answers.{answered}
use Rattle.sise_tree.specs.ParseTree.{longest, filled_with}
use Rattle.sise_tree.proofs.DecisionLaws.{decide_complete}
use Rattle.sise_tree.proofs.ParseLaws.{read_holds}
use Rattle.sise_parser.specs.Reader.{fresh_reader}
use Rattle.sise_tree_writer.specs.SerializeTree.{fits, Writes, written, write_node, write_tree}
use Rattle.sise_tree_writer.specs.Writing.{text_calls}
use Rattle.sise_tree_writer.specs.House.{house_style, house_at}
use Rattle.sise_tree_writer.specs.Alike.{Tree, leaf, branch, tree_of, ReadsAs}
use Rattle.sise_tree_writer.proofs.CallLaws.{fits_first, accepted_keeps, run_after, after_sound}
use Rattle.sise_tree_writer.proofs.Measuring.{no_answer, on_answer, left, written_on, written_off}
use Rattle.sise_tree_layout.proofs.ReadAgain.{read_again}
use Rattle.sise_tree_layout.proofs.Rooms.{exact_room, text_alike}
use Rattle.sise_tree_layout.proofs.TreeRooms.{written_measured}
use Rattle.sise_reprint.proofs.Trees.{calls_of, whole_calls, whole_calls_lem}
use Rattle.sise_reprint.proofs.Parsed.{Parsed, read_atoms}

-- the house call's run of a tree of bytes
unfoldable pub printing : ℕ → Tree → List ℕ → Writes
printing t x b = written house_style b fresh_serializer (whole_calls t x)

-- after parse_text the house call passes 13, 11, 15, 17 and 19, whatever the threshold and the buffer
pub house_prints : (t : ℕ) (b : List ℕ) {text words : List ℕ} {k : ℕ} (p : Parsed text words k)
    → house_at t b text (filled_with p.node words) ≡ printing t (tree_of text p.node) b
unfolding house_at write_tree write_node printing fresh_serializer is_sound
house_prints t b {text} {words} p =
    rw (
      le-ltb longest (length text) p.short,
      decide_complete (read_holds text fresh_reader p.reads words),
      read_atoms text p.reads,
      whole_calls_lem text t p.node,
    )

pub house_blank : Blank house_style
unfolding house_style one_of
house_blank = record { not_empty = lit< tt; line_break = refl; indentation = refl }

-- ---- calls that fit

-- they end before 16,777,216
fit_low : (b : List ℕ) (cs : List Call) → fits house_style (length b) fresh_serializer cs ≡ true → (run house_style b fresh_serializer cs).last.position ≤ limit
fit_low b cs f = rw (run_after house_style fresh_serializer cs b f) (sound _ (after_sound house_style (length b) fresh_serializer cs fresh_sound)).checked.place

-- the buffer keeps its length
fit_keeps : (cs : List Call) (w : Serializer) (b : List ℕ) → fits house_style (length b) w cs ≡ true → length (run house_style b w cs).buffer ≡ length b
unfolding run
fit_keeps [] w b f = refl
fit_keeps (c ∷ cs) w b f =
    let (o, e, more) = fits_first house_style (length b) w c cs f in
    let long = accepted_keeps house_style b w c e in
    fit_keeps cs (step house_style (length b) w c).serializer (pasted b w.position (step house_style (length b) w c).bytes) (rw long more) ∙ long

-- a tree has a first call
whole_begun : (t : ℕ) (x : Tree) → (c : Call) × (cs : List Call) × (whole_calls t x ≡ c ∷ cs)
unfolding whole_calls calls_of
whole_begun t (leaf a) = (_, _, refl)
whole_begun t (branch c) = (_, _, refl)

-- ---- a tree that is written

-- its calls fit, and these are the bytes
pub record Prints (t : ℕ) (x : Tree) (b out : List ℕ) : Type 0 where
  pub fit : fits house_style (length b) fresh_serializer (whole_calls t x) ≡ true
  pub text : out ≡ text_of (writing house_style b (whole_calls t x))

module _ (t : ℕ) (x : Tree) (b : List ℕ) where
  abbrev calls : List Call
  calls = whole_calls t x

  -- exactly if the house call answers
  pub answered_fits : {o : ℕ} → (printing t x b).answer ≡ answered o → fits house_style (length b) fresh_serializer calls ≡ true
  unfolding printing
  answered_fits h =
      split (fits house_style (length b) fresh_serializer calls) (λ f. f)
      (λ f. no_answer (sym (ap (λ (d : Writes). d.answer) (written_off house_style b fresh_serializer calls f)) ∙ h))

  module _ (f : fits house_style (length b) fresh_serializer calls ≡ true) where
    pub fits_answer : (o : ℕ) × ((printing t x b).answer ≡ answered o)
    unfolding printing
    fits_answer =
        let (c, cs, e) = whole_begun t x in
        let (o, a) = on_answer house_style b fresh_serializer c cs (rw e at f) in
        (o, ap (λ (l : List Call). (written house_style b fresh_serializer l).answer) e ∙ a)

    pub fits_made : printing t x b ≡ left house_style b fresh_serializer calls
    unfolding printing
    fits_made = written_on house_style b fresh_serializer calls f

    -- where there is room for the position that they leave
    pub fits_room : (room : ℕ) → fits house_style room fresh_serializer calls ≡ leb (writing house_style b calls).last.position room
    fits_room room = let (c, cs, e) = whole_begun t x in rw e (exact_room house_style b fresh_serializer c cs (rw e at f) room)

  module _ {out : List ℕ} (p : Prints t x b out) where
    -- the position that they leave
    abbrev end : ℕ
    end = (writing house_style b calls).last.position

    inside : end ≤ length b
    inside = leb-true end (length b) (sym (fits_room p.fit (length b)) ∙ p.fit)

    pub prints_long : length out ≡ end
    prints_long =
        ap length p.text
        ∙ length-take-le end (writing house_style b calls).buffer (omega (arith, inside, fit_keeps calls fresh_serializer b p.fit))

    pub prints_low : length out ≤ limit
    prints_low = omega (arith, prints_long, fit_low b calls p.fit)

    -- the same in each buffer that holds them
    module _ (b' : List ℕ) (le : length out ≤ length b') where
      fit' : fits house_style (length b') fresh_serializer calls ≡ true
      fit' = fits_room p.fit (length b') ∙ le-leb end (length b') (omega (arith, prints_long))

      pub prints_again : Prints t x b' out
      prints_again = record { fit = fit'; text = p.text ∙ text_alike house_style calls b b' p.fit fit' }

      pub prints_measured : ((printing t x b').serializer ≡ (printing t x b).serializer) × ((printing t x b').answer ≡ (printing t x b).answer)
      unfolding printing
      prints_measured =
          let (o, a) = fits_answer p.fit in
          let m = written_measured house_style b b' fresh_serializer calls a in
          let at : (printing t x b).serializer.position ≤ length b' = rw (fits_made p.fit) (omega (arith, prints_long)) in
          (m.serializer at, m.answer at)

-- a tree has one text at a threshold
pub prints_once : {t : ℕ} {x : Tree} {b b' out out' : List ℕ} → Prints t x b out → Prints t x b' out' → out ≡ out'
prints_once {t} {x} {b} {b'} p q = p.text ∙ text_alike house_style (whole_calls t x) b b' p.fit q.fit ∙ sym q.text

-- which is read as the tree
pub prints_reads : (t : ℕ) {text words : List ℕ} {k : ℕ} (q : Parsed text words k) (b : List ℕ) {out : List ℕ} → Prints t (tree_of text q.node) b out
    → ReadsAs out (tree_of text q.node)
unfolding text_calls
prints_reads t {text} q b p =
    let e = whole_calls_lem text t q.node in
    rw (p.text, ← e) (read_again house_style house_blank b text t q.node true (rw e p.fit))
