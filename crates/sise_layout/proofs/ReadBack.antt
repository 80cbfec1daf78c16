-- What was written is read back: after an atom nothing lengthens it, after the outermost item only blanks come, and each item is found where it was put.
-- Assumes nothing.
use Prim.Native.Nat.{ℕ, ◌+◌}
use native.Mathlib.Omega.{arith}
use mathlib.Core.Path.{◌≡◌, refl, ap, ◌∙◌, sym}
use mathlib.Core.Bool.{Bool, true, false, false≢true}
use mathlib.Core.List.{List, [], ◌∷◌, ◌++◌, append_assoc}
use lib.ListN.{length, length-append}
use Rattle.sise_util.proofs.Ranges.{split}
use Rattle.sise_parser.specs.Lexer.{found, between}
use Rattle.sise_parser.specs.Reader as parser
use Rattle.sise_parser.specs.declared.reader.Reader.{Reader}
use Rattle.sise_parser.specs.declared.reader.Phase.TheVariants.{Finishing}
use Rattle.sise_serializer.specs.Serializer.{Style, Written, Piece, last, lists_fit, fresh_serializer}
use Rattle.sise_serializer.specs.declared.serializer.Phase.{Phase}
use Rattle.sise_serializer.specs.declared.serializer.Phase.TheVariants.{Beginning, Writing, Finished, Done}
use Rattle.sise_serializer.specs.declared.serializer.Serializer.{Serializer}
use Rattle.sise_serializer.specs.Calls.{Call, Item, Placed, placed, item_of, step}
use Rattle.sise_serializer.proofs.Sound.{Sound, sound}
use Rattle.sise_serializer.proofs.Kept.{fresh_sound}
use Rattle.sise_layout.specs.Rules.{writes}
use Rattle.sise_layout.specs.Texts.{all_blank, Blank}
use Rattle.sise_layout.proofs.Lexing.{stops, token, lexeme, item_on}
use Rattle.sise_layout.proofs.Blanks.{append-blank}
use Rattle.sise_layout.proofs.Following.{Follows, over, goes}
use Rattle.sise_layout.proofs.ReaderSteps.{Going, taken, next_at, early_at, next_over, end_over, stands_at}
use Rattle.sise_layout.proofs.Pieces.{Adds, phase_of, settled}
use Rattle.sise_layout.proofs.Outcomes.{Outcome, same, adds, ends, outcome}
use Rattle.sise_layout.proofs.Written.{last-blank, last_done, last-stops}

-- the outermost item is complete
abbrev is_over : Phase → Bool
is_over Beginning = false
is_over Writing = false
is_over Finished = true
is_over Done = true

not_going : (f : Phase) → Going (phase_of f) → is_over f ≡ false
not_going Beginning g = refl
not_going Writing g = refl
not_going Finished g = elim g [ ]
not_going Done g = elim g [ ]

over_phase : (f : Phase) → is_over f ≡ true → phase_of f ≡ Finishing
over_phase Beginning h = absurd (false≢true h)
over_phase Writing h = absurd (false≢true h)
over_phase Finished h = refl
over_phase Done h = refl

-- no item, and nothing but blanks
record Silent (items : List Placed) (text : List ℕ) : Type 0 where
  no_item : items ≡ []
  blank : all_blank text ≡ true

-- the reader's record beside the writer's
abbrev beside : Serializer → Reader
beside w = parser.reader w.position (phase_of w.phase) w.lists

fit_alike : (f : Phase) (n : ℕ) → lists_fit f n ≡ true → parser.lists_fit (phase_of f) n ≡ true
fit_alike Beginning n h = h
fit_alike Writing n h = h
fit_alike Finished n h = h
fit_alike Done n h = h

module _ (s : Style) (b : Blank s) (room : ℕ) where
  -- after an atom nothing is written that would lengthen it
  abbrev Stops : List Call → Type 0
  Stops cs = (w : Serializer) → Sound w → settled w ≡ true → stops (writes s room w cs).text ≡ true

  stops_step : (cs : List Call) → Stops cs → (w : Serializer) → Sound w → settled w ≡ true → (c : Call) (r : Written) → Outcome s room w c r
      → stops (r.bytes ++ (writes s room r.serializer cs).text) ≡ true
  stops_step cs h w i g c r (same n) = h w i g
  stops_step cs h w i g c r (adds k p a x e) = a.apart b g (writes s room p.after cs).text
  stops_step cs h w i g c r (ends wished f x e) =
      last-stops s w wished (writes s room (last s w wished).after cs).text b
      (h (last s w wished).after x (rw (last_done s w wished)))

  settled_stops : (cs : List Call) → Stops cs
  unfolding writes
  settled_stops [] w i g = refl
  settled_stops (c ∷ cs) w i g = stops_step cs (settled_stops cs) w i g c (step s room w c) (outcome s room w i c)

  -- after the outermost item nothing is written but blanks
  abbrev Silences : List Call → Type 0
  Silences cs = (w : Serializer) → Sound w → is_over w.phase ≡ true → Silent (writes s room w cs).items (writes s room w cs).text

  silent_step : (cs : List Call) → Silences cs → (w : Serializer) → Sound w → is_over w.phase ≡ true → (c : Call) (r : Written) → Outcome s room w c r
      → Silent (item_of c r.answer ++ (writes s room r.serializer cs).items) (r.bytes ++ (writes s room r.serializer cs).text)
  silent_step cs h w i o c r (same n) = h w i o
  silent_step cs h w i o c r (adds k p a x e) = absurd (false≢true (sym (not_going w.phase a.going) ∙ o))
  silent_step cs h w i o c r (ends wished f x e) = record {
    no_item = rw e later.no_item;
    blank = append-blank ((last s w wished).layout ++ (last s w wished).token) _ (last-blank s w wished b) later.blank;
  }
    where
      later : Silent (writes s room (last s w wished).after cs).items (writes s room (last s w wished).after cs).text
      later = h (last s w wished).after x (rw (last_done s w wished))

  silent : (cs : List Call) → Silences cs
  unfolding writes
  silent [] w i o = record { no_item = refl; blank = refl }
  silent (c ∷ cs) w i o = silent_step cs (silent cs) w i o c (step s room w c) (outcome s room w i c)

  -- the text is read back from any record of the writer's
  abbrev ReadBack : List Call → Type 0
  ReadBack cs = (w : Serializer) (pre : List ℕ) → Sound w → length pre ≡ w.position → (writes s room w cs).last.phase ≡ Done
      → Follows (pre ++ (writes s room w cs).text) (beside w) (writes s room w cs).items

  read_over : (cs : List Call) (w : Serializer) (pre : List ℕ) → Sound w → length pre ≡ w.position → is_over w.phase ≡ true
      → Follows (pre ++ (writes s room w cs).text) (beside w) (writes s room w cs).items
  read_over cs w pre i h o =
      rw (quiet.no_item, over_phase w.phase o)
      (over (next_over pre _ w.position w.lists h i.checked.depth fit) (end_over pre _ w.position w.lists h i.checked.depth fit quiet.blank))
    where
      quiet : Silent (writes s room w cs).items (writes s room w cs).text
      quiet = silent cs w i o

      fit : parser.lists_fit Finishing w.lists ≡ true
      fit = rw (over_phase w.phase o) at (fit_alike w.phase w.lists i.checked.opens)

  read_item : (cs : List Call) → ReadBack cs → (w : Serializer) (pre : List ℕ) → Sound w → length pre ≡ w.position
      → (k : Item) (p : Piece) → Adds s w k p → Sound p.after → (writes s room p.after cs).last.phase ≡ Done
      → Follows (pre ++ (p.layout ++ p.token ++ (writes s room p.after cs).text)) (beside w)
      (placed k (w.position + length p.layout) ∷ (writes s room p.after cs).items)
  read_item cs h w pre i l k p a x d =
      goes
      (next_at pre _ w.position w.lists l i.checked.depth a.going fit
      ∙ ap (taken (phase_of w.phase) w.lists) lexed
      ∙ a.taken (w.position + length p.layout) p.after.position)
      (early_at pre _ w.position w.lists l i.checked.depth a.going fit)
      (rw a.bytes (stands_at k pre p.layout rest w.position l))
      (rw (append_assoc pre) at (h p.after (pre ++ (p.layout ++ p.token)) x ends_there d))
    where
      rest : List ℕ
      rest = (writes s room p.after cs).text

      fit : parser.lists_fit (phase_of w.phase) w.lists ≡ true
      fit = fit_alike w.phase w.lists i.checked.opens

      ends_there : length (pre ++ (p.layout ++ p.token)) ≡ p.after.position
      ends_there = length-append pre (p.layout ++ p.token) ∙ ap (λ (n : ℕ). length pre + n) (length-append p.layout p.token) ∙ omega (arith, a.position)

      token_ends : w.position + length (p.layout ++ token k) ≡ p.after.position
      token_ends = ap (λ (t : List ℕ). w.position + length (p.layout ++ t)) (sym a.bytes) ∙ ap (λ (n : ℕ). w.position + n) (length-append p.layout p.token) ∙ omega (arith, a.position)

      lexed : between (p.layout ++ p.token ++ rest) w.position ≡ found (lexeme k) (w.position + length p.layout) p.after.position
      lexed =
          rw a.bytes
          (item_on k p.layout rest w.position (a.blank b) a.proper (a.follow rest (settled_stops cs p.after x))
          ∙ ap (found (lexeme k) (w.position + length p.layout)) token_ends)

  read_step : (cs : List Call) → ReadBack cs → (w : Serializer) (pre : List ℕ) → Sound w → length pre ≡ w.position → is_over w.phase ≡ false
      → (c : Call) (r : Written) → Outcome s room w c r → (writes s room r.serializer cs).last.phase ≡ Done
      → Follows (pre ++ (r.bytes ++ (writes s room r.serializer cs).text)) (beside w) (item_of c r.answer ++ (writes s room r.serializer cs).items)
  read_step cs h w pre i l o c r (same n) d = h w pre i l d
  read_step cs h w pre i l o c r (adds k p a x e) d = rw e (read_item cs h w pre i l k p a x d)
  read_step cs h w pre i l o c r (ends wished f x e) d = absurd (false≢true (sym o ∙ rw f))

  read_back : (cs : List Call) → ReadBack cs
  unfolding writes
  read_back [] w pre i l d = read_over [] w pre i l (rw d)
  read_back (c ∷ cs) w pre i l d =
      split (is_over w.phase) (read_over (c ∷ cs) w pre i l) (λ o. read_step cs (read_back cs) w pre i l o c (step s room w c) (outcome s room w i c) d)

  pub follows : (cs : List Call) → (writes s room fresh_serializer cs).last.phase ≡ Done
      → Follows (writes s room fresh_serializer cs).text parser.fresh_reader (writes s room fresh_serializer cs).items
  unfolding fresh_serializer
  follows cs d = read_back cs fresh_serializer [] (sound fresh_serializer fresh_sound) refl d
