-- The two calls of the definition, where it is known whether the record is sound, which phase it has and what the token is.
-- Assumes nothing.
use mathlib.Core.Path.{◌≡◌, refl, sym, ap, ◌∙◌}
use mathlib.Core.Bool.{Bool, true, false, ◌&&◌, cond}
use mathlib.Core.List.{List}
use Prim.Native.Nat.{ℕ, ◌+◌, ◌-◌, ◌≤◌, ◌<◌}
use native.Mathlib.Omega.{arith}
use lib.Dec.{leb}
use lib.ListN.{length, get_or}
use borrow.Author.Tests.{leb-true, le-leb, ne_eqb}
use Rattle.std.specs.Prelude.{Result}
use Rattle.sise_util.proofs.Ranges.{and_first, and_second}
use Rattle.sise_parser.specs.Refusals.{Refusal, refusal}
use Rattle.sise_parser.specs.Lexer.{Lexed, bad}
use Rattle.sise_parser.specs.Reader.{reader, lists_fit, is_sound, item, refused, next, refused_with, token_at, in_beginning, in_parsing, next_in, next_item, not_ended, ends_at, finish_in, finish_reading}
use Rattle.sise_parser.specs.Meaning.{answer_as}
use Rattle.sise_parser.specs.declared.error.ParseError.{ParseError}
use Rattle.sise_parser.specs.declared.reader.Phase.{Phase}
use Rattle.sise_parser.specs.declared.reader.Phase.TheVariants.{Beginning, Parsing, Finishing}
use Rattle.sise_parser.specs.declared.reader.Reader.{Reader}
use Rattle.sise_parser.specs.declared.reader.ParsedItem.{ParsedItem}
use Rattle.sise_parser.specs.declared.reader.ParsedItem.TheVariants.{ListStart, ListEnd}
use Rattle.sise_parser.proofs.ByteSteps.{between_open, between_close}

-- the parts of a sound record
pub record Sound (n : ℕ) (r : Reader) : Type 0 where
  pub within : r.position ≤ n
  pub opened : r.lists ≤ r.position
  pub fit : lists_fit r.phase r.lists ≡ true

pub sound_parts : (n : ℕ) (r : Reader) → is_sound n r ≡ true → Sound n r
unfolding is_sound
sound_parts n r h =
    let rest = and_second (leb r.position n) (leb r.lists r.position && lists_fit r.phase r.lists) h in
    record {
      within = leb-true r.position n (and_first (leb r.position n) (leb r.lists r.position && lists_fit r.phase r.lists) h);
      opened = leb-true r.lists r.position (and_first (leb r.lists r.position) (lists_fit r.phase r.lists) rest);
      fit = and_second (leb r.lists r.position) (lists_fit r.phase r.lists) rest;
    }

-- while parsing, one list at least is open, and no more than there are bytes
pub parsing_lists : (n : ℕ) (r : Reader) → is_sound n r ≡ true → r.phase ≡ Parsing → (1 ≤ r.lists) × (r.lists ≤ n)
parsing_lists n r h e =
    let s = sound_parts n r h in
    let w : r.position ≤ n = s.within in
    let o : r.lists ≤ r.position = s.opened in
    (leb-true 1 r.lists (ap (λ (f : Phase). lists_fit f r.lists) (sym e) ∙ s.fit), omega arith)

-- the third of the phases
pub is_parsing : (f : Phase) → (f ≡ Finishing → ⊥) → (f ≡ Beginning → ⊥) → f ≡ Parsing
is_parsing Beginning a b = absurd (b refl)
is_parsing Parsing a b = refl
is_parsing Finishing a b = absurd (a refl)

-- next_item
module _ (text : List ℕ) (r : Reader) where
  pub next_unsound : is_sound (length text) r ≡ false → next r (refused_with 11) ≡ next_item text r
  unfolding next_item
  next_unsound h = sym (rw (h, next_item))

  module _ (h : is_sound (length text) r ≡ true) where
    pub sound_next : next_item text r ≡ next_in r.phase text r
    unfolding next_item
    sound_next = rw (h, next_item)

    in_phase : (f : Phase) → r.phase ≡ f → next_in f text r ≡ next_item text r
    in_phase f e = ap (λ (g : Phase). next_in g text r) (sym e) ∙ sym sound_next

    pub next_finishing : r.phase ≡ Finishing → next r (refused_with 9) ≡ next_item text r
    unfolding next_in
    next_finishing e = in_phase Finishing e

    pub next_beginning : r.phase ≡ Beginning → {x : Lexed} → x ≡ token_at text r → in_beginning r.lists x ≡ next_item text r
    unfolding next_in
    next_beginning e d = ap (in_beginning r.lists) d ∙ in_phase Beginning e

    pub next_parsing : r.phase ≡ Parsing → {x : Lexed} → x ≡ token_at text r → in_parsing r.lists x ≡ next_item text r
    unfolding next_in
    next_parsing e d = ap (in_parsing r.lists) d ∙ in_phase Parsing e

    -- a refused token, before finishing
    pub next_bad : (r.phase ≡ Finishing → ⊥) → {e : Refusal} {q : ℕ} → bad e q ≡ token_at text r
        → next (reader q r.phase r.lists) (refused e) ≡ next_item text r
    unfolding in_beginning in_parsing
    next_bad k {e} {q} d = go r.phase refl
      where
        go : (f : Phase) → r.phase ≡ f → next (reader q r.phase r.lists) (refused e) ≡ next_item text r
        go Beginning p = ap (λ (g : Phase). next (reader q g r.lists) (refused e)) p ∙ next_beginning p d
        go Parsing p = ap (λ (g : Phase). next (reader q g r.lists) (refused e)) p ∙ next_parsing p d
        go Finishing p = absurd (k p)

-- a bracket right at the position of a record that is sound while parsing
module _ (text : List ℕ) (r : Reader) (e : r.phase ≡ Parsing) (w : r.position < length text) (o : r.lists ≤ r.position) (k : 1 < r.lists) where
  sound_here : is_sound (length text) r ≡ true
  unfolding is_sound
  sound_here =
      let l : r.position ≤ length text = omega arith in
      let m : 1 ≤ r.lists = omega arith in
      rw (le-leb r.position (length text) l, le-leb r.lists r.position o) (ap (λ (f : Phase). lists_fit f r.lists) e ∙ le-leb 1 r.lists m)

  pub opened_here : get_or text r.position 0 ≡ 40 → next (reader (r.position + 1) Parsing (r.lists + 1)) (item (ListStart r.position)) ≡ next_item text r
  unfolding in_parsing token_at
  opened_here b = next_parsing text r sound_here e (sym (between_open text r.position w b))

  pub closed_here : get_or text r.position 0 ≡ 41 → next (reader (r.position + 1) Parsing (r.lists - 1)) (item (ListEnd r.position)) ≡ next_item text r
  unfolding in_parsing token_at
  closed_here b =
      let two : r.lists ≡ 1 → ⊥ = λ z. absurd (omega arith) in
      ap (λ (c : Bool). next (cond c (reader (r.position + 1) Finishing 0) (reader (r.position + 1) Parsing (r.lists - 1))) (item (ListEnd r.position))) (sym (ne_eqb r.lists 1 two))
      ∙ next_parsing text r sound_here e (sym (between_close text r.position w b))

-- finish
module _ (text : List ℕ) (r : Reader) where
  pub finish_unsound : is_sound (length text) r ≡ false → not_ended (refusal 11 0 0) ≡ finish_reading text r
  unfolding finish_reading
  finish_unsound h = sym (rw (h, finish_reading))

  module _ (h : is_sound (length text) r ≡ true) where
    sound_finish : finish_reading text r ≡ finish_in r.phase text r
    unfolding finish_reading
    sound_finish = rw (h, finish_reading)

    pub finish_early : (r.phase ≡ Finishing → ⊥) → not_ended (refusal 10 0 0) ≡ finish_reading text r
    unfolding finish_in
    finish_early k = go r.phase refl ∙ sym sound_finish
      where
        go : (f : Phase) → r.phase ≡ f → not_ended (refusal 10 0 0) ≡ finish_in r.phase text r
        go Beginning p = sym (ap (λ (g : Phase). finish_in g text r) p)
        go Parsing p = sym (ap (λ (g : Phase). finish_in g text r) p)
        go Finishing p = absurd (k p)

    pub finish_token : r.phase ≡ Finishing → {x : Lexed} → x ≡ token_at text r → ends_at x ≡ finish_reading text r
    unfolding finish_in
    finish_token e d = ap ends_at d ∙ sym (sound_finish ∙ ap (λ (g : Phase). finish_in g text r) e)

-- phase, lists and answer by a tuple that is known
pub handed_back : {t u : Phase × ℕ × Result ParsedItem ParseError} (p : ℕ) → t ≡ u → next (reader p t.0 t.1) (answer_as t.2) ≡ next (reader p u.0 u.1) (answer_as u.2)
handed_back p e = ap (λ (v : Phase × ℕ × Result ParsedItem ParseError). next (reader p v.0 v.1) (answer_as v.2)) e
