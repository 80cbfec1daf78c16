-- What is seen at a record's place is so behind its blanks: no blank is a bracket, and the place where they end is as good as the record's.
-- Assumes nothing.
use Rattle.std.proofs.Common.{◌≡◌, ◌<◌, ◌≤◌, ◌+◌, ℕ, List, [], ◌∷◌, length, drop, get_or, true, refl, sym, ap, ◌∙◌, arith}
use Rattle.std.proofs.lemmas.List.{get_or_past, drop_all}
use mathlib.Core.Logic.{inl, inr, ⊎_elim}
use lib.Dec.{ltb}
use lib.ListN.{length-drop}
use borrow.Author.Tests.{eqb-true, le-leb, ltb-true, ltb-false}
use Rattle.sise_util.specs.Classes.{class_of}
use Rattle.sise_util.proofs.Ranges.{split}
use Rattle.sise_parser.specs.Phases.{phase_number}
use Rattle.sise_parser.specs.Lexer.{between}
use Rattle.sise_parser.specs.Plain.{is_blank, skip_blanks, atom_run}
use Rattle.sise_parser.specs.PlainItems.{IsBracketAt, IsRunAt, IsPlainAt, IsPlain}
use Rattle.sise_parser.specs.Reader.{reader, lists_fit, is_sound, token_at, next_in, next_item}
use Rattle.sise_parser.specs.declared.reader.Phase.{Phase}
use Rattle.sise_parser.specs.declared.reader.Phase.TheVariants.{Beginning, Parsing, Finishing}
use Rattle.sise_parser.specs.declared.reader.Reader.{Reader}
use Rattle.sise_parser.proofs.Steps.{blanks_end}
use Rattle.sise_parser.proofs.ByteSteps.{blanks_stop}
use Rattle.sise_parser.proofs.Calls.{sound_parts, next_beginning, next_parsing}

-- a byte that is not 0 stands in the text
pub within : (text : List ℕ) (p b : ℕ) → get_or text p 0 ≡ b → 0 < b → p < length text
within text p b e h = split (ltb p (length text)) (λ l. ltb-true p (length text) l) (λ l. absurd (let z = get_or_past text p 0 (ltb-false p (length text) l) in omega (arith, e, z)))

-- where so many lists are open
module _ (text : List ℕ) (lists p : ℕ) where
  pub bracket_or_run : IsPlainAt text lists p → (IsBracketAt text lists p → ⊥) → IsRunAt text p
  bracket_or_run i n = ⊎_elim (λ e. absurd (n (inl e))) (λ i. ⊎_elim (λ e. absurd (n (inr e))) (λ r. r) i) i

  pub bracket_is : IsBracketAt text lists p → IsPlainAt text lists p
  bracket_is i = ⊎_elim (λ e. inl e) (λ e. inr (inl e)) i

  -- no bracket is a blank
  pub bracket_here : IsBracketAt text lists p → skip_blanks (drop p text) p ≡ p
  unfolding class_of
  bracket_here i =
      ⊎_elim (λ (e : get_or text p 0 ≡ 40). blanks_stop text p (within text p 40 e (omega arith)) (ap (λ (b : ℕ). is_blank (class_of b)) e))
      (λ e. blanks_stop text p (within text p 41 e.0 (omega arith)) (ap (λ (b : ℕ). is_blank (class_of b)) e.0)) i

skip_fits : (l : List ℕ) (p : ℕ) → skip_blanks l p ≤ p + length l
unfolding skip_blanks
skip_fits [] p = omega arith
skip_fits (b ∷ l) p = split (is_blank (class_of b)) (λ y. rw (y, skip_blanks) (let h = skip_fits l (p + 1) in omega arith)) (λ n. rw (n, skip_blanks) (omega arith))

-- past the end no byte stands, and no run begins
past_end : (text : List ℕ) (lists s : ℕ) → length text ≤ s → IsPlainAt text lists s → ⊥
unfolding atom_run
past_end text lists s l p =
    let z = get_or_past text s 0 l in
    let none : atom_run (drop s text) s ≡ s = rw (drop_all s text l) refl in
    ⊎_elim (λ (e : get_or text s 0 ≡ 40). omega arith) (⊎_elim (λ (e : (get_or text s 0 ≡ 41) × (1 < lists)). omega (arith, e.0)) (λ (r : IsRunAt text s). omega (arith, r.0))) p

pub none_past : (text : List ℕ) (r : Reader) → length text ≤ r.position → IsPlain text r → ⊥
none_past text r l p = past_end text r.lists r.position l (rw (← blanks_end text l) p.1)

-- the place where the blanks end
module _ (text : List ℕ) (r : Reader) (h : is_sound (length text) r ≡ true) {s : ℕ} (e : s ≡ skip_blanks (drop r.position text) r.position) (a : r.position ≤ s) where
  pub sound_behind : is_sound (length text) (reader s r.phase r.lists) ≡ true
  unfolding is_sound
  sound_behind =
      let p = sound_parts (length text) r h in
      let fits = skip_fits (drop r.position text) r.position in
      let n = length-drop r.position text in
      let l : s ≤ length text = omega (arith, p.within) in
      let o : r.lists ≤ s = omega (arith, p.opened) in
      rw (le-leb s (length text) l, le-leb r.lists s o) p.fit

  -- before the last item
  pub next_behind : (r.phase ≡ Finishing → ⊥) → between (drop r.position text) r.position ≡ between (drop s text) s → next_item text (reader s r.phase r.lists) ≡ next_item text r
  unfolding token_at next_in
  next_behind k t = go r.phase refl
    where
      go : (f : Phase) → r.phase ≡ f → next_item text (reader s r.phase r.lists) ≡ next_item text r
      go Beginning f = sym (next_beginning text (reader s r.phase r.lists) sound_behind f refl) ∙ next_beginning text r h f (sym t)
      go Parsing f = sym (next_parsing text (reader s r.phase r.lists) sound_behind f refl) ∙ next_parsing text r h f (sym t)
      go Finishing f = absurd (k f)

pub parsing_early : {f : Phase} → f ≡ Parsing → f ≡ Finishing → ⊥
parsing_early e d = omega (arith, ap phase_number (sym e ∙ d))

-- a sound record with a list open is parsing
only_parsing : (f : Phase) (n : ℕ) → 0 < n → lists_fit f n ≡ true → f ≡ Parsing
only_parsing Beginning n o e = absurd (omega (arith, eqb-true n 0 e))
only_parsing Parsing n o e = refl
only_parsing Finishing n o e = absurd (omega (arith, eqb-true n 0 e))

pub plain_parsing : (text : List ℕ) (r : Reader) → is_sound (length text) r ≡ true → IsPlain text r → r.phase ≡ Parsing
plain_parsing text r h p = only_parsing r.phase r.lists p.0 (sound_parts _ r h).fit
