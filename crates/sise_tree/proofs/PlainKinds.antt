-- A run of atom characters is a plain atom, and so is the atom of a plain item.
-- Assumes nothing.
use Prim.Native.Nat.{ℕ, zero, suc, ◌+◌, ◌-◌, ◌≤◌, ◌<◌}
use native.Mathlib.Omega.{arith}
use mathlib.Core.Path.{◌≡◌, refl, sym, ap, ◌∙◌, subst}
use mathlib.Core.Bool.{true}
use mathlib.Core.Logic.{⊎_elim}
use mathlib.Core.List.{List, [], ◌∷◌}
use lib.Dec.{ltb}
use lib.ListN.{length, take, drop, get_or}
use lib.Seq.{length-take-le}
use borrow.Author.Tests.{le-leb, ltb-true, ltb-false}
use Rattle.std.specs.Prelude.{◌↔◌, Option, Some, IsSome, IfSome}
use Rattle.std.proofs.lemmas.List.{get_or_past}
use Rattle.sise_util.specs.Chars.{is_atom_chr}
use Rattle.sise_util.specs.Classes.{class_of}
use Rattle.sise_util.specs.Atom.{all_atom_chrs, kind_number, kind_prefix}
use Rattle.sise_util.proofs.Ranges.{split, both}
use Rattle.sise_util.proofs.PlainRuns.{all_plain}
use Rattle.sise_parser.specs.Lexer.{Lexed, found, atom, between}
use Rattle.sise_parser.specs.Plain.{is_blank, skip_blanks, atom_run}
use Rattle.sise_parser.specs.PlainItems.{IsRunAt, IsPlainAt, IsPlain}
use Rattle.sise_parser.specs.Reader.{is_sound, Answer, item, refused, Next, next, token_at, in_parsing, next_item}
use Rattle.sise_parser.specs.declared.reader.Reader.{Reader}
use Rattle.sise_parser.specs.declared.plain.PlainItem.{PlainItem}
use Rattle.sise_parser.proofs.Steps.{blanks_end, run_end}
use Rattle.sise_parser.proofs.ByteSteps.{between_open, between_close, between_atom, between_on, blanks_on, blanks_stop, run_stops}
use Rattle.sise_parser.proofs.Runs.{runs_to, run_ends}
use Rattle.sise_parser.proofs.Calls.{next_parsing}
use Rattle.sise_tree.specs.Tree.{kind_at}
use Rattle.sise_tree.specs.Filling.{IsKind, GivesDue}
use Rattle.sise_tree.proofs.ReadSteps.{sound_parsing}

-- what a run passes
record Ran (l : List ℕ) (p r : ℕ) : Type 0 where
  after : p ≤ r
  within : r - p ≤ length l
  chrs : all_atom_chrs (take (r - p) l) ≡ true

ran_none : (l : List ℕ) (p : ℕ) → Ran l p p
ran_none l p = let z : p - p ≡ 0 = omega arith in record { after = omega arith; within = omega arith; chrs = rw z }

ran_one : (b : ℕ) (l : List ℕ) (p r : ℕ) → is_atom_chr b ≡ true → Ran l (p + 1) r → Ran (b ∷ l) p r
ran_one b l p r y h =
    let z : r - p ≡ suc (r - (p + 1)) = omega (arith, h.after) in
    record { after = omega (arith, h.after); within = omega (arith, h.within, h.after); chrs = rw z (both (is_atom_chr b) _ y h.chrs) }

ran : (l : List ℕ) (p : ℕ) → Ran l p (atom_run l p)
unfolding atom_run
ran [] p = ran_none [] p
ran (b ∷ l) p = split (is_atom_chr b) (λ y. rw (y, atom_run) (ran_one b l p (atom_run l (p + 1)) y (ran l (p + 1)))) (λ n. rw (n, atom_run) (ran_none (b ∷ l) p))

pub plain_kind : (text : List ℕ) (s : ℕ) {q : ℕ} → q ≡ atom_run (drop s text) s → s < q → 1 ≡ kind_at text s (q - s)
unfolding kind_prefix
plain_kind text s {q} e l =
    let h = rw (← e) at (ran (drop s text) s) in
    let a = take (q - s) (drop s text) in
    rw (le-leb (q - s) (length (drop s text)) h.within)
    (ap kind_number (all_plain a (λ z. omega (arith, z, length-take-le (q - s) (drop s text) h.within)) h.chrs))

-- ---- a plain item

module _ (text : List ℕ) where
  -- the token at a place
  abbrev token : ℕ → Lexed
  token p = between (drop p text) p

  -- it is the same behind blanks; at most n bytes are left
  behind_blanks : (n p : ℕ) → length text ≤ p + n → token p ≡ token (skip_blanks (drop p text) p)
  behind_blanks zero p h = ap token (sym (blanks_end text (omega arith)))
  behind_blanks (suc n) p h =
      split (ltb p (length text))
      (λ l. let b : p < length text = ltb-true p (length text) l in split (is_blank (class_of (get_or text p 0)))
      (λ y. between_on text p b y ∙ behind_blanks n (p + 1) (omega arith) ∙ ap token (sym (blanks_on text p b y)))
      (λ no. ap token (sym (blanks_stop text p b no))))
      (λ l. ap token (sym (blanks_end text (ltb-false p (length text) l))))

  -- a byte that is not 0 is in the text
  inside : (s : ℕ) {b : ℕ} → get_or text s 0 ≡ b → 0 < b → s < length text
  inside s e o = split (ltb s (length text)) (λ l. ltb-true s (length text) l) (λ l. absurd (omega (arith, get_or_past text s 0 (ltb-false s (length text) l))))

  -- where a run begins that no string follows, it is the token
  run_token : (s : ℕ) → IsRunAt text s → token s ≡ found (atom (atom_run (drop s text) s - s)) s (atom_run (drop s text) s)
  run_token s (some, quote) =
      let r = runs_to text s (atom_run (drop s text) s) refl in
      split (ltb s (length text))
      (λ l. let b : s < length text = ltb-true s (length text) l in split (is_atom_chr (get_or text s 0))
      (λ y. between_atom text s b y ∙ r.same s ∙ run_ends r quote s)
      (λ no. absurd (omega (arith, run_stops text s b no))))
      (λ l. absurd (omega (arith, run_end text {p = s} (ltb-false s (length text) l))))

  -- what an answer says: 1 is the kind of its atom
  abbrev SaysPlain : Answer → Type 0
  SaysPlain (item i) = IsKind text i 1
  SaysPlain (refused e) = Unit {0}

  says_plain : (lists s : ℕ) → IsPlainAt text lists s → SaysPlain (in_parsing lists (token s)).answer
  unfolding in_parsing
  says_plain lists s p =
      ⊎_elim (λ (e : get_or text s 0 ≡ 40). rw (between_open text s (inside s e (omega arith)) e) tt)
      (⊎_elim (λ (e : (get_or text s 0 ≡ 41) × (1 < lists)). rw (between_close text s (inside s e.0 (omega arith)) e.0) tt)
      (λ (r : IsRunAt text s). rw (run_token s r) (plain_kind text s refl r.0)))
      p

  pub plain_item_kind : (r : Reader) {x : Next} → is_sound (length text) r ≡ true → IsPlain text r → x ≡ next_item text r → SaysPlain x.answer
  unfolding token_at
  plain_item_kind r {x} sound (some, plain) e =
      let f = sound_parsing (length text) r sound some in
      let s = skip_blanks (drop r.position text) r.position in
      subst (λ (y : Next). SaysPlain y.answer)
      (next_parsing text r sound f (sym (behind_blanks (length text) r.position (omega arith))) ∙ sym e)
      (says_plain r.lists s plain)

-- what plain_item gives is what next_item gives, and 1 is its atom's kind
pub plain_given :
    (text : List ℕ) (r : Reader) {m : PlainItem} (o : Option PlainItem) → o ≡ Some m → (IsSome o ↔ ((is_sound (length text) r ≡ true) × IsPlain text r))
    → IfSome o (λ p. next p.reader (item p.item) ≡ next_item text r)
    → GivesDue text r (Some (record { reader = m.reader; item = m.item; kind = 1 }))
plain_given text r {m} o e when given =
    let (sound, plain) = (rw e at when).0 refl in
    let its : next m.reader (item m.item) ≡ next_item text r = rw e at given in
    (sym its, plain_item_kind text r sound plain its)
