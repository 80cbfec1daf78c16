-- What an answer of next_item says, for every text and every record: an atom is one by the grammar, and a refusal leaves what document 01 says; after a
-- refusal of the text the next call reads on, and 8 comes exactly where no character is well formed.
-- Assumes nothing.
use mathlib.Core.Path.{◌≡◌, refl, sym, ap, ◌∙◌, subst}
use mathlib.Core.Bool.{true}
use mathlib.Core.Logic.{◌↔◌}
use mathlib.Core.List.{List, ◌∷◌}
use Prim.Native.Nat.{ℕ, ◌+◌, ◌≤◌, ◌<◌}
use native.Mathlib.Omega.{arith}
use lib.Dec.{lit<, lit≤}
use lib.ListN.{length, take, drop, get_or}
use Rattle.sise_util.specs.Atom.{Atom}
use Rattle.sise_util.specs.Utf8.{Utf8Char, Subpart, character}
use Rattle.sise_util.proofs.Lists.{drop-next}
use Rattle.sise_util.proofs.Ranges.{split}
use Rattle.sise_util.proofs.Utf8Laws.{ill≢well, ill_formed_lem, ascii}
use Rattle.sise_parser.specs.Refusals.{Refusal, refusal}
use Rattle.sise_parser.specs.Lexer.{Lexed, found, bad, eof, opening, closing, atom, between}
use Rattle.sise_parser.specs.Reader.{reader, is_sound, Answer, item, refused, Next, next, refused_with, token_at, in_beginning, in_parsing, next_in, next_item}
use Rattle.sise_parser.specs.Refused.{Refuses, wrong_chr, unfinished, unexpected_eof, unexpected_paren, ill_formed, Leaves}
use Rattle.sise_parser.specs.declared.reader.Phase.{Phase}
use Rattle.sise_parser.specs.declared.reader.Phase.TheVariants.{Beginning, Parsing, Finishing}
use Rattle.sise_parser.specs.declared.reader.Reader.{Reader}
use Rattle.sise_parser.specs.declared.reader.ParsedItem.TheVariants.{Atom as AtomItem, ListStart, ListEnd}
use Rattle.sise_parser.proofs.Calls.{sound_parts, next_unsound, next_finishing, next_beginning, next_parsing, sound_next}
use Rattle.sise_parser.proofs.ReaderLaws.{stays_sound}
use Rattle.sise_parser.proofs.TokenLaws.{Says, token_says}

-- what an answer of a call with the record r says, where q is the record after it
abbrev Answers : List ℕ → Reader → Reader → Answer → Type 0
Answers text r q (item (AtomItem s k)) = Atom (take k (drop s text))
Answers text r q (item (ListStart s)) = get_or text s 0 ≡ 40
Answers text r q (item (ListEnd s)) = get_or text s 0 ≡ 41
Answers text r q (refused e) = Leaves text r e q

text_number : {text : List ℕ} {e : Refusal} {q : ℕ} → Refuses text e q → e.number ≤ 8
text_number (wrong_chr h k w) = omega arith
text_number unfinished = lit≤ tt
text_number unexpected_eof = lit≤ tt
text_number (unexpected_paren h) = lit≤ tt
text_number (ill_formed w s) = lit≤ tt

-- a refusal of the text, in a phase that stays
leaves : {text : List ℕ} {r : Reader} {f : Phase} {e : Refusal} {q : ℕ} → r.phase ≡ f → Refuses text e q → Leaves text r e (reader q f r.lists)
leaves f w = record { phase = sym f; lists = refl; position = λ _. w; nothing = λ h. absurd (omega (arith, text_number w)) }

-- 8, by its rest
eight : {text : List ℕ} {e : Refusal} {q : ℕ} → Refuses text e q → e.place < length text → (e.number ≡ 8) ↔ ((k : ℕ) → Utf8Char (take k (drop e.place text)) → ⊥)
eight {text = text} (wrong_chr {p = p} h k w) i = (λ d. absurd (omega arith), λ m. absurd (ill≢well (sym ((ill_formed_lem (drop p text)).1 m).1 ∙ w)))
eight unfinished i = absurd (omega arith)
eight unexpected_eof i = absurd (omega arith)
eight {text = text} (unexpected_paren {p = p} b) i =
    (λ d. absurd (omega arith), λ m. absurd (ill≢well (sym ((ill_formed_lem (drop p text)).1 m).1 ∙ ap character (drop-next text p i ∙ ap (λ (n : ℕ). n ∷ drop (p + 1) text) b) ∙ ascii 41 (drop (p + 1) text) (lit< tt))))
eight (ill_formed w s) i = (λ d. w, λ m. refl)

passed : {text : List ℕ} {e : Refusal} {q : ℕ} → Refuses text e q → e.number ≡ 8 → (k : ℕ) × (Subpart (drop e.place text) k) × (q ≡ e.place + k)
passed (wrong_chr h k w) d = absurd (omega arith)
passed unfinished d = absurd (omega arith)
passed unexpected_eof d = absurd (omega arith)
passed (unexpected_paren b) d = absurd (omega arith)
passed (ill_formed {k = k} w s) d = (k, s, refl)

-- the number of a refusal; 0 of an item
abbrev number_in : Answer → ℕ
number_in (item i) = 0
number_in (refused e) = e.number

module _ (text : List ℕ) (r : Reader) where
  -- the record after the call, and its answer
  abbrev Answered : Next → Type 0
  Answered x = Answers text r x.reader x.answer

  -- the text's end, and a `)` where no list is open
  at_end_lem : {f : Phase} {s q : ℕ} → r.phase ≡ f → (s ≡ length text) × (q ≡ length text) → Leaves text r (refusal 5 s 0) (reader q f r.lists)
  at_end_lem f i = rw (i.0, i.1) (leaves f unexpected_eof)

  at_paren : {f : Phase} {s q : ℕ} → r.phase ≡ f → (get_or text s 0 ≡ 41) × (q ≡ s + 1) → Leaves text r (refusal 6 s 0) (reader q f r.lists)
  at_paren f i = rw i.1 (leaves f (unexpected_paren i.0))

  beginning : r.phase ≡ Beginning → (x : Lexed) → Says text x → Answered (in_beginning r.lists x)
  unfolding in_beginning
  beginning f (bad e q) w = leaves f w
  beginning f (found eof s q) w = at_end_lem f w
  beginning f (found opening s q) w = w.0
  beginning f (found closing s q) w = at_paren f w
  beginning f (found (atom k) s q) w = w

  parsing : r.phase ≡ Parsing → (x : Lexed) → Says text x → Answered (in_parsing r.lists x)
  unfolding in_parsing
  parsing f (bad e q) w = leaves f w
  parsing f (found eof s q) w = at_end_lem f w
  parsing f (found opening s q) w = w.0
  parsing f (found closing s q) w = w.0
  parsing f (found (atom k) s q) w = w

  -- 9 and 11
  unmoved : (n : ℕ) → 8 < n → Answered (next r (refused_with n))
  unmoved n h = record { phase = refl; lists = refl; position = λ k. absurd (omega arith); nothing = λ _. refl }

  -- every call
  answered : Answered (next_item text r)
  unfolding token_at
  answered =
      split (is_sound (length text) r)
      (λ h. go h (token_says text r.position (sound_parts (length text) r h).within) r.phase refl)
      (λ h. subst Answered (next_unsound text r h) (unmoved 11 (lit< tt)))
    where
      go : is_sound (length text) r ≡ true → Says text (between (drop r.position text) r.position) → (f : Phase) → r.phase ≡ f → Answered (next_item text r)
      go h w Beginning f = subst Answered (next_beginning text r h f refl) (beginning f _ w)
      go h w Parsing f = subst Answered (next_parsing text r h f refl) (parsing f _ w)
      go h w Finishing f = subst Answered (next_finishing text r h f) (unmoved 9 (lit< tt))

  -- an atom that a call answers is one by the grammar
  pub atom_item : {s k : ℕ} → (next_item text r).answer ≡ item (AtomItem s k) → Atom (take k (drop s text))
  atom_item e = subst (Answers text r (next_item text r).reader) e answered

  -- a refused call leaves phase and open lists, and the position as its number says
  pub refused_leaves : {e : Refusal} → (next_item text r).answer ≡ refused e → Leaves text r e (next_item text r).reader
  refused_leaves e = subst (Answers text r (next_item text r).reader) e answered

  module _ {e : Refusal} (a : (next_item text r).answer ≡ refused e) (t : e.number ≤ 8) where
    abbrev q : Reader
    q = (next_item text r).reader

    -- neither 11 nor 9
    no_other : (n : ℕ) → 8 < n → next r (refused_with n) ≡ next_item text r → ⊥
    no_other n h d = let z : n ≡ e.number = ap number_in (ap (λ (x : Next). x.answer) d ∙ a) in omega arith

    was_sound : is_sound (length text) r ≡ true
    was_sound = split (is_sound (length text) r) (λ h. h) (λ h. absurd (no_other 11 (lit< tt) (next_unsound text r h)))

    -- "After a text refusal the next call reads on from the position left": it is what the token there gives in the phase, which is not finishing
    pub reads_on : (next_item text q ≡ next_in r.phase text q) × (r.phase ≡ Finishing → ⊥)
    reads_on = (
      sound_next text q (stays_sound text r was_sound) ∙ ap (λ (f : Phase). next_in f text q) (refused_leaves a).phase,
      λ f. no_other 9 (lit< tt) (next_finishing text r was_sound f),
    )

    -- before the text's end, the refusal is 8 exactly where no prefix of the rest is a well-formed character
    pub exactly_8 : e.place < length text → (e.number ≡ 8) ↔ ((k : ℕ) → Utf8Char (take k (drop e.place text)) → ⊥)
    exactly_8 h = eight ((refused_leaves a).position t) h

    -- and after 8 the position passes the longest start of a well-formed character found there, at least one byte
    pub after_8 : e.number ≡ 8 → (k : ℕ) × (Subpart (drop e.place text) k) × (q.position ≡ e.place + k)
    after_8 h = passed ((refused_leaves a).position t) h
