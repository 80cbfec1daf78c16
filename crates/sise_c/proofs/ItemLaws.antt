-- A text's items, read one after the other: where n of them are read the reader has moved n bytes or more, so the bound on the calls never runs out.
-- Assumes nothing.
use Prim.Native.Nat.{ℕ, suc, ◌+◌, ◌-◌, ◌*◌, ◌≤◌, ◌<◌}
use native.Mathlib.Nat.{zero-add}
use native.Mathlib.Omega.{arith}
use mathlib.Core.Path.{◌≡◌, refl, sym, ap, ◌∙◌, subst}
use mathlib.Core.Bool.{true}
use mathlib.Core.List.{List, [], ◌∷◌}
use lib.ListN.{length}
use Rattle.sise_parser.specs.Refusals.{Refusal, refusal_of}
use Rattle.sise_parser.specs.Reader.{fresh_reader, is_sound, item, refused, Next, next, next_item}
use Rattle.sise_parser.specs.Meaning.{answer_as, next_as}
use Rattle.sise_parser.specs.declared.error.ParseError.{ParseError}
use Rattle.std.specs.Prelude.{Result, Ok, Err}
use Rattle.sise_parser.specs.declared.reader.Next.{Next as ReaderNext}
use Rattle.sise_parser.specs.declared.reader.ParsedItem.{ParsedItem}
use Rattle.sise_parser.specs.declared.reader.ParsedItem.TheVariants.{Atom, ListStart, ListEnd}
use Rattle.sise_parser.specs.declared.reader.Reader.{Reader}
use Rattle.sise_parser.proofs.ReaderLaws.{fresh_sound}
use Rattle.sise_tree.proofs.ReadSteps.{Took, took}
use Rattle.sise_serializer.specs.Bytes.{pasted}
use Rattle.sise_serializer.proofs.Bytes.{pasted_none, pasted_more}
use Rattle.sise_c.specs.Items.{items_from, ending_by, ending_from, items_of, ending_of, item_words, all_words}
use Rattle.sise_c.specs.Passes.{calls, items_left, Reached, Counts, Fills}

reached_none : (text : List ℕ) {r : Reader} → r ≡ fresh_reader → Reached text r 0
reached_none text e = record { sound = subst (λ (x : Reader). is_sound (length text) x ≡ true) (sym e) (fresh_sound (length text)); early = omega arith }

none_read : (text : List ℕ) → calls text 0 ≡ suc (length text)
none_read text = omega arith

items_all : (text : List ℕ) {r : Reader} → r ≡ fresh_reader → items_left text r 0 ≡ items_of text
unfolding items_of
items_all text {r} e = ap (λ (k : ℕ). items_from k text r) (none_read text) ∙ ap (items_from (suc (length text)) text) e

ending_all : (text : List ℕ) {r : Reader} → r ≡ fresh_reader → ending_from (calls text 0) text r ≡ ending_of text
unfolding ending_of
ending_all text {r} e = ap (λ (k : ℕ). ending_from k text r) (none_read text) ∙ ap (ending_from (suc (length text)) text) e

-- what a call answered
module _ (text : List ℕ) (r : Reader) {m : ReaderNext} (e : next_as m ≡ next_item text r) where
  pub gave_item : {i : ParsedItem} → m.answer ≡ Ok i → next_item text r ≡ next m.reader (item i)
  gave_item d = sym e ∙ ap (λ (a : Result ParsedItem ParseError). next m.reader (answer_as a)) d

  pub gave_refusal : {f : ParseError} → m.answer ≡ Err f → next_item text r ≡ next m.reader (refused (refusal_of f))
  gave_refusal d = sym e ∙ ap (λ (a : Result ParsedItem ParseError). next m.reader (answer_as a)) d

-- one call of the definitions
module _ (text : List ℕ) (r : Reader) {q : Reader} (k : ℕ) where
  items_given : {i : ParsedItem} → next_item text r ≡ next q (item i) → items_from (suc k) text r ≡ i ∷ items_from k text q
  items_given {i} e = go (ap (λ (x : Next). x.answer) e) ∙ ap (λ (x : Next). i ∷ items_from k text x.reader) e
    where
      go : (next_item text r).answer ≡ item i → items_from (suc k) text r ≡ i ∷ items_from k text (next_item text r).reader
      go d = unfold items_from in rw (d, items_from)

  ending_given : {i : ParsedItem} → next_item text r ≡ next q (item i) → ending_from (suc k) text r ≡ ending_from k text q
  ending_given {i} e = go (ap (λ (x : Next). x.answer) e) ∙ ap (λ (x : Next). ending_from k text x.reader) e
    where
      go : (next_item text r).answer ≡ item i → ending_from (suc k) text r ≡ ending_from k text (next_item text r).reader
      go d = unfold ending_from in rw (d, ending_from)

  items_refused : {e : Refusal} → next_item text r ≡ next q (refused e) → items_from (suc k) text r ≡ []
  unfolding items_from
  items_refused d = rw (d, items_from)

  ending_refused : {e : Refusal} → next_item text r ≡ next q (refused e) → ending_from (suc k) text r ≡ ending_by text r e
  unfolding ending_from
  ending_refused d = rw (d, ending_from)

-- an item is read
module _ (text : List ℕ) {r q : Reader} {n : ℕ} (at : Reached text r n) {i : ParsedItem} (e : next_item text r ≡ next q (item i)) where
  read : Took text r q i
  read = took text r e

  pub falls : {p : ℕ} → p ≤ r.position → length text - q.position < length text - p
  falls l = omega (arith, read.moves, read.within)

  pub fewer : n + 1 ≤ length text
  fewer = omega (arith, read.moves, read.within, at.early)

  goes : Reached text q (n + 1)
  goes = record { sound = read.stays; early = omega (arith, read.moves, at.early) }

  left : length text - n ≡ calls text (n + 1)
  left = omega (arith, fewer)

  items_more : items_left text r n ≡ i ∷ items_left text q (n + 1)
  items_more = items_given text r (length text - n) e ∙ ap (λ (k : ℕ). i ∷ items_from k text q) left

  ending_more : ending_from (calls text n) text r ≡ ending_from (calls text (n + 1)) text q
  ending_more = ending_given text r (length text - n) e ∙ ap (λ (k : ℕ). ending_from k text q) left

-- ---- counting

pub counts_none : (text : List ℕ) {r : Reader} → r ≡ fresh_reader → Counts text r 0
counts_none text {r} e =
    record {
      reached = reached_none text e;
      total = zero-add (length (items_left text r 0)) ∙ ap length (items_all text e);
      ends = ending_all text e;
    }

module _ (text : List ℕ) {r q : Reader} {n : ℕ} (c : Counts text r n) where
  pub counts_more : {i : ParsedItem} → next_item text r ≡ next q (item i) → Counts text q (n + 1)
  counts_more e =
      let t : n + length (items_left text r n) ≡ length (items_of text) = c.total in
      let z : length (items_left text r n) ≡ suc (length (items_left text q (n + 1))) = ap length (items_more text c.reached e) in
      record { reached = goes text c.reached e; total = omega arith; ends = sym (ending_more text c.reached e) ∙ c.ends }

  module _ {f : Refusal} (e : next_item text r ≡ next q (refused f)) where
    pub counts_all : n ≡ length (items_of text)
    counts_all =
        let t : n + length (items_left text r n) ≡ length (items_of text) = c.total in
        let z : length (items_left text r n) ≡ 0 = ap length (items_refused text r (length text - n) e) in
        omega arith

    pub counts_ends : ending_by text r f ≡ ending_of text
    counts_ends = sym (ending_refused text r (length text - n) e) ∙ c.ends

-- ---- filling

pub words_length : (i : ParsedItem) → length (item_words i) ≡ 4
words_length (Atom p n) = refl
words_length (ListStart p) = refl
words_length (ListEnd p) = refl

pub fills_none : (text w₀ : List ℕ) {r : Reader} → r ≡ fresh_reader → 4 * length (items_of text) ≤ length w₀ → Fills text w₀ r w₀ 0
fills_none text w₀ e h =
    record {
      reached = reached_none text e;
      same = refl;
      room = subst (λ (l : List ParsedItem). 4 * (0 + length l) ≤ length w₀) (sym (items_all text e)) (omega (arith, h));
      gives = ap (λ (l : List ParsedItem). pasted w₀ 0 (all_words l)) (items_all text e);
    }

module _ (text w₀ : List ℕ) {r q : Reader} {words : List ℕ} {n : ℕ} (f : Fills text w₀ r words n) where
  pub fills_all : {x : Refusal} → next_item text r ≡ next q (refused x) → words ≡ pasted w₀ 0 (all_words (items_of text))
  unfolding all_words
  fills_all e =
      sym (pasted_none words (4 * n))
      ∙ ap (λ (l : List ParsedItem). pasted words (4 * n) (all_words l)) (sym (items_refused text r (length text - n) e))
      ∙ f.gives

  module _ {i : ParsedItem} (e : next_item text r ≡ next q (item i)) where
    counted : length (items_left text r n) ≡ suc (length (items_left text q (n + 1)))
    counted = ap length (items_more text f.reached e)

    pub fills_room : 4 * (n + 1) ≤ length words
    fills_room = omega (arith, counted, f.room, f.same)

    pub fills_more : {now : List ℕ} → now ≡ pasted words (4 * n) (item_words i) → length now ≡ length words → Fills text w₀ q now (n + 1)
    unfolding all_words
    fills_more {now} z s =
        let rest = all_words (items_left text q (n + 1)) in
        let here : 4 * n + length (item_words i) ≤ length words = subst (λ (k : ℕ). 4 * n + k ≤ length words) (sym (words_length i)) (omega (arith, fills_room)) in
        let behind : 4 * (n + 1) ≡ 4 * n + length (item_words i) = omega (arith, words_length i) in
        record {
          reached = goes text f.reached e;
          same = s ∙ f.same;
          room = omega (arith, counted, f.room);
          gives =
              ap (λ (l : List ℕ). pasted l (4 * (n + 1)) rest) z
              ∙ ap (λ (k : ℕ). pasted (pasted words (4 * n) (item_words i)) k rest) behind
              ∙ pasted_more words (4 * n) (item_words i) here rest
              ∙ ap (λ (l : List ParsedItem). pasted words (4 * n) (all_words l)) (sym (items_more text f.reached e))
              ∙ f.gives;
        }
