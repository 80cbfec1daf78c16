-- The reader's record over whole readings: a sound record stays sound, an accepted item moves the position, so that n bytes give at most n items; and on
-- valid UTF-8 no call is refused with 8, so that request 2.7 changes nothing there.
-- Assumes nothing.
use mathlib.Core.Path.{◌≡◌, refl, sym, ap, ◌∙◌, subst}
use mathlib.Core.Bool.{Bool, true, false, cond, false≢true}
use mathlib.Core.List.{List}
use Prim.Native.Nat.{ℕ, zero, suc, ◌+◌, ◌-◌, ◌≤◌, ◌<◌, zero-le}
use native.Mathlib.Nat.{le_refl}
use native.Mathlib.Omega.{arith}
use lib.Dec.{eqb}
use lib.ListN.{length, drop}
use borrow.Author.Tests.{le-leb, leb-true, eqb-true, eqb-false, ne_eqb}
use Rattle.sise_util.proofs.Ranges.{split}
use Rattle.sise_util.specs.Utf8.{Utf8Octets}
use Rattle.sise_parser.specs.Lexer.{Lexed, found, bad, eof, opening, closing, atom, between}
use Rattle.sise_parser.specs.Reader.{reader, fresh_reader, lists_fit, is_sound, Answer, item, refused, Next, next, closed, token_at, in_beginning, in_parsing, next_item, after_calls, Ending, ended, not_ended, ends_at, finish_in, finish_reading}
use Rattle.sise_parser.specs.declared.reader.Phase.{Phase}
use Rattle.sise_parser.specs.declared.reader.Phase.TheVariants.{Beginning, Parsing, Finishing}
use Rattle.sise_parser.specs.declared.reader.Reader.{Reader}
use Rattle.sise_parser.proofs.Placed.{Placed, token_placed}
use Rattle.sise_parser.proofs.Calls.{Sound, sound_parts, next_finishing, next_beginning, next_parsing}
use Rattle.sise_parser.proofs.Utf8Borders.{Border, Bordered, token_border}

-- an item was read
abbrev pub is_item : Answer → Bool
is_item (item i) = true
is_item (refused e) = false

-- what a call leaves, of a record whose position was p, over a text of n bytes
record Step (n p : ℕ) (x : Next) : Type 0 where
  sound : is_sound n x.reader ≡ true
  forward : p ≤ x.reader.position
  moved : is_item x.answer ≡ true → p < x.reader.position

pub fresh_sound : (n : ℕ) → is_sound n fresh_reader ≡ true
unfolding is_sound
fresh_sound n = rw (le-leb 0 n zero-le)

sound_of : (n p : ℕ) (f : Phase) (k : ℕ) → p ≤ n → k ≤ p → lists_fit f k ≡ true → is_sound n (reader p f k) ≡ true
unfolding is_sound
sound_of n p f k h o e = rw (le-leb p n h, le-leb k p o) e

no_item : {A : Type 0} → false ≡ true → A
no_item e = absurd (false≢true e)

-- with no list open, before the first item
step_beginning : (n p : ℕ) (x : Lexed) → Placed p n x → Step n p (in_beginning 0 x)
unfolding in_beginning
step_beginning n p (bad e q) h = record { sound = sound_of n q Beginning 0 h.1 zero-le refl; forward = h.0; moved = no_item }
step_beginning n p (found eof s q) h =
    let d : s ≡ q = h.2 in
    record { sound = sound_of n q Beginning 0 h.1 zero-le refl; forward = omega (arith, h.0); moved = no_item }
step_beginning n p (found opening s q) h =
    let d : s + 1 ≡ q = h.2 in
    record { sound = sound_of n q Parsing 1 h.1 (omega arith) refl; forward = omega (arith, h.0); moved = λ e. omega (arith, h.0) }
step_beginning n p (found closing s q) h =
    let d : s + 1 ≡ q = h.2 in
    record { sound = sound_of n q Beginning 0 h.1 zero-le refl; forward = omega (arith, h.0); moved = no_item }
step_beginning n p (found (atom k) s q) h =
    let d : (1 ≤ k) × (s + k ≡ q) = h.2 in
    record { sound = sound_of n q Finishing 0 h.1 zero-le refl; forward = omega (arith, h.0); moved = λ e. omega (arith, h.0) }

-- with k lists open, k at most the position
step_closed : (n p k s q : ℕ) → 1 ≤ k → k ≤ p → p ≤ s → s + 1 ≡ q → q ≤ n → is_sound n (closed q k) ≡ true
step_closed n p k s q a b c d e =
    split (eqb k 1)
    (λ t. subst (λ (r : Reader). is_sound n r ≡ true) (sym (ap (λ (v : Bool). cond v (reader q Finishing 0) (reader q Parsing (k - 1))) t)) (sound_of n q Finishing 0 e zero-le refl))
    (λ t.
    subst (λ (r : Reader). is_sound n r ≡ true) (sym (ap (λ (v : Bool). cond v (reader q Finishing 0) (reader q Parsing (k - 1))) t))
    (sound_of n q Parsing (k - 1) e (omega arith) (le-leb 1 (k - 1) (two (eqb-false k 1 t)))))
  where
    two : (k ≡ 1 → ⊥) → 1 ≤ k - 1
    two m = omega arith

closed_position : (q k : ℕ) → (closed q k).position ≡ q
closed_position q k =
    split (eqb k 1)
    (λ t. ap (λ (v : Bool). (cond v (reader q Finishing 0) (reader q Parsing (k - 1))).position) t)
    (λ t. ap (λ (v : Bool). (cond v (reader q Finishing 0) (reader q Parsing (k - 1))).position) t)

step_parsing : (n p k : ℕ) (x : Lexed) → 1 ≤ k → k ≤ p → Placed p n x → Step n p (in_parsing k x)
unfolding in_parsing
step_parsing n p k (bad e q) a b h = record { sound = sound_of n q Parsing k h.1 (omega (arith, h.0)) (le-leb 1 k a); forward = h.0; moved = no_item }
step_parsing n p k (found eof s q) a b h =
    let d : s ≡ q = h.2 in
    record { sound = sound_of n q Parsing k h.1 (omega (arith, h.0)) (le-leb 1 k a); forward = omega (arith, h.0); moved = no_item }
step_parsing n p k (found opening s q) a b h =
    let d : s + 1 ≡ q = h.2 in
    record { sound = sound_of n q Parsing (k + 1) h.1 (omega (arith, h.0)) (le-leb 1 (k + 1) (omega arith)); forward = omega (arith, h.0); moved = λ e. omega (arith, h.0) }
step_parsing n p k (found closing s q) a b h =
    let d : s + 1 ≡ q = h.2 in
    let c : (closed q k).position ≡ q = closed_position q k in
    record { sound = step_closed n p k s q a b h.0 d h.1; forward = omega (arith, h.0); moved = λ e. omega (arith, h.0) }
step_parsing n p k (found (atom m) s q) a b h =
    let d : (1 ≤ m) × (s + m ≡ q) = h.2 in
    record { sound = sound_of n q Parsing k h.1 (omega (arith, h.0)) (le-leb 1 k a); forward = omega (arith, h.0); moved = λ e. omega (arith, h.0) }

step : (text : List ℕ) (r : Reader) → is_sound (length text) r ≡ true → Step (length text) r.position (next_item text r)
unfolding token_at
step text r h = go r.phase refl
  where
    s : Sound (length text) r
    s = sound_parts (length text) r h

    x : Lexed
    x = between (drop r.position text) r.position

    placed : Placed r.position (length text) x
    placed = token_placed text r.position s.within

    go : (f : Phase) → r.phase ≡ f → Step (length text) r.position (next_item text r)
    go Beginning e =
        let z : r.lists ≡ 0 = eqb-true r.lists 0 (ap (λ (f : Phase). lists_fit f r.lists) (sym e) ∙ s.fit) in
        subst (Step (length text) r.position) (ap (λ (k : ℕ). in_beginning k x) (sym z) ∙ next_beginning text r h e refl)
        (step_beginning (length text) r.position x placed)
    go Parsing e =
        let k : 1 ≤ r.lists = leb-true 1 r.lists (ap (λ (f : Phase). lists_fit f r.lists) (sym e) ∙ s.fit) in
        subst (Step (length text) r.position) (next_parsing text r h e refl) (step_parsing (length text) r.position r.lists x k s.opened placed)
    go Finishing e =
        subst (Step (length text) r.position) (next_finishing text r h e) (record { sound = h; forward = le_refl r.position; moved = no_item })

-- a sound record stays sound
pub stays_sound : (text : List ℕ) (r : Reader) → is_sound (length text) r ≡ true → is_sound (length text) (next_item text r).reader ≡ true
stays_sound text r h = (step text r h).sound

-- and its position never goes back
pub never_back : (text : List ℕ) (r : Reader) → is_sound (length text) r ≡ true → r.position ≤ (next_item text r).reader.position
never_back text r h = (step text r h).forward

-- an accepted item moves the position by at least one byte
pub item_moves : (text : List ℕ) (r : Reader) → is_sound (length text) r ≡ true → is_item (next_item text r).answer ≡ true → r.position < (next_item text r).reader.position
item_moves text r h e = (step text r h).moved e

-- how many of k calls give an item
unfoldable pub items_in : List ℕ → ℕ → Reader → ℕ
items_in text zero r = 0
items_in text (suc k) r = cond (is_item (next_item text r).answer) 1 0 + items_in text k (next_item text r).reader

one_more : (text : List ℕ) (r : Reader) (m : ℕ) → is_sound (length text) r ≡ true → (next_item text r).reader.position + m ≤ length text
    → r.position + (cond (is_item (next_item text r).answer) 1 0 + m) ≤ length text
one_more text r m h rest = counted (is_item (next_item text r).answer) refl
  where
    counted : (b : Bool) → is_item (next_item text r).answer ≡ b → r.position + (cond b 1 0 + m) ≤ length text
    counted true e = let f : r.position < (next_item text r).reader.position = item_moves text r h e in omega arith
    counted false e = let f : r.position ≤ (next_item text r).reader.position = never_back text r h in omega arith

within_text : (text : List ℕ) (k : ℕ) (r : Reader) → is_sound (length text) r ≡ true → r.position + items_in text k r ≤ length text
unfolding items_in
within_text text zero r h = let w : r.position ≤ length text = (sound_parts (length text) r h).within in omega arith
within_text text (suc k) r h = one_more text r _ h (within_text text k (next_item text r).reader (stays_sound text r h))

-- "A reader over n bytes gives at most n items", however often it is asked
pub at_most_n_items : (text : List ℕ) (k : ℕ) → items_in text k fresh_reader ≤ length text
at_most_n_items text k = let w : 0 + items_in text k fresh_reader ≤ length text = within_text text k fresh_reader (fresh_sound (length text)) in omega arith

-- on valid UTF-8

-- an answer that is not 8
abbrev pub NotIllFormed : Answer → Type 0
NotIllFormed (item i) = Unit {0}
NotIllFormed (refused e) = e.number ≡ 8 → ⊥

record OnBorder (text : List ℕ) (x : Next) : Type 0 where
  border : Border text x.reader.position
  answered : NotIllFormed x.answer

not_eight : (n : ℕ) → n < 8 → n ≡ 8 → ⊥
not_eight n h e = omega arith

border_beginning : (text : List ℕ) (n : ℕ) (x : Lexed) → Bordered text x → OnBorder text (in_beginning n x)
unfolding in_beginning
border_beginning text n (bad e q) h = record { border = h.1; answered = not_eight e.number h.0 }
border_beginning text n (found eof s q) h = record { border = h; answered = λ e. omega arith }
border_beginning text n (found opening s q) h = record { border = h; answered = tt }
border_beginning text n (found closing s q) h = record { border = h; answered = λ e. omega arith }
border_beginning text n (found (atom k) s q) h = record { border = h; answered = tt }

border_parsing : (text : List ℕ) (n : ℕ) (x : Lexed) → Bordered text x → OnBorder text (in_parsing n x)
unfolding in_parsing
border_parsing text n (bad e q) h = record { border = h.1; answered = not_eight e.number h.0 }
border_parsing text n (found eof s q) h = record { border = h; answered = λ e. omega arith }
border_parsing text n (found opening s q) h = record { border = h; answered = tt }
border_parsing text n (found closing s q) h = record { border = subst (Border text) (sym (closed_position q n)) h; answered = tt }
border_parsing text n (found (atom k) s q) h = record { border = h; answered = tt }

on_border : (text : List ℕ) (r : Reader) → is_sound (length text) r ≡ true → Border text r.position → OnBorder text (next_item text r)
unfolding token_at
on_border text r h v = go r.phase refl
  where
    x : Lexed
    x = between (drop r.position text) r.position

    go : (f : Phase) → r.phase ≡ f → OnBorder text (next_item text r)
    go Beginning e = subst (OnBorder text) (next_beginning text r h e refl) (border_beginning text r.lists x (token_border text r.position v))
    go Parsing e = subst (OnBorder text) (next_parsing text r h e refl) (border_parsing text r.lists x (token_border text r.position v))
    go Finishing e = subst (OnBorder text) (next_finishing text r h e) (record { border = v; answered = λ e. omega arith })

pub after_sound : (text : List ℕ) (k : ℕ) → is_sound (length text) (after_calls text k) ≡ true
unfolding after_calls
after_sound text zero = fresh_sound (length text)
after_sound text (suc k) = stays_sound text (after_calls text k) (after_sound text k)

-- every position is a border between characters
pub valid_borders : (text : List ℕ) → Utf8Octets text → (k : ℕ) → Border text (after_calls text k).position
unfolding after_calls
valid_borders text v zero = v
valid_borders text v (suc k) = (on_border text (after_calls text k) (after_sound text k) (valid_borders text v k)).border

-- and no call is refused with 8
pub never_8 : (text : List ℕ) → Utf8Octets text → (k : ℕ) → NotIllFormed (next_item text (after_calls text k)).answer
never_8 text v k = (on_border text (after_calls text k) (after_sound text k) (valid_borders text v k)).answered

-- nor is finish
abbrev pub NotIllFormedEnd : Ending → Type 0
NotIllFormedEnd ended = Unit {0}
NotIllFormedEnd (not_ended e) = e.number ≡ 8 → ⊥

end_answered : (text : List ℕ) (x : Lexed) → Bordered text x → NotIllFormedEnd (ends_at x)
unfolding ends_at
end_answered text (bad e q) h = not_eight e.number h.0
end_answered text (found eof s q) h = tt
end_answered text (found opening s q) h = λ e. omega arith
end_answered text (found closing s q) h = λ e. omega arith
end_answered text (found (atom k) s q) h = λ e. omega arith

pub finish_never_8 : (text : List ℕ) → Utf8Octets text → (k : ℕ) → NotIllFormedEnd (finish_reading text (after_calls text k))
unfolding finish_reading finish_in token_at
finish_never_8 text v k = rw (after_sound text k, finish_reading) (go (after_calls text k).phase)
  where
    r : Reader
    r = after_calls text k

    go : (f : Phase) → NotIllFormedEnd (finish_in f text r)
    go Beginning = λ e. omega arith
    go Parsing = λ e. omega arith
    go Finishing = end_answered text (between (drop r.position text) r.position) (token_border text r.position (valid_borders text v k))

-- so request 2.7 changes nothing on valid UTF-8: before it a call left the position after 8 "one byte on" (01), and did all else as now

abbrev one_byte_on : Reader → Answer → Next
one_byte_on r (item i) = next r (item i)
one_byte_on r (refused e) = next (reader (cond (eqb e.number 8) (e.place + 1) r.position) r.phase r.lists) (refused e)

unfoldable pub next_before : List ℕ → Reader → Next
next_before text r = one_byte_on (next_item text r).reader (next_item text r).answer

unfoldable pub after_calls_before : List ℕ → ℕ → Reader
after_calls_before text zero = fresh_reader
after_calls_before text (suc k) = (next_before text (after_calls_before text k)).reader

not_moved : (r : Reader) (a : Answer) → NotIllFormed a → one_byte_on r a ≡ next r a
not_moved r (item i) h = refl
not_moved r (refused e) h = rw (ne_eqb e.number 8 h)

pub valid_as_before : (text : List ℕ) → Utf8Octets text → (k : ℕ) → next_before text (after_calls text k) ≡ next_item text (after_calls text k)
unfolding next_before
valid_as_before text v k = not_moved (next_item text (after_calls text k)).reader (next_item text (after_calls text k)).answer (never_8 text v k)

pub valid_calls_as_before : (text : List ℕ) → Utf8Octets text → (k : ℕ) → after_calls_before text k ≡ after_calls text k
unfolding after_calls_before after_calls
valid_calls_as_before text v zero = refl
valid_calls_as_before text v (suc k) = ap (λ (r : Reader). (next_before text r).reader) (valid_calls_as_before text v k) ∙ ap (λ (x : Next). x.reader) (valid_as_before text v k)
