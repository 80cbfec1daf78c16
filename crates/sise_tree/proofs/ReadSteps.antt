-- What a call that gives an item does to the reader; that a reading never runs out of its bound on the items, since each moves the position; and an
-- induction over the readings that come to a node.
-- Assumes nothing.
use Prim.Native.Nat.{ℕ, zero, suc, ◌+◌, ◌≤◌, ◌<◌}
use native.Mathlib.Omega.{arith}
use mathlib.Core.Path.{◌≡◌, refl, sym, ap, ◌∙◌, subst}
use mathlib.Core.Bool.{Bool, true, false, false≢true}
use mathlib.Core.List.{List}
use lib.Dec.{eqb}
use lib.ListN.{length, drop}
use borrow.Author.Tests.{leb-true, eqb-true}
use Rattle.sise_parser.specs.Refusals.{Refusal}
use Rattle.sise_parser.specs.Lexer.{Lexed, found, bad, eof, opening, closing, atom, between}
use Rattle.sise_parser.specs.Reader.{lists_fit, is_sound, Answer, item, refused, Next, next, closed, token_at, in_beginning, in_parsing, next_item}
use Rattle.sise_parser.specs.Meaning.{answer_as, next_as}
use Rattle.std.specs.Prelude.{Result}
use Rattle.sise_parser.specs.declared.error.ParseError.{ParseError}
use Rattle.sise_parser.specs.declared.reader.Next.{Next as ReaderNext}
use Rattle.sise_parser.specs.declared.reader.Phase.{Phase}
use Rattle.sise_parser.specs.declared.reader.Phase.TheVariants.{Beginning, Parsing, Finishing}
use Rattle.sise_parser.specs.declared.reader.Reader.{Reader}
use Rattle.sise_parser.specs.declared.reader.ParsedItem.{ParsedItem}
use Rattle.sise_parser.specs.declared.reader.ParsedItem.TheVariants.{Atom, ListStart, ListEnd}
use Rattle.sise_parser.proofs.Placed.{Placed, token_placed}
use Rattle.sise_parser.proofs.Calls.{Sound, sound_parts, next_unsound, next_finishing, next_beginning, next_parsing}
use Rattle.sise_parser.proofs.ReaderLaws.{is_item, stays_sound, item_moves}
use Rattle.sise_tree.specs.Tree.{Node}
use Rattle.sise_tree.specs.Filling.{reader_of}
use Rattle.sise_tree.specs.ParseTree.{Frames, top, Stage, inside, whole, closes, turn, ReadNode, got, stopped, read_stage, read_answer, read_from, read_node}

abbrev pub begins : Phase → Bool
begins Beginning = true
begins Parsing = false
begins Finishing = false

-- a sound record with a list open is parsing
pub sound_parsing : (n : ℕ) (r : Reader) → is_sound n r ≡ true → 0 < r.lists → r.phase ≡ Parsing
sound_parsing n r h o = go r.phase refl
  where
    fit : {f : Phase} → r.phase ≡ f → lists_fit f r.lists ≡ true
    fit p = ap (λ (f : Phase). lists_fit f r.lists) (sym p) ∙ (sound_parts n r h).fit

    go : (f : Phase) → r.phase ≡ f → r.phase ≡ Parsing
    go Beginning p = absurd (omega (arith, eqb-true r.lists 0 (fit p)))
    go Parsing p = p
    go Finishing p = absurd (omega (arith, eqb-true r.lists 0 (fit p)))

-- what an item says of the record q that comes with it, where k lists were open
abbrev Leaves : ℕ → Reader → Answer → Type 0
Leaves k q (item (Atom p n)) = (p + n ≡ q.position) × (q.lists ≡ k) × (begins q.phase ≡ false)
Leaves k q (item (ListStart p)) = (q.lists ≡ k + 1) × (begins q.phase ≡ false)
Leaves k q (item (ListEnd p)) = (q.lists + 1 ≡ k) × (begins q.phase ≡ false)
Leaves k q (refused e) = Unit {0}

leaves_beginning : (p n : ℕ) (x : Lexed) → Placed p n x → Leaves 0 (in_beginning 0 x).reader (in_beginning 0 x).answer
unfolding in_beginning
leaves_beginning p n (bad e q) h = tt
leaves_beginning p n (found eof s q) h = tt
leaves_beginning p n (found opening s q) h = (refl, refl)
leaves_beginning p n (found closing s q) h = tt
leaves_beginning p n (found (atom k) s q) h = let d : (1 ≤ k) × (s + k ≡ q) = h.2 in (omega arith, refl, refl)

leaves_closed : (k q : ℕ) → 1 ≤ k → ((closed q k).lists + 1 ≡ k) × (begins (closed q k).phase ≡ false)
leaves_closed k q h = go (eqb k 1) refl
  where
    go : (b : Bool) → eqb k 1 ≡ b → ((closed q k).lists + 1 ≡ k) × (begins (closed q k).phase ≡ false)
    go true e = rw e (sym (eqb-true k 1 e), refl)
    go false e = rw e (omega arith, refl)

leaves_parsing : (p n k : ℕ) (x : Lexed) → 1 ≤ k → Placed p n x → Leaves k (in_parsing k x).reader (in_parsing k x).answer
unfolding in_parsing
leaves_parsing p n k (bad e q) o h = tt
leaves_parsing p n k (found eof s q) o h = tt
leaves_parsing p n k (found opening s q) o h = (refl, refl)
leaves_parsing p n k (found closing s q) o h = leaves_closed k q o
leaves_parsing p n k (found (atom m) s q) o h = let d : (1 ≤ m) × (s + m ≡ q) = h.2 in (omega arith, refl, refl)

-- what a call that gave an item does
pub record Took (text : List ℕ) (r q : Reader) (i : ParsedItem) : Type 0 where
  pub sound : is_sound (length text) r ≡ true
  pub stays : is_sound (length text) q ≡ true
  pub moves : r.position < q.position
  pub within : q.position ≤ length text
  pub leaves : Leaves r.lists q (item i)

module _ (text : List ℕ) (r : Reader) {q : Reader} {i : ParsedItem} (e : next_item text r ≡ next q (item i)) where
  was_sound : is_sound (length text) r ≡ true
  was_sound = go (is_sound (length text) r) refl
    where
      go : (b : Bool) → is_sound (length text) r ≡ b → b ≡ true
      go true h = refl
      go false h = absurd (false≢true (ap (λ (x : Next). is_item x.answer) (next_unsound text r h ∙ e)))

  is_sound_lem : is_sound (length text) q ≡ true
  is_sound_lem = subst (λ (x : Next). is_sound (length text) x.reader ≡ true) e (stays_sound text r was_sound)

  leaves : Leaves r.lists q (item i)
  unfolding token_at
  leaves = subst (λ (x : Next). Leaves r.lists x.reader x.answer) e (go r.phase refl)
    where
      s : Sound (length text) r
      s = sound_parts (length text) r was_sound

      x : Lexed
      x = between (drop r.position text) r.position

      placed : Placed r.position (length text) x
      placed = token_placed text r.position s.within

      go : (f : Phase) → r.phase ≡ f → Leaves r.lists (next_item text r).reader (next_item text r).answer
      go Beginning p =
          let z : r.lists ≡ 0 = eqb-true r.lists 0 (ap (λ (f : Phase). lists_fit f r.lists) (sym p) ∙ s.fit) in
          subst (λ (x : Next). Leaves r.lists x.reader x.answer) (ap (λ (k : ℕ). in_beginning k x) (sym z) ∙ next_beginning text r was_sound p refl)
          (rw z (leaves_beginning r.position (length text) x placed))
      go Parsing p =
          let k : 1 ≤ r.lists = leb-true 1 r.lists (ap (λ (f : Phase). lists_fit f r.lists) (sym p) ∙ s.fit) in
          subst (λ (x : Next). Leaves r.lists x.reader x.answer) (next_parsing text r was_sound p refl)
          (leaves_parsing r.position (length text) r.lists x k placed)
      go Finishing p = subst (λ (x : Next). Leaves r.lists x.reader x.answer) (next_finishing text r was_sound p) tt

  pub took : Took text r q i
  took =
      record {
        sound = was_sound;
        stays = is_sound_lem;
        moves = subst (λ (x : Next). r.position < x.reader.position) e (item_moves text r was_sound (ap (λ (x : Next). is_item x.answer) e));
        within = (sound_parts (length text) q is_sound_lem).within;
        leaves = leaves;
      }

-- ---- the bound on the items

-- k items are more than a text can have from r on
record Enough (text : List ℕ) (r : Reader) (k : ℕ) : Type 0 where
  some : 1 ≤ k
  left : is_sound (length text) r ≡ true → length text < r.position + k

stage_same : {on on' : Frames → ReadNode} (q : Reader) → ((f : Frames) → on f ≡ on' f) → (s : Stage) → read_stage on q s ≡ read_stage on' q s
unfolding read_stage
stage_same q h (inside f) = h f
stage_same q h (whole n) = refl
stage_same q h (closes p) = refl

one_less : (text : List ℕ) (r : Reader) {q : Reader} {i : ParsedItem} {k : ℕ} → next_item text r ≡ next q (item i) → Enough text r (suc k) → Enough text q k
one_less text r {q} {k = k} e h =
    let t = took text r e in
    let l = h.left t.sound in
    record { some = omega (arith, t.moves, t.within); left = λ s. omega (arith, t.moves) }

abbrev Same : List ℕ → ℕ → ℕ → Type 0
Same text k m = (r : Reader) (f : Frames) → Enough text r k → Enough text r m → read_from k text r f ≡ read_from m text r f

fuel_step :
    (text : List ℕ) (k m : ℕ) → Same text k m → (r : Reader) (f : Frames) → Enough text r (suc k) → Enough text r (suc m)
    → (q : Reader) (a : Answer) → next_item text r ≡ next q a → read_answer text (read_from k text q) q f a ≡ read_answer text (read_from m text q) q f a
unfolding read_answer
fuel_step text k m h r f hk hm q (item i) e = stage_same q (λ g. h q g (one_less text r e hk) (one_less text r e hm)) (turn text f i)
fuel_step text k m h r f hk hm q (refused x) e = refl

-- as soon as it is enough, the bound makes no difference
fuel : (text : List ℕ) (k m : ℕ) → Same text k m
unfolding read_from
fuel text zero m r f hk hm = absurd (omega (arith, hk.some))
fuel text (suc k) zero r f hk hm = absurd (omega (arith, hm.some))
fuel text (suc k) (suc m) r f hk hm = fuel_step text k m (fuel text k m) r f hk hm (next_item text r).reader (next_item text r).answer refl

-- reading on, with any lists open, by the bound that read_node takes
abbrev pub read_on : List ℕ → Reader → Frames → ReadNode
read_on text r f = read_from (suc (length text)) text r f

whole_text : (text : List ℕ) (r : Reader) (k : ℕ) → length text < k → Enough text r k
whole_text text r k h = record { some = omega arith; left = λ s. omega arith }

-- a larger bound gives the same
pub more_fuel : (text : List ℕ) (r : Reader) (k : ℕ) → length text < k → read_from k text r top ≡ read_node text r
unfolding read_node
more_fuel text r k h = fuel text k (suc (length text)) r top (whole_text text r k h) (whole_text text r (suc (length text)) (omega arith))

pub read_item :
    (text : List ℕ) (r : Reader) (f : Frames) {q : Reader} {i : ParsedItem} → next_item text r ≡ next q (item i)
    → read_on text r f ≡ read_stage (read_on text q) q (turn text f i)
unfolding read_from read_answer
read_item text r f {q} {i} e =
    ap (λ (x : Next). read_answer text (read_from (length text) text x.reader) x.reader f x.answer) e
    ∙ stage_same q
    (λ g. fuel text (length text) (suc (length text)) q g (one_less text r e (whole_text text r (suc (length text)) (omega arith))) (whole_text text q (suc (length text)) (omega arith)))
    (turn text f i)

pub read_refused :
    (text : List ℕ) (r : Reader) (f : Frames) {q : Reader} {x : Refusal} → next_item text r ≡ next q (refused x) → read_on text r f ≡ stopped x q
unfolding read_from read_answer
read_refused text r f e = ap (λ (x : Next). read_answer text (read_from (length text) text x.reader) x.reader f x.answer) e

-- what the code's call says, where its answer is known
pub called : (x : ReaderNext) {a : Result ParsedItem ParseError} {y : Next} → next_as x ≡ y → x.answer ≡ a → y ≡ next x.reader (answer_as a)
called x e d = sym e ∙ ap (λ (b : Result ParsedItem ParseError). next x.reader (answer_as b)) d

-- ---- a reading that comes to a node

abbrev is_got : ReadNode → Bool
is_got (got n q) = true
is_got (stopped e q) = false

pub stopped_got : {A : Type 0} {e : Refusal} {r q : Reader} {n : Node} → stopped e r ≡ got n q → A
stopped_got h = absurd (false≢true (ap is_got h))

abbrev pub node_in : Node → ReadNode → Node
node_in m (got n q) = n
node_in m (stopped e q) = m

-- a stage on the way is the node, or it is read on from there
pub stage_got :
    {C : Type 0} {on : Frames → ReadNode} {r q : Reader} {n : Node} (s : Stage) → read_stage on r s ≡ got n q
    → ((f : Frames) → s ≡ inside f → on f ≡ got n q → C) → (s ≡ whole n → r ≡ q → C) → C
unfolding read_stage
stage_got (inside f) h k j = k f refl h
stage_got (whole m) h k j = j (ap (λ (x : ReadNode). whole (node_in m x)) h) (ap reader_of h)
stage_got (closes p) h k j = stopped_got h

answer_got :
    {C : Type 0} (text : List ℕ) (on : Frames → ReadNode) (r : Reader) {q : Reader} {n : Node} (f : Frames) (a : Answer) → read_answer text on r f a ≡ got n q
    → ((i : ParsedItem) → a ≡ item i → read_stage on r (turn text f i) ≡ got n q → C) → C
unfolding read_answer
answer_got text on r f (item i) h k = k i refl h
answer_got text on r f (refused e) h k = stopped_got h

-- P holds of the open lists and the record from which reading on comes to n and leaves q: where the next item makes it whole, and where it leads to
-- lists and a record of which P holds
pub record Leads (text : List ℕ) (n : Node) (q : Reader) (P : Frames → Reader → Type 0) : Type 0 where
  pub ended : (f : Frames) (r : Reader) (i : ParsedItem) → next_item text r ≡ next q (item i) → turn text f i ≡ whole n → P f r
  pub went : (f g : Frames) (r s : Reader) (i : ParsedItem) → next_item text r ≡ next s (item i) → turn text f i ≡ inside g → P g s → P f r

pub leads : (text : List ℕ) {n : Node} {q : Reader} {P : Frames → Reader → Type 0} → Leads text n q P → (k : ℕ) (f : Frames) (r : Reader) → read_from k text r f ≡ got n q → P f r
unfolding read_from
leads text l zero f r h = stopped_got h
leads text {q = q} l (suc k) f r h =
    let s = (next_item text r).reader in
    answer_got text (read_from k text s) s f (next_item text r).answer h λ i a t.
    stage_got (turn text f i) t
    (λ g w more. l.went f g r s i (ap (next s) a) w (leads text l k g s more))
    (λ w z. l.ended f r i (ap (next s) a ∙ ap (λ (x : Reader). next x (item i)) z) w)
