-- Laws of reading on in a script: what was read twice is the one front behind the other; and a line of numbers is read number by number.
use Rattle.std.proofs.Common.{length, ◌<◌, ◌≡◌, ◌∙◌, refl, sym, ap, subst, List, [], ◌∷◌, ◌++◌, ℕ, arith, append_assoc, length-append}
use Rattle.std.specs.Borrow.{Bor}
use Rattle.script.specs.Onward.{Onward}
use Rattle.script.specs.Numbers.{number_meant, Number, Field, Line, LetterLine, Each}
use Rattle.script.specs.Script.{TextFrom, CallFrom, TreeFrom, NumbersFrom}
use Rattle.script.specs.declared.TextCase.{TextCase}
use Rattle.script.specs.declared.WriterCase.{WriterCase}
use Rattle.sise_serializer.specs.declared.calls.Call.{Call}
use Rattle.script.specs.declared.tree.TreeCalls.{TreeCalls}

pub onward_both : {s t u : List ℕ} → Onward s t → Onward t u → Onward s u
onward_both {s} {t} {u} p q = record {
  front = p.front ++ q.front;
  some = (let l = p.some in rw length-append (omega arith));
  joined = p.joined ∙ ap (λ (x : List ℕ). p.front ++ x) q.joined ∙ sym (append_assoc p.front q.front u);
}

pub onward_byte : {s t : List ℕ} (byte : ℕ) → s ≡ byte ∷ t → Onward s t
onward_byte byte e = record { front = byte ∷ []; some = omega arith; joined = e }

-- what stands behind some bytes and the line end after them is read behind them
onward_past : {s : List ℕ} (text u : List ℕ) → Onward s (text ++ 10 ∷ u) → Onward s u
onward_past [] u p = onward_both p (onward_byte 10 refl)
onward_past {s} (b ∷ text) u p = onward_past {s = s} text u (onward_both p (onward_byte b refl))

-- less is left than there was
pub onward_shorter : {s t : List ℕ} → Onward s t → length t < length s
onward_shorter {s} {t} p =
    let l = p.some in rw p.joined (rw length-append (omega arith))

-- a line, from its last number to its first
pub line_last : {s t u : List ℕ} {n : ℕ} → Number 10 s n t → t ≡ u → Line (32 ∷ s) (n ∷ []) u
unfolding Line
line_last {s} {t} {u} {n} p e = (s, refl, subst (λ (x : List ℕ). Number 10 s n x) e p)

pub line_one : {s t : List ℕ} {n m : ℕ} → Field 10 s n t → n ≡ m → Line s (m ∷ []) t
unfolding Line
line_one {s} {t} p e = subst (λ (x : ℕ). Field 10 s x t) e p

pub line_first : {s t : List ℕ} (u : List ℕ) {n m : ℕ} (k : ℕ) (ns : List ℕ) → Field 32 s n t → m ≡ n → Line (32 ∷ t) (k ∷ ns) u → Line s (m ∷ k ∷ ns) u
unfolding Line
line_first {s} {t} u k ns p e l = (t, subst (λ (x : ℕ). Field 32 s x t) (sym e) p, l)

pub line_more : {s t : List ℕ} (u : List ℕ) {n m : ℕ} (k : ℕ) (ns : List ℕ) → Number 32 s n t → m ≡ n → Line (32 ∷ t) (k ∷ ns) u → Line (32 ∷ s) (m ∷ k ∷ ns) u
line_more u k ns p e l = line_first u k ns (_, refl, p) e l

-- a number more
pub each_more : (ms s : List ℕ) {t u : List ℕ} {n m : ℕ} → Each s ms t → Number 32 t n u → m ≡ number_meant n → Each s (ms ++ (m ∷ [])) u
unfolding Each
each_more [] s {t} {u} {n} p q e = (n, u, subst (λ (x : List ℕ). Number 32 x n u) (sym p) q, e, refl)
each_more (k ∷ ms) s p q e = (p.0, p.1, p.2, p.3, each_more ms p.1 p.4 q e)

-- what stands behind a line
pub number_past : {end n : ℕ} {s t : List ℕ} → Number end s n t → Onward s t
number_past {end} {n} {s} {t} p = onward_both (record { front = p.digits; some = p.numeral.0; joined = p.joined }) (onward_byte end refl)

pub field_past : {end n : ℕ} {s t : List ℕ} → Field end s n t → Onward s t
field_past p = onward_both (onward_byte 32 p.1) (number_past p.2)

pub line_past : {s u : List ℕ} (ns : List ℕ) → Line s ns u → Onward s u
unfolding Line
line_past [] l = absurd l
line_past (n ∷ []) l = field_past l
line_past (n ∷ m ∷ ns) l =
    let p = l.1.2 in
    onward_both (onward_byte 32 l.1.1) (onward_both (record { front = p.digits; some = p.numeral.0; joined = p.joined }) (line_past (m ∷ ns) l.2))

letter_past : {letter : ℕ} {s u : List ℕ} (ns : List ℕ) → LetterLine letter s ns u → Onward s u
letter_past {letter} ns l = onward_both (onward_byte letter l.1) (line_past ns l.2)

pub text_past : {s : List ℕ} (u : List ℕ) {most : ℕ} (case : TextCase) → TextFrom s u most case → Onward s u
text_past u case p = onward_past case.text.now u (line_past _ p.0)

-- of a style the line alone is asked, and not that its strings are short
pub style_past :
    {s : List ℕ} (u : List ℕ) (case : WriterCase)
    → Line s (case.room ∷ length case.style.line_break.now ∷ length case.style.indentation.now ∷ case.calls ∷ []) (case.style.line_break.now ++ case.style.indentation.now ++ 10 ∷ u)
    → Onward s u
style_past u case p = onward_past (case.style.line_break.now ++ case.style.indentation.now) u (line_past _ p)

pub call_past : {s : List ℕ} (u : List ℕ) (call : Call) → CallFrom s u call → Onward s u
call_past u (Call.PutAtom atom n) p = onward_past atom.now u (letter_past _ p.2)
call_past u (Call.BeginList n) p = letter_past _ p.2
call_past u Call.EndList p = letter_past _ p
call_past u (Call.Finish b) p = letter_past _ p

each_past : {s u : List ℕ} (ms t : List ℕ) → Onward s t → Each t ms u → Onward s u
unfolding Each
each_past {s} [] t p q = subst (Onward s) q p
each_past (m ∷ ms) t p q = each_past ms q.1 (onward_both p (number_past q.2)) q.4

pub numbers_past : {s : List ℕ} (u : List ℕ) {most : ℕ} (numbers : Bor (List ℕ)) → NumbersFrom s u most numbers → Onward s u
numbers_past u numbers p = onward_both (each_past numbers.now p.0 (number_past p.1) p.2) (onward_byte 10 refl)

pub tree_past : {s : List ℕ} (u : List ℕ) (calls : TreeCalls) → TreeFrom s u calls → Onward s u
tree_past u calls p = letter_past _ p.2
