-- The mark, the text and the line end stand one behind the other, or nothing is put.
use Rattle.std.proofs.Common.{◌≡◌, ◌∙◌, sym, ap, [], ◌∷◌, ◌++◌, List, ℕ, Option, None, Some}
use Rattle.std.specs.Borrow.{Bor}
use Rattle.lines.specs.Put.{Output, put, text_line}
use Rattle.lines.proofs.Laws.{put_both}
use Rattle.lines.proofs.Printer.put_text.Goals as goal

line : (o : Output) {p q s : Output} (mark : List ℕ) (text : Bor (List ℕ)) {t : Option (Bor (List ℕ))} → t ≡ Some text → p ≡ put o mark → q ≡ put p text.now
    → s ≡ put q (10 ∷ []) → s ≡ put o (text_line mark t)
unfolding text_line
line o mark text e f g h = put_both o (mark ++ text.now) (10 ∷ []) (put_both o mark text.now f g) h ∙ ap (λ (x : Option (Bor (List ℕ))). put o (text_line mark x)) (sym e)

nothing : (o : Output) (mark : List ℕ) {t : Option (Bor (List ℕ))} → t ≡ None → o ≡ put o (text_line mark t)
unfolding put text_line
nothing o mark e = ap (λ (x : Option (Bor (List ℕ))). put o (text_line mark x)) (sym e)

pub returns-in-Some : goal.returns-in-Some
returns-in-Some c = line _ _ _ c.in-Some.is c.put_bytes.ensures c.put_bytes-in-Some.ensures c.put_byte.ensures

pub returns-in_default : goal.returns-in_default
returns-in_default c = nothing _ _ c.in_default.is
