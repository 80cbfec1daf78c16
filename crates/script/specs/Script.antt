-- What the parts of a script are, and where they lie in it: a part is read from the script's front, and the rest is left.
use Rattle.std.specs.Prelude.{cond, ℕ, ◌≡◌, ◌≤◌, List, [], ◌∷◌, ◌++◌, length}
use Rattle.std.specs.Borrow.{Bor}
use Rattle.script.specs.Numbers.{number_meant, Number, Line, LetterLine, Each}
use Rattle.script.specs.declared.TextCase.{TextCase}
use Rattle.script.specs.declared.WriterCase.{WriterCase}
use Rattle.sise_serializer.specs.declared.calls.Call.{Call}
use Rattle.script.specs.declared.tree.TreeCalls.{TreeCalls}

-- ` N K F`, and the N bytes of a text and a line end; F is no greater than the most
abbrev pub TextFrom : List ℕ → List ℕ → ℕ → TextCase → Type 0
TextFrom script rest most case = Line script (length case.text.now ∷ case.calls ∷ case.last ∷ []) (case.text.now ++ 10 ∷ rest) × (case.last ≤ most)

-- ` R B I K`, and the B bytes of a line break, the I bytes of an indentation and a line end; R is 4096 at most, B and I 1048576
abbrev pub StyleFrom : List ℕ → List ℕ → WriterCase → Type 0
StyleFrom script rest case =
    Line script (case.room ∷ length case.style.line_break.now ∷ length case.style.indentation.now ∷ case.calls ∷ [])
    (case.style.line_break.now ++ case.style.indentation.now ++ 10 ∷ rest)
    × (case.room ≤ 4096)
    × (length case.style.line_break.now ≤ 1048576)
    × (length case.style.indentation.now ≤ 1048576)

-- `A N T`, and the N bytes of an atom and a line end; `( T`; `) 0`; `F 1` or `F 0`
abbrev pub CallFrom : List ℕ → List ℕ → Call → Type 0
CallFrom script rest (Call.PutAtom atom t) = (n : ℕ) × (t ≡ number_meant n) × LetterLine 65 script (length atom.now ∷ n ∷ []) (atom.now ++ 10 ∷ rest)
CallFrom script rest (Call.BeginList t) = (n : ℕ) × (t ≡ number_meant n) × LetterLine 40 script (n ∷ []) rest
CallFrom script rest Call.EndList = LetterLine 41 script (0 ∷ []) rest
CallFrom script rest (Call.Finish b) = LetterLine 70 script (cond b 1 0 ∷ []) rest

-- `P Q T O J`
abbrev pub TreeFrom : List ℕ → List ℕ → TreeCalls → Type 0
TreeFrom script rest calls =
    (n : ℕ) × (calls.break_line_at ≡ number_meant n) × LetterLine 80 script (calls.lists ∷ n ∷ calls.first ∷ calls.paths ∷ []) rest

-- how many numbers there are, the most at most, and the numbers, a space after each, and a line end
abbrev pub NumbersFrom : List ℕ → List ℕ → ℕ → Bor (List ℕ) → Type 0
NumbersFrom script rest most numbers =
    (t : List ℕ) × Number 32 script (length numbers.now) t × Each t numbers.now (10 ∷ rest) × (length numbers.now ≤ most)
