-- Bytes in a lent buffer (document 01, "serializer.rs: the writer").
-- Assumes nothing.
use Rattle.std.specs.Prelude.{ℕ, zero, suc, ◌+◌, cond, List, [], ◌++◌, leb, length, take, drop}

-- the buffer l after the bytes b were written from `at` on: every other byte is as before
unfoldable pub pasted : List ℕ → ℕ → List ℕ → List ℕ
pasted l at b = take at l ++ b ++ drop (at + length b) l

-- the same where they have room, and else the buffer as it was
unfoldable pub pasted_if : List ℕ → ℕ → List ℕ → List ℕ
pasted_if l at b = cond (leb (at + length b) (length l)) (pasted l at b) l

-- n times the bytes b
abbrev pub repeat : ℕ → List ℕ → List ℕ
repeat zero b = []
repeat (suc n) b = b ++ repeat n b
