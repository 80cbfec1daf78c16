-- The token at or after a place of a text (document 01, "parser.rs: the reader"): one state of the lexer a function, one step a byte.
-- Assumes nothing.
use Rattle.std.specs.Prelude.{ℕ, ◌+◌, ◌-◌, Ok, Err, List, [], ◌∷◌}
use Rattle.sise_util.specs.Classes.{space, semicolon, left, right, atom_chr, printable, quote, backslash, tab, line_end, other, class_of}
use Rattle.sise_util.specs.Utf8.{character}
use Rattle.sise_parser.specs.Refusals.{Refusal, refusal}

pub data Token : Type 0 where
  eof opening closing : Token
  -- an atom of so many bytes
  atom : ℕ → Token

pub data Lexed : Type 0 where
  -- a token, its place, and the position after it
  found : Token → ℕ → ℕ → Lexed
  -- a refusal, and the position after it
  bad : Refusal → ℕ → Lexed

-- 4: a string that the text's end p cuts off
abbrev pub unfinished : ℕ → Lexed
unfinished p = bad (refusal 4 p 0) p

-- "A wrong byte is decoded to name its code point, else 8": the bytes l from p on begin with it, and n says where it stands. 1 to 3 leave the
-- position after the character; "After 8 the position now passes the longest start of a well-formed character found there, at least one byte" (02, 2.7)
unfoldable pub wrong : ℕ → List ℕ → ℕ → Lexed
wrong n l p =
    elim (character l) [
      | Ok c ↦ bad (refusal n p c.code) (p + c.len)
      | Err i ↦ bad (refusal 8 p 0) (p + i.len)
    ]

-- the token at or after p, where the bytes from p on are l, in five states: between tokens, in a comment, and in an atom that began at s outside a
-- string, inside one, and after \ in one
unfoldable mutual
  pub between : List ℕ → ℕ → Lexed
  between [] p = found eof p p
  between (b ∷ l) p =
      elim (class_of b) [
        | space ↦ between l (p + 1)
        | tab ↦ between l (p + 1)
        | line_end ↦ between l (p + 1)
        | semicolon ↦ comment l (p + 1)
        | left ↦ found opening p (p + 1)
        | right ↦ found closing p (p + 1)
        | atom_chr ↦ plain l (p + 1) p
        | quote ↦ string l (p + 1) p
        | backslash ↦ wrong 1 (b ∷ l) p
        | printable ↦ wrong 1 (b ∷ l) p
        | other ↦ wrong 1 (b ∷ l) p
      ]

  pub comment : List ℕ → ℕ → Lexed
  comment [] p = found eof p p
  comment (b ∷ l) p =
      elim (class_of b) [
        | line_end ↦ between l (p + 1)
        | space ↦ comment l (p + 1)
        | semicolon ↦ comment l (p + 1)
        | left ↦ comment l (p + 1)
        | right ↦ comment l (p + 1)
        | atom_chr ↦ comment l (p + 1)
        | printable ↦ comment l (p + 1)
        | quote ↦ comment l (p + 1)
        | backslash ↦ comment l (p + 1)
        | tab ↦ comment l (p + 1)
        | other ↦ wrong 3 (b ∷ l) p
      ]

  pub plain : List ℕ → ℕ → ℕ → Lexed
  plain [] p s = found (atom (p - s)) s p
  plain (b ∷ l) p s =
      elim (class_of b) [
        | atom_chr ↦ plain l (p + 1) s
        | quote ↦ string l (p + 1) s
        | space ↦ found (atom (p - s)) s p
        | semicolon ↦ found (atom (p - s)) s p
        | left ↦ found (atom (p - s)) s p
        | right ↦ found (atom (p - s)) s p
        | printable ↦ found (atom (p - s)) s p
        | backslash ↦ found (atom (p - s)) s p
        | tab ↦ found (atom (p - s)) s p
        | line_end ↦ found (atom (p - s)) s p
        | other ↦ found (atom (p - s)) s p
      ]

  pub string : List ℕ → ℕ → ℕ → Lexed
  string [] p s = unfinished p
  string (b ∷ l) p s =
      elim (class_of b) [
        | quote ↦ plain l (p + 1) s
        | backslash ↦ escape l (p + 1) s
        | space ↦ string l (p + 1) s
        | semicolon ↦ string l (p + 1) s
        | left ↦ string l (p + 1) s
        | right ↦ string l (p + 1) s
        | atom_chr ↦ string l (p + 1) s
        | printable ↦ string l (p + 1) s
        | tab ↦ wrong 2 (b ∷ l) p
        | line_end ↦ wrong 2 (b ∷ l) p
        | other ↦ wrong 2 (b ∷ l) p
      ]

  pub escape : List ℕ → ℕ → ℕ → Lexed
  escape [] p s = unfinished p
  escape (b ∷ l) p s =
      elim (class_of b) [
        | quote ↦ string l (p + 1) s
        | backslash ↦ string l (p + 1) s
        | space ↦ string l (p + 1) s
        | semicolon ↦ string l (p + 1) s
        | left ↦ string l (p + 1) s
        | right ↦ string l (p + 1) s
        | atom_chr ↦ string l (p + 1) s
        | printable ↦ string l (p + 1) s
        | tab ↦ wrong 2 (b ∷ l) p
        | line_end ↦ wrong 2 (b ∷ l) p
        | other ↦ wrong 2 (b ∷ l) p
      ]
