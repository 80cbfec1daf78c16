-- The classes of bytes, by which the reader goes (document 01: "a table of 256 byte classes").
-- Assumes nothing.
use Rattle.std.specs.Prelude.{ℕ, zero, suc, cond, List, [], ◌∷◌, eqb}
use Rattle.sise_util.specs.Chars.{within, one_of, is_atom_chr}

pub data Class : Type 0 where
  space quote tab atom_chr line_end backslash other semicolon left right printable : Class

-- the first that fits: printable is what is left of 0x20 to 0x7E, other is what is left of all bytes
unfoldable pub class_of : ℕ → Class
unfolding is_atom_chr one_of within
class_of b =
    cond (eqb b 32) space (
    cond (eqb b 9) tab (
    cond (one_of (10 ∷ 13 ∷ []) b) line_end (
    cond (eqb b 59) semicolon (
    cond (eqb b 40) left (
    cond (eqb b 41) right (
    cond (eqb b 34) quote (
    cond (eqb b 92) backslash (
    cond (is_atom_chr b) atom_chr (
    cond (within 0x20 0x7E b) printable
    other)))))))))

-- the numbers that the table has for them
unfoldable pub class_number : Class → ℕ
class_number space = 0
class_number quote = 1
class_number tab = 2
class_number atom_chr = 3
class_number line_end = 4
class_number backslash = 5
class_number other = 6
class_number semicolon = 7
class_number left = 8
class_number right = 9
class_number printable = 10

-- n numbers, from b on, each in its class
unfoldable pub classes_from : ℕ → ℕ → List ℕ
classes_from zero b = []
classes_from (suc n) b = class_number (class_of b) ∷ classes_from n (suc b)

-- the whole table
unfoldable pub class_table : List ℕ
class_table = classes_from 256 0
