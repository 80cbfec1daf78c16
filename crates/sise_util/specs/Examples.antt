-- What the definitions say of worked examples, by computation: document 01's atoms, RFC 3629's own characters (section 7), and the characters on
-- each side of every border of its rows.
-- Assumes nothing.
use Rattle.std.specs.Prelude.{◌≡◌, refl, true, false, Some, None, [], ◌∷◌, map}
use Rattle.sise_util.specs.Chars.{within}
use Rattle.sise_util.specs.Classes.{class_of}
use Rattle.sise_util.specs.Atom.{outside, inside, escaped, is_atom, has_quote, ends_string, ends_escaped, is_string, kind_of}
use Rattle.sise_util.specs.Utf8.{well, ill, forms, follow, by_rows, character}
use Rattle.sise_util.specs.declared.util.AtomKind.TheVariants.{Plain, String, Mixed}

-- a  ""  "a b"  a"b"c  "\""  "\\"
atoms : map is_atom (
    (0x61 ∷ []) ∷
    (0x22 ∷ 0x22 ∷ []) ∷
    (0x22 ∷ 0x61 ∷ 0x20 ∷ 0x62 ∷ 0x22 ∷ []) ∷
    (0x61 ∷ 0x22 ∷ 0x62 ∷ 0x22 ∷ 0x63 ∷ []) ∷
    (0x22 ∷ 0x5C ∷ 0x22 ∷ 0x22 ∷ []) ∷
    (0x22 ∷ 0x5C ∷ 0x5C ∷ 0x22 ∷ []) ∷
    []) ≡ true ∷ true ∷ true ∷ true ∷ true ∷ true ∷ []
unfolding is_atom outside inside escaped class_of
atoms = refl

-- nothing; `a b`; a lone `"`; `"a`; `"\`; `"\"`; a tab in a string; `(`; `a,b`; a byte past 0x7E
no_atoms : map is_atom (
    ([]) ∷
    (0x61 ∷ 0x20 ∷ 0x62 ∷ []) ∷
    (0x22 ∷ []) ∷
    (0x22 ∷ 0x61 ∷ []) ∷
    (0x22 ∷ 0x5C ∷ []) ∷
    (0x22 ∷ 0x5C ∷ 0x22 ∷ []) ∷
    (0x22 ∷ 0x09 ∷ 0x22 ∷ []) ∷
    (0x28 ∷ []) ∷
    (0x61 ∷ 0x2C ∷ 0x62 ∷ []) ∷
    (0x80 ∷ []) ∷
    []) ≡ false ∷ false ∷ false ∷ false ∷ false ∷ false ∷ false ∷ false ∷ false ∷ false ∷ []
unfolding is_atom outside inside escaped class_of
no_atoms = refl

-- a  ""  "a b"  "a""b"  a"b"  "\""  "a"b  "  "a"\
kinds : map kind_of (
    (0x61 ∷ []) ∷
    (0x22 ∷ 0x22 ∷ []) ∷
    (0x22 ∷ 0x61 ∷ 0x20 ∷ 0x62 ∷ 0x22 ∷ []) ∷
    (0x22 ∷ 0x61 ∷ 0x22 ∷ 0x22 ∷ 0x62 ∷ 0x22 ∷ []) ∷
    (0x61 ∷ 0x22 ∷ 0x62 ∷ 0x22 ∷ []) ∷
    (0x22 ∷ 0x5C ∷ 0x22 ∷ 0x22 ∷ []) ∷
    (0x22 ∷ 0x61 ∷ 0x22 ∷ 0x62 ∷ []) ∷
    (0x22 ∷ []) ∷
    (0x22 ∷ 0x61 ∷ 0x22 ∷ 0x5C ∷ []) ∷
    []) ≡ Some Plain ∷ Some String ∷ Some String ∷ Some Mixed ∷ Some Mixed ∷ Some String ∷ Some Mixed ∷ None ∷ None ∷ []
unfolding kind_of is_atom outside inside escaped has_quote is_string ends_string ends_escaped class_of
kinds = refl

-- section 7: at each of their characters, the rest of the four examples
-- A, not identical to, Alpha, full stop
rfc_1 : map character (
    (0x41 ∷ 0xE2 ∷ 0x89 ∷ 0xA2 ∷ 0xCE ∷ 0x91 ∷ 0x2E ∷ []) ∷
    (0xE2 ∷ 0x89 ∷ 0xA2 ∷ 0xCE ∷ 0x91 ∷ 0x2E ∷ []) ∷
    (0xCE ∷ 0x91 ∷ 0x2E ∷ []) ∷
    (0x2E ∷ []) ∷
    []) ≡ well 0x0041 1 ∷ well 0x2262 3 ∷ well 0x0391 2 ∷ well 0x002E 1 ∷ []
unfolding character by_rows forms follow within
rfc_1 = refl

-- the Hangul syllables of "hangugeo"
rfc_2 : map character (
    (0xED ∷ 0x95 ∷ 0x9C ∷ 0xEA ∷ 0xB5 ∷ 0xAD ∷ 0xEC ∷ 0x96 ∷ 0xB4 ∷ []) ∷
    (0xEA ∷ 0xB5 ∷ 0xAD ∷ 0xEC ∷ 0x96 ∷ 0xB4 ∷ []) ∷
    (0xEC ∷ 0x96 ∷ 0xB4 ∷ []) ∷
    []) ≡ well 0xD55C 3 ∷ well 0xAD6D 3 ∷ well 0xC5B4 3 ∷ []
unfolding character by_rows forms follow within
rfc_2 = refl

-- the characters of "nihongo"
rfc_3 : map character (
    (0xE6 ∷ 0x97 ∷ 0xA5 ∷ 0xE6 ∷ 0x9C ∷ 0xAC ∷ 0xE8 ∷ 0xAA ∷ 0x9E ∷ []) ∷
    (0xE6 ∷ 0x9C ∷ 0xAC ∷ 0xE8 ∷ 0xAA ∷ 0x9E ∷ []) ∷
    (0xE8 ∷ 0xAA ∷ 0x9E ∷ []) ∷
    []) ≡ well 0x65E5 3 ∷ well 0x672C 3 ∷ well 0x8A9E 3 ∷ []
unfolding character by_rows forms follow within
rfc_3 = refl

-- U+233B4 after a byte order mark
rfc_4 : map character (
    (0xEF ∷ 0xBB ∷ 0xBF ∷ 0xF0 ∷ 0xA3 ∷ 0x8E ∷ 0xB4 ∷ []) ∷
    (0xF0 ∷ 0xA3 ∷ 0x8E ∷ 0xB4 ∷ []) ∷
    []) ≡ well 0xFEFF 3 ∷ well 0x233B4 4 ∷ []
unfolding character by_rows forms follow within
rfc_4 = refl

-- the first and the last character of each row
row_borders : map character (
    (0x00 ∷ []) ∷
    (0x7F ∷ []) ∷
    (0xC2 ∷ 0x80 ∷ []) ∷
    (0xDF ∷ 0xBF ∷ []) ∷
    (0xE0 ∷ 0xA0 ∷ 0x80 ∷ []) ∷
    (0xE0 ∷ 0xBF ∷ 0xBF ∷ []) ∷
    (0xE1 ∷ 0x80 ∷ 0x80 ∷ []) ∷
    (0xEC ∷ 0xBF ∷ 0xBF ∷ []) ∷
    (0xED ∷ 0x80 ∷ 0x80 ∷ []) ∷
    (0xED ∷ 0x9F ∷ 0xBF ∷ []) ∷
    (0xEE ∷ 0x80 ∷ 0x80 ∷ []) ∷
    (0xEF ∷ 0xBF ∷ 0xBF ∷ []) ∷
    (0xF0 ∷ 0x90 ∷ 0x80 ∷ 0x80 ∷ []) ∷
    (0xF0 ∷ 0xBF ∷ 0xBF ∷ 0xBF ∷ []) ∷
    (0xF1 ∷ 0x80 ∷ 0x80 ∷ 0x80 ∷ []) ∷
    (0xF3 ∷ 0xBF ∷ 0xBF ∷ 0xBF ∷ []) ∷
    (0xF4 ∷ 0x80 ∷ 0x80 ∷ 0x80 ∷ []) ∷
    (0xF4 ∷ 0x8F ∷ 0xBF ∷ 0xBF ∷ []) ∷
    []) ≡
    well 0x0000 1 ∷
    well 0x007F 1 ∷
    well 0x0080 2 ∷
    well 0x07FF 2 ∷
    well 0x0800 3 ∷
    well 0x0FFF 3 ∷
    well 0x1000 3 ∷
    well 0xCFFF 3 ∷
    well 0xD000 3 ∷
    well 0xD7FF 3 ∷
    well 0xE000 3 ∷
    well 0xFFFF 3 ∷
    well 0x10000 4 ∷
    well 0x3FFFF 4 ∷
    well 0x40000 4 ∷
    well 0xFFFFF 4 ∷
    well 0x100000 4 ∷
    well 0x10FFFF 4 ∷
    []
unfolding character by_rows forms follow within
row_borders = refl

-- the byte strings just outside them: 0xC0 0x80, surrogates, past U+10FFFF; nothing; and characters that are cut off. The numbers are of the bytes
-- that stand for a broken character
ill_formed_lem : map character (
    (0x80 ∷ []) ∷
    (0xBF ∷ []) ∷
    (0xC0 ∷ 0x80 ∷ []) ∷
    (0xC1 ∷ 0xBF ∷ []) ∷
    (0xC2 ∷ 0x7F ∷ []) ∷
    (0xDF ∷ 0xC0 ∷ []) ∷
    (0xE0 ∷ 0x9F ∷ 0xBF ∷ []) ∷
    (0xE0 ∷ 0xC0 ∷ 0x80 ∷ []) ∷
    (0xE1 ∷ 0x7F ∷ 0x80 ∷ []) ∷
    (0xEC ∷ 0xBF ∷ 0xC0 ∷ []) ∷
    (0xED ∷ 0x7F ∷ 0xBF ∷ []) ∷
    (0xED ∷ 0xA0 ∷ 0x80 ∷ []) ∷
    (0xED ∷ 0xBF ∷ 0xBF ∷ []) ∷
    (0xEE ∷ 0x80 ∷ 0x7F ∷ []) ∷
    (0xEF ∷ 0xC0 ∷ 0x80 ∷ []) ∷
    (0xF0 ∷ 0x8F ∷ 0xBF ∷ 0xBF ∷ []) ∷
    (0xF0 ∷ 0xC0 ∷ 0x80 ∷ 0x80 ∷ []) ∷
    (0xF1 ∷ 0x80 ∷ 0x7F ∷ 0x80 ∷ []) ∷
    (0xF3 ∷ 0xBF ∷ 0xC0 ∷ 0xBF ∷ []) ∷
    (0xF4 ∷ 0x7F ∷ 0xBF ∷ 0xBF ∷ []) ∷
    (0xF4 ∷ 0x90 ∷ 0x80 ∷ 0x80 ∷ []) ∷
    (0xF5 ∷ 0x80 ∷ 0x80 ∷ 0x80 ∷ []) ∷
    (0xFF ∷ []) ∷
    ([]) ∷
    (0xC2 ∷ []) ∷
    (0xE1 ∷ 0x80 ∷ []) ∷
    (0xF1 ∷ 0x80 ∷ 0x80 ∷ []) ∷
    []) ≡ map ill (1 ∷ 1 ∷ 1 ∷ 1 ∷ 1 ∷ 1 ∷ 1 ∷ 1 ∷ 1 ∷ 2 ∷ 1 ∷ 1 ∷ 1 ∷ 2 ∷ 1 ∷ 1 ∷ 1 ∷ 2 ∷ 2 ∷ 1 ∷ 1 ∷ 1 ∷ 1 ∷ 0 ∷ 1 ∷ 2 ∷ 3 ∷ [])
unfolding character by_rows forms follow within
ill_formed_lem = refl

-- request 2.7: its two examples; then 0xE0 0x80, 0xED 0xA0 and 0xF4 0x90, whose second byte fits no row; three of four bytes, before `A` and at the end;
-- and a lead at the end
subparts : map character (
    (0xE2 ∷ 0x82 ∷ 0x28 ∷ []) ∷
    (0xC0 ∷ 0xAF ∷ []) ∷
    (0xE0 ∷ 0x80 ∷ []) ∷
    (0xED ∷ 0xA0 ∷ []) ∷
    (0xF4 ∷ 0x90 ∷ []) ∷
    (0xF1 ∷ 0x80 ∷ 0x80 ∷ 0x41 ∷ []) ∷
    (0xF0 ∷ 0x90 ∷ 0x80 ∷ []) ∷
    (0xC3 ∷ []) ∷
    []) ≡ map ill (2 ∷ 1 ∷ 1 ∷ 1 ∷ 1 ∷ 3 ∷ 3 ∷ 1 ∷ [])
unfolding character by_rows forms follow within
subparts = refl
