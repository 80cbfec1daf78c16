-- The steps of the lexer's definition over a text: what each state says at a byte of a class, and at the end.
-- Assumes nothing.
use mathlib.Core.Path.{◌≡◌, refl, sym, ap, ◌∙◌}
use mathlib.Core.Bool.{true, false, false≢true}
use mathlib.Core.Logic.{inl, inr, ⊎_elim}
use mathlib.Core.List.{List, [], ◌∷◌}
use Prim.Native.Nat.{ℕ, ◌+◌, ◌-◌, ◌≤◌}
use lib.ListN.{length, drop, get_or, drop_of_length-le}
use types.Run.{OneOf}
use Rattle.sise_util.specs.Classes.{Class, space, quote, tab, atom_chr, line_end, backslash, other, semicolon, left, right, printable, class_of, class_number}
use Rattle.sise_util.proofs.Lists.{drop-next}
use Rattle.sise_parser.specs.Lexer.{Lexed, found, eof, opening, closing, atom, unfinished, wrong, between, comment, plain, string, escape}
use Rattle.sise_parser.specs.Plain.{is_blank, skip_blanks, atom_run}
use Rattle.sise_parser.specs.Meaning.{Reads}

-- what a `match` says of k in its last arm, `_`: it is none of the numbers of the other arms, the last of those first
abbrev Rest : List (List ℕ) → ℕ → Type 0
Rest [] k = Unit {0}
Rest (ks ∷ arms) k = Rest arms k × (OneOf ks k → ⊥)

-- the classes by their numbers
abbrev classes : List Class
classes = space ∷ quote ∷ tab ∷ atom_chr ∷ line_end ∷ backslash ∷ other ∷ semicolon ∷ left ∷ right ∷ printable ∷ []

named : (c : Class) → get_or classes (class_number c) other ≡ c
unfolding class_number
named space = refl
named quote = refl
named tab = refl
named atom_chr = refl
named line_end = refl
named backslash = refl
named other = refl
named semicolon = refl
named left = refl
named right = refl
named printable = refl

-- at the end of the text
module _ (text : List ℕ) {p : ℕ} (h : length text ≤ p) where
  ends : drop p text ≡ []
  ends = drop_of_length-le text h

  pub between_end : between (drop p text) p ≡ found eof p p
  unfolding between
  between_end = rw ends

  pub comment_end : comment (drop p text) p ≡ found eof p p
  unfolding comment
  comment_end = rw ends

  pub plain_end : (s : ℕ) → plain (drop p text) p s ≡ found (atom (p - s)) s p
  unfolding plain
  plain_end s = rw ends

  pub string_end : (s : ℕ) → string (drop p text) p s ≡ unfinished p
  unfolding string
  string_end s = rw ends

  pub escape_end : (s : ℕ) → escape (drop p text) p s ≡ unfinished p
  unfolding escape
  escape_end s = rw ends

  pub blanks_end : skip_blanks (drop p text) p ≡ p
  unfolding skip_blanks
  blanks_end = rw ends

  pub run_end : atom_run (drop p text) p ≡ p
  unfolding atom_run
  run_end = rw ends

-- at a byte b, whose class has the number k, with l behind it
module _ {text : List ℕ} {p k : ℕ} (r : Reads text p k) where
  abbrev b : ℕ
  b = get_or text p 0

  abbrev l : List ℕ
  l = drop (p + 1) text

  pub here : drop p text ≡ b ∷ l
  here = drop-next text p r.inside

  is : (n : ℕ) → k ≡ n → class_of b ≡ get_or classes n other
  is n e = sym (named (class_of b)) ∙ ap (λ (m : ℕ). get_or classes m other) (sym r.class ∙ e)

  -- what a rule f says of b ∷ l, it says of the rest of the text
  at : (f : List ℕ → Lexed) {x : Lexed} → f (b ∷ l) ≡ x → f (drop p text) ≡ x
  at f e = ap f here ∙ e

  -- and so does a refusal
  refuse : (f : List ℕ → Lexed) (n : ℕ) → f (b ∷ l) ≡ wrong n (b ∷ l) p → f (drop p text) ≡ wrong n (drop p text) p
  refuse f n e = ap f here ∙ e ∙ ap (λ (m : List ℕ). wrong n m p) (sym here)

  -- between tokens
  pub between_semicolon : k ≡ 7 → between (drop p text) p ≡ comment l (p + 1)
  unfolding between
  between_semicolon n = at (λ (m : List ℕ). between m p) (rw (is 7 n, between))

  pub between_left : k ≡ 8 → between (drop p text) p ≡ found opening p (p + 1)
  unfolding between
  between_left n = at (λ (m : List ℕ). between m p) (rw (is 8 n, between))

  pub between_right : k ≡ 9 → between (drop p text) p ≡ found closing p (p + 1)
  unfolding between
  between_right n = at (λ (m : List ℕ). between m p) (rw (is 9 n, between))

  -- an atom begins: its first byte is read again, as a byte of it
  pub between_atom : OneOf (1 ∷ 3 ∷ []) k → between (drop p text) p ≡ plain (drop p text) p p
  unfolding between plain
  between_atom n = ap (λ (m : List ℕ). between m p) here ∙ again n ∙ sym (ap (λ (m : List ℕ). plain m p p) here)
    where
      again : OneOf (1 ∷ 3 ∷ []) k → between (b ∷ l) p ≡ plain (b ∷ l) p p
      again = ⊎_elim (λ e. rw (is 1 e, between, plain)) (λ e. rw (is 3 e, between, plain))

  pub between_wrong : is_blank (class_of b) ≡ false → Rest ((1 ∷ 3 ∷ []) ∷ (9 ∷ []) ∷ (8 ∷ []) ∷ (7 ∷ []) ∷ []) k → between (drop p text) p ≡ wrong 1 (drop p text) p
  unfolding between class_number
  between_wrong blank n = refuse (λ (m : List ℕ). between m p) 1 (go (class_of b) refl r.class)
    where
      no_blank : {c : Class} → class_of b ≡ c → is_blank c ≡ true → ⊥
      no_blank e y = false≢true (sym blank ∙ ap is_blank e ∙ y)

      go : (c : Class) → class_of b ≡ c → k ≡ class_number c → between (b ∷ l) p ≡ wrong 1 (b ∷ l) p
      go space e m = absurd (no_blank e refl)
      go quote e m = absurd (n.1 (inl m))
      go tab e m = absurd (no_blank e refl)
      go atom_chr e m = absurd (n.1 (inr m))
      go line_end e m = absurd (no_blank e refl)
      go backslash e m = rw (e, between)
      go other e m = rw (e, between)
      go semicolon e m = absurd (n.0.0.0.1 m)
      go left e m = absurd (n.0.0.1 m)
      go right e m = absurd (n.0.1 m)
      go printable e m = rw (e, between)

  -- in a comment
  -- a line end is passed as a blank, too
  pub comment_line_end : k ≡ 4 → comment (drop p text) p ≡ between (drop p text) p
  unfolding between comment
  comment_line_end n =
      let passed : between (b ∷ l) p ≡ between l (p + 1) = rw (is 4 n, between) in
      at (λ (m : List ℕ). comment m p) (rw (is 4 n, comment)) ∙ sym (at (λ (m : List ℕ). between m p) passed)

  pub comment_wrong : k ≡ 6 → comment (drop p text) p ≡ wrong 3 (drop p text) p
  unfolding comment
  comment_wrong n = refuse (λ (m : List ℕ). comment m p) 3 (rw (is 6 n, comment))

  pub comment_on : Rest ((6 ∷ []) ∷ (4 ∷ []) ∷ []) k → comment (drop p text) p ≡ comment l (p + 1)
  unfolding comment class_number
  comment_on n = at (λ (m : List ℕ). comment m p) (go (class_of b) refl r.class)
    where
      go : (c : Class) → class_of b ≡ c → k ≡ class_number c → comment (b ∷ l) p ≡ comment l (p + 1)
      go space e m = rw (e, comment)
      go quote e m = rw (e, comment)
      go tab e m = rw (e, comment)
      go atom_chr e m = rw (e, comment)
      go line_end e m = absurd (n.0.1 m)
      go backslash e m = rw (e, comment)
      go other e m = absurd (n.1 m)
      go semicolon e m = rw (e, comment)
      go left e m = rw (e, comment)
      go right e m = rw (e, comment)
      go printable e m = rw (e, comment)

  -- in an atom that began at s, outside a string
  pub plain_on : (s : ℕ) → k ≡ 3 → plain (drop p text) p s ≡ plain l (p + 1) s
  unfolding plain
  plain_on s n = at (λ (m : List ℕ). plain m p s) (rw (is 3 n, plain))

  pub plain_quote : (s : ℕ) → k ≡ 1 → plain (drop p text) p s ≡ string l (p + 1) s
  unfolding plain
  plain_quote s n = at (λ (m : List ℕ). plain m p s) (rw (is 1 n, plain))

  pub plain_stops : (s : ℕ) → Rest ((1 ∷ []) ∷ (3 ∷ []) ∷ []) k → plain (drop p text) p s ≡ found (atom (p - s)) s p
  unfolding plain class_number
  plain_stops s n = at (λ (m : List ℕ). plain m p s) (go (class_of b) refl r.class)
    where
      go : (c : Class) → class_of b ≡ c → k ≡ class_number c → plain (b ∷ l) p s ≡ found (atom (p - s)) s p
      go space e m = rw (e, plain)
      go quote e m = absurd (n.1 m)
      go tab e m = rw (e, plain)
      go atom_chr e m = absurd (n.0.1 m)
      go line_end e m = rw (e, plain)
      go backslash e m = rw (e, plain)
      go other e m = rw (e, plain)
      go semicolon e m = rw (e, plain)
      go left e m = rw (e, plain)
      go right e m = rw (e, plain)
      go printable e m = rw (e, plain)

  -- in a string
  pub string_quote : (s : ℕ) → k ≡ 1 → string (drop p text) p s ≡ plain l (p + 1) s
  unfolding string
  string_quote s n = at (λ (m : List ℕ). string m p s) (rw (is 1 n, string))

  pub string_backslash : (s : ℕ) → k ≡ 5 → string (drop p text) p s ≡ escape l (p + 1) s
  unfolding string
  string_backslash s n = at (λ (m : List ℕ). string m p s) (rw (is 5 n, string))

  pub string_wrong : (s : ℕ) → OneOf (2 ∷ 4 ∷ 6 ∷ []) k → string (drop p text) p s ≡ wrong 2 (drop p text) p
  unfolding string
  string_wrong s n =
      refuse (λ (m : List ℕ). string m p s) 2 (⊎_elim (λ e. rw (is 2 e, string)) (⊎_elim (λ e. rw (is 4 e, string)) (λ e. rw (is 6 e, string))) n)

  pub string_on : (s : ℕ) → Rest ((2 ∷ 4 ∷ 6 ∷ []) ∷ (5 ∷ []) ∷ (1 ∷ []) ∷ []) k → string (drop p text) p s ≡ string l (p + 1) s
  unfolding string class_number
  string_on s n = at (λ (m : List ℕ). string m p s) (go (class_of b) refl r.class)
    where
      go : (c : Class) → class_of b ≡ c → k ≡ class_number c → string (b ∷ l) p s ≡ string l (p + 1) s
      go space e m = rw (e, string)
      go quote e m = absurd (n.0.0.1 m)
      go tab e m = absurd (n.1 (inl m))
      go atom_chr e m = rw (e, string)
      go line_end e m = absurd (n.1 (inr (inl m)))
      go backslash e m = absurd (n.0.1 m)
      go other e m = absurd (n.1 (inr (inr m)))
      go semicolon e m = rw (e, string)
      go left e m = rw (e, string)
      go right e m = rw (e, string)
      go printable e m = rw (e, string)

  -- after \ in a string
  pub escape_wrong : (s : ℕ) → OneOf (2 ∷ 4 ∷ 6 ∷ []) k → escape (drop p text) p s ≡ wrong 2 (drop p text) p
  unfolding escape
  escape_wrong s n =
      refuse (λ (m : List ℕ). escape m p s) 2 (⊎_elim (λ e. rw (is 2 e, escape)) (⊎_elim (λ e. rw (is 4 e, escape)) (λ e. rw (is 6 e, escape))) n)

  pub escape_on : (s : ℕ) → Rest ((2 ∷ 4 ∷ 6 ∷ []) ∷ []) k → escape (drop p text) p s ≡ string l (p + 1) s
  unfolding escape class_number
  escape_on s n = at (λ (m : List ℕ). escape m p s) (go (class_of b) refl r.class)
    where
      go : (c : Class) → class_of b ≡ c → k ≡ class_number c → escape (b ∷ l) p s ≡ string l (p + 1) s
      go space e m = rw (e, escape)
      go quote e m = rw (e, escape)
      go tab e m = absurd (n.1 (inl m))
      go atom_chr e m = rw (e, escape)
      go line_end e m = absurd (n.1 (inr (inl m)))
      go backslash e m = rw (e, escape)
      go other e m = absurd (n.1 (inr (inr m)))
      go semicolon e m = rw (e, escape)
      go left e m = rw (e, escape)
      go right e m = rw (e, escape)
      go printable e m = rw (e, escape)
