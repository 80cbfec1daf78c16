-- A length past the end is none; else it is as in check_atom, of the first bytes.
use Rattle.std.proofs.Common.{◌≡◌, sym, ap, ◌∙◌, ℕ, ◌≤◌, ◌<◌, List, length, take, arith, inl, inr}
use Rattle.std.specs.Prelude.{None}
use borrow.Author.Tests.{le-leb, lt-leb}
use native.Mathlib.Nat.{sub-zero}
use Rattle.sise_util.specs.Atom.{kind_of, kind_prefix}
use Rattle.sise_util.proofs.util.check_atom_prefix.Goals as goal

past_end : (rest : List ℕ) (n : ℕ) → length rest < n → None ≡ kind_prefix rest n
unfolding kind_prefix
past_end rest n h = sym (rw (lt-leb n (length rest) h))

inside : (rest : List ℕ) (n : ℕ) → n ≤ length rest → kind_of (take n rest) ≡ kind_prefix rest n
unfolding kind_prefix
inside rest n h = sym (rw (le-leb n (length rest) h))

pub returns-in_err-get : goal.returns-in_err-get
returns-in_err-get c = c.from_residual.ensures ∙ past_end _ _ (elim c.in_err-get.ensures.lookup.0 [ inl z ↦ absurd (omega arith) | inr h ↦ h ])

pub returns : goal.returns
returns c = let h = c.in_ok-get.ensures.lookup.0 in c.check_atom.ensures ∙ ap kind_of (h.2 ∙ ap (λ (n : ℕ). take n c.args.rest.now) (sub-zero c.args.len)) ∙ inside _ _ h.1
