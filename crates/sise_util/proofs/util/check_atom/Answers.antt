-- Atom characters alone are a plain atom, if there is one; of all else the longer check says it.
use mathlib.Core.Path.{◌≡◌, refl, ◌∙◌}
use mathlib.Core.List.{List, [], ◌∷◌}
use Prim.Native.Nat.{ℕ, ◌≤◌}
use native.Mathlib.Omega.{arith}
use lib.Dec.{ltb}
use lib.ListN.{length}
use borrow.Author.Tests.{ltb-true, ltb-false}
use Rattle.std.specs.Prelude.{None}
use Rattle.std.specs.Bool.{then_some}
use Rattle.sise_util.specs.Atom.{is_atom, kind_of}
use Rattle.sise_util.specs.Parts.{PlainTo}
use Rattle.sise_util.specs.declared.util.AtomKind.TheVariants.{Plain}
use Rattle.sise_util.proofs.Ranges.{split}
use Rattle.sise_util.proofs.KindLaws.{kind_no}
use Rattle.sise_util.proofs.PlainRuns.{plain_all}
use Rattle.sise_util.proofs.util.check_atom.Goals as goal

empty : (s : List ℕ) → length s ≤ 0 → None ≡ kind_of s
unfolding is_atom
empty [] h = kind_no [] refl
empty (b ∷ l) h = absurd (omega arith)

whole : (s : List ℕ) (n : ℕ) → PlainTo s n → length s ≤ n → then_some (ltb 0 n) Plain ≡ kind_of s
whole s n p h =
    split (ltb 0 n)
    (λ e. rw e (let z = ltb-true 0 n e in plain_all s n p h (λ y. omega (arith, p.0))))
    (λ e. rw e (let z = ltb-false 0 n e in empty s (omega arith)))

pub returns : goal.returns
returns c = c.then_some.ensures ∙ whole _ _ c.plain_end-end.ensures.run c.if-end-atom.false
