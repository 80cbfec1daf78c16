-- `sise_parser::Reader::is_sound` meets its contract: the definition's three tests, one after the other.
use mathlib.Core.Path.{◌≡◌, sym, ◌∙◌}
use mathlib.Core.Bool.{false}
use Prim.Native.Nat.{ℕ, ◌≤◌, ◌<◌}
use mathlib.Core.Logic.{inl, inr}
use native.Mathlib.Omega.{arith}
use borrow.Author.Tests.{le-leb, lt-leb}
use Rattle.sise_parser.specs.Reader.{lists_fit, is_sound}
use Rattle.sise_parser.specs.declared.reader.Reader.{Reader}
use Rattle.sise_parser.proofs.reader.Reader.is_sound.Goals as goal
use Rattle.sise_parser.proofs.reader.Reader.is_sound.Goals.{then-self-len, else-self-len}

past_end : (n : ℕ) (r : Reader) → n < r.position → false ≡ is_sound n r
unfolding is_sound
past_end n r h = sym (rw (lt-leb r.position n h))

too_many : (n : ℕ) (r : Reader) → r.position ≤ n → r.position < r.lists → false ≡ is_sound n r
unfolding is_sound
too_many n r h k = sym (rw (le-leb r.position n h, lt-leb r.lists r.position k))

by_phase : (n : ℕ) (r : Reader) → r.position ≤ n → r.lists ≤ r.position → lists_fit r.phase r.lists ≡ is_sound n r
unfolding is_sound
by_phase n r h k = sym (rw (le-leb r.position n h, le-leb r.lists r.position k))

pub returns-then-self : goal.returns-then-self
returns-then-self c = c.lists_fit.ensures ∙ by_phase _ c.args.self c.if-self.true.0 c.if-self.true.1

pub returns-else-self : goal.returns-else-self
returns-else-self c =
    let r = c.args.self in
    elim c.if-self-len.branch [
      | then-self-len w ↦ elim c.if-self.either [
        | inl h ↦ w.t-4-is ∙ lt-leb r.lists r.position h.1 ∙ too_many _ r h.0 h.1
        | inr h ↦ absurd (omega (arith, w.if-self-len.true))
      ]
      | else-self-len w ↦ w.t-4-is ∙ lt-leb r.position c.args.len w.if-self-len.false ∙ past_end _ r w.if-self-len.false
    ]
