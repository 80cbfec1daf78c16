-- The four writes, one after the other, are one change of the words, which are the item's.
use Prim.Native.Nat.{ℕ, ◌+◌, ◌*◌, ◌≤◌}
use native.Mathlib.Omega.{arith}
use mathlib.Core.Path.{◌≡◌, refl, sym, ap, ◌∙◌}
use mathlib.Core.List.{List, [], ◌∷◌}
use lib.ListN.{length, get_or, set, length-set}
use Rattle.sise_parser.specs.declared.reader.ParsedItem.{ParsedItem}
use Rattle.sise_parser.specs.declared.reader.ParsedItem.TheVariants.{Atom, ListStart, ListEnd}
use Rattle.sise_serializer.specs.Bytes.{pasted}
use Rattle.sise_serializer.proofs.Bytes.{pasted_none}
use Rattle.sise_serializer.proofs.Running.{pasted_cons}
use Rattle.sise_c.specs.Items.{item_words}
use Rattle.sise_c.proofs.items.put_item.Goals as goal

four : (l : List ℕ) (at a b c d : ℕ) → at + 4 ≤ length l → set (set (set (set l at a) (at + 1) b) (at + 2) c) (at + 3) d ≡ pasted l at (a ∷ b ∷ c ∷ d ∷ [])
four l at a b c d h =
    let l₁ = set l at a in
    let l₂ = set l₁ (at + 1) b in
    let l₃ = set l₂ (at + 2) c in
    let s₁ = length-set l at a in
    let s₂ = length-set l₁ (at + 1) b ∙ s₁ in
    let s₃ = length-set l₂ (at + 2) c ∙ s₂ in
    let two : at + 1 + 1 ≡ at + 2 = omega arith in
    let three : at + 2 + 1 ≡ at + 3 = omega arith in
    sym
    (pasted_cons l at a (b ∷ c ∷ d ∷ []) (omega (arith, h))
    ∙ pasted_cons l₁ (at + 1) b (c ∷ d ∷ []) (omega (arith, h, s₁))
    ∙ ap (λ (k : ℕ). pasted l₂ k (c ∷ d ∷ [])) two
    ∙ pasted_cons l₂ (at + 2) c (d ∷ []) (omega (arith, h, s₂))
    ∙ ap (λ (k : ℕ). pasted l₃ k (d ∷ [])) three
    ∙ pasted_cons l₃ (at + 3) d [] (omega (arith, h, s₃))
    ∙ pasted_none (set l₃ (at + 3) d) (at + 3 + 1))

-- an item's words are four
each : {l : List ℕ} (i : ParsedItem) → l ≡ item_words i → get_or l 0 0 ∷ get_or l 1 0 ∷ get_or l 2 0 ∷ get_or l 3 0 ∷ [] ≡ item_words i
each (Atom p n) e = rw e refl
each (ListStart p) e = rw e refl
each (ListEnd p) e = rw e refl

pub bounds-words-at-2 : goal.bounds-words-at-2
bounds-words-at-2 c = simp length-set (omega (arith, c.requires))

pub bounds-words-at-3 : goal.bounds-words-at-3
bounds-words-at-3 c = simp length-set (omega (arith, c.requires))

pub bounds-words-at-4 : goal.bounds-words-at-4
bounds-words-at-4 c = simp length-set (omega (arith, c.requires))

pub returns : goal.returns
returns c = four _ _ _ _ _ _ (omega (arith, c.requires)) ∙ ap (λ (l : List ℕ). pasted c.args.words.now (4 * c.args.items) l) (each c.args.item c.item_words.ensures)
