-- The byte goes to the place in the block, or to the start of the next one.
use Rattle.std.proofs.Common.{◌≡◌, ◌∙◌, List, ℕ, ◌+◌, ◌<◌, ◌≤◌, [], ◌∷◌, slice_set, ap, refl, rules}
use Rattle.std.proofs.lemmas.Bool.{cond_below, cond_above}
use Rattle.lines.specs.Put.{Output, output, place_in, put_byte, put}
use Rattle.lines.proofs.Printer.put_byte.Goals as goal
use Rattle.lines.proofs.Printer.put_byte.Goals.{then-self-ge4096, else-self-ge4096}

placed : (o q : Output) (byte : ℕ) → q ≡ output (place_in o) o.bytes → output (q.place + 1) (slice_set q.bytes q.place byte) ≡ put o (byte ∷ [])
unfolding put put_byte
placed o q byte e = ap (λ (x : Output). output (x.place + 1) (slice_set x.bytes x.place byte)) e

in_block : (o : Output) → o.place < 4096 → o ≡ output (place_in o) o.bytes
unfolding place_in
in_block o h = ap (λ (p : ℕ). output p o.bytes) (cond_below o.place 4096 o.place 0 h)

next_block : {o : Output} (place : ℕ) (block : List ℕ) → 4096 ≤ place → output place block ≡ o → output 0 block ≡ output (place_in o) o.bytes
unfolding place_in
next_block place block h e =
    ap (λ (p : ℕ). output p block) (cond_above place 4096 place 0 0 h refl)
    ∙ ap (λ (x : Output). output (place_in x) x.bytes) e

pub returns : goal.returns
returns c =
    placed _ _ _
    (c.self-2.view_is
    ∙ elim c.if-self-ge4096.branch [
      | then-self-ge4096 w ↦ w.self-is ∙ w.flush.ensures ∙ next_block _ _ (search rules) c.self.view_is
      | else-self-ge4096 w ↦ w.self-is ∙ in_block _ (search rules)
    ])
