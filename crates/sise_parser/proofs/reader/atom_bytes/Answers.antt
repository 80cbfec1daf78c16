-- `sise_parser::atom_bytes` meets its contract: the part lies in the text exactly if its end does.
use Prim.Native.Nat.{ℕ}
use native.Mathlib.Omega.{arith}
use mathlib.Core.Path.{◌≡◌, refl, sym, ap, ◌∙◌}
use mathlib.Core.Logic.{⊎_elim}
use mathlib.Core.List.{List, []}
use denote.Bor.{Bor}
use Rattle.std.specs.Prelude.{Option, Some, None}
use Rattle.std.specs.Option.{unwrap_or}
use Rattle.std.proofs.lemmas.Option.{MatchOption-at_some, MatchOption-at_none}
use Rattle.sise_parser.proofs.Parts.{part_outside, part_got, part_past}
use Rattle.sise_parser.proofs.reader.atom_bytes.Goals as goal

chosen : {l : List ℕ} (d : Bor (List ℕ)) (o : Option (Bor (List ℕ))) → d.now ≡ [] → ((x : Bor (List ℕ)) → o ≡ Some x → x.now ≡ l) → (o ≡ None → [] ≡ l) → (unwrap_or o d).now ≡ l
chosen d (Some x) e some none = some x refl
chosen d None e some none = e ∙ none refl

pub returns-in_default : goal.returns-in_default
returns-in_default c = sym (part_outside c.args.text.now c.args.place c.args.len (⊎_elim (λ h. omega (arith, h)) (λ h. absurd (omega (arith, h))) c.in_default.ensures.lookup.0))

pub returns : goal.returns
returns c =
    let (h, _, r, _) = c.in-Some.ensures.lookup.0 in
    let got = c.get-2.ensures.lookup.0 in
    ap (λ (b : Bor (List ℕ)). b.now) c.unwrap_or.ensures
    ∙ chosen _ c.get-2.result refl
    (λ x e. let y = MatchOption-at_some _ _ x e got in y.2 ∙ part_got c.args.text.now c.args.place c.args.len h r y.1)
    (λ e. part_past c.args.text.now c.args.place c.args.len h r (⊎_elim (λ k. absurd (omega (arith, k))) (λ k. k) (MatchOption-at_none _ _ e got)))
