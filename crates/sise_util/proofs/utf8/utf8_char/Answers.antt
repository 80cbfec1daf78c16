-- `sise_util::utf8_char` meets its contract: the first octet says which row of the standard the character is of, if any, and the second whether the
-- row goes on.
use mathlib.Core.Path.{◌≡◌, refl, sym, ap, ◌∙◌}
use Prim.Native.Nat.{ℕ, ◌≤◌, ◌<◌}
use native.Mathlib.Omega.{arith}
use native.Mathlib.Nat.{sub-zero}
use mathlib.Core.List.{List}
use lib.ListN.{length, get_or}
use Rattle.std.proofs.lemmas.List.{take_rest}
use Rattle.sise_util.specs.Utf8.{well, forms, follow, character}
use Rattle.sise_util.proofs.Utf8Steps.{row_at, no_row_at, goes_on, stops, none, alone, ends}
use Rattle.sise_util.proofs.utf8.utf8_char.Goals as goal

pub returns-in-empty : goal.returns-in-empty
returns-in-empty c = none c.args.bytes.now (omega arith)

first_row : (l : List ℕ) → 0 < length l → get_or l 0 0 ≤ 0x7F → well (get_or l 0 0) 1 ≡ character l
unfolding forms
first_row l h k = ap (λ (n : ℕ). well n 1) (sym (sub-zero (get_or l 0 0))) ∙ sym (ends _ 1 _) ∙ row_at l h 0 (omega arith) (omega arith)

pub returns-in-0-to-127 : goal.returns-in-0-to-127
returns-in-0-to-127 c = first_row c.args.bytes.now (grind arith) (grind arith)

pub returns-in-224 : goal.returns-in-224
unfolding forms
returns-in-224 c = c.three.ensures ∙ ap (follow _ _ _) (take_rest c.args.bytes.now 2) ∙ goes_on c.args.bytes.now (omega arith) 2 refl (omega arith) (omega arith) (omega arith) (omega arith) (omega arith)

pub returns-in-237 : goal.returns-in-237
unfolding forms
returns-in-237 c = c.three-in-237.ensures ∙ ap (follow _ _ _) (take_rest c.args.bytes.now 2) ∙ goes_on c.args.bytes.now (omega arith) 4 refl (omega arith) (omega arith) (omega arith) (omega arith) (omega arith)

pub returns-in-240 : goal.returns-in-240
unfolding forms
returns-in-240 c = c.four.ensures ∙ ap (follow _ _ _) (take_rest c.args.bytes.now 2) ∙ goes_on c.args.bytes.now (omega arith) 6 refl (omega arith) (omega arith) (omega arith) (omega arith) (omega arith)

pub returns-in-244 : goal.returns-in-244
unfolding forms
returns-in-244 c = c.four-in-244.ensures ∙ ap (follow _ _ _) (take_rest c.args.bytes.now 2) ∙ goes_on c.args.bytes.now (omega arith) 8 refl (omega arith) (omega arith) (omega arith) (omega arith) (omega arith)

pub returns-in-225-to-236 : goal.returns-in-225-to-236
unfolding forms
returns-in-225-to-236 c = c.three-in-225-to-236.ensures ∙ ap (follow _ _ _) (take_rest c.args.bytes.now 2) ∙ goes_on c.args.bytes.now (omega arith) 3 refl (omega arith) (omega arith) (omega arith) (omega arith) (omega arith)

pub returns-in-238-to-239 : goal.returns-in-238-to-239
unfolding forms
returns-in-238-to-239 c = c.three-in-238-to-239.ensures ∙ ap (follow _ _ _) (take_rest c.args.bytes.now 2) ∙ goes_on c.args.bytes.now (omega arith) 5 refl (omega arith) (omega arith) (omega arith) (omega arith) (omega arith)

pub returns-in-241-to-243 : goal.returns-in-241-to-243
unfolding forms
returns-in-241-to-243 c = c.four-in-241-to-243.ensures ∙ ap (follow _ _ _) (take_rest c.args.bytes.now 2) ∙ goes_on c.args.bytes.now (omega arith) 7 refl (omega arith) (omega arith) (omega arith) (omega arith) (omega arith)

pub returns-in-194-to-223 : goal.returns-in-194-to-223
unfolding forms
returns-in-194-to-223 c = ap (λ (n : ℕ). well n 2) c.joined.ensures ∙ sym (ends _ 2 _) ∙ goes_on c.args.bytes.now (omega arith) 1 refl (omega arith) (omega arith) (omega arith) (omega arith) (omega arith)

pub returns-in_default : goal.returns-in_default
returns-in_default c = alone c.args.bytes.now (omega arith) (omega arith)

pub returns-in_default-2 : goal.returns-in_default-2
unfolding forms
returns-in_default-2 c = stops c.args.bytes.now (omega arith) 2 refl (omega arith) (omega arith) (λ h from to. omega arith)

pub returns-in_default-3 : goal.returns-in_default-3
unfolding forms
returns-in_default-3 c = stops c.args.bytes.now (omega arith) 2 refl (omega arith) (omega arith) (λ h from to. omega arith)

pub returns-in_default-4 : goal.returns-in_default-4
unfolding forms
returns-in_default-4 c = stops c.args.bytes.now (omega arith) 4 refl (omega arith) (omega arith) (λ h from to. omega arith)

pub returns-in_default-5 : goal.returns-in_default-5
unfolding forms
returns-in_default-5 c = stops c.args.bytes.now (omega arith) 4 refl (omega arith) (omega arith) (λ h from to. omega arith)

pub returns-in_default-6 : goal.returns-in_default-6
unfolding forms
returns-in_default-6 c = stops c.args.bytes.now (omega arith) 6 refl (omega arith) (omega arith) (λ h from to. omega arith)

pub returns-in_default-7 : goal.returns-in_default-7
unfolding forms
returns-in_default-7 c = stops c.args.bytes.now (omega arith) 6 refl (omega arith) (omega arith) (λ h from to. omega arith)

pub returns-in_default-8 : goal.returns-in_default-8
unfolding forms
returns-in_default-8 c = stops c.args.bytes.now (omega arith) 8 refl (omega arith) (omega arith) (λ h from to. omega arith)

pub returns-in_default-9 : goal.returns-in_default-9
unfolding forms
returns-in_default-9 c = stops c.args.bytes.now (omega arith) 8 refl (omega arith) (omega arith) (λ h from to. omega arith)

pub returns-in_default-10 : goal.returns-in_default-10
unfolding forms
returns-in_default-10 c = no_row_at c.args.bytes.now (omega arith) (omega arith)

pub returns-in_default-11 : goal.returns-in_default-11
unfolding forms
returns-in_default-11 c = stops c.args.bytes.now (omega arith) 1 refl (omega arith) (omega arith) (λ h from to. omega arith)

pub returns-in_default-12 : goal.returns-in_default-12
unfolding forms
returns-in_default-12 c = stops c.args.bytes.now (omega arith) 1 refl (omega arith) (omega arith) (λ h from to. omega arith)

pub returns-in_default-13 : goal.returns-in_default-13
unfolding forms
returns-in_default-13 c = stops c.args.bytes.now (omega arith) 3 refl (omega arith) (omega arith) (λ h from to. omega arith)

pub returns-in_default-14 : goal.returns-in_default-14
unfolding forms
returns-in_default-14 c = stops c.args.bytes.now (omega arith) 3 refl (omega arith) (omega arith) (λ h from to. omega arith)

pub returns-in_default-15 : goal.returns-in_default-15
unfolding forms
returns-in_default-15 c = stops c.args.bytes.now (omega arith) 5 refl (omega arith) (omega arith) (λ h from to. omega arith)

pub returns-in_default-16 : goal.returns-in_default-16
unfolding forms
returns-in_default-16 c = stops c.args.bytes.now (omega arith) 5 refl (omega arith) (omega arith) (λ h from to. omega arith)

pub returns-in_default-17 : goal.returns-in_default-17
unfolding forms
returns-in_default-17 c = stops c.args.bytes.now (omega arith) 7 refl (omega arith) (omega arith) (λ h from to. omega arith)

pub returns-in_default-18 : goal.returns-in_default-18
unfolding forms
returns-in_default-18 c = stops c.args.bytes.now (omega arith) 7 refl (omega arith) (omega arith) (λ h from to. omega arith)

pub returns-in_default-19 : goal.returns-in_default-19
unfolding forms
returns-in_default-19 c = no_row_at c.args.bytes.now (omega arith) (omega arith)
