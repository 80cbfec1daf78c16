-- How long the text is: each accepted item pays for its bytes and its layout by the counts, a list start for its list end too.
-- Assumes nothing.
use Prim.Native.Nat.{ℕ, ◌+◌, ◌*◌}
use native.Mathlib.Omega.{arith}
use mathlib.Core.Path.{◌≡◌}
use mathlib.Core.Bool.{true}
use mathlib.Core.List.{List, [], ◌∷◌, ◌++◌}
use lib.ListN.{length, length-append}
use borrow.Author.Tests.{eqb-true}
use Rattle.sise_serializer.specs.Serializer.{Style, Written, is_sound, last, fresh_serializer}
use Rattle.sise_serializer.specs.declared.serializer.Phase.TheVariants.{Done}
use Rattle.sise_serializer.specs.declared.serializer.Serializer.{Serializer}
use Rattle.sise_serializer.specs.Calls.{Call, Item, atom, list_start, list_end, Placed, items_of, item_of, step}
use Rattle.sise_serializer.proofs.Sound.{Sound, sound}
use Rattle.sise_serializer.proofs.Kept.{fresh_sound, sound_kept}
use Rattle.sise_layout.specs.Rules.{writes}
use Rattle.sise_layout.specs.Texts.{atom_bytes, lists}
use Rattle.sise_layout.proofs.Pieces.{layout_of, item_bytes}
use Rattle.sise_layout.proofs.Outcomes.{Outcome, same, adds, ends, outcome}
use Rattle.sise_layout.proofs.Written.{last-paid, last-lists}

abbrev pub bytes_of : List Placed → ℕ
bytes_of items = atom_bytes (items_of items) + 2 * lists (items_of items)

item_counted : (i : Item) (is : List Item) → atom_bytes (i ∷ is) + 2 * lists (i ∷ is) ≡ item_bytes i + (atom_bytes is + 2 * lists is)
unfolding atom_bytes lists
item_counted (atom a) is = omega arith
item_counted list_start is = omega arith
item_counted list_end is = omega arith

-- the bytes of a text from w on, by the counts before and after; a list that is open is short of its list end
abbrev pub Counted : Style → Serializer → List Placed → List ℕ → Serializer → Type 0
Counted s w items text v = length text + layout_of s w + v.lists ≡ bytes_of items + layout_of s v + w.lists

module _ (s : Style) (room : ℕ) where
  abbrev pub Counts : List Call → Type 0
  Counts cs = (w : Serializer) → Sound w → Counted s w (writes s room w cs).items (writes s room w cs).text (writes s room w cs).last

  count_step : (cs : List Call) → Counts cs → (w : Serializer) → Sound w → (c : Call) (r : Written) → Outcome s room w c r
      → Counted s w (item_of c r.answer ++ (writes s room r.serializer cs).items) (r.bytes ++ (writes s room r.serializer cs).text) (writes s room r.serializer cs).last
  count_step cs h w i c r (same n) = h w i
  count_step cs h w i c r (adds k p a x e) =
      rw (e, length-append, length-append) (omega (arith, a.paid, h p.after x, item_counted k (items_of (writes s room p.after cs).items)))
  count_step cs h w i c r (ends wished f x e) =
      rw (e, length-append, length-append) (omega (arith, last-paid s w wished, last-lists s w wished, h (last s w wished).after x))

  pub counts : (cs : List Call) → Counts cs
  unfolding writes atom_bytes lists
  counts [] w i = omega arith
  counts (c ∷ cs) w i = count_step cs (counts cs) w i c (step s room w c) (outcome s room w i c)

  stays_sound : (cs : List Call) (w : Serializer) → is_sound w ≡ true → is_sound (writes s room w cs).last ≡ true
  unfolding writes
  stays_sound [] w i = i
  stays_sound (c ∷ cs) w i = stays_sound cs (step s room w c).serializer (sound_kept s room w c i)

  pub its_length : (cs : List Call) → (writes s room fresh_serializer cs).last.phase ≡ Done
      → length (writes s room fresh_serializer cs).text ≡ bytes_of (writes s room fresh_serializer cs).items + layout_of s (writes s room fresh_serializer cs).last
  unfolding fresh_serializer
  its_length cs f = omega (arith, counts cs fresh_serializer (sound fresh_serializer fresh_sound), none_open)
    where
      none_open : (writes s room fresh_serializer cs).last.lists ≡ 0
      none_open = eqb-true _ 0 (rw f at (sound _ (stays_sound cs fresh_serializer fresh_sound)).checked.opens)
