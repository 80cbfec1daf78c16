-- The items of a finished writing spell one node: while n lists are open, what follows closes them one after the other.
-- Assumes nothing.
use Prim.Native.Nat.{ℕ, suc}
use mathlib.Core.Path.{◌≡◌, refl, subst}
use mathlib.Core.List.{List, [], ◌∷◌, ◌++◌, append_assoc}
use Rattle.sise_serializer.specs.Serializer.{Style, Written, last, fresh_serializer}
use Rattle.sise_serializer.specs.declared.serializer.Phase.{Phase}
use Rattle.sise_serializer.specs.declared.serializer.Phase.TheVariants.{Beginning, Writing, Finished, Done}
use Rattle.sise_serializer.specs.declared.serializer.Serializer.{Serializer}
use Rattle.sise_serializer.specs.Calls.{Call, Item, list_start, list_end, items_of, item_of, step}
use Rattle.sise_serializer.proofs.Sound.{Sound, sound}
use Rattle.sise_serializer.proofs.Kept.{fresh_sound}
use Rattle.sise_layout.specs.Rules.{writes}
use Rattle.sise_layout.specs.Nodes.{Node, Nodes, leaf, list, none, more}
use Rattle.sise_layout.proofs.Pieces.{Turns, only, begins, holds, deepens, shallower, ending}
use Rattle.sise_layout.proofs.Outcomes.{Outcome, same, adds, ends, outcome}
use Rattle.sise_layout.proofs.Written.{last_done}

-- the rest of a text in which n lists are open: each list's nodes and its end, the innermost first
data Closes : ℕ → List Item → Type 0 where
  all : Closes 0 []
  closes : {n : ℕ} {is js : List Item} → Nodes is → Closes n js → Closes (suc n) (is ++ list_end ∷ js)

-- a node before the rest
before : {n : ℕ} {is : List Item} {ks : List Item} → Node is → Closes (suc n) ks → Closes (suc n) (is ++ ks)
before {is = is} d (closes {is = js} {js = ks} ns c) = subst (Closes _) (append_assoc is js (list_end ∷ ks)) (closes (more d ns) c)

-- a list start before the rest: its list is one node more
opens : {n : ℕ} {ks : List Item} → Closes (suc (suc n)) ks → Closes (suc n) (list_start ∷ ks)
opens {n = n} (closes {is = is} {js = js} ns c) = subst (λ l. Closes (suc n) (list_start ∷ l)) (append_assoc is (list_end ∷ []) js) (before (list ns) c)

-- the outermost list
whole : {ks : List Item} → Closes 1 ks → Node (list_start ∷ ks)
whole (closes ns all) = list ns

-- what the items from a record on are, by its phase and its open lists
abbrev Spells : Phase → ℕ → List Item → Type 0
Spells Beginning n is = Node is
Spells Writing n is = Closes n is
Spells Finished n is = is ≡ []
Spells Done n is = is ≡ []

spell_step : {f g : Phase} {n m : ℕ} {i : Item} (is : List Item) → Turns f n i g m → Spells g m is → Spells f n (i ∷ is)
spell_step is (only a) e = rw e (leaf a)
spell_step is begins c = whole c
spell_step is (holds a) c = before (leaf a) c
spell_step is deepens c = opens c
spell_step is shallower c = closes none c
spell_step is ending e = rw e (closes none all)

module _ (s : Style) (room : ℕ) where
  abbrev Spelled : List Call → Type 0
  Spelled cs = (w : Serializer) → Sound w → (writes s room w cs).last.phase ≡ Done → Spells w.phase w.lists (items_of (writes s room w cs).items)

  spelled_step : (cs : List Call) → Spelled cs → (w : Serializer) → Sound w → (c : Call) (r : Written) → Outcome s room w c r
      → (writes s room r.serializer cs).last.phase ≡ Done → Spells w.phase w.lists (items_of (item_of c r.answer ++ (writes s room r.serializer cs).items))
  unfolding last
  spelled_step cs h w i c r (same n) d = h w i d
  spelled_step cs h w i c r (adds k p a x e) d = rw e (spell_step _ a.turns (h p.after x d))
  spelled_step cs h w i c r (ends wished f x e) d = rw (e, f) (rw (last_done s w wished) at (h (last s w wished).after x d))

  spelled : (cs : List Call) → Spelled cs
  unfolding writes
  spelled [] w i d = rw d refl
  spelled (c ∷ cs) w i d = spelled_step cs (spelled cs) w i c (step s room w c) (outcome s room w i c) d

  pub one_node : (cs : List Call) → (writes s room fresh_serializer cs).last.phase ≡ Done → Node (items_of (writes s room fresh_serializer cs).items)
  unfolding fresh_serializer
  one_node cs d = spelled cs fresh_serializer (sound fresh_serializer fresh_sound) d
