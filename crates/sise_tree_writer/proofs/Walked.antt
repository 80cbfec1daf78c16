-- What a walk over a tree's calls knows before each turn, and that a turn leads on: the calls left do as the whole does, and the first offset is kept.
-- Assumes nothing.
use Prim.Native.Nat.{ℕ}
use mathlib.Core.Path.{◌≡◌, refl, sym, ap, ◌∙◌}
use mathlib.Core.Bool.{Bool, true, false}
use mathlib.Core.Option.{some, some-injective}
use Rattle.std.specs.Prelude.{Option, Some, None, Ok, Err}
use mathlib.Core.List.{List, []}
use lib.ListN.{length}
use Rattle.sise_util.proofs.Ranges.{split}
use Rattle.sise_serializer.specs.Bytes.{pasted}
use Rattle.sise_serializer.specs.Serializer as writer
use Rattle.sise_serializer.specs.Serializer.{Style, is_sound}
use Rattle.sise_serializer.specs.Calls.{Call, is_accepted, step, run}
use Rattle.sise_serializer.specs.declared.serializer.Serializer.{Serializer}
use Rattle.sise_serializer.proofs.Kept.{sound_kept}
use Rattle.sise_tree.specs.Tree.{Node}
use Rattle.sise_tree.specs.Decision.{decide}
use Rattle.sise_tree.proofs.LocalLaws.{held}
use Rattle.sise_tree_writer.specs.SerializeTree.{tree_calls, fits}
use Rattle.sise_tree_writer.specs.Writing.{Checked}
use Rattle.sise_tree_writer.specs.Planning.{CanMake, Makes, Starts}
use Rattle.sise_tree_writer.specs.Walking.{IsTurn, GoodTurn, started, passed, turn_call, after, first_answer, Finds, all, off, Walkable}
use Rattle.sise_tree_writer.specs.declared.serialize.WriteTreeError.TheVariants.{NoRoom}
use Rattle.sise_tree_writer.specs.declared.walk.Place.{Place}
use Rattle.sise_tree_writer.specs.declared.walk.Turn.{Turn}
use Rattle.sise_tree_writer.specs.declared.walk.Turn.TheVariants as turn
use Rattle.sise_tree_writer.proofs.Atoms.{atom_good}
use Rattle.sise_tree_writer.proofs.CallLaws.{fits_first, fits_stop, written_if, Same, same_start, same_on}
use Rattle.sise_tree_writer.proofs.Starting.{tree_starts}
use Rattle.sise_tree_writer.proofs.Turns.{At, root, AtDue, due_within, Turned, turned}

-- the first call's answer is known, or no call was made yet
pub data Begun (s : Style) (room : ℕ) (w₀ : Serializer) (cs₀ : List Call) (due : Option Place) (w : Serializer) (cs : List Call) : Type 0 where
  not_yet : {p : Place} → due ≡ Some p → first_answer s room w cs ≡ first_answer s room w₀ cs₀ → Begun s room w₀ cs₀ due w cs
  answered_by : (o : ℕ) → first_answer s room w₀ cs₀ ≡ writer.Answer.accepted o → Begun s room w₀ cs₀ due w cs

pub record Walking (s : Style) (text words : List ℕ) (t : ℕ) (writes : Bool) (room : ℕ) (b₀ : List ℕ) (w₀ : Serializer) (b : List ℕ) (w : Serializer) (due : Option Place) : Type 0 where
  pub tree : Node
  pub decided : decide text words ≡ some tree
  pub checked : Checked text words
  pub sound : is_sound w ≡ true
  pub rest : List Call
  pub at : AtDue words text t due rest
  pub same : Same s writes room b₀ w₀ (tree_calls text t tree) b w rest
  pub fit : writes ≡ true → fits s room w₀ (tree_calls text t tree) ≡ true
  pub long : length b ≡ length b₀
  pub begun : Begun s room w₀ (tree_calls text t tree) due w rest

pub walking_start : (s : Style) (text words : List ℕ) (t : ℕ) (writes : Bool) (room : ℕ) (b : List ℕ) (w : Serializer)
    → Walkable w text words → (writes ≡ true → room ≡ length b)
    → (writes ≡ true → (n : Node) → decide text words ≡ some n → fits s room w (tree_calls text t n) ≡ true) → Walking s text words t writes room b w b w (Some (started words))
walking_start s text words t writes room b w k lent fit =
    let (n, d, h) = held text words k.checked.holds in
    record {
      tree = n;
      decided = d;
      checked = k.checked;
      sound = k.sound;
      rest = tree_calls text t n;
      at = root n h refl refl;
      same = same_start s writes room b w (tree_calls text t n) lent;
      fit = λ e. fit e n d;
      long = refl;
      begun = not_yet refl refl;
    }

module _ {s : Style} {text words : List ℕ} {t : ℕ} {writes : Bool} {room : ℕ} {b₀ : List ℕ} {w₀ : Serializer} {b : List ℕ} {w : Serializer} {due : Option Place}
    (h : Walking s text words t writes room b₀ w₀ b w due) where
  abbrev calls : List Call
  calls = tree_calls text t h.tree

  -- whatever the tree is called
  the_tree : {n : Node} → decide text words ≡ some n → h.tree ≡ n
  the_tree d = some-injective _ _ (sym h.decided ∙ d)

  module _ {p : Place} (is : due ≡ Some p) where
    at_place : At words text t p h.rest
    at_place = rw is at h.at

    module _ (x : Turn) (its : IsTurn text words p x) where
      abbrev made : Turned words text t p h.rest x
      made = turned words text t x at_place its

      pub turn_good : GoodTurn x
      turn_good = good x its
        where
          good : (x : Turn) → IsTurn text words p x → GoodTurn x
          good turn.End z = tt
          good turn.List z = tt
          good (turn.Atom a begins) z = rw z.2 (atom_good text words h.checked p.i (due_within words text t at_place z.0) z.1)

      abbrev call : Call
      call = turn_call x t

      -- refused, the calls do not fit
      pub turn_off : is_accepted (step s room w call).answer ≡ false → fits s room w₀ calls ≡ false
      turn_off e = sym h.same.fit ∙ ap (fits s room w) made.due ∙ fits_stop s room w call made.more e

      -- where they are written, it is accepted
      pub turn_can : writes ≡ true → CanMake call s w b
      turn_can y =
          let (o, e, more) = fits_first s room w call made.more (sym (ap (fits s room w) made.due) ∙ h.same.fit ∙ h.fit y) in
          (o, sym (ap (λ (k : ℕ). (step s k w call).answer) (h.same.lent y)) ∙ e)

      module _ {v : Serializer} {at : ℕ} (does : v ≡ (step s room w call).serializer) (accepted : (step s room w call).answer ≡ writer.Answer.accepted at) where
        module _ {now : List ℕ} (wrote : now ≡ written_if writes b w.position (step s room w call).bytes) where
          later : Same s writes room b₀ w₀ calls now v made.more
          later = same_on (rw made.due at h.same) does wrote accepted

          first_is : (due : Option Place) → Begun s room w₀ calls due w h.rest → (o : ℕ) × (first_answer s room w₀ calls ≡ writer.Answer.accepted o)
          unfolding first_answer
          first_is due (not_yet q e) = (at, sym e ∙ ap (first_answer s room w) made.due ∙ accepted)
          first_is due (answered_by o e) = (o, e)

          pub turn_on : Walking s text words t writes room b₀ w₀ now v (passed words p x)
          turn_on =
              let (o, e) = first_is due h.begun in
              record {
                tree = h.tree;
                decided = h.decided;
                checked = h.checked;
                sound = ap is_sound does ∙ sound_kept s room w call h.sound;
                rest = made.more;
                at = made.next;
                same = later;
                fit = h.fit;
                long = split writes (λ y. sym (later.lent y) ∙ h.same.lent y) (λ y. ap length (rw y at wrote)) ∙ h.long;
                begun = answered_by o e;
              }

      -- a call that was made as written
      module _ (y : writes ≡ true) {v : Serializer} {now : List ℕ} (k : Makes call s w b v now) where
        long_as : length b ≡ room
        long_as = sym (h.same.lent y)

        made_does : v ≡ (step s room w call).serializer
        made_does = k.serializer ∙ ap (λ (n : ℕ). (step s n w call).serializer) long_as

        made_accepted : (step s room w call).answer ≡ writer.Answer.accepted (turn_can y).0
        made_accepted = sym (ap (λ (n : ℕ). (step s n w call).answer) long_as) ∙ (turn_can y).1

        made_wrote : now ≡ written_if writes b w.position (step s room w call).bytes
        made_wrote = rw y (k.buffer ∙ ap (λ (n : ℕ). pasted b w.position (step s n w call).bytes) long_as)

        pub made_on : Walking s text words t writes room b₀ w₀ now v (passed words p x)
        made_on = turn_on made_does made_accepted made_wrote

  -- ---- the walk ends

  -- a call was refused
  pub walk_off : fits s room w₀ calls ≡ false → {n : Node} → decide text words ≡ some n → Finds s room w₀ (tree_calls text t n) (Err NoRoom)
  walk_off f d = off (rw (the_tree d) at f)

  -- nothing is left
  module _ (none : due ≡ None) where
    over : h.rest ≡ []
    over = rw none at h.at

    first_was : Begun s room w₀ calls due w h.rest → (o : ℕ) × (first_answer s room w₀ calls ≡ writer.Answer.accepted o)
    first_was (not_yet q e) = absurd (let z = sym none ∙ q in cc)
    first_was (answered_by o e) = (o, e)

    all_fit : fits s room w₀ calls ≡ true
    unfolding fits
    all_fit = sym h.same.fit ∙ ap (fits s room w) over

    ending : w ≡ after s room w₀ calls
    unfolding after
    ending = sym (ap (after s room w) over) ∙ h.same.last

    pub walk_all : {r : ℕ} → Starts s room w₀ t r → {n : Node} → decide text words ≡ some n → Finds s room w₀ (tree_calls text t n) (Ok (record { serializer = w; offset = r }))
    walk_all starts d =
        let first = (first_was h.begun).1 in
        rw (← the_tree d, ending) (all all_fit (first ∙ ap writer.Answer.accepted (sym (tree_starts s room w₀ text t h.tree first starts))))

    -- written, where that is wished
    module _ (y : writes ≡ true) {n : Node} (d : decide text words ≡ some n) where
      pub walk_end : w.position ≡ (after s (length b₀) w₀ (tree_calls text t n)).position
      walk_end = ap (λ (x : Serializer). x.position) (rw (the_tree d, h.same.lent y ∙ h.long) at ending)

      pub walk_buffer : b ≡ (run s b₀ w₀ (tree_calls text t n)).buffer
      unfolding run
      walk_buffer = rw (← the_tree d) (sym (ap (λ (cs : List Call). (run s b w cs).buffer) over) ∙ h.same.buffer y)
