-- Calls that a program made one by one, each meeting its contract, are the run: record, buffer, answers and items. So demand 3 holds of what the four methods
-- returned; the statement is `made_alike`.
-- Assumes nothing.
use Prim.Native.Nat.{ℕ}
use mathlib.Core.Path.{◌≡◌, refl, sym, ap, ◌∙◌}
use mathlib.Core.Bool.{true}
use mathlib.Core.List.{List}
use lib.ListN.{length, take}
use Rattle.sise_parser.specs.Reader as reader
use Rattle.sise_parser.specs.Reader.{fresh_reader}
use Rattle.sise_parser.specs.Readings.{Read}
use Rattle.sise_parser.specs.declared.reader.Reader.{Reader}
use Rattle.sise_parser.proofs.Readings.{read_answers, read_record}
use Rattle.sise_serializer.specs.Serializer.{Style, Answer, is_sound, fresh_serializer}
use Rattle.sise_serializer.specs.declared.serializer.Phase.TheVariants.{Done}
use Rattle.sise_serializer.specs.declared.serializer.Serializer.{Serializer}
use Rattle.sise_serializer.specs.Calls.{is_accepted, Call, finish_call, Item, Placed, items_of, Run, run, writing}
use Rattle.sise_serializer.proofs.Kept.{fresh_sound, sound_kept}
use Rattle.sise_layout.specs.Texts.{FinishAccepted, here, later, Blank}
use Rattle.sise_layout.specs.Made as made
use Rattle.sise_layout.specs.Made.{Made, none, more, MadeWriting, items_by}
use Rattle.sise_layout.specs.Reading.{Gives, Got}
use Rattle.sise_layout.specs.Rules.{writes}
use Rattle.sise_layout.specs.Claim.{HasItems}
use Rattle.sise_layout.proofs.Ended.{finished_done, all_late}
use Rattle.sise_layout.proofs.Buffers.{tied}
use Rattle.sise_layout.proofs.Demand3.{one_writing}

module _ {s : Style} where
  -- record, buffer, answers and items
  pub made_run : {w v : Serializer} {b b' : List ℕ} {cs : List Call} {l : List Answer} → Made s w b cs v b' l
      → run s b w cs ≡ record { last = v; buffer = b'; answers = l; items = items_by cs l }
  unfolding run items_by
  made_run none = refl
  made_run (more d m) = rw (← d.buffer, ← d.serializer, ← d.answer, made_run m)

  -- what a program got and wrote is what the rules give, with no buffer
  pub made_by_rules : {v : Serializer} {first now : List ℕ} {cs : List Call} {l : List Answer} → Made s fresh_serializer first cs v now l
      → record { last = v; answers = l; items = items_by cs l; text = take v.position now } ≡ writes s (length first) fresh_serializer cs
  unfolding fresh_serializer
  made_by_rules {first = first} {cs = cs} m = let t = rw (made_run m) at (tied s cs first fresh_serializer) in rw (t.text, t.items, t.last, t.answers)

  -- after the accepted finish record and buffer stay
  made_whole : {w f : Serializer} {b b' : List ℕ} {cs : List Call} {l : List Answer} → is_sound w ≡ true → MadeWriting s w b cs f b' l → Made s w b cs f b' l
  made_whole {w} {b = b} h (made.here {v = v} {b' = b'} {wished = wished} {cs = cs} {r = r} d a m) =
      let sound : is_sound r.serializer ≡ true = rw d.serializer (sound_kept s (length b) w (finish_call wished) h) in
      let done : r.serializer.phase ≡ Done = rw d.serializer (finished_done s (length b) w wished (ap is_accepted (sym d.answer ∙ a))) in
      let kept : v ≡ r.serializer = ap (λ (t : Run). t.last) (sym (made_run m) ∙ all_late s r.serializer sound done cs b') in
      rw (kept, a) at (more d m)
  made_whole {w} {b = b} h (made.later {c = c} d m) = more d (made_whole (rw d.serializer (sound_kept s (length b) w c h)) m)

  made_accepts : {w f : Serializer} {b b' : List ℕ} {cs : List Call} {l : List Answer} → MadeWriting s w b cs f b' l → FinishAccepted cs l
  made_accepts (made.here d a m) = here
  made_accepts (made.later d m) = later (made_accepts m)

-- one writing
module _ {s : Style} {first now : List ℕ} {cs : List Call} {f : Serializer} {l : List Answer} (m : MadeWriting s fresh_serializer first cs f now l) where
  is_run : writing s first cs ≡ record { last = f; buffer = now; answers = l; items = items_by cs l }
  is_run = made_run (made_whole fresh_sound m)

  pub made_holds : Blank s → HasItems s (take f.position now) f (items_by cs l) (items_of (items_by cs l))
  made_holds blank = rw is_run at (one_writing s first cs (rw is_run (made_accepts m)) blank)

-- reading by calls made one by one too
module _ {text : List ℕ} {items : List Placed} (g : Gives text items) where
  pub read_items_lem : {l : List reader.Answer} {v : Reader} → Read text fresh_reader l v → Got text items l v
  read_items_lem {l} m = record {
    answers = read_answers m ∙ g.answers (length l);
    early = λ h. rw (read_record m) (g.early (length l) h);
    finished = λ h. rw (read_record m) (g.finished (length l) h);
  }

-- two programs that made their calls one by one, each with its own style, buffer and calls: if both wrote these items, each text is the buffer up to the position
-- of the record that the accepted finish returned, and reading it gives these items
pub made_alike : (items : List Item)
    {s₁ : Style} {first₁ now₁ : List ℕ} {calls₁ : List Call} {f₁ : Serializer} {answers₁ : List Answer}
    {s₂ : Style} {first₂ now₂ : List ℕ} {calls₂ : List Call} {f₂ : Serializer} {answers₂ : List Answer}
    → Blank s₁ → MadeWriting s₁ fresh_serializer first₁ calls₁ f₁ now₁ answers₁ → items_of (items_by calls₁ answers₁) ≡ items
    → Blank s₂ → MadeWriting s₂ fresh_serializer first₂ calls₂ f₂ now₂ answers₂ → items_of (items_by calls₂ answers₂) ≡ items
    → HasItems s₁ (take f₁.position now₁) f₁ (items_by calls₁ answers₁) items × HasItems s₂ (take f₂.position now₂) f₂ (items_by calls₂ answers₂) items
made_alike items k₁ m₁ e₁ k₂ m₂ e₂ = (rw e₁ at (made_holds m₁ k₁), rw e₂ at (made_holds m₂ k₂))
