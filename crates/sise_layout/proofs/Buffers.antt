-- What a run over a buffer leaves is what the rules give with no buffer: an accepted call pastes its bytes at the old position, inside the buffer, and a
-- refused one leaves it. So the buffer's first contents count nowhere, and every call finds a buffer of the first one's length.
-- Assumes nothing.
use Prim.Native.Nat.{ℕ, ◌+◌, ◌≤◌}
use native.Mathlib.Omega.{arith}
use mathlib.Core.Path.{◌≡◌, refl, sym, ap, ◌∙◌}
use mathlib.Core.List.{List, [], ◌∷◌, ◌++◌, append_assoc, append-nil}
use lib.ListN.{length, take, drop, length-append}
use lib.Seq.{take_at}
use Rattle.sise_serializer.specs.Bytes.{pasted}
use Rattle.sise_serializer.specs.Serializer.{Style, Piece, Written, Answer, first_atom, first_list, inner, inner_as, close, close_as, last, fresh_serializer}
use Rattle.sise_serializer.specs.declared.serializer.Serializer.{Serializer}
use Rattle.sise_serializer.proofs.Bytes.{pasted_none, head-length, pasted_length}
use Rattle.sise_serializer.proofs.Verdicts.{end_of, Puts, atom_alone, atom_inside, list_first, list_inside, list_closed, text_ended, Verdict, refuses, puts, verdict}
use Rattle.sise_serializer.specs.Calls.{Call, Placed, Run, run, writing, item_of, step}
use Rattle.sise_layout.specs.Texts.{text_of}
use Rattle.sise_layout.specs.Rules.{Writes, writes}

-- bytes that fit
module _ (l : List ℕ) (at : ℕ) (b : List ℕ) (h : at + length b ≤ length l) where
  pasted_head : take (at + length b) (pasted l at b) ≡ take at l ++ b
  unfolding pasted
  pasted_head = take_at (take at l ++ b) (drop (at + length b) l) (at + length b) (head-length l at b h)

-- the position after a piece is where it ends
after_end : {s : Style} {w : Serializer} {c : Call} {p : Piece} → Puts s w c p → p.after.position ≡ end_of w p
unfolding first_atom first_list inner inner_as close close_as last
after_end (atom_alone f h) = omega arith
after_end (atom_inside f h) = refl
after_end (list_first f) = omega arith
after_end (list_inside f) = refl
after_end (list_closed f) = refl
after_end (text_ended f) = omega arith

-- what a call leaves in a buffer, whatever the record
pub record Stored (buffer : List ℕ) (w : Serializer) (r : Written) : Type 0 where
  pub size : length (pasted buffer w.position r.bytes) ≡ length buffer
  pub held : take r.serializer.position (pasted buffer w.position r.bytes) ≡ take w.position buffer ++ r.bytes

module _ (s : Style) (buffer : List ℕ) (w : Serializer) where
  of_verdict : (c : Call) (r : Written) → Verdict s (length buffer) w c r → Stored buffer w r
  of_verdict c r (refuses n u) = record {
    size = ap length (pasted_none buffer w.position);
    held = ap (take w.position) (pasted_none buffer w.position) ∙ sym (append-nil (take w.position buffer));
  }
  of_verdict c r (puts p o q) =
      let bytes = p.layout ++ p.token in
      let long = length-append p.layout p.token in
      let there : p.after.position ≡ w.position + length bytes = omega (arith, after_end o) in
      record {
        size = pasted_length buffer w.position bytes (omega arith);
        held = rw there (pasted_head buffer w.position bytes (omega arith));
      }

  pub stored : (c : Call) → Stored buffer w (step s (length buffer) w c)
  stored c = of_verdict c (step s (length buffer) w c) (verdict s (length buffer) w c)

-- a run over the buffer, and the same by the rules
pub record Tied (buffer : List ℕ) (w : Serializer) (r : Run) (b : Writes) : Type 0 where
  pub last : r.last ≡ b.last
  pub answers : r.answers ≡ b.answers
  pub items : r.items ≡ b.items
  pub text : text_of r ≡ take w.position buffer ++ b.text

pub tied : (s : Style) (cs : List Call) (buffer : List ℕ) (w : Serializer) → Tied buffer w (run s buffer w cs) (writes s (length buffer) w cs)
unfolding run writes
tied s [] buffer w = record { last = refl; answers = refl; items = refl; text = sym (append-nil (take w.position buffer)) }
tied s (c ∷ cs) buffer w =
    let r = step s (length buffer) w c in
    let now = stored s buffer w c in
    let later = rw now.size at (tied s cs (pasted buffer w.position r.bytes) r.serializer) in
    record {
      last = later.last;
      answers = ap (λ (l : List Answer). r.answer ∷ l) later.answers;
      items = ap (λ (l : List Placed). item_of c r.answer ++ l) later.items;
      text =
          later.text
          ∙ ap (λ (l : List ℕ). l ++ (writes s (length buffer) r.serializer cs).text) now.held
          ∙ append_assoc (take w.position buffer) r.bytes (writes s (length buffer) r.serializer cs).text;
    }

module _ (s : Style) (buffer : List ℕ) (cs : List Call) where
  abbrev bytes : Writes
  bytes = writes s (length buffer) fresh_serializer cs

  pub same_last : (writing s buffer cs).last ≡ bytes.last
  same_last = (tied s cs buffer fresh_serializer).last

  pub same_answers : (writing s buffer cs).answers ≡ bytes.answers
  same_answers = (tied s cs buffer fresh_serializer).answers

  pub same_items : (writing s buffer cs).items ≡ bytes.items
  same_items = (tied s cs buffer fresh_serializer).items

  pub same_text : text_of (writing s buffer cs) ≡ bytes.text
  unfolding fresh_serializer
  same_text = (tied s cs buffer fresh_serializer).text

-- two runs of the same calls over buffers of one length: record, answers and items are the same, and the text is, where it began the same
pub record Alike (w : Serializer) (b c : List ℕ) (r t : Run) : Type 0 where
  pub last : r.last ≡ t.last
  pub answers : r.answers ≡ t.answers
  pub items : r.items ≡ t.items
  pub text : take w.position b ≡ take w.position c → text_of r ≡ text_of t

pub first_contents : (s : Style) (w : Serializer) (cs : List Call) (b c : List ℕ) → length b ≡ length c → Alike w b c (run s b w cs) (run s c w cs)
first_contents s w cs b c e =
    let x = rw e at (tied s cs b w) in
    let y = tied s cs c w in
    record {
      last = x.last ∙ sym y.last;
      answers = x.answers ∙ sym y.answers;
      items = x.items ∙ sym y.items;
      text = λ h. x.text ∙ ap (λ (l : List ℕ). l ++ (writes s (length c) w cs).text) h ∙ sym y.text;
    }
