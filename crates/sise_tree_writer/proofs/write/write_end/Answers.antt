-- The call is accepted, so a list is open, and the `)` has room; it goes on a new line if the list has a break in it.
use Prim.Native.Nat.{◌-◌, min}
use native.Mathlib.Nat.{add-zero}
use native.Mathlib.Omega.{arith}
use mathlib.Core.Path.{◌≡◌, ap, ◌∙◌}
use Rattle.sise_serializer.specs.Serializer.{style_of, close_as, end_in, place}
use Rattle.sise_serializer.proofs.Bytes.{pasted_one}
use Rattle.sise_serializer.proofs.Sound.{sound, writing_lists}
use Rattle.sise_serializer.proofs.Does.{end_in_lem, close_broken, close_unbroken}
use Rattle.sise_tree_writer.proofs.Made.{end_writing}
use Rattle.sise_tree_writer.proofs.Planned.{has_room, done}
use Rattle.sise_tree_writer.proofs.write.write_end.Goals as goal

pub end_on_new_line-requires : goal.end_on_new_line-requires
unfolding end_in
end_on_new_line-requires c =
    let a = c.args in
    let writing = end_writing _ _ a.w.serializer c.requires.1 in
    record {
      lists = writing_lists a.w.serializer a.w.sound writing;
      broken = c.if-w.true;
      room = has_room _ _ _ c.requires (end_in_lem _ _ a.w.serializer a.w.sound writing ∙ ap (place _ a.w.serializer) (close_broken (style_of a.style) a.w.serializer c.if-w.true));
    }

pub returns-then-w : goal.returns-then-w
unfolding end_in
returns-then-w c =
    let a = c.args in
    let writing = end_writing _ _ a.w.serializer c.requires.1 in
    done _ _ _ c.requires (end_in_lem _ _ a.w.serializer a.w.sound writing ∙ ap (place _ a.w.serializer) (close_broken (style_of a.style) a.w.serializer c.if-w.true)) c.end_on_new_line.ensures

pub bounds-buf-at : goal.bounds-buf-at
unfolding close_as end_in
bounds-buf-at c =
    let a = c.args in
    let room = has_room _ _ _ c.requires (end_in_lem _ _ a.w.serializer a.w.sound (end_writing _ _ a.w.serializer c.requires.1) ∙ ap (place _ a.w.serializer) (close_unbroken (style_of a.style) a.w.serializer c.if-w.false)) in
    omega (arith, room.inside)

pub overflow_add-at : goal.overflow_add-at
unfolding close_as end_in
overflow_add-at c =
    let a = c.args in
    let room = has_room _ _ _ c.requires (end_in_lem _ _ a.w.serializer a.w.sound (end_writing _ _ a.w.serializer c.requires.1) ∙ ap (place _ a.w.serializer) (close_unbroken (style_of a.style) a.w.serializer c.if-w.false)) in
    omega (arith, room.within)

pub returns : goal.returns
unfolding close_as end_in
returns c =
    let a = c.args in
    let is = end_in_lem _ _ a.w.serializer a.w.sound (end_writing _ _ a.w.serializer c.requires.1) ∙ ap (place _ a.w.serializer) (close_unbroken (style_of a.style) a.w.serializer c.if-w.false) in
    let room = has_room _ _ _ c.requires is in
    let kept : a.w.serializer.broken ≡ min a.w.serializer.broken (a.w.serializer.lists - 1) = (let unequal = c.if-w.false in let few = (sound a.w.serializer a.w.sound).checked.broken in omega arith) in
    done _ _ _ c.requires is
    (record { serializer = rw (c.behind_end_in_line.ensures, add-zero a.w.serializer.position, ← kept); buffer = pasted_one a.buf.now a.w.serializer.position 41 (omega (arith, room.inside)) })
