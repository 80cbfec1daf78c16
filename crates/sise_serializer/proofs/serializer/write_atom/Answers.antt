-- What is no atom is refused; an atom is an item.
use mathlib.Core.Path.{◌≡◌, refl, sym, ap, ◌∙◌}
use mathlib.Core.Bool.{true, false}
use mathlib.Core.List.{[]}
use Rattle.std.specs.Prelude.{is_some, is_ok}
use Rattle.sise_util.specs.Atom.{is_atom}
use Rattle.sise_util.proofs.KindLaws.{kind_atom}
use Rattle.sise_serializer.specs.Serializer.{style_of}
use Rattle.sise_serializer.proofs.Does.{put_no_atom, put_item}
use Rattle.sise_serializer.proofs.Plans.{refused_plan}
use Rattle.sise_serializer.proofs.Spots.{none_err}
use Rattle.sise_serializer.proofs.serializer.write_atom.Goals as goal

pub returns-in_err-ok_or : goal.returns-in_err-ok_or
returns-in_err-ok_or c =
    let a = c.args in
    let no : is_atom a.atom.now ≡ false = sym (kind_atom a.atom.now) ∙ ap is_some (sym c.check_atom.ensures) ∙ sym c.ok_or.ensures.variant ∙ ap is_ok c.in_err-ok_or.was in
    refused_plan (style_of a.style) a.w.serializer [] a.buf.now _ _ (put_no_atom _ _ a.w.serializer a.w.sound a.atom.now _ no ∙ rw (← none_err _ (sym c.ok_or.ensures.value ∙ c.in_err-ok_or.was)) refl) c.from_residual.ensures.1

pub returns : goal.returns
returns c =
    let a = c.args in
    let atom : is_atom a.atom.now ≡ true = sym (kind_atom a.atom.now) ∙ ap is_some (sym c.check_atom.ensures) ∙ sym c.ok_or.ensures.variant ∙ ap is_ok c.in_ok-ok_or.was in
    rw (put_item _ _ a.w.serializer a.w.sound a.atom.now _ atom) c.write_item.ensures
