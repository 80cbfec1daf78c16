-- 0 where check_atom says yes, and the number of InvalidAtom where it says no.
use Rattle.std.proofs.Common.{◌≡◌, refl, ap, ◌∙◌, Option, None, Some}
use Rattle.std.specs.Prelude.{is_some}
use Rattle.std.specs.Option.{ok_or}
use Rattle.sise_util.specs.declared.util.AtomKind.{AtomKind}
use Rattle.sise_util.proofs.KindLaws.{kind_atom}
use Rattle.sise_parser.specs.Refusals.{answer_number}
use Rattle.sise_serializer.specs.Serializer.{write_refusal}
use Rattle.sise_serializer.specs.declared.serializer.WriteError.TheVariants.{InvalidAtom}
use Rattle.sise_c.specs.Reports.{checked}
use Rattle.sise_c.proofs.sise_check_atom.Goals as goal

number : (k : Option AtomKind) → answer_number write_refusal (ok_or k InvalidAtom) ≡ checked (is_some k)
number None = refl
number (Some k) = refl

pub returns : goal.returns
returns c =
    c.answer_number.ensures ∙ ap (answer_number write_refusal) c.ok_or.ensures.value ∙ number c.check_atom.result
    ∙ ap (λ (k : Option AtomKind). checked (is_some k)) c.check_atom.ensures ∙ ap checked (kind_atom _)
