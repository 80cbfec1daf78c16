-- The record is made as the definition of a fresh one has it.
use mathlib.Core.Path.{refl}
use Rattle.sise_serializer.specs.Serializer.{fresh_serializer}
use Rattle.sise_serializer.proofs.serializer.Serializer.new.Goals as goal

pub returns : goal.returns
unfolding fresh_serializer
returns c = refl
