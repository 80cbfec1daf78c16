-- One byte is stored.
use native.Mathlib.Omega.{arith}
use Rattle.sise_serializer.proofs.Bytes.{pasted_one}
use Rattle.sise_serializer.proofs.token.ListEndToken.put.Goals as goal

pub returns : goal.returns
returns c = pasted_one _ _ 41 (omega arith)
