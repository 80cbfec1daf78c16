-- No byte is written.
use mathlib.Core.Path.{sym}
use Rattle.sise_serializer.proofs.Bytes.{pasted_none}
use Rattle.sise_serializer.proofs.token.NoBytesToken.put.Goals as goal

pub returns : goal.returns
returns c = sym (pasted_none c.args.arg2.now c.args.arg3)
