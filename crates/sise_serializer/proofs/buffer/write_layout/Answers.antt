-- No byte, a space, or a line.
use mathlib.Core.Path.{sym}
use Rattle.sise_serializer.proofs.Bytes.{pasted_none, pasted_one}
use native.Mathlib.Omega.{arith}
use Rattle.sise_serializer.proofs.buffer.write_layout.Goals as goal

pub returns-in-Nothing : goal.returns-in-Nothing
returns-in-Nothing c = rw c.in-Nothing.is (sym (pasted_none c.args.buf.now c.args.at))

pub returns-in-Space : goal.returns-in-Space
returns-in-Space c = rw c.in-Space.is (pasted_one _ _ 32 (let h = c.requires in omega (arith, (rw c.in-Space.is at h))))
