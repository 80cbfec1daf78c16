-- By the test of the code.
use borrow.Author.Tests.{lt-ltb, le-ltb}
use Rattle.sise_util.specs.Parts.{mask_of}
use Rattle.sise_util.proofs.util.mask_of.Goals as goal

pub returns-then-byte-lt64 : goal.returns-then-byte-lt64
unfolding mask_of
returns-then-byte-lt64 c = rw (lt-ltb _ _ c.if-byte-lt64.true)

pub returns-else-byte-lt64 : goal.returns-else-byte-lt64
unfolding mask_of
returns-else-byte-lt64 c = rw (le-ltb _ _ c.if-byte-lt64.false)
