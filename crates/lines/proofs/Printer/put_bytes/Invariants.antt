-- To put the bytes that are left is to put all of them from the beginning.
use Rattle.std.proofs.Common.{◌≡◌, drop}
use Rattle.lines.specs.Put.{put}
use Rattle.lines.proofs.Printer.put_bytes.Given as goal

abbrev pub invariant-loop-byte : goal.invariant-loop-byte
invariant-loop-byte l = put l.self (drop l.byte-index l.bytes) ≡ put l.initial.self l.bytes
