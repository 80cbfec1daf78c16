-- `sise_util::three` meets its contract: the definition goes on with a third octet that is a UTF8-tail, and ends with any other.
use mathlib.Core.Path.{sym, ap, ◌∙◌}
use Prim.Native.Nat.{ℕ, ◌+◌, ◌-◌, ◌*◌}
use native.Mathlib.Omega.{arith}
use mathlib.Core.List.{[]}
use lib.ListN.{get_or}
use Rattle.sise_util.specs.Utf8.{well}
use Rattle.sise_util.proofs.Utf8Steps.{hit, miss, ends}
use Rattle.sise_util.proofs.utf8.three.Goals as goal

pub returns-in-128-to-191 : goal.returns-in-128-to-191
returns-in-128-to-191 c =
    ap (λ (n : ℕ). well (n * 64 + (get_or c.args.due.now 0 0 - 128)) 3) c.joined.ensures
    ∙ sym (hit c.args.due.now 0 0x80 0xBF _ 3 [] (omega arith) (omega arith) (omega arith) ∙ ends _ 3 _)

pub returns-in_default : goal.returns-in_default
returns-in_default c = miss c.args.due.now 0 0x80 0xBF _ 3 [] (λ h from to. omega arith)

pub returns-in_default-2 : goal.returns-in_default-2
returns-in_default-2 c = miss c.args.due.now 0 0x80 0xBF _ 3 [] (λ h from to. omega arith)

pub returns-in_default-3 : goal.returns-in_default-3
returns-in_default-3 c = miss c.args.due.now 0 0x80 0xBF _ 3 [] (λ h from to. omega arith)
