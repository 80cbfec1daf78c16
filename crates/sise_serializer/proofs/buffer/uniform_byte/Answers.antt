-- A list whose elements are all the first one is that byte, repeated; and a list with a first element is not empty.
use Rattle.std.proofs.Common.{◌≡◌, ℕ, ◌<◌, length, true, rules}
use Rattle.std.specs.Prelude.{All}
use Rattle.sise_util.proofs.Ranges.{split}
use Rattle.sise_serializer.proofs.Bytes.{repeat_all}
use Rattle.sise_serializer.proofs.buffer.uniform_byte.Goals as goal

pub returns : goal.returns
returns c =
    let some : 0 < length c.args.src.now = search rules in
    let all : c.all.result ≡ true → All (λ (x : ℕ). x ≡ c.in_ok-first.field-0.now) c.args.src.now = λ t. search rules in
    rw c.then_some.ensures (split c.all.result (λ t. rw t (some, repeat_all c.args.src.now c.in_ok-first.field-0.now (all t))) (λ t. rw t _))
