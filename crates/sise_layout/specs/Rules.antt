-- What a list of calls is answered, and the bytes that it writes, by the rules and with no buffer (document 01: "Which calls are refused, and the bytes and
-- offsets of the accepted ones, follow from the rules of this document, applied from a fresh record to the calls' arguments, the style and the buffer's
-- length alone").
-- Assumes nothing.
use Rattle.std.specs.Prelude.{ℕ, List, [], ◌∷◌, ◌++◌}
use Rattle.sise_serializer.specs.Serializer.{Style, Answer}
use Rattle.sise_serializer.specs.declared.serializer.Serializer.{Serializer}
use Rattle.sise_serializer.specs.Calls.{Call, Placed, item_of, step}

-- the record that calls leave, their answers, their items, and the bytes that they write, one after the other
pub record Writes : Type 0 where
  pub last : Serializer
  pub answers : List Answer
  pub items : List Placed
  pub text : List ℕ

-- the calls from the record w on; room is the buffer's length
unfoldable pub writes : Style → ℕ → Serializer → List Call → Writes
writes s room w [] = record { last = w; answers = []; items = []; text = [] }
writes s room w (c ∷ cs) =
    let r = step s room w c in
    let rest = writes s room r.serializer cs in
    record { last = rest.last; answers = r.answer ∷ rest.answers; items = item_of c r.answer ++ rest.items; text = r.bytes ++ rest.text }
