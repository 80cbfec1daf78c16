-- What the answer of a tree's writing means loses nothing: two answers that mean the same are the same. So a contract about the meaning is one about the
-- answer itself.
-- Assumes nothing.
use mathlib.Core.Path.{◌≡◌, refl, sym, ap, ◌∙◌}
use mathlib.Core.Bool.{cond}
use Rattle.std.specs.Prelude.{Result, Ok, Err}
use mathlib.Core.List.{List}
use Prim.Native.Nat.{ℕ}
use lib.Dec.{eqb}
use Rattle.sise_serializer.specs.declared.serializer.Serializer.{Serializer}
use Rattle.sise_tree.specs.Answers.{Answer, answered, refused}
use Rattle.sise_tree_writer.specs.Answers.{error_number, put_as}
use Rattle.sise_tree_writer.specs.SerializeTree.{Writes, DoesWrite, DoesMeasure}
use Rattle.sise_tree_writer.specs.declared.serialize.WriteTreeError.{WriteTreeError}
use Rattle.sise_tree_writer.specs.declared.serialize.WriteTreeError.TheVariants.{TextTooLong, UnsoundRecord, NotATree, InvalidAtom, WritingFinished, NoRoom, SizeChanged}
use Rattle.sise_tree_writer.specs.Answers.{TreeWrote}
use Rattle.sise_tree_writer.specs.Sizes.{Enquiry, adds, refuses, measured_as}
use Rattle.sise_tree_writer.specs.declared.size.TreeSize.{TreeSize}

-- the refusal that has this number
abbrev error_of : ℕ → WriteTreeError
error_of n =
    cond (eqb n 13) TextTooLong (
    cond (eqb n 11) UnsoundRecord (
    cond (eqb n 15) NotATree (
    cond (eqb n 17) InvalidAtom (
    cond (eqb n 19) WritingFinished (
    cond (eqb n 22) NoRoom SizeChanged)))))

error_back : (e : WriteTreeError) → error_of (error_number e) ≡ e
error_back TextTooLong = refl
error_back UnsoundRecord = refl
error_back NotATree = refl
error_back InvalidAtom = refl
error_back WritingFinished = refl
error_back NoRoom = refl
error_back SizeChanged = refl

-- the answer that has this meaning
abbrev put_of : Answer → Result ℕ WriteTreeError
put_of (answered o) = Ok o
put_of (refused e) = Err (error_of e.number)

put_back : (a : Result ℕ WriteTreeError) → put_of (put_as a) ≡ a
put_back (Ok o) = refl
put_back (Err e) = ap Err (error_back e)

pub put_lossless : (a b : Result ℕ WriteTreeError) → put_as a ≡ put_as b → a ≡ b
put_lossless a b d = sym (put_back a) ∙ ap put_of d ∙ put_back b

-- so a contract of a tree's measuring has one result
pub measure_lossless : {d : Writes} {r q : TreeWrote} → DoesMeasure d r → DoesMeasure d q → r ≡ q
measure_lossless {r = r} {q = q} h k =
    ap (λ (w : Serializer). wrote w r.answer) (h.serializer ∙ sym k.serializer)
    ∙ ap (wrote q.serializer) (put_lossless r.answer q.answer (h.answer ∙ sym k.answer))
  where
    wrote : Serializer → Result ℕ WriteTreeError → TreeWrote
    wrote w a = record { serializer = w; answer = a }

-- and one of its writing
pub write_lossless : {d : Writes} {r q : TreeWrote} {now now' : List ℕ} → DoesWrite d r now → DoesWrite d q now' → (r ≡ q) × (now ≡ now')
write_lossless {d} h k = (
  measure_lossless {d = d} (record { serializer = h.serializer; answer = h.answer }) (record { serializer = k.serializer; answer = k.answer }),
  h.buffer ∙ sym k.buffer,
)

-- and what an enquiry answers loses nothing
abbrev measured_of : Enquiry → Result TreeSize WriteTreeError
measured_of (adds bytes breaks indents) = Ok (record { bytes = bytes; breaks = breaks; indents = indents })
measured_of (refuses n) = Err (error_of n)

measured_back : (a : Result TreeSize WriteTreeError) → measured_of (measured_as a) ≡ a
measured_back (Ok z) = refl
measured_back (Err e) = ap Err (error_back e)

pub size_lossless : (a b : Result TreeSize WriteTreeError) → measured_as a ≡ measured_as b → a ≡ b
size_lossless a b d = sym (measured_back a) ∙ ap measured_of d ∙ measured_back b
