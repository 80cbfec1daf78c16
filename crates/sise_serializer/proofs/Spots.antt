-- What follows from a token that has a spot, and from one that has none.
-- Assumes nothing.
use Prim.Native.Nat.{ℕ, ◌+◌, ◌≤◌, ◌<◌, min}
use native.Mathlib.Omega.{arith}
use mathlib.Core.Path.{◌≡◌, refl, sym, ap, ◌∙◌}
use Rattle.std.specs.Prelude.{Option, Some, None, Result, Ok, Err, ok_or}
use mathlib.Core.Bool.{true, false}
use lib.Dec.{leb}
use borrow.Author.Tests.{le-leb, lt-leb, leb-true}
use Rattle.sise_serializer.specs.Serializer.{limit}
use Rattle.sise_serializer.specs.Parts.{spot_of, spot_or_full}
use Rattle.sise_serializer.specs.declared.buffer.Spot.{Spot}
use Rattle.sise_serializer.specs.declared.serializer.WriteError.{WriteError}
use Rattle.sise_serializer.specs.declared.serializer.WriteError.TheVariants.{NoRoom}
use Rattle.sise_util.proofs.Ranges.{split}

-- the error in place of None
pub none_err : {A E : Type 0} {e f : E} (o : Option A) → ok_or o e ≡ Err f → e ≡ f
none_err (Some x) h = absurd cc
none_err None h = cc

-- what is known of a token with a spot
pub record Found (room at layout token : ℕ) (s : Spot) : Type 0 where
  pub in_room : at + layout + token ≤ room
  pub in_limit : at + layout + token ≤ limit
  pub offset : s.at ≡ at + layout
  pub end : s.end ≡ at + layout + token
  pub test : leb (at + layout + token) (min room limit) ≡ true

module _ (room at layout token : ℕ) where
  pub spot_at : {o e : ℕ} → o ≡ at + layout → e ≡ at + layout + token → at + layout + token ≤ min room limit → Some (record { at = o; end = e }) ≡ spot_of room at layout token
  unfolding spot_of
  spot_at p q h = rw (p, q, le-leb (at + layout + token) (min room limit) h)

  pub spot_none : min room limit < at + layout + token → None ≡ spot_of room at layout token
  unfolding spot_of
  spot_none h = rw (lt-leb (at + layout + token) (min room limit) h)

  pub found : {s : Spot} → spot_of room at layout token ≡ Some s → Found room at layout token s
  unfolding spot_of
  found {s} h =
      split (leb (at + layout + token) (min room limit))
      (λ t.
      let q : Some (record { at = at + layout; end = at + layout + token }) ≡ Some s = rw t at h in
      let i = leb-true (at + layout + token) (min room limit) t in
      let e : record { at = at + layout; end = at + layout + token } ≡ s = cc in
      record { in_room = omega arith; in_limit = omega arith; offset = ap (λ (x : Spot). x.at) (sym e); end = ap (λ (x : Spot). x.end) (sym e); test = t })
      (λ t.
      let q : None ≡ Some s = rw t at h in absurd cc)

  pub not_found : spot_of room at layout token ≡ None → leb (at + layout + token) (min room limit) ≡ false
  unfolding spot_of
  not_found h =
      split (leb (at + layout + token) (min room limit))
      (λ t.
      let q : Some (record { at = at + layout; end = at + layout + token }) ≡ None = rw t at h in absurd cc)
      (λ t. t)

  -- the same of a spot or the refusal
  pub found_ok : {s : Spot} → spot_or_full room at layout token ≡ Ok s → Found room at layout token s
  found_ok {s} h = of (spot_of room at layout token) refl h
    where
      of : (o : Option Spot) → spot_of room at layout token ≡ o → ok_or o NoRoom ≡ Ok s → Found room at layout token s
      of (Some x) e q = found (e ∙ (let p : x ≡ s = cc in ap Some p))
      of None e q = absurd cc

  pub not_found_err : {f : WriteError} → spot_or_full room at layout token ≡ Err f → (leb (at + layout + token) (min room limit) ≡ false) × (NoRoom ≡ f)
  not_found_err {f} h = of (spot_of room at layout token) refl h
    where
      of : (o : Option Spot) → spot_of room at layout token ≡ o → ok_or o NoRoom ≡ Err f → (leb (at + layout + token) (min room limit) ≡ false) × (NoRoom ≡ f)
      of (Some x) e q = absurd cc
      of None e q = (not_found e, cc)

-- a spot, by other names of the two lengths
pub spot_as : (room at : ℕ) {layout token m n : ℕ} {r : Option Spot} → r ≡ spot_of room at layout token → layout ≡ m → token ≡ n → r ≡ spot_of room at m n
spot_as room at h e f = h ∙ rw (e, f)

pub find_as : (room at : ℕ) {layout token m n : ℕ} {r : Result Spot WriteError} → r ≡ spot_or_full room at layout token → layout ≡ m → token ≡ n → r ≡ spot_or_full room at m n
find_as room at h e f = h ∙ rw (e, f)
