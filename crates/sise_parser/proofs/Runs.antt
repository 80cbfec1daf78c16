-- A run of atom characters in an atom: the atom is the same from its end on, where no atom character stands.
-- Assumes nothing.
use mathlib.Core.Path.{◌≡◌, refl, sym, ◌∙◌, subst}
use mathlib.Core.Bool.{true, false}
use mathlib.Core.List.{List}
use Prim.Native.Nat.{ℕ, zero, suc, ◌+◌, ◌-◌, ◌≤◌, ◌<◌}
use native.Mathlib.Nat.{le_refl}
use native.Mathlib.Omega.{arith}
use lib.Dec.{ltb}
use lib.ListN.{length, drop, get_or}
use borrow.Author.Tests.{ltb-true, ltb-false}
use Rattle.sise_util.specs.Chars.{is_atom_chr}
use Rattle.sise_util.proofs.Ranges.{split}
use Rattle.sise_parser.specs.Lexer.{found, atom, plain}
use Rattle.sise_parser.specs.Plain.{atom_run}
use Rattle.sise_parser.proofs.Steps.{plain_end, run_end}
use Rattle.sise_parser.proofs.ByteSteps.{plain_atom, plain_stop, run_on, run_stops}

-- r is where the run from p on ends: from there on an atom goes on as from p on, and no atom character stands there
pub record RunsTo (text : List ℕ) (p r : ℕ) : Type 0 where
  pub after : p ≤ r
  pub end : atom_run (drop p text) p ≡ r
  pub same : (s : ℕ) → plain (drop p text) p s ≡ plain (drop r text) r s
  pub stop : r < length text → is_atom_chr (get_or text r 0) ≡ false

at_end : (text : List ℕ) (p : ℕ) → length text ≤ p → RunsTo text p p
at_end text p h = record { after = le_refl p; end = run_end text h; same = λ s. refl; stop = λ l. absurd (omega arith) }

-- at most n bytes are left
ran : (text : List ℕ) (n p : ℕ) → length text ≤ p + n → (r : ℕ) × RunsTo text p r
ran text zero p h = (p, at_end text p (omega arith))
ran text (suc n) p h =
    split (ltb p (length text))
    (λ l. let b : p < length text = ltb-true p (length text) l in split (is_atom_chr (get_or text p 0))
    (λ y. let (r, a) = ran text n (p + 1) (omega arith) in
    (r, record { after = omega (arith, a.after); end = run_on text p b y ∙ a.end; same = λ s. plain_atom text p b s y ∙ a.same s; stop = a.stop }))
    (λ no. (p, record { after = le_refl p; end = run_stops text p b no; same = λ s. refl; stop = λ _. no })))
    (λ l. (p, at_end text p (omega (arith, ltb-false p (length text) l))))

pub runs_to : (text : List ℕ) (p r : ℕ) → r ≡ atom_run (drop p text) p → RunsTo text p r
runs_to text p r e =
    let (q, a) = ran text (length text) p (omega arith) in
    subst (RunsTo text p) (sym (e ∙ a.end)) a

-- where no `"` stands there either, the atom ends there
pub run_ends : {text : List ℕ} {p r : ℕ} → RunsTo text p r → (get_or text r 0 ≡ 34 → ⊥) → (s : ℕ) → plain (drop r text) r s ≡ found (atom (r - s)) s r
run_ends {text} {p} {r} a q s =
    split (ltb r (length text))
    (λ l. let b : r < length text = ltb-true r (length text) l in plain_stop text r b s (a.stop b) q)
    (λ l. plain_end text (omega (arith, ltb-false r (length text) l)) s)

-- the run from s on ends at e
module _ (text : List ℕ) (s e : ℕ) (r : e ≡ atom_run (drop s text) s) where
  pub run_begins : s < e → is_atom_chr (get_or text s 0) ≡ true
  run_begins h =
      split (ltb s (length text))
      (λ l. split (is_atom_chr (get_or text s 0)) (λ y. y) (λ n. absurd (let z = r ∙ run_stops text s (ltb-true s (length text) l) n in omega arith)))
      (λ l. absurd (let z = r ∙ run_end text (ltb-false s (length text) l) in omega arith))

  pub run_none : e ≤ s → s < length text → is_atom_chr (get_or text s 0) ≡ false
  run_none h l =
      split (is_atom_chr (get_or text s 0)) (λ y. absurd (let z = r ∙ run_on text s l y in let a = (runs_to text (s + 1) e z).after in omega arith)) (λ n. n)
