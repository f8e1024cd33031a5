-- What was written so far, and what is written next.
use Rattle.std.proofs.Common.{◌≡◌, ℕ, List, [], ◌∷◌, ◌++◌, length, take, drop, refl, sym, ap, ◌∙◌, arith, append_assoc, append-nil, take-append-drop, subst}
use Rattle.std.specs.Prelude.{Option, Some, None, OnErr, Result, Ok, Err}
use Rattle.std.specs.Io.KnownBytes.{Appends, Keeps}
use Rattle.std.proofs.KnownBytes.{Appends-nil, Appends-trans}
use Rattle.cs_lines.specs.Writing.{AppendsFront}

pub Appends-kept : (a b c : Option (List ℕ)) (bs : List ℕ) → Appends a b bs → Keeps b c → Appends a c bs
Appends-kept None b c bs p q = tt
Appends-kept (Some x) None c bs p q = absurd p
Appends-kept (Some x) (Some y) None bs p q = absurd q
Appends-kept (Some x) (Some y) (Some z) bs p q = q ∙ p

-- of all the bytes, those up to `rest` are written
abbrev pub HasWrittenUpTo : Option (List ℕ) → Option (List ℕ) → List ℕ → List ℕ → Type 0
HasWrittenUpTo a b all rest = (done : List ℕ) × (all ≡ done ++ rest) × Appends a b done

pub written_none : (a : Option (List ℕ)) (all : List ℕ) → HasWrittenUpTo a a all all
written_none a all = ([], refl, Appends-nil a)

pub written_more : (a b c : Option (List ℕ)) (all rest : List ℕ) (n : ℕ) → HasWrittenUpTo a b all rest
    → Appends b c (take n rest) → HasWrittenUpTo a c all (drop n rest)
written_more a b c all rest n before now = (
  before.0 ++ take n rest,
  before.1 ∙ ap (λ l. before.0 ++ l) (sym (take-append-drop n rest)) ∙ sym (append_assoc before.0 (take n rest) (drop n rest)),
  Appends-trans a b c before.0 (take n rest) before.2 now,
)

pub written_kept : (a b c : Option (List ℕ)) (all rest : List ℕ) → HasWrittenUpTo a b all rest → Keeps b c
    → HasWrittenUpTo a c all rest
written_kept a b c all rest before kept = (before.0, before.1, Appends-kept a b c before.0 before.2 kept)

pub written_front : (a b : Option (List ℕ)) (all rest : List ℕ) → HasWrittenUpTo a b all rest → AppendsFront a b all
written_front a b all rest before = (before.0, rest, before.1, before.2)

pub written_all : (a b : Option (List ℕ)) (all rest : List ℕ) → HasWrittenUpTo a b all rest → length rest ≡ 0 → Appends a b all
written_all a b all [] before none = subst (Appends a b) (sym (before.1 ∙ append-nil before.0)) before.2
written_all a b all (x ∷ rest) before none = absurd (omega arith)

pub front_of_all : (a b : Option (List ℕ)) (all : List ℕ) → Appends a b all → AppendsFront a b all
front_of_all a b all wrote = (all, [], sym (append-nil all), wrote)

-- behind what was written, a front of the next piece
pub front_behind : (a b c : Option (List ℕ)) (all done piece rest : List ℕ) → all ≡ done ++ (piece ++ rest)
    → Appends a b done → AppendsFront b c piece → AppendsFront a c all
front_behind a b c all done piece rest is before now = (
  done ++ now.0,
  now.1 ++ rest,
  is ∙ ap (λ l. done ++ (l ++ rest)) now.2 ∙ ap (λ l. done ++ l) (append_assoc now.0 now.1 rest) ∙ sym (append_assoc done now.0 (now.1 ++ rest)),
  Appends-trans a b c done now.0 before now.3,
)

-- what holds whatever the result is
pub on_err : {T E P : Type 0} (result : Result T E) → P → OnErr result P
on_err (Ok x) holds = tt
on_err (Err e) holds = holds
