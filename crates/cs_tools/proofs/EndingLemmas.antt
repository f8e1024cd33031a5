-- How a tool ends, by what came of its lines.
use Rattle.std.proofs.Common.{◌≡◌, List, ℕ, inl, inr, refl, subst, sym}
use Rattle.std.specs.Prelude.{IfOk, IsOkAnd, Option, Result, Ok, Err, ⊤}
use Rattle.cs_tools.specs.Endings.{Ends}
use Rattle.cs_tools.specs.declared.fault.ToolFault.{ToolFault}

-- what is owed and refused is so otherwise
pub ends_otherwise : (IsOwed IsOther : List ℕ → Type 0) (IsRefused AreRefused : ToolFault → Type 0) (failed : Type 0)
    (old new : Option (List ℕ)) (result : Result ⊤ ToolFault) → ((text : List ℕ) → IsOwed text → IsOther text)
    → ((told : ToolFault) → IsRefused told → AreRefused told) → Ends IsOwed IsRefused failed old new result
    → Ends IsOther AreRefused failed old new result
ends_otherwise IsOwed IsOther IsRefused AreRefused failed old new (Ok done) owed refused ends = (ends.0, owed ends.0 ends.1, ends.2)
ends_otherwise IsOwed IsOther IsRefused AreRefused failed old new (Err told) owed refused (inl ends) =
    inl (refused told ends.0, ends.1)
ends_otherwise IsOwed IsOther IsRefused AreRefused failed old new (Err told) owed refused (inr ends) =
    inr (ends.0, (ends.1.0, owed ends.1.0 ends.1.1, ends.1.2, ends.1.3))

-- what is owed is what came, where something did
pub owed_ok : {A E : Type 0} (came : Result A E) (text_of : A → List ℕ) (IsOther : List ℕ → Type 0)
    → IfOk came (λ held. IsOther (text_of held)) → (text : List ℕ) → IsOkAnd came (λ held. text ≡ text_of held) → IsOther text
owed_ok (Ok held) text_of IsOther is text same = subst IsOther (sym same) is
owed_ok (Err e) text_of IsOther is text same = absurd same

-- where it came, it is owed
pub ok_owes : {A E : Type 0} (came : Result A E) (held : A) (text_of : A → List ℕ) → came ≡ Ok held
    → IsOkAnd came (λ h. text_of held ≡ text_of h)
ok_owes came held text_of is = rw is refl
