-- What the whole of bytes is read as, clause by clause.
use Rattle.std.proofs.Common.{◌≡◌, ◌↔◌, ℕ, List, Result, Ok, Err, refl, subst, ap}
use Rattle.std.specs.Result.{IsErrOf}
use Rattle.cs_wire.specs.Answers.{IsAnswerFault, ReadsAnswer}
use Rattle.cs_wire.specs.Laws.{OneRequest, OneToldAnswer}
use Rattle.cs_wire.specs.Requests.{IsRequestFault, ReadsRequest, asked_by, asked_of}
use Rattle.cs_wire.specs.declared.answer.Answer.{Answer}
use Rattle.cs_wire.specs.declared.fault.WireFault.{WireFault}
use Rattle.cs_wire.specs.declared.request.Request.{Request}
use Rattle.cs_wire.proofs.Fronts.{not_both}

same_fault : {A : Type 0} (f g : WireFault) (told : Result A WireFault) → told ≡ Err f → told ≡ Err g → f ≡ g
same_fault f g told p q = cc

pub exact_request : OneRequest → (bytes : List ℕ) (read : Result Request WireFault) (fault : WireFault) → ReadsRequest bytes (asked_of read) → IsErrOf read fault ↔ IsRequestFault fault bytes
exact_request one bytes (Ok request) fault reads =
    (λ is. absurd (not_both request fault (Ok request) refl is), λ wrong. absurd (not_both (asked_by request) fault (Ok (asked_by request)) refl (one bytes (Ok (asked_by request)) (Err fault) reads wrong)))
exact_request one bytes (Err told) fault reads =
    (λ is. subst (λ (f : WireFault). IsRequestFault f bytes) (same_fault told fault (Err told) refl is) reads, λ wrong. ap (λ (f : WireFault). Err f) (same_fault told fault (Err told) refl (one bytes (Err told) (Err fault) reads wrong)))

pub exact_answer : OneToldAnswer → (bytes : List ℕ) (read : Result Answer WireFault) (fault : WireFault) → ReadsAnswer bytes read → IsErrOf read fault ↔ IsAnswerFault fault bytes
exact_answer one bytes (Ok answer) fault reads =
    (λ is. absurd (not_both answer fault (Ok answer) refl is), λ wrong. absurd (not_both answer fault (Ok answer) refl (one bytes (Ok answer) (Err fault) reads wrong)))
exact_answer one bytes (Err told) fault reads =
    (λ is. subst (λ (f : WireFault). IsAnswerFault f bytes) (same_fault told fault (Err told) refl is) reads, λ wrong. one bytes (Err told) (Err fault) reads wrong)
