-- What a push tells.
use Rattle.std.proofs.Common.{◌≡◌, ℕ, ◌+◌, ◌<◌, List, ◌++◌, length, take, drop, get_or, Result, Ok, Err, refl, sym, ap, ◌∙◌, append_assoc, inl, inr, subst}
use Rattle.std.specs.Prelude.{◌⊎◌}
use Rattle.std.specs.List.{flat_map}
use Rattle.std.proofs.lemmas.Grind.{flat_map-append}
use Rattle.std.proofs.lemmas.List.{take-append-drop, drop_more}
use Rattle.cs_changeset.specs.Laws.{ChangesetLaws}
use Rattle.cs_changeset.specs.Reading.{IsChangesetFault}
use Rattle.cs_changeset.specs.declared.fault.Fault.{Fault}
use Rattle.cs_changeset.specs.declared.fault.CodecFault.{CodecFault}
use Rattle.cs_changeset.specs.declared.fault.FirstFault.{FirstFault}
use Rattle.cs_changeset.specs.declared.fault.CodecFault.TheVariants.{Memory, At}
use Rattle.cs_feed.proofs.Reached.{none_so_far}
use Rattle.cs_feed.specs.Steps.{IsScanned}
use Rattle.cs_feed.specs.declared.stage.Reached.{Reached}
use Rattle.cs_feed.specs.Feeding.{GivesChangesetOrMemory, IsFaultSoFar}

-- there is one fault so far
pub same_fault : ChangesetLaws → (bytes : List ℕ) (f g : Fault) (o p : ℕ) → IsFaultSoFar f o bytes → IsFaultSoFar g p bytes → (f ≡ g) × (o ≡ p)
same_fault laws bytes f g o p told told' = laws.fault f g o p bytes told.1 told'.1

-- a fault so far is one of what goes on
pub still_told : ChangesetLaws → (bytes more : List ℕ) (fault : Fault) (offset : ℕ) → IsFaultSoFar fault offset bytes → IsFaultSoFar fault offset (bytes ++ more)
still_told laws bytes more fault offset told = (told.0, laws.stays fault offset bytes more told.0 told.1)

pub told_again : ChangesetLaws → (bytes more : List ℕ) (f g : Fault) (o p : ℕ) → IsFaultSoFar f o bytes → IsFaultSoFar g p (bytes ++ more) → (f ≡ g) × (o ≡ p)
told_again laws bytes more f g o p told told' = same_fault laws (bytes ++ more) f g o p (still_told laws bytes more f o told) told'

-- what is told is that fault
pub is_told : {A : Type 0} (bytes : List ℕ) (f g : Fault) (o p : ℕ) → IsFaultSoFar f o bytes → ◌≡◌ {A = Result A CodecFault} (Err (At f o)) (Err (At g p)) → IsFaultSoFar g p bytes
is_told bytes f g o p told e =
    let fault : f ≡ g = cc in
    let offset : o ≡ p = cc in
    subst (λ (h : Fault). IsFaultSoFar h p bytes) fault (subst (λ (n : ℕ). IsFaultSoFar f n bytes) offset told)

pub same_answer : {A : Type 0} (f g : Fault) (o p : ℕ) → (f ≡ g) × (o ≡ p) → ◌≡◌ {A = Result A CodecFault} (Err (At f o)) (Err (At g p))
same_answer f g o p same = let fault = same.0 in let offset = same.1 in cc

-- a fault that is told at a piece is that of all pieces
pub pushed_fault : ChangesetLaws → (told : CodecFault) (old new piece : List ℕ)
    → ((fault : Fault) (offset : ℕ) → ◌≡◌ {A = Result (Unit {0}) CodecFault} (Err told) (Err (At fault offset)) → IsFaultSoFar fault offset new × ((new ≡ old) ⊎ (new ≡ old ++ piece)))
    → (front rest whole : List ℕ) → old ≡ front → whole ≡ (front ++ piece) ++ rest → GivesChangesetOrMemory whole (Err told)
pushed_fault laws Memory old new piece found front rest whole same e = tt
pushed_fault laws (At fault offset) old new piece found front rest whole same e =
    let here = found fault offset refl in
    let split : whole ≡ (old ++ piece) ++ rest = e ∙ ap (λ (t : List ℕ). (t ++ piece) ++ rest) (sym same) in
    elim here.1 [
      | inl is ↦ subst (IsChangesetFault fault offset) (sym (split ∙ append_assoc old piece rest)) (still_told laws old (piece ++ rest) fault offset (subst (IsFaultSoFar fault offset) is here.0)).1
      | inr is ↦ subst (IsChangesetFault fault offset) (sym split) (still_told laws (old ++ piece) rest fault offset (subst (IsFaultSoFar fault offset) is here.0)).1
    ]

pub pieces_split : (X : Type 0) (see : X → List ℕ) (pieces : List X) (i : ℕ) (d : X) → i < length pieces → flat_map see pieces ≡ (flat_map see (take i pieces) ++ see (get_or pieces i d)) ++ flat_map see (drop (i + 1) pieces)
pieces_split X see pieces i d lt =
    ap (flat_map see) (sym (take-append-drop i pieces)) ∙ flat_map-append see (take i pieces) (drop i pieces)
    ∙ ap (λ (t : List X). flat_map see (take i pieces) ++ flat_map see t) (drop_more pieces i d lt)
    ∙ sym (append_assoc (flat_map see (take i pieces)) (see (get_or pieces i d)) (flat_map see (drop (i + 1) pieces)))

-- a fault so far is what a scan tells
pub scan_tells : ChangesetLaws → (bytes : List ℕ) (r : Result Reached FirstFault) → IsScanned bytes r → (fault : Fault) (offset : ℕ) → IsFaultSoFar fault offset bytes
    → (told : FirstFault) × (r ≡ Err told) × (told.fault ≡ fault) × (told.offset ≡ offset)
scan_tells laws bytes (Ok reached) scanned fault offset told = absurd (none_so_far laws bytes reached.at reached.stage scanned.0 scanned.1 fault offset told)
scan_tells laws bytes (Err there) scanned fault offset told =
    let same = same_fault laws bytes there.fault fault there.offset offset scanned told in
    (there, refl, same.0, same.1)
