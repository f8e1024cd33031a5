-- What a reader gives, piece by piece.
use Rattle.std.proofs.Common.{◌≡◌, ℕ, ◌≤◌, List, [], ◌∷◌, ◌++◌, length, take, drop, Some, None, Ok, Err, refl, sym, ap, ◌∙◌, append_assoc, append-nil, arith, inl, inr, subst, length-append, take_all}
use Rattle.std.specs.Prelude.{◌⊎◌, Option, Result, IfSome}
use Rattle.std.specs.Io.{StartsWith}
use Rattle.std.specs.Io.BufRead.{DropsConsumable}
use Rattle.std.specs.Io.KnownBytes.{Consumes, IsAtEnd, Keeps}
use Rattle.std.proofs.BufReadLemmas.{Consumes_shown}
use Rattle.std.proofs.KnownBytes.{Consumes-trans, starts_with_rest}
use Rattle.cs_changeset.specs.Laws.{ChangesetLaws}
use Rattle.cs_changeset.specs.Reading.{IsChangesetFault}
use Rattle.cs_changeset.specs.declared.fault.Fault.{Fault}
use Rattle.cs_changeset.specs.declared.fault.CodecFault.{CodecFault}
use Rattle.cs_changeset.specs.declared.fault.CodecFault.TheVariants.{Memory, At}
use Rattle.cs_feed.proofs.Pushed.{still_told}
use Rattle.cs_feed.specs.Feeding.{FeedsNext, GivesChangeset, GivesChangesetFrom, IsFaultSoFar, IsChangeset, stream_fault}
use Rattle.cs_feed.specs.declared.stream.StreamFault.{StreamFault}
use Rattle.cs_feed.specs.declared.stream.StreamFault.TheVariants as stream

-- ---- one piece

no_bytes : (shown : List ℕ) → shown ≡ [] → length shown ≡ 0
no_bytes shown e = ap length e

-- what the reader held was pushed
pub fed : (a b c : Option (List ℕ)) (limit : Option ℕ) (shown before after : List ℕ) (n : ℕ) → n ≡ length shown
    → IfSome a (λ xs. StartsWith xs shown) → IfSome a (λ xs. length shown ≡ 0 → xs ≡ []) → Keeps a b
    → IfSome a (λ _. IfSome limit (λ k. length shown ≤ k)) → DropsConsumable b c limit n → after ≡ before ++ shown
    → FeedsNext a c before after
fed a b c limit shown before after n size front end kept fits drops came =
    let all : take n shown ≡ shown = take_all n shown (omega (arith, size)) in
    let took = Consumes_shown a b c limit shown n (omega (arith, size)) front end kept fits drops in
    (shown, subst (Consumes a c) all took.0, came, λ none. took.1 (no_bytes shown none))

-- a fault of what came is one with what the reader has left
pub told_ahead : ChangesetLaws → (input : Option (List ℕ)) (piece old new : List ℕ) (fault : Fault) (offset : ℕ) → IfSome input (λ xs. StartsWith xs piece)
    → IsFaultSoFar fault offset new × ((new ≡ old) ⊎ (new ≡ old ++ piece)) → IfSome input (λ xs. IsFaultSoFar fault offset (old ++ xs))
told_ahead laws None piece old new fault offset front told = tt
told_ahead laws (Some xs) piece old new fault offset front (told, inl same) = still_told laws old xs fault offset (subst (IsFaultSoFar fault offset) same told)
told_ahead laws (Some xs) piece old new fault offset front (told, inr grown) =
    let rest = drop (length piece) xs in
    let whole : (old ++ piece) ++ rest ≡ old ++ xs = append_assoc old piece rest ∙ ap (λ (t : List ℕ). old ++ t) (sym (starts_with_rest xs piece front)) in
    subst (IsFaultSoFar fault offset) whole (still_told laws (old ++ piece) rest fault offset (subst (IsFaultSoFar fault offset) grown told))

-- a fault of a stream that a fault of bytes is
pub of_bytes : {A B : Type 0} (told : CodecFault) (fault : Fault) (offset : ℕ) → ◌≡◌ {A = Result A StreamFault} (Err (stream_fault told)) (Err (stream.At fault offset))
    → ◌≡◌ {A = Result B CodecFault} (Err told) (Err (At fault offset))
of_bytes Memory fault offset e = absurd (cc)
of_bytes (At f o) fault offset e = let same : f ≡ fault = cc in let there : o ≡ offset = cc in cc

-- ---- interrupted reads

pub feeds_kept : (a b c : Option (List ℕ)) (before after : List ℕ) → Keeps a b → FeedsNext b c before after → FeedsNext a c before after
feeds_kept None b c before after kept feeds = (feeds.0, tt, feeds.2, λ none. tt)
feeds_kept (Some xs) None c before after kept feeds = absurd kept
feeds_kept (Some xs) (Some ys) c before after kept feeds = subst (λ (zs : List ℕ). FeedsNext (Some zs) c before after) kept feeds

pub told_kept : (a b : Option (List ℕ)) (P : List ℕ → Type 0) → Keeps a b → IfSome b P → IfSome a P
told_kept None b P kept told = tt
told_kept (Some xs) None P kept told = absurd kept
told_kept (Some xs) (Some ys) P kept told = subst P kept told

-- ---- to the end

-- one piece more
pub came_more : (a b c : Option (List ℕ)) (before after : List ℕ) → Consumes a b before → FeedsNext b c before after → Consumes a c after
came_more a b c before after came feeds = subst (Consumes a c) (sym feeds.2) (Consumes-trans a b c before feeds.0 came feeds.1)

empty_piece : (piece before after : List ℕ) → after ≡ before ++ piece → length after ≡ length before → piece ≡ []
empty_piece [] before after grown same = refl
empty_piece (b ∷ piece) before after grown same = absurd (omega (arith, ap length grown, length-append before (b ∷ piece), same))

-- no byte more came: the reader is at its end, and all its bytes came
pub came_all : (a b c : Option (List ℕ)) (before after : List ℕ) → Consumes a b before → FeedsNext b c before after → length after ≡ length before
    → IfSome a (λ input. (after ≡ input) × IsAtEnd c)
came_all None b c before after came feeds same = tt
came_all (Some xs) None c before after came feeds same = absurd came
came_all (Some xs) (Some ys) c before after came feeds same =
    let none = empty_piece feeds.0 before after feeds.2 same in
    let at_end : IsAtEnd c = feeds.3 none in
    (all c (came_more (Some xs) (Some ys) c before after came feeds) at_end, at_end)
  where
    all : (o : Option (List ℕ)) → Consumes (Some xs) o after → IsAtEnd o → after ≡ xs
    all None took end = absurd took
    all (Some zs) took end = sym (took ∙ ap (λ (t : List ℕ). after ++ t) end ∙ append-nil after)

-- a fault that a piece tells
pub stream_told : (a b c : Option (List ℕ)) (before : List ℕ) (failed : Type 0) (told : StreamFault) → Consumes a b before
    → ((fault : Fault) (offset : ℕ) → ◌≡◌ {A = Result (Unit {0}) StreamFault} (Err told) (Err (stream.At fault offset)) → IfSome b (λ input. IsFaultSoFar fault offset (before ++ input)))
    → (◌≡◌ {A = Result (Unit {0}) StreamFault} (Err told) (Err stream.Read) → failed) → GivesChangesetFrom a c failed (Err told)
stream_told a b c before failed stream.Memory came wrong broke = tt
stream_told a b c before failed stream.Read came wrong broke = broke refl
stream_told None b c before failed (stream.At fault offset) came wrong broke = tt
stream_told (Some xs) None c before failed (stream.At fault offset) came wrong broke = absurd came
stream_told (Some xs) (Some ys) c before failed (stream.At fault offset) came wrong broke = subst (IsChangesetFault fault offset) (sym came) (wrong fault offset refl).1

-- what the feed gives at the end
pub stream_ended : (a c : Option (List ℕ)) (all : List ℕ) (failed : Type 0) (given : List ℕ) → IfSome a (λ input. (all ≡ input) × IsAtEnd c) → IsChangeset all × (given ≡ all) → GivesChangesetFrom a c failed (Ok given)
stream_ended None c all failed given came gives = (subst IsChangeset (sym gives.1) gives.0, tt)
stream_ended (Some xs) c all failed given came gives = (subst IsChangeset (sym gives.1) gives.0, (gives.1 ∙ came.0, came.1))

pub stream_cut : (a c : Option (List ℕ)) (all : List ℕ) (failed : Type 0) (told : CodecFault) → IfSome a (λ input. (all ≡ input) × IsAtEnd c) → GivesChangeset all (Err told) → GivesChangesetFrom a c failed (Err (stream_fault told))
stream_cut a c all failed Memory came gives = absurd gives
stream_cut None c all failed (At fault offset) came gives = tt
stream_cut (Some xs) c all failed (At fault offset) came gives = subst (IsChangesetFault fault offset) came.0 gives
