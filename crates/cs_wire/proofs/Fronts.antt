-- The front of a message that isn't the whole of it is Truncated. There is a message or a fault, and each but Truncated is
-- told of whatever goes on from there.
use Rattle.std.proofs.Common.{◌≡◌, ◌≢◌, ℕ, ◌<◌, List, [], ◌∷◌, ◌++◌, length, Result, Ok, Err, inl, inr, refl, sym, ap, ◌∙◌, append_assoc, length-append, arith}
use Rattle.std.specs.List.{flat_map}
use Rattle.cs_wire.specs.Answers.{FitsAnswer, FitsMerged, IsAnswerFault, ReadsAnswer, answer_spelling, entries_numbers, entries_tag, merged_numbers, merged_tag, short_before}
use Rattle.cs_wire.specs.Entries.{ToldEntry, StandBefore, entry_spelling}
use Rattle.cs_wire.specs.Laws.{AsksSomething, FrontOfAnswer, FrontOfRequest, OneRequest, OneToldAnswer, TellsSomething}
use Rattle.cs_wire.specs.Numbers.{four_bytes, eight_bytes}
use Rattle.cs_wire.specs.Requests.{Asked, AsksPush, AsksPull, AsksCatch, AsksWiden, FitsPush, FitsPull, FitsCatch, FitsWiden, FitsRequest, IsRequestFault, ReadsRequest, request_spelling, push_numbers, pull_numbers, catch_numbers, widen_numbers}
use Rattle.cs_wire.specs.declared.answer.Answer.{Answer}
use Rattle.cs_wire.specs.declared.answer.Answer.TheVariants.{Short, Entries, Merged}
use Rattle.cs_wire.specs.declared.fault.WireFault.{WireFault}
use Rattle.cs_wire.specs.declared.fault.WireFault.TheVariants.{Truncated, BadTag, TooLong, BadKind, NotUtf8}
use Rattle.cs_wire.specs.declared.push_head.PushHead.{PushHead}
use Rattle.cs_wire.specs.declared.short_answer.ShortAnswer.{ShortAnswer}
use Rattle.cs_wire.specs.declared.short_answer.ShortAnswer.TheVariants.{Accepted, Stale, Refused}

pub not_both : {A : Type 0} (read : A) (fault : WireFault) (told : Result A WireFault) → told ≡ Ok read → told ≡ Err fault → ⊥
not_both read fault told p q = cc

some : (rest : List ℕ) → rest ≢ [] → 0 < length rest
some [] not = absurd (not refl)
some (b ∷ rest) not = omega arith

-- ---- requests

push_more : (head : PushHead) (size : ℕ) (part rest : List ℕ) → push_numbers head size part ++ rest ≡ push_numbers head size (part ++ rest)
unfolding four_bytes eight_bytes
push_more head size part rest = refl

pull_more : (first limit : ℕ) (part rest : List ℕ) → pull_numbers first limit part ++ rest ≡ pull_numbers first limit (part ++ rest)
unfolding four_bytes eight_bytes
pull_more first limit part rest = refl

catch_more : (origin first limit : ℕ) (part rest : List ℕ) → catch_numbers origin first limit part ++ rest ≡ catch_numbers origin first limit (part ++ rest)
unfolding four_bytes eight_bytes
catch_more origin first limit part rest = refl

widen_more : (number base width size : ℕ) (part rest : List ℕ) → widen_numbers number base width size part ++ rest ≡ widen_numbers number base width size (part ++ rest)
unfolding four_bytes eight_bytes
widen_more number base width size part rest = refl

longer_push : (head : PushHead) (size : ℕ) (part rest bytes whole : List ℕ) → FitsPush head size → bytes ≡ 1 ∷ push_numbers head size part → size < length (part ++ rest) → whole ≡ bytes ++ rest → IsRequestFault TooLong whole
longer_push head size part rest bytes whole fits is many goes =
    inl (head, size, part ++ rest, fits, goes ∙ ap (λ (t : List ℕ). t ++ rest) is ∙ ap (λ (t : List ℕ). 1 ∷ t) (push_more head size part rest), many)

longer_pull : (first limit : ℕ) (part rest bytes whole : List ℕ) → FitsPull first limit → bytes ≡ 2 ∷ pull_numbers first limit part → 0 < length (part ++ rest) → whole ≡ bytes ++ rest → IsRequestFault TooLong whole
longer_pull first limit part rest bytes whole fits is many goes =
    inr (inl (first, limit, part ++ rest, fits, goes ∙ ap (λ (t : List ℕ). t ++ rest) is ∙ ap (λ (t : List ℕ). 2 ∷ t) (pull_more first limit part rest), many))

longer_catch : (origin first limit : ℕ) (part rest bytes whole : List ℕ) → FitsCatch origin first limit → bytes ≡ 3 ∷ catch_numbers origin first limit part → 0 < length (part ++ rest) → whole ≡ bytes ++ rest → IsRequestFault TooLong whole
longer_catch origin first limit part rest bytes whole fits is many goes =
    inr (inr (inl (origin, first, limit, part ++ rest, fits, goes ∙ ap (λ (t : List ℕ). t ++ rest) is ∙ ap (λ (t : List ℕ). 3 ∷ t) (catch_more origin first limit part rest), many)))

longer_widen : (number base width size : ℕ) (part rest bytes whole : List ℕ) → FitsWiden number base width size → bytes ≡ 4 ∷ widen_numbers number base width size part → size < length (part ++ rest) → whole ≡ bytes ++ rest → IsRequestFault TooLong whole
longer_widen number base width size part rest bytes whole fits is many goes =
    inr (inr (inr (number, base, width, size, part ++ rest, fits, goes ∙ ap (λ (t : List ℕ). t ++ rest) is ∙ ap (λ (t : List ℕ). 4 ∷ t) (widen_more number base width size part rest), many)))

no_request : OneRequest → (asked : Asked) (whole : List ℕ) (fault : WireFault) → FitsRequest asked → request_spelling asked ≡ whole → IsRequestFault fault whole → ⊥
no_request one asked whole fault fits is wrong =
    not_both asked fault (Ok asked) refl (one whole (Ok asked) (Err fault) (fits, sym is) wrong)

request_front : OneRequest → (asked : Asked) (bytes rest : List ℕ) (read : Result Asked WireFault) → FitsRequest asked → 0 < length rest → request_spelling asked ≡ bytes ++ rest → ReadsRequest bytes read → IsRequestFault Truncated bytes
request_front one asked bytes rest (Ok (AsksPush head changeset)) fits more goes (other, is) =
    absurd (no_request one asked (bytes ++ rest) TooLong fits goes (longer_push head (length changeset) changeset rest bytes (bytes ++ rest) other is (omega (arith, length-append changeset rest)) refl))
request_front one asked bytes rest (Ok (AsksPull first limit)) fits more goes (other, is) =
    absurd (no_request one asked (bytes ++ rest) TooLong fits goes (longer_pull first limit [] rest bytes (bytes ++ rest) other is more refl))
request_front one asked bytes rest (Ok (AsksCatch origin first limit)) fits more goes (other, is) =
    absurd (no_request one asked (bytes ++ rest) TooLong fits goes (longer_catch origin first limit [] rest bytes (bytes ++ rest) other is more refl))
request_front one asked bytes rest (Ok (AsksWiden number base width table)) fits more goes ((other, text), is) =
    absurd (no_request one asked (bytes ++ rest) TooLong fits goes (longer_widen number base width (length table) table rest bytes (bytes ++ rest) other is (omega (arith, length-append table rest)) refl))
request_front one asked bytes rest (Err Truncated) fits more goes wrong = wrong
request_front one asked bytes rest (Err BadTag) fits more goes (tag, behind, is, other) =
    absurd (no_request one asked (bytes ++ rest) BadTag fits goes (tag, behind ++ rest, ap (λ (t : List ℕ). t ++ rest) is, other))
request_front one asked bytes rest (Err TooLong) fits more goes (inl (head, size, part, other, is, many)) =
    absurd (no_request one asked (bytes ++ rest) TooLong fits goes (longer_push head size part rest bytes (bytes ++ rest) other is (omega (arith, length-append part rest)) refl))
request_front one asked bytes rest (Err TooLong) fits more goes (inr (inl (first, limit, part, other, is, many))) =
    absurd (no_request one asked (bytes ++ rest) TooLong fits goes (longer_pull first limit part rest bytes (bytes ++ rest) other is (omega (arith, length-append part rest)) refl))
request_front one asked bytes rest (Err TooLong) fits more goes (inr (inr (inl (origin, first, limit, part, other, is, many)))) =
    absurd (no_request one asked (bytes ++ rest) TooLong fits goes (longer_catch origin first limit part rest bytes (bytes ++ rest) other is (omega (arith, length-append part rest)) refl))
request_front one asked bytes rest (Err TooLong) fits more goes (inr (inr (inr (number, base, width, size, part, other, is, many)))) =
    absurd (no_request one asked (bytes ++ rest) TooLong fits goes (longer_widen number base width size part rest bytes (bytes ++ rest) other is (omega (arith, length-append part rest)) refl))
request_front one asked bytes rest (Err BadKind) fits more goes none = absurd none
request_front one asked bytes rest (Err NotUtf8) fits more goes (number, base, width, table, other, is, text) =
    absurd (no_request one asked (bytes ++ rest) TooLong fits goes (longer_widen number base width (length table) table rest bytes (bytes ++ rest) other is (omega (arith, length-append table rest)) refl))

pub front_of_request : OneRequest → AsksSomething → FrontOfRequest
front_of_request one there asked bytes rest fits small not goes =
    let read = there bytes small in
    request_front one asked bytes rest read.0 fits (some rest not) goes read.1

-- ---- answers

entries_more : (first count : ℕ) (part rest : List ℕ) → entries_numbers first count part ++ rest ≡ entries_numbers first count (part ++ rest)
unfolding four_bytes eight_bytes
entries_more first count part rest = refl

short_more : (answer : ShortAnswer) (part rest : List ℕ) → short_before answer part ++ rest ≡ short_before answer (part ++ rest)
unfolding four_bytes eight_bytes
short_more (Accepted origin number version) part rest = refl
short_more (Stale newest) part rest = refl
short_more (Refused code) part rest = refl

stand_on : (entries : List ToldEntry) (behind rest bytes : List ℕ) → StandBefore entries behind bytes → StandBefore entries (behind ++ rest) (bytes ++ rest)
stand_on entries behind rest bytes stand = record {
  fit = stand.fit;
  are = ap (λ (t : List ℕ). t ++ rest) stand.are ∙ append_assoc (flat_map entry_spelling entries) behind rest;
}

no_answer : OneToldAnswer → (answer : Answer) (whole : List ℕ) (fault : WireFault) → FitsAnswer answer → answer_spelling answer ≡ whole → IsAnswerFault fault whole → ⊥
no_answer one answer whole fault fits is wrong =
    not_both answer fault (Ok answer) refl (one whole (Ok answer) (Err fault) (fits, sym is) wrong)

behind_numbers : (first count : ℕ) (part rest bytes : List ℕ) → bytes ≡ entries_tag ∷ entries_numbers first count part → bytes ++ rest ≡ entries_tag ∷ entries_numbers first count (part ++ rest)
behind_numbers first count part rest bytes is =
    ap (λ (t : List ℕ). t ++ rest) is ∙ ap (λ (t : List ℕ). entries_tag ∷ t) (entries_more first count part rest)

longer_short : (answer : ShortAnswer) (part rest bytes : List ℕ) → bytes ≡ short_before answer part → bytes ++ rest ≡ short_before answer (part ++ rest)
longer_short answer part rest bytes is = ap (λ (t : List ℕ). t ++ rest) is ∙ short_more answer part rest

merged_more : (origin first next size : ℕ) (part rest : List ℕ) → merged_numbers origin first next size part ++ rest ≡ merged_numbers origin first next size (part ++ rest)
unfolding four_bytes eight_bytes
merged_more origin first next size part rest = refl

longer_merged : (origin first next size : ℕ) (part rest bytes : List ℕ) → FitsMerged origin first next size → bytes ≡ merged_tag ∷ merged_numbers origin first next size part → size < length (part ++ rest) → IsAnswerFault TooLong (bytes ++ rest)
longer_merged origin first next size part rest bytes fits is many =
    inl (inr (origin, first, next, size, part ++ rest, fits, ap (λ (t : List ℕ). t ++ rest) is ∙ ap (λ (t : List ℕ). merged_tag ∷ t) (merged_more origin first next size part rest), many))

answer_front : OneToldAnswer → (answer : Answer) (bytes rest : List ℕ) (read : Result Answer WireFault) → FitsAnswer answer → 0 < length rest → answer_spelling answer ≡ bytes ++ rest → ReadsAnswer bytes read → IsAnswerFault Truncated bytes
answer_front one answer bytes rest (Ok (Short short)) fits more goes (other, is) =
    absurd (no_answer one answer (bytes ++ rest) TooLong fits goes (inl (inl (short, rest, other, longer_short short [] rest bytes is, more))))
answer_front one answer bytes rest (Ok (Entries first entries)) fits more goes (other, is) =
    absurd (no_answer one answer (bytes ++ rest) TooLong fits goes
    (inr (
      first,
      length entries,
      flat_map entry_spelling entries ++ rest,
      other.0,
      behind_numbers first (length entries) (flat_map entry_spelling entries) rest bytes is,
      record {
        entries = entries;
        more = rest;
        all = refl;
        stand = record { fit = other.1; are = refl };
        some = more;
      },
    )))
answer_front one answer bytes rest (Ok (Merged origin first next changeset)) fits more goes (other, is) =
    absurd (no_answer one answer (bytes ++ rest) TooLong fits goes (longer_merged origin first next (length changeset) changeset rest bytes other is (omega (arith, length-append changeset rest))))
answer_front one answer bytes rest (Err Truncated) fits more goes wrong = wrong
answer_front one answer bytes rest (Err BadTag) fits more goes (tag, behind, is, other) =
    absurd (no_answer one answer (bytes ++ rest) BadTag fits goes (tag, behind ++ rest, ap (λ (t : List ℕ). t ++ rest) is, other))
answer_front one answer bytes rest (Err TooLong) fits more goes (inl (inl (short, part, other, is, many))) =
    absurd (no_answer one answer (bytes ++ rest) TooLong fits goes (inl (inl (short, part ++ rest, other, longer_short short part rest bytes is, omega (arith, many, length-append part rest)))))
answer_front one answer bytes rest (Err TooLong) fits more goes (inl (inr (origin, first, next, size, part, other, is, many))) =
    absurd (no_answer one answer (bytes ++ rest) TooLong fits goes (longer_merged origin first next size part rest bytes other is (omega (arith, many, length-append part rest))))
answer_front one answer bytes rest (Err TooLong) fits more goes (inr (first, count, part, other, is, wrong)) =
    absurd (no_answer one answer (bytes ++ rest) TooLong fits goes
    (inr (
      first,
      count,
      part ++ rest,
      other,
      behind_numbers first count part rest bytes is,
      record {
        entries = wrong.entries;
        more = wrong.more ++ rest;
        all = wrong.all;
        stand = stand_on wrong.entries wrong.more rest part wrong.stand;
        some = omega (arith, wrong.some, length-append wrong.more rest);
      },
    )))
answer_front one answer bytes rest (Err BadKind) fits more goes (first, count, part, other, is, wrong) =
    absurd (no_answer one answer (bytes ++ rest) BadKind fits goes (
      first,
      count,
      part ++ rest,
      other,
      behind_numbers first count part rest bytes is,
      record {
        before = wrong.before;
        rest = wrong.rest ++ rest;
        fewer = wrong.fewer;
        stand = stand_on wrong.before wrong.rest rest part wrong.stand;
        wrong = (wrong.wrong.0, wrong.wrong.1 ++ rest, ap (λ (t : List ℕ). t ++ rest) wrong.wrong.2, wrong.wrong.3);
      },
    ))
answer_front one answer bytes rest (Err NotUtf8) fits more goes none = absurd none

pub front_of_answer : OneToldAnswer → TellsSomething → FrontOfAnswer
front_of_answer one there answer bytes rest fits small not goes =
    let read = there bytes small in
    answer_front one answer bytes rest read.0 fits (some rest not) goes read.1
