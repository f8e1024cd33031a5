-- What bytes ask, as a function: so they ask one thing.
use Rattle.std.proofs.Common.{◌≡◌, ℕ, ◌+◌, ◌<◌, Bool, true, false, cond, nat_eq, nat_lt, List, [], ◌∷◌, ◌++◌, length, drop, Result, Ok, Err, inl, inr, refl, arith}
use Rattle.std.specs.Str.{IsUtf8, is_utf8}
use Rattle.std.proofs.lemmas.Bool.Decides.{nat_tests}
use Rattle.std.proofs.lemmas.Str.{IsUtf8-from_is_utf8, is_utf8-from_IsUtf8}
use Rattle.cs_wire.specs.Numbers.{four_bytes, eight_bytes}
use Rattle.cs_wire.specs.OneSpelling.{four, eight, four_back, four_rest, eight_back, eight_rest, after_four, after_eight, below, not_below, numbers_length}
use Rattle.cs_wire.specs.Requests.{push_numbers, pull_numbers, catch_numbers, widen_numbers, FitsPush, FitsPull, FitsCatch, FitsWiden, Asked, AsksPush, AsksPull, AsksCatch, AsksWiden, ReadsRequest}
use Rattle.cs_wire.specs.declared.fault.WireFault.{WireFault}
use Rattle.cs_wire.specs.declared.fault.WireFault.TheVariants.{Truncated, BadTag, TooLong, BadKind, NotUtf8}
use Rattle.cs_wire.specs.declared.push_head.PushHead.{PushHead}
use Rattle.cs_wire.proofs.Begins.{named_length, sized_length}

abbrev pub Read : Type 0
Read = Result Asked WireFault

-- ---- a Push

sized : PushHead → ℕ → List ℕ → Read
sized head size part =
    cond (nat_lt (length part) size) (Err Truncated) (cond (nat_lt size (length part)) (Err TooLong) (Ok (AsksPush head part)))

of_push : List ℕ → Read
of_push rest =
    cond (nat_lt (length rest) 24) (Err Truncated)
    (sized (record { origin = four rest; number = eight (drop 4 rest); base = eight (drop 8 (drop 4 rest)) }) (four (drop 8 (drop 8 (drop 4 rest)))) (drop 4 (drop 8 (drop 8 (drop 4 rest)))))

push_back : (head : PushHead) (size : ℕ) (part : List ℕ) → FitsPush head size → of_push (push_numbers head size part) ≡ sized head size part
unfolding of_push
push_back head size part fits =
    let long = not_below (length (push_numbers head size part)) 24 (omega (arith, sized_length head.origin head.number head.base size part)) in
    rw (long, four_rest, eight_rest, eight_rest, four_rest, four_back head.origin _ fits.origin_fits, eight_back head.number _ fits.number_fits, eight_back head.base _ fits.base_fits, four_back size part fits.size_fits) refl

-- ---- a Pull

of_pull : List ℕ → Read
of_pull rest =
    cond (nat_lt (length rest) 12) (Err Truncated)
    (cond (nat_lt 0 (length (drop 4 (drop 8 rest)))) (Err TooLong) (Ok (AsksPull (eight rest) (four (drop 8 rest)))))

pull_length : (first limit : ℕ) (more : List ℕ) → length (pull_numbers first limit more) ≡ 12 + length more
pull_length first limit more =
    omega (
      arith,
      after_eight (pull_numbers first limit more) (four_bytes limit ++ more) first refl,
      after_four (four_bytes limit ++ more) more limit refl,
    )

pull_back : (first limit : ℕ) (more : List ℕ) → FitsPull first limit → of_pull (pull_numbers first limit more) ≡ cond (nat_lt 0 (length more)) (Err TooLong) (Ok (AsksPull first limit))
unfolding of_pull
pull_back first limit more fits =
    let long = not_below (length (pull_numbers first limit more)) 12 (omega (arith, pull_length first limit more)) in
    rw (long, eight_rest, four_rest, eight_back first _ fits.first_fits, four_back limit more fits.limit_fits) refl

-- ---- a Catch

of_catch : List ℕ → Read
of_catch rest =
    cond (nat_lt (length rest) 16) (Err Truncated)
    (cond (nat_lt 0 (length (drop 4 (drop 8 (drop 4 rest))))) (Err TooLong) (Ok (AsksCatch (four rest) (eight (drop 4 rest)) (four (drop 8 (drop 4 rest))))))

catch_back : (origin first limit : ℕ) (more : List ℕ) → FitsCatch origin first limit → of_catch (catch_numbers origin first limit more) ≡ cond (nat_lt 0 (length more)) (Err TooLong) (Ok (AsksCatch origin first limit))
unfolding of_catch
catch_back origin first limit more fits =
    let long = not_below (length (catch_numbers origin first limit more)) 16 (omega (arith, numbers_length origin first limit more)) in
    rw (long, four_rest, eight_rest, four_rest, four_back origin _ fits.origin_fits, eight_back first _ fits.first_fits, four_back limit more fits.limit_fits) refl

-- ---- a Widen

named : ℕ → ℕ → ℕ → ℕ → List ℕ → Read
named number base width size part =
    cond (nat_lt (length part) size) (Err Truncated)
    (cond (nat_lt size (length part)) (Err TooLong) (cond (is_utf8 part) (Ok (AsksWiden number base width part)) (Err NotUtf8)))

of_widen : List ℕ → Read
of_widen rest =
    cond (nat_lt (length rest) 24) (Err Truncated)
    (named (eight rest) (eight (drop 8 rest)) (four (drop 8 (drop 8 rest))) (four (drop 4 (drop 8 (drop 8 rest)))) (drop 4 (drop 4 (drop 8 (drop 8 rest)))))

widen_back : (number base width size : ℕ) (part : List ℕ) → FitsWiden number base width size → of_widen (widen_numbers number base width size part) ≡ named number base width size part
unfolding of_widen
widen_back number base width size part fits =
    let long = not_below (length (widen_numbers number base width size part)) 24 (omega (arith, named_length number base width size part)) in
    rw (long, eight_rest, eight_rest, four_rest, four_rest, eight_back number _ fits.number_fits, eight_back base _ fits.base_fits, four_back width _ fits.width_fits, four_back size part fits.size_fits) refl

no_text_is : (table : List ℕ) (answer : Bool) → is_utf8 table ≡ answer → (IsUtf8 table → ⊥) → is_utf8 table ≡ false
no_text_is table true is not = absurd (not (IsUtf8-from_is_utf8 table is))
no_text_is table false is not = is

no_text : (table : List ℕ) → (IsUtf8 table → ⊥) → is_utf8 table ≡ false
no_text table not = no_text_is table (is_utf8 table) refl not

-- ---- the fronts of their numbers

push_short : (rest : List ℕ) → length rest < 24 → of_push rest ≡ Err Truncated
unfolding of_push
push_short rest few = rw (below (length rest) 24 few) refl

pull_short : (rest : List ℕ) → length rest < 12 → of_pull rest ≡ Err Truncated
unfolding of_pull
pull_short rest few = rw (below (length rest) 12 few) refl

catch_short : (rest : List ℕ) → length rest < 16 → of_catch rest ≡ Err Truncated
unfolding of_catch
catch_short rest few = rw (below (length rest) 16 few) refl

widen_short : (rest : List ℕ) → length rest < 24 → of_widen rest ≡ Err Truncated
unfolding of_widen
widen_short rest few = rw (below (length rest) 24 few) refl

-- ---- a request

pub request_reading : List ℕ → Read
request_reading [] = Err Truncated
request_reading (tag ∷ rest) =
    cond (nat_eq tag 1) (of_push rest)
    (cond (nat_eq tag 2) (of_pull rest) (cond (nat_eq tag 3) (of_catch rest) (cond (nat_eq tag 4) (of_widen rest) (Err BadTag))))

pub reads_request : (bytes : List ℕ) (asked : Read) → ReadsRequest bytes asked → request_reading bytes ≡ asked
unfolding request_reading sized named
reads_request bytes (Ok (AsksPush head changeset)) (fits, is) =
    let same = not_below (length changeset) (length changeset) (omega arith) in
    rw (is, push_back head (length changeset) changeset fits, same) refl
reads_request bytes (Ok (AsksPull first limit)) (fits, is) = rw (is, pull_back first limit [] fits) refl
reads_request bytes (Ok (AsksCatch origin first limit)) (fits, is) = rw (is, catch_back origin first limit [] fits) refl
reads_request bytes (Ok (AsksWiden number base width table)) ((fits, text), is) =
    let same = not_below (length table) (length table) (omega arith) in
    rw (is, widen_back number base width (length table) table fits, same, is_utf8-from_IsUtf8 table text) refl
reads_request bytes (Err Truncated) (inl is) = rw is refl
reads_request bytes (Err Truncated) (inr (inl (rest, is, few))) = rw (is, push_short rest few) refl
reads_request bytes (Err Truncated) (inr (inr (inl (rest, is, few)))) = rw (is, pull_short rest few) refl
reads_request bytes (Err Truncated) (inr (inr (inr (inl (rest, is, few))))) = rw (is, catch_short rest few) refl
reads_request bytes (Err Truncated) (inr (inr (inr (inr (inl (rest, is, few)))))) = rw (is, widen_short rest few) refl
reads_request bytes (Err Truncated) (inr (inr (inr (inr (inr (inl (head, size, part, fits, is, few))))))) =
    rw (is, push_back head size part fits, below (length part) size few) refl
reads_request bytes (Err Truncated) (inr (inr (inr (inr (inr (inr (number, base, width, size, part, fits, is, few))))))) =
    rw (is, widen_back number base width size part fits, below (length part) size few) refl
reads_request bytes (Err BadTag) (tag, rest, is, other) =
    let a : nat_eq tag 1 ≡ false = grind (arith, nat_tests, other.no_push) in
    let b : nat_eq tag 2 ≡ false = grind (arith, nat_tests, other.no_pull) in
    let c : nat_eq tag 3 ≡ false = grind (arith, nat_tests, other.no_catch) in
    let d : nat_eq tag 4 ≡ false = grind (arith, nat_tests, other.no_widen) in
    rw (is, a, b, c, d) refl
reads_request bytes (Err TooLong) (inl (head, size, more, fits, is, many)) =
    rw (is, push_back head size more fits, not_below (length more) size (omega arith), below size (length more) many) refl
reads_request bytes (Err TooLong) (inr (inl (first, limit, more, fits, is, many))) =
    rw (is, pull_back first limit more fits, below 0 (length more) many) refl
reads_request bytes (Err TooLong) (inr (inr (inl (origin, first, limit, more, fits, is, many)))) =
    rw (is, catch_back origin first limit more fits, below 0 (length more) many) refl
reads_request bytes (Err TooLong) (inr (inr (inr (number, base, width, size, more, fits, is, many)))) =
    rw (is, widen_back number base width size more fits, not_below (length more) size (omega arith), below size (length more) many) refl
reads_request bytes (Err BadKind) none = absurd none
reads_request bytes (Err NotUtf8) (number, base, width, table, fits, is, text) =
    let same = not_below (length table) (length table) (omega arith) in
    rw (is, widen_back number base width (length table) table fits, same, no_text table text) refl
