-- The part of an input up to its last line feed, and what reads and skips do to it.
use Rattle.std.proofs.Common.{Bool, ◌≡◌, ◌≢◌, ℕ, suc, ◌+◌, ◌-◌, ◌<◌, true, false, eqb, ◌&&◌, nat_lt, cond, List, [], ◌∷◌, ◌++◌, All, length, take, get_or, refl, sym, ap, ◌∙◌, arith, subst, IfSome, length-append, append_assoc, append-nil, take_all, inl, inr}
use Rattle.std.specs.Prelude.{Option, Some, None, Result, Ok, Err, IfOk, ◌⊎◌}
use Rattle.std.specs.Io.{StopsAt}
use Rattle.std.specs.Io.KnownBytes.{Consumes, IsAtEnd, Keeps}
use Rattle.std.specs.Io.BufRead.{take_through, drop_through, strip_last, ends_with_byte, DropsThrough}
use Rattle.std.proofs.lemmas.List.{take_more}
use Rattle.std.proofs.lemmas.List.Elements.{All-cons, All-nil, All-head, All-tail}
use Rattle.cs_lines.specs.declared.line.LineRead.{LineRead}
use Rattle.cs_lines.specs.declared.line.LineRead.TheVariants.{Whole, Skipped}
use Rattle.cs_lines.specs.declared.streams.Skip.{Skip}
use Rattle.cs_lines.specs.declared.streams.Skip.TheVariants.{Ended, Unended, Nothing}
use Rattle.cs_lines.specs.Laws.{EndedByFeed, EndedLines, EndedWhole}
use Rattle.cs_lines.specs.Lines.{ended, ended_part, lines_of, onto_ended, onto_first}
use Rattle.cs_lines.specs.Reading.{HasReadEnded, HasSkippedEnded, Skips, StaysInLine}
use Rattle.cs_lines.proofs.LineLemmas.{lines_of-first}
use Rattle.cs_lines.proofs.ReadLemmas.{HasPassed, HasRead-behind, Keeps-end, TakesLine-read, Tells, no_line_feed, skipped_ended, skipped_rest}

onto_some : (x : ℕ) (xs : List ℕ) → 0 < length xs → onto_ended x xs ≡ x ∷ xs
onto_some x [] some = absurd (omega arith)
onto_some x (y ∷ ys) some = refl

onto_feed : (xs : List ℕ) → onto_ended 10 xs ≡ 10 ∷ xs
onto_feed [] = refl
onto_feed (y ∷ ys) = refl

onto_other : (b : Bool) (x : ℕ) → eqb x 10 ≡ b → b ≡ false → cond b (x ∷ []) [] ≡ []
onto_other true x h is = absurd (cc)
onto_other false x h is = refl

onto_none : (x : ℕ) → x ≢ 10 → onto_ended x [] ≡ []
onto_none x other = onto_other (eqb x 10) x refl (grind arith)

-- where something is ended behind a front, the front is
pub ended_behind : (front xs : List ℕ) → 0 < length (ended_part xs) → ended_part (front ++ xs) ≡ front ++ ended_part xs
ended_behind [] xs some = refl
ended_behind (x ∷ front) xs some =
    ap (onto_ended x) (ended_behind front xs some)
    ∙ onto_some x (front ++ ended_part xs) (omega (arith, length-append front (ended_part xs)))

-- without a line feed nothing is
pub ended_none : (front xs : List ℕ) → All (λ x. x ≢ 10) front → ended_part xs ≡ [] → ended_part (front ++ xs) ≡ []
ended_none [] xs other none = none
ended_none (x ∷ front) xs other none =
    ap (onto_ended x) (ended_none front xs (All-tail (λ x. x ≢ 10) x front other) none) ∙ onto_none x (All-head (λ x. x ≢ 10) x front other)

-- a front that a line feed ends is
pub ended_front : (front xs : List ℕ) → ends_with_byte 10 front ≡ true → ended_part (front ++ xs) ≡ front ++ ended_part xs
ended_front front xs is =
    let some : 0 < length front = grind arith in
    let last : get_or front (length front - 1) 0 ≡ 10 = grind arith in
    let before = take (length front - 1) front in
    let split : front ≡ before ++ 10 ∷ [] =
    sym (take_all (length front - 1 + 1) front (omega arith)) ∙ take_more front (length front - 1) 0 (omega arith) ∙ ap (λ y. before ++ y ∷ []) last in
    let feed : ended_part (10 ∷ xs) ≡ 10 ∷ ended_part xs = onto_feed (ended_part xs) in
    ap (λ l. ended_part (l ++ xs)) split ∙ ap ended_part (append_assoc before (10 ∷ []) xs)
    ∙ ended_behind before (10 ∷ xs) (subst (λ l. 0 < length l) (sym feed) (omega arith))
    ∙ ap (λ l. before ++ l) feed ∙ sym (append_assoc before (10 ∷ []) (ended_part xs)) ∙ ap (λ l. l ++ ended_part xs) (sym split)

-- what a read up to a line feed leaves of the ended part
drop_at : (b : Bool) (x : ℕ) (xs part : List ℕ) → eqb x 10 ≡ b → ended_part xs ≡ part
    → drop_through 10 (ended_part xs) ≡ ended_part (drop_through 10 xs)
    → drop_through 10 (onto_ended x part) ≡ ended_part (cond b xs (drop_through 10 xs))
drop_at true x xs part h is rest =
    let ten : x ≡ 10 = grind arith in rw (ten, onto_feed part) (sym is)
drop_at false x xs [] h is rest = rw h (ap (drop_through 10) (sym is) ∙ rest)
drop_at false x xs (y ∷ ys) h is rest = rw h (ap (drop_through 10) (sym is) ∙ rest)

drop_ended : (xs : List ℕ) → drop_through 10 (ended_part xs) ≡ ended_part (drop_through 10 xs)
drop_ended [] = refl
drop_ended (x ∷ xs) = drop_at (eqb x 10) x xs (ended_part xs) refl refl (drop_ended xs)

pub drops_ended : (old new : Option (List ℕ)) → DropsThrough old new 10 → DropsThrough (ended old) (ended new) 10
drops_ended None new dropped = tt
drops_ended (Some x) new dropped = ap ended dropped ∙ ap (λ l. Some l) (sym (drop_ended x))

-- and what it takes
take_at : (b : Bool) (x : ℕ) (xs part : List ℕ) → eqb x 10 ≡ b → ended_part xs ≡ part
    → (0 < length (ended_part xs) → take_through 10 (ended_part xs) ≡ take_through 10 xs) → 0 < length (onto_ended x part)
    → take_through 10 (onto_ended x part) ≡ cond b (x ∷ []) (x ∷ take_through 10 xs)
take_at true x xs part h is first some = let ten : x ≡ 10 = grind arith in rw (ten, onto_feed part) refl
take_at false x xs [] h is first some =
    let none : onto_ended x [] ≡ [] = onto_other (eqb x 10) x refl h in absurd (omega (arith, ap (λ l. length l) none))
take_at false x xs (y ∷ ys) h is first some =
    let here : 0 < length (ended_part xs) = subst (λ l. 0 < length l) (sym is) (omega arith) in
    rw h (ap (λ l. x ∷ l) (ap (take_through 10) (sym is) ∙ first here))

take_ended : (xs : List ℕ) → 0 < length (ended_part xs) → take_through 10 (ended_part xs) ≡ take_through 10 xs
take_ended [] some = refl
take_ended (x ∷ xs) some = take_at (eqb x 10) x xs (ended_part xs) refl refl (take_ended xs) some

-- a first line that no line feed ends is the only one
and_same : (here there hit : Bool) → here ≡ true → there ≡ true → (here && hit) ≡ (there && hit)
and_same true true hit e d = refl
and_same true false hit e d = absurd (cc)
and_same false there hit e d = absurd (cc)

ends_cons : (x : ℕ) (l : List ℕ) → 0 < length l → ends_with_byte 10 (x ∷ l) ≡ ends_with_byte 10 l
ends_cons x l some =
    let n : suc (length l) - 1 ≡ suc (length l - 1) = omega arith in
    rw n (and_same (nat_lt 0 (suc (length l))) (nat_lt 0 (length l)) (eqb (get_or l (length l - 1) 0) 10) (grind arith) (grind arith))

take_some : (b : Bool) (x : ℕ) (xs : List ℕ) → 0 < length (cond b (x ∷ []) (x ∷ take_through 10 xs))
take_some true x xs = omega arith
take_some false x xs = omega arith

unended_at : (b : Bool) (x : ℕ) (l : List ℕ) → eqb x 10 ≡ b
    → (ends_with_byte 10 (take_through 10 l) ≡ false → ended_part l ≡ [])
    → ends_with_byte 10 (cond b (x ∷ []) (x ∷ take_through 10 l)) ≡ false → onto_ended x (ended_part l) ≡ []
unended_at true x l h rest is = absurd (grind arith)
unended_at false x [] h rest is = onto_other (eqb x 10) x refl h
unended_at false x (y ∷ ys) h rest is =
    let none : ended_part (y ∷ ys) ≡ [] = rest (sym (ends_cons x (take_through 10 (y ∷ ys)) (take_some (eqb y 10) y ys)) ∙ is) in
    ap (onto_ended x) none ∙ onto_other (eqb x 10) x refl h

pub unended : (xs : List ℕ) → ends_with_byte 10 (take_through 10 xs) ≡ false → ended_part xs ≡ []
unended [] is = refl
unended (x ∷ xs) is = unended_at (eqb x 10) x xs refl (unended xs) is

-- ---- laws

pub ended_whole : EndedWhole
ended_whole input is =
    elim is [
      | inl none ↦ subst (λ l. ended_part l ≡ l) (sym none) refl
      | inr feed ↦
          subst (λ l. ended_part l ≡ input) (append-nil input) (ended_front input [] feed ∙ append-nil input)
    ]

feed_at : (b : Bool) (x : ℕ) (part : List ℕ) → eqb x 10 ≡ b → (part ≡ []) ⊎ (ends_with_byte 10 part ≡ true)
    → (onto_ended x part ≡ []) ⊎ (ends_with_byte 10 (onto_ended x part) ≡ true)
feed_at true x [] h is = let ten : x ≡ 10 = grind arith in inr (rw ten refl)
feed_at false x [] h is = inl (onto_other (eqb x 10) x refl h)
feed_at b x (y ∷ ys) h is =
    elim is [
      | inl none ↦ absurd (omega (arith, ap (λ l. length l) none))
      | inr feed ↦ inr (ends_cons x (y ∷ ys) (omega arith) ∙ feed)
    ]

pub ended_by_feed : EndedByFeed
ended_by_feed [] = inl refl
ended_by_feed (x ∷ xs) = feed_at (eqb x 10) x (ended_part xs) refl (ended_by_feed xs)

-- x joins the first of some lines, with or without more behind them
onto_front : (x : ℕ) (xs : List ℕ) (lines : List (List ℕ)) → 0 < length xs
    → onto_first x (lines_of xs ++ lines) ≡ onto_first x (lines_of xs) ++ lines
onto_front x xs lines some = rw (lines_of-first xs some) refl

abbrev HasLines : List ℕ → List ℕ → Type 0
HasLines input part = (rest : List ℕ) × (input ≡ part ++ rest) × All (λ x. x ≢ 10) rest
    × (lines_of input ≡ lines_of part ++ lines_of rest)

lines_at : (b : Bool) (x : ℕ) (xs part : List ℕ) → eqb x 10 ≡ b → HasLines xs part → HasLines (x ∷ xs) (onto_ended x part)
lines_at true x xs part h has =
    let ten : x ≡ 10 = grind arith in
    rw (ten, onto_feed part) (has.0, ap (λ l. 10 ∷ l) has.1, has.2, ap (λ l. [] ∷ l) has.3)
lines_at false x xs [] h has =
    let other : x ≢ 10 = grind arith in
    rw (onto_other (eqb x 10) x refl h)
    (x ∷ has.0, ap (λ l. x ∷ l) has.1, All-cons (λ x. x ≢ 10) x has.0 other has.2, ap (λ l. lines_of (x ∷ l)) has.1)
lines_at false x xs (y ∷ ys) h has = (
  has.0,
  ap (λ l. x ∷ l) has.1,
  has.2,
  rw h (ap (onto_first x) has.3 ∙ onto_front x (y ∷ ys) (lines_of has.0) (omega arith)),
)

pub ended_lines : EndedLines
ended_lines [] = ([], refl, All-nil (λ x. x ≢ 10), refl)
ended_lines (x ∷ xs) = lines_at (eqb x 10) x xs (ended_part xs) refl (ended_lines xs)

-- ---- reads

some_of_ended : (xs : List ℕ) → 0 < length (ended_part xs) → 0 < length xs
some_of_ended [] some = some
some_of_ended (x ∷ xs) some = omega arith

each_some : (input : Option (List ℕ)) (P : List ℕ → Type 0) → ((xs : List ℕ) → P xs) → IfSome input P
each_some None P holds = tt
each_some (Some xs) P holds = holds xs

at_end : (old new : Option (List ℕ)) → IfSome old (λ xs. ended_part xs ≡ []) → DropsThrough old new 10
    → IsAtEnd (ended old) × Keeps (ended old) (ended new)
at_end None new none dropped = (tt, tt)
at_end (Some x) new none dropped = (none, Keeps-end (Some (ended_part x)) (ended new) none (drops_ended (Some x) new dropped))

-- a line was read, and `told` says whether a line feed ended it
pub read_ended : (old new : Option (List ℕ)) (line : List ℕ) (told : Bool) → IfSome old (λ xs. line ≡ take_through 10 xs)
    → DropsThrough old new 10 → Consumes old new line → 0 < length line → told ≡ ends_with_byte 10 line
    → HasReadEnded told Whole (ended old) (ended new) (strip_last 10 line)
read_ended None new line true took dropped lost some is = tt
read_ended None new line false took dropped lost some is = (tt, tt)
read_ended (Some x) None line told took dropped lost some is = absurd lost
read_ended (Some x) (Some y) line true took dropped lost some is =
    let part : ended_part x ≡ line ++ ended_part y = ap ended_part lost ∙ ended_front line y (sym is) in
    let here : 0 < length (ended_part x) = subst (λ l. 0 < length l) (sym part) (omega (arith, length-append line (ended_part y))) in
    TakesLine-read (Some (ended_part x)) (Some (ended_part y)) line (took ∙ sym (take_ended x here)) (drops_ended (Some x) (Some y) dropped) some
read_ended (Some x) (Some y) line false took dropped lost some is =
    at_end (Some x) (Some y) (unended x (sym (is ∙ ap (ends_with_byte 10) took))) dropped

-- what is gone within a line is gone so of the ended part
stays_at : (x y gone part : List ℕ) (told : Bool) → x ≡ gone ++ y → StopsAt gone 10 → ended_part y ≡ part
    → ends_with_byte 10 gone ≡ told → StaysInLine (Some (ended_part x)) (Some (ended_part y))
stays_at x y gone part true took stops is ends = (gone, ap ended_part took ∙ ended_front gone y ends, stops)
stays_at x y gone [] false took stops is ends =
    ([], ap ended_part took ∙ ended_none gone y (no_line_feed gone stops ends) is ∙ sym is, All-nil (λ x. x ≢ 10))
stays_at x y gone (p ∷ ps) false took stops is ends =
    (gone, ap ended_part took ∙ ended_behind gone y (subst (λ l. 0 < length l) (sym is) (omega arith)), stops)

pub stays_ended : (old new : Option (List ℕ)) → StaysInLine old new → StaysInLine (ended old) (ended new)
stays_ended None new stays = ([], tt, All-nil (λ x. x ≢ 10))
stays_ended (Some x) None stays = absurd stays.1
stays_ended (Some x) (Some y) stays =
    stays_at x y stays.0 (ended_part y) (ends_with_byte 10 stays.0) stays.1 stays.2 refl refl

-- ---- skips

-- a front that a line feed ends was skipped
pub skip_ended_front : (mid : Option (List ℕ)) (front : List ℕ) → StopsAt front 10 → ends_with_byte 10 front ≡ true
    → HasSkippedEnded true Skipped front mid mid
skip_ended_front mid front stops ends =
    (skipped_ended (ended mid) front stops ends, each_some mid _ (λ xs. ended_front front xs ends))

-- or one that a line feed ends later on
some_behind : (mid : Option (List ℕ)) (front : List ℕ) → IfSome mid (Skips Ended)
    → IfSome (ended mid) (λ xs. 0 < length (front ++ xs)) × IfSome mid (λ xs. ended_part (front ++ xs) ≡ front ++ ended_part xs)
some_behind None front some = (tt, tt)
some_behind (Some xs) front some = (omega (arith, length-append front (ended_part xs)), ended_behind front xs some)

pub skip_ended_rest : (mid new : Option (List ℕ)) (front : List ℕ) → StopsAt front 10 → ends_with_byte 10 front ≡ false
    → DropsThrough mid new 10 → IfSome mid (Skips Ended) → HasSkippedEnded true Skipped front mid new
skip_ended_rest mid new front stops ends dropped some =
    let both = some_behind mid front some in
    (skipped_rest (ended mid) (ended new) front stops ends (drops_ended mid new dropped) both.0, both.1)

-- or there was none
pub skip_unended : (mid new : Option (List ℕ)) (front : List ℕ) → StopsAt front 10 → ends_with_byte 10 front ≡ false
    → DropsThrough mid new 10 → IfSome mid (λ xs. ended_part xs ≡ [])
    → All (λ x. x ≢ 10) front × IsAtEnd (ended mid) × Keeps (ended mid) (ended new)
skip_unended mid new front stops ends dropped none =
    let both = at_end mid new none dropped in (no_line_feed front stops ends, both.0, both.1)

-- what was told of the rest
pub some_of_ended_skip : (mid : Option (List ℕ)) (front : List ℕ) → IfSome mid (Skips Ended) → IfSome mid (λ xs. 0 < length (front ++ xs))
some_of_ended_skip None front some = tt
some_of_ended_skip (Some xs) front some = omega (arith, length-append front xs, some_of_ended xs some)

pub some_of_unended_skip : (mid : Option (List ℕ)) (front : List ℕ) → IfSome mid (Skips Unended) → IfSome mid (λ xs. 0 < length (front ++ xs))
some_of_unended_skip None front some = tt
some_of_unended_skip (Some xs) front some = omega (arith, length-append front xs, some.0)

pub none_of_unended_skip : (mid : Option (List ℕ)) → IfSome mid (Skips Unended) → IfSome mid (λ xs. ended_part xs ≡ [])
none_of_unended_skip None some = tt
none_of_unended_skip (Some xs) some = some.1

pub none_of_no_skip : (mid : Option (List ℕ)) → IfSome mid (Skips Nothing) → IfSome mid (λ xs. ended_part xs ≡ [])
none_of_no_skip None none = tt
none_of_no_skip (Some xs) none = ap ended_part none

-- what was read before stands in front
consumes_ended : (old mid : Option (List ℕ)) (front : List ℕ) → Consumes old mid front
    → IfSome mid (λ rest. ended_part (front ++ rest) ≡ front ++ ended_part rest) → Consumes (ended old) (ended mid) front
consumes_ended None mid front took whole = tt
consumes_ended (Some x) None front took whole = absurd took
consumes_ended (Some x) (Some y) front took whole = ap ended_part took ∙ whole

end_ended : (old mid new : Option (List ℕ)) (front : List ℕ) → Consumes old mid front → All (λ x. x ≢ 10) front
    → IsAtEnd (ended mid) → Keeps (ended mid) (ended new) → IsAtEnd (ended old) × Keeps (ended old) (ended new)
end_ended None mid new front took other end kept = (tt, tt)
end_ended (Some x) None new front took other end kept = absurd took
end_ended (Some x) (Some y) None front took other end kept = absurd kept
end_ended (Some x) (Some y) (Some z) front took other end kept =
    let none : ended_part x ≡ [] = ap ended_part took ∙ ended_none front y other end in (none, kept ∙ end ∙ sym none)

read_behind : (told : Bool) (read : LineRead) (old mid new : Option (List ℕ)) (front line : List ℕ) → Consumes old mid front
    → HasSkippedEnded told read front mid new → HasReadEnded told read (ended old) (ended new) line
read_behind true read old mid new front line took h =
    HasRead-behind read (ended old) (ended mid) (ended new) front line (consumes_ended old mid front took h.1) h.0
read_behind false read old mid new front line took h = end_ended old mid new front took h.0 h.1 h.2

pub read_ended_behind : {E : Type 0} (r : Result (LineRead × Bool) E) (old mid new : Option (List ℕ)) (front line : List ℕ)
    → Consumes old mid front → IfOk r (λ read. HasSkippedEnded read.1 read.0 front mid new)
    → IfOk r (λ read. HasReadEnded read.1 read.0 (ended old) (ended new) line)
read_ended_behind (Err e) old mid new front line took h = tt
read_ended_behind (Ok read) old mid new front line took h = read_behind read.1 read.0 old mid new front line took h

-- ---- bytes that were skipped one by one

-- at the end it is as was told of them
told_at : (told : Skip) (gone rest : List ℕ) → Tells told gone → All (λ x. x ≢ 10) gone → rest ≡ [] → Skips told (gone ++ rest)
told_at Ended gone rest tells other end = absurd tells
told_at Unended gone rest tells other end =
    (omega (arith, length-append gone rest), ended_none gone rest other (ap ended_part end))
told_at Nothing gone rest tells other end = ap (λ l. l ++ rest) tells ∙ end

pub passed_told : (old mid : Option (List ℕ)) (told : Skip) → HasPassed old mid told → IsAtEnd mid → IfSome old (Skips told)
passed_told None mid told has end = tt
passed_told (Some x) None told has end = absurd has.took
passed_told (Some x) (Some y) told has end = subst (Skips told) (sym has.took) (told_at told has.gone y has.tells has.none end)

-- behind them a line feed ends the line
pub passed_ended : (old mid new : Option (List ℕ)) (told : Skip) → HasPassed old mid told → Consumes mid new (10 ∷ [])
    → IfSome old (Skips Ended)
passed_ended None mid new told has took = tt
passed_ended (Some x) None new told has took = absurd has.took
passed_ended (Some x) (Some y) None told has took = absurd took
passed_ended (Some x) (Some y) (Some z) told has took =
    let feed : ended_part y ≡ 10 ∷ ended_part z = ap ended_part took ∙ onto_feed (ended_part z) in
    let here : 0 < length (ended_part y) = subst (λ l. 0 < length l) (sym feed) (omega arith) in
    subst (Skips Ended) (sym has.took)
    (subst (λ l. 0 < length l) (sym (ended_behind has.gone y here)) (omega (arith, length-append has.gone (ended_part y))))
