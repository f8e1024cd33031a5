-- What a read up to a line feed, and a skip up to one, take off the input's lines.
use Rattle.std.proofs.Common.{Bool, ◌≡◌, ◌≢◌, ℕ, ◌-◌, ◌<◌, true, false, List, [], ◌∷◌, ◌++◌, All, length, get_or, refl, sym, ap, ◌∙◌, arith, subst, IfSome, length-append}
use Rattle.std.specs.Prelude.{OnErr, Option, Some, None, Result, Ok, Err, IfOk}
use Rattle.std.specs.Io.{StopsAt}
use Rattle.std.specs.Io.KnownBytes.{Consumes, IsAtEnd, Keeps}
use Rattle.std.specs.Io.BufRead.{take_through, drop_through, strip_last, ends_with_byte, DropsThrough}
use Rattle.std.proofs.BufReadLemmas.{take_through_nonempty, through_part, drop_through-append}
use Rattle.std.proofs.Transfers.{All-of_StopsAt, StopsAt-append}
use Rattle.std.proofs.lemmas.List.Elements.{All-append, All-cons, All-nil}
use Rattle.std.proofs.lemmas.Grind.{common_steps}
use Rattle.cs_lines.specs.Facts.{stays}
use Rattle.cs_lines.specs.declared.line.LineRead.{LineRead}
use Rattle.cs_lines.specs.declared.line.LineRead.TheVariants.{Whole, Skipped, End}
use Rattle.cs_lines.specs.declared.streams.Skip.{Skip}
use Rattle.cs_lines.specs.declared.streams.Skip.TheVariants.{Ended, Unended, Nothing}
use Rattle.cs_lines.specs.Lines.{lines_of}
use Rattle.std.proofs.KnownBytes.{Consumes-nil, Consumes-trans}
use Rattle.cs_lines.specs.Reading.{IsCut, StaysInLine, TakesLine, HasRead, HasSkipped}
use Rattle.cs_lines.proofs.LineLemmas.{first_cut, lines_of-first}

-- some bytes up to a line feed were read
pub TakesLine-read : (old new : Option (List ℕ)) (line : List ℕ) → IfSome old (λ xs. line ≡ take_through 10 xs)
    → DropsThrough old new 10 → 0 < length line → TakesLine [] old new (strip_last 10 line)
TakesLine-read None new line took dropped some = tt
TakesLine-read (Some input) new line took dropped some =
    let here : 0 < length input = take_through_nonempty 10 input (subst (λ l. 0 < length l) took some) in (
      drop_through 10 input,
      dropped,
      lines_of-first input here ∙ ap (λ t. strip_last 10 t ∷ lines_of (drop_through 10 input)) (sym took),
      subst (λ (t : List ℕ). IsCut input (strip_last 10 t) (drop_through 10 input)) (sym took) (first_cut input here),
    )

-- a read at the end leaves the end
pub Keeps-end : (old new : Option (List ℕ)) → IsAtEnd old → DropsThrough old new 10 → Keeps old new
Keeps-end None new end dropped = tt
Keeps-end (Some input) new end dropped =
    let none : new ≡ Some [] = dropped ∙ ap (λ xs. Some (drop_through 10 xs)) end in rw (none, end) refl

-- what was read before stands in front
TakesLine-front : (old mid new : Option (List ℕ)) (front line : List ℕ) → Consumes old mid front
    → TakesLine front mid new line → TakesLine [] old new line
TakesLine-front None mid new front line took takes = tt
TakesLine-front (Some x) None new front line took takes = absurd took
TakesLine-front (Some x) (Some y) new front line took takes =
    (takes.0, takes.1, ap lines_of took ∙ takes.2, subst (λ (l : List ℕ). IsCut l line takes.0) (sym took) takes.3)

HasRead-end : (old mid new : Option (List ℕ)) (front : List ℕ) → Consumes old mid front → front ≡ []
    → IsAtEnd mid → Keeps mid new → IsAtEnd old × Keeps old new
HasRead-end None mid new front took none end kept = (tt, tt)
HasRead-end (Some x) None new front took none end kept = absurd took
HasRead-end (Some x) (Some y) None front took none end kept = absurd kept
HasRead-end (Some x) (Some y) (Some z) front took none end kept =
    let same : x ≡ y = took ∙ ap (λ l. l ++ y) none in (same ∙ end, kept ∙ sym same)

pub HasRead-behind : (read : LineRead) (old mid new : Option (List ℕ)) (front line : List ℕ) → Consumes old mid front
    → HasSkipped read front mid new → HasRead read old new line
HasRead-behind Whole old mid new front line took h = absurd h
HasRead-behind Skipped old mid new front line took h = (h.0, TakesLine-front old mid new front h.0 took h.1)
HasRead-behind End old mid new front line took h = HasRead-end old mid new front took h.0 h.1 h.2

pub HasRead-skipped : {E : Type 0} (r : Result (LineRead × Bool) E) (old mid new : Option (List ℕ)) (front line : List ℕ)
    → Consumes old mid front → IfOk r (λ read. HasSkipped read.0 front mid new) → IfOk r (λ read. HasRead read.0 old new line)
HasRead-skipped (Err e) old mid new front line took h = tt
HasRead-skipped (Ok read) old mid new front line took h = HasRead-behind read.0 old mid new front line took h

-- a front that ends by its only line feed is a line
pub skipped_ended : (mid : Option (List ℕ)) (front : List ℕ) → StopsAt front 10 → ends_with_byte 10 front ≡ true
    → (skipped : List ℕ) × TakesLine front mid mid skipped
skipped_ended None front stops ended = ([], tt)
skipped_ended (Some rest) front stops ended =
    let some : 0 < length front = grind arith in
    let last : get_or front (length front - 1) 0 ≡ 10 = grind arith in
    let part = through_part 10 front rest stops (λ _. last) (λ none. absurd (omega arith)) in
    let all = front ++ rest in (
      strip_last 10 (take_through 10 all),
      (
        rest,
        refl,
        lines_of-first all (omega (arith, length-append front rest))
            ∙ ap (λ r. strip_last 10 (take_through 10 all) ∷ lines_of r) part.1,
        subst (λ (r : List ℕ). IsCut all (strip_last 10 (take_through 10 all)) r) part.1
            (first_cut all (omega (arith, length-append front rest))),
      ),
    )

pub no_line_feed : (front : List ℕ) → StopsAt front 10 → ends_with_byte 10 front ≡ false → All (λ x. x ≢ 10) front
no_line_feed [] stops unended = All-nil (λ x. x ≢ 10)
no_line_feed (x ∷ xs) stops unended =
    let front = x ∷ xs in
    let last = get_or front (length front - 1) 0 in
    let other : last ≢ 10 = λ e. absurd (grind arith) in
    All-of_StopsAt front 10 (length front) last refl (omega arith) (grind (arith, common_steps)) other stops

-- else the line goes on up to the next line feed
pub skipped_rest : (mid new : Option (List ℕ)) (front : List ℕ) → StopsAt front 10 → ends_with_byte 10 front ≡ false
    → DropsThrough mid new 10 → IfSome mid (λ xs. 0 < length (front ++ xs)) → (skipped : List ℕ) × TakesLine front mid new skipped
skipped_rest None new front stops unended dropped some = ([], tt)
skipped_rest (Some rest) new front stops unended dropped some =
    let all = front ++ rest in (
      strip_last 10 (take_through 10 all),
      (
        drop_through 10 rest,
        dropped,
        lines_of-first all some
            ∙ ap (λ r. strip_last 10 (take_through 10 all) ∷ lines_of r)
            (drop_through-append 10 front rest (no_line_feed front stops unended)),
        subst (λ (r : List ℕ). IsCut all (strip_last 10 (take_through 10 all)) r)
            (drop_through-append 10 front rest (no_line_feed front stops unended)) (first_cut all some),
      ),
    )

-- there is something where the front or what was skipped has bytes
pub some_of_front : (mid : Option (List ℕ)) (front : List ℕ) → 0 < length front → IfSome mid (λ xs. 0 < length (front ++ xs))
some_of_front None front some = tt
some_of_front (Some xs) front some = omega (arith, length-append front xs)

-- what is gone behind a front without a line feed is of the front's line
pub stays_behind : (old mid new : Option (List ℕ)) (front : List ℕ) → Consumes old mid front → All (λ x. x ≢ 10) front
    → StaysInLine mid new → StaysInLine old new
stays_behind old mid new front took none stays =
    (front ++ stays.0, Consumes-trans old mid new front stays.0 took stays.1, StopsAt-append front stays.0 10 none stays.2)

-- what is told of bytes without a line feed
abbrev pub Tells : Skip → List ℕ → Type 0
Tells Ended gone = ⊥
Tells Unended gone = 0 < length gone
Tells Nothing gone = gone ≡ []

-- bytes that are no line feed are gone, and what is told at the end is so of them
pub record HasPassed (old new : Option (List ℕ)) (told : Skip) : Type 0 where
  pub gone : List ℕ
  pub took : Consumes old new gone
  pub none : All (λ x. x ≢ 10) gone
  pub tells : Tells told gone

pub passed_none : (old : Option (List ℕ)) → HasPassed old old Nothing
passed_none old = record {
  gone = [];
  took = Consumes-nil old;
  none = All-nil (λ x. x ≢ 10);
  tells = refl;
}

-- what is said of any refusal
pub at_err : {T E : Type 0} {P : Type 0} (r : Result T E) → P → OnErr r P
at_err (Ok x) p = tt
at_err (Err e) p = p

-- at the end all is gone
pub passed_end : (old mid new : Option (List ℕ)) (told : Skip) → HasPassed old mid told → IsAtEnd mid → Keeps mid new → DropsThrough old new 10
passed_end None mid new told has end kept = tt
passed_end (Some x) None new told has end kept = absurd has.took
passed_end (Some x) (Some y) None told has end kept = absurd kept
passed_end (Some x) (Some y) (Some z) told has end kept =
    let all : drop_through 10 x ≡ drop_through 10 y = ap (λ l. drop_through 10 l) has.took ∙ drop_through-append 10 has.gone y has.none in
    let none : drop_through 10 x ≡ [] = all ∙ ap (λ l. drop_through 10 l) end in
    ap (λ l. Some l) (kept ∙ end ∙ sym none)

-- a line feed is the last that is gone
pub passed_feed : (old mid new : Option (List ℕ)) (told : Skip) → HasPassed old mid told → Consumes mid new (10 ∷ []) → DropsThrough old new 10
passed_feed None mid new told has took = tt
passed_feed (Some x) None new told has took = absurd has.took
passed_feed (Some x) (Some y) None told has took = absurd took
passed_feed (Some x) (Some y) (Some z) told has took =
    let all : drop_through 10 x ≡ drop_through 10 y = ap (λ l. drop_through 10 l) has.took ∙ drop_through-append 10 has.gone y has.none in
    let rest : drop_through 10 y ≡ z = ap (λ l. drop_through 10 l) took in
    ap (λ l. Some l) (sym (all ∙ rest))

pub passed_line : (old mid new : Option (List ℕ)) (told : Skip) → HasPassed old mid told → Consumes mid new (10 ∷ []) → StaysInLine old new
passed_line old mid new told has took =
    stays_behind old mid new has.gone has.took has.none (10 ∷ [], took, All-nil (λ x. x ≢ 10))

pub passed_more : (old mid new : Option (List ℕ)) (told : Skip) (byte : ℕ) → HasPassed old mid told → Consumes mid new (byte ∷ []) → byte ≢ 10
    → HasPassed old new Unended
passed_more old mid new told byte has took other = record {
  gone = has.gone ++ byte ∷ [];
  took = Consumes-trans old mid new has.gone (byte ∷ []) has.took took;
  none = All-append (λ x. x ≢ 10) has.gone (byte ∷ []) has.none (All-cons (λ x. x ≢ 10) byte [] other (All-nil (λ x. x ≢ 10)));
  tells = omega (arith, length-append has.gone (byte ∷ []));
}

-- a read that ran out of memory, and then failed
pub failed_behind : {T E : Type 0} (r : Result T E) (old mid new : Option (List ℕ)) (front : List ℕ) → Consumes old mid front → StopsAt front 10
    → OnErr r (StopsAt front 10 → All (λ byte. byte ≢ 10) front × StaysInLine mid new) → OnErr r (StaysInLine old new)
failed_behind (Ok x) old mid new front took stops h = tt
failed_behind (Err e) old mid new front took stops h = let both = h stops in stays_behind old mid new front took both.0 both.1
