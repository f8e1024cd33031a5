-- Bytes spell at most one entry at their front, and one list of entries. Lemmas that types are made with, here and above.
use Rattle.std.proofs.Common.{◌≡◌, ℕ, ◌+◌, ◌^◌, ◌<◌, ◌≤◌, true, false, cond, nat_eq, nat_lt, List, [], ◌∷◌, ◌++◌, length, take, drop, Result, Ok, Err, refl, sym, ap, ◌∙◌, arith, length-append}
use Rattle.std.specs.Int.{w32, w64, from_be_bytes}
use Rattle.std.specs.List.{flat_map, AllByRecursion}
use Rattle.std.proofs.Math.Seq.{take-append_seam, drop-append_seam}
use Rattle.std.proofs.lemmas.Nat.{from_be_bytes-to_be_bytes_4, from_be_bytes-to_be_bytes_8}
use Rattle.std.proofs.lemmas.Bool.Decides.{nat_tests}
use Rattle.cs_wire.specs.Entries.{ToldEntry, FitsEntryNumbers, FitsEntry, entry_numbers, entry_spelling, kinds}
use Rattle.cs_wire.specs.Numbers.{four_bytes, eight_bytes}
use Rattle.cs_wire.specs.declared.fault.WireFault.{WireFault}
use Rattle.cs_wire.specs.declared.fault.WireFault.TheVariants.{Truncated, BadKind}

-- ---- numbers are told apart by their bytes

unfoldable pub four : List ℕ → ℕ
four bytes = from_be_bytes w32 (take 4 bytes)

unfoldable pub eight : List ℕ → ℕ
eight bytes = from_be_bytes w64 (take 8 bytes)

pub four_back : (number : ℕ) (rest : List ℕ) → number < 2 ^ 32 → four (four_bytes number ++ rest) ≡ number
unfolding four four_bytes
four_back number rest fits = from_be_bytes-to_be_bytes_4 number fits

pub four_rest : (number : ℕ) (rest : List ℕ) → drop 4 (four_bytes number ++ rest) ≡ rest
unfolding four_bytes
four_rest number rest = refl

pub eight_back : (number : ℕ) (rest : List ℕ) → number < 2 ^ 64 → eight (eight_bytes number ++ rest) ≡ number
unfolding eight eight_bytes
eight_back number rest fits = from_be_bytes-to_be_bytes_8 number fits

pub eight_rest : (number : ℕ) (rest : List ℕ) → drop 8 (eight_bytes number ++ rest) ≡ rest
unfolding eight_bytes
eight_rest number rest = refl

pub four_length : (number : ℕ) → length (four_bytes number) ≡ 4
unfolding four_bytes
four_length number = refl

pub eight_length : (number : ℕ) → length (eight_bytes number) ≡ 8
unfolding eight_bytes
eight_length number = refl

-- how many bytes there are, from how many follow a number
pub after_four : (bytes rest : List ℕ) (number : ℕ) → bytes ≡ four_bytes number ++ rest → length bytes ≡ 4 + length rest
after_four bytes rest number is = rw is (length-append (four_bytes number) rest ∙ ap (λ n. n + length rest) (four_length number))

pub after_eight : (bytes rest : List ℕ) (number : ℕ) → bytes ≡ eight_bytes number ++ rest → length bytes ≡ 8 + length rest
after_eight bytes rest number is = rw is (length-append (eight_bytes number) rest ∙ ap (λ n. n + length rest) (eight_length number))

pub not_below : (n m : ℕ) → m ≤ n → nat_lt n m ≡ false
not_below n m le = grind (arith, nat_tests)

pub below : (n m : ℕ) → n < m → nat_lt n m ≡ true
below n m lt = grind (arith, nat_tests)

-- ---- the entry at the front, as a function

unfoldable pub sized_entry : ℕ → ℕ → ℕ → ℕ → List ℕ → Result (ToldEntry × List ℕ) WireFault
sized_entry kind origin number size part =
    cond (nat_lt (length part) size) (Err Truncated)
    (Ok (record { kind = kind; origin = origin; number = number; body = take size part }, drop size part))

unfoldable pub entry_behind : ℕ → List ℕ → Result (ToldEntry × List ℕ) WireFault
entry_behind kind rest =
    cond (nat_lt (length rest) 16) (Err Truncated)
    (sized_entry kind (four rest) (eight (drop 4 rest)) (four (drop 8 (drop 4 rest))) (drop 4 (drop 8 (drop 4 rest))))

unfoldable pub entry_reading : List ℕ → Result (ToldEntry × List ℕ) WireFault
entry_reading [] = Err Truncated
entry_reading (kind ∷ rest) = cond (nat_lt kind kinds) (entry_behind kind rest) (Err BadKind)

pub numbers_length : (origin number size : ℕ) (part : List ℕ) → length (entry_numbers origin number size part) ≡ 16 + length part
numbers_length origin number size part =
    omega (
      arith,
      after_four (entry_numbers origin number size part) (eight_bytes number ++ (four_bytes size ++ part)) origin refl,
      after_eight (eight_bytes number ++ (four_bytes size ++ part)) (four_bytes size ++ part) number refl,
      after_four (four_bytes size ++ part) part size refl,
    )

pub numbers_back : (kind origin number size : ℕ) (part : List ℕ) → FitsEntryNumbers origin number size → entry_behind kind (entry_numbers origin number size part) ≡ sized_entry kind origin number size part
unfolding entry_behind
numbers_back kind origin number size part (of, nf, sf) =
    let long = not_below (length (entry_numbers origin number size part)) 16 (omega (arith, numbers_length origin number size part)) in
    rw (long, four_rest, eight_rest, four_rest, four_back origin _ of, eight_back number _ nf, four_back size part sf) refl

-- what follows an entry follows its bytes
pub numbers_more : (origin number size : ℕ) (body rest : List ℕ) → entry_numbers origin number size body ++ rest ≡ entry_numbers origin number size (body ++ rest)
unfolding four_bytes eight_bytes
numbers_more origin number size body rest = refl

sized_back : (kind origin number : ℕ) (body rest : List ℕ) → sized_entry kind origin number (length body) (body ++ rest) ≡ Ok (record { kind = kind; origin = origin; number = number; body = body }, rest)
unfolding sized_entry
sized_back kind origin number body rest =
    let long = not_below (length (body ++ rest)) (length body) (omega (arith, length-append body rest)) in
    rw (long, take-append_seam body rest, drop-append_seam body rest) refl

kind_back : (kind : ℕ) (rest : List ℕ) → kind < kinds → entry_reading (kind ∷ rest) ≡ entry_behind kind rest
unfolding entry_reading
kind_back kind rest is = rw (below kind kinds is) refl

pub entry_back : (entry : ToldEntry) (rest : List ℕ) → FitsEntry entry → entry_reading (entry_spelling entry ++ rest) ≡ Ok (entry, rest)
entry_back entry rest (kind, fits) =
    ap (λ (t : List ℕ). entry_reading (entry.kind ∷ t)) (numbers_more entry.origin entry.number (length entry.body) entry.body rest)
    ∙ kind_back entry.kind _ kind
    ∙ numbers_back entry.kind entry.origin entry.number (length entry.body) (entry.body ++ rest) fits
    ∙ sized_back entry.kind entry.origin entry.number entry.body rest

-- ---- one list of entries

one_split : (one other : ToldEntry × List ℕ) (split : Result (ToldEntry × List ℕ) WireFault) → split ≡ Ok one → split ≡ Ok other → one ≡ other
one_split one other split p q = cc

-- no entry's spelling begins another
pub one_entry : (a b : ToldEntry) (x y : List ℕ) → FitsEntry a → FitsEntry b → entry_spelling a ++ x ≡ entry_spelling b ++ y → (a ≡ b) × (x ≡ y)
one_entry a b x y fa fb e =
    let same = one_split (a, x) (b, y) (entry_reading (entry_spelling b ++ y)) (ap entry_reading (sym e) ∙ entry_back a x fa) (entry_back b y fb) in
    (ap (λ (s : ToldEntry × List ℕ). s.0) same, ap (λ (s : ToldEntry × List ℕ). s.1) same)

pub one_entries : (a b : List ToldEntry) → AllByRecursion FitsEntry a → AllByRecursion FitsEntry b → flat_map entry_spelling a ≡ flat_map entry_spelling b → a ≡ b
one_entries [] [] fa fb e = refl
one_entries [] (f ∷ fs) fa fb e = cc
one_entries (f ∷ fs) [] fa fb e = cc
one_entries (f ∷ fs) (g ∷ gs) fa fb e =
    let both = one_entry f g (flat_map entry_spelling fs) (flat_map entry_spelling gs) fa.0 fb.0 e in
    let rest = one_entries fs gs fa.1 fb.1 both.1 in
    rw (both.0, rest) refl
