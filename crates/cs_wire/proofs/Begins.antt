-- Bytes that begin with a number.
use Rattle.std.proofs.Common.{◌≡◌, ℕ, zero, suc, ◌+◌, ◌<◌, ◌≤◌, ◌^◌, List, [], ◌∷◌, ◌++◌, length, take, drop, refl, sym, ap, ◌∙◌, length-take-le, arith, lit<}
use Rattle.std.specs.Int.{w32, w64, from_be_bytes}
use Rattle.std.proofs.lemmas.Nat.{be_bytes_4, be_bytes_8}
use Rattle.std.proofs.lemmas.List.{take-append-drop}
use Rattle.cs_varint.specs.Bytes.{AreBytes}
use Rattle.cs_wire.specs.Numbers.{four_bytes, eight_bytes}
use Rattle.cs_wire.specs.OneSpelling.{after_four, after_eight}

pub small_take : (n : ℕ) (bytes : List ℕ) → AreBytes bytes → AreBytes (take n bytes)
small_take zero bytes small i = lit< tt
small_take (suc n) [] small i = lit< tt
small_take (suc n) (b ∷ bytes) small zero = small zero
small_take (suc n) (b ∷ bytes) small (suc i) = small_take n bytes (λ j. small (suc j)) i

pub small_drop : (n : ℕ) (bytes : List ℕ) → AreBytes bytes → AreBytes (drop n bytes)
small_drop zero bytes small i = small i
small_drop (suc n) [] small i = lit< tt
small_drop (suc n) (b ∷ bytes) small i = small_drop n bytes (λ j. small (suc j)) i

pub four_front : (bytes front : List ℕ) (number : ℕ) → front ≡ take 4 bytes → 4 ≤ length bytes → AreBytes bytes → number ≡ from_be_bytes w32 front → bytes ≡ four_bytes number ++ drop 4 bytes
unfolding four_bytes
four_front bytes front number is long small read =
    let back : number ≡ from_be_bytes w32 (take 4 bytes) = read ∙ ap (from_be_bytes w32) is in
    sym (take-append-drop 4 bytes) ∙ ap (λ (f : List ℕ). f ++ drop 4 bytes) (sym (be_bytes_4 (take 4 bytes) number (length-take-le 4 bytes long) (small_take 4 bytes small) back))

pub eight_front : (bytes front : List ℕ) (number : ℕ) → front ≡ take 8 bytes → 8 ≤ length bytes → AreBytes bytes → number ≡ from_be_bytes w64 front → bytes ≡ eight_bytes number ++ drop 8 bytes
unfolding eight_bytes
eight_front bytes front number is long small read =
    let back : number ≡ from_be_bytes w64 (take 8 bytes) = read ∙ ap (from_be_bytes w64) is in
    sym (take-append-drop 8 bytes) ∙ ap (λ (f : List ℕ). f ++ drop 8 bytes) (sym (be_bytes_8 (take 8 bytes) number (length-take-le 8 bytes long) (small_take 8 bytes small) back))

four_below : (bytes : List ℕ) (number : ℕ) → AreBytes bytes → number ≡ from_be_bytes w32 bytes → number < 2 ^ 32
four_below bytes number small is = omega (arith, small 0, small 1, small 2, small 3)

eight_below : (bytes : List ℕ) (number : ℕ) → AreBytes bytes → number ≡ from_be_bytes w64 bytes → number < 2 ^ 64
eight_below bytes number small is = omega (arith, small 0, small 1, small 2, small 3, small 4, small 5, small 6, small 7)

-- bytes that begin with a number of four bytes, or of eight
pub record BeginsFour (bytes : List ℕ) : Type 0 where
  pub number : ℕ
  pub rest : List ℕ
  pub fits : number < 2 ^ 32
  pub is : bytes ≡ four_bytes number ++ rest
  pub small : AreBytes rest

pub record BeginsEight (bytes : List ℕ) : Type 0 where
  pub number : ℕ
  pub rest : List ℕ
  pub fits : number < 2 ^ 64
  pub is : bytes ≡ eight_bytes number ++ rest
  pub small : AreBytes rest

pub begins_four : (bytes : List ℕ) → AreBytes bytes → 4 ≤ length bytes → BeginsFour bytes
begins_four bytes small long = record {
  number = from_be_bytes w32 (take 4 bytes);
  rest = drop 4 bytes;
  fits = four_below (take 4 bytes) (from_be_bytes w32 (take 4 bytes)) (small_take 4 bytes small) refl;
  is = four_front bytes (take 4 bytes) (from_be_bytes w32 (take 4 bytes)) refl long small refl;
  small = small_drop 4 bytes small;
}

pub begins_eight : (bytes : List ℕ) → AreBytes bytes → 8 ≤ length bytes → BeginsEight bytes
begins_eight bytes small long = record {
  number = from_be_bytes w64 (take 8 bytes);
  rest = drop 8 bytes;
  fits = eight_below (take 8 bytes) (from_be_bytes w64 (take 8 bytes)) (small_take 8 bytes small) refl;
  is = eight_front bytes (take 8 bytes) (from_be_bytes w64 (take 8 bytes)) refl long small refl;
  small = small_drop 8 bytes small;
}

-- bytes that begin with the numbers before a changeset, in a Push and in a Merged
pub record BeginsSized (bytes : List ℕ) : Type 0 where
  pub origin : ℕ
  pub second : ℕ
  pub third : ℕ
  pub size : ℕ
  pub rest : List ℕ
  pub origin_fits : origin < 2 ^ 32
  pub second_fits : second < 2 ^ 64
  pub third_fits : third < 2 ^ 64
  pub size_fits : size < 2 ^ 32
  pub is : bytes ≡ four_bytes origin ++ (eight_bytes second ++ (eight_bytes third ++ (four_bytes size ++ rest)))

pub begins_sized : (bytes : List ℕ) → AreBytes bytes → 24 ≤ length bytes → BeginsSized bytes
begins_sized bytes small long =
    let origin = begins_four bytes small (omega (arith, long)) in
    let second = begins_eight origin.rest origin.small (omega (arith, after_four bytes origin.rest origin.number origin.is)) in
    let third = begins_eight second.rest second.small (omega (arith, after_four bytes origin.rest origin.number origin.is, after_eight origin.rest second.rest second.number second.is)) in
    let size = begins_four third.rest third.small (omega (arith, after_four bytes origin.rest origin.number origin.is, after_eight origin.rest second.rest second.number second.is, after_eight second.rest third.rest third.number third.is)) in
    record {
      origin = origin.number;
      second = second.number;
      third = third.number;
      size = size.number;
      rest = size.rest;
      origin_fits = origin.fits;
      second_fits = second.fits;
      third_fits = third.fits;
      size_fits = size.fits;
      is = origin.is ∙ ap (λ (r : List ℕ). four_bytes origin.number ++ r) (second.is ∙ ap (λ (r : List ℕ). eight_bytes second.number ++ r) (third.is ∙ ap (λ (r : List ℕ). eight_bytes third.number ++ r) size.is));
    }

pub sized_length : (origin second third size : ℕ) (part : List ℕ) → length (four_bytes origin ++ (eight_bytes second ++ (eight_bytes third ++ (four_bytes size ++ part)))) ≡ 24 + length part
sized_length origin second third size part =
    omega (
      arith,
      after_four (four_bytes origin ++ (eight_bytes second ++ (eight_bytes third ++ (four_bytes size ++ part)))) (eight_bytes second ++ (eight_bytes third ++ (four_bytes size ++ part))) origin refl,
      after_eight (eight_bytes second ++ (eight_bytes third ++ (four_bytes size ++ part))) (eight_bytes third ++ (four_bytes size ++ part)) second refl,
      after_eight (eight_bytes third ++ (four_bytes size ++ part)) (four_bytes size ++ part) third refl,
      after_four (four_bytes size ++ part) part size refl,
    )

-- bytes that begin with the numbers before a table's name, in a Widen
pub record BeginsNamed (bytes : List ℕ) : Type 0 where
  pub number : ℕ
  pub base : ℕ
  pub width : ℕ
  pub size : ℕ
  pub rest : List ℕ
  pub number_fits : number < 2 ^ 64
  pub base_fits : base < 2 ^ 64
  pub width_fits : width < 2 ^ 32
  pub size_fits : size < 2 ^ 32
  pub is : bytes ≡ eight_bytes number ++ (eight_bytes base ++ (four_bytes width ++ (four_bytes size ++ rest)))

pub begins_named : (bytes : List ℕ) → AreBytes bytes → 24 ≤ length bytes → BeginsNamed bytes
begins_named bytes small long =
    let number = begins_eight bytes small (omega (arith, long)) in
    let base = begins_eight number.rest number.small (omega (arith, after_eight bytes number.rest number.number number.is)) in
    let width = begins_four base.rest base.small (omega (arith, after_eight bytes number.rest number.number number.is, after_eight number.rest base.rest base.number base.is)) in
    let size = begins_four width.rest width.small (omega (arith, after_eight bytes number.rest number.number number.is, after_eight number.rest base.rest base.number base.is, after_four base.rest width.rest width.number width.is)) in
    record {
      number = number.number;
      base = base.number;
      width = width.number;
      size = size.number;
      rest = size.rest;
      number_fits = number.fits;
      base_fits = base.fits;
      width_fits = width.fits;
      size_fits = size.fits;
      is = number.is ∙ ap (λ (r : List ℕ). eight_bytes number.number ++ r) (base.is ∙ ap (λ (r : List ℕ). eight_bytes base.number ++ r) (width.is ∙ ap (λ (r : List ℕ). four_bytes width.number ++ r) size.is));
    }

pub named_length : (number base width size : ℕ) (part : List ℕ) → length (eight_bytes number ++ (eight_bytes base ++ (four_bytes width ++ (four_bytes size ++ part)))) ≡ 24 + length part
named_length number base width size part =
    omega (
      arith,
      after_eight (eight_bytes number ++ (eight_bytes base ++ (four_bytes width ++ (four_bytes size ++ part)))) (eight_bytes base ++ (four_bytes width ++ (four_bytes size ++ part))) number refl,
      after_eight (eight_bytes base ++ (four_bytes width ++ (four_bytes size ++ part))) (four_bytes width ++ (four_bytes size ++ part)) base refl,
      after_four (four_bytes width ++ (four_bytes size ++ part)) (four_bytes size ++ part) width refl,
      after_four (four_bytes size ++ part) part size refl,
    )
