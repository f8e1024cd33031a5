-- Headers in the order of names and key columns, and the column bytes of the first of each name.
use Rattle.std.proofs.Common.{◌≡◌, ℕ, suc, zero, ◌+◌, ◌-◌, ◌<◌, Bool, true, false, ◌&&◌, List, [], ◌∷◌, ◌++◌, length, map, take, get_or, refl, sym, subst, ap, ◌∙◌, ap₂, arith, inl, inr, cond, not, Option, None, Some}
use Rattle.std.specs.BTreeMap.{BTreeMap, IsEmpty, get_by, is_at}
use Rattle.std.specs.Bool.{Decides, IsTrue, MatchBool}
use Rattle.std.specs.Prelude.{◌↔◌}
use Rattle.std.specs.Borrow.{Bor}
use Rattle.std.specs.Map.{lookup, update}
use Rattle.std.specs.Option.{is_some, option_map_or}
use Rattle.std.specs.List.{All, Contains}
use Rattle.std.specs.List.Sorted.{IsPermutation, IsSortedBy}
use Rattle.std.specs.Cmp.{IsTotalOrder}
use Rattle.std.specs.Cmp.Lexicographic.{slice_cmp}
use Rattle.std.specs.Ordering.{is_eq, is_lt, nat_cmp, ordering_reverse, ordering_then}
use Rattle.std.specs.Str.{bytes_eq}
use Rattle.std.specs.declared.cmp.Ordering.{Ordering}
use Rattle.std.specs.declared.cmp.Ordering.TheVariants.{Less, Equal, Greater}
use Rattle.std.proofs.lemmas.Bool.{cases_lt, false_from_ne_true, true_from_ne_false}
use Rattle.std.proofs.lemmas.Cmp.{nat_list_cmp_total, on_total, then_total}
use Rattle.std.proofs.lemmas.List.{get_or-map, get_or_default, length-map, map-append, take_more}
use Rattle.std.proofs.lemmas.List.Elements.{All-map}
use Rattle.std.proofs.lemmas.List.MinMax.{ranks_by}
use Rattle.std.proofs.lemmas.List.Sorted.{All-permutation, Contains-permutation, IsPermutation-map, IsPermutation-sym, sorted_far}
use Rattle.std.proofs.lemmas.Map.Text.{is_eq-slice_cmp}
use Rattle.std.proofs.lemmas.Simd.{map-map}
use Rattle.std.proofs.lemmas.Slice.Eq.{bytes_eq-Decides}
use Rattle.cs_change.specs.Facts.{both, marks_stay}
use Rattle.cs_change.specs.Spelling.{flag_byte, header_spelling, is_nonzero, marks_of}
use Rattle.cs_column_bytes.specs.KeyPlaces.{AreAlike, Head, columns_of, HaveOneOrder, HasTwoOrders}
use Rattle.cs_column_bytes.specs.Laws.{OneOrderOrTwo}
use Rattle.cs_column_bytes.specs.Steps.{flags_of, head_of, heads_behind, kind_cmp, DifferInOrder, FirstColumns, NeighboursAgree}
use Rattle.cs_column_bytes.specs.declared.headers.Header.{Header}

-- what holds of each element holds of this one
element : {X : Type 0} (P : X → Type 0) (xs : List X) (x : X) → All P xs → Contains xs x → P x
element P xs x all is = subst P is.2 (all is.0 x is.1)

pub one_order_or_two : OneOrderOrTwo
one_order_or_two heads one two =
    let here : All (λ (other : Head). AreAlike two.0 other → two.0.1 ≡ other.1) heads =
    element (λ (head : Head). All (λ (other : Head). AreAlike head other → head.1 ≡ other.1) heads) heads two.0 one two.2 in
    two.5 (element (λ (other : Head). AreAlike two.0 other → two.0.1 ≡ other.1) heads two.1 here two.3 two.4)

-- ---- headers of one table with the same key columns

-- column bytes have the same key columns where they are the same with 1 for each
same_marks : (some other : List ℕ) → flags_of some ≡ flags_of other → marks_of some ≡ marks_of other
same_marks some other same = sym (marks_stay (marks_of some)) ∙ ap marks_of same ∙ marks_stay (marks_of other)

pub flags_at_once : (some other : List ℕ)
    → slice_cmp nat_cmp (map (λ column. flag_byte (is_nonzero column)) some) (map (λ column. flag_byte (is_nonzero column)) other)
    ≡ slice_cmp nat_cmp (flags_of some) (flags_of other)
flags_at_once some other = sym (ap₂ (slice_cmp nat_cmp) (map-map flag_byte is_nonzero some) (map-map flag_byte is_nonzero other))

is_eq-then : (first second : Ordering) → is_eq (ordering_then first second) ≡ (is_eq first && is_eq second)
is_eq-then Less second = refl
is_eq-then Equal second = refl
is_eq-then Greater second = refl

pub alike_decides : (head other : Head) → Decides (is_eq (kind_cmp head other)) (AreAlike head other)
alike_decides head other =
    let names : Bool = bytes_eq head.0 other.0 in
    let flags : Bool = bytes_eq (flags_of head.1) (flags_of other.1) in
    let parts : is_eq (kind_cmp head other) ≡ (names && flags) =
    is_eq-then (slice_cmp nat_cmp head.0 other.0) (slice_cmp nat_cmp (flags_of head.1) (flags_of other.1))
    ∙ rw (is_eq-slice_cmp head.0 other.0, is_eq-slice_cmp (flags_of head.1) (flags_of other.1)) refl in
    let tells : is_eq (kind_cmp head other) ≡ true → AreAlike head other =
    λ e. let told = both names flags (sym parts ∙ e) in
    ((bytes_eq-Decides head.0 other.0).0 told.0, same_marks head.1 other.1 ((bytes_eq-Decides (flags_of head.1) (flags_of other.1)).0 told.1)) in
    let told : AreAlike head other → is_eq (kind_cmp head other) ≡ true =
    λ is. let name : names ≡ true = (bytes_eq-Decides head.0 other.0).1 is.0 in
    let flag : flags ≡ true = (bytes_eq-Decides (flags_of head.1) (flags_of other.1)).1 (ap (λ (marks : List Bool). map flag_byte marks) is.1) in
    parts ∙ ap (λ (test : Bool). test && flags) name ∙ flag in
    (tells, told)

pub kind_total : IsTotalOrder kind_cmp
kind_total = then_total (on_total (λ (head : Head). head.0) nat_list_cmp_total) (on_total (λ (head : Head). flags_of head.1) nat_list_cmp_total)

equal_from_is_eq : (o : Ordering) → is_eq o ≡ true → o ≡ Equal
equal_from_is_eq Less e = absurd cc
equal_from_is_eq Equal e = refl
equal_from_is_eq Greater e = absurd cc

pub differ_where_alike : (head other : Head) (test : Bool) → is_eq (kind_cmp head other) ≡ true → test ≡ not (bytes_eq head.1 other.1)
    → IsTrue test ↔ DifferInOrder head other
differ_where_alike head other test alike is =
    let columns = bytes_eq-Decides head.1 other.1 in
    let tells : test ≡ true → DifferInOrder head other =
    λ t. ((alike_decides head other).0 alike, λ same. (let e : bytes_eq head.1 other.1 ≡ true = columns.1 same in let f : test ≡ false = is ∙ ap not e in cc)) in
    let told : DifferInOrder head other → test ≡ true =
    λ differ. is ∙ ap not (false_from_ne_true (bytes_eq head.1 other.1) (λ e. differ.1 (columns.0 e))) in
    (tells, told)

pub alike_where_differ : (head other : Head) (test : Bool) → test ≡ is_eq (kind_cmp head other) → test ≡ false → IsTrue test ↔ DifferInOrder head other
alike_where_differ head other test is apart =
    let told : DifferInOrder head other → test ≡ true = λ differ. is ∙ (alike_decides head other).1 differ.0 in
    (λ t. (let t' : test ≡ true = t in absurd cc), told)

alike_equal : (head other : Head) → AreAlike head other → kind_cmp head other ≡ Equal
alike_equal head other alike = equal_from_is_eq _ ((alike_decides head other).1 alike)

equal_alike : (head other : Head) → kind_cmp head other ≡ Equal → AreAlike head other
equal_alike head other equal = (alike_decides head other).0 (ap is_eq equal)

-- ---- headers in order

abbrev pub kind_below : Header → Header → Bool
kind_below header other = is_lt (kind_cmp (head_of header) (head_of other))

neither_below : (head other : Head) → is_lt (kind_cmp head other) ≡ false → is_lt (kind_cmp other head) ≡ false → kind_cmp head other ≡ Equal
neither_below head other not_less not_more =
    let turned = kind_total.antisymm other head in
    let split : (o : Ordering) → kind_cmp head other ≡ o → kind_cmp head other ≡ Equal = elim [
      | Less ↦ λ e. (let s : is_lt (kind_cmp head other) ≡ true = ap is_lt e in cc)
      | Equal ↦ λ e. e
      | Greater ↦ λ e. (let t : kind_cmp other head ≡ Less = turned ∙ ap ordering_reverse e in let s : is_lt (kind_cmp other head) ≡ true = ap is_lt t in cc)
    ] in
    split (kind_cmp head other) refl

-- two headers of one table with the same key columns have the same column bytes
abbrev pub Agree : Header → Header → Type 0
Agree header other = AreAlike (head_of header) (head_of other) → header.marks.now ≡ other.marks.now

pub agree_if_not : (headers : List Header) (i j : ℕ) (d e : Header) → i < length headers → j < length headers → (test : Bool)
    → IsTrue test ↔ DifferInOrder (head_of (get_or headers i d)) (head_of (get_or headers j d)) → test ≡ false
    → Agree (get_or headers i e) (get_or headers j e)
agree_if_not headers i j d e in_i in_j test told apart =
    let here : get_or headers i d ≡ get_or headers i e = get_or_default headers i d e in_i in
    let there : get_or headers j d ≡ get_or headers j e = get_or_default headers j d e in_j in
    let one : Agree (get_or headers i d) (get_or headers j d) = λ alike.
    let columns = bytes_eq-Decides (get_or headers i d).marks.now (get_or headers j d).marks.now in
    columns.0 (true_from_ne_false _ (λ e. (let t : test ≡ true = told.1 (alike, λ same. (let s : bytes_eq (get_or headers i d).marks.now (get_or headers j d).marks.now ≡ true = columns.1 same in cc)) in cc))) in
    subst (λ (header : Header). Agree header (get_or headers j e)) here (subst (λ (header : Header). Agree (get_or headers i d) header) there one)

-- of headers in order, whose neighbours agree, any two do
far : (headers : List Header) → IsSortedBy kind_below headers → NeighboursAgree headers
    → (i j n : ℕ) (d : Header) → j ≡ i + n → j < length headers → Agree (get_or headers i d) (get_or headers j d)
far headers up agree i j zero d is less alike =
    let same : i ≡ j = omega (arith, is) in
    ap (λ (k : ℕ). (get_or headers k d).marks.now) same
far headers up agree i j (suc n) d is less alike =
    let at : ℕ = i + n in
    let here : j ≡ at + 1 = omega (arith, is) in
    let first : Head = head_of (get_or headers i d) in
    let before : Head = head_of (get_or headers at d) in
    let last : Head = head_of (get_or headers (at + 1) d) in
    let behind : at + 1 < length headers = omega (arith, here, less) in
    let reached : first.0 ≡ last.0 × (marks_of first.1 ≡ marks_of last.1) = subst (λ (k : ℕ). AreAlike first (head_of (get_or headers k d))) here alike in
    let not_before : is_lt (kind_cmp before first) ≡ false = sorted_far kind_below (ranks_by kind_total head_of) headers up i at d (omega arith) (omega (arith, behind)) in
    let not_behind : is_lt (kind_cmp last before) ≡ false = up at d (omega arith) behind in
    let equal : kind_cmp first last ≡ Equal = alike_equal first last reached in
    let same : kind_cmp first before ≡ Equal = neither_below first before (ap is_lt (kind_total.congr first last before equal) ∙ not_behind) not_before in
    let next : kind_cmp before last ≡ Equal = sym (kind_total.congr first before last same) ∙ equal in
    far headers up agree i at n d refl (omega (arith, behind)) (equal_alike first before same)
    ∙ agree at d behind (equal_alike before last next)
    ∙ ap (λ (k : ℕ). (get_or headers k d).marks.now) (sym here)

any_two : (headers : List Header) → IsSortedBy kind_below headers → NeighboursAgree headers
    → (i j : ℕ) (d : Header) → i < length headers → j < length headers → Agree (get_or headers i d) (get_or headers j d)
any_two headers up agree i j d in_i in_j alike =
    elim (cases_lt i j) [
      | inl below ↦ far headers up agree i j (j - i) d (omega (arith, below)) in_j alike
      | inr above ↦ sym (far headers up agree j i (i - j) d (omega (arith, above)) in_i (sym alike.0, sym alike.1))
    ]

in_order : (headers : List Header) → IsSortedBy kind_below headers → NeighboursAgree headers → All (λ header. All (Agree header) headers) headers
in_order headers up agree i d in_i j e in_j =
    subst (λ (other : Header). Agree (get_or headers i d) other) (get_or_default headers j d e in_j) (any_two headers up agree i j d in_i in_j)

-- a header stands among what is behind them
pub stands : (headers : List Header) (at : ℕ) (d : Header) → at < length headers → Contains (heads_behind headers) (head_of (get_or headers at d))
stands headers at d less =
    let all : at < length (map head_of headers) = rw (length-map headers head_of) less in
    (at, all, get_or-map head_of headers at d (head_of (get_or headers at d)) less)

one_order : (headers sorted : List Header) → IsPermutation headers sorted → IsSortedBy kind_below sorted → NeighboursAgree sorted → HaveOneOrder (heads_behind headers)
one_order headers sorted moved up agree =
    let back = IsPermutation-sym headers sorted moved in
    let all : All (λ header. All (Agree header) headers) headers =
    All-permutation (λ header. All (Agree header) headers) sorted headers back (λ i d in_i. All-permutation (Agree (get_or sorted i d)) sorted headers back (in_order sorted up agree i d in_i)) in
    All-map (λ head. All (λ other. AreAlike head other → head.1 ≡ other.1) (heads_behind headers)) head_of headers (λ i d in_i.
    All-map (λ other. AreAlike (head_of (get_or headers i d)) other → (get_or headers i d).marks.now ≡ other.1) head_of headers (all i d in_i))

two_orders : (headers sorted : List Header) → IsPermutation headers sorted → HasTwoOrders (heads_behind sorted) → HasTwoOrders (heads_behind headers)
two_orders headers sorted moved two =
    let back = IsPermutation-map head_of sorted headers (IsPermutation-sym headers sorted moved) in
    let moves : (head : Head) → Contains (heads_behind sorted) head → Contains (heads_behind headers) head = λ head. Contains-permutation (heads_behind sorted) (heads_behind headers) head back in
    (two.0, two.1, moves two.0 two.2, moves two.1 two.3, two.4, two.5)

-- what a sort and a look at neighbours tell
pub told : (headers sorted : List Header) (test : Bool) → IsPermutation headers sorted → IsSortedBy kind_below sorted
    → MatchBool test (NeighboursAgree sorted) (HasTwoOrders (heads_behind sorted))
    → MatchBool test (HaveOneOrder (heads_behind headers)) (HasTwoOrders (heads_behind headers))
told headers sorted true moved up agree = one_order headers sorted moved up agree
told headers sorted false moved up two = two_orders headers sorted moved two

-- ---- the first header of each name

abbrev pub found : BTreeMap (Bor (List ℕ)) (Bor (List ℕ)) → List ℕ → Option (Bor (List ℕ))
found columns name = get_by (λ key. slice_cmp nat_cmp name key.now) columns

columns_behind : (name other : List ℕ) (heads : List Head) (head : Head)
    → columns_of name other (heads ++ head ∷ []) ≡ columns_of name (cond (bytes_eq head.0 name) head.1 other) heads
unfolding columns_of
columns_behind name other [] head = refl
columns_behind name other (first ∷ heads) head =
    let rest = columns_behind name other heads head in
    let split : (test : Bool) → bytes_eq first.0 name ≡ test → columns_of name other (first ∷ (heads ++ head ∷ [])) ≡ columns_of name (cond (bytes_eq head.0 name) head.1 other) (first ∷ heads) =
    elim [
      | true ↦ λ e. rw e refl
      | false ↦ λ e. rw e rest
    ] in
    split (bytes_eq first.0 name) refl

pub none_yet : (columns : BTreeMap (Bor (List ℕ)) (Bor (List ℕ))) → IsEmpty columns → FirstColumns [] columns
unfolding columns_of
none_yet columns empty name other =
    ap (λ (entries : List (Bor (List ℕ) × Bor (List ℕ))). option_map_or (λ (found : Bor (List ℕ)). found.now) (lookup (is_at (λ (key : Bor (List ℕ)). slice_cmp nat_cmp name key.now)) entries) other) (sym empty)

in_either : (marks : Option (Bor (List ℕ))) (bytes other : List ℕ) (test : Bool) → (test ≡ true → is_some marks ≡ true)
    → option_map_or (λ (found : Bor (List ℕ)). found.now) marks (cond test bytes other) ≡ option_map_or (λ (found : Bor (List ℕ)). found.now) marks other
in_either (Some marks) bytes other test known = refl
in_either None bytes other true known = (let e : false ≡ true = known refl in absurd cc)
in_either None bytes other false known = refl

-- a header of a name that has its columns changes nothing
known : (heads : List Head) (head : Head) (columns : BTreeMap (Bor (List ℕ)) (Bor (List ℕ)))
    → FirstColumns heads columns → is_some (found columns head.0) ≡ true → FirstColumns (heads ++ head ∷ []) columns
known heads head columns first some name other =
    columns_behind name other heads head ∙ first name (cond (bytes_eq head.0 name) head.1 other)
    ∙ in_either (found columns name) head.1 other (bytes_eq head.0 name) (λ e. ap (λ (bytes : List ℕ). is_some (found columns bytes)) (sym ((bytes_eq-Decides head.0 name).0 e)) ∙ some)

or_new : (marks : Option (Bor (List ℕ))) (new : Bor (List ℕ)) (bytes other : List ℕ) (test : Bool) → new.now ≡ bytes → (test ≡ true → is_some marks ≡ false)
    → option_map_or (λ (found : Bor (List ℕ)). found.now) marks (cond test bytes other)
    ≡ option_map_or (λ (found : Bor (List ℕ)). found.now) (cond test (Some new) marks) other
or_new (Some marks) new bytes other true is none = (let e : true ≡ false = none refl in absurd cc)
or_new None new bytes other true is none = sym is
or_new marks new bytes other false is none = refl

-- one of a new name brings that name's columns
brought : (heads : List Head) (head : Head) (columns more : BTreeMap (Bor (List ℕ)) (Bor (List ℕ))) (marks : Bor (List ℕ))
    → FirstColumns heads columns → is_some (found columns head.0) ≡ false → marks.now ≡ head.1
    → ((name : List ℕ) → found more name ≡ update bytes_eq (found columns) head.0 (Some marks) name)
    → FirstColumns (heads ++ head ∷ []) more
brought heads head columns more marks first none is updated name other =
    columns_behind name other heads head ∙ first name (cond (bytes_eq head.0 name) head.1 other)
    ∙ or_new (found columns name) marks head.1 other (bytes_eq head.0 name) is (λ e. ap (λ (bytes : List ℕ). is_some (found columns bytes)) (sym ((bytes_eq-Decides head.0 name).0 e)) ∙ none)
    ∙ ap (λ (one : Option (Bor (List ℕ))). option_map_or (λ (found : Bor (List ℕ)). found.now) one other) (sym (updated name))

behind_more : (headers : List Header) (at : ℕ) (d : Header) → at < length headers
    → heads_behind (take (at + 1) headers) ≡ heads_behind (take at headers) ++ head_of (get_or headers at d) ∷ []
behind_more headers at d less =
    ap heads_behind (take_more headers at d less) ∙ map-append head_of (take at headers) (get_or headers at d ∷ [])

-- the same of the next header
pub known_next : (headers : List Header) (at : ℕ) (d : Header) (columns : BTreeMap (Bor (List ℕ)) (Bor (List ℕ)))
    → at < length headers → FirstColumns (heads_behind (take at headers)) columns
    → is_some (found columns (get_or headers at d).name.now) ≡ true
    → FirstColumns (heads_behind (take (at + 1) headers)) columns
known_next headers at d columns less first some =
    rw (behind_more headers at d less) (known (heads_behind (take at headers)) (head_of (get_or headers at d)) columns first some)

pub brought_next : (headers : List Header) (at : ℕ) (d : Header) (columns more : BTreeMap (Bor (List ℕ)) (Bor (List ℕ)))
    → at < length headers → FirstColumns (heads_behind (take at headers)) columns
    → is_some (found columns (get_or headers at d).name.now) ≡ false
    → ((name : List ℕ) → found more name ≡ update bytes_eq (found columns) (get_or headers at d).name.now (Some (get_or headers at d).marks) name)
    → FirstColumns (heads_behind (take (at + 1) headers)) more
brought_next headers at d columns more less first none updated =
    rw (behind_more headers at d less) (brought (heads_behind (take at headers)) (head_of (get_or headers at d)) columns more (get_or headers at d).marks first none refl updated)

-- a header with what a look-up found, or else with these, is the one of the first header's column bytes
pub first_put : (columns : BTreeMap (Bor (List ℕ)) (Bor (List ℕ))) (name read other old new : List ℕ) (marks : Option (Bor (List ℕ)))
    → read ≡ name
    → marks ≡ found columns read
    → new ≡ old ++ header_spelling (option_map_or (λ (bytes : Bor (List ℕ)). bytes.now) marks other) read
    → (heads : List Head) → FirstColumns heads columns → new ≡ old ++ header_spelling (columns_of name other heads) name
first_put columns name read other old new marks same is put heads first =
    let bytes : option_map_or (λ (bytes : Bor (List ℕ)). bytes.now) marks other ≡ columns_of read other heads =
    ap (λ (one : Option (Bor (List ℕ))). option_map_or (λ (bytes : Bor (List ℕ)). bytes.now) one other) is ∙ sym (first read other) in
    put ∙ ap (λ (columns : List ℕ). old ++ header_spelling columns read) bytes
    ∙ ap (λ (name : List ℕ). old ++ header_spelling (columns_of name other heads) name) same
