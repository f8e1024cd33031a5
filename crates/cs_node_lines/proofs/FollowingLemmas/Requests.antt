-- Lines make one list of requests.
use Rattle.std.proofs.Common.{◌≡◌, ◌∙◌, ◌⊎◌, ◌+◌, ◌<◌, ℕ, List, [], ◌∷◌, ◌++◌, length, take, drop, refl, sym, ap, inl, inr, arith, append_assoc, append-nil, length-append, subst}
use Rattle.std.specs.List.{AllByRecursion}
use Rattle.std.proofs.Math.Nat.{eq-or-lt_of_le}
use Rattle.std.proofs.Math.Seq.{drop-append_seam, take-append_seam}
use Rattle.cs_node_lines.specs.following.Laws.{SomeListOfRequests, OneListOfRequests}
use Rattle.cs_node_lines.specs.following.Requests.{AreRequests, IsPart, IsWhole, follows, joined}

pub joined_more : (requests : List (List (List ℕ))) (request : List (List ℕ)) → joined (requests ++ request ∷ []) ≡ joined requests ++ request
joined_more [] request = append-nil request
joined_more (first ∷ requests) request =
    ap (λ (l : List (List ℕ)). first ++ l) (joined_more requests request) ∙ sym (append_assoc first (joined requests) request)

pub whole_more : (requests : List (List (List ℕ))) (request : List (List ℕ)) → AllByRecursion IsWhole requests → IsWhole request → AllByRecursion IsWhole (requests ++ request ∷ [])
whole_more [] request all whole = (whole, tt)
whole_more (first ∷ requests) request all whole = (all.0, whole_more requests request all.1 whole)

-- ---- one list

-- lists of one length, each with more behind it
same_front : (some other rest more : List (List ℕ)) → length some ≡ length other → some ++ rest ≡ other ++ more → (some ≡ other) × (rest ≡ more)
same_front some other rest more long is = (
  sym (take-append_seam some rest) ∙ (ap (λ (l : List (List ℕ)). take (length some) l) is ∙ (ap (λ (n : ℕ). take n (other ++ more)) long ∙ take-append_seam other more)),
  sym (drop-append_seam some rest) ∙ (ap (λ (l : List (List ℕ)). drop (length some) l) is ∙ (ap (λ (n : ℕ). drop n (other ++ more)) long ∙ drop-append_seam other more)),
)

-- a part isn't a request and more
not_whole : (part request rest : List (List ℕ)) → IsPart part → IsWhole request → part ≡ request ++ rest → ⊥
not_whole part [] rest cut whole is = whole
not_whole [] (first ∷ more) rest cut whole is = absurd (cc)
not_whole (line ∷ lines) (first ∷ more) rest cut whole is =
    let heads : line ≡ first = cc in
    let tails : lines ≡ more ++ rest = cc in
    let there : length lines < follows first = subst (λ (l : List ℕ). length lines < follows l) heads cut in
    let long : length lines ≡ length more + length rest = ap (λ (l : List (List ℕ)). length l) tails ∙ length-append more rest in
    omega (arith, there, whole, long)

lists_once : (some other : List (List (List ℕ))) (part rest : List (List ℕ)) → AllByRecursion IsWhole some → AllByRecursion IsWhole other → IsPart part → IsPart rest
    → joined some ++ part ≡ joined other ++ rest → (some ≡ other) × (part ≡ rest)
lists_once [] [] part rest all each is_part is_rest is = (refl, is)
lists_once [] (request ∷ other) part rest all each is_part is_rest is =
    absurd (not_whole part request (joined other ++ rest) is_part each.0 (is ∙ append_assoc request (joined other) rest))
lists_once (request ∷ some) [] part rest all each is_part is_rest is =
    absurd (not_whole rest request (joined some ++ part) is_rest all.0 (sym is ∙ append_assoc request (joined some) part))
lists_once ([] ∷ some) (request ∷ other) part rest all each is_part is_rest is = absurd all.0
lists_once ((first ∷ more) ∷ some) ([] ∷ other) part rest all each is_part is_rest is = absurd each.0
lists_once ((first ∷ more) ∷ some) ((line ∷ lines) ∷ other) part rest all each is_part is_rest is =
    let both : first ∷ (more ++ (joined some ++ part)) ≡ line ∷ (lines ++ (joined other ++ rest)) =
    sym (append_assoc (first ∷ more) (joined some) part) ∙ (is ∙ append_assoc (line ∷ lines) (joined other) rest) in
    let heads : first ≡ line = cc in
    let tails : more ++ (joined some ++ part) ≡ lines ++ (joined other ++ rest) = cc in
    let long : length more ≡ length lines = all.0 ∙ (ap (λ (l : List ℕ). follows l) heads ∙ sym each.0) in
    let fronts = same_front more lines (joined some ++ part) (joined other ++ rest) long tails in
    let others = lists_once some other part rest all.1 each.1 is_part is_rest fronts.1 in (
      ap (λ (l : List ℕ). (l ∷ more) ∷ some) heads ∙ (ap (λ (l : List (List ℕ)). (line ∷ l) ∷ some) fronts.0 ∙ ap (λ (l : List (List (List ℕ))). (line ∷ lines) ∷ l) others.0),
      others.1,
    )

pub one_list_of_requests : OneListOfRequests
one_list_of_requests lines some other part rest one two = lists_once some other part rest one.1 two.1 one.2 two.2 (sym one.0 ∙ two.0)

-- ---- there is one

-- with a line more a part is whole, or still none
part_on : (part : List (List ℕ)) (line : List ℕ) → IsPart part → IsWhole (part ++ line ∷ []) ⊎ IsPart (part ++ line ∷ [])
part_on [] line cut = eq-or-lt_of_le (omega arith)
part_on (first ∷ more) line cut =
    eq-or-lt_of_le (omega (arith, cut, length-append more (line ∷ [])))

-- of lines from here on
abbrev pub MakeOn : List (List ℕ) → Type 0
MakeOn lines = (requests : List (List (List ℕ))) × (part : List (List ℕ)) × AreRequests lines requests part

requests_on : (lines : List (List ℕ)) (requests : List (List (List ℕ))) (part : List (List ℕ)) → AllByRecursion IsWhole requests → IsPart part → MakeOn ((joined requests ++ part) ++ lines)
requests_on [] requests part all cut = (requests, part, (append-nil (joined requests ++ part), all, cut))
requests_on (line ∷ lines) requests part all cut =
    let now : (joined requests ++ part) ++ line ∷ lines ≡ (joined requests ++ (part ++ line ∷ [])) ++ lines =
    sym (append_assoc (joined requests ++ part) (line ∷ []) lines) ∙ ap (λ (l : List (List ℕ)). l ++ lines) (append_assoc (joined requests) part (line ∷ [])) in
    subst MakeOn (sym now) (elim (part_on part line cut) [
      | inl whole ↦ subst MakeOn (ap (λ (l : List (List ℕ)). l ++ lines) (append-nil (joined (requests ++ (part ++ line ∷ []) ∷ [])) ∙ joined_more requests (part ++ line ∷ [])))
          (requests_on lines (requests ++ (part ++ line ∷ []) ∷ []) [] (whole_more requests (part ++ line ∷ []) all whole) tt)
      | inr still ↦ requests_on lines requests (part ++ line ∷ []) all still
    ])

pub lines_make_requests : SomeListOfRequests
lines_make_requests lines = requests_on lines [] [] tt tt
