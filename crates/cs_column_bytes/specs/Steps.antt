-- What the code holds: headers where they stand, as contracts see them, and what is found of them.
use Rattle.std.specs.Prelude.{◌≢◌, ◌≡◌, ℕ, List, length, map}
use Rattle.std.specs.Borrow.{Bor}
use Rattle.std.specs.BTreeMap.{BTreeMap, get_by}
use Rattle.std.specs.Cmp.Lexicographic.{slice_cmp}
use Rattle.std.specs.List.{AllAdjacentBelow}
use Rattle.std.specs.Option.{option_map_or}
use Rattle.std.specs.Ordering.{nat_cmp, on, then_cmp}
use Rattle.std.specs.declared.cmp.Ordering.{Ordering}
use Rattle.cs_change.specs.Spelling.{flag_byte, marks_of}
use Rattle.cs_column_bytes.specs.declared.headers.Header.{Header}
use Rattle.cs_column_bytes.specs.KeyPlaces.{AreAlike, Head, columns_of}

abbrev pub head_of : Header → Head
head_of header = (header.name.now, header.marks.now)

abbrev pub heads_behind : List Header → List Head
heads_behind headers = map head_of headers

-- a map from each name to the column bytes of its first header
abbrev pub FirstColumns : List Head → BTreeMap (Bor (List ℕ)) (Bor (List ℕ)) → Type 0
FirstColumns heads columns =
    (name other : List ℕ)
    → columns_of name other heads
    ≡ option_map_or (λ found. found.now) (get_by (λ key. slice_cmp nat_cmp name key.now) columns) other

-- column bytes with 1 for each key column
abbrev pub flags_of : List ℕ → List ℕ
flags_of columns = map flag_byte (marks_of columns)

-- by the table's name, and then by which columns are key columns
abbrev pub kind_cmp : Head → Head → Ordering
kind_cmp = then_cmp (on (λ head. head.0) (slice_cmp nat_cmp)) (on (λ head. flags_of head.1) (slice_cmp nat_cmp))

-- the same table and key columns, and other column bytes
abbrev pub DifferInOrder : Head → Head → Type 0
DifferInOrder head other = AreAlike head other × (head.1 ≢ other.1)

-- neighbours of the same table and key columns have the same column bytes
abbrev pub NeighboursAgree : List Header → Type 0
NeighboursAgree headers =
    AllAdjacentBelow (λ header next. AreAlike (head_of header) (head_of next) → header.marks.now ≡ next.marks.now)
    headers (length headers)
