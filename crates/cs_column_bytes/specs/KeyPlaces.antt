-- Changesets with the column bytes that SQLite wrote: each key column's place in the PRIMARY KEY (SQLite's "changeset
-- format"). SQLite applies a group only to a table with these bytes.
use Rattle.std.specs.Prelude.{◌≡◌, ◌≢◌, ℕ, List, [], ◌∷◌, map, All, Contains, if◌then◌else◌}
use Rattle.std.specs.Str.{bytes_eq}
use Rattle.cs_change.specs.Spelling.{changeset_spelling, flag_byte, marks_of}
use Rattle.cs_change.specs.declared.group.Group.{Group}
use Rattle.cs_normal.specs.declared.normal.TableChanges.{TableChanges}
use Rattle.cs_blob.specs.declared.blob.BlobGroup.{BlobGroup}

-- a header: a table's name, and its column bytes
abbrev pub Head : Type 0
Head = List ℕ × List ℕ

-- the headers of a changeset as read, and of a rebase blob, in order
abbrev pub heads_of : List Group → List Head
heads_of groups = map (λ group. (group.name, group.marks)) groups

abbrev pub blob_heads_of : List BlobGroup → List Head
blob_heads_of groups = map (λ group. (group.name, group.marks)) groups

-- the column bytes of the first header of this name; where there is none, these
unfoldable pub columns_of : List ℕ → List ℕ → List Head → List ℕ
columns_of name other [] = other
columns_of name other (head ∷ heads) = if bytes_eq head.0 name then head.1 else columns_of name other heads

-- the group of a table, with the column bytes of its first header; without one, 1 and 0 as in the normal form
abbrev pub group_for_sqlite : List Head → TableChanges → Group
group_for_sqlite heads table = record {
  marks = columns_of table.name (map flag_byte table.marks) heads;
  name = table.name;
  changes = map (λ keyed. keyed.1) table.changes;
}

-- a changeset in normal form, but with those column bytes
abbrev pub for_sqlite : List Head → List TableChanges → List Group
for_sqlite heads tables = map (group_for_sqlite heads) tables

abbrev pub sqlite_spelling : List Head → List TableChanges → List ℕ
sqlite_spelling heads tables = changeset_spelling (for_sqlite heads tables)

-- the same table and key columns
abbrev pub AreAlike : Head → Head → Type 0
AreAlike head other = (head.0 ≡ other.0) × (marks_of head.1 ≡ marks_of other.1)

-- headers of one table with the same key columns have the same column bytes
abbrev pub HaveOneOrder : List Head → Type 0
HaveOneOrder heads = All (λ head. All (λ other. AreAlike head other → head.1 ≡ other.1) heads) heads

-- two of them have not: the key columns have two orders
abbrev pub HasTwoOrders : List Head → Type 0
HasTwoOrders heads =
    (head : Head) × (other : Head) × Contains heads head × Contains heads other × AreAlike head other × (head.1 ≢ other.1)
