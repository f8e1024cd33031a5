-- The tables that a store keeps, and opening by them.
use Rattle.std.proofs.Common.{◌≡◌, ◌∙◌, inl, inr, ℕ, zero, suc, List, [], ◌∷◌, Bool, IsTrue, false, map, replicate, refl, sym, ap, subst, append-nil}
use Rattle.std.specs.Prelude.{◌↔◌, IsUtf8}
use Rattle.std.specs.FinMap.{get-empty}
use Rattle.std.specs.List.{AllByRecursion}
use Rattle.std.proofs.lemmas.Option.{same_Some}
use Rattle.cs_value.specs.Catalog.{AreTables}
use Rattle.cs_value.specs.declared.catalog.TableDef.{TableDef}
use Rattle.cs_order.specs.Order.{by_bytes}
use Rattle.cs_changeset.specs.Laws.{ChangesetLaws}
use Rattle.cs_normal.specs.Laws.{HeadersFit}
use Rattle.cs_store.specs.Contents.{Contents, name_text}
use Rattle.cs_store.specs.declared.names.MetaName.TheVariants as named
use Rattle.cs_opening.specs.Kept.{IsCatalogValue}
use Rattle.cs_opening.specs.Laws.{IsOfContents}
use Rattle.cs_opening.specs.Wider.{IsRefused, KeepsWider, OpensBy}
use Rattle.cs_opening.specs.WiderLaws.{NoneRefusedWhereOpened, NothingByHanded, OneOpened, OneOpensBy, OneRefused, OpenedOrRefused, SomeOpensBy, WiderAgain}
use Rattle.cs_opening.specs.moving.Laws.{NoStoreFaultWhereOpened, OneStoreFault, OneStoreOpening, StoreOpensOrFails}
use Rattle.cs_opening.specs.moving.Moved.{IsStoreFault, IsStoreOpened}
use Rattle.cs_opening.specs.declared.fault.OpenFault.{OpenFault}
use Rattle.cs_opening.specs.declared.fault.OpenFault.TheVariants.{Memory, Damaged, Device, Mismatch}
use Rattle.cs_opening.proofs.Decoded.{groups_of, headers_of, spells_groups}
use Rattle.cs_normal.specs.Headers.{header}

-- ---- by which tables

pub wider_again : WiderAgain
wider_again [] = tt
wider_again (table ∷ tables) = ((refl, (0, sym (append-nil table.key_marks))), wider_again tables)

one_catalog : ChangesetLaws → HeadersFit → (bytes : List ℕ) (some other : List TableDef) → IsCatalogValue bytes some → IsCatalogValue bytes other → some ≡ other
one_catalog changesets headers bytes some other is its =
    let a = spells_groups headers bytes some is in
    let b = spells_groups headers bytes other its in
    let groups : groups_of some ≡ groups_of other = changesets.one (groups_of some) (groups_of other) a.0 b.0 (sym a.1 ∙ b.1) in
    sym (headers_of some) ∙ ap (map header) groups ∙ headers_of other

one_kept : ChangesetLaws → HeadersFit → (handed some other : List TableDef) (contents : Contents) → KeepsWider handed contents some → KeepsWider handed contents other → some ≡ other
one_kept changesets headers handed some other contents is its =
    let same : is.bytes ≡ its.bytes = same_Some is.bytes its.bytes (sym is.there ∙ its.there) in
    one_catalog changesets headers its.bytes some other (subst (λ (bytes : List ℕ). IsCatalogValue bytes some) same is.value) its.value

pub one_opens_by : ChangesetLaws → HeadersFit → OneOpensBy
one_opens_by changesets headers handed some other contents (inl is) (inl its) = one_kept changesets headers handed some other contents is its
one_opens_by changesets headers handed some other contents (inl is) (inr (none, its)) = absurd (none some is)
one_opens_by changesets headers handed some other contents (inr (none, is)) (inl its) = absurd (none other its)
one_opens_by changesets headers handed some other contents (inr (none, is)) (inr (nor, its)) = is ∙ sym its

pub some_opens_by : SomeOpensBy
some_opens_by handed contents never = never handed (inr ((λ tables kept. never tables (inl kept)), refl))

pub nothing_by_handed : NothingByHanded
nothing_by_handed handed tables (inl kept) = absurd (let no = sym kept.there ∙ get-empty by_bytes (name_text named.Catalog) in cc)
nothing_by_handed handed tables (inr (none, is)) = is

-- the tables are a catalog
are_tables : (handed tables : List TableDef) (contents : Contents) → AreTables handed → OpensBy handed contents tables → AreTables tables
are_tables handed tables contents are (inl kept) = kept.value.are
are_tables handed tables contents are (inr (none, is)) = subst AreTables (sym is) are

-- and their names are text
are_named : (handed tables : List TableDef) (contents : Contents) → AllByRecursion (λ (table : TableDef). IsUtf8 table.name) handed → OpensBy handed contents tables → AllByRecursion (λ (table : TableDef). IsUtf8 table.name) tables
are_named handed tables contents names (inl kept) = kept.value.named
are_named handed tables contents names (inr (none, is)) = subst (λ (t : List TableDef). AllByRecursion (λ (table : TableDef). IsUtf8 table.name) t) (sym is) names

-- ---- opening by them

pub one_opened : OneOpensBy → OneStoreOpening → OneOpened
one_opened by one handed some others id old new next position other are (a, is) (b, its) =
    let same : some ≡ others = by handed some others old a b in (
      same,
      one others id old new next position other (are_tables handed others old are b) (subst (λ (t : List TableDef). IsStoreOpened t id old new position) same is) its,
    )

pub refused_by : (handed : List TableDef) (id : ℕ) (old : Contents) (fault : OpenFault) → IsOfContents fault → IsRefused handed id old fault → (tables : List TableDef) × OpensBy handed old tables × IsStoreFault tables id old fault
refused_by handed id old Memory of told = absurd (of.0 refl)
refused_by handed id old Damaged of told = told
refused_by handed id old Device of told = absurd (of.1 refl)
refused_by handed id old Mismatch of told = told

pub one_refused : OneOpensBy → OneStoreFault → OneRefused
one_refused by one handed id old some other s o a b =
    let first = refused_by handed id old some s a in
    let second = refused_by handed id old other o b in
    let same : first.0 ≡ second.0 = by handed first.0 second.0 old first.1 second.1 in
    one second.0 id old some other s o (subst (λ (t : List TableDef). IsStoreFault t id old some) same first.2) second.2

pub none_refused : OneOpensBy → NoStoreFaultWhereOpened → NoneRefusedWhereOpened
none_refused by none handed tables id old new position fault are names (a, is) of told =
    let its = refused_by handed id old fault of told in
    let same : its.0 ≡ tables = by handed its.0 tables old its.1 a in
    none tables id old new position fault (are_tables handed tables old are a) (are_named handed tables old names a) is of (subst (λ (t : List TableDef). IsStoreFault t id old fault) same its.2)

pub refuses : (handed tables : List TableDef) (id : ℕ) (old : Contents) → OpensBy handed old tables → (fault : OpenFault) → IsStoreFault tables id old fault → IsRefused handed id old fault
refuses handed tables id old by Memory told = tt
refuses handed tables id old by Damaged told = (tables, by, told)
refuses handed tables id old by Device told = tt
refuses handed tables id old by Mismatch told = (tables, by, told)

pub opened_or_refused : SomeOpensBy → StoreOpensOrFails → OpenedOrRefused
opened_or_refused some found handed id old range no_position no_fault =
    some handed old (λ tables by.
    found tables id old range (λ new position is. no_position tables new position (by, is)) (λ fault of told. no_fault fault of (refuses handed tables id old by fault told)))

-- ---- marks

-- one more that is none of a key column
pub none_on : (marks more : List Bool) (mark all : Bool) → marks ≡ mark ∷ more → mark ≡ false → IsTrue all ↔ ((count : ℕ) × (more ≡ replicate count false)) → IsTrue all ↔ ((count : ℕ) × (marks ≡ replicate count false))
none_on marks more mark all is off rest = (
  λ t. let n = rest.0 t in (suc n.0, is ∙ ap (λ (b : Bool). b ∷ more) off ∙ ap (λ (l : List Bool). false ∷ l) n.1),
  λ (count, e). of_count count (sym is ∙ e),
)
  where
    of_count : (count : ℕ) → mark ∷ more ≡ replicate count false → IsTrue all
    of_count zero e = absurd (let no = e in cc)
    of_count (suc count) e = rest.1 (count, (let f = e in cc))
