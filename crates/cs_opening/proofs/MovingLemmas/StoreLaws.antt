-- The laws of opening any store: one value, one position or one fault, never both, and never neither.
use Rattle.std.proofs.Common.{◌≡◌, ◌∙◌, inl, inr, ℕ, List, ◌∷◌, Some, refl, sym, ap, subst}
use Rattle.std.specs.FinMap.{get-empty, get-remove}
use Rattle.std.proofs.lemmas.Cmp.{nat_list_cmp_total}
use Rattle.std.proofs.lemmas.Option.{same_Some}
use Rattle.cs_order.specs.Order.{by_bytes}
use Rattle.cs_value.specs.Catalog.{AreTables}
use Rattle.cs_value.specs.declared.catalog.TableDef.{TableDef}
use Rattle.cs_normal.specs.declared.normal.TableChanges.{TableChanges}
use Rattle.cs_store.specs.log.Entry.{changes_of_body}
use Rattle.cs_store.specs.log.Laws.{OneBody}
use Rattle.cs_store.specs.declared.log.body.Body.TheVariants.{Changes}
use Rattle.cs_store.specs.Contents.{Contents, meta_value, name_text}
use Rattle.cs_store.specs.declared.names.MetaName.TheVariants as named
use Rattle.cs_wire.specs.Numbers.{four_bytes}
use Rattle.cs_pending.specs.position.Laws.{OnePosition}
use Rattle.cs_pending.specs.declared.position.position.Position.{Position}
use Rattle.cs_opening.specs.Laws.{IsOfContents, NoFaultWhereOpened, OneOpenFault, OneOpening, OpensOrFails}
use Rattle.cs_opening.specs.Opens.{AreOf, IsOpenFault, IsReplicaAt, StandsAt}
use Rattle.cs_opening.specs.declared.fault.OpenFault.{OpenFault}
use Rattle.cs_opening.specs.declared.fault.OpenFault.TheVariants.{Memory, Damaged, Device, Mismatch}
use Rattle.cs_opening.specs.declared.owning.Owner.TheVariants.{This}
use Rattle.cs_opening.specs.moving.Laws.{NoStoreFaultWhereOpened, OneStoreFault, OneStoreOpening, OneValue, StoreOpensOrFails}
use Rattle.cs_opening.specs.moving.Moved.{IsMovedTo, IsStoreFault, KeepsValue, moved}

-- ---- one value

pub one_value : OneBody → OneValue
one_value law tables contents some other are s o =
    let same : s.bytes ≡ o.bytes = same_Some s.bytes o.bytes (sym s.there ∙ o.there) in
    let bodies : Changes some ≡ Changes other =
    law tables (Changes some) (Changes other) are (s.value.normal, s.value.fits) (o.value.normal, o.value.fits) tt tt
    (ap (λ (bytes : List ℕ). 0 ∷ bytes) (sym s.value.spelled ∙ same ∙ o.value.spelled)) in
    ap changes_of_body bodies

-- ---- one position

-- where a replica is shown, or nothing is held, no value is kept
kept_nowhere : (tables : List TableDef) (id : ℕ) (old new : Contents) (position : Position) (changes : List TableChanges) → IsReplicaAt tables id old new position → KeepsValue tables old changes → ⊥
kept_nowhere tables id old new position changes (inl (none, first, laid)) keeps =
    let no = sym keeps.there ∙ ap (λ (c : Contents). meta_value c named.Pending) none ∙ get-empty by_bytes (name_text named.Pending) in absurd cc
kept_nowhere tables id old new position changes (inr (some, same, stands)) keeps =
    let no = sym keeps.there ∙ ap (λ (c : Contents). meta_value c named.Pending) (sym same) ∙ stands.shows.1.values named.Pending in absurd cc

moved_position : OneBody → OnePosition → (tables : List TableDef) (id : ℕ) (old new next : Contents) (some other : Position) → AreTables tables → IsMovedTo tables id old new some → IsMovedTo tables id old next other → some ≡ other
moved_position body law tables id old new next some other are (changes, keeps, made, stands) (others, keep, done, there) =
    let one = one_value body tables old changes others are keeps keep in
    let same : next ≡ new = done ∙ ap (λ (cs : List TableChanges). moved tables cs old) (sym one) ∙ sym made in
    let here = subst (λ (left : Contents). StandsAt tables id left other) same there in
    (law tables new some other stands.shows.0 here.shows.0 are stands.fits here.fits stands.shows.1 here.shows.1).0

pub one_opening : OneBody → OneOpening → OnePosition → OneStoreOpening
one_opening body law position tables id old new next some other are (inl is) (inl too) = law tables id old new next some other are is too
one_opening body law position tables id old new next some other are (inl is) (inr too) = absurd (kept_nowhere tables id old new some too.0 is too.1)
one_opening body law position tables id old new next some other are (inr is) (inl too) = absurd (kept_nowhere tables id old next other is.0 too is.1)
one_opening body law position tables id old new next some other are (inr is) (inr too) = moved_position body position tables id old new next some other are is too

-- ---- one fault

-- what is told of a store is told of what it holds as it is
as_it_is : (tables : List TableDef) (id : ℕ) (old : Contents) (fault : OpenFault) → IsStoreFault tables id old fault → IsOpenFault tables id old fault
as_it_is tables id old Memory is = is
as_it_is tables id old Damaged (is, never) = is
as_it_is tables id old Device is = is
as_it_is tables id old Mismatch is = is

pub one_fault : OneOpenFault → OneStoreFault
one_fault law tables id old some other s o a b = law tables id old some other s o (as_it_is tables id old some a) (as_it_is tables id old other b)

-- ---- never both

-- where the value is moved, whose store it is stays
moved_this : (tables : List TableDef) (id : ℕ) (old : Contents) (changes : List TableChanges) (position : Position) → StandsAt tables id (moved tables changes old) position → AreOf tables id old This
moved_this tables id old changes position stands = (
  sym (get-remove nat_list_cmp_total old.meta (name_text named.Pending) (name_text named.Id)) ∙ stands.shows.1.values named.Id ∙ ap (λ (n : ℕ). Some (four_bytes n)) stands.of,
  sym (get-remove nat_list_cmp_total old.meta (name_text named.Pending) (name_text named.Catalog)) ∙ stands.shows.1.values named.Catalog,
)

none_moved : (tables : List TableDef) (id : ℕ) (old new : Contents) (position : Position) (fault : OpenFault) → IsMovedTo tables id old new position → IsOfContents fault → IsStoreFault tables id old fault → ⊥
none_moved tables id old new position Memory is of told = of.0 refl
none_moved tables id old new position Device is of told = of.1 refl
none_moved tables id old new position Damaged (changes, keeps, made, stands) of (told, never) =
    never changes position keeps (subst (λ (left : Contents). StandsAt tables id left position) made stands)
none_moved tables id old new position Mismatch (changes, keeps, made, stands) of (some, other) =
    other.2 (moved_this tables id old changes position (subst (λ (left : Contents). StandsAt tables id left position) made stands))

pub none_where_opened : NoFaultWhereOpened → NoStoreFaultWhereOpened
none_where_opened law tables id old new position fault are names (inl is) of told = law tables id old new position fault are names is of (as_it_is tables id old fault told)
none_where_opened law tables id old new position fault are names (inr is) of told = none_moved tables id old new position fault is of told

-- ---- never neither

pub opens_or_fails : OpensOrFails → StoreOpensOrFails
opens_or_fails law tables id old range no_position no_fault = law tables id old range (λ new position is. no_position new position (inl is)) none_told
  where
    none_told : (fault : OpenFault) → IsOfContents fault → IsOpenFault tables id old fault → ⊥
    none_told Memory of told = of.0 refl
    none_told Device of told = of.1 refl
    none_told Damaged of told =
        no_fault Damaged of (told, λ changes position keeps stands. no_position (moved tables changes old) position (inr (changes, keeps, refl, stands)))
    none_told Mismatch of told = no_fault Mismatch of told
