-- A value that is kept, and whether what is held once it is moved shows the replica.
use Rattle.std.proofs.Common.{◌≡◌, ◌≢◌, ◌∙◌, inl, inr, ℕ, true, false, List, Option, Some, None, refl, sym, ap, subst}
use Rattle.std.specs.Prelude.{is_some, IsUtf8}
use Rattle.std.specs.FinMap.{empty_of_len, get, get-empty, get-remove}
use Rattle.std.specs.List.{AllByRecursion}
use Rattle.std.proofs.lemmas.Cmp.{nat_list_cmp_total}
use Rattle.cs_value.specs.Facts.{by_test}
use Rattle.cs_order.specs.Order.{by_bytes, same_bytes}
use Rattle.cs_value.specs.Catalog.{AreTables}
use Rattle.cs_value.specs.declared.catalog.TableDef.{TableDef}
use Rattle.cs_normal.specs.declared.normal.TableChanges.{TableChanges}
use Rattle.cs_apply.specs.Spots.{key_is}
use Rattle.cs_store.specs.Contents.{Bodies, Contents, meta_value, name_text, nothing, place_cmp}
use Rattle.cs_store.specs.Whole.{IsName, IsWhole}
use Rattle.cs_store.specs.Written.{after_batch}
use Rattle.cs_store.specs.declared.batch.Batch.{Batch}
use Rattle.cs_store.specs.declared.names.MetaName.TheVariants.{Id, Pending}
use Rattle.cs_pending.specs.declared.position.position.Position.{Position}
use Rattle.cs_opening.specs.copying.Copied.{HoldsRowsAlone}
use Rattle.cs_opening.specs.Laws.{IsOfContents, NoFaultWhereOpened, ShownIsWhole}
use Rattle.cs_opening.specs.Opens.{IsOpenFault, IsReplicaAt, StandsAt}
use Rattle.cs_opening.specs.declared.fault.OpenFault.{OpenFault}
use Rattle.cs_opening.specs.declared.fault.OpenFault.TheVariants.{Memory, Damaged, Device, Mismatch}
use Rattle.cs_opening.specs.moving.Moved.{IsStoreFault, KeepsValue, NeverMoves, moved}
use Rattle.cs_opening.specs.moving.Steps.{IsKeptValue, IsPlan}

some_value : {A : Type 0} (o : Option A) (x : A) → o ≡ Some x → is_some o ≡ true
some_value o x e = ap is_some e

is_none : {A : Type 0} (o : Option A) → is_some o ≡ true → o ≡ None → ⊥
is_none o some e = let no : false ≡ true = sym (ap is_some e) ∙ some in cc

module _ (tables : List TableDef) (id : ℕ) (old : Contents) where
  -- the id stays
  id_stays : (changes : List TableChanges) → meta_value (moved tables changes old) Id ≡ meta_value old Id
  id_stays changes = get-remove nat_list_cmp_total old.meta (name_text Pending) (name_text Id)

  pub kept : (changes : List TableChanges) (position : Position) → KeepsValue tables old changes → StandsAt tables id (moved tables changes old) position → IsKeptValue tables old changes
  kept changes position keeps stands = record {
    id = some_value (meta_value old Id) _ (sym (id_stays changes) ∙ stands.shows.1.values Id);
    bytes = keeps.bytes;
    there = keeps.there;
    value = keeps.value;
  }

  -- there is something where there is an id
  some_there : (changes : List TableChanges) → IsKeptValue tables old changes → moved tables changes old ≢ nothing
  some_there changes is none =
      is_none (meta_value old Id) is.id (sym (id_stays changes) ∙ ap (λ (c : Contents). meta_value c Id) none ∙ get-empty by_bytes (name_text Id))

  -- a name of a value that isn't moved
  named : (changes : List TableChanges) → IsWhole tables (moved tables changes old) → (name value : List ℕ) → get old.meta name ≡ Some value → IsName name
  named changes whole name value e =
      by_test (same_bytes name (name_text Pending)) _ (λ t. (Pending, key_is name (name_text Pending) t))
      (λ t. whole.names name value (rw t at (get-remove nat_list_cmp_total old.meta (name_text Pending) name) ∙ e))

  pub holds_alone : ShownIsWhole → AreTables tables → (changes : List TableChanges) (position : Position) → KeepsValue tables old changes → StandsAt tables id (moved tables changes old) position → HoldsRowsAlone tables old
  holds_alone law are changes position keeps stands =
      let whole = law tables position (moved tables changes old) are stands.shows in
      record {
        whole = record {
          present = whole.present;
          rows = whole.rows;
          pending = λ place body e. absurd (let no = sym e ∙ ap (λ (bodies : Bodies). get bodies place) keeps.alone ∙ get-empty place_cmp place in cc);
          entries = whole.entries;
          names = named changes whole;
        };
        pending = keeps.alone;
        log = empty_of_len old.log stands.shows.1.alone.log;
      }

  pub planned : (changes : List TableChanges) (position : Position) (batch : Batch) (held new : Contents) → IsKeptValue tables old changes → HoldsRowsAlone tables old → ((contents : Contents) → after_batch batch contents ≡ moved tables changes contents)
      → held ≡ after_batch batch old → IsReplicaAt tables id held new position → IsPlan tables id old position batch
  planned changes position batch held new is alone moves made (inl (none, first, laid)) =
      absurd (some_there changes is (sym (moves old) ∙ sym made ∙ none))
  planned changes position batch held new is alone moves made (inr (some, same, stands)) = record {
    changes = changes;
    keeps = record { bytes = is.bytes; there = is.there; value = is.value; alone = alone.pending };
    moves = moves old;
    stands = subst (λ (left : Contents). StandsAt tables id left position) (same ∙ made ∙ moves old) stands;
  }

  pub never : NoFaultWhereOpened → AreTables tables → AllByRecursion (λ (table : TableDef). IsUtf8 table.name) tables
      → (changes : List TableChanges) (position : Position) (batch : Batch) (held : Contents) → IsKeptValue tables old changes → ((contents : Contents) → after_batch batch contents ≡ moved tables changes contents)
      → held ≡ after_batch batch old → ((fault : OpenFault) × IsOfContents fault × IsOpenFault tables id held fault) → StandsAt tables id (moved tables changes old) position → ⊥
  never law are names changes position batch held is moves made (fault, of, told) stands =
      law tables id (moved tables changes old) (moved tables changes old) position fault are names (inr (some_there changes is, refl, stands)) of
      (subst (λ (left : Contents). IsOpenFault tables id left fault) (made ∙ moves old) told)

pub one_read : (some other : List TableChanges) → ◌≡◌ {A = Option (List TableChanges)} (Some some) (Some other) → some ≡ other
one_read some other e = cc

-- what is told of contents as they are, where no value that is moved mends them
pub store_fault : (tables : List TableDef) (id : ℕ) (old : Contents) → NeverMoves tables id old → (fault : OpenFault) → IsOpenFault tables id old fault → IsStoreFault tables id old fault
store_fault tables id old never Memory told = tt
store_fault tables id old never Damaged told = (told, never)
store_fault tables id old never Device told = tt
store_fault tables id old never Mismatch told = told
