-- What a commit shows that leads from one position to another.
use Rattle.std.proofs.Common.{◌≡◌, ◌≢◌, ◌≤◌, ◌⊎◌, inl, inr, ℕ, true, List, length, Option, refl, sym, ap, subst, ◌∙◌}
use Rattle.std.specs.FinMap.{len}
use Rattle.cs_value.specs.Facts.{by_test}
use Rattle.cs_order.specs.Order.{same_bytes}
use Rattle.cs_pending.specs.Spots.{key_is, key_refl}
use Rattle.cs_store.specs.Laws.{KeepsOtherNames, KeepsOtherPending, KeepsOtherRows, WritesMeta, value_after}
use Rattle.cs_store.specs.Whole.{IsName}
use Rattle.cs_store.specs.Written.{appended, optional_entry}
use Rattle.cs_store.specs.declared.batch.StoredEntry.{StoredEntry}
use Rattle.cs_store.specs.declared.names.MetaName.{MetaName}
use Rattle.cs_store.specs.declared.names.MetaName.TheVariants.{Id, Version, Number, Flight, Pending, Catalog}
use Rattle.cs_pending.specs.Steps.{no_place}
use Rattle.cs_pending.specs.Shows.{IsElsewhere}
use Rattle.cs_pending.specs.position.Laws.{CommitShows, CommitShowsOthers}
use Rattle.cs_store.specs.Contents.{StorePlace, name_text}
use Rattle.cs_value.specs.declared.catalog.TableDef.{TableDef}

-- the bytes are the text of this name, or they aren't
name_here : (name : MetaName) (text : List ℕ) → IsName text ⊎ (name_text name ≢ text)
name_here name text =
    by_test (same_bytes (name_text name) text) _ (λ t. inl (name, sym (key_is (name_text name) text t)))
    (λ t. inr (λ e. let same : same_bytes (name_text name) text ≡ true = subst (λ (x : List ℕ). same_bytes (name_text name) x ≡ true) e (key_refl (name_text name)) in cc))

none_of : (text : List ℕ) → name_text Id ≢ text → name_text Version ≢ text → name_text Number ≢ text → name_text Flight ≢ text → name_text Pending ≢ text → name_text Catalog ≢ text
    → (name : MetaName) → name_text name ≢ text
none_of text a b c d e f Id = a
none_of text a b c d e f Version = b
none_of text a b c d e f Number = c
none_of text a b c d e f Flight = d
none_of text a b c d e f Pending = e
none_of text a b c d e f Catalog = f

or_later : (text : List ℕ) (P : Type 0) → IsName text ⊎ P → (P → IsName text ⊎ ((name : MetaName) → name_text name ≢ text)) → IsName text ⊎ ((name : MetaName) → name_text name ≢ text)
or_later text P (inl is) more = inl is
or_later text P (inr p) more = more p

-- the bytes are the text of a name, or of none
name_or_none : (text : List ℕ) → IsName text ⊎ ((name : MetaName) → name_text name ≢ text)
name_or_none text =
    or_later text _ (name_here Id text) (λ a. or_later text _ (name_here Version text) (λ b. or_later text _ (name_here Number text) (λ c.
    or_later text _ (name_here Flight text) (λ d. or_later text _ (name_here Pending text) (λ e. or_later text _ (name_here Catalog text) (λ f.
    inr (none_of text a b c d e f)))))))

if_kept : (text : List ℕ) → IsName text ⊎ ((name : MetaName) → name_text name ≢ text) → (((name : MetaName) → name_text name ≢ text) → IsName text) → IsName text
if_kept text (inl is) kept = is
if_kept text (inr never) kept = kept never

module _ (tables others : List TableDef) (same : length others ≡ length tables) (place : StorePlace) where
  -- a place elsewhere for the ones is elsewhere for the others
  elsewhere_too : IsElsewhere others place → IsElsewhere tables place
  elsewhere_too away number is = subst (λ (n : ℕ). n ≤ number) same (away number is)

pub commit_shows_others : WritesMeta → KeepsOtherRows → KeepsOtherPending → KeepsOtherNames → CommitShowsOthers
commit_shows_others writes other_rows other_pending other_names tables others contents batch old new seen view same was within_rows within_pending log set shows under_way counted numbered = record {
  rows = shows;
  values = λ name. writes batch contents name ∙ ap (value_after batch.meta.items name) (was.values name) ∙ set name;
  alone = record {
    rows = λ place elsewhere. other_rows batch contents place (no_place others place batch.rows elsewhere within_rows) ∙ was.alone.rows place (elsewhere_too tables others same place elsewhere);
    pending = λ place elsewhere. other_pending batch contents place (no_place others place batch.pending elsewhere within_pending) ∙ was.alone.pending place (elsewhere_too tables others same place elsewhere);
    log = ap (λ (o : Option StoredEntry). len (appended contents.log (optional_entry o))) log ∙ was.alone.log;
    names = λ text value at. if_kept text (name_or_none text) (λ never. was.alone.names text value (sym (other_names batch contents text never) ∙ at));
  };
  under_way = under_way;
  counted = counted;
  numbered = numbered;
}

pub commit_shows : WritesMeta → KeepsOtherRows → KeepsOtherPending → KeepsOtherNames → CommitShows
commit_shows writes other_rows other_pending other_names tables contents batch old new seen view =
    commit_shows_others writes other_rows other_pending other_names tables tables contents batch old new seen view refl
