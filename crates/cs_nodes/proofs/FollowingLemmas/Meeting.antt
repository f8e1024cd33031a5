-- Replicas at rest at one version, on lists that are the same up to there.
use Rattle.std.proofs.Common.{◌≡◌, ◌≤◌, ℕ, List, [], take, length, refl, sym, ap, subst, ◌∙◌, arith, length-take}
use Rattle.std.proofs.lemmas.List.{take-take}
use Rattle.cs_value.specs.declared.catalog.TableDef.{TableDef}
use Rattle.cs_store.specs.log.Laws.{EmptyIsLog}
use Rattle.cs_store.specs.log.Log.{IsLog, catalog_of, state_of}
use Rattle.cs_store.specs.declared.log.entry.LogEntry.{LogEntry}
use Rattle.cs_pending.specs.View.{View}
use Rattle.cs_pending.specs.declared.position.position.Position.{Position}
use Rattle.cs_replica.specs.Laws.{EqualAtRest, FirstStands}
use Rattle.cs_replica.specs.Stands.{StandsOn}
use Rattle.cs_nodes.specs.following.Laws.{EqualWhereMet, FreshStands}
use Rattle.cs_nodes.specs.following.Standing.{StandsIn}

none_taken : (known : List LogEntry) → take 0 known ≡ []
none_taken known = refl

pub fresh_stands : EmptyIsLog → FirstStands → FreshStands
fresh_stands empty first tables known position are version flight = record {
  opening = tables;
  of_catalog = are;
  front = subst (λ (l : List LogEntry). IsLog tables l) (sym none) (empty tables);
  catalog = ap (λ (l : List LogEntry). catalog_of tables l) (sym none);
  stands = first known position version flight;
}
  where
    none : take position.version known ≡ []
    none = ap (λ (n : ℕ). take n known) version ∙ none_taken known

on_front : (tables : List TableDef) (known : List LogEntry) (both : ℕ) (position : Position) (view : View) → position.version ≤ both → StandsIn tables known position view → StandsOn (take both known) position view
on_front tables known both position view less s = record {
  within = let w : position.version ≤ length known = s.stands.within in rw length-take (omega (arith, w, less));
  on_tables = λ n k. s.stands.on_tables n k ∙ ap (λ (l : List LogEntry). state_of l n k) (sym (take-take position.version both known less));
}

pub equal_where_met : EqualAtRest → EqualWhereMet
equal_where_met law tables known others both contents more position other view seen same less version rest stood shows sees stands stays =
    let less' : other.version ≤ both = omega (arith, less, version) in
    law tables (take both known) contents more position other view seen shows sees (on_front tables known both position view less stands)
    (subst (λ (l : List LogEntry). StandsOn l other seen) (sym same) (on_front tables others both other seen less' stays)) version rest.0 stood.0 rest.1 stood.1
