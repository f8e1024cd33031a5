-- What is sound has the headline.
use Rattle.std.proofs.Common.{◌≡◌, ◌∙◌, ◌<◌, ℕ, List, [], Option, Some, None, refl, sym, ap, subst, arith}
use Rattle.std.specs.Prelude.{Contains}
use Rattle.cs_value.specs.declared.catalog.TableDef.{TableDef}
use Rattle.cs_value.specs.Key.{Place}
use Rattle.cs_change.specs.Action.{Action, after_any}
use Rattle.cs_change.specs.Laws.{NetTakes}
use Rattle.cs_store.specs.log.Laws.{EmptyIsLog}
use Rattle.cs_store.specs.log.Log.{catalog_at, tables_at}
use Rattle.cs_store.specs.declared.log.body.Body.{Body}
use Rattle.cs_store.specs.declared.log.body.Body.TheVariants.{Changes, Widen}
use Rattle.cs_store.specs.declared.log.entry.LogEntry.{LogEntry}
use Rattle.cs_value.specs.Catalog.{AreTables}
use Rattle.cs_normal.specs.Normal.{normal_spelling}
use Rattle.cs_normal.specs.State.{IsApplied, OneKeyStands, State}
use Rattle.cs_normal.specs.declared.normal.TableChanges.{TableChanges}
use Rattle.cs_pending.specs.Nets.{undo_none}
use Rattle.cs_pending.specs.Shows.{IsSoundOf}
use Rattle.cs_pending.specs.View.{Changed, before, middle}
use Rattle.cs_pending.specs.position.Shows.{ShowsAt, base, flown}
use Rattle.cs_pending.specs.declared.position.position.Position.{Position}
use Rattle.cs_replica.specs.Laws.{EqualAtRest, FirstStands, FlightFits}
use Rattle.cs_hub.specs.declared.judgement.widen.TheConstants.{WIDEN_ORIGIN}
use Rattle.cs_world.specs.Headline.{HasHubsRows, Headline, LeadTo}
use Rattle.cs_world.specs.Laws.{FirstIsSound, IsFirstMember, SoundHasHeadline}
use Rattle.cs_world.specs.Sound.{IsPlaced, IsSound, WasOffered}
use Rattle.cs_world.specs.World.{Member, World, first_world}
use Rattle.cs_world.proofs.Found.{nowhere}

pub record Below : Type 0 where
  pub flight : FlightFits
  pub rest : EqualAtRest
  pub key : OneKeyStands
  pub net : NetTakes

module _ (laws : Below) (limit : ℕ) (w : World) (s : IsSound limit w) where
  -- net changes lead from the rows before them to those behind them
  leads : (tables : List TableDef) (changed : Changed) (after : State) → AreTables tables → IsSoundOf tables changed after → LeadTo tables changed (before changed after) after
  leads tables changed after are sound table key inside =
      let of_key = laws.key tables table key (before changed after table.name key) (after table.name key) (after table.name key) are inside
      (sound.before_state table.name key) (sound.after_state table.name key) (sound.after_state table.name key) in
      ap (λ (a : Option Action). after_any a (before changed after table.name key)) (sound.net_of table key inside)
      ∙ (laws.net table.key_marks of_key.0 (before changed after table.name key) (after table.name key) of_key.1 of_key.2).1

  module _ (r : ℕ) (m : Member) (p : IsPlaced w r m) where
    flight_applied : (flight : Option (List TableChanges)) → m.position.flight ≡ flight → IsApplied m.tables (flown flight) (tables_at w.log m.position.version) (middle m.view)
    flight_applied None none = (
      tt,
      λ n k. ap (λ (place : Place). Some place)
          (sym (p.stands.on_tables n k) ∙ (ap (λ (f : Option (List TableChanges)). base f m.view n k) none ∙ undo_none (middle m.view n k))),
    )
    flight_applied (Some changes) flight =
        laws.flight m.tables p.contents w.log m.position changes m.view p.are p.shown flight p.stands

    hubs_rows : HasHubsRows w m
    hubs_rows = record {
      within = p.stands.within;
      middle = middle m.view;
      flight = subst (λ (ts : List TableDef). IsApplied ts (flown m.position.flight) (tables_at w.log m.position.version) (middle m.view)) p.tables (flight_applied m.position.flight refl);
      pending = subst (λ (ts : List TableDef). LeadTo ts m.view.pending (middle m.view) m.view.tables) p.tables (leads m.tables m.view.pending m.view.tables p.are p.shown.rows.sound);
    }

  -- entries of one replica with one number were one push
  one_push : (at other : ℕ) (entry its : LogEntry) (body others : Body) → entry.origin < WIDEN_ORIGIN → entry.origin ≡ its.origin → entry.number ≡ its.number
      → WasOffered w (record { origin = entry.origin; number = entry.number; base = at }) body
      → WasOffered w (record { origin = its.origin; number = its.number; base = other }) others
      → at ≡ other
  one_push at other entry its (Changes changes) (Changes its_changes) replica origins numbers one two =
      (s.once _ _ (normal_spelling changes) (normal_spelling its_changes) one two origins numbers).0
  one_push at other entry its (Widen table width) others replica origins numbers one two = absurd (omega (arith, replica, one.0))
  one_push at other entry its (Changes changes) (Widen table width) replica origins numbers one two = absurd (omega (arith, replica, origins, two.0))

  pub headline : Headline w
  headline = record {
    stands = λ r m at. hubs_rows r m (s.placed r m at);
    no_conflict = λ k r at. s.true k _ at refl;
    counts_once = λ at other entry its there here replica origins numbers.
        one_push at other entry its entry.body its.body replica origins numbers (s.offered at entry there) (s.offered other its here);
    accepted = λ k r origin number version at. s.true k _ at;
    equal = λ r q one other at its version rest too table key inside.
        let p = s.placed r one at in
        let o = s.placed q other its in
        let same : other.tables ≡ one.tables = o.tables ∙ (ap (λ (v : ℕ). catalog_at w.tables w.log v) (sym version) ∙ sym p.tables) in
        laws.rest one.tables w.log p.contents o.contents one.position other.position one.view other.view p.shown
        (subst (λ (ts : List TableDef). ShowsAt ts o.contents other.position other.view) same o.shown) p.stands o.stands version rest.0 too.0 rest.1 too.1 table key
        (subst (λ (ts : List TableDef). Contains ts table) (sym p.tables) inside);
  }

pub sound_has_headline : Below → SoundHasHeadline
sound_has_headline laws limit world s = headline laws limit world s

-- a world in which nothing has happened
pub first_is_sound : EmptyIsLog → FirstStands → FirstIsSound
first_is_sound empty stands limit tables members are firsts = record {
  tables = are;
  log = empty tables;
  entries = λ at entry there. absurd (nowhere entry at there);
  short = omega arith;
  placed = λ r m at. placed r m (firsts r m at);
  spelled = λ k m at. absurd (nowhere m k at);
  true = λ k m at. absurd (nowhere m k at);
  once = λ head other changeset its one two origins numbers. absurd (nowhere _ one.0 one.2);
  offered = λ at entry there. absurd (nowhere entry at there);
}
  where
    placed : (r : ℕ) (m : Member) → IsFirstMember tables r m → IsPlaced (first_world tables members) r m
    placed r m f = record {
      id = ap (λ (p : Position). p.id) f.position;
      small = f.small;
      fits = record { id = rw f.position (omega (arith, f.small)); version = rw f.position (omega arith) };
      tables = f.tables_are ∙ rw f.position refl;
      are = subst AreTables (sym f.tables_are) are;
      contents = f.contents;
      shown = subst (λ (ts : List TableDef). ShowsAt ts f.contents m.position m.view) (sym f.tables_are) f.shown;
      stands = rw f.view (stands [] m.position (ap (λ (p : Position). p.version) f.position) (ap (λ (p : Position). p.flight) f.position));
      sent = λ changes flight. let none : m.position.flight ≡ None = ap (λ (p : Position). p.flight) f.position in absurd (cc);
    }
