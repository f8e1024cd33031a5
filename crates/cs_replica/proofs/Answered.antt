-- What is said of entries, and of changes that are told together, is said of the answer.
use Rattle.std.proofs.Common.{◌≡◌, ◌<◌, ℕ, List, Result, Ok, refl, sym, ap, ap₂, subst, ◌∙◌, inl, inr}
use Rattle.cs_value.specs.declared.catalog.TableDef.{TableDef}
use Rattle.cs_store.specs.Contents.{Contents}
use Rattle.cs_store.specs.declared.store.RowStore.{Ghosts}
use Rattle.cs_conflict.specs.declared.clash.Clash.{Clash}
use Rattle.cs_conflict.specs.declared.wish.Wish.{Wish}
use Rattle.cs_pending.specs.View.{View}
use Rattle.cs_pending.specs.position.Shows.{ShowsAt}
use Rattle.cs_pending.specs.declared.position.position.Position.{Position}
use Rattle.cs_exchange.specs.pulling.Calls.{WritesInTurn}
use Rattle.cs_exchange.specs.pulling.Listed.{IsAmong, IsNextOf, PullsList}
use Rattle.cs_exchange.specs.pulling.Merged.{IsToldNext, IsToldTaken}
use Rattle.cs_exchange.specs.declared.pulling.fault.AnswerFault.{AnswerFault}
use Rattle.cs_exchange.specs.declared.pulling.listing.Pulled.{Pulled}
use Rattle.cs_wire.specs.Entries.{ToldEntry}
use Rattle.cs_wire.specs.declared.answer.Answer.{Answer}
use Rattle.cs_wire.specs.declared.answer.Answer.TheVariants.{Entries, Merged}
use Rattle.cs_replica.specs.Answered.{Answers, IsAnsweredAmong, IsAnsweredNext, IsForIt, TellsMerged, told_of}
use Rattle.cs_replica.specs.declared.told.Told.{Told}
use Rattle.cs_replica.specs.declared.told.Told.TheVariants.{Ignored}

-- An answer of entries.
module _ {P S : Type 0} (picks : P → Clash → Wish → P → Type 0) (g : Ghosts S)
    (tables others : List TableDef) (answer : Answer) (first : ℕ) (entries : List ToldEntry) (is : answer ≡ Entries first entries) (position : Position) (old new : S) (p : P) where
  pub entries_write : (finished device readable : Type 0) (other : Position)
      → WritesInTurn g finished device readable (IsAmong picks first entries tables position (g.contents old) p) (IsNextOf picks first entries others other (g.contents new)) old new
      → WritesInTurn g finished device readable (IsAnsweredAmong picks tables answer position (g.contents old) p) (IsAnsweredNext picks others answer other (g.contents new)) old new
  entries_write finished device readable other writes =
      subst (λ (a : Answer). WritesInTurn g finished device readable (IsAnsweredAmong picks tables a position (g.contents old) p) (IsAnsweredNext picks others a other (g.contents new)) old new) (sym is) writes

  pub entries_tell : (pulled : Result Pulled AnswerFault) (before : View) (other : Position) (q : P) → PullsList picks first entries pulled tables position before p others other (g.contents new) q
      → Answers picks tables answer (told_of pulled) position before p others other (g.contents new) q
  entries_tell pulled before other q pulls =
      subst (λ (a : Answer). Answers picks tables a (told_of pulled) position before p others other (g.contents new) q) (sym is) (pulled, refl, pulls)

-- An answer of entries that are told together, for this replica.
module _ {P : Type 0} (picks : P → Clash → Wish → P → Type 0)
    (tables : List TableDef) (answer : Answer) (origin first next : ℕ) (changeset bytes : List ℕ) (is : answer ≡ Merged origin first next changeset) (same : bytes ≡ changeset)
    (position : Position) (meant : IsForIt position origin first) where
  -- it is the one that begins at the version
  there : answer ≡ Merged position.id position.version next bytes
  there = is ∙ (ap₂ (λ (o f : ℕ). Merged o f next changeset) meant.0 meant.1 ∙ ap (λ (b : List ℕ). Merged position.id position.version next b) (sym same))

  pub merged_writes : {S : Type 0} (g : Ghosts S) (finished device readable : Type 0) (other : Position) (p : P) (old new : S)
      → WritesInTurn g finished device readable (IsAnsweredAmong picks tables (Merged position.id position.version next bytes) position (g.contents old) p) (IsAnsweredNext picks tables (Merged position.id position.version next bytes) other (g.contents new)) old new
      → WritesInTurn g finished device readable (IsAnsweredAmong picks tables answer position (g.contents old) p) (IsAnsweredNext picks tables answer other (g.contents new)) old new
  merged_writes g finished device readable other p old new writes =
      subst (λ (a : Answer). WritesInTurn g finished device readable (IsAnsweredAmong picks tables a position (g.contents old) p) (IsAnsweredNext picks tables a other (g.contents new)) old new) (sym there) writes

  pub merged_tells : (result : Result Told AnswerFault) (before : View) (p q : P) (other : Position) (new : Contents)
      → TellsMerged picks tables position.id position.version next bytes result position before p other new q
      → Answers picks tables answer result position before p tables other new q
  merged_tells result before p q other new tells = subst (λ (a : Answer). Answers picks tables a result position before p tables other new q) (sym there) (refl, tells)

-- Changes that are told from the version up to one above it.
module _ {P S : Type 0} (picks : P → Clash → Wish → P → Type 0) (g : Ghosts S)
    (tables : List TableDef) (next : ℕ) (changeset : List ℕ) (position other : Position) (p : P) (old new : S) (above : position.version < next) where
  abbrev Answer_of : Answer
  Answer_of = Merged position.id position.version next changeset

  pub told_writes : (finished device readable : Type 0) → ((finished → ⊥) → other ≡ position)
      → WritesInTurn g finished device readable (IsToldTaken picks tables next changeset position p (g.contents old)) (IsToldNext picks tables next changeset other (g.contents new)) old new
      → WritesInTurn g finished device readable (IsAnsweredAmong picks tables Answer_of position (g.contents old) p) (IsAnsweredNext picks tables Answer_of other (g.contents new)) old new
  told_writes finished device readable kept w = record {
    was_honest = w.was_honest;
    durable = λ h left may.
        elim (w.durable h left may) [
          | inl now ↦ inl now
          | inr (inl before) ↦ inr (inl before)
          | inr (inr (undone, more)) ↦ inr (inr (undone, ((ap (λ (x : Position). x.id) (sym (kept undone)), ap (λ (x : Position). x.version) (sym (kept undone))), above, more)))
        ];
    crash = λ h left may.
        elim (w.crash h left may) [
          | inl before ↦ inl before
          | inr taken ↦ inr ((refl, refl), above, taken)
        ];
    kept = w.kept;
    later = w.later;
    cause = w.cause;
    as_read = w.as_read;
  }

-- Changes that aren't for it.
pub merged_ignored : {P : Type 0} (picks : P → Clash → Wish → P → Type 0) (tables : List TableDef) (answer : Answer) (origin first next : ℕ) (changeset : List ℕ) → answer ≡ Merged origin first next changeset
    → (position : Position) → (IsForIt position origin first → ⊥) → (before : View) (p : P) (new : Contents) → ShowsAt tables new position before
    → Answers picks tables answer (Ok Ignored) position before p tables position new p
merged_ignored picks tables answer origin first next changeset is position away before p new shows =
    subst (λ (a : Answer). Answers picks tables a (Ok Ignored) position before p tables position new p) (sym is) (refl, inl (away, refl, (refl, (shows, refl))))
