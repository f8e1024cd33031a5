-- A replica's tables are a catalog's after what it takes.
use Rattle.std.proofs.Common.{ℕ, zero, suc, List, Result, sym, subst, inl, inr}
use Rattle.std.specs.Prelude.{Option}
use Rattle.cs_conflict.specs.declared.clash.Clash.{Clash}
use Rattle.cs_conflict.specs.declared.wish.Wish.{Wish}
use Rattle.cs_exchange.specs.declared.pulling.fault.AnswerFault.{AnswerFault}
use Rattle.cs_exchange.specs.pulling.Listed.{PullsMany, count_of}
use Rattle.cs_exchange.specs.pulling.Pulls.{IsPulledBody, PullsOne}
use Rattle.cs_normal.specs.declared.normal.TableChanges.{TableChanges}
use Rattle.cs_pending.specs.View.{View}
use Rattle.cs_pending.specs.declared.position.position.Position.{Position}
use Rattle.cs_replica.specs.Answered.{Answers}
use Rattle.cs_replica.specs.declared.told.Told.{Told}
use Rattle.cs_store.specs.Contents.{Contents}
use Rattle.cs_store.specs.declared.log.body.Body.{Body}
use Rattle.cs_store.specs.declared.log.body.Body.TheVariants.{Changes, Widen}
use Rattle.cs_store.specs.declared.log.entry.LogEntry.{LogEntry}
use Rattle.cs_store.specs.log.Log.{catalog_after}
use Rattle.cs_value.specs.Catalog.{AreTables}
use Rattle.cs_value.specs.declared.catalog.TableDef.{TableDef}
use Rattle.cs_widening.specs.Laws.{WidenedAreTables}
use Rattle.cs_wire.specs.Entries.{ToldEntry}
use Rattle.cs_wire.specs.declared.answer.Answer.{Answer}
use Rattle.cs_wire.specs.declared.answer.Answer.TheVariants.{Short, Entries, Merged}
use Rattle.cs_wire.specs.declared.short_answer.ShortAnswer.TheVariants as short

module _ (law : WidenedAreTables) {P : Type 0} (picks : P → Clash → Wish → P → Type 0) where
  body_tables : (tables : List TableDef) (flight : Option (List TableChanges)) (body : Body) (before after : View) (p q : P) → AreTables tables
      → IsPulledBody picks tables flight body before after p q → AreTables (catalog_after tables body)
  body_tables tables flight (Changes changes) before after p q are pulled = are
  body_tables tables flight (Widen name width) before after p q are (widened, same) = law tables name width are widened.may

  entry_tables : (tables : List TableDef) (position : Position) (entry : LogEntry) (before after : View) (p q : P) → AreTables tables
      → PullsOne picks tables position entry before p after q → AreTables (catalog_after tables entry.body)
  entry_tables tables position entry before after p q are (room, inl (own, same, none)) = subst (λ (b : Body). AreTables (catalog_after tables b)) (sym own.body) are
  entry_tables tables position entry before after p q are (room, inr (others, pulled)) = body_tables tables position.flight entry.body before after p q are pulled

  many_tables : (first : ℕ) (entries : List ToldEntry) (count : ℕ) (tables others : List TableDef) (position other : Position) (view end : View) (p q : P) → AreTables tables
      → PullsMany picks first entries count tables position view p others other end q → AreTables others
  unfolding PullsMany
  many_tables first entries zero tables others position other view end p q are (wide, here, still, none) = subst AreTables (sym wide) are
  many_tables first entries (suc count) tables others position other view end p q are (told, entry, pending, left, next, between, at, read, pulls, shown, more) =
      many_tables first entries count (catalog_after tables entry.body) others _ other next end between q (entry_tables tables position entry view next p between are pulls) more

  pub answered_tables : (answer : Answer) (result : Result Told AnswerFault) (tables others : List TableDef) (position other : Position) (before : View) (new : Contents) (p q : P) → AreTables tables
      → Answers picks tables answer result position before p others other new q → AreTables others
  answered_tables (Short (short.Accepted origin number version)) result tables others position other before new p q are (same, tells, keeps) = subst AreTables (sym same) are
  answered_tables (Short (short.Stale newest)) result tables others position other before new p q are (same, is, keeps) = subst AreTables (sym same) are
  answered_tables (Short (short.Refused code)) result tables others position other before new p q are (same, is, keeps) = subst AreTables (sym same) are
  answered_tables (Entries first entries) result tables others position other before new p q are (done, is, (end, between, many, shows, ends)) =
      many_tables first entries (count_of done) tables others position other before end p between are many
  answered_tables (Merged origin first last bytes) result tables others position other before new p q are (same, told) = subst AreTables (sym same) are
