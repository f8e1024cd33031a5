-- What is noted of a clash, as what is seen of it.
use Rattle.std.proofs.Common.{◌≡◌, ◌++◌, ℕ, Bool, List, [], Result, Ok, Err, refl, sym, ap, ◌∙◌, subst, inl, inr}
use Rattle.std.specs.Prelude.{Option, Some, None, codes}
use Rattle.cs_conflict.specs.declared.clash.Clash.{Clash}
use Rattle.cs_conflict.specs.Wishes.{guarded}
use Rattle.cs_conflict.specs.declared.kind.Kind.{Kind}
use Rattle.cs_conflict.specs.declared.kind.Kind.TheVariants.{DataDiffers, KeyConflict, NotFound}
use Rattle.cs_conflict.specs.declared.wish.Wish.{Wish}
use Rattle.cs_conflict.specs.declared.wish.Wish.TheVariants.{Keep, Stop, Take}
use Rattle.cs_conflict.specs.wish_list.Wished.{IsWished, next_wish}
use Rattle.cs_exchange.specs.declared.pulling.fault.AnswerFault.{AnswerFault}
use Rattle.cs_pending.specs.View.{View}
use Rattle.cs_replica.specs.Answered.{Answers, SaysDevice}
use Rattle.cs_replica.specs.Leaves.{Counts}
use Rattle.cs_replica.specs.Holding.{Holding, Shows}
use Rattle.cs_replica.specs.Step.{IsAnsweredTo, Turns}
use Rattle.cs_replica.specs.declared.told.Told.{Told}
use Rattle.cs_replica.specs.declared.told.Told.TheVariants.{Confirmed, Ignored, Refused, Stale, Stopped, Taken}
use Rattle.cs_store.specs.declared.store.RowStore.{Ghosts}
use Rattle.cs_value.specs.declared.catalog.TableDef.{TableDef}
use Rattle.cs_text.specs.Text.{line}
use Rattle.cs_wire.specs.Answers.{FitsAnswer, answer_spelling}
use Rattle.cs_wire.specs.declared.answer.Answer.{Answer}
use Rattle.cs_node_lines.specs.declared.asks.ask.Ask.TheVariants as asking
use Rattle.cs_node_lines.specs.following.FollowStep.{AskStep}
use Rattle.cs_node_lines.specs.told.Told.{told_text}
use Rattle.cs_node_lines.specs.working.Steps.{Stepped}
use Rattle.cs_node_lines.specs.declared.following.note.Note.{Note}
use Rattle.cs_node_lines.specs.declared.following.note.Note.TheVariants.{Lacking, Nothing, Text}
use Rattle.cs_node_lines.specs.following.Seen.{IsSeen, IsSeenText, Seeing, seen_by}
use Rattle.cs_node_lines.specs.following.Steps.{HearsNoting, IsNoteOf, IsNoted, Noted, Notes, NotesStop, note_text}
use Rattle.cs_node_lines.specs.told.Clash.{clash_text}
use Rattle.cs_node_lines.proofs.FollowingLemmas.Alike.{answers_so}

-- one who notes, by these tables, stands for one who sees
pub record Stands (tables : List TableDef) (noted : Noted) (seeing : Seeing) : Type 0 where
  pub wishes : seeing.wishes ≡ noted.wishes
  pub tables_are : noted.tables ≡ tables
  pub note : IsNoteOf tables noted.note seeing.seen

note_so : (tables : List TableDef) (wish : Wish) (clash : Clash) (before after : Note) (seen : Option Clash) → IsNoteOf tables before seen
    → Notes wish (clash_text tables clash) before after → IsNoteOf tables after (seen_by wish clash seen)
note_so tables Keep clash before after seen of same = subst (λ (n : Note). IsNoteOf tables n seen) (sym same) of
note_so tables Take clash before after seen of same = subst (λ (n : Note). IsNoteOf tables n seen) (sym same) of
note_so tables Stop clash before after seen of noted = noted

follows : (tables : List TableDef) (p after : Noted) (q : Seeing) (clash : Clash) (wish : Wish) → Stands tables p q → IsNoted p clash wish after
    → (next : Seeing) × IsSeen q clash wish next × Stands tables after next
follows tables p after q clash wish so noted = (
  record { wishes = after.wishes; seen = seen_by wish clash q.seen },
  record {
    wished = subst (λ (ws : List Wish). IsWished ws clash wish after.wishes) (sym so.wishes) noted.wished;
    shown = refl;
  },
  record {
    wishes = refl;
    tables_are = noted.tables ∙ so.tables_are;
    note = note_so tables wish clash p.note after.note q.seen so.note
        (subst (λ (ts : List TableDef). Notes wish (clash_text ts clash) p.note after.note) so.tables_are noted.noted);
  },
)

-- wishes that have run out stop nowhere
none_seen : (kind : Kind) (covers : Bool) (clash : Clash) (seen : Option Clash) → seen_by (guarded Take kind covers) clash seen ≡ seen
unfolding guarded
none_seen NotFound covers clash seen = refl
none_seen DataDiffers covers clash seen = refl
none_seen KeyConflict covers clash seen = refl

pub unwished : (wishes after : List Wish) (clash : Clash) (wish : Wish) → wishes ≡ [] → IsWished wishes clash wish after
    → IsSeen (record { wishes = wishes; seen = None }) clash wish (record { wishes = after; seen = None })
unwished wishes after clash wish none wished =
    let is : wish ≡ guarded Take clash.conflict.kind clash.covers = wished.is ∙ ap (λ (ws : List Wish). guarded (next_wish ws) clash.conflict.kind clash.covers) none in
    record {
      wished = wished;
      shown = sym (ap (λ (w : Wish). seen_by w clash None) is ∙ none_seen clash.conflict.kind clash.covers clash None);
    }

note_is : (tables : List TableDef) (result : Result Told AnswerFault) (note : Note) (seen : Option Clash) (version : ℕ) → NotesStop tables result note seen
    → IsSeenText tables result seen version (note_text result note version)
note_is tables (Ok (Confirmed newest)) note seen version notes = inl refl
note_is tables (Ok Ignored) note seen version notes = inl refl
note_is tables (Ok (Stale newest)) note seen version notes = inl refl
note_is tables (Ok (Refused code)) note seen version notes = inl refl
note_is tables (Ok (Taken count)) note seen version notes = inl refl
note_is tables (Ok (Stopped count)) Nothing (Some clash) version notes = absurd (notes count refl)
note_is tables (Ok (Stopped count)) Nothing None version notes = inl refl
note_is tables (Ok (Stopped count)) (Text noted) (Some clash) version notes =
    inl (ap (λ (l : List ℕ). line (told_text (Stopped count) version ++ codes " " ++ l)) (notes count refl))
note_is tables (Ok (Stopped count)) (Text noted) None version notes = absurd (notes count refl)
note_is tables (Ok (Stopped count)) Lacking seen version notes = inr (count, refl, refl)
note_is tables (Err fault) note seen version notes = inl refl

module _ {S : Type 0} (g : Ghosts S) (tables : List TableDef) where
  pub seen_told : (bytes : List ℕ) (wishes : List Wish) (answer : Answer) (result : Result Told AnswerFault) (note : Note) (version : ℕ) (old new : Holding S)
      → FitsAnswer answer → bytes ≡ answer_spelling answer → version ≡ new.position.version
      → Turns g (λ before after. HearsNoting tables before answer wishes result note after) old new → Counts g (SaysDevice result) old new
      → Stepped g (AskStep tables) (asking.Answer bytes wishes) (note_text result note version) old new
  seen_told bytes wishes answer result note version old new fits is at turns counts = record {
    later = counts.later;
    turns = record {
      was_honest = turns.was_honest;
      turned = λ h are in_range view shows.
          let t = turns.turned h are in_range view shows in
          let text = subst (λ (v : ℕ). IsSeenText tables result t.3.0 v (note_text result note version)) at (note_is tables result note t.3.0 version t.3.2) in
          (t.0, t.1, t.2, inl (answer, result, t.3.0, fits, is, t.3.1, counts.cause, text));
    };
  }

  pub hears_noting : (answer : Answer) (wishes : List Wish) (result : Result Told AnswerFault) (p after : Noted) (note : Note) (old new : Holding S)
      → p ≡ record { tables = tables; wishes = wishes; note = Nothing } → note ≡ after.note
      → (g.honest new.store → (before : View) → Shows g.contents old before → Answers IsNoted old.catalog answer result old.position before p new.catalog new.position (g.contents new.store) after)
      → Turns g (IsAnsweredTo IsNoted answer p result) old new
      → Turns g (λ before after. HearsNoting tables before answer wishes result note after) old new
  hears_noting answer wishes result p after note old new is noted told turns = record {
    was_honest = turns.was_honest;
    turned = λ h are fits view shows.
        let t = turns.turned h are fits view shows in
        let first : Seeing = record { wishes = wishes; seen = None } in
        let begins : Stands tables p first = rw is (record { wishes = refl; tables_are = refl; note = tt }) in
        let n = answers_so IsNoted IsSeen (Stands tables) (follows tables) old.catalog new.catalog answer result old.position new.position view (g.contents new.store) p after first begins (told h view shows) in (
          t.0,
          t.1,
          t.2,
          (
            n.0.seen,
            record {
              left = g.contents new.store;
              unused = n.0.wishes;
              answers = n.1;
              shows = t.1;
            },
            λ count stopped. subst (λ (m : Note). IsNoteOf tables m n.0.seen) (sym noted) (n.2 count stopped).note,
          ),
        );
  }
