-- From what is gathered of several edits to the step of their request.
use Rattle.std.proofs.Common.{◌≡◌, ◌∙◌, ◌<◌, ◌⊎◌, ℕ, List, [], ◌∷◌, length, Result, Ok, Err, refl, sym, ap, inl, inr, arith, subst}
use Rattle.std.specs.Prelude.{Option, Some, None}
use Rattle.std.proofs.lemmas.Grind.{common_steps}
use Rattle.cs_lines.specs.Reading.{AreTaken, TakesLine}
use Rattle.cs_pending.specs.declared.fault.EditFault.{EditFault}
use Rattle.cs_pending.specs.declared.fault.EditsFault.{EditsFault}
use Rattle.cs_pending.specs.declared.fault.EditsFault.TheVariants as edits
use Rattle.cs_replica.specs.Holding.{Holding}
use Rattle.cs_replica.specs.Leaves.{Counts}
use Rattle.cs_replica.specs.Step.{AreEditedTo, Turns}
use Rattle.cs_store.specs.declared.store.RowStore.{Ghosts}
use Rattle.cs_value.specs.declared.catalog.TableDef.{TableDef}
use Rattle.cs_value.specs.declared.edit.Edit.{Edit}
use Rattle.cs_node_lines.specs.asks.Several.{several_in}
use Rattle.cs_node_lines.specs.declared.following.next.Next.TheVariants.{Cut, Replied}
use Rattle.cs_node_lines.specs.declared.working.fault.NodeFault.{NodeFault}
use Rattle.cs_node_lines.specs.declared.working.reply.Reply.{Reply}
use Rattle.cs_node_lines.specs.following.FollowStep.{FollowStep, RequestStep}
use Rattle.cs_node_lines.specs.following.Requests.{follows, or_none}
use Rattle.cs_node_lines.specs.following.Several.{EditsStep, ReadEditsStep, all_edited_text, all_edits_in, edits_in}
use Rattle.cs_node_lines.specs.following.Steps.{AllStep, Gathers, Replies}
use Rattle.cs_node_lines.specs.working.LineStep.{SaysMemory}
use Rattle.cs_node_lines.specs.working.Replies.{reply_text}
use Rattle.cs_node_lines.specs.working.Steps.{Stepped}
use Rattle.cs_node_lines.specs.working.Texts.{unread_text}
use Rattle.cs_node_lines.proofs.FollowingLemmas.Taken.{taken_before, taken_both, taken_one, taken_to_end}
use Rattle.cs_node_lines.proofs.FollowingLemmas.Turned.{stepped_map}
use Rattle.cs_node_lines.proofs.WorkingLemmas.Made.{counted_as, stepped_still}

-- as many lines as it says, or fewer
all_there : (tables : List TableDef) (count : ℕ) (lines : List (List ℕ)) → length lines ≡ count → all_edits_in tables count lines ≡ edits_in tables lines
all_there tables count lines is = grind (arith, common_steps)

none_there : (tables : List TableDef) (count : ℕ) (lines : List (List ℕ)) → length lines < count → all_edits_in tables count lines ≡ None
none_there tables count lines less = grind (arith, common_steps)

follows_so : (first : List ℕ) (count : ℕ) → several_in first ≡ Some count → follows first ≡ count
follows_so first count is = ap or_none is

-- of the edit there
abbrev pub refusal : ℕ → EditFault → Result (Unit {0}) EditsFault
refusal at fault = Err (edits.Refused at fault)

module _ {S : Type 0} (g : Ghosts S) where
  -- ---- what is made

  pub edits_made : (asked : List Edit) (result : Result (Unit {0}) EditsFault) (text : List ℕ) (old new : Holding S) → text ≡ all_edited_text result
      → Turns g (AreEditedTo asked result) old new → Counts g (result ≡ Err edits.Device) old new → Stepped g EditsStep asked text old new
  edits_made asked result text old new is turns counts =
      counted_as g old new (AreEditedTo asked result) (λ had has before after. EditsStep had has before asked text after) counts.later
      (λ before after edited. (result, edited, counts.cause, is)) turns

  -- where memory is refused for the text, nothing was done, and so it is told
  pub edits_refused : (asked : List Edit) (at : ℕ) (fault : EditFault) (text : List ℕ) (old new : Holding S) → (text ≡ all_edited_text (refusal at fault)) ⊎ SaysMemory text
      → Turns g (AreEditedTo asked (refusal at fault)) old new → Counts g (refusal at fault ≡ Err edits.Device) old new
      → Stepped g EditsStep asked text old new
  edits_refused asked at fault text old new (inl is) turns counts = edits_made asked (refusal at fault) text old new is turns counts
  edits_refused asked at fault text old new (inr memory) turns counts =
      counted_as g old new (AreEditedTo asked (refusal at fault)) (λ had has before after. EditsStep had has before asked text after) counts.later
      (λ before after edited. (Err edits.Memory, (edited.0, tt), (λ device. absurd (cc)), memory)) turns

module _ {S : Type 0} (g : Ghosts S) (tables : List TableDef) where
  -- ---- what is made of what was gathered

  pub gathered_made : (lines : List (List ℕ)) (asked : List Edit) (text : List ℕ) (old new : Holding S) → edits_in tables lines ≡ Some asked
      → Stepped g EditsStep asked text old new → Stepped g (AllStep tables) lines text old new
  gathered_made lines asked text old new is made =
      stepped_map g EditsStep (AllStep tables) asked lines text old new
      (λ had has before after goes. inl (subst (λ (e : Option (List Edit)). ReadEditsStep had has before e text after) (sym is) goes)) made

  -- ---- the request

  request_made : (first : List ℕ) (count : ℕ) (lines : List (List ℕ)) (text : List ℕ) (old new : Holding S) → several_in first ≡ Some count → length lines ≡ count
      → Stepped g (AllStep tables) lines text old new → Stepped g (FollowStep tables) (first ∷ lines) text old new
  request_made first count lines text old new is long made =
      stepped_map g (AllStep tables) (FollowStep tables) lines (first ∷ lines) text old new
      (λ had has before after. λ goes. elim goes [
        | inl read ↦ inl (subst (λ (n : Option ℕ). RequestStep tables had has before n first lines text after) (sym is)
            (subst (λ (e : Option (List Edit)). ReadEditsStep had has before e text after) (sym (all_there tables count lines long)) read))
        | inr memory ↦ inr memory
      ]) made

  request_cut : (first : List ℕ) (count : ℕ) (lines : List (List ℕ)) (held : Holding S) → several_in first ≡ Some count → length lines < count
      → Stepped g (FollowStep tables) (first ∷ lines) unread_text held held
  request_cut first count lines held is less =
      stepped_still g (FollowStep tables) (first ∷ lines) unread_text held
      (λ had has m at. inl (subst (λ (n : Option ℕ). RequestStep tables had has m n first lines unread_text m) (sym is)
      (subst (λ (e : Option (List Edit)). ReadEditsStep had has m e unread_text m) (sym (none_there tables count lines less)) (refl, refl))))

  -- all lines were read
  pub several_replied : (count : ℕ) (first : List ℕ) (reply : Reply) (read_failed : Type 0) (input mid left : Option (List ℕ)) (lines : List (List ℕ)) (old new : Holding S) → several_in first ≡ Some count
      → TakesLine [] input mid first → AreTaken mid left lines → length lines ≡ count → Stepped g (AllStep tables) lines (reply_text reply) old new
      → Replies g tables (Ok (Replied reply)) read_failed input left old new
  several_replied count first reply read_failed input mid left lines old new is took taken long made = (
    first ∷ lines,
    long ∙ sym (follows_so first count is),
    (taken_both input mid left (first ∷ []) lines (taken_one input mid first took) taken, request_made first count lines (reply_text reply) old new is long made),
  )

  -- or they ended before
  pub several_cut : (count : ℕ) (first : List ℕ) (read_failed : Type 0) (input mid left : Option (List ℕ)) (held : Holding S) → several_in first ≡ Some count
      → TakesLine [] input mid first → Gathers tables count (Ok None) read_failed mid left → Replies g tables (Ok Cut) read_failed input left held held
  several_cut count first read_failed input mid left held is took (lines, all, less) = (
    first ∷ lines,
    (
      taken_to_end input mid (first ∷ []) lines (taken_one input mid first took) all,
      subst (λ (n : ℕ). length lines < n) (sym (follows_so first count is)) less,
      request_cut first count lines held is less,
    ),
  )

  -- or the reader failed
  pub several_failed : (count : ℕ) (first : List ℕ) (fault : NodeFault) (read_failed : Type 0) (input mid left : Option (List ℕ)) (held : Holding S) → several_in first ≡ Some count
      → TakesLine [] input mid first → Gathers tables count (Err fault) read_failed mid left → Replies g tables (Err fault) read_failed input left held held
  several_failed count first fault read_failed input mid left held is took (read, (lines, behind, less, failed)) =
      rw read (
        failed,
        (
          first ∷ lines,
          taken_before input mid left (first ∷ []) lines (taken_one input mid first took) behind,
          subst (λ (n : ℕ). length lines < n) (sym (follows_so first count is)) less,
        ),
        refl,
      )
