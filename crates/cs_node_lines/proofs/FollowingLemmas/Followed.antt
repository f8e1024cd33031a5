-- From the next request of an input to all of them.
use Rattle.std.proofs.Common.{◌≡◌, ◌+◌, ℕ, List, [], ◌∷◌, ◌++◌, Result, Ok, Err, true, false, refl, sym, ap, ◌∙◌, append_assoc, append-nil, subst, inl, inr, length, arith}
use Rattle.std.specs.Prelude.{⊤, Option, Some, None, codes}
use Rattle.std.specs.declared.alloc.AllocError.{AllocError}
use Rattle.std.specs.Io.KnownBytes.{Appends}
use Rattle.std.specs.List.{AllByRecursion}
use Rattle.std.proofs.KnownBytes.{Appends-kept, Appends-nil, Appends-trans}
use Rattle.cs_lines.specs.Facts.{stays}
use Rattle.cs_lines.specs.Laws.{AllTaken, NoneTaken}
use Rattle.cs_lines.specs.Reading.{AreTaken, TakesLine}
use Rattle.cs_lines.specs.Served.{AreFirstLines}
use Rattle.cs_lines.specs.declared.serve.TheConstants.{ASKS}
use Rattle.cs_replica.specs.Holding.{Holding}
use Rattle.cs_store.specs.declared.store.RowStore.{Ghosts}
use Rattle.cs_text.specs.Text.{line}
use Rattle.cs_value.specs.Catalog.{AreTables}
use Rattle.cs_value.specs.declared.catalog.TableDef.{TableDef}
use Rattle.cs_node_lines.specs.declared.following.next.Next.TheVariants.{Replied}
use Rattle.cs_node_lines.specs.declared.working.fault.NodeFault.{NodeFault}
use Rattle.cs_node_lines.specs.declared.working.fault.NodeFault.TheVariants.{Memory, Read}
use Rattle.cs_node_lines.specs.declared.working.reply.Reply.{Reply}
use Rattle.cs_node_lines.specs.asks.Asked.{ask_in}
use Rattle.cs_node_lines.specs.asks.Looked.{look_in}
use Rattle.cs_node_lines.specs.asks.Several.{several_in}
use Rattle.cs_node_lines.specs.declared.asks.ask.Ask.{Ask}
use Rattle.cs_node_lines.specs.declared.asks.ask.Ask.TheVariants as asking
use Rattle.cs_conflict.specs.declared.wish.Wish.{Wish}
use Rattle.cs_replica.specs.Step.{Member}
use Rattle.cs_node_lines.specs.following.Endings.{EndsFollowing, replied}
use Rattle.cs_node_lines.specs.following.FollowStep.{AskStep, FollowStep, ReadStep, RequestStep}
use Rattle.cs_node_lines.specs.following.Requests.{IsWhole, follows, joined, or_none, with_part}
use Rattle.cs_node_lines.specs.following.Steps.{AloneStep, FollowsAll, FollowsNext, Replies}
use Rattle.cs_node_lines.specs.working.LineStep.{LineStep}
use Rattle.cs_node_lines.specs.working.Steps.{AllStepped, Makes, Stepped}
use Rattle.cs_node_lines.specs.working.Texts.{refused_text, unread_text}
use Rattle.cs_node_lines.proofs.FollowingLemmas.Requests.{joined_more, whole_more}
use Rattle.cs_node_lines.proofs.FollowingLemmas.Taken.{taken_before, taken_both, taken_first, taken_one, taken_to_end}
use Rattle.cs_node_lines.proofs.FollowingLemmas.Turned.{makes_map, stepped_map}
use Rattle.cs_node_lines.proofs.WorkingLemmas.Going.{Opened, steps_more, steps_none, worked}
use Rattle.cs_node_lines.proofs.WorkingLemmas.Made.{stepped_still}
use Rattle.cs_node_lines.proofs.WorkingLemmas.Printing.{breaks_off}

replied_more : (texts : List (List ℕ)) (text : List ℕ) → replied (texts ++ text ∷ []) ≡ replied texts ++ line text
replied_more [] text = append-nil (line text)
replied_more (first ∷ texts) text = ap (λ l. line first ++ l) (replied_more texts text) ∙ sym (append_assoc (line first) (replied texts) (line text))

one_longer : {A : Type 0} (xs : List A) (x : A) → length (xs ++ x ∷ []) ≡ length xs + 1
one_longer [] x = refl
one_longer (y ∷ ys) x = let more = one_longer ys x in omega (arith, more)

module _ {S : Type 0} (g : Ghosts S) (tables : List TableDef) where
  -- ---- one line

  pub asked_so : (asked : List ℕ) (ask : Ask) (result : Result Reply AllocError) (old new : Holding S) → Some ask ≡ ask_in tables asked
      → Makes g (AskStep tables) ask result old new → Makes g (AloneStep tables) asked result old new
  asked_so asked ask result old new is makes =
      makes_map g (AskStep tables) (AloneStep tables) ask asked result old new
      (λ had has before after text goes. inl (subst (λ (a : Option Ask). ReadStep tables had has before a (look_in asked) text after) is goes)) makes

  plain_step : (had has : ℕ) (before after : Member) (ask : Ask) (text : List ℕ) → ((bytes : List ℕ) (wishes : List Wish) → ask ≡ asking.Answer bytes wishes → ⊥)
      → LineStep had has before ask text after → AskStep tables had has before ask text after
  plain_step had has before after (asking.OnEdit edit) text none goes = goes
  plain_step had has before after asking.Push text none goes = goes
  plain_step had has before after asking.Resend text none goes = goes
  plain_step had has before after (asking.Pull limit) text none goes = goes
  plain_step had has before after (asking.Catch limit) text none goes = goes
  plain_step had has before after (asking.Answer bytes wishes) text none goes = absurd (none bytes wishes refl)
  plain_step had has before after asking.Dump text none goes = goes

  pub plain_so : (ask : Ask) (result : Result Reply AllocError) (old new : Holding S) → ((bytes : List ℕ) (wishes : List Wish) → ask ≡ asking.Answer bytes wishes → ⊥)
      → Makes g LineStep ask result old new → Makes g (AskStep tables) ask result old new
  plain_so ask result old new none makes =
      makes_map g LineStep (AskStep tables) ask ask result old new (λ had has before after text goes. plain_step had has before after ask text none goes) makes

  -- ---- one request

  alone_whole : (line : List ℕ) → several_in line ≡ None → 0 ≡ follows line
  alone_whole line is = sym (ap or_none is)

  alone_made : (line text : List ℕ) (old new : Holding S) → several_in line ≡ None → Stepped g (AloneStep tables) line text old new → Stepped g (FollowStep tables) (line ∷ []) text old new
  alone_made line text old new is made =
      stepped_map g (AloneStep tables) (FollowStep tables) line (line ∷ []) text old new
      (λ had has before after goes. elim goes [
        | inl read ↦ inl (subst (λ (n : Option ℕ). RequestStep tables had has before n line [] text after) (sym is) read)
        | inr memory ↦ inr memory
      ]) made

  pub alone_replied : (line : List ℕ) (reply : Reply) (read_failed : Type 0) (input left : Option (List ℕ)) (old new : Holding S) → several_in line ≡ None → TakesLine [] input left line
      → Makes g (AloneStep tables) line (Ok reply) old new → Replies g tables (Ok (Replied reply)) read_failed input left old new
  alone_replied line reply read_failed input left old new is took (text, made, says) = (
    line ∷ [],
    alone_whole line is,
    (taken_one input left line took, subst (λ (t : List ℕ). Stepped g (FollowStep tables) (line ∷ []) t old new) says (alone_made line text old new is made)),
  )

  -- where there is no memory for its text
  pub alone_lacking : (line : List ℕ) (refused : AllocError) (read_failed : Type 0) (input left : Option (List ℕ)) (old new : Holding S) → several_in line ≡ None → TakesLine [] input left line
      → Makes g (AloneStep tables) line (Err refused) old new → Replies g tables (Err Memory) read_failed input left old new
  alone_lacking line refused read_failed input left old new is took (text, made, says) =
      (line ∷ [], text, omega arith, (taken_one input left line took, alone_made line text old new is made))

  -- or for the line
  pub line_lacking : (read_failed : Type 0) (input left : Option (List ℕ)) (held : Holding S) → (line : List ℕ) × TakesLine [] input left line → Replies g tables (Err Memory) read_failed input left held held
  line_lacking read_failed input left held (line, took) = (
    line ∷ [],
    refused_text (codes "Memory"),
    omega arith,
    (taken_one input left line took, stepped_still g (FollowStep tables) (line ∷ []) (refused_text (codes "Memory")) held (λ had has m at. inr (refl, refl))),
  )

  -- ---- all requests

  -- so many requests were taken and worked, and their texts are printed
  abbrev pub IsFollowing : ℕ → Option (List ℕ) → Option (List ℕ) → Option (List ℕ) → Option (List ℕ) → Holding S → Holding S → Type 0
  IsFollowing count input left before after old now =
      (requests : List (List (List ℕ))) × (texts : List (List ℕ)) × AreTaken input left (joined requests) × AllByRecursion IsWhole requests
      × (length requests ≡ count) × AllStepped g (FollowStep tables) requests texts old now × Appends before after (replied texts)

  pub following_first : NoneTaken → (input before : Option (List ℕ)) (held : Holding S) → IsFollowing 0 input input before before held held
  following_first none input before held = ([], [], none input, tt, refl, steps_none g (FollowStep tables) held, Appends-nil before)

  pub following_on : (count : ℕ) (read_failed write_failed : Type 0) (input left rest before between after : Option (List ℕ)) (old now next : Holding S)
      → AreTables now.catalog → IsFollowing count input left before between old now → FollowsNext g tables (Ok true) read_failed write_failed left rest between after now next
      → IsFollowing (count + 1) input rest before after old next
  following_on count read_failed write_failed input left rest before between after old now next its (requests, texts, taken, all, long, turns, wrote) (asked, text, whole, (took, goes), prints) = (
    requests ++ asked ∷ [],
    texts ++ text ∷ [],
    subst (AreTaken input rest) (sym (joined_more requests asked)) (taken_both input left rest (joined requests) asked taken took),
    whole_more requests asked all whole,
    one_longer requests asked ∙ ap (λ n. n + 1) long,
    steps_more g (FollowStep tables) old now next requests texts asked text its turns goes,
    rw (replied_more texts text) (Appends-trans before between after (replied texts) (line text) wrote prints),
  )

  pub following_end : AllTaken → (count : ℕ) (read_failed write_failed : Type 0) (input left rest before between after : Option (List ℕ)) (old now next : Holding S)
      → AreTables now.catalog → IsFollowing count input left before between old now → FollowsNext g tables (Ok false) read_failed write_failed left rest between after now next
      → FollowsAll g tables (Ok tt) read_failed write_failed input rest before after old next
  following_end ends count read_failed write_failed input left rest before between after old now next its (requests, texts, taken, all, long, turns, wrote) (inl ((end, kept, same), keeps)) = (
    joined requests,
    requests,
    [],
    texts,
    ends input left (joined requests) taken end,
    (sym (append-nil (joined requests)), all, tt),
    subst (λ (h : Holding S). AllStepped g (FollowStep tables) requests texts old h) (sym same) turns,
    Appends-kept before between after (replied texts) wrote keeps,
  )
  following_end ends count read_failed write_failed input left rest before between after old now next its (requests, texts, taken, all, long, turns, wrote) (inr ([], (rests, cut, goes), prints)) = absurd cut
  following_end ends count read_failed write_failed input left rest before between after old now next its (requests, texts, taken, all, long, turns, wrote) (inr (first ∷ more, (rests, cut, goes), prints)) = (
    joined requests ++ first ∷ more,
    requests,
    first ∷ more,
    texts ++ unread_text ∷ [],
    taken_to_end input left (joined requests) (first ∷ more) taken rests,
    (refl, all, cut),
    steps_more g (FollowStep tables) old now next requests texts (first ∷ more) unread_text its turns goes,
    rw (replied_more texts unread_text) (Appends-trans before between after (replied texts) (line unread_text) wrote prints),
  )

  pub following_failed : (count : ℕ) (fault : NodeFault) (read_failed write_failed : Type 0) (input left rest before between after : Option (List ℕ)) (old now next : Holding S)
      → AreTables now.catalog → IsFollowing count input left before between old now → FollowsNext g tables (Err fault) read_failed write_failed left rest between after now next
      → FollowsAll g tables (Err fault) read_failed write_failed input rest before after old next
  following_failed count fault read_failed write_failed input left rest before between after old now next its (requests, texts, taken, all, long, turns, wrote) (inl (is, (failed, (part, behind, cut), same), keeps)) =
      inl (
        is,
        (
          joined requests ++ part,
          requests,
          part,
          texts,
          taken_before input left rest (joined requests) part taken behind,
          (refl, all, cut),
          subst (λ (h : Holding S). AllStepped g (FollowStep tables) requests texts old h) (sym same) turns,
          Appends-kept before between after (replied texts) wrote keeps,
          inl failed,
        ),
      )
  following_failed count fault read_failed write_failed input left rest before between after old now next its (requests, texts, taken, all, long, turns, wrote) (inr (asked, text, begun, first, goes, prints)) =
      inr (
        requests,
        asked,
        texts,
        text,
        subst (AreFirstLines input) (sym (joined_more requests asked)) (taken_first input left (joined requests) asked taken first),
        all,
        begun,
        steps_more g (FollowStep tables) old now next requests texts asked text its turns goes,
        breaks_off fault write_failed before between after (replied texts) (line text) wrote prints,
      )

  pub following_without_end : (count : ℕ) (read_failed write_failed : Type 0) (input left before after : Option (List ℕ)) (old now : Holding S) → count ≡ ASKS
      → IsFollowing count input left before after old now → FollowsAll g tables (Err Read) read_failed write_failed input left before after old now
  following_without_end count read_failed write_failed input left before after old now many (requests, texts, taken, all, long, turns, wrote) =
      inl (
        refl,
        (
          joined requests,
          requests,
          [],
          texts,
          (left, taken, stays left),
          (sym (append-nil (joined requests)), all, tt),
          turns,
          wrote,
          inr (long ∙ many),
        ),
      )

  -- behind an opening
  pub ends_following : (id : ℕ) (store last : S) (result : Result ⊤ NodeFault) (read_failed write_failed : Type 0) (input left before after : Option (List ℕ)) (old new : Holding S)
      → last ≡ new.store → Opened g id tables store old → FollowsAll g tables result read_failed write_failed input left before after old new
      → EndsFollowing g tables id store last input left read_failed write_failed before after result
  ends_following id store last (Ok done) read_failed write_failed input left before after old new is o (lines, requests, part, texts, all, are, turns, wrote) =
      rw is (lines, requests, part, texts, all, are, worked g id (FollowStep tables) tables store old new (with_part requests part) texts o turns, wrote)
  ends_following id store last (Err fault) read_failed write_failed input left before after old new is o (inl (read, (lines, requests, part, texts, all, are, turns, wrote, why))) =
      rw is (inr (inl (read, (lines, requests, part, texts, all, are, worked g id (FollowStep tables) tables store old new requests texts o turns, wrote, why))))
  ends_following id store last (Err fault) read_failed write_failed input left before after old new is o (inr (done, asked, texts, text, first, all, begun, turns, breaks)) =
      rw is (inr (inr (done, asked, texts, text, first, all, begun, worked g id (FollowStep tables) tables store old new (done ++ asked ∷ []) (texts ++ text ∷ []) o turns, breaks)))
