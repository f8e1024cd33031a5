-- An entry that widens a table, taken.
use Rattle.std.proofs.Common.{◌≡◌, ◌∙◌, ◌<◌, ◌+◌, ℕ, false, get_or, is_some, List, [], length, fold, Option, Some, None, option_map, refl, sym, ap, ap₂, subst, arith}
use Rattle.std.specs.Prelude.{Contains}
use Rattle.std.specs.FinMap.{len}
use Rattle.std.specs.Str.{bytes_eq}
use Rattle.std.proofs.lemmas.List.{get_or-map, get_or_default, length-map}
use Rattle.std.proofs.lemmas.List.Elements.{recursion_from_All}
use Rattle.std.proofs.lemmas.Option.{same_Some}
use Rattle.cs_value.specs.Catalog.{AreTables}
use Rattle.cs_value.specs.Facts.{by_test}
use Rattle.cs_value.specs.Key.{Place}
use Rattle.cs_value.specs.declared.catalog.TableDef.{TableDef}
use Rattle.cs_record.specs.Spelling.{row_bytes}
use Rattle.cs_change.specs.Action.{action_any}
use Rattle.cs_change.specs.Net.{net}
use Rattle.cs_change.specs.declared.change.Change.{Change}
use Rattle.cs_normal.specs.Normal.{change_of}
use Rattle.cs_normal.specs.State.{AreSame, MayStandAt, State}
use Rattle.cs_normal.specs.declared.normal.TableChanges.{TableChanges}
use Rattle.cs_conflict.specs.declared.clash.Clash.{Clash}
use Rattle.cs_conflict.specs.declared.wish.Wish.{Wish}
use Rattle.cs_store.specs.log.Entry.{MayWiden}
use Rattle.cs_store.specs.declared.log.body.Body.TheVariants.{Widen}
use Rattle.cs_store.specs.Contents.{Contents}
use Rattle.cs_store.specs.Laws.{WritesPending, WritesRows}
use Rattle.cs_store.specs.States.{AreEdits}
use Rattle.cs_store.specs.Written.{after_batch, edit_body}
use Rattle.cs_store.specs.declared.batch.Batch.{Batch}
use Rattle.cs_store.specs.edits.Edits.{BodyEdit}
use Rattle.cs_store.specs.declared.names.MetaName.{MetaName}
use Rattle.cs_store.specs.declared.names.MetaName.TheVariants.{Id, Version, Number, Flight, Pending, Catalog}
use Rattle.cs_widening.specs.Widening.{CanWiden, widened, widened_change, widened_place, widened_table, widened_tables}
use Rattle.cs_padding.specs.Laws.{SoundWidens}
use Rattle.cs_padding.specs.Pending.{MakesPending, pending_after, widened_pending, widened_view}
use Rattle.cs_pending.specs.Laws.{OneView}
use Rattle.cs_pending.specs.Nets.{action_with_flag, undo_none}
use Rattle.cs_pending.specs.Settling.{AreWithin, IsWithin, Settles}
use Rattle.cs_pending.specs.Shows.{IsSoundOf}
use Rattle.cs_pending.specs.Steps.{none_left, shows_after}
use Rattle.cs_pending.specs.View.{Changed, View, direct_net, middle, undo}
use Rattle.cs_pending.specs.declared.settling.Settling.{Settling}
use Rattle.cs_pending.specs.position.Laws.{CommitShowsOthers}
use Rattle.cs_pending.specs.position.Shows.{ShowsAt, base, flown}
use Rattle.cs_pending.specs.position.Values.{ValuePart, value_of}
use Rattle.cs_pending.specs.declared.position.position.Position.{Position}
use Rattle.cs_exchange.specs.taking.Laws.{OneLogRows, OneWidened, WidenedLeads}
use Rattle.cs_exchange.specs.taking.Steps.{IsCommittedWider, IsFlightFolded, IsWideSettling, WritesAll, wider_values}
use Rattle.cs_exchange.specs.taking.Takes.{IsTaken, IsWidenedIn, TakeAll, asked_nothing, brought, taken}
use Rattle.cs_exchange.proofs.TakingLemmas.Committed.{by_parts, none_under_way, parts_after}

-- ---- no change is taken

none_taken : {P : Type 0} (picks : P → Clash → Wish → P → Type 0) (log own theirs merged : State) (p : P) → TakeAll picks log own theirs merged [] p p
unfolding TakeAll
none_taken picks log own theirs merged p = refl

-- what was under way is pending: no change was taken, by any picker
pub folded_taken : {P : Type 0} (picks : P → Clash → Wish → P → Type 0) (tables : List TableDef) (flight : Option (List TableChanges)) (seen end : View) (p : P)
    → IsFlightFolded tables flight seen end → IsTaken picks tables flight [] seen end p p
folded_taken picks tables flight seen end p folded = record {
  takes = none_taken picks (base flight seen) seen.tables (middle end) end.tables p;
  applied = (tt, λ name key. ap (λ (x : Place). Some x) (sym (folded.log name key)));
  others = λ name key none. folded.same name key;
  pending = record {
    touched = λ table key inside touched. folded.direct table.name key touched table inside refl;
    untouched = λ name key none. (folded.still name key none).pending;
  };
}

-- the same of another picker
pub taken_by : {P Q : Type 0} (picks : P → Clash → Wish → P → Type 0) (others : Q → Clash → Wish → Q → Type 0) (tables : List TableDef) (flight : Option (List TableChanges)) (before after : View) (p q : P) (r : Q)
    → IsTaken picks tables flight [] before after p q → IsTaken others tables flight [] before after r r
taken_by picks others tables flight before after p q r is = record {
  takes = none_taken others (base flight before) before.tables (middle after) after.tables r;
  applied = is.applied;
  others = is.others;
  pending = is.pending;
}

-- ---- what is pending then

module _ {P : Type 0} (picks : P → Clash → Wish → P → Type 0) (tables : List TableDef) (contents : Contents) (position : Position) (before folded : View) (p q : P)
    (shows : ShowsAt tables contents position before) (is : IsTaken picks tables position.flight [] before folded p q) where
  pub same_log : AreSame (base position.flight before) (middle folded)
  same_log name key = sym (same_Some _ _ (is.applied.1 name key))

  pub same_rows : AreSame before.tables folded.tables
  same_rows name key = is.others name key refl

  -- elsewhere the log's row is the one before what is pending
  not_flown : (name key : List ℕ) → is_some (change_of name key (flown position.flight)) ≡ false → middle folded name key ≡ middle before name key
  not_flown name key none =
      same_log name key
      ∙ ap (λ (c : Option Change). undo (action_any c) (middle before name key)) (none_left (change_of name key (flown position.flight)) none)
      ∙ undo_none (middle before name key)

  pub folded_sound : IsSoundOf tables folded.pending folded.tables
  folded_sound = record {
    before_state = λ name key. subst (λ (x : Place). MayStandAt tables name key x) (sym (same_log name key)) (shows.under_way.sound.before_state name key);
    after_state = λ name key. subst (λ (x : Place). MayStandAt tables name key x) (sym (same_rows name key)) (shows.rows.rows.rows name key);
    net_of = λ table key inside. by_test (is_some (change_of table.name key (flown position.flight))) _
        (λ t. ap action_any (is.pending.touched table key inside t) ∙ action_with_flag false (net table.key_marks (middle folded table.name key) (folded.tables table.name key)))
        (λ f. ap action_any (is.pending.untouched table.name key f) ∙ shows.rows.sound.net_of table key inside
        ∙ ap₂ (λ (b x : Place). net table.key_marks b x) (sym (not_flown table.name key f)) (sym (same_rows table.name key)));
  }

-- ---- the rows with the new columns

same_wide : (name : List ℕ) (width : ℕ) (some other : State) → AreSame some other → AreSame (widened name width some) (widened name width other)
same_wide name width some other same table key =
    by_test (bytes_eq table name) _ (λ t. simp t (ap (widened_place width) (same table key))) (λ f. simp f (same table key))

pub widened_leads : SoundWidens → WidenedLeads
widened_leads sound tables contents position name width before after are shows is =
    let log = same_log asked_nothing tables contents position before is.folded tt tt shows is.taken in
    let wide = sound tables name width is.folded.pending is.folded.tables are is.may (folded_sound asked_nothing tables contents position before is.folded tt tt shows is.taken) in
    subst (λ (v : View). AreSame (widened name width (base position.flight before)) (base None v) × IsSoundOf (widened_tables name width tables) v.pending v.tables) (sym is.wide)
    (λ table key. undo_none (middle (widened_view name width is.folded) table key) ∙ wide.1 table key ∙ same_wide name width (base position.flight before) (middle is.folded) log table key, wide.0)

-- ---- one view

same_pending : (name : List ℕ) (width : ℕ) (some other : Changed) (table key : List ℕ) → some table key ≡ other table key → widened_pending name width some table key ≡ widened_pending name width other table key
same_pending name width some other table key same =
    by_test (bytes_eq table name) _ (λ t. simp t (ap (option_map (widened_change width)) same)) (λ f. simp f same)

was_there : (name : List ℕ) (width : ℕ) (tables : List TableDef) (wide : TableDef) → Contains (widened_tables name width tables) wide → (table : TableDef) × Contains tables table × (wide.name ≡ table.name)
was_there name width tables wide (place, within, is) =
    let inside : place < length tables = omega (arith, within, length-map tables (widened_table name width)) in
    let table = get_or tables place wide in
    let named : (widened_table name width table).name ≡ table.name = by_test (bytes_eq table.name name) _ (λ t. simp t refl) (λ f. simp f refl) in
    (table, (place, inside, get_or_default tables place table wide inside), ap (λ (t : TableDef). t.name) (sym (sym (get_or-map (widened_table name width) tables place wide wide inside) ∙ is)) ∙ named)

module _ (one_view : OneView) (log_rows : OneLogRows) (tables : List TableDef) (contents : Contents) (position : Position) (before seen : View) (shows : ShowsAt tables contents position before) (sees : ShowsAt tables contents position seen)
    (some other : View) (is : IsTaken asked_nothing tables position.flight [] before some tt tt) (so : IsTaken asked_nothing tables position.flight [] seen other tt tt) where
  one_rows : AreSame some.tables other.tables
  one_rows name key =
      same_rows asked_nothing tables contents position seen other tt tt sees so name key
      ∙ (log_rows tables contents position before seen shows sees).1 name key
      ∙ sym (same_rows asked_nothing tables contents position before some tt tt shows is name key)

  one_log : AreSame (middle some) (middle other)
  one_log name key =
      same_log asked_nothing tables contents position seen other tt tt sees so name key
      ∙ (log_rows tables contents position before seen shows sees).0 name key
      ∙ sym (same_log asked_nothing tables contents position before some tt tt shows is name key)

  one_pending : (table : TableDef) (key : List ℕ) → Contains tables table → other.pending table.name key ≡ some.pending table.name key
  one_pending table key inside = by_test (is_some (change_of table.name key (flown position.flight))) _
      (λ t. so.pending.touched table key inside t ∙ ap₂ (direct_net table) (one_log table.name key) (one_rows table.name key) ∙ sym (is.pending.touched table key inside t))
      (λ f. so.pending.untouched table.name key f ∙ (one_view tables contents before seen shows.rows sees.rows).1 table key inside ∙ sym (is.pending.untouched table.name key f))

pub one_widened : OneView → OneLogRows → OneWidened
one_widened one_view log_rows tables contents position name width before seen some other are shows sees is so =
    let rows = one_rows one_view log_rows tables contents position before seen shows sees is.folded so.folded is.taken so.taken in (
      λ table key.
          ap (λ (v : View). v.tables table key) so.wide ∙ same_wide name width is.folded.tables so.folded.tables rows table key ∙ sym (ap (λ (v : View). v.tables table key) is.wide),
      λ wide key inside.
          let was = was_there name width tables wide inside in
          let same = one_pending one_view log_rows tables contents position before seen shows sees is.folded so.folded is.taken so.taken was.0 key was.1 in
          ap (λ (v : View). v.pending wide.name key) so.wide
          ∙ same_pending name width so.folded.pending is.folded.pending wide.name key (subst (λ (n : List ℕ). so.folded.pending n key ≡ is.folded.pending n key) (sym was.2) same)
          ∙ sym (ap (λ (v : View). v.pending wide.name key) is.wide),
    )

-- ---- the edits

module _ (sound : SoundWidens) (tables : List TableDef) (position : Position) (name : List ℕ) (width : ℕ) (contents : Contents) (seen : View) (are : AreTables tables) (can : CanWiden tables name width)
    (end : View) (settling : Settling) (folded : IsFlightFolded tables position.flight seen end) (within : IsWithin tables settling) (settles : Settles tables contents position.pending settling end) where
  pub makes_folded : MakesPending tables contents settling.pending end.pending
  makes_folded = record { written = settles.pending_are; within = within.1; fits = settles.fits }

  pub wide_settling : (rows pending : List BodyEdit) → AreEdits (widened_tables name width tables) contents rows (widened name width seen.tables)
      → MakesPending (widened_tables name width tables) contents pending (widened_pending name width end.pending) → pending_after contents pending ≡ pending_after contents settling.pending
      → IsWideSettling tables position name width contents seen (record { rows = rows; pending = pending; count = settling.count })
  wide_settling rows pending edits makes count = (
    end,
    folded,
    (recursion_from_All (λ (edit : BodyEdit). edit.table < length (widened_tables name width tables)) rows edits.within, makes.within),
    record {
      rows_are = λ number table key at. edits.written number table key at ∙ ap (option_map row_bytes) (sym (same_wide name width seen.tables end.tables folded.same table.name key));
      pending_are = makes.written;
      fits = makes.fits;
      sound = (sound tables name width end.pending end.tables are can settles.sound).0;
      counted = λ right. settles.counted right ∙ sym count;
    },
  )

-- ---- the commit

wider_value : (tables others : List TableDef) (old : Position) (next pending : ℕ) (name : MetaName) → parts_after (wider_values next others) name (value_of tables old name) ≡ value_of others (brought old next pending) name
wider_value tables others old next pending Id = refl
wider_value tables others old next pending Version = refl
wider_value tables others old next pending Number = refl
wider_value tables others old next pending Flight = refl
wider_value tables others old next pending Pending = refl
wider_value tables others old next pending Catalog = refl

pub committed_wider : CommitShowsOthers → WritesRows → WritesPending → (tables others : List TableDef) (position : Position) (next : ℕ) (settling : Settling) (contents : Contents) (batch : Batch)
    → WritesAll settling (wider_values next others) batch → length others ≡ length tables
    → IsCommittedWider tables others position next settling contents (after_batch batch contents)
committed_wider law rows_law pending_law tables others position next settling contents batch is same seen end shows within settles =
    let count : len (after_batch batch contents).pending ≡ len (fold edit_body contents.pending settling.pending) = ap (λ (es : List BodyEdit). len (fold edit_body contents.pending es)) is.pending in (
      law tables others contents batch position (brought position next (len (after_batch batch contents).pending)) seen end same shows
          (subst (λ (es : List BodyEdit). AreWithin others es) (sym is.rows) within.0)
          (subst (λ (es : List BodyEdit). AreWithin others es) (sym is.pending) within.1)
          is.log
          (λ name. by_parts batch.meta.items name (value_of tables position name)
          ∙ ap (λ (ps : List ValuePart). parts_after ps name (value_of tables position name)) is.values
          ∙ wider_value tables others position next (len (after_batch batch contents).pending) name)
          (shows_after others contents batch settling is.rows is.pending rows_law pending_law position.pending end settles)
          (none_under_way others end settles.sound.before_state)
          refl
          shows.numbered,
      settles.counted shows.counted ∙ sym count,
    )

-- ---- both

module _ (tables others : List TableDef) (position : Position) (name : List ℕ) (width : ℕ) (old mid left : Contents) (settling : Settling) (may : MayWiden tables (Widen name width)) (wide : others ≡ widened_tables name width tables)
    (same : mid ≡ old) (settled : (seen : View) → ShowsAt tables old position seen → IsWideSettling tables position name width old seen settling)
    (committed : IsCommittedWider tables others position (position.version + 1) settling mid left) where
  done : (seen : View) (shows : ShowsAt tables old position seen)
      → ShowsAt (widened_tables name width tables) left (taken position (len left.pending)) (widened_view name width (settled seen shows).0) × (settling.count ≡ len left.pending)
  done seen shows =
      let s = settled seen shows in
      let by = subst (λ (c : Contents). IsCommittedWider tables (widened_tables name width tables) position (position.version + 1) settling c left) same
      (subst (λ (ts : List TableDef). IsCommittedWider tables ts position (position.version + 1) settling mid left) wide committed) in
      by seen (widened_view name width s.0) shows s.2 s.3

  pub widened_in : IsWidenedIn tables position name width old left
  widened_in before shows =
      let s = settled before shows in
      let is = done before shows in (
        widened_view name width s.0,
        is.0,
        record { may = may; folded = s.0; taken = folded_taken asked_nothing tables position.flight before s.0 tt s.1; wide = refl },
      )

  pub widened_count : ((view : View) × ShowsAt tables old position view) → settling.count ≡ len left.pending
  widened_count (before, shows) = (done before shows).1
