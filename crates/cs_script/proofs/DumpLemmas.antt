-- Rows and replicas, one after another.
use Rattle.std.proofs.Common.{◌≡◌, ℕ, suc, ◌+◌, ◌<◌, List, [], ◌∷◌, ◌++◌, length, take, get_or, refl, sym, ap, subst, ◌∙◌, append_assoc, append-nil, length-take-le, arith, inl, inr}
use Rattle.std.specs.Prelude.{Some, Result, Ok, Err, OnOk, codes, slice_get}
use Rattle.std.specs.Fmt.{decimal}
use Rattle.std.proofs.lemmas.List.{take_more}
use Rattle.std.proofs.lemmas.Option.{slice_get-get_or, slice_get_cases}
use Rattle.cs_value.specs.declared.catalog.TableDef.{TableDef}
use Rattle.cs_value.specs.declared.value.Value.{Value}
use Rattle.cs_store.specs.log.Log.{state_of}
use Rattle.cs_normal.specs.State.{State}
use Rattle.cs_pending.specs.declared.position.position.Position.{Position}
use Rattle.cs_pending.specs.rows.Rows.{AreRowsOf}
use Rattle.cs_text.specs.Text.{line}
use Rattle.cs_node_lines.specs.told.Told.{place_text}
use Rattle.cs_world.specs.World.{Member, World}
use Rattle.cs_script.specs.Dump.{AreReplicaLines}
use Rattle.cs_script.specs.Turns.{PutsDump, PutsReplica, PutsReplicas}
use Rattle.cs_node_lines.specs.told.Dump.{AreRowLines, PutsRows, flight_count, numbered_text, replica_text, rows_text}

rows_push : (tables : List TableDef) (table : TableDef) (state : State) (text : List ℕ) (rows : List (List ℕ × List Value))
    → AreRowLines tables state text → AreRowsOf (state table.name) rows
    → AreRowLines (tables ++ table ∷ []) state (text ++ rows_text table.name rows)
rows_push [] table state text rows lines are =
    let more = rows_text table.name rows in
    (rows, [], are, refl, ap (λ t. t ++ more) lines ∙ sym (append-nil more))
rows_push (first ∷ tables) table state text rows lines are =
    let more = rows_text table.name rows in (
      lines.0,
      lines.1 ++ more,
      lines.2,
      rows_push tables table state lines.1 rows lines.3 are,
      ap (λ t. t ++ more) lines.4 ∙ append_assoc (rows_text first.name lines.0) lines.1 more,
    )

pub puts_rows_none : (state : State) (before after : List ℕ) → after ≡ before → PutsRows [] state before after
puts_rows_none state before after is = ([], refl, is ∙ sym (append-nil before))

pub puts_rows_more : (tables more : List TableDef) (table : TableDef) (state : State) (before between after : List ℕ) (rows : List (List ℕ × List Value))
    → more ≡ tables ++ table ∷ [] → PutsRows tables state before between → AreRowsOf (state table.name) rows
    → after ≡ between ++ rows_text table.name rows → PutsRows more state before after
puts_rows_more tables more table state before between after rows is so_far are put =
    let text = rows_text table.name rows in
    rw is (
      so_far.0 ++ text,
      rows_push tables table state so_far.0 rows so_far.1 are,
      put ∙ ap (λ t. t ++ text) so_far.2 ∙ append_assoc before so_far.0 text,
    )

-- rows of the table at a place
pub puts_rows_at : (tables : List TableDef) (at : ℕ) (table : TableDef) (state : State) (before between after : List ℕ) (rows : List (List ℕ × List Value))
    → at < length tables → table ≡ get_or tables at table → PutsRows (take at tables) state before between
    → ((def : TableDef) → slice_get tables at ≡ Some def → AreRowsOf (state def.name) rows) → after ≡ between ++ rows_text table.name rows → PutsRows (take (at + 1) tables) state before after
puts_rows_at tables at table state before between after rows less here so_far are put =
    let wider : take (at + 1) tables ≡ take at tables ++ table ∷ [] = take_more tables at table less ∙ ap (λ (t : TableDef). take at tables ++ t ∷ []) (sym here) in
    let there : slice_get tables at ≡ Some table = slice_get-get_or tables at table less ∙ ap (λ t. Some t) (sym here) in
    puts_rows_more (take at tables) (take (at + 1) tables) table state before between after rows wider so_far (are table there) put

replicas_push : (tables : List TableDef) (r : ℕ) (members : List Member) (member : Member) (text rows : List ℕ)
    → AreReplicaLines tables r members text → AreRowLines tables member.view.tables rows
    → AreReplicaLines tables r (members ++ member ∷ []) (text ++ (line (replica_text (r + length members) member.position) ++ rows))
replicas_push tables r [] member text rows lines are =
    let same : r + 0 ≡ r = omega arith in
    let more = line (replica_text (r + 0) member.position) ++ rows in
    (rows, [], are, refl, ap (λ t. t ++ more) lines ∙ ap (λ n. line (replica_text n member.position) ++ rows) same ∙ sym (append-nil (line (replica_text r member.position) ++ rows)))
replicas_push tables r (first ∷ members) member text rows lines are =
    let same : r + 1 + length members ≡ r + suc (length members) = omega arith in
    let more = line (replica_text (r + suc (length members)) member.position) ++ rows in
    let further = subst (λ (n : ℕ). AreReplicaLines tables (r + 1) (members ++ member ∷ []) (lines.1 ++ (line (replica_text n member.position) ++ rows))) same
    (replicas_push tables (r + 1) members member lines.1 rows lines.3 are) in (
      lines.0,
      lines.1 ++ more,
      lines.2,
      further,
      ap (λ t. t ++ more) lines.4 ∙ append_assoc (line (replica_text r first.position) ++ lines.0) lines.1 more,
    )

pub puts_replicas_none : (tables : List TableDef) (before after : List ℕ) → after ≡ before → PutsReplicas tables [] before after
puts_replicas_none tables before after is = ([], refl, is ∙ sym (append-nil before))

-- one more replica
pub puts_replicas_more : (tables : List TableDef) (members : List Member) (r : ℕ) (before between after : List ℕ)
    → r < length members → PutsReplicas tables (take r members) before between
    → ((member : Member) → slice_get members r ≡ Some member → PutsReplica tables r member between after)
    → PutsReplicas tables (take (r + 1) members) before after
puts_replicas_more tables members r before between after less so_far put =
    elim (slice_get_cases members r).1 as (λ _. PutsReplicas tables (take (r + 1) members) before after) [
      | inl there ↦
          let member = there.0 in
          let one = put member there.2 in
          let number : 0 + length (take r members) ≡ r = omega (arith, length-take-le r members (omega arith)) in
          let more = line (replica_text r member.position) ++ one.0 in
          let lines = subst (λ (n : ℕ). AreReplicaLines tables 0 (take r members ++ member ∷ []) (so_far.0 ++ (line (replica_text n member.position) ++ one.0))) number
          (replicas_push tables 0 (take r members) member so_far.0 one.0 so_far.1 one.1) in
          let wider : take (r + 1) members ≡ take r members ++ member ∷ [] = take_more members r member less ∙ ap (λ (m : Member). take r members ++ m ∷ []) there.3 in (
            so_far.0 ++ more,
            subst (λ (ms : List Member). AreReplicaLines tables 0 ms (so_far.0 ++ more)) (sym wider) lines,
            one.2 ∙ append_assoc between (line (replica_text r member.position)) one.0 ∙ ap (λ t. t ++ more) so_far.2 ∙ append_assoc before so_far.0 more,
          )
      | inr past ↦ absurd (omega (arith, past.0))
    ]

-- the whole
pub puts_dump : (world : World) (tables : List TableDef) (newest : ℕ) (before first second after : List ℕ) → tables ≡ world.tables → newest ≡ length world.log
    → first ≡ before ++ line (codes "hub " ++ decimal newest)
    → PutsRows tables (state_of world.log) first second → PutsReplicas tables world.members second after
    → PutsDump world before after
puts_dump world tables newest before first second after same is hub rows replicas =
    let title = line (codes "hub " ++ decimal newest) in (
      line (codes "hub " ++ decimal (length world.log)) ++ rows.0 ++ replicas.0,
      (
        rows.0,
        replicas.0,
        subst (λ (t : List TableDef). AreRowLines t (state_of world.log) rows.0) same rows.1,
        subst (λ (t : List TableDef). AreReplicaLines t 0 world.members replicas.0) same replicas.1,
        refl,
      ),
      replicas.2 ∙ ap (λ t. t ++ replicas.0) (rows.2 ∙ ap (λ t. t ++ rows.0) hub ∙ append_assoc before title rows.0)
          ∙ append_assoc before (title ++ rows.0) replicas.0
          ∙ ap (λ n. before ++ (line (codes "hub " ++ decimal n) ++ rows.0 ++ replicas.0)) is,
    )

pub on_ok : {T E : Type 0} (r : Result T E) (P Q : Type 0) → (P → Q) → OnOk r P → OnOk r Q
on_ok (Ok x) P Q f p = f p
on_ok (Err e) P Q f p = tt

-- where a replica stands
title_is : (r version pending flight : ℕ) (position : Position) → version ≡ position.version → pending ≡ position.pending → flight ≡ flight_count position.flight
    → numbered_text r (place_text version pending flight) ≡ replica_text r position
title_is r version pending flight position e f g =
    ap (λ n. numbered_text r (place_text n pending flight)) e ∙ ap (λ n. numbered_text r (place_text position.version n flight)) f
    ∙ ap (λ n. numbered_text r (place_text position.version position.pending n)) g

-- and its rows
pub puts_replica : (tables : List TableDef) (r version pending flight : ℕ) (member : Member) (before title after : List ℕ)
    → version ≡ member.position.version → pending ≡ member.position.pending → flight ≡ flight_count member.position.flight
    → title ≡ before ++ line (numbered_text r (place_text version pending flight))
    → PutsRows tables member.view.tables title after → PutsReplica tables r member before after
puts_replica tables r version pending flight member before title after e f g is rows =
    let same = title_is r version pending flight member.position e f g in
    (rows.0, rows.1, rows.2 ∙ ap (λ t. t ++ rows.0) (is ∙ ap (λ w. before ++ line w) same))
