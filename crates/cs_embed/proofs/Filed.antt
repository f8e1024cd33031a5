-- Two files of a database, of which the log was empty as it was opened, and is copied in as it is closed.
use Rattle.std.proofs.Common.{◌≡◌, ◌∙◌, ℕ, List, [], Ok, Err, refl, sym, ap, subst}
use Rattle.std.specs.Prelude.{Result, IfOk}
use Rattle.sqlite_disk.specs.declared.Disk as disk
use Rattle.sqlite_disk.specs.declared.Files.{Files}
use Rattle.sqlite.specs.Closing.{IsCopied}
use Rattle.sqlite.specs.Effect.{Database}
use Rattle.sqlite.specs.Files.{AreFoundIn, Finds, file_state, image_of, over_files}
use Rattle.sqlite.specs.Held.{Held}
use Rattle.sqlite.specs.Recovery.{Image}
use Rattle.sqlite.specs.Start.{FindsIn}
use Rattle.sqlite.specs.State.{State}
use Rattle.sqlite_store.specs.declared.store.FileStore.{FileStore}
use Rattle.cs_sql.specs.Keeping.{Kept, ShowsStore, holds}
use Rattle.cs_sql.specs.Opening.{IsOpenedAt}
use Rattle.cs_store.specs.Contents.{Contents}
use Rattle.cs_embed.specs.Files.{HoldTrees, KeepStore, OpenTo, alone}

-- what was found is what the bytes alone hold
pub found_alone : {D : Type 0} {g : disk.Ghosts D} (files : Files D) (conn : Held (FileStore D g)) (bytes : List ℕ) → g.seen files.log ≡ [] → g.seen files.db ≡ bytes → Finds files conn
    → FindsIn (alone bytes) (file_state conn)
found_alone {D} {g} files conn bytes empty is finds =
    let same : image_of g files ≡ alone bytes = rw (empty, is) refl in
    subst (λ (image : Image). FindsIn image (file_state conn)) same (record { holds = finds.holds; reads = finds.reads })

-- what was copied in is what the database file alone holds
pub left_alone : {D : Type 0} {g : disk.Ghosts D} (files : Files D) (conn : Held (FileStore D g)) → IsCopied conn files → HoldTrees (g.seen files.db) (file_state conn).committed.trees
left_alone files conn copied = copied.seen.alone

-- what follows of each value follows of a result
pub if_ok : {T E : Type 0} {P Q : T → Type 0} (result : Result T E) → ((value : T) → P value → Q value) → IfOk result P → IfOk result Q
if_ok (Ok value) follows is = follows value is
if_ok (Err fault) follows is = is

-- what a store holds that is opened in the bytes alone
pub opened_holds : {D : Type 0} {g : disk.Ghosts D} (bytes : List ℕ) (store : Kept (FileStore D g)) → IsOpenedAt (alone bytes) store → OpenTo bytes (holds over_files store)
opened_holds bytes store it =
    let start = file_state it.conn in
    let shown : start.now.trees ≡ start.committed.trees = ap (λ (d : Database). d.trees) it.opened.0.clean in (
      start.now,
      record {
        sound = (it.opened.1 it.opened.0.is_open).0;
        holds = λ trees held. shown ∙ it.found.holds trees held;
        reads = subst (AreFoundIn (alone bytes)) (sym shown) it.found.reads;
      },
      it.adopted.from,
    )

-- the bytes hold what the connection of a closed store shows
pub kept_store : (bytes : List ℕ) (held : Contents) (shown : State) → HoldTrees bytes shown.committed.trees → ShowsStore held shown → KeepStore bytes held
kept_store bytes held shown trees shows = (shown.committed.trees, trees, shows.opens, shows.held_is)

-- and what follows of three facts of it
pub if_ok_all : {T E : Type 0} {P Q R Goal : T → Type 0} (result : Result T E) → ((value : T) → P value → Q value → R value → Goal value) → IfOk result P → IfOk result Q → IfOk result R → IfOk result Goal
if_ok_all (Ok value) follows p q r = follows value p q r
if_ok_all (Err fault) follows p q r = p
