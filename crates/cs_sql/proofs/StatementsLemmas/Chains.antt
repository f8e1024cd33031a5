-- Steps after one another.
use Rattle.std.proofs.Common.{◌≡◌, Result, Ok, Err, OnOk, ℕ, ℤ, List, [], ◌∷◌, ◌++◌, ◌+◌, ◌<◌, length, take, get_or, Option, Some, None, IsTrue, IfSome, refl, sym, ap, subst, ◌∙◌, arith, cond, Bool, true, false}
use Rattle.std.specs.FinMap.{get, insert, remove, get-insert, get-remove, same_map}
use Rattle.std.specs.Cmp.{eq_by_cmp_equiv}
use Rattle.std.specs.Ordering.{eq_by_cmp}
use Rattle.std.proofs.lemmas.Cmp.{nat_list_cmp_total}
use Rattle.std.proofs.lemmas.Map.Lookups.{exact_bytes}
use Rattle.sqlite.specs.State.{State, HasCleanDisk, Survives}
use Rattle.sqlite.specs.Effect.{Database, IsDatabase}
use Rattle.sqlite.proofs.StateLemmas.{survives_then}
use Rattle.cs_order.specs.Order.{by_bytes}
use Rattle.cs_store.specs.Contents.{Contents, place_cmp, StorePlace, Bodies, Meta}
use Rattle.cs_store.specs.Written.{edit_body, edit_meta}
use Rattle.cs_store.specs.edits.Edits.{BodyEdit}
use Rattle.cs_store.specs.declared.batch.Batch.{Batch}
use Rattle.cs_store.specs.declared.batch.MetaEdit.{MetaEdit}
use Rattle.std.specs.List.{fold, slice_get}
use Rattle.std.proofs.lemmas.List.{take_more}
use Rattle.std.proofs.lemmas.List.Sums.{fold-append}
use Rattle.std.proofs.lemmas.Option.{slice_get_within, get_or_from_slice_get}
use Rattle.cs_sql.specs.declared.statements.spaces.Space.{Space}
use Rattle.cs_sql.specs.declared.statements.spaces.Space.TheVariants.{Rows, Pending}
use Rattle.cs_sql.specs.schema.Schemas.{store_over}
use Rattle.cs_sql.specs.statements.Tables.{AreKept, IsKept, contents_in}
use Rattle.cs_sql.specs.statements.Steps.{Edits, HasBatch, placed, with_at, with_batch, with_edit, with_edits, with_value, with_values, without_at}
use Rattle.cs_sql.proofs.StatementsLemmas.Answers.{place_total, place_exact}

removed : (bodies : Bodies) (place : StorePlace) → get (remove bodies place) place ≡ None
removed bodies place = get-remove place_total bodies place place ∙ ap (λ b. cond b None (get bodies place)) ((eq_by_cmp_equiv place_total).refl place)

passed : {A : Type 0} (b : Bool) (x y : Option A) → cond b x (cond b None y) ≡ cond b x y
passed true x y = refl
passed false x y = refl

set_anew : (bodies : Bodies) (place : StorePlace) (body : List ℕ) → insert (remove bodies place) place body ≡ insert bodies place body
set_anew bodies place body = same_map place_total place_exact _ _ (λ q.
    get-insert place_total (remove bodies place) place body q ∙ ap (cond (eq_by_cmp place_cmp q place) (Some body)) (get-remove place_total bodies place q)
    ∙ passed (eq_by_cmp place_cmp q place) (Some body) (get bodies q) ∙ sym (get-insert place_total bodies place body q))

pub removed_at : (space : Space) (was : Contents) (table : ℤ) (key : List ℕ) → get (placed space (without_at space table key was)) (table, key) ≡ None
removed_at Rows was table key = removed was.rows (table, key)
removed_at Pending was table key = removed was.pending (table, key)

-- a body that is removed first and then set
pub set_at_anew : (space : Space) (was : Contents) (table : ℤ) (key body : List ℕ) → with_at space table key body (without_at space table key was) ≡ with_at space table key body was
set_at_anew Rows was table key body = ap (λ (m : Bodies). record was { rows = m }) (set_anew was.rows (table, key) body)
set_at_anew Pending was table key body = ap (λ (m : Bodies). record was { pending = m }) (set_anew was.pending (table, key) body)

pub meta_removed : (meta : Meta) (name : List ℕ) → get (remove meta name) name ≡ None
meta_removed meta name = get-remove nat_list_cmp_total meta name name ∙ ap (λ b. cond b None (get meta name)) ((eq_by_cmp_equiv nat_list_cmp_total).refl name)

pub meta_set_anew : (meta : Meta) (name value : List ℕ) → insert (remove meta name) name value ≡ insert meta name value
meta_set_anew meta name value = same_map nat_list_cmp_total exact_bytes _ _ (λ q.
    get-insert nat_list_cmp_total (remove meta name) name value q ∙ ap (cond (eq_by_cmp (by_bytes) q name) (Some value)) (get-remove nat_list_cmp_total meta name q)
    ∙ passed (eq_by_cmp (by_bytes) q name) (Some value) (get meta q) ∙ sym (get-insert nat_list_cmp_total meta name value q))

pub quiet_then : (a b c : State) → Survives a b (λ _. ⊥) → Survives b c (λ _. ⊥) → Survives a c (λ _. ⊥)
quiet_then a b c p q = survives_then a b c (λ _. ⊥) (λ _. ⊥) (λ _. ⊥) (λ _ db none. none) (λ _ db none. none) p q

-- a step that reads what the steps before it left
pub then_edits : (a b c : State) (was : Contents) (f : Contents → Contents) → Edits was a b → Edits (f (contents_in b.now.trees)) b c → Edits (f was) a c
then_edits a b c was f p q = record {
  inside = q.inside;
  kept = record { was_open = λ o. p.kept.was_open (q.kept.was_open o); committed = λ o. q.kept.committed o ∙ p.kept.committed (q.kept.was_open o) };
  stays = λ o. q.stays (p.stays o);
  contents = λ o. q.contents o ∙ ap f (p.contents (q.kept.was_open o));
}

pub then_ok : {T E : Type 0} (r : Result T E) (a b c : State) (was : Contents) (f : Contents → Contents) → Edits was a b → OnOk r (Edits (f (contents_in b.now.trees)) b c) → OnOk r (Edits (f was) a c)
then_ok (Ok x) a b c was f p q = then_edits a b c was f p q
then_ok (Err e) a b c was f p q = tt

-- one element more, which stands there
take_there : {X : Type 0} (xs : List X) (i : ℕ) (x : X) → slice_get xs i ≡ Some x → take (i + 1) xs ≡ take i xs ++ x ∷ []
take_there xs i x there = take_more xs i x (slice_get_within xs i x there) ∙ ap (λ e. take i xs ++ e ∷ []) (get_or_from_slice_get xs i x x there)

-- one edit more
edited_more : (space : Space) (was : Contents) (edits : List BodyEdit) (edit : BodyEdit) → with_edit space edit (with_edits space edits was) ≡ with_edits space (edits ++ edit ∷ []) was
edited_more Rows was edits edit = ap (λ (m : Bodies). record was { rows = m }) (sym (fold-append edit_body was.rows edits (edit ∷ [])))
edited_more Pending was edits edit = ap (λ (m : Bodies). record was { pending = m }) (sym (fold-append edit_body was.pending edits (edit ∷ [])))

pub one_more : (space : Space) (a b c : State) (was : Contents) (edits : List BodyEdit) (i : ℕ) (edit : BodyEdit) → slice_get edits i ≡ Some edit → Edits (with_edits space (take i edits) was) a b
    → Edits (with_edit space edit (contents_in b.now.trees)) b c → Edits (with_edits space (take (i + 1) edits) was) a c
one_more space a b c was edits i edit there p q =
    let same = edited_more space was (take i edits) edit ∙ ap (λ es. with_edits space es was) (sym (take_there edits i edit there)) in
    subst (λ k. Edits k a c) same (then_edits a b c (with_edits space (take i edits) was) (with_edit space edit) p q)

pub one_value_more : (a b c : State) (was : Contents) (edits : List MetaEdit) (i : ℕ) (edit : MetaEdit) → i < length edits → edit ≡ get_or edits i edit → Edits (with_values (take i edits) was) a b
    → Edits (with_value edit (contents_in b.now.trees)) b c → Edits (with_values (take (i + 1) edits) was) a c
one_value_more a b c was edits i edit low is p q =
    let all : take (i + 1) edits ≡ take i edits ++ edit ∷ [] = take_more edits i edit low ∙ ap (λ e. take i edits ++ e ∷ []) (sym is) in
    let same : with_value edit (with_values (take i edits) was) ≡ with_values (take (i + 1) edits) was =
    ap (λ (m : Meta). record was { meta = m }) (sym (ap (fold edit_meta was.meta) all ∙ fold-append edit_meta was.meta (take i edits) (edit ∷ []))) in
    subst (λ k. Edits k a c) same (then_edits a b c (with_values (take i edits) was) (with_value edit) p q)

-- ---- the whole commit

-- what a database that is kept has, its trees have
pub trees_kept : (db : Database) → IsDatabase db → IsKept db → AreKept db.trees
trees_kept db sound kept = let same : db ≡ store_over db.trees = λ i. record { schema = kept.schema i; trees = db.trees } in record { sound = subst IsDatabase same sound; kept = subst IsKept same kept }

-- what a stop may leave of a transaction that wrote a batch and was committed
pub survives_commit : (was begun last end : State) (batch : Batch) (version : ℤ) → (HasCleanDisk begun → IsTrue was.is_open × IsTrue begun.is_open)
    → Survives begun last (λ _. ⊥) → (HasCleanDisk last → Edits (with_batch batch version (contents_in was.now.trees)) begun last)
    → (HasCleanDisk last → IsTrue last.is_open → IfSome batch.log (λ _. get (contents_in was.now.trees).log version ≡ None)) → Survives last end (λ db. db ≡ last.now.trees)
    → Survives begun end (HasBatch batch version was)
survives_commit was begun last end batch version opened q writes free r =
    survives_then begun last end (λ _. ⊥) (λ db. db ≡ last.now.trees) (HasBatch batch version was) (λ _ db none. absurd none)
    (λ clean db is.
    let late : HasCleanDisk last = omega (arith, r.clean) in
    let open_then = opened (omega (arith, r.clean, q.clean)) in
    let it = writes late in
    let stays = it.stays open_then.1 in
    record {
      was_open = open_then.0;
      kept = subst AreKept (sym is) (trees_kept last.now (it.inside.sound stays) (it.inside.kept stays));
      contents = ap contents_in is ∙ it.contents stays;
      free = free late stays;
    })
    q r
