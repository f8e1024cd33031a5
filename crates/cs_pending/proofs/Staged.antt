-- Edits in the making: what is found behind them, and what a commit of them leaves.
use Rattle.std.proofs.Common.{◌≡◌, ◌+◌, ◌&&◌, ◌++◌, ℕ, true, false, cond, List, [], ◌∷◌, take, Option, Some, None, Result, Ok, Err, IfOk, fold, nat_eq, refl, sym, ap, subst, ◌∙◌}
use Rattle.std.specs.Prelude.{option_map, slice_get}
use Rattle.std.specs.Borrow.{Bor}
use Rattle.std.specs.FinMap.{len}
use Rattle.std.proofs.lemmas.Bool.Decides.{Decides-eqb}
use Rattle.std.proofs.lemmas.Cmp.{eq_by_cmp_equiv, nat_list_cmp_total}
use Rattle.std.proofs.lemmas.List.{take_more}
use Rattle.std.proofs.lemmas.Option.{slice_get-get_or, slice_get_within}
use Rattle.cs_order.specs.Facts.{both_true, same_is}
use Rattle.cs_order.specs.Order.{same_bytes}
use Rattle.cs_value.specs.Facts.{by_test, some_same}
use Rattle.cs_value.specs.declared.catalog.TableDef.{TableDef}
use Rattle.cs_store.specs.Contents.{Contents, stored_pending, stored_tables}
use Rattle.cs_store.specs.Laws.{KeepsOtherPending, KeepsOtherRows, WritesPending, WritesRows, row_after}
use Rattle.cs_store.specs.Written.{after_batch, edit_body}
use Rattle.cs_store.specs.declared.batch.Batch.{Batch}
use Rattle.cs_store.specs.edits.Edits.{BodyEdit}
use Rattle.cs_pending.specs.Edits.{IsChangedBy}
use Rattle.cs_pending.specs.Placing.{IsStandingAt, StandsIn, body_found, standing_found}
use Rattle.cs_pending.specs.Settling.{AreWithin, IsSettledIn, IsWithin, Settles}
use Rattle.cs_pending.specs.Shows.{ShowsRows, ShowsSome}
use Rattle.cs_pending.specs.Steps.{rest_after, row_more, shows_after}
use Rattle.cs_pending.specs.View.{View}
use Rattle.cs_pending.specs.declared.placing.Found.{Found}
use Rattle.cs_pending.specs.declared.settling.Settling.{Settling}
use Rattle.cs_store.specs.declared.fault.StoreFault.{StoreFault}

-- ---- what edits leave at a place

at_spot : (n t : ℕ) (j k : List ℕ) → (t ≡ n) × (k ≡ j) → (nat_eq n t && same_bytes j k) ≡ true
at_spot n t j k is =
    let number : nat_eq n t ≡ true = (Decides-eqb n t).1 (sym is.0) in
    let key : same_bytes j k ≡ true = subst (λ (x : List ℕ). same_bytes j x ≡ true) (sym is.1) ((eq_by_cmp_equiv nat_list_cmp_total).refl j) in
    simp (number, key) refl

off_spot : (n t : ℕ) (j k : List ℕ) → ((t ≡ n) × (k ≡ j) → ⊥) → (nat_eq n t && same_bytes j k) ≡ false
off_spot n t j k apart =
    by_test (nat_eq n t && same_bytes j k) _
    (λ e. let both = both_true (nat_eq n t) (same_bytes j k) e in absurd (apart (sym ((Decides-eqb n t).0 both.0), sym (same_is j k both.1))))
    (λ e. e)

pub take_next : {X : Type 0} (xs : List X) (at : ℕ) (x : X) → slice_get xs at ≡ Some x → take (at + 1) xs ≡ take at xs ++ x ∷ []
take_next xs at x there =
    let within = slice_get_within xs at x there in
    take_more xs at x within ∙ ap (λ y. take at xs ++ y ∷ []) (some_same (sym (slice_get-get_or xs at x within) ∙ there))

module _ (edits : List BodyEdit) (at n : ℕ) (k : List ℕ) (found : Option (Option (Bor (List ℕ)))) (edit : BodyEdit) (there : slice_get edits at ≡ Some edit)
    (so_far : (stood : Option (List ℕ)) → row_after (take at edits) n k stood ≡ body_found found stood) where
  more : (stood : Option (List ℕ)) → row_after (take (at + 1) edits) n k stood ≡ cond (nat_eq n edit.table && same_bytes k edit.key) edit.body (row_after (take at edits) n k stood)
  more stood = ap (λ (es : List BodyEdit). row_after es n k stood) (take_next edits at edit there) ∙ row_more (take at edits) edit n k stood

  pub found_here : (body : Option (Bor (List ℕ))) → option_map (λ b. b.now) body ≡ edit.body → (edit.table ≡ n) × (edit.key ≡ k)
      → (stood : Option (List ℕ)) → row_after (take (at + 1) edits) n k stood ≡ body_found (Some body) stood
  found_here body is of stood = more stood ∙ ap (λ t. cond t edit.body (row_after (take at edits) n k stood)) (at_spot n edit.table k edit.key of) ∙ sym is

  pub found_before : ((edit.table ≡ n) × (edit.key ≡ k) → ⊥) → (stood : Option (List ℕ)) → row_after (take (at + 1) edits) n k stood ≡ body_found found stood
  found_before other stood = more stood ∙ ap (λ t. cond t edit.body (row_after (take at edits) n k stood)) (off_spot n edit.table k edit.key other) ∙ so_far stood

-- ---- a commit of them

-- edits of no place are within the tables
pub none_within : (tables : List TableDef) (settling : Settling) → settling.rows ≡ [] → settling.pending ≡ [] → IsWithin tables settling
none_within tables settling rows pending = (subst (λ (es : List BodyEdit). AreWithin tables es) (sym rows) tt, subst (λ (es : List BodyEdit). AreWithin tables es) (sym pending) tt)

-- no edit leads to what is shown
pub settled_none : (tables : List TableDef) (settling : Settling) (contents : Contents) → settling.rows ≡ [] → settling.pending ≡ [] → IsSettledIn tables settling contents contents
settled_none tables settling contents rows pending = record {
  rest = record { meta = refl; log = refl; rows = λ place elsewhere. refl; pending = λ place elsewhere. refl };
  shows = λ begun view settles. record {
    rows = record {
      rows = settles.sound.after_state;
      stored = λ n t k at. ap (λ (es : List BodyEdit). row_after es n k (stored_tables contents n k)) (sym rows) ∙ settles.rows_are n t k at;
    };
    pends = record {
      stored = λ n t k at. ap (λ (es : List BodyEdit). row_after es n k (stored_pending contents n k)) (sym pending) ∙ settles.pending_are n t k at;
      fits = settles.fits;
    };
    sound = settles.sound;
  };
  counted = λ begun view settles right. settles.counted right ∙ ap (λ (es : List BodyEdit). len (fold edit_body contents.pending es)) pending;
}

pub settled_in : WritesRows → WritesPending → KeepsOtherRows → KeepsOtherPending → (tables : List TableDef) (settling : Settling) (contents : Contents) (batch : Batch)
    → batch.rows ≡ settling.rows → batch.pending ≡ settling.pending → batch.meta.items ≡ [] → batch.log ≡ None → IsWithin tables settling
    → IsSettledIn tables settling contents (after_batch batch contents)
settled_in rows_law pending_law other_rows other_pending tables settling contents batch rows pending meta log within = record {
  rest = rest_after tables contents batch settling rows pending other_rows other_pending within meta log;
  shows = λ begun view settles. shows_after tables contents batch settling rows pending rows_law pending_law begun view settles;
  counted = λ begun view settles right. settles.counted right ∙ ap (λ (es : List BodyEdit). len (fold edit_body contents.pending es)) (sym pending);
}

-- ---- after edits were staged

module _ (tables : List TableDef) (settling : Settling) (old middle left : Contents) (begun : ℕ) (step : View → View → Type 0) (same : middle ≡ old)
    (leads : (view : View) → ShowsRows tables old view → (next : View) × step view next × Settles tables old begun settling next) (written : IsSettledIn tables settling middle left) where
  settled : IsSettledIn tables settling old left
  settled = subst (λ (c : Contents). IsSettledIn tables settling c left) same written

  pub made_in : IsChangedBy tables step old left
  made_in = (settled.rest, λ view shows. let led = leads view shows in (led.0, led.1, settled.shows begun led.0 led.2))

  pub made_counts : ShowsSome tables old → begun ≡ len old.pending → settling.count ≡ len left.pending
  made_counts some right = let led = leads some.0 some.1 in settled.counted begun led.0 led.2 right

-- ---- what was found, of each view

pub stands_shown : (tables : List TableDef) (contents : Contents) (table : TableDef) (key : List ℕ) (result : Result Found StoreFault)
    → ((view : View) → ShowsRows tables contents view → IfOk result (λ found. StandsIn view table key (standing_found found)))
    → IfOk result (λ found. IsStandingAt tables contents table key (standing_found found))
stands_shown tables contents table key (Ok found) each = each
stands_shown tables contents table key (Err fault) each = tt
