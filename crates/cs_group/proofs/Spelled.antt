-- What is left of groups, spelled one after another.
use Rattle.std.proofs.Common.{◌≡◌, ℕ, ◌<◌, ◌∙◌, List, [], ◌∷◌, ◌++◌, length, map, refl, sym, ap, inl, inr, arith, append_assoc, append-nil, length-append, Option, Some, None}
use Rattle.std.proofs.lemmas.List.Concat.{flat_map-append}
use Rattle.cs_change.specs.Listed.{listed}
use Rattle.cs_change.specs.Spelling.{change_spelling, changes_spelling, flag_byte, header_spelling}
use Rattle.cs_change.specs.declared.change.Change.{Change}
use Rattle.cs_normal.specs.keyed.Changes.{Changes}
use Rattle.cs_normal.specs.Normal.{normal_spelling, table_changes}
use Rattle.cs_value.specs.declared.catalog.TableDef.{TableDef}
use Rattle.cs_group.specs.Steps.Folding.{AreSpelled, HasBegun, spelled_behind, spelled_changes}
use Rattle.cs_group.specs.Steps.Joining.{behind}

-- a table's changes, as they are written
pub normal_table : (table : TableDef) (joined : Changes) → normal_spelling (table_changes table joined) ≡ spelled_behind (header_spelling (map flag_byte table.key_marks) table.name) joined
normal_table table [] = refl
normal_table table (first ∷ others) = append-nil _

left_spelled : (key : List ℕ) (change : Option Change) → spelled_changes (behind key change) ≡ changes_spelling (listed change)
left_spelled key None = refl
left_spelled key (Some change) = refl

left_length : (key : List ℕ) (change : Option Change) → length (behind key change) ≡ length (listed change)
left_length key None = refl
left_length key (Some change) = refl

spelled_more : (joined : Changes) (key : List ℕ) (change : Option Change) → spelled_changes (joined ++ behind key change) ≡ spelled_changes joined ++ changes_spelling (listed change)
spelled_more joined key change =
    flat_map-append (λ (keyed : List ℕ × Change). change_spelling keyed.1) joined (behind key change) ∙ ap (λ (more : List ℕ). spelled_changes joined ++ more) (left_spelled key change)

no_change : (changes : List Change) → length changes ≡ 0 → changes ≡ []
no_change [] none = refl
no_change (change ∷ changes) none = absurd (omega (arith, none))

-- changes that take bytes are some
pub some_spelled : (changes : List Change) → 0 < length (changes_spelling changes) → 0 < length changes
some_spelled [] more = absurd (omega (arith, more))
some_spelled (change ∷ changes) more = omega arith

module _ (before front : List ℕ) where
  -- one group more waits with the others
  pub waits_more : (joined : Changes) (key : List ℕ) (change : Option Change) (out header : List ℕ) (some now : List Change)
      → now ≡ some ++ listed change → AreSpelled before front joined out header some → AreSpelled before front (joined ++ behind key change) out header now
  waits_more joined key change out header some now grown (inl is) =
      let more : changes_spelling now ≡ changes_spelling some ++ changes_spelling (listed change) = ap changes_spelling grown ∙ flat_map-append change_spelling some (listed change) in
      inl (record {
        out_is = is.out_is;
        header_is = is.header_is;
        as_many = omega (arith, ap length grown, length-append some (listed change), length-append joined (behind key change), left_length key change, is.as_many);
        waits = more ∙ ap (λ (s : List ℕ). s ++ changes_spelling (listed change)) is.waits ∙ sym (spelled_more joined key change);
      })
  waits_more joined key change out header some now grown (inr is) =
      let last = changes_spelling (listed change) in
      let more : changes_spelling now ≡ changes_spelling some ++ last = ap changes_spelling grown ∙ flat_map-append change_spelling some (listed change) in
      let begun : out ++ changes_spelling now ≡ (out ++ changes_spelling some) ++ last = ap (λ (s : List ℕ). out ++ s) more ∙ sym (append_assoc out (changes_spelling some) last) in
      let all : (before ++ (front ++ spelled_changes joined)) ++ last ≡ before ++ (front ++ spelled_changes (joined ++ behind key change)) =
      append_assoc before (front ++ spelled_changes joined) last ∙ ap (λ (s : List ℕ). before ++ s) (append_assoc front (spelled_changes joined) last ∙ ap (λ (s : List ℕ). front ++ s) (sym (spelled_more joined key change))) in
      inr (record {
        no_header = is.no_header;
        not_none = omega (arith, length-append joined (behind key change), is.not_none);
        spelled = begun ∙ ap (λ (s : List ℕ). s ++ last) is.spelled ∙ all;
      })

  -- what waits is put behind the others
  pub put_behind : (joined : Changes) (out header : List ℕ) (some : List Change) (now bare : List ℕ) (none : List Change)
      → 0 < length some → bare ≡ [] → none ≡ [] → now ≡ out ++ (header ++ changes_spelling some)
      → AreSpelled before front joined out header some → HasBegun before front joined now bare none
  put_behind joined out header some now bare none more no_header no_change put (inl is) =
      let written : now ≡ before ++ (front ++ spelled_changes joined) = put ∙ ap (λ (o : List ℕ). o ++ (header ++ changes_spelling some)) is.out_is ∙ ap (λ (h : List ℕ). before ++ (h ++ changes_spelling some)) is.header_is ∙ ap (λ (s : List ℕ). before ++ (front ++ s)) is.waits in
      record {
        no_header = no_header;
        not_none = omega (arith, more, is.as_many);
        spelled = ap (λ (cs : List Change). now ++ changes_spelling cs) no_change ∙ append-nil now ∙ written;
      }
  put_behind joined out header some now bare none more no_header no_change put (inr is) =
      let written : now ≡ before ++ (front ++ spelled_changes joined) = put ∙ ap (λ (h : List ℕ). out ++ (h ++ changes_spelling some)) is.no_header ∙ is.spelled in
      record {
        no_header = no_header;
        not_none = is.not_none;
        spelled = ap (λ (cs : List Change). now ++ changes_spelling cs) no_change ∙ append-nil now ∙ written;
      }

  -- nothing waits
  pub all_written : (joined : Changes) (out header : List ℕ) (some : List Change) → length some ≡ 0 → AreSpelled before front joined out header some → out ≡ before ++ spelled_behind front joined
  all_written [] out header some none (inl is) = is.out_is ∙ sym (append-nil before)
  all_written (first ∷ others) out header some none (inl is) = absurd (omega (arith, none, is.as_many))
  all_written [] out header some none (inr is) = absurd (omega (arith, is.not_none))
  all_written (first ∷ others) out header some none (inr is) =
      sym (append-nil out) ∙ ap (λ (cs : List Change). out ++ changes_spelling cs) (sym (no_change some none)) ∙ is.spelled
