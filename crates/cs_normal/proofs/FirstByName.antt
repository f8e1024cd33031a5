-- The first table of each name, by the places of the names.
use Rattle.std.proofs.Common.{◌≡◌, ℕ, zero, suc, ◌+◌, ◌<◌, ◌≤◌, Bool, true, false, not, ◌&&◌, eqb, List, [], ◌∷◌, ◌++◌, length, get_or, map, take, drop, refl, sym, ap, subst, ◌∙◌, arith, inl, inr, eq-eqb, eqb-true}
use Rattle.std.specs.List.{filter, list_any, range_with_len}
use Rattle.std.specs.Str.{bytes_eq}
use Rattle.std.proofs.lemmas.Bool.{cases_eq, cases_lt}
use Rattle.std.proofs.lemmas.List.{get_or_default, get_or-map, get_or-take, length-map, length-take-le, take_more, drop_more}
use Rattle.std.proofs.lemmas.List.Folds.{Any-from_list_any, list_any_at, list_any-append}
use Rattle.std.proofs.lemmas.Slice.Eq.{bytes_eq-Decides}
use Rattle.cs_value.specs.Facts.{by_test}
use Rattle.cs_value.specs.declared.catalog.TableDef.{TableDef}
use Rattle.cs_order.specs.Facts.{first_place}
use Rattle.cs_order.specs.Groups.{has_bytes, places_of}
use Rattle.cs_order.specs.Order.{Keys, key_at, same_bytes}
use Rattle.cs_normal.specs.Steps.FirstTables.{first_is, is_new, with_new, AreFirstTables, HaveNamesOf, IsFrontOf}
use Rattle.cs_normal.specs.Placed.{table_name}
use Rattle.cs_normal.proofs.HeaderTables.{front_more, one_more}
use Rattle.cs_normal.specs.NormalFacts.{has_place, same_self}

-- the first that passes is the least that does
least : (test : ℕ → Bool) (start n first : ℕ) (others : List ℕ) (j : ℕ) → filter test (range_with_len start n) ≡ first ∷ others → start ≤ j → j < start + n → test j ≡ true → first ≤ j
least test start zero first others j is from to passes = absurd (omega (arith, from, to))
least test start (suc n) first others j is from to passes =
    by_test (test start) _ (λ e.
    let head : start ≡ first = (let whole = simp e at is in cc) in omega (arith, head, from)) (λ e.
    let rest = simp e at is in
    elim (cases_eq start j) [
      | inl same ↦ absurd (let other : test j ≡ false = subst (λ (k : ℕ). test k ≡ false) same e in cc)
      | inr differ ↦ least test (start + 1) n first others j rest (omega (arith, from, differ)) (omega (arith, to)) passes
    ])

module _ (headers : List TableDef) (place : ℕ) (table : TableDef) (within : place < length headers) (is : table ≡ get_or headers place table) where
  abbrev pub names : Keys
  names = map table_name headers

  name_at : (k : ℕ) → k < length headers → key_at names k ≡ table_name (get_or headers k table)
  name_at k less = get_or-map table_name headers k table [] less

  has_name_at : (k : ℕ) → k < length headers → table_name (get_or headers k table) ≡ table.name → has_bytes names table.name k ≡ true
  has_name_at k less same =
      subst (λ (name : List ℕ). same_bytes table.name name ≡ true) (sym (name_at k less ∙ same)) (same_self table.name)

  abbrev pub named : TableDef → Bool
  named other = bytes_eq other.name table.name

  told : (ps : List ℕ) → places_of names table.name ≡ ps → is_new (take place headers) table ≡ first_is place ps
  told [] none =
      let many : length names ≡ length headers = length-map headers table_name in
      let less : place < length names = omega (arith, within, many) in
      let here : get_or names place table.name ≡ table.name = get_or-map table_name headers place table table.name within ∙ ap table_name (sym is) in
      absurd (has_place names table.name (place, less, here) none)
  told (p ∷ ps) at =
      let first = first_place names table.name p ps at in
      let many : length names ≡ length headers = length-map headers table_name in
      let front : length (take place headers) ≡ place = length-take-le place headers (omega (arith, within)) in
      let bound : (k : ℕ) → k < length headers → table_name (get_or headers k table) ≡ table.name → p ≤ k = λ k less same. least (has_bytes names table.name) 0 (length names) p ps k at (omega arith) (omega (arith, less, many)) (has_name_at k less same) in
      by_test (list_any named (take place headers)) _ (λ e.
      let any = Any-from_list_any named (take place headers) e in
      let k = any.0 in
      let before : k < place = omega (arith, any.2, front) in
      let less : k < length headers = omega (arith, before, within) in
      let other : get_or headers k table ≡ any.1 = sym (get_or-take place headers k table before) ∙ get_or_default (take place headers) k table any.1 any.2 ∙ any.3 in
      let same : table_name (get_or headers k table) ≡ table.name = ap table_name other ∙ (bytes_eq-Decides any.1.name table.name).0 any.4 in
      let low : p ≤ k = bound k less same in
      let apart : eqb p place ≡ false = by_test (eqb p place) _ (λ t. (let q : p ≡ place = eqb-true p place t in absurd (omega (arith, q, low, before)))) (λ t. t) in
      simp (e, apart) refl) (λ e.
      let low : p ≤ place = bound place within (ap table_name (sym is)) in
      elim (cases_lt p place) [
        | inl before ↦ absurd (
            let there : p < length headers = omega (arith, before, within) in
            let at_p : get_or (take place headers) p table ≡ get_or headers p table = get_or-take place headers p table before in
            let same : table_name (get_or headers p table) ≡ table.name = sym (name_at p there) ∙ sym first.0 in
            let passes : named (get_or (take place headers) p table) ≡ true = (bytes_eq-Decides (table_name (get_or (take place headers) p table)) table.name).1 (ap table_name at_p ∙ same) in
            let found : list_any named (take place headers) ≡ true = list_any_at named (take place headers) p table (omega (arith, before, front)) passes in
            cc)
        | inr not_before ↦ (
            let met : p ≡ place = omega (arith, low, not_before) in
            let t : eqb p place ≡ true = eq-eqb p place met in
            simp (e, t) refl)
      ])

  pub new_is_first : (tables : List TableDef) → HaveNamesOf (take place headers) tables → is_new tables table ≡ first_is place (places_of names table.name)
  new_is_first tables seen = seen table ∙ told (places_of names table.name) refl

  new_more : (tables : List TableDef) (other : TableDef) → is_new (tables ++ table ∷ []) other ≡ (not (bytes_eq table.name other.name) && is_new tables other)
  new_more tables other =
      ap not (list_any-append (λ (t : TableDef). bytes_eq t.name other.name) tables (table ∷ [])) ∙ one_more (list_any (λ (t : TableDef). bytes_eq t.name other.name) tables) (bytes_eq table.name other.name)

  one_seen : take (place + 1) headers ≡ take place headers ++ table ∷ []
  one_seen = take_more headers place table within ∙ ap (λ (t : TableDef). take place headers ++ t ∷ []) (sym is)

  pub seen_more : (tables : List TableDef) → HaveNamesOf (take place headers) tables → HaveNamesOf (take (place + 1) headers) (with_new tables table)
  seen_more tables seen other =
      let wider : is_new (take (place + 1) headers) other ≡ (not (bytes_eq table.name other.name) && is_new tables other) =
      ap (λ (ts : List TableDef). is_new ts other) one_seen ∙ new_more (take place headers) other ∙ ap (λ (b : Bool). not (bytes_eq table.name other.name) && b) (sym (seen other)) in
      by_test (is_new tables table) _ (λ e. simp e (new_more tables other ∙ sym wider)) (λ e.
      simp e (by_test (bytes_eq table.name other.name) _ (λ f.
      let name : table.name ≡ other.name = (bytes_eq-Decides table.name other.name).0 f in
      let known : is_new tables other ≡ false = rw (← name) e in
      known ∙ sym (wider ∙ simp f refl)) (λ f. sym (wider ∙ simp f refl))))

  pub front_next : (tables now : List TableDef) → HaveNamesOf (take place headers) tables → IsFrontOf headers tables (drop place headers) → now ≡ with_new tables table → IsFrontOf headers now (drop (place + 1) headers)
  front_next tables now seen front grown =
      let left : drop place headers ≡ table ∷ drop (place + 1) headers = drop_more headers place table within ∙ ap (λ (t : TableDef). t ∷ drop (place + 1) headers) (sym is) in
      rw grown (front_more headers tables table (drop (place + 1) headers) (rw left at front))

pub few_are_all : (limit : ℕ) (headers tables : List TableDef) → AreFirstTables limit headers tables → length tables ≤ limit → AreFirstTables 1000 headers tables
few_are_all limit headers tables (inl all) few = inl all
few_are_all limit headers tables (inr long) few = absurd (omega (arith, long.0, few))
