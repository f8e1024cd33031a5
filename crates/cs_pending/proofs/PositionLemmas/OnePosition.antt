-- Contents show a replica at one position.
use Rattle.std.proofs.Common.{◌≡◌, ◌<◌, ◌^◌, ◌++◌, ◌∷◌, ℕ, List, [], Option, Some, None, refl, sym, ap, ◌∙◌, arith, option_map, drop}
use Rattle.std.proofs.lemmas.Option.{same_Some}
use Rattle.cs_value.specs.Catalog.{AreTables}
use Rattle.cs_value.specs.declared.catalog.TableDef.{TableDef}
use Rattle.cs_normal.specs.Normal.{normal_spelling}
use Rattle.cs_normal.specs.declared.normal.TableChanges.{TableChanges}
use Rattle.cs_store.specs.log.Entry.{changes_of_body}
use Rattle.cs_store.specs.log.Laws.{OneBody}
use Rattle.cs_store.specs.log.Stored.{AreChangesOf}
use Rattle.cs_store.specs.declared.log.body.Body.TheVariants.{Changes}
use Rattle.cs_store.specs.declared.names.MetaName.TheVariants.{Id, Version, Number, Flight}
use Rattle.cs_pending.specs.Laws.{OneView}
use Rattle.cs_wire.specs.Numbers.{eight_bytes, four_bytes}
use Rattle.cs_wire.specs.OneSpelling.{eight, eight_back, eight_rest, four, four_back}
use Rattle.cs_pending.specs.position.Laws.{OnePosition}
use Rattle.cs_pending.specs.position.Shows.{flown}
use Rattle.cs_pending.specs.position.Values.{flight_bytes}
use Rattle.cs_pending.specs.declared.position.position.Position.{Position}

one_four : (m n : ℕ) → m < 2 ^ 32 → n < 2 ^ 32 → four_bytes m ≡ four_bytes n → m ≡ n
one_four m n f g e = sym (four_back m [] f) ∙ ap (λ (bytes : List ℕ). four (bytes ++ [])) e ∙ four_back n [] g

one_eight : (m n : ℕ) → m < 2 ^ 64 → n < 2 ^ 64 → eight_bytes m ≡ eight_bytes n → m ≡ n
one_eight m n f g e = sym (eight_back m [] f) ∙ ap (λ (bytes : List ℕ). eight (bytes ++ [])) e ∙ eight_back n [] g

one_flight : OneBody → (tables : List TableDef) → AreTables tables → (m n : ℕ) (some other : Option (List TableChanges)) → AreChangesOf tables (flown some) → AreChangesOf tables (flown other)
    → option_map (flight_bytes m) some ≡ option_map (flight_bytes n) other → some ≡ other
one_flight law tables are m n None None s o e = refl
one_flight law tables are m n None (Some b) s o e = absurd cc
one_flight law tables are m n (Some a) None s o e = absurd cc
one_flight law tables are m n (Some a) (Some b) s o e =
    let bytes : flight_bytes m a ≡ flight_bytes n b = same_Some _ _ e in
    let spelled : normal_spelling a ≡ normal_spelling b = sym (eight_rest m (normal_spelling a)) ∙ ap (drop 8) bytes ∙ eight_rest n (normal_spelling b) in
    ap Some (ap changes_of_body (law tables (Changes a) (Changes b) are s o tt tt (ap (λ (t : List ℕ). 0 ∷ t) spelled)))

made : ℕ → ℕ → ℕ → Option (List TableChanges) → ℕ → Position
made id version number flight pending = record { id = id; version = version; number = number; flight = flight; pending = pending }

same_position : (some other : Position) → some.id ≡ other.id → some.version ≡ other.version → some.number ≡ other.number → some.flight ≡ other.flight → some.pending ≡ other.pending → some ≡ other
unfolding made
same_position some other i v n f p =
    ap (λ (x : ℕ). made x some.version some.number some.flight some.pending) i
    ∙ ap (λ (x : ℕ). made other.id x some.number some.flight some.pending) v
    ∙ ap (λ (x : ℕ). made other.id other.version x some.flight some.pending) n
    ∙ ap (λ (x : Option (List TableChanges)). made other.id other.version other.number x some.pending) f
    ∙ ap (λ (x : ℕ). made other.id other.version other.number other.flight x) p

pub one_position : OneView → OneBody → OnePosition
one_position view_law body_law tables contents some other view seen are sf of s o =
    let id = one_four some.id other.id sf.id of.id (same_Some _ _ (sym (s.values Id) ∙ o.values Id)) in
    let version = one_eight some.version other.version sf.version of.version (same_Some _ _ (sym (s.values Version) ∙ o.values Version)) in
    let number = one_eight some.number other.number (omega (arith, s.numbered)) (omega (arith, o.numbered)) (same_Some _ _ (sym (s.values Number) ∙ o.values Number)) in
    let flight = one_flight body_law tables are some.number other.number some.flight other.flight (s.under_way.normal, s.under_way.fits) (o.under_way.normal, o.under_way.fits) (sym (s.values Flight) ∙ o.values Flight) in
    let both = view_law tables contents view seen s.rows o.rows in
    (same_position some other id version number flight (s.counted ∙ sym o.counted), both.0, both.1)
