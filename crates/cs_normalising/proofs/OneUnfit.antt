-- A changeset fits or has one fault.
use Rattle.std.proofs.Common.{◌≡◌, ◌≢◌, ◌⊎◌, ℕ, Bool, true, List, [], ◌∷◌, ◌++◌, refl, sym, subst, ap, ◌∙◌, arith, inl, inr, append_assoc}
use Rattle.std.specs.List.{Contains}
use Rattle.std.specs.Str.{bytes_eq}
use Rattle.std.proofs.lemmas.Grind.{flat_map-append}
use Rattle.std.proofs.lemmas.List.Elements.{All-contains, Contains-append_right}
use Rattle.cs_value.specs.Catalog.{AreTables}
use Rattle.cs_value.specs.declared.catalog.TableDef.{TableDef}
use Rattle.cs_change.specs.declared.change.Change.{Change}
use Rattle.cs_change.specs.declared.group.Group.{Group}
use Rattle.cs_normalising.specs.Laws.{NoFaultWhereFit, OneUnfit}
use Rattle.cs_normal.specs.keyed.NormalForm.{has_key, AreKeyed}
use Rattle.cs_normalising.specs.UnfitChanges.{HasFirstUnfitChange}
use Rattle.cs_normalising.specs.NormalFormOf.{changes_of, HasTable, AreFit, IsGroupOf, IsUnfitGroup, HasFirstUnfitGroup, IsUnfit}
use Rattle.cs_normalising.specs.declared.unfit.Unfit.{Unfit}
use Rattle.cs_normalising.specs.declared.unfit.Unfit.TheVariants.{Memory, UnknownTable, Shape, NullKey, KeyTwice}
use Rattle.cs_normalising.proofs.AsRead.{shape_of}
use Rattle.cs_normalising.proofs.GroupFaults.{no_fault}
use Rattle.cs_normal.specs.NormalFacts.{one_table, named}

-- a fault of the first changes is a fault of all
fault_more : (fault : Unfit) (marks : List Bool) (changes more : List Change) → HasFirstUnfitChange fault marks changes → HasFirstUnfitChange fault marks (changes ++ more)
fault_more fault marks changes more (before, change, others, is, front, wrong) =
    (before, change, others ++ more, rw is (append_assoc before (change ∷ others) more), front, wrong)

stands : (before : List Group) (group : Group) (others : List Group) → Contains (before ++ group ∷ others) group
stands before group others = Contains-append_right before (group ∷ others) group (0, omega arith, refl)

-- the changes of a table up to a group of its name, and those behind
parted : (name : List ℕ) (before : List Group) (group : Group) (others : List Group) → group.name ≡ name → changes_of name (before ++ group ∷ others) ≡ (changes_of name before ++ group.changes) ++ changes_of name others
parted name before group others same =
    let e : bytes_eq group.name name ≡ true = ap (λ (n : List ℕ). bytes_eq n name) same ∙ named name in
    let joined : changes_of name (before ++ group ∷ others) ≡ changes_of name before ++ changes_of name (group ∷ others) = flat_map-append _ before (group ∷ others) in
    let here : changes_of name (group ∷ others) ≡ group.changes ++ changes_of name others = simp e refl in
    joined ∙ (ap (λ (cs : List Change). changes_of name before ++ cs) here ∙ sym (append_assoc (changes_of name before) group.changes (changes_of name others)))

-- in a changeset that fits, no group has a fault
not_wrong : (fault : Unfit) (tables : List TableDef) (before : List Group) (group : Group) (others : List Group) → AreTables tables → AreFit tables (before ++ group ∷ others) → IsUnfitGroup fault tables before group → ⊥
not_wrong Memory tables before group others are fit wrong = wrong
not_wrong UnknownTable tables before group others are fit wrong =
    let has = All-contains (HasTable tables) (before ++ group ∷ others) group fit.0 (stands before group others) in
    All-contains (λ (table : TableDef). table.name ≢ group.name) tables has.0 wrong has.1 (sym has.2.0)
not_wrong Shape tables before group others are fit (table, in', same, differ) =
    differ (shape_of tables table group are in' (All-contains (HasTable tables) (before ++ group ∷ others) group fit.0 (stands before group others)) same)
not_wrong NullKey tables before group others are fit (table, in', of, first) =
    no_fault NullKey table.key_marks (changes_of table.name (before ++ group ∷ others)) (All-contains (λ t. AreKeyed t.key_marks (changes_of t.name (before ++ group ∷ others))) tables table fit.1 in') (subst (HasFirstUnfitChange NullKey table.key_marks) (sym (parted table.name before group others of.0)) (fault_more NullKey table.key_marks (changes_of table.name before ++ group.changes) (changes_of table.name others) first))
not_wrong KeyTwice tables before group others are fit (table, in', of, first) =
    no_fault KeyTwice table.key_marks (changes_of table.name (before ++ group ∷ others)) (All-contains (λ t. AreKeyed t.key_marks (changes_of t.name (before ++ group ∷ others))) tables table fit.1 in') (subst (HasFirstUnfitChange KeyTwice table.key_marks) (sym (parted table.name before group others of.0)) (fault_more KeyTwice table.key_marks (changes_of table.name before ++ group.changes) (changes_of table.name others) first))

first_wrong : (fault : Unfit) (tables : List TableDef) (groups : List Group) → AreTables tables → AreFit tables groups → HasFirstUnfitGroup fault tables groups → ⊥
first_wrong fault tables groups are fit (before, group, others, is, front, wrong) =
    not_wrong fault tables before group others are (subst (AreFit tables) is fit) wrong

-- the first group that is wrong, where it was not the memory
told : (fault : Unfit) (tables : List TableDef) (groups : List Group) → IsUnfit fault tables groups → (fault ≡ Memory) ⊎ HasFirstUnfitGroup fault tables groups
told Memory tables groups unfit = inl refl
told UnknownTable tables groups unfit = inr unfit
told Shape tables groups unfit = inr unfit
told NullKey tables groups unfit = inr unfit
told KeyTwice tables groups unfit = inr unfit

pub no_fault_where_fit : NoFaultWhereFit
no_fault_where_fit fault tables groups are fit unfit =
    elim (told fault tables groups unfit) [
      | inl e ↦ e
      | inr first ↦ absurd (first_wrong fault tables groups are fit first)
    ]

-- two ways to part a list: one front is within the other, or they are the same
data Parted {X : Type 0} (before : List X) (x : X) (others before' : List X) (x' : X) (others' : List X) : Type 0 where
  meet : before ≡ before' → x ≡ x' → Parted before x others before' x' others'
  sooner : (more : List X) → before' ≡ before ++ x ∷ more → Parted before x others before' x' others'
  later : (more : List X) → before ≡ before' ++ x' ∷ more → Parted before x others before' x' others'

head_same : {X : Type 0} (x y : X) (xs ys : List X) → x ∷ xs ≡ y ∷ ys → x ≡ y
head_same x y xs ys e = cc

tail_same : {X : Type 0} (x y : X) (xs ys : List X) → x ∷ xs ≡ y ∷ ys → xs ≡ ys
tail_same x y xs ys e = cc

conjoin : {X : Type 0} (x y : X) (xs ys : List X) → x ≡ y → xs ≡ ys → x ∷ xs ≡ y ∷ ys
conjoin x y xs ys e f = cc

two_ways : {X : Type 0} (before : List X) (x : X) (others before' : List X) (x' : X) (others' : List X) → before ++ x ∷ others ≡ before' ++ x' ∷ others' → Parted before x others before' x' others'
two_ways [] x others [] x' others' e = meet refl (head_same x x' others others' e)
two_ways [] x others (b ∷ before') x' others' e =
    sooner before' (conjoin b x before' before' (sym (head_same x b others (before' ++ x' ∷ others') e)) refl)
two_ways (b ∷ before) x others [] x' others' e =
    later before (conjoin b x' before before (head_same b x' (before ++ x ∷ others) others' e) refl)
two_ways (b ∷ before) x others (b' ∷ before') x' others' e =
    let here = head_same b b' (before ++ x ∷ others) (before' ++ x' ∷ others') e in
    elim (two_ways before x others before' x' others' (tail_same b b' (before ++ x ∷ others) (before' ++ x' ∷ others') e)) [
      | meet front is ↦ meet (conjoin b b' before before' here front) is
      | sooner more is ↦ sooner more (conjoin b' b before' (before ++ x ∷ more) (sym here) is)
      | later more is ↦ later more (conjoin b b' before (before' ++ x' ∷ more) here is)
    ]

-- a table's changes have one fault
one_change : (marks : List Bool) (changes : List Change) → HasFirstUnfitChange NullKey marks changes → HasFirstUnfitChange KeyTwice marks changes → ⊥
one_change marks changes (before, change, others, is, front, wrong) (before', change', others', is', front', wrong') =
    elim (two_ways before change others before' change' others' (sym is ∙ is')) [
      | meet e f ↦ (let set : has_key marks change ≡ true = ap (has_key marks) f ∙ wrong'.0 in cc)
      | sooner more e ↦ no_fault NullKey marks before' front' (before, change, more, e, front, wrong)
      | later more e ↦ no_fault KeyTwice marks before front (before', change', more, e, front', wrong')
    ]

one_of_group : (tables : List TableDef) (before : List Group) (group : Group) → AreTables tables → IsUnfitGroup NullKey tables before group → IsUnfitGroup KeyTwice tables before group → ⊥
one_of_group tables before group are (t, t_in, t_of, t_first) (u, u_in, u_of, u_first) =
    let is : u ≡ t = one_table tables u t are u_in t_in (sym u_of.0 ∙ t_of.0) in
    one_change t.key_marks (changes_of t.name before ++ group.changes) t_first (subst (λ (v : TableDef). HasFirstUnfitChange KeyTwice v.key_marks (changes_of v.name before ++ group.changes)) is u_first)

-- a group whose table is unknown has no other fault, nor has one of another shape
has_a_table : (fault : Unfit) (tables : List TableDef) (before : List Group) (group : Group) → (table : TableDef) × Contains tables table × (group.name ≡ table.name) → IsUnfitGroup UnknownTable tables before group → ⊥
has_a_table fault tables before group (table, in', same) unknown =
    All-contains (λ (t : TableDef). t.name ≢ group.name) tables table unknown in' (sym same)

has_the_shape : (tables : List TableDef) (before : List Group) (group : Group) → AreTables tables → (table : TableDef) × Contains tables table × IsGroupOf table group → IsUnfitGroup Shape tables before group → ⊥
has_the_shape tables before group are (table, in', of) (other, other_in, same', differ) =
    differ (shape_of tables other group are other_in (table, in', of) same')

of_one_group : (some other : Unfit) (tables : List TableDef) (before : List Group) (group : Group) → AreTables tables → IsUnfitGroup some tables before group → IsUnfitGroup other tables before group → some ≡ other
of_one_group Memory other tables before group are s o = absurd s
of_one_group UnknownTable Memory tables before group are s o = absurd o
of_one_group UnknownTable UnknownTable tables before group are s o = refl
of_one_group UnknownTable Shape tables before group are s (t, t_in, same', differ) = absurd (has_a_table Shape tables before group (t, t_in, same') s)
of_one_group UnknownTable NullKey tables before group are s (t, t_in, of, first) = absurd (has_a_table NullKey tables before group (t, t_in, of.0) s)
of_one_group UnknownTable KeyTwice tables before group are s (t, t_in, of, first) = absurd (has_a_table KeyTwice tables before group (t, t_in, of.0) s)
of_one_group Shape Memory tables before group are s o = absurd o
of_one_group Shape UnknownTable tables before group are (t, t_in, same', differ) o = absurd (has_a_table Shape tables before group (t, t_in, same') o)
of_one_group Shape Shape tables before group are s o = refl
of_one_group Shape NullKey tables before group are s (t, t_in, of, first) = absurd (has_the_shape tables before group are (t, t_in, of) s)
of_one_group Shape KeyTwice tables before group are s (t, t_in, of, first) = absurd (has_the_shape tables before group are (t, t_in, of) s)
of_one_group NullKey Memory tables before group are s o = absurd o
of_one_group NullKey UnknownTable tables before group are (t, t_in, of, first) o = absurd (has_a_table NullKey tables before group (t, t_in, of.0) o)
of_one_group NullKey Shape tables before group are (t, t_in, of, first) o = absurd (has_the_shape tables before group are (t, t_in, of) o)
of_one_group NullKey NullKey tables before group are s o = refl
of_one_group NullKey KeyTwice tables before group are s o = absurd (one_of_group tables before group are s o)
of_one_group KeyTwice Memory tables before group are s o = absurd o
of_one_group KeyTwice UnknownTable tables before group are (t, t_in, of, first) o = absurd (has_a_table KeyTwice tables before group (t, t_in, of.0) o)
of_one_group KeyTwice Shape tables before group are (t, t_in, of, first) o = absurd (has_the_shape tables before group are (t, t_in, of) o)
of_one_group KeyTwice NullKey tables before group are s o = absurd (one_of_group tables before group are o s)
of_one_group KeyTwice KeyTwice tables before group are s o = refl

first_same : (some other : Unfit) (tables : List TableDef) (groups : List Group) → AreTables tables → HasFirstUnfitGroup some tables groups → HasFirstUnfitGroup other tables groups → some ≡ other
first_same some other tables groups are (before, group, others, is, front, wrong) (before', group', others', is', front', wrong') =
    elim (two_ways before group others before' group' others' (sym is ∙ is')) [
      | meet e f ↦ of_one_group some other tables before group are wrong (subst (IsUnfitGroup other tables before) (sym f) (subst (λ (b : List Group). IsUnfitGroup other tables b group') (sym e) wrong'))
      | sooner more e ↦ absurd (not_wrong some tables before group more are (subst (AreFit tables) e front') wrong)
      | later more e ↦ absurd (not_wrong other tables before' group' more are (subst (AreFit tables) e front) wrong')
    ]

pub one_unfit : OneUnfit
one_unfit some other tables groups are s o s_told o_told =
    elim (told some tables groups s) [
      | inl e ↦ absurd (s_told e)
      | inr first ↦ elim (told other tables groups o) [
        | inl e ↦ absurd (o_told e)
        | inr first' ↦ first_same some other tables groups are first first'
      ]
    ]
