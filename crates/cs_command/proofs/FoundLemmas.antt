-- What a subcommand's matches say, from its parts.
use Rattle.std.proofs.Common.{◌≡◌, ℕ, Bool, List, [], sym, ap, ap₂, ◌∙◌, cond, codes, true, false, refl}
use Rattle.std.specs.Prelude.{MatchOption, Option, Some, None, option_and_then, option_map, unwrap_or}
use Rattle.std.specs.Bool.{Decides}
use Rattle.std.specs.Str.Parse.{ParsesBool}
use Rattle.std.proofs.lemmas.Bool.Decides.{same_from_decides}
use Rattle.std.proofs.lemmas.Slice.Eq.{bytes_eq-Decides}
use Rattle.std.specs.Str.{bytes_eq}
use Rattle.clap.specs.Words.{ReadsOne, Row, Text, all_of, first_of, one_of}
use Rattle.cs_conflict.specs.declared.wish.Wish.{Wish}
use Rattle.cs_command.specs.CommandLine.{exchange_wanted, exchange_with, id_at, is_given, node_of, node_wanted, node_with, number_at, over_file, tool_by, tool_of_what, wanted_by, wish_in, words_in}
use Rattle.cs_command.specs.Wanted.{Hub, World}
use Rattle.cs_tools.specs.declared.tool.Tool.{Tool}
use Rattle.cs_tools.specs.declared.tool.Tool.TheVariants.{ShowBlob, ShowChangeset}

pub both_parts : {B X Y : Type 0} (o : Option B) (f : B → X) (g : B → Y) (x : X) (y : Y)
    → Some x ≡ option_map f o → Some y ≡ option_map {U = Y} (λ (p : X × Y). p.1) (option_map {U = X × Y} (λ b. (f b, g b)) o)
    → option_map {U = X × Y} (λ b. (f b, g b)) o ≡ Some (x, y)
both_parts None f g x y name rows = absurd (cc)
both_parts {B} {X} {Y} (Some b) f g x y name rows =
    let a : x ≡ f b = cc in
    let d : y ≡ g b = cc in
    let pair : X → Y → X × Y = λ m n. (m, n) in
    ap Some (ap₂ pair (sym a) (sym d))

-- the words with an id, where there are some and where there are none
pub words_given : (id : Text) (found : Option (Text × List Row)) (name : Text) (rows : List Row) (words : List Text)
    → found ≡ Some (name, rows) → Some words ≡ all_of id rows → words ≡ words_in id found
words_given id found name rows words is all =
    sym (ap (words_in id) is ∙ ap (λ (t : Option (List Text)). unwrap_or t []) (sym all))

pub no_words_given : (id : Text) (found : Option (Text × List Row)) (name : Text) (rows : List Row)
    → found ≡ Some (name, rows) → None ≡ all_of id rows → [] ≡ words_in id found
no_words_given id found name rows is all =
    sym (ap (words_in id) is ∙ ap (λ (t : Option (List Text)). unwrap_or t []) (sym all))

pub words_or_none : {X : Type 0} (see : X → List Text) (id : Text) (found : Option (Text × List Row)) (name : Text) (rows : List Row) (given : Option X)
    → found ≡ Some (name, rows) → option_map see given ≡ all_of id rows → MatchOption given ([] ≡ words_in id found) (λ words. see words ≡ words_in id found)
words_or_none see id found name rows None is all = no_words_given id found name rows is all
words_or_none see id found name rows (Some words) is all = words_given id found name rows (see words) is all

decided : (b : Bool) (some other : Text) → Decides b (some ≡ other) → b ≡ bytes_eq some other
decided b some other decides = same_from_decides b (bytes_eq some other) decides (bytes_eq-Decides some other)

-- a flag is true where its text is "true"
flag_given : (E : Type 0) (text : Option Text) (value : Option Bool) → (text ≡ None → value ≡ None)
    → ((t : Text) → text ≡ Some t → ReadsOne {T = Bool} {E = E} ParsesBool t value)
    → unwrap_or value false ≡ bytes_eq (unwrap_or text []) (codes "true")
flag_given E None value none reads = rw (none refl) refl
flag_given E (Some t) None none reads =
    let refused = reads t refl in decided false t (codes "true") ((λ e. absurd (cc)), (λ is. absurd (refused.1.0 is)))
flag_given E (Some t) (Some true) none reads = decided true t (codes "true") ((λ e. reads t refl), (λ is. refl))
flag_given E (Some t) (Some false) none reads =
    let is : t ≡ codes "false" = reads t refl in rw is refl

-- so is the flag with an id
pub given_at : (E : Type 0) (id : Text) (text : Option Text) (value : Option Bool) (rows : List Row)
    → text ≡ one_of id rows → (text ≡ None → value ≡ None)
    → ((t : Text) → text ≡ Some t → ReadsOne {T = Bool} {E = E} ParsesBool t value)
    → unwrap_or value false ≡ is_given id rows
given_at E id text value rows found none reads =
    flag_given E text value none reads ∙ ap (λ (t : Option Text). bytes_eq (unwrap_or t []) (codes "true")) found

-- what the word behind `show` asks for
pub changeset_asked : (what : Text) → true ≡ bytes_eq what (codes "changeset") → Some ShowChangeset ≡ tool_of_what (Some what)
changeset_asked what is =
    ap (λ b. cond b (Some ShowChangeset) (cond (bytes_eq what (codes "blob")) (Some ShowBlob) None)) is

not_changeset : (what : Text) → false ≡ bytes_eq what (codes "changeset")
    → cond (bytes_eq what (codes "blob")) (Some ShowBlob) None ≡ tool_of_what (Some what)
not_changeset what not =
    ap (λ b. cond b (Some ShowChangeset) (cond (bytes_eq what (codes "blob")) (Some ShowBlob) None)) not

pub blob_asked : (what : Text) → false ≡ bytes_eq what (codes "changeset") → true ≡ bytes_eq what (codes "blob")
    → Some ShowBlob ≡ tool_of_what (Some what)
blob_asked what not is = ap (λ b. cond b (Some ShowBlob) None) is ∙ not_changeset what not

pub nothing_asked : (what : Text) → false ≡ bytes_eq what (codes "changeset") → false ≡ bytes_eq what (codes "blob")
    → None ≡ tool_of_what (Some what)
nothing_asked what not neither = ap (λ b. cond b (Some ShowBlob) None) neither ∙ not_changeset what not

-- what `hub`, `node` and `exchange` ask for
pub hub_asked : (name : Text) (rows : List Row) (file : Option Text) → true ≡ bytes_eq name (codes "hub") → file ≡ first_of (codes "FILE") rows
    → Some (Hub file) ≡ wanted_by name rows
hub_asked name rows file is found =
    let tools = option_and_then (over_file (first_of (codes "FILE") rows)) (tool_by name rows) in
    let rest = cond (bytes_eq name (codes "world")) (option_map World (number_at (codes "N") rows))
    (cond (bytes_eq name (codes "node")) (node_wanted rows) (cond (bytes_eq name (codes "exchange")) (exchange_wanted rows) tools)) in
    ap (λ (f : Option Text). Some (Hub f)) found ∙ ap (λ b. cond b (Some (Hub (first_of (codes "FILE") rows))) rest) is

pub node_has_no_file : (rows : List Row) → None ≡ first_of (codes "FILE") rows → None ≡ node_wanted rows
node_has_no_file rows none = ap (λ (f : Option Text). node_with (is_given (codes "follow") rows) f (id_at rows)) none

pub node_found : (rows : List Row) (follows : Bool) (file : Text) (id : ℕ) → follows ≡ is_given (codes "follow") rows → Some file ≡ first_of (codes "FILE") rows
    → Some id ≡ id_at rows → Some (node_of follows file id) ≡ node_wanted rows
node_found rows follows file id given named numbered =
    ap (λ b. Some (node_of b file id)) given
    ∙ ap (λ (f : Option Text). node_with (is_given (codes "follow") rows) f (Some id)) named
    ∙ ap (λ (n : Option ℕ). node_with (is_given (codes "follow") rows) (first_of (codes "FILE") rows) n) numbered

-- one word of `exchange` behind another
pub exchange_by : (rows : List Row) (wish : Option Wish) (hub file : Option Text) (id : Option ℕ) → wish ≡ wish_in rows → hub ≡ first_of (codes "HUB") rows
    → file ≡ first_of (codes "FILE") rows → id ≡ id_at rows → exchange_with wish hub file id ≡ exchange_wanted rows
exchange_by rows wish hub file id wished its named numbered =
    ap (λ (w : Option Wish). exchange_with w hub file id) wished
    ∙ ap (λ (h : Option Text). exchange_with (wish_in rows) h file id) its
    ∙ ap (λ (f : Option Text). exchange_with (wish_in rows) (first_of (codes "HUB") rows) f id) named
    ∙ ap (λ (n : Option ℕ). exchange_with (wish_in rows) (first_of (codes "HUB") rows) (first_of (codes "FILE") rows) n) numbered

-- what a tool is asked for over
pub tool_wanted : (name : Text) (rows : List Row) (tool : Tool) (file : Option Text) → false ≡ bytes_eq name (codes "hub") → false ≡ bytes_eq name (codes "world")
    → false ≡ bytes_eq name (codes "node") → false ≡ bytes_eq name (codes "exchange") → Some tool ≡ tool_by name rows → file ≡ first_of (codes "FILE") rows
    → over_file file tool ≡ wanted_by name rows
tool_wanted name rows tool file no_hub no_world no_node no_exchange is found =
    let run = option_and_then (over_file (first_of (codes "FILE") rows)) (tool_by name rows) in
    let exchange = cond (bytes_eq name (codes "exchange")) (exchange_wanted rows) run in
    let node = cond (bytes_eq name (codes "node")) (node_wanted rows) exchange in
    let world = cond (bytes_eq name (codes "world")) (option_map World (number_at (codes "N") rows)) node in
    ap (λ (f : Option Text). over_file f tool) found
    ∙ ap (λ (t : Option Tool). option_and_then (over_file (first_of (codes "FILE") rows)) t) is
    ∙ ap (λ b. cond b (exchange_wanted rows) run) no_exchange
    ∙ ap (λ b. cond b (node_wanted rows) exchange) no_node
    ∙ ap (λ b. cond b (option_map World (number_at (codes "N") rows)) node) no_world
    ∙ ap (λ b. cond b (Some (Hub (first_of (codes "FILE") rows))) world) no_hub
