use Rattle.std.proofs.Common.{◌≡◌, ◌++◌, ◌∙◌, [], ap, sym, rules}
use Rattle.std.specs.Prelude.{string_bytes}
use Rattle.cs_store.specs.declared.log.entry.TheConstants.{MAX_ENTRIES}
use Rattle.cs_world.specs.World.{first_world}
use Rattle.cs_script.proofs.PlayingLemmas.{plays_tables}
use Rattle.cs_script.proofs.WorldLemmas.{all_honest}
use Rattle.cs_script.proofs.script.played_text.Goals as goal

pub returns : goal.returns
returns c =
    let new = c.in_ok-world.ensures (all_honest c.in_ok-world.world) in
    let first = first_world c.args.catalog.now new.0 in
    let played = c.in_ok-play.ensures first new.3 in
    let same : c.args.catalog.now ≡ played.0.tables = sym (plays_tables first played.0 c.args.events.now played.1 played.2) in
    let dump = c.in_ok-push_dump.ensures played.0 played.3 same in
    let empty : string_bytes c.new-text.result ≡ [] = search rules in (
      new.0,
      played.0,
      played.1,
      dump.0,
      (new.1, new.2),
      played.2,
      c.sound_has_headline.ensures MAX_ENTRIES played.0 played.3.1,
      dump.1,
      dump.2 ∙ ap (λ t. t ++ dump.0) (played.4 ∙ ap (λ b. b ++ played.1) empty),
    )
