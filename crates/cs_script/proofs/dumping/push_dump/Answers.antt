use Rattle.std.proofs.Common.{◌∙◌, refl}
use Rattle.std.specs.Prelude.{string_bytes}
use Rattle.cs_store.specs.log.Log.{state_of}
use Rattle.cs_script.proofs.DumpLemmas.{on_ok, puts_dump}
use Rattle.cs_script.proofs.dumping.push_dump.Goals as goal

pub returns : goal.returns
returns c = on_ok c.push_replicas.result _ _ (λ given standing stood same.
    puts_dump standing c.args.catalog.now c.newest.result (string_bytes c.args.text.now) (string_bytes c.push_newest.new.text) (string_bytes c.push_tables.new.text) (string_bytes c.push_replicas.new.text)
    same (c.newest.ensures ∙ stood.0.log.1) c.in_ok-push_newest.ensures
    (c.in_ok-push_tables.ensures.put standing (state_of standing.log) stood refl same)
    (given standing (c.in_ok-push_tables.ensures.stands standing stood) same)) c.push_replicas.ensures
