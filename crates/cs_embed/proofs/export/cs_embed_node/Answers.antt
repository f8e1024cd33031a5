use Rattle.std.proofs.Common.{◌^◌, ◌-◌, inl, inr, refl, rules}
use Rattle.std.specs.Prelude.{◌≢◌}
use Rattle.sqlite_disk.specs.Memory.{memory_bytes}
use Rattle.cs_embed.specs.Watched.{inner_of}
use Rattle.cs_embed.proofs.export.cs_embed_node.Goals as goal

pub returns-in-Ok-work_file : goal.returns-in-Ok-work_file
returns-in-Ok-work_file c =
    let made = c.in-Ok-work_file.made in
    record {
      answers = inl (
        made.texts.items,
        memory_bytes (inner_of made.file),
        (c.in-Ok.catalog, c.in-Ok.ensures, c.in-Ok-work_file.ensures.told),
        c.hand_both.ensures,
      );
    }

pub returns : goal.returns
returns c =
    let other : c.args.id ≢ 2 ^ 32 - 1 = search rules in
    record { answers = inr (c.in-Err.answer, inr (other, inl c.in-Err.ensures), record { told = refl; texts_stay = refl; file_stays = refl }) }

pub returns-in-Ok : goal.returns-in-Ok
returns-in-Ok c =
    let other : c.args.id ≢ 2 ^ 32 - 1 = search rules in
    record {
      answers = inr (
        c.in-Err-work_file.answer,
        inr (other, inr (c.in-Ok.catalog, c.in-Ok.ensures, c.in-Err-work_file.ensures.refused)),
        record { told = refl; texts_stay = refl; file_stays = refl },
      );
    }
