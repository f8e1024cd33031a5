use Rattle.std.proofs.Common.{inl, inr, refl}
use Rattle.sqlite_disk.specs.Memory.{memory_bytes}
use Rattle.cs_embed.specs.Watched.{inner_of}
use Rattle.cs_embed.proofs.export.cs_embed_hub.Goals as goal

pub returns-in-Ok-serve_file : goal.returns-in-Ok-serve_file
returns-in-Ok-serve_file c =
    let made = c.in-Ok-serve_file.made in
    record {
      answers = inl (
        made.texts.items,
        memory_bytes (inner_of made.file),
        (c.in-Ok.catalog, c.in-Ok.ensures, c.in-Ok-serve_file.ensures.told),
        c.hand_both.ensures,
      );
    }

pub returns : goal.returns
returns c = record { answers = inr (c.in-Err.answer, inl c.in-Err.ensures, record { told = refl; texts_stay = refl; file_stays = refl }) }
