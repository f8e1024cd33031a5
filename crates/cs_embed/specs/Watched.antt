-- What a disk shows that notes whether a write failed.
use Rattle.cs_embed.specs.declared.watched.Watched.{Watched}

-- the disk that is watched
abbrev pub inner_of : {D : Type 0} → Watched D → D
inner_of w = w.inner
