-- What a run of the program reads and writes (profile of this project).
use Rattle.std.specs.Prelude.{ℕ, List, Option}
use Rattle.cs_tools.specs.Files.{Reading}

-- what is known of a writer: the bytes that it got, where these are known, whether none is held back, and whether a write failed
abbrev pub Writing : Type 0 → Type 1
Writing W = record { contents : W → Option (List ℕ); sent : W → Type 0; failed : W → Type 0 }

-- the input, and what is left of it; what was written before, and what is written then; and whether a read or a write failed
pub record Streams : Type 1 where
  pub input : Option (List ℕ)
  pub left : Option (List ℕ)
  pub old : Option (List ℕ)
  pub new : Option (List ℕ)
  pub read_failed : Type 0
  pub write_failed : Type 0

-- those of a run that begins with this reader and this writer, and ends with those
abbrev pub streams_of : {R W : Type 0} → Reading R → Writing W → R → R → W → W → Streams
streams_of {R} {W} reads writes reader reader_left writer writer_left = record {
  input = reads.remaining reader;
  left = reads.remaining reader_left;
  old = writes.contents writer;
  new = writes.contents writer_left;
  read_failed = reads.failed reader_left;
  write_failed = writes.failed writer_left;
}
