-- How a run ends, by what came of its parts.
use Rattle.std.proofs.Common.{◌≡◌, List, ℕ, [], ◌∷◌, inl, inr, refl, subst}
use Rattle.std.specs.Prelude.{◌⊎◌, ⊤, Option, None, Result, Ok, Err, OnOk}
use Rattle.std.specs.Io.KnownBytes.{Keeps}
use Rattle.std.proofs.KnownBytes.{Keeps-refl}
use Rattle.clap.specs.Kinds.{IsAmong, Kinds}
use Rattle.clap.specs.declared.error.kind.ErrorKind.{ErrorKind}
use Rattle.clap.specs.declared.error.kind.ErrorKind.TheVariants as kind
use Rattle.sync_cli.specs.Endings.{EndsRefused, EndsUntaken, LacksMemory, told_as}
use Rattle.sync_cli.specs.Streams.{Streams}
use Rattle.sync_cli.specs.declared.fault.RunFault.{RunFault}
use Rattle.sync_cli.specs.declared.fault.RunFault.TheVariants.{CommandLine, Hub, Line, Lines, Memory, NotAtRest, Open, Read, Table, Write}

-- streams of which what is written alone counts
abbrev pub writes : Type 0 → Option (List ℕ) → Option (List ℕ) → Streams
writes failed old new = record { input = None; left = None; old = old; new = new; read_failed = failed; write_failed = failed }

-- help is among the kinds that the words can have, where it is the one that came
is_help : (kinds : Kinds) (why : ErrorKind) → (why ≡ kind.OutOfMemory) ⊎ IsAmong why kinds → why ≡ kind.DisplayHelp
    → IsAmong kind.DisplayHelp kinds
is_help kinds why (inl memory) help = absurd (cc)
is_help kinds why (inr among) help = subst (λ k. IsAmong k kinds) help among

-- a refusal by the parser, of a kind that the words can have
pub untaken : (kinds : Kinds) (why : ErrorKind) (failed : Type 0) (old new : Option (List ℕ)) (result : Result ⊤ RunFault)
    → (why ≡ kind.OutOfMemory) ⊎ IsAmong why kinds → EndsRefused why failed old new result
    → EndsUntaken kinds (writes failed old new) result
untaken kinds why failed old new (Ok done) has ends = (is_help kinds why has ends.0, ends.1)
untaken kinds why failed old new (Err Write) has ends = (is_help kinds why has ends.0, ends.1.0, ends.1.1)
untaken kinds why failed old new (Err CommandLine) (inl memory) ends = absurd (ends.1 memory)
untaken kinds why failed old new (Err CommandLine) (inr among) ends = ((why, among, ends.0), ends.2)
untaken kinds why failed old new (Err Memory) has ends = ends.1
untaken kinds why failed old new (Err (Table word)) has ends = absurd ends.1
untaken kinds why failed old new (Err Read) has ends = absurd ends.1
untaken kinds why failed old new (Err (Line number)) has ends = absurd ends.1
untaken kinds why failed old new (Err (Open fault)) has ends = absurd ends.1
untaken kinds why failed old new (Err (Hub fault)) has ends = absurd ends.1
untaken kinds why failed old new (Err NotAtRest) has ends = absurd ends.1
untaken kinds why failed old new (Err (Lines fault)) has ends = absurd ends.1

help_or_memory : (why : ErrorKind) → why ≡ kind.DisplayHelp → why ≡ kind.OutOfMemory → ⊥
help_or_memory why help memory = cc

-- where the words have no fault, the parser refused them for want of memory
pub not_begun : (kinds : Kinds) (why : ErrorKind) (failed : Type 0) (old new : Option (List ℕ)) (result : Result ⊤ RunFault)
    → kinds ≡ [] → (why ≡ kind.OutOfMemory) ⊎ IsAmong why kinds → EndsRefused why failed old new result → LacksMemory (writes failed old new) result
not_begun [] why failed old new result none (inr among) ends = absurd among
not_begun (k ∷ kinds) why failed old new result none has ends = absurd (cc)
not_begun [] why failed old new (Ok done) none (inl memory) ends = absurd (help_or_memory why ends.0 memory)
not_begun [] why failed old new (Err Write) none (inl memory) ends = absurd (help_or_memory why ends.0 memory)
not_begun [] why failed old new (Err CommandLine) none (inl memory) ends = absurd (ends.1 memory)
not_begun [] why failed old new (Err Memory) none (inl memory) ends = (refl, ends.1)
not_begun [] why failed old new (Err (Table word)) none (inl memory) ends = absurd ends.1
not_begun [] why failed old new (Err Read) none (inl memory) ends = absurd ends.1
not_begun [] why failed old new (Err (Line number)) none (inl memory) ends = absurd ends.1
not_begun [] why failed old new (Err (Open fault)) none (inl memory) ends = absurd ends.1
not_begun [] why failed old new (Err (Hub fault)) none (inl memory) ends = absurd ends.1
not_begun [] why failed old new (Err NotAtRest) none (inl memory) ends = absurd ends.1
not_begun [] why failed old new (Err (Lines fault)) none (inl memory) ends = absurd ends.1

-- what is so where a part of the run was done is so where the run was
pub done_so : {F : Type 0} (told : F → RunFault) (ended : Result ⊤ F) (result : Result ⊤ RunFault) (P : Type 0)
    → result ≡ told_as told ended → OnOk ended P → OnOk result P
done_so told (Ok x) result P is done = rw is done
done_so told (Err fault) result P is done = rw is tt
