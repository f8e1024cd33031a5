-- Requests: how each is spelled in bytes, and what is wrong with bytes that spell none.
use Rattle.std.specs.Prelude.{◌≡◌, ◌≢◌, ◌⊎◌, ℕ, ◌<◌, ◌^◌, List, [], ◌∷◌, ◌++◌, length, IsUtf8, Result, Ok, Err}
use Rattle.cs_wire.specs.Numbers.{four_bytes, eight_bytes}
use Rattle.cs_wire.specs.declared.fault.WireFault.{WireFault}
use Rattle.cs_wire.specs.declared.fault.WireFault.TheVariants.{Truncated, BadTag, TooLong, BadKind, NotUtf8}
use Rattle.cs_wire.specs.declared.push_head.PushHead.{PushHead}
use Rattle.cs_wire.specs.declared.request.Request.{Request}
use Rattle.cs_wire.specs.declared.request.Request.TheVariants as borrowed
use Rattle.cs_wire.specs.declared.request.RequestBuf.{RequestBuf}
use Rattle.cs_wire.specs.declared.request.RequestBuf.TheVariants as owned

-- what a request asks of a hub
pub data Asked : Type 0 where
  AsksPush : (head : PushHead) (changeset : List ℕ) → Asked
  AsksPull : (first limit : ℕ) → Asked
  AsksCatch : (origin first limit : ℕ) → Asked
  AsksWiden : (number base width : ℕ) (table : List ℕ) → Asked

-- ---- how each is spelled

abbrev pub push_tag : ℕ
push_tag = 1

abbrev pub pull_tag : ℕ
pull_tag = 2

abbrev pub catch_tag : ℕ
catch_tag = 3

abbrev pub widen_tag : ℕ
widen_tag = 4

-- the numbers of a Push, and what follows them
abbrev pub push_numbers : PushHead → ℕ → List ℕ → List ℕ
push_numbers head size rest =
    four_bytes head.origin ++ (eight_bytes head.number ++ (eight_bytes head.base ++ (four_bytes size ++ rest)))

-- a tag, the origin, the number, the base, and the changeset behind its length
abbrev pub push_spelling : PushHead → List ℕ → List ℕ
push_spelling head changeset = push_tag ∷ push_numbers head (length changeset) changeset

-- the numbers of a Pull, and what follows them
abbrev pub pull_numbers : ℕ → ℕ → List ℕ → List ℕ
pull_numbers first limit rest = eight_bytes first ++ (four_bytes limit ++ rest)

-- a tag, the first entry that is asked for, and how many at most
abbrev pub pull_spelling : ℕ → ℕ → List ℕ
pull_spelling first limit = pull_tag ∷ pull_numbers first limit []

-- the numbers of a Catch, and what follows them
abbrev pub catch_numbers : ℕ → ℕ → ℕ → List ℕ → List ℕ
catch_numbers origin first limit rest = four_bytes origin ++ (eight_bytes first ++ (four_bytes limit ++ rest))

-- a tag, who asks, the first entry that is asked for, and how many at most
abbrev pub catch_spelling : ℕ → ℕ → ℕ → List ℕ
catch_spelling origin first limit = catch_tag ∷ catch_numbers origin first limit []

-- the numbers of a Widen, and what follows them
abbrev pub widen_numbers : ℕ → ℕ → ℕ → ℕ → List ℕ → List ℕ
widen_numbers number base width size rest =
    eight_bytes number ++ (eight_bytes base ++ (four_bytes width ++ (four_bytes size ++ rest)))

-- a tag, the number, the base, how many columns, and the table's name behind its length
abbrev pub widen_request_spelling : ℕ → ℕ → ℕ → List ℕ → List ℕ
widen_request_spelling number base width table = widen_tag ∷ widen_numbers number base width (length table) table

abbrev pub request_spelling : Asked → List ℕ
request_spelling (AsksPush head changeset) = push_spelling head changeset
request_spelling (AsksPull first limit) = pull_spelling first limit
request_spelling (AsksCatch origin first limit) = catch_spelling origin first limit
request_spelling (AsksWiden number base width table) = widen_request_spelling number base width table

-- ---- what can be spelled

-- the numbers of a Push are in range
pub record FitsPush (head : PushHead) (size : ℕ) : Type 0 where
  pub origin_fits : head.origin < 2 ^ 32
  pub number_fits : head.number < 2 ^ 64
  pub base_fits : head.base < 2 ^ 64
  pub size_fits : size < 2 ^ 32

-- the numbers of a Pull are in range
pub record FitsPull (first limit : ℕ) : Type 0 where
  pub first_fits : first < 2 ^ 64
  pub limit_fits : limit < 2 ^ 32

-- the numbers of a Catch are in range
pub record FitsCatch (origin first limit : ℕ) : Type 0 where
  pub origin_fits : origin < 2 ^ 32
  pub first_fits : first < 2 ^ 64
  pub limit_fits : limit < 2 ^ 32

-- the numbers of a Widen are in range
pub record FitsWiden (number base width size : ℕ) : Type 0 where
  pub number_fits : number < 2 ^ 64
  pub base_fits : base < 2 ^ 64
  pub width_fits : width < 2 ^ 32
  pub size_fits : size < 2 ^ 32

-- and a table's name is text
abbrev pub FitsRequest : Asked → Type 0
FitsRequest (AsksPush head changeset) = FitsPush head (length changeset)
FitsRequest (AsksPull first limit) = FitsPull first limit
FitsRequest (AsksCatch origin first limit) = FitsCatch origin first limit
FitsRequest (AsksWiden number base width table) = FitsWiden number base width (length table) × IsUtf8 table

-- the length of its changeset or of its table's name, if it has one, is in range
abbrev pub HasShortBytes : Asked → Type 0
HasShortBytes (AsksPush head changeset) = length changeset < 2 ^ 32
HasShortBytes (AsksPull first limit) = Unit {0}
HasShortBytes (AsksCatch origin first limit) = Unit {0}
HasShortBytes (AsksWiden number base width table) = length table < 2 ^ 32

-- ---- what is wrong with bytes that spell none

-- the front of a request: within its numbers, or within its changeset or name
abbrev pub IsPartialRequest : List ℕ → Type 0
IsPartialRequest bytes =
    (bytes ≡ [])
    ⊎ ((rest : List ℕ) × (bytes ≡ push_tag ∷ rest) × (length rest < 24))
    ⊎ ((rest : List ℕ) × (bytes ≡ pull_tag ∷ rest) × (length rest < 12))
    ⊎ ((rest : List ℕ) × (bytes ≡ catch_tag ∷ rest) × (length rest < 16))
    ⊎ ((rest : List ℕ) × (bytes ≡ widen_tag ∷ rest) × (length rest < 24))
    ⊎ ((head : PushHead) × (size : ℕ) × (part : List ℕ) × FitsPush head size
    × (bytes ≡ push_tag ∷ push_numbers head size part) × (length part < size))
    ⊎ ((number : ℕ) × (base : ℕ) × (width : ℕ) × (size : ℕ) × (part : List ℕ) × FitsWiden number base width size
    × (bytes ≡ widen_tag ∷ widen_numbers number base width size part) × (length part < size))

-- a request, and bytes behind it
abbrev pub IsLongerRequest : List ℕ → Type 0
IsLongerRequest bytes =
    ((head : PushHead) × (size : ℕ) × (more : List ℕ) × FitsPush head size
    × (bytes ≡ push_tag ∷ push_numbers head size more) × (size < length more))
    ⊎ ((first : ℕ) × (limit : ℕ) × (more : List ℕ) × FitsPull first limit
    × (bytes ≡ pull_tag ∷ pull_numbers first limit more) × (0 < length more))
    ⊎ ((origin : ℕ) × (first : ℕ) × (limit : ℕ) × (more : List ℕ) × FitsCatch origin first limit
    × (bytes ≡ catch_tag ∷ catch_numbers origin first limit more) × (0 < length more))
    ⊎ ((number : ℕ) × (base : ℕ) × (width : ℕ) × (size : ℕ) × (more : List ℕ) × FitsWiden number base width size
    × (bytes ≡ widen_tag ∷ widen_numbers number base width size more) × (size < length more))

-- a whole request that widens a table, whose name is no text
abbrev pub HasNoText : List ℕ → Type 0
HasNoText bytes =
    (number : ℕ) × (base : ℕ) × (width : ℕ) × (table : List ℕ) × FitsWiden number base width (length table)
    × (bytes ≡ widen_request_spelling number base width table) × (IsUtf8 table → ⊥)

-- no request has this tag
pub record IsNoRequestTag (tag : ℕ) : Type 0 where
  pub no_push : tag ≢ push_tag
  pub no_pull : tag ≢ pull_tag
  pub no_catch : tag ≢ catch_tag
  pub no_widen : tag ≢ widen_tag

abbrev pub IsRequestFault : WireFault → List ℕ → Type 0
IsRequestFault Truncated bytes = IsPartialRequest bytes
IsRequestFault BadTag bytes = (tag : ℕ) × (rest : List ℕ) × (bytes ≡ tag ∷ rest) × IsNoRequestTag tag
IsRequestFault TooLong bytes = IsLongerRequest bytes
IsRequestFault BadKind bytes = ⊥
IsRequestFault NotUtf8 bytes = HasNoText bytes

-- ---- what reading gives

-- the request that the bytes spell, or their fault
abbrev pub ReadsRequest : List ℕ → Result Asked WireFault → Type 0
ReadsRequest bytes (Ok asked) = FitsRequest asked × (bytes ≡ request_spelling asked)
ReadsRequest bytes (Err fault) = IsRequestFault fault bytes

-- what is asked by a request whose changeset, or name, stands elsewhere
abbrev pub asked_by : Request → Asked
asked_by (borrowed.Push head changeset) = AsksPush head changeset.now
asked_by (borrowed.Pull first limit) = AsksPull first limit
asked_by (borrowed.Catch origin first limit) = AsksCatch origin first limit
asked_by (borrowed.Widen number base width table) = AsksWiden number base width table.now

-- what is asked by a request with a changeset, or a name, of its own
abbrev pub asked_by_owned : RequestBuf → Asked
asked_by_owned (owned.Push head changeset) = AsksPush head changeset.items
asked_by_owned (owned.Pull first limit) = AsksPull first limit
asked_by_owned (owned.Catch origin first limit) = AsksCatch origin first limit
asked_by_owned (owned.Widen number base width table) = AsksWiden number base width table

-- what is asked by a request as read
abbrev pub asked_of : Result Request WireFault → Result Asked WireFault
asked_of (Ok request) = Ok (asked_by request)
asked_of (Err fault) = Err fault
