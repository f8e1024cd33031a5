-- That a request can be spelled has one proof at most, and so has that a name fits one.
use Rattle.std.specs.Prelude.{ℕ, List}
use Rattle.std.proofs.Props.{props}
use Rattle.cs_world.specs.Wider.{HasShortName}
use Rattle.cs_wire.specs.Requests.{Asked, AsksCatch, AsksPull, AsksPush, AsksWiden, HasShortBytes}

pub HasShortBytes-prop : (asked : Asked) → IsProp (HasShortBytes asked)
HasShortBytes-prop (AsksPush head changeset) = hlevel props
HasShortBytes-prop (AsksPull first count) = hlevel props
HasShortBytes-prop (AsksCatch origin first count) = hlevel props
HasShortBytes-prop (AsksWiden number base width table) = hlevel props

pub HasShortName-prop : (name : List ℕ) → IsProp (HasShortName name)
HasShortName-prop name = hlevel props
