use Rattle.std.proofs.Common.{◌≡◌, ℕ, List, Option, take}
use Rattle.cs_store.specs.Laws.{row_after}
use Rattle.cs_pending.specs.Placing.{body_found}
use Rattle.cs_pending.proofs.placing.edited_at.Given as goal

-- those so far leave what was found
abbrev pub invariant-loop-at : goal.invariant-loop-at
invariant-loop-at l = (stood : Option (List ℕ)) → row_after (take l.at l.edits) l.fn.place.number l.fn.place.key.now stood ≡ body_found l.found stood
