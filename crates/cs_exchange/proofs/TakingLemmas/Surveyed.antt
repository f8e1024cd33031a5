-- The places of an entry surveyed: a change that isn't defined on the log's row, and the places that are left.
use Rattle.std.proofs.Common.{◌≡◌, ◌++◌, List, [], ◌∷◌, None, sym, ap, ◌∙◌, append_assoc, inl, inr}
use Rattle.std.proofs.lemmas.List.{append-nil}
use Rattle.cs_value.specs.Key.{Place}
use Rattle.cs_change.specs.Action.{action, after}
use Rattle.cs_normal.specs.State.{State}
use Rattle.cs_tasks.specs.Tasks.{Task}
use Rattle.cs_exchange.specs.taking.Steps.{HasBad}

pub bad_here : (log : State) (t : Task) (ts : List Task) (place : Place) → place ≡ log t.name t.key → after (action t.change) place ≡ None → HasBad log (t ∷ ts)
unfolding HasBad
bad_here log t ts place is none = inl (ap (λ (p : Place). after (action t.change) p) (sym is) ∙ none)

-- one of the first, or of the others
pub bad_first : (log : State) (t : Task) (ts : List Task) → HasBad log (t ∷ []) → HasBad log (t ∷ ts)
unfolding HasBad
bad_first log t ts (inl none) = inl none
bad_first log t ts (inr no_more) = absurd no_more

pub bad_behind : (log : State) (t : Task) (ts : List Task) → HasBad log ts → HasBad log (t ∷ ts)
unfolding HasBad
bad_behind log t ts bad = inr bad

-- ---- the places surveyed, and those that are left

pub sites_more : (old new : List Task) (t : Task) (rest left all : List Task) → new ≡ old ++ t ∷ [] → left ≡ t ∷ rest → old ++ left ≡ all → new ++ rest ≡ all
sites_more old new t rest left all grown parts so_far =
    ap (λ (ts : List Task). ts ++ rest) grown ∙ append_assoc old (t ∷ []) rest ∙ ap (λ (ts : List Task). old ++ ts) (sym parts) ∙ so_far

pub sites_all : (now left all : List Task) → left ≡ [] → now ++ left ≡ all → now ≡ all
sites_all now left all none is = sym (append-nil now) ∙ ap (λ (ts : List Task). now ++ ts) (sym none) ∙ is
