-- The keys of a table's changes, gathered one by one.
use Rattle.std.proofs.Common.{◌≡◌, ℕ, Bool, true, false, ◌+◌, ◌<◌, ◌≤◌, List, ◌∷◌, ◌++◌, length, drop, get_or, sym, ap, ◌∙◌, append_assoc, append-nil}
use Rattle.std.specs.Map.{keys_of}
use Rattle.std.proofs.lemmas.List.{drop_more, drop_all}
use Rattle.cs_order.specs.Order.{Keys}
use Rattle.cs_change.specs.declared.change.Change.{Change}
use Rattle.cs_normal.specs.keyed.NormalForm.{has_key}
use Rattle.cs_normal.specs.keyed.Prepared.{all_keyed, prepared}
use Rattle.cs_normal.specs.keyed.Steps.Forms.{key_if_set}

-- what is gathered of these, and of what is left, behind what there was
abbrev Rest : List Bool → Keys → Keys → List Change → List Change → Type 0
Rest marks start keys rest changes =
    (keys ++ keys_of (prepared marks rest) ≡ start ++ keys_of (prepared marks changes))
    × (all_keyed marks rest ≡ all_keyed marks changes)

one_more : (marks : List Bool) (x : Change) (rest changes : List Change) (start keys now : Keys) → has_key marks x ≡ true → now ≡ keys ++ key_if_set marks x → Rest marks start keys (x ∷ rest) changes → Rest marks start now rest changes
unfolding prepared all_keyed
one_more marks x rest changes start keys now set grown so_far =
    let is = simp set at so_far in
    let more = simp set at grown in
    (rw (more, append_assoc) is.0, is.1)

none_more : (marks : List Bool) (x : Change) (rest changes : List Change) (start keys now : Keys) → has_key marks x ≡ false → now ≡ keys ++ key_if_set marks x → Rest marks start keys (x ∷ rest) changes → (now ≡ start ++ keys_of (prepared marks changes)) × (false ≡ all_keyed marks changes)
unfolding prepared all_keyed
none_more marks x rest changes start keys now none grown so_far =
    let is = simp none at so_far in
    let same = simp none at grown in
    (same ∙ is.0, is.1)

at_change : (marks : List Bool) (changes : List Change) (at : ℕ) (x : Change) (start keys : Keys) → at < length changes → x ≡ get_or changes at x → Rest marks start keys (drop at changes) changes → Rest marks start keys (x ∷ drop (at + 1) changes) changes
at_change marks changes at x start keys less is so_far =
    let parts : drop at changes ≡ x ∷ drop (at + 1) changes = drop_more changes at x less ∙ ap (λ (y : Change). y ∷ drop (at + 1) changes) (sym is) in
    rw parts at so_far

pub gathered_more : (marks : List Bool) (changes : List Change) (at : ℕ) (x : Change) (start keys now : Keys) → at < length changes → x ≡ get_or changes at x → has_key marks x ≡ true → now ≡ keys ++ key_if_set marks x → Rest marks start keys (drop at changes) changes → Rest marks start now (drop (at + 1) changes) changes
gathered_more marks changes at x start keys now less is set grown so_far =
    one_more marks x (drop (at + 1) changes) changes start keys now set grown (at_change marks changes at x start keys less is so_far)

pub gathered_stopped : (marks : List Bool) (changes : List Change) (at : ℕ) (x : Change) (start keys now : Keys) → at < length changes → x ≡ get_or changes at x → has_key marks x ≡ false → now ≡ keys ++ key_if_set marks x → Rest marks start keys (drop at changes) changes → (now ≡ start ++ keys_of (prepared marks changes)) × (false ≡ all_keyed marks changes)
gathered_stopped marks changes at x start keys now less is none grown so_far =
    none_more marks x (drop (at + 1) changes) changes start keys now none grown (at_change marks changes at x start keys less is so_far)

pub gathered_whole : (marks : List Bool) (changes : List Change) (at : ℕ) (start keys : Keys) → length changes ≤ at → Rest marks start keys (drop at changes) changes → (keys ≡ start ++ keys_of (prepared marks changes)) × (true ≡ all_keyed marks changes)
unfolding prepared all_keyed
gathered_whole marks changes at start keys past so_far =
    let is = rw (drop_all at changes past) at so_far in
    (sym (append-nil keys) ∙ is.0, is.1)
