-- What may follow behind a front, as more of the bytes is read.
use Rattle.std.proofs.Common.{◌≡◌, ℕ, ◌+◌, ◌≤◌, List, ◌++◌, length, take, drop, sym, ap, ◌∙◌, append_assoc, arith, subst, length-append}
use Rattle.std.proofs.lemmas.List.{length-take-le, take-append-drop, length-drop}
use Rattle.cs_record.specs.Reading.{StandsAt}
use Rattle.cs_record.specs.Facts.{tail, take-add}
use Rattle.cs_changeset.specs.Reading.{IsChangesetFault}
use Rattle.cs_changeset.specs.declared.fault.Fault.{Fault}
use Rattle.cs_changeset.specs.declared.fault.Fault.TheVariants.{Truncated}
use Rattle.cs_feed.specs.Feeding.{IsChangeset}
use Rattle.cs_feed.specs.Steps.{Leads, IsEarly, behind}

pub length_behind : (bytes : List ℕ) (at : ℕ) → at ≤ length bytes → length (behind bytes at) + at ≡ length bytes
length_behind bytes at within = omega (arith, ap length (tail bytes at), length-drop at bytes, within)

pub front_behind : (bytes : List ℕ) (at : ℕ) → take at bytes ++ behind bytes at ≡ bytes
front_behind bytes at = ap (λ (t : List ℕ). take at bytes ++ t) (tail bytes at) ∙ take-append-drop at bytes

module _ (Ahead : List ℕ → Type 0) (Wrong : Fault → ℕ → List ℕ → Type 0) where
  -- what is right there makes a changeset of the whole
  pub spelled_at : (bytes : List ℕ) (at : ℕ) → Leads Ahead Wrong (take at bytes) → Ahead (behind bytes at) → IsChangeset bytes
  spelled_at bytes at leads ahead = subst IsChangeset (front_behind bytes at) (leads.whole (behind bytes at) ahead)

  -- what is wrong there is wrong with the whole
  pub told_at : (bytes : List ℕ) (at : ℕ) (fault : Fault) (offset : ℕ) → at ≤ length bytes → Leads Ahead Wrong (take at bytes) → Wrong fault offset (behind bytes at) → IsChangesetFault fault (at + offset) bytes
  told_at bytes at fault offset within leads wrong =
      let there = leads.wrong fault offset (behind bytes at) wrong in
      let far : length (take at bytes) + offset ≡ at + offset = ap (λ (n : ℕ). n + offset) (length-take-le at bytes within) in
      subst (λ (b : List ℕ). IsChangesetFault fault (at + offset) b) (front_behind bytes at) (subst (λ (n : ℕ). IsChangesetFault fault n (take at bytes ++ behind bytes at)) far there)

  -- what ends early there, the whole does
  pub early_at : (bytes : List ℕ) (at offset : ℕ) → at ≤ length bytes → Leads Ahead Wrong (take at bytes) → Wrong Truncated offset (behind bytes at) → offset ≡ length (behind bytes at) → IsEarly bytes
  early_at bytes at offset within leads wrong end =
      let far : at + offset ≡ length bytes = omega (arith, end, length_behind bytes at within) in
      subst (λ (n : ℕ). IsChangesetFault Truncated n bytes) far (told_at bytes at Truncated offset within leads wrong)

  module _ (Ahead' : List ℕ → Type 0) (Wrong' : Fault → ℕ → List ℕ → Type 0) where
    -- the same place, seen as another
    pub leads_as : (front : List ℕ) → ((rest : List ℕ) → Ahead' rest → Ahead rest)
        → ((fault : Fault) (offset : ℕ) (rest : List ℕ) → Wrong' fault offset rest → Wrong fault offset rest)
        → Leads Ahead Wrong front → Leads Ahead' Wrong' front
    leads_as front whole wrong leads = record {
      whole = λ rest ahead. leads.whole rest (whole rest ahead);
      wrong = λ fault offset rest told. leads.wrong fault offset rest (wrong fault offset rest told);
    }

    -- so much more is read
    pub leads_on : (front token : List ℕ) → ((rest : List ℕ) → Ahead' rest → Ahead (token ++ rest))
        → ((fault : Fault) (offset : ℕ) (rest : List ℕ) → Wrong' fault offset rest → Wrong fault (length token + offset) (token ++ rest))
        → Leads Ahead Wrong front → Leads Ahead' Wrong' (front ++ token)
    leads_on front token whole wrong leads = record {
      whole = λ rest ahead. subst IsChangeset (sym (append_assoc front token rest)) (leads.whole (token ++ rest) (whole rest ahead));
      wrong = λ fault offset rest told.
          let there = leads.wrong fault (length token + offset) (token ++ rest) (wrong fault offset rest told) in
          let far : length front + (length token + offset) ≡ length (front ++ token) + offset = omega (arith, length-append front token) in
          subst (λ (b : List ℕ). IsChangesetFault fault (length (front ++ token) + offset) b) (sym (append_assoc front token rest)) (subst (λ (n : ℕ). IsChangesetFault fault n (front ++ (token ++ rest))) far there);
    }

    pub leads_at : (bytes token : List ℕ) (at len : ℕ) → StandsAt (behind bytes at) token len
        → ((rest : List ℕ) → Ahead' rest → Ahead (token ++ rest))
        → ((fault : Fault) (offset : ℕ) (rest : List ℕ) → Wrong' fault offset rest → Wrong fault (length token + offset) (token ++ rest))
        → Leads Ahead Wrong (take at bytes) → Leads Ahead' Wrong' (take (at + len) bytes)
    leads_at bytes token at len stands whole wrong leads =
        let here : take len (drop at bytes) ≡ token = ap (take len) (sym (tail bytes at)) ∙ stands.front in
        let front : take at bytes ++ token ≡ take (at + len) bytes = ap (λ (t : List ℕ). take at bytes ++ t) (sym here) ∙ sym (take-add at len bytes) in
        subst (Leads Ahead' Wrong') front (leads_on (take at bytes) token whole wrong leads)

-- what stands behind a place is within the bytes
pub within_at : (bytes token : List ℕ) (at len : ℕ) → at ≤ length bytes → StandsAt (behind bytes at) token len → at + len ≤ length bytes
within_at bytes token at len within stands = omega (arith, stands.within, length_behind bytes at within)
