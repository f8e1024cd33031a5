use Rattle.std.proofs.Common.{◌≡◌, ℕ, ◌+◌, ◌<◌, ◌++◌, true, Option, List, take, drop, length, ap, sym, subst, ◌∙◌, arith}
use Rattle.std.proofs.Math.Dec.{ltb}
use Rattle.std.proofs.lemmas.List.{length-map}
use Rattle.cs_leaf.specs.Entries.{Entry, IsSpotEditFor, IsTight, bytes_of, entries_at, entry_at, spots_after, written}
use Rattle.cs_leaf.proofs.Editing.{edited_at, goes_on}
use Rattle.cs_leaf.proofs.Packing.{bytes_after, entries_kept, entries_after, spot_edit_stands, still_packed, taken_back, tight_after}
use Rattle.cs_leaf.proofs.leaf.Leaf.amend.Goals as goal

pub invariant_of-result : goal.invariant_of-result
invariant_of-result c =
    let was = c.self.inside in
    let its = c.spot_edit_of-spot_edit.ensures in
    let es : List Entry = c.args.self in
    let at = c.search_near-at.result in
    let p = c.args.place.now in
    let body = c.args.edit.now.body in
    let is_there = ltb at c.behind.result in
    let gone = c.size_if-gone.result in
    let bytes = c.spot_edit_of-spot_edit.new.bytes.items in
    let spots = c.spot_edit_of-spot_edit.new.spots.items in
    let long : length spots ≡ length es = ap length its.same ∙ sym (length-map was.spots.items (entry_at was.bytes.items)) ∙ ap length c.self.view_is in
    let on = goes_on es at c.behind.result p c.behind.ensures in
    let there : is_there ≡ true → at < length spots = λ e. let l = on.0 e in omega (arith, l, long) in
    let edits = subst (λ (row : Option (List ℕ)). IsSpotEditFor p row is_there bytes c.in-Ok.spot_edit) c.body.ensures c.in-Ok.ensures.spot_edit in
    let stands = spot_edit_stands bytes spots at p body is_there c.in-Ok.spot_edit (omega (arith, c.search_near-at.ensures.bound, long)) there edits in
    let held : c.len-held.result ≡ length was.bytes.items = omega arith in
    let before = taken_back was.bytes.items its.behind.0 bytes c.len-held.result held its.behind.1 in
    let kept : entries_at bytes spots ≡ es = ap (entries_at bytes) its.same ∙ entries_kept was.bytes.items its.behind.0 bytes was.spots.items c.self.invariant.0 its.behind.1 ∙ c.self.view_is in
    let after = entries_after bytes spots at p body is_there c.in-Ok.spot_edit es kept there edits in
    let tight = subst (λ (all : List Entry). IsTight was.used (length was.bytes.items) all) c.self.view_is c.self.invariant.2 in
    let rows : bytes_of (entries_at bytes (spots_after spots at c.in-Ok.spot_edit)) + gone ≡ bytes_of es + bytes_of (written p body) =
    (λ i. bytes_of (after i) + c.size_if-gone.ensures.value i) ∙ bytes_after es at p body is_there on.0 in
    let grown : length bytes ≡ length was.bytes.items + bytes_of (written p body) =
    c.in-Ok.ensures.len ∙ ap (λ (row : Option (List ℕ)). length was.bytes.items + bytes_of (written p row)) c.body.ensures in (
      still_packed was.front was.bytes.items _ was.spots.items spots was.used c.self.invariant before its.same,
      stands.0,
      stands.1,
      c.in-Ok.ensures.room,
      tight_after es (entries_at bytes (spots_after spots at c.in-Ok.spot_edit)) was.used gone (length was.bytes.items) (bytes_of (written p body)) (length bytes)
          c.in-Some.used_after tight c.size_if-gone.ensures.bound rows grown (omega (arith, held, grown)) (omega (arith, held, grown)),
    )

pub returns-clause-after : goal.returns-clause-after
returns-clause-after c =
    let was = c.self.inside in
    let its = c.spot_edit_of-spot_edit.ensures in
    let es : List Entry = c.args.self in
    let at = c.search_near-at.result in
    let p = c.args.place.now in
    let body = c.args.edit.now.body in
    let bytes = c.spot_edit_of-spot_edit.new.bytes.items in
    let spots = c.spot_edit_of-spot_edit.new.spots.items in
    let long : length spots ≡ length es = ap length its.same ∙ sym (length-map was.spots.items (entry_at was.bytes.items)) ∙ ap length c.self.view_is in
    let kept : entries_at bytes spots ≡ es = ap (entries_at bytes) its.same ∙ entries_kept was.bytes.items its.behind.0 bytes was.spots.items c.self.invariant.0 its.behind.1 ∙ c.self.view_is in
    let on = goes_on es at c.behind.result p c.behind.ensures in
    let edits = subst (λ (row : Option (List ℕ)). IsSpotEditFor p row (ltb at c.behind.result) bytes c.in-Ok.spot_edit) c.body.ensures c.in-Ok.ensures.spot_edit in
    entries_after bytes spots at p body (ltb at c.behind.result) c.in-Ok.spot_edit es kept (λ e. let l = on.0 e in omega (arith, l, long)) edits
    ∙ ap (λ k. take at es ++ (written p body ++ drop k es)) on.1
    ∙ sym (edited_at es at c.behind.result c.args.edit.now p c.requires.place c.search_near-at.ensures.bound c.requires.sorted c.search_near-at.ensures.found c.behind.ensures)
