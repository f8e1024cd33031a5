use Rattle.std.proofs.Common.{List, ◌∙◌, ap, map, subst, sym}
use Rattle.cs_value.specs.declared.catalog.TableDef.{TableDef}
use Rattle.cs_store.specs.log.Entry.{MayWiden}
use Rattle.cs_hub.specs.appending.Appended.{IsAppendedIn}
use Rattle.cs_hub.specs.declared.log_store.catalogs.Later.{Later}
use Rattle.cs_hub.specs.log_store.Later.{tables_behind, widen_of, widens_in}
use Rattle.cs_hub.specs.log_store.Versions.{Versions}
use Rattle.cs_hub.proofs.AppendingLemmas.Batches.{grown_shown}
use Rattle.cs_hub.proofs.LogStoreLemmas.Versions.{later_grows, widens_more, widens_same}
use Rattle.cs_hub.proofs.appending.appending.append_tried.Goals as goal

pub invariant_of-catalogs-in-Some : goal.invariant_of-catalogs-in-Some
invariant_of-catalogs-in-Some g c =
    later_grows c.catalogs.inside.opening c.catalogs.inside.later.items c.reserve.new.self.items c.reserve.ensures.items c.in_ok-later.later
    c.behind.result.now c.push_reserved.new.self.items c.in-Some.later c.catalogs.invariant c.behind.ensures c.in-Some.is c.in_ok-later.ensures.made c.push_reserved.ensures.items

pub returns-in-Some-clause-shown : goal.returns-in-Some-clause-shown
returns-in-Some-clause-shown g c =
    rw (← c.catalogs.view_is)
    (λ honest log shows.
    let opening = c.catalogs.inside.opening in
    let held = c.catalogs.inside.later.items in
    let old = g.S.RowStore.contents c.args.store.now in
    let new = g.S.RowStore.contents c.commit.new.self in
    let versions : Versions = record { opening = opening; newest = c.catalogs.inside.newest; widens = map widen_of held } in
    let appended : IsAppendedIn versions c.args.entry.now old new =
    subst (IsAppendedIn versions c.args.entry.now old) (sym (c.in-Ok.ensures.ok honest)) ((rw (← c.catalogs.view_is) at c.requires.tried) (c.in-Ok.ensures.was_honest honest)) in
    let behind = c.behind.ensures ∙ ap (λ (ls : List Later). tables_behind opening (map widen_of ls)) c.reserve.ensures.items in
    let grown = grown_shown c.widens_grow.ensures versions old new c.args.entry.now (widens_in c.in_ok-later.later)
    (λ may. c.in_ok-later.ensures.found (subst (λ (t : List TableDef). MayWiden t c.args.entry.now.body) (sym behind) may)) appended log shows in
    (grown.0, grown.1, widens_more opening held c.reserve.new.self.items c.reserve.ensures.items c.in_ok-later.later c.push_reserved.new.self.items c.in-Some.later c.in-Some.is c.push_reserved.ensures.items ∙ grown.2))

pub returns-in_default-clause-shown : goal.returns-in_default-clause-shown
returns-in_default-clause-shown g c =
    rw (← c.catalogs.view_is)
    (λ honest log shows.
    let opening = c.catalogs.inside.opening in
    let held = c.catalogs.inside.later.items in
    let old = g.S.RowStore.contents c.args.store.now in
    let new = g.S.RowStore.contents c.commit.new.self in
    let versions : Versions = record { opening = opening; newest = c.catalogs.inside.newest; widens = map widen_of held } in
    let appended : IsAppendedIn versions c.args.entry.now old new =
    subst (IsAppendedIn versions c.args.entry.now old) (sym (c.in-Ok.ensures.ok honest)) ((rw (← c.catalogs.view_is) at c.requires.tried) (c.in-Ok.ensures.was_honest honest)) in
    let behind = c.behind.ensures ∙ ap (λ (ls : List Later). tables_behind opening (map widen_of ls)) c.reserve.ensures.items in
    let grown = grown_shown c.widens_grow.ensures versions old new c.args.entry.now (widens_in c.in_ok-later.later)
    (λ may. c.in_ok-later.ensures.found (subst (λ (t : List TableDef). MayWiden t c.args.entry.now.body) (sym behind) may)) appended log shows in
    (grown.0, grown.1, widens_same opening held c.reserve.new.self.items c.reserve.ensures.items c.in_ok-later.later c.in_default.not-Some ∙ grown.2))
