use Rattle.std.proofs.Common.{rules, ◌≡◌, ap, ap₂, ◌∙◌, codes}
use Rattle.clap.specs.Words.{App, app_of, new_app, with_subcommand}
use Rattle.cs_command.specs.CommandLine.{exchange_app, hub_app, node_app, world_app}
use Rattle.cs_command.proofs.CommandLemmas.{no_globals}
use Rattle.cs_command.proofs.command.syncing_command.Goals as goal

pub returns : goal.returns
returns c =
    let sync_is : app_of c.override_usage-sync.result ≡ new_app (codes "sync") = search rules in
    let hub_is : app_of c.in_ok-hub.hub ≡ hub_app = c.in_ok-hub.ensures in
    let node_is : app_of c.in_ok-node.node ≡ node_app = c.in_ok-node.ensures in
    let exchange_is : app_of c.in_ok-exchange.exchange ≡ exchange_app = c.in_ok-exchange.ensures in
    let world_is : app_of c.in_ok-world.world ≡ world_app = c.in_ok-world.ensures in
    let one_is : app_of c.in_ok-one.one ≡ with_subcommand (new_app (codes "sync")) hub_app.top =
    c.in_ok-one.ensures.shape (no_globals _ _ _ _ (ap (λ (a : App). a.top.is_plain) hub_is)) ∙ ap₂ with_subcommand sync_is (ap (λ (a : App). a.top) hub_is) in
    let two_is : app_of c.in_ok-two.two ≡ with_subcommand (with_subcommand (new_app (codes "sync")) hub_app.top) node_app.top =
    c.in_ok-two.ensures.shape (no_globals _ _ _ _ (ap (λ (a : App). a.top.is_plain) node_is)) ∙ ap₂ with_subcommand one_is (ap (λ (a : App). a.top) node_is) in
    let three_is : app_of c.in_ok-three.three ≡ with_subcommand (with_subcommand (with_subcommand (new_app (codes "sync")) hub_app.top) node_app.top) exchange_app.top =
    c.in_ok-three.ensures.shape (no_globals _ _ _ _ (ap (λ (a : App). a.top.is_plain) exchange_is)) ∙ ap₂ with_subcommand two_is (ap (λ (a : App). a.top) exchange_is) in
    c.in_ok-four.ensures.shape (no_globals _ _ _ _ (ap (λ (a : App). a.top.is_plain) world_is))
    ∙ ap₂ with_subcommand three_is (ap (λ (a : App). a.top) world_is)
