use Rattle.std.proofs.Common.{◌≡◌, ap, ap₂, ◌∙◌}
use Rattle.clap.specs.Words.{App, app_of, with_subcommand}
use Rattle.cs_command.specs.CommandLine.{combine_app, rebase_app, show_app, syncing_app}
use Rattle.cs_command.proofs.CommandLemmas.{no_globals}
use Rattle.cs_command.proofs.command.sync_command.Goals as goal

pub returns : goal.returns
returns c =
    let syncing_is : app_of c.in_ok-syncing.syncing ≡ syncing_app = c.in_ok-syncing.ensures in
    let show_is : app_of c.in_ok-show.show ≡ show_app = c.in_ok-show.ensures in
    let combine_is : app_of c.in_ok-combine.combine ≡ combine_app = c.in_ok-combine.ensures in
    let rebase_is : app_of c.in_ok-rebase.rebase ≡ rebase_app = c.in_ok-rebase.ensures in
    let one_is : app_of c.in_ok-one.one ≡ with_subcommand syncing_app show_app.top =
    c.in_ok-one.ensures.shape (no_globals _ _ _ _ (ap (λ (a : App). a.top.is_plain) show_is)) ∙ ap₂ with_subcommand syncing_is (ap (λ (a : App). a.top) show_is) in
    let two_is : app_of c.in_ok-two.two ≡ with_subcommand (with_subcommand syncing_app show_app.top) combine_app.top =
    c.in_ok-two.ensures.shape (no_globals _ _ _ _ (ap (λ (a : App). a.top.is_plain) combine_is)) ∙ ap₂ with_subcommand one_is (ap (λ (a : App). a.top) combine_is) in
    c.in_ok-three.ensures.shape (no_globals _ _ _ _ (ap (λ (a : App). a.top.is_plain) rebase_is))
    ∙ ap₂ with_subcommand two_is (ap (λ (a : App). a.top) rebase_is)
