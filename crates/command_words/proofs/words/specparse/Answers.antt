use Rattle.std.proofs.Common.{◌≡◌, ap, ap₂, ◌∙◌, true}
use Rattle.std.proofs.lemmas.Result.{IfOk-weaker}
use Rattle.clap.specs.Simple.{Shape, app_of_fields, on_top}
use Rattle.clap.specs.Words.{App, app_of, with_subcommand}
use Rattle.command_words.proofs.words.specparse.Goals as goal

abbrev requires_one : App → App
requires_one = on_top (λ s. record s { subcommand_required = true })

abbrev top : App → Shape
top app = app.top

pub returns : goal.returns
returns c =
    let required : app_of c.subcommand_required.result ≡ requires_one (app_of c.new.result) = ap app_of_fields c.subcommand_required.ensures in
    let page = c.in_ok-subcommand.ensures.shape c.in_ok-page.ensures.1 ∙ ap₂ with_subcommand (required ∙ ap requires_one c.new.ensures.app) (ap top c.in_ok-page.ensures.0) in
    let make = c.in_ok-subcommand-2.ensures.shape c.in_ok-make.ensures.1 ∙ ap₂ with_subcommand page (ap top c.in_ok-make.ensures.0) in
    IfOk-weaker c.subcommand-3.result _ _ (λ r h. h.shape c.in_ok-batch.ensures.1 ∙ ap₂ with_subcommand make (ap top c.in_ok-batch.ensures.0)) c.subcommand-3.ensures
