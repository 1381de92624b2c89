use Rattle.std.proofs.Common.{◌≡◌, ℕ, List, [], ◌∙◌, false, sym, subst}
use Rattle.std.proofs.lemmas.Result.{IfOk-weaker}
use Rattle.html_types.specs.declared.ending.Why.{Why}
use Rattle.html_types.specs.declared.ending.Why.TheVariants as why
use Rattle.standard.specs.Entities.{Entities}
use Rattle.standard.specs.Act.{Doc}
use Rattle.standard.specs.Through.{through}
use Rattle.serial.specs.Page.{page_of}
use Rattle.serial.specs.Quiet.{tree, refused, ended_quietly, quiet}
use Rattle.html_document.specs.declared.feeding.TheConstants.{PAGE_LIMIT}
use Rattle.html_document.specs.Stage.{Stage}
use Rattle.html_document.specs.Fed.{HasFed}
use Rattle.html_document.proofs.Pieces.{finished-on, finished-deep}
use Rattle.html_document.proofs.feeding.PageParser.finish.Goals as goal

pub returns-then-not-goes_on-clause-refused : goal.returns-then-not-goes_on-clause-refused
returns-then-not-goes_on-clause-refused c = λ w is es read had.
    let i = c.self.inside in
    let s : Stage = record { entities = i.table; decoder = i.decoder; parser = i.machine; doc = i.doc; goes_on = i.goes_on; spent = i.spent } in
    let same : why.Depth ≡ w = cc is in
    subst (λ (v : Why). quiet es (page_of PAGE_LIMIT read false) ≡ refused v) same
    (finished-deep es s read (subst (λ (x : Stage). HasFed es x read) (sym c.self.view_is) had) c.if-not-goes_on.true)

pub returns-then-spent-clause-refused : goal.returns-then-spent-clause-refused
returns-then-spent-clause-refused c = λ w is. absurd (cc is)

pub take_ending-requires : goal.take_ending-requires
take_ending-requires c = c.self.invariant c.if-spent.false c.if-not-goes_on.false

pub returns-clause-tree : goal.returns-clause-tree
returns-clause-tree c =
    let i = c.self.inside in
    let s : Stage = record { entities = i.table; decoder = i.decoder; parser = i.machine; doc = i.doc; goes_on = i.goes_on; spent = i.spent } in
    IfOk-weaker c.take_ending.result (λ (d : Doc). ended_quietly s.entities s.doc c.close-ending.result (through [] s.parser) ≡ tree d)
    (λ (d : Doc). (es : Entities) (read : List ℕ) → HasFed es c.args.self read → quiet es (page_of PAGE_LIMIT read false) ≡ tree d)
    (λ d is es read had. finished-on es s read c.close-ending.result (subst (λ (x : Stage). HasFed es x read) (sym c.self.view_is) had) c.if-not-goes_on.false c.close-ending.ensures ∙ is)
    c.take_ending.ensures.tree

pub returns-clause-refused : goal.returns-clause-refused
returns-clause-refused c = λ w is es read had.
    let i = c.self.inside in
    let s : Stage = record { entities = i.table; decoder = i.decoder; parser = i.machine; doc = i.doc; goes_on = i.goes_on; spent = i.spent } in
    finished-on es s read c.close-ending.result (subst (λ (x : Stage). HasFed es x read) (sym c.self.view_is) had) c.if-not-goes_on.false c.close-ending.ensures
    ∙ c.take_ending.ensures.refused w is
