use Rattle.std.proofs.Common.{◌++◌, ◌∙◌, false, sym, subst, ap}
use Rattle.std.specs.Prelude.{string_bytes}
use Rattle.std.specs.Str.{chars}
use Rattle.html_document.specs.Stage.{Stage}
use Rattle.html_document.specs.Fed.{HasFed, Furthers}
use Rattle.html_document.specs.declared.feeding.TheConstants.{PAGE_LIMIT}
use Rattle.html_document.proofs.Pieces.{fed-on, told-on}
use Rattle.html_document.proofs.feeding.PageParser.feed.Goals as goal

pub read_further-requires : goal.read_further-requires
read_further-requires c = c.self.invariant c.if-self.false

pub returns-clause-fed : goal.returns-clause-fed
returns-clause-fed c = λ es read had.
    let i = c.self.inside in
    let old : Stage = record { entities = i.table; decoder = i.decoder; parser = i.machine; doc = i.doc; goes_on = i.goes_on; spent = i.spent } in
    let now : Stage = record { entities = i.table; decoder = c.feed.new.self; parser = c.read_further.new.machine; doc = c.read_further.new.doc; goes_on = c.in_ok-goes_on.goes_on; spent = false } in
    fed-on es old now.decoder now.parser now.doc now.goes_on read c.args.piece.now (chars (string_bytes c.in_ok-fed.fed.text)) (subst (λ (s : Stage). HasFed es s read) (sym c.self.view_is) had)
    c.in_ok-fed.ensures.read c.in_ok-fed.ensures.text (subst (λ t. Furthers old.entities old.parser old.doc old.goes_on t now.parser now.doc now.goes_on) (ap chars c.as_str.ensures.value) c.in_ok-goes_on.ensures.further)

pub returns-clause-told : goal.returns-clause-told
returns-clause-told c = λ es read had.
    let i = c.self.inside in
    let old : Stage = record { entities = i.table; decoder = i.decoder; parser = i.machine; doc = i.doc; goes_on = i.goes_on; spent = i.spent } in
    let now : Stage = record { entities = i.table; decoder = c.feed.new.self; parser = c.read_further.new.machine; doc = c.read_further.new.doc; goes_on = c.in_ok-goes_on.goes_on; spent = false } in
    let before : HasFed es old read = subst (λ (s : Stage). HasFed es s read) (sym c.self.view_is) had in
    let behind : HasFed es now (read ++ c.args.piece.now) =
    fed-on es old now.decoder now.parser now.doc now.goes_on read c.args.piece.now (chars (string_bytes c.in_ok-fed.fed.text)) before c.in_ok-fed.ensures.read c.in_ok-fed.ensures.text
    (subst (λ t. Furthers old.entities old.parser old.doc old.goes_on t now.parser now.doc now.goes_on) (ap chars c.as_str.ensures.value) c.in_ok-goes_on.ensures.further) in
    c.refusal.ensures ∙ told-on es now (read ++ c.args.piece.now) c.in_ok-fed.fed.ending behind (c.in_ok-fed.ensures.ending PAGE_LIMIT read before.bytes)
