use Rattle.std.proofs.Common.{[], refl, sym, ap, ◌∙◌, length, append-nil}
use Rattle.text_store.proofs.ListLemmas.{missing_behind}
use Rattle.text_store.proofs.apart.add_to.Goals as goal

pub returns-clause-longer : goal.returns-clause-longer
returns-clause-longer c =
    let added = missing_behind c.args.more.now c.args.apart.now.list in
    record { name = refl; more = added.0; list = c.in_ok-add_missing.ensures.ok ∙ added.1 }

pub returns-in_err-size-clause-longer : goal.returns-in_err-size-clause-longer
returns-in_err-size-clause-longer c =
    let added = missing_behind c.args.more.now c.args.apart.now.list in
    record { name = refl; more = added.0; list = c.in_ok-add_missing.ensures.ok ∙ added.1 }

pub returns-in_err-add_missing-clause-longer : goal.returns-in_err-add_missing-clause-longer
returns-in_err-add_missing-clause-longer c =
    record { name = refl; more = []; list = c.in_err-add_missing.ensures.err ∙ sym (append-nil c.args.apart.now.list) }

pub returns-clause-size : goal.returns-clause-size
returns-clause-size c = c.in_ok-size.ensures ∙ ap length c.as_slice.ensures
