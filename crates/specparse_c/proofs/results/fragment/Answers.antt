use Rattle.std.proofs.Common.{subst}
use Rattle.std.proofs.lemmas.Result.{err_from_is_err_and}
use Rattle.std.specs.Str.{chars}
use Rattle.html_document.specs.Flat.{Shows}
use Rattle.html_document.specs.Fragments.{IsFragment}
use Rattle.specparse_c.proofs.Failures.{context-fragment, table-fragment, text-fragment, deep-fragment}
use Rattle.specparse_c.proofs.results.fragment.Goals as goal

pub returns-in_err-context-clause-failure : goal.returns-in_err-context-clause-failure
returns-in_err-context-clause-failure c =
    let p = err_from_is_err_and c.from_residual.result c.from_residual.ensures.1 in
    rw (p.1, p.2) (context-fragment c.args.entities.now c.args.name.now c.args.space c.args.flags c.args.source.now _ c.in_err-context.ensures.failure)

pub returns-in_err-table-clause-failure : goal.returns-in_err-table-clause-failure
returns-in_err-table-clause-failure c =
    let p = err_from_is_err_and c.from_residual-in_err-table.result c.from_residual-in_err-table.ensures.1 in
    rw (p.1, p.2) (table-fragment c.args.entities.now c.args.name.now c.args.space c.args.flags c.args.source.now _ c.in_err-table.ensures.failure)

pub returns-in_err-text-clause-failure : goal.returns-in_err-text-clause-failure
returns-in_err-text-clause-failure c =
    let p = err_from_is_err_and c.from_residual-in_err-text.result c.from_residual-in_err-text.ensures.1 in
    rw (p.1, p.2) (text-fragment c.args.entities.now c.args.name.now c.args.space c.args.flags c.args.source.now _ c.in_err-text.ensures.failure)

pub returns-in_err-made-clause-failure : goal.returns-in_err-made-clause-failure
returns-in_err-made-clause-failure c =
    let p = err_from_is_err_and c.from_residual-in_err-made.result c.from_residual-in_err-made.ensures.1 in
    rw (p.1, p.2)
    (deep-fragment c.args.entities.now c.args.name.now c.args.space c.args.flags c.args.source.now c.in_ok-text.text.now c.in_ok-table.table c.in_ok-context.context _ c.in_ok-table.ensures.table
    c.in_ok-context.ensures.context c.in_ok-text.ensures.text.0 c.in_err-made.ensures.failure)

pub returns-in_err-flat-clause-failure : goal.returns-in_err-flat-clause-failure
returns-in_err-flat-clause-failure c =
    let p = err_from_is_err_and c.from_residual-in_err-flat.result c.from_residual-in_err-flat.ensures.1 in
    rw (p.1, p.2) tt

pub returns-clause-fragment : goal.returns-clause-fragment
returns-clause-fragment c =
    let f = c.in_ok-flat.flat in
    let d = c.in_ok-made.made.doc in
    let made = c.in_ok-made.ensures.fragment in
    let is = subst (λ t. IsFragment c.in_ok-table.table c.in_ok-context.context (chars t) d) c.in_ok-text.ensures.text.0 made.0 in (
      d,
      (c.in_ok-table.table, c.in_ok-context.context, c.in_ok-table.ensures.table, c.in_ok-context.ensures.context, c.in_ok-text.ensures.text.1, is),
      subst (λ t. Shows t f.nodes.items f.attributes.items f.text.items) c.tree.ensures c.in_ok-flat.ensures,
      made.1,
    )
