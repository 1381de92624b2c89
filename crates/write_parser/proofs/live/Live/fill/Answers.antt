use Rattle.std.proofs.Common.{◌≡◌, List, [], ◌∷◌, None, Some, refl, sym, ap, ◌∙◌}
use Rattle.standard.specs.Fragment.{context_at, fragment, filled}
use Rattle.doc_changes.specs.Fragments.{FragmentView}
use Rattle.rule_laws.proofs.FragmentTexts.{fragment-bound}
use Rattle.doc_changes.specs.declared.change.Change.{Change}
use Rattle.doc_changes.specs.declared.change.Change.TheVariants.{Filled}
use Rattle.doc_changes.specs.Logs.{with_more}
use Rattle.write_parser.proofs.MadeLemmas.{none-more, setting-is}
use Rattle.write_parser.proofs.StatementLemmas.{set-deep, set-filled}
use Rattle.write_parser.proofs.live.Live.fill.Goals as goal

pub new-requires : goal.new-requires
new-requires c = λ t.
    let context = c.in_ok-context.context in
    fragment-bound t c.args.table.now context c.args.text.now c.in-Some.ops (sym (c.in_ok-fragment.ensures ∙ ap (fragment c.args.table.now context) c.as_str.ensures) ∙ c.in-Some.is)

pub returns-in-None-clause-does : goal.returns-in-None-clause-does
returns-in-None-clause-does c =
    let old = c.args.self.now in
    let context = c.in_ok-context.context in
    let there : context ≡ context_at old.doc.tree c.args.target old.machine.open_state.quirks = c.in_ok-context.ensures ∙ ap (context_at old.doc.tree c.args.target) c.is_quirky.ensures in
    set-deep c.args.table.now old.machine.open_state.quirks old (Some c.args.target) c.args.text.now c.args.target context refl there
    (sym c.in-None.is ∙ (c.in_ok-fragment.ensures ∙ ap (fragment c.args.table.now context) c.as_str.ensures))

pub returns-in_ok-fill-in-Some-clause-does : goal.returns-in_ok-fill-in-Some-clause-does
returns-in_ok-fill-in-Some-clause-does c =
    let old = c.args.self.now in
    let context = c.in_ok-context.context in
    let there : context ≡ context_at old.doc.tree c.args.target old.machine.open_state.quirks = c.in_ok-context.ensures ∙ ap (context_at old.doc.tree c.args.target) c.is_quirky.ensures in
    set-filled c.args.table.now old.machine.open_state.quirks old (Some c.args.target) c.args.text.now c.args.target context refl there c.in-Some.ops c.fill.new.doc
    (sym c.in-Some.is ∙ (c.in_ok-fragment.ensures ∙ ap (fragment c.args.table.now context) c.as_str.ensures))
    (c.in_ok-fill-in-Some.ensures.ok ∙ ap (λ (f : FragmentView). record c.args.self.now.doc { tree = filled c.args.self.now.doc.tree c.args.target f.form f.ops }) c.new.ensures)

pub returns-in-None-clause-logged : goal.returns-in-None-clause-logged
returns-in-None-clause-logged c =
    let old = c.args.self.now in
    let context = c.in_ok-context.context in
    let there : context ≡ context_at old.doc.tree c.args.target old.machine.open_state.quirks = c.in_ok-context.ensures ∙ ap (context_at old.doc.tree c.args.target) c.is_quirky.ensures in
    none-more c.args.log.now ∙ ap (λ (more : List Change). with_more more c.args.log.now)
    (setting-is c.args.table.now old.machine.open_state.quirks old.doc.tree c.args.target c.args.text.now context None there
    (sym c.in-None.is ∙ (c.in_ok-fragment.ensures ∙ ap (fragment c.args.table.now context) c.as_str.ensures)))

pub returns-in_ok-fill-in-Some-clause-logged : goal.returns-in_ok-fill-in-Some-clause-logged
returns-in_ok-fill-in-Some-clause-logged c =
    let old = c.args.self.now in
    let context = c.in_ok-context.context in
    let there : context ≡ context_at old.doc.tree c.args.target old.machine.open_state.quirks = c.in_ok-context.ensures ∙ ap (context_at old.doc.tree c.args.target) c.is_quirky.ensures in
    c.in_ok-fill-in-Some.ensures.adds ∙ (ap (λ (f : FragmentView). with_more (Filled c.args.target f ∷ []) c.args.log.now) c.new.ensures ∙ ap (λ (more : List Change). with_more more c.args.log.now)
    (setting-is c.args.table.now old.machine.open_state.quirks old.doc.tree c.args.target c.args.text.now context (Some c.in-Some.ops) there
    (sym c.in-Some.is ∙ (c.in_ok-fragment.ensures ∙ ap (fragment c.args.table.now context) c.as_str.ensures))))
