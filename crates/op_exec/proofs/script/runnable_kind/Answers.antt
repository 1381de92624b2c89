use Rattle.std.proofs.Common.{◌≡◌, ℕ, List, Bool, Option, None, Some, codes, ◌||◌, sym, ap, ◌∙◌}
use Rattle.std.specs.Str.{chars}
use Rattle.std.proofs.lemmas.Bool.{both_ways}
use Rattle.html_types.specs.declared.attributes.Attribute.{Attribute}
use Rattle.standard.specs.Tree.{kind_of, attributes_of, attribute, script_text}
use Rattle.standard.specs.Prepare.{has, prepared_by}
use Rattle.op_exec.specs.Scripts.{script_kind}
use Rattle.op_exec.proofs.Literals.{src_text}
use Rattle.op_exec.proofs.Scripts.{kind-inline, kind-no_text, kind-no_src, kind-later, kind-external}
use Rattle.op_exec.proofs.script.runnable_kind.Goals as goal

-- the kind by the `src` that was read
by_src : (read : Option (List ℕ)) (as' : List Attribute) (later : Bool) (text : List ℕ) → read ≡ attribute (chars (codes "src")) as'
    → script_kind (prepared_by read later text) ≡ script_kind (prepared_by (attribute (codes "src") as') later text)
by_src read as' later text is = ap (λ (o : Option (List ℕ)). script_kind (prepared_by o later text)) (is ∙ ap (λ name. attribute name as') src_text)

pub returns-then-has_child_text : goal.returns-then-has_child_text
returns-then-has_child_text c =
    let as' = attributes_of (kind_of c.args.tree.now c.args.node) in
    let later = has "async" as' || has "defer" as' in
    let text = script_text c.args.tree.now c.args.node in
    sym (kind-inline later text (c.has_child_text.ensures.some c.if-has_child_text.true)) ∙ by_src None as' later text c.in-None.ensures

pub returns-else-has_child_text : goal.returns-else-has_child_text
returns-else-has_child_text c =
    let as' = attributes_of (kind_of c.args.tree.now c.args.node) in
    let later = has "async" as' || has "defer" as' in
    let text = script_text c.args.tree.now c.args.node in
    sym (kind-no_text later text (c.has_child_text.ensures.none c.if-has_child_text.false)) ∙ by_src None as' later text c.in-None.ensures

pub returns-then-is_empty : goal.returns-then-is_empty
returns-then-is_empty c =
    let as' = attributes_of (kind_of c.args.tree.now c.args.node) in
    let later = has "async" as' || has "defer" as' in
    let text = script_text c.args.tree.now c.args.node in
    sym (kind-no_src later (chars c.in-Some.src.now) text (c.is_empty.ensures.0 c.if-is_empty.true)) ∙ by_src (Some (chars c.in-Some.src.now)) as' later text c.in-Some.ensures

pub returns-then-is_later : goal.returns-then-is_later
returns-then-is_later c =
    let as' = attributes_of (kind_of c.args.tree.now c.args.node) in
    let later = has "async" as' || has "defer" as' in
    let text = script_text c.args.tree.now c.args.node in
    sym (kind-later later (chars c.in-Some.src.now) text (sym c.is_later.ensures ∙ c.if-is_later.true)) ∙ by_src (Some (chars c.in-Some.src.now)) as' later text c.in-Some.ensures

pub returns-else-is_later : goal.returns-else-is_later
returns-else-is_later c =
    let as' = attributes_of (kind_of c.args.tree.now c.args.node) in
    let later = has "async" as' || has "defer" as' in
    let text = script_text c.args.tree.now c.args.node in
    sym (kind-external later (chars c.in-Some.src.now) text (sym c.is_later.ensures ∙ c.if-is_later.false) (λ none. both_ways _ c.if-is_empty.false (c.is_empty.ensures.1 none))) ∙ by_src (Some (chars c.in-Some.src.now)) as' later text c.in-Some.ensures
