use Rattle.std.proofs.Common.{◌≡◌, ℕ, List, [], ◌∷◌, ◌++◌, ◌∙◌, subst}
use Rattle.std.specs.Prelude.{OnOk}
use Rattle.std.specs.Str.{chars}
use Rattle.html_types.specs.declared.operation.Op.TheVariants as op
use Rattle.html_types.specs.Operations.{spelled_one}
use Rattle.text_store.proofs.ops.Ops.push_character.Goals as goal

pub returns-clause-ok : goal.returns-clause-ok
returns-clause-ok c =
    let letter : chars c.as_str.result.now ≡ c.args.c ∷ [] = c.as_str.ensures ∙ rw c.new-text.ensures at c.in_ok-push.ensures.ok in
    subst (λ (t : List ℕ). OnOk c.push_text.result (c.push_text.new.self ≡ c.args.self.now ++ spelled_one (op.Text c.args.place t))) letter c.push_text.ensures.ok
