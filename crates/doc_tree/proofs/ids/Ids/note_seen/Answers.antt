use Rattle.std.proofs.Common.{◌≡◌, ℕ, List, ◌∷◌, [], refl, ap, subst}
use Rattle.std.specs.Str.{chars}
use Rattle.standard.specs.Tree.{attribute}
use Rattle.doc_tree.specs.Holders.{held, MayHold}
use Rattle.doc_tree.proofs.ids.Ids.note_seen.Goals as goal

-- the text `id`
name : chars (105 ∷ 100 ∷ []) ≡ 105 ∷ 100 ∷ []
unfolding chars
name = refl

pub returns-in-Some-clause-told : goal.returns-in-Some-clause-told
returns-in-Some-clause-told c id is =
    let named = ap (λ (n : List ℕ). attribute n c.args.attributes.now) name in
    let same : chars c.in-Some.id.now ≡ id = cc (c.in-Some.ensures) in
    subst (λ (text : List ℕ). MayHold (held c.note.new.self text) c.args.node) same c.note.ensures.told

pub returns-in_default-clause-told : goal.returns-in_default-clause-told
returns-in_default-clause-told c id is =
    let named = ap (λ (n : List ℕ). attribute n c.args.attributes.now) name in
    let none = c.in_default.ensures in
    absurd cc
