-- Documents under other ids stay so over operations.
use Rattle.std.proofs.Common.{◌≡◌, ℕ, true, cond, List, [], ◌∷◌, length, Some, sym, ap, subst, ◌∙◌, inl, inr, arith}
use Rattle.std.specs.Prelude.{IsTrue, is_some}
use Rattle.html_types.specs.Operations.{same_id}
use Rattle.html_types.specs.declared.operation.NodeId.{NodeId}
use Rattle.html_types.specs.declared.operation.Op.{Op}
use Rattle.html_types.specs.declared.operation.Op.TheVariants as op
use Rattle.standard.specs.Entities.{Entities}
use Rattle.standard.specs.Act.{Doc, bound_to, is_bound, act, acts, rename_op}
use Rattle.standard.specs.Parser.{Parser, Took, took, take_character, parse}
use Rattle.rule_laws.specs.Naming.{Serves, CameBefore, Renames, IsLater, rename_ops}
use Rattle.rule_laws.specs.NamingLaws.{parser_of, TookBound}
use Rattle.rule_laws.proofs.FreshnessDocs.{same-true, acts-bind, texts-served}
use Rattle.rule_laws.proofs.FreshnessTexts.{before-follows, characters-bound}
use Rattle.rule_laws.proofs.RenamingTexts.{texts-grow, characters-grow, later-renames}
use Rattle.act_laws.proofs.Renamed.{tells, bound_to-insert, acts-renamed}
use Rattle.core_laws.specs.Alike.{Okay}

-- a renaming under which no two ids become one
pub one-to-one : (r : NodeId → NodeId) (next : NodeId) → Renames r next → (a b : NodeId) → r a ≡ r b → a ≡ b
one-to-one r next n a b e =
    same-true a b (sym (n.apart a b) ∙ (ap (same_id (r a)) (sym e) ∙ itself (r a)))
  where
    itself : (id : NodeId) → same_id id id ≡ true
    itself id = grind arith

-- all ids of the document are renamed ones
abbrev pub Named : (NodeId → NodeId) → Doc → Type 0
Named r own = (j : NodeId) → IsTrue (is_bound own.bound j) → (i : NodeId) × (r i ≡ j)

act-named : (r : NodeId → NodeId) (own : Doc) (o : Op) → Named r own → Named r (act own (rename_op r o))
unfolding act
act-named r own (op.Make id name attributes) h j b = elim (tells j (r id)) [
  | inl same ↦ (id, sym same.1)
  | inr apart ↦ h j (subst IsTrue (ap is_some (bound_to-insert own.bound (r id) (length own.tree) j) ∙ ap (λ v. is_some (cond v (Some (length own.tree)) (bound_to own.bound j))) apart.0) b)
]
act-named r own (op.Put i place) h j b = h j b
act-named r own (op.Text place text) h j b = h j b
act-named r own (op.Comment place text) h j b = h j b
act-named r own (op.Doctype name) h j b = h j b
act-named r own (op.Detach i) h j b = h j b
act-named r own (op.MoveChildren from to) h j b = h j b
act-named r own (op.AddAttributes i attributes) h j b = h j b

acts-named : (r : NodeId → NodeId) (own : Doc) (ops : List Op) → Named r own → Named r (acts own (rename_ops r ops))
unfolding acts
acts-named r own [] h = h
acts-named r own (o ∷ os) h = acts-named r (act own (rename_op r o)) os (act-named r own o h)

-- operations of the parser, which then is at q
okay-acts : (r : NodeId → NodeId) (p q : Parser) (doc d : Doc) (ops : List Op) → Okay r p doc d → IsLater p.open_state.next q.open_state.next →
    Serves CameBefore (is_bound (acts doc ops).bound) q.open_state → Okay r q (acts doc ops) (acts d (rename_ops r ops))
okay-acts r p q doc d ops o later_ served = record {
  same = acts-renamed r (one-to-one r p.open_state.next o.renames) doc d o.same ops;
  named = acts-named r d ops o.named;
  renames = later-renames r p.open_state.next q.open_state.next o.renames later_;
  served = served;
  serial = ap (λ (i : NodeId). i.realm) later_.1 ∙ o.serial;
}

pub okay-parse : (r : NodeId → NodeId) (es : Entities) (p : Parser) (doc d : Doc) (t : List ℕ) → Okay r p doc d →
    Okay r (parse es p t).parser (acts doc (parse es p t).ops) (acts d (rename_ops r (parse es p t).ops))
okay-parse r es p doc d t o =
    okay-acts r p (parse es p t).parser doc d (parse es p t).ops o (texts-grow es p t) (texts-served CameBefore before-follows doc es p t o.served).0.1

-- a character, by what it came to
abbrev pub OkayBehind : (NodeId → NodeId) → Doc → Doc → Took → Type 0
OkayBehind r doc d (took ops q why) = Okay r q (acts doc ops) (acts d (rename_ops r ops))

pub okay-character : (r : NodeId → NodeId) (es : Entities) (p : Parser) (doc d : Doc) (c : ℕ) (k : Took) → take_character es p c ≡ k → Okay r p doc d → OkayBehind r doc d k
okay-character r es p doc d c (took ops q why) is o =
    okay-acts r p q doc d ops o (subst (λ k. IsLater p.open_state.next (parser_of k).open_state.next) is (characters-grow es p c))
    (subst (λ k. Serves CameBefore k q.open_state) (sym (acts-bind doc ops))
    (subst (TookBound CameBefore (is_bound doc.bound)) is (characters-bound CameBefore before-follows (is_bound doc.bound) es p c o.served)).0.1)
