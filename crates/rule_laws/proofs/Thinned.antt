-- What popping and taking off leave of the stack: its elements in order, some of them left out.
use Rattle.std.proofs.Common.{ℕ, ◌≡◌, ◌⊎◌, inl, inr, refl, subst, Bool, true, false, List, [], ◌∷◌, Option, Some, None}
use Rattle.std.specs.Prelude.{if◌then◌else◌, ◌&&◌, not}
use Rattle.html_types.specs.Operations.{same_id}
use Rattle.html_types.specs.Names.{name_text}
use Rattle.html_types.specs.declared.name.Name.{Name}
use Rattle.html_types.specs.declared.word.Word.TheVariants as word
use Rattle.html_types.specs.declared.instruction.Group.TheVariants as group
use Rattle.html_types.specs.declared.instruction.Scope.{Scope}
use Rattle.html_types.specs.declared.instruction.Scope.TheVariants as scope
use Rattle.html_types.specs.declared.operation.NodeId.{NodeId}
use Rattle.html_types.specs.declared.open.OpenElement.{OpenElement}
use Rattle.standard.specs.Elements.{is_word, is_one_of}
use Rattle.standard.specs.Stack.{in_scope, pop, until, pop_to, pop_to_root, implied, implied_thoroughly, close, item_found, close_item, end_found, other_end, without_open, open_in_scope}
use Rattle.standard.specs.ForeignNames.{is_lower_of}
use Rattle.standard.specs.Foreign.{is_html, is_html_or_point}
use Rattle.standard.specs.Instructions.{form_closed, form_closed_in_template, pop_foreign, foreign_end}

abbrev pub Thinned : List OpenElement → List OpenElement → Type 0
Thinned [] ds = ds ≡ []
Thinned (e ∷ es) ds = Thinned es ds ⊎ ((rest : List OpenElement) × (ds ≡ e ∷ rest) × Thinned es rest)

pub thin-same : (es : List OpenElement) → Thinned es es
thin-same [] = refl
thin-same (e ∷ es) = inr (es, refl, thin-same es)

thin-behind : (e : OpenElement) (es rest cs : List OpenElement) → Thinned (e ∷ rest) cs → ((more : List OpenElement) → Thinned rest more → Thinned es more) → Thinned (e ∷ es) cs
thin-behind e es rest cs (inl h) step = inl (step cs h)
thin-behind e es rest cs (inr (more, is, h)) step = inr (more, is, step more h)

pub thin-trans : (es ds cs : List OpenElement) → Thinned es ds → Thinned ds cs → Thinned es cs
thin-trans [] ds cs h k = subst (λ x. Thinned x cs) h k
thin-trans (e ∷ es) ds cs (inl h) k = inl (thin-trans es ds cs h k)
thin-trans (e ∷ es) ds cs (inr (rest, is, h)) k = thin-behind e es rest cs (subst (λ x. Thinned x cs) is k) (λ more l. thin-trans es rest more h l)

thin-if : (v : Bool) (es a b : List OpenElement) → Thinned es a → Thinned es b → Thinned es (if v then a else b)
thin-if true es a b h k = h
thin-if false es a b h k = k

pub thin-pop : (es : List OpenElement) → Thinned es (pop es)
thin-pop [] = refl
thin-pop (e ∷ es) = inl (thin-same es)

pub thin-until : (is : Name → Bool) (es : List OpenElement) → Thinned es (until is es)
thin-until is [] = refl
thin-until is (e ∷ es) = thin-if (is e.name) (e ∷ es) es (until is es) (inl (thin-same es)) (inl (thin-until is es))

pub thin-pop_to : (is : Name → Bool) (es : List OpenElement) → Thinned es (pop_to is es)
thin-pop_to is [] = refl
thin-pop_to is (e ∷ es) = thin-if (is e.name) (e ∷ es) (e ∷ es) (pop_to is es) (thin-same (e ∷ es)) (inl (thin-pop_to is es))

pub thin-pop_to_root : (es : List OpenElement) → Thinned es (pop_to_root es)
thin-pop_to_root [] = refl
thin-pop_to_root (e ∷ []) = thin-same (e ∷ [])
thin-pop_to_root (e ∷ d ∷ es) = inl (thin-pop_to_root (d ∷ es))

pub thin-implied : (but : Name → Bool) (es : List OpenElement) → Thinned es (implied but es)
thin-implied but [] = refl
thin-implied but (e ∷ es) = thin-if (is_one_of group.ClosedImplicitly e.name && not (but e.name)) (e ∷ es) (implied but es) (e ∷ es) (inl (thin-implied but es)) (thin-same (e ∷ es))

pub thin-implied_thoroughly : (es : List OpenElement) → Thinned es (implied_thoroughly es)
thin-implied_thoroughly [] = refl
thin-implied_thoroughly (e ∷ es) = thin-if (is_one_of group.ClosedThoroughly e.name) (e ∷ es) (implied_thoroughly es) (e ∷ es) (inl (thin-implied_thoroughly es)) (thin-same (e ∷ es))

-- until one is popped, behind implied end tags; or nothing
thin-popped : (is but : Name → Bool) (v : Bool) (es : List OpenElement) → Thinned es (if v then until is (implied but es) else es)
thin-popped is but v es = thin-if v es (until is (implied but es)) es (thin-trans es (implied but es) (until is (implied but es)) (thin-implied but es) (thin-until is (implied but es))) (thin-same es)

pub thin-close : (s : Scope) (is : Name → Bool) (es : List OpenElement) → Thinned es (close s is es)
thin-close s is es = thin-popped is is (in_scope s is es) es

pub thin-close_item : (is : Name → Bool) (es : List OpenElement) → Thinned es (close_item is es)
thin-close_item is es = thin-popped is is (item_found is es) es

pub thin-other_end : (is : Name → Bool) (es : List OpenElement) → Thinned es (other_end is es)
thin-other_end is es = thin-popped is is (end_found is es) es

pub thin-without_open : (i : Option NodeId) (es : List OpenElement) → Thinned es (without_open i es)
thin-without_open None es = thin-same es
thin-without_open (Some i) [] = refl
thin-without_open (Some i) (e ∷ es) =
    thin-if (same_id e.id i) (e ∷ es) es (e ∷ without_open (Some i) es) (inl (thin-same es)) (inr (without_open (Some i) es, refl, thin-without_open (Some i) es))

pub thin-form_closed : (nobody : Name → Bool) (i : Option NodeId) (es : List OpenElement) → Thinned es (form_closed nobody i es)
thin-form_closed nobody None es = thin-same es
thin-form_closed nobody (Some i) es =
    thin-if (open_in_scope scope.Default i es) es (without_open (Some i) (implied nobody es)) es
    (thin-trans es (implied nobody es) (without_open (Some i) (implied nobody es)) (thin-implied nobody es) (thin-without_open (Some i) (implied nobody es))) (thin-same es)

pub thin-form_closed_in_template : (nobody : Name → Bool) (es : List OpenElement) → Thinned es (form_closed_in_template nobody es)
thin-form_closed_in_template nobody es = thin-popped (is_word word.Form) nobody (in_scope scope.Default (is_word word.Form) es) es

pub thin-pop_foreign : (es : List OpenElement) → Thinned es (pop_foreign es)
thin-pop_foreign [] = refl
thin-pop_foreign (e ∷ es) = thin-if (is_html_or_point e) (e ∷ es) (e ∷ es) (pop_foreign es) (thin-same (e ∷ es)) (inl (thin-pop_foreign es))

abbrev pub IsThinnedIfAny : List OpenElement → Option (List OpenElement) → Type 0
IsThinnedIfAny es None = Unit {0}
IsThinnedIfAny es (Some ds) = Thinned es ds

pub thin-foreign_end : (name : List ℕ) (all es : List OpenElement) → Thinned all es → IsThinnedIfAny all (foreign_end name all es)
thin-foreign_end name all [] h = thin-same all
thin-foreign_end name all (e ∷ []) h = thin-same all
thin-foreign_end name all (e ∷ d ∷ es) h =
    let left : Thinned all (d ∷ es) = thin-trans all (e ∷ d ∷ es) (d ∷ es) h (inl (thin-same (d ∷ es))) in
    by (is_lower_of (name_text e.name) name) (is_html d.name) left (thin-foreign_end name all (d ∷ es) left)
  where
    by : (v w : Bool) → Thinned all (d ∷ es) → IsThinnedIfAny all (foreign_end name all (d ∷ es)) → IsThinnedIfAny all (if v then Some (d ∷ es) else (if w then None else foreign_end name all (d ∷ es)))
    by true w left rest = left
    by false true left rest = tt
    by false false left rest = rest
