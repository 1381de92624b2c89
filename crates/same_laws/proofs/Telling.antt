-- Whether two states of the parser are the same can be told, since of all that they are made of it can.
use Rattle.std.proofs.Common.{◌≡◌, ◌≢◌, ◌⊎◌, inl, inr, ℕ, Bool, true, false, List, [], ◌∷◌, Option, Some, None, refl, sym, ap, ◌∙◌, rules}
use Rattle.std.specs.Prelude.{unwrap_or}
use Rattle.std.proofs.lemmas.Bool.{cases_eq}
use denote.Enum.Bare.{sameb, same_true, same_false}
use Rattle.html_types.specs.contracts.word.Word as words_type
use Rattle.html_types.specs.contracts.name.Space as spaces_type
use Rattle.html_types.specs.contracts.state.RawText as raws_type
use Rattle.html_types.specs.contracts.token.Quote as quotes_type
use Rattle.html_types.specs.contracts.token.TagKind as kinds_type
use Rattle.html_types.specs.contracts.mark_state.CdataState as cdata_states_type
use Rattle.html_types.specs.contracts.instruction.Mode as modes_type
use Rattle.html_types.specs.declared.attributes.Attribute.{Attribute}
use Rattle.html_types.specs.declared.mark_state.CdataState.{CdataState}
use Rattle.html_types.specs.declared.mark_state.CommentState.{CommentState}
use Rattle.html_types.specs.declared.mark_state.DoctypeState.{DoctypeState}
use Rattle.html_types.specs.declared.open.FormattingEntry.{FormattingEntry}
use Rattle.html_types.specs.declared.mark_state.MarkState.{MarkState}
use Rattle.html_types.specs.declared.instruction.Mode.{Mode}
use Rattle.html_types.specs.declared.name.Name.{Name}
use Rattle.html_types.specs.declared.operation.NodeId.{NodeId}
use Rattle.html_types.specs.declared.open.Open.{Open}
use Rattle.html_types.specs.declared.open.OpenElement.{OpenElement}
use Rattle.html_types.specs.declared.token.PartialTag.{PartialTag}
use Rattle.html_types.specs.declared.token.Quote.{Quote}
use Rattle.html_types.specs.declared.state.RawText.{RawText}
use Rattle.html_types.specs.declared.reference_state.ReferenceState.{ReferenceState}
use Rattle.html_types.specs.declared.reference_state.ReturnState.{ReturnState}
use Rattle.html_types.specs.declared.name.Space.{Space}
use Rattle.html_types.specs.declared.token.Tag.{Tag}
use Rattle.html_types.specs.declared.token.TagKind.{TagKind}
use Rattle.html_types.specs.declared.state.TagState.{TagState}
use Rattle.html_types.specs.declared.state.TextState.{TextState}
use Rattle.html_types.specs.declared.state.TokState.{TokState}
use Rattle.html_types.specs.declared.word.Word.{Word}
use Rattle.html_types.specs.declared.name.Name.TheVariants as name
use Rattle.html_types.specs.declared.open.FormattingEntry.TheVariants as entry
use Rattle.html_types.specs.declared.state.TextState.TheVariants as text
use Rattle.html_types.specs.declared.state.TagState.TheVariants as tag
use Rattle.html_types.specs.declared.mark_state.CommentState.TheVariants as comment
use Rattle.html_types.specs.declared.mark_state.DoctypeState.TheVariants as doctype
use Rattle.html_types.specs.declared.mark_state.MarkState.TheVariants as mark
use Rattle.html_types.specs.declared.reference_state.ReturnState.TheVariants as return
use Rattle.html_types.specs.declared.reference_state.ReferenceState.TheVariants as reference
use Rattle.html_types.specs.declared.state.TokState.TheVariants as state
use Rattle.standard.specs.Parser.{Parser}
use Rattle.core_definitions.specs.declared.verdict.Verdict.{Verdict}
use Rattle.core_definitions.specs.declared.verdict.Verdict.TheVariants.{Keep, Rewind}
use Rattle.core_definitions.specs.Verdict.{IsVerdict}
use Rattle.core_laws.specs.CoreLaws.{DecidesSame}
use Rattle.core_laws.proofs.Existing.{enabled-steps}
use Rattle.same_laws.specs.Laws.{HaveSteps}

abbrev Tells : Type 0 → Type 0
Tells A = (a b : A) → (a ≡ b) ⊎ (a ≢ b)

-- ---- of what is made of others

-- by a way there and back
back : {A B : Type 0} (f : A → B) (g : B → A) → ((a : A) → g (f a) ≡ a) → Tells B → Tells A
back f g h t a b = elim (t (f a) (f b)) [ inl same ↦ inl (sym (h a) ∙ (ap g same ∙ h b)) | inr other ↦ inr (λ e. other (ap f e)) ]

pairs : {A B : Type 0} → Tells A → Tells B → Tells (A × B)
pairs s t a b = elim (s a.0 b.0) [
  | inl p ↦ elim (t a.1 b.1) [ inl q ↦ inl (ap (λ x. (x, a.1)) p ∙ ap (λ y. (b.0, y)) q) | inr other ↦ inr (λ e. other (ap (λ x. x.1) e)) ]
  | inr other ↦ inr (λ e. other (ap (λ x. x.0) e))
]

abbrev left_or : {A B : Type 0} → A → A ⊎ B → A
left_or a (inl x) = x
left_or a (inr y) = a

abbrev right_or : {A B : Type 0} → B → A ⊎ B → B
right_or b (inl x) = b
right_or b (inr y) = y

sums : {A B : Type 0} → Tells A → Tells B → Tells (A ⊎ B)
sums s t (inl a) (inl b) = elim (s a b) [ inl p ↦ inl (ap inl p) | inr other ↦ inr (λ e. other (ap (left_or a) e)) ]
sums s t (inl a) (inr b) = inr (λ e. cc)
sums s t (inr a) (inl b) = inr (λ e. cc)
sums s t (inr a) (inr b) = elim (t a b) [ inl p ↦ inl (ap inr p) | inr other ↦ inr (λ e. other (ap (right_or a) e)) ]

options : {A : Type 0} → Tells A → Tells (Option A)
options t None None = inl refl
options t None (Some b) = inr (λ e. cc)
options t (Some a) None = inr (λ e. cc)
options t (Some a) (Some b) = elim (t a b) [ inl p ↦ inl (ap Some p) | inr other ↦ inr (λ e. other (ap (λ o. unwrap_or o a) e)) ]

abbrev first_or : {A : Type 0} → A → List A → A
first_or a [] = a
first_or a (x ∷ xs) = x

abbrev rest : {A : Type 0} → List A → List A
rest [] = []
rest (x ∷ xs) = xs

lists : {A : Type 0} → Tells A → Tells (List A)
lists t [] [] = inl refl
lists t [] (y ∷ ys) = inr (λ e. cc)
lists t (x ∷ xs) [] = inr (λ e. cc)
lists t (x ∷ xs) (y ∷ ys) = elim (t x y) [
  | inl p ↦ elim (lists t xs ys) [ inl q ↦ inl (ap (λ z. z ∷ xs) p ∙ ap (λ zs. y ∷ zs) q) | inr other ↦ inr (λ e. other (ap rest e)) ]
  | inr other ↦ inr (λ e. other (ap (first_or x) e))
]

-- ---- of plain data

numbers : Tells ℕ
numbers a b = cases_eq a b

flags : Tells Bool
flags true true = inl refl
flags true false = inr (λ e. cc)
flags false true = inr (λ e. cc)
flags false false = inl refl

texts : Tells (List ℕ)
texts = lists numbers

words : Tells Word
words a b = by (sameb words_type.the_type a b) refl
  where
    by : (v : Bool) → sameb words_type.the_type a b ≡ v → (a ≡ b) ⊎ (a ≢ b)
    by true is = inl (same_true words_type.the_type (search rules) a b is)
    by false is = inr (same_false words_type.the_type a b is)

spaces : Tells Space
spaces a b = by (sameb spaces_type.the_type a b) refl
  where
    by : (v : Bool) → sameb spaces_type.the_type a b ≡ v → (a ≡ b) ⊎ (a ≢ b)
    by true is = inl (same_true spaces_type.the_type (search rules) a b is)
    by false is = inr (same_false spaces_type.the_type a b is)

raws : Tells RawText
raws a b = by (sameb raws_type.the_type a b) refl
  where
    by : (v : Bool) → sameb raws_type.the_type a b ≡ v → (a ≡ b) ⊎ (a ≢ b)
    by true is = inl (same_true raws_type.the_type (search rules) a b is)
    by false is = inr (same_false raws_type.the_type a b is)

quotes : Tells Quote
quotes a b = by (sameb quotes_type.the_type a b) refl
  where
    by : (v : Bool) → sameb quotes_type.the_type a b ≡ v → (a ≡ b) ⊎ (a ≢ b)
    by true is = inl (same_true quotes_type.the_type (search rules) a b is)
    by false is = inr (same_false quotes_type.the_type a b is)

kinds : Tells TagKind
kinds a b = by (sameb kinds_type.the_type a b) refl
  where
    by : (v : Bool) → sameb kinds_type.the_type a b ≡ v → (a ≡ b) ⊎ (a ≢ b)
    by true is = inl (same_true kinds_type.the_type (search rules) a b is)
    by false is = inr (same_false kinds_type.the_type a b is)

cdata_states : Tells CdataState
cdata_states a b = by (sameb cdata_states_type.the_type a b) refl
  where
    by : (v : Bool) → sameb cdata_states_type.the_type a b ≡ v → (a ≡ b) ⊎ (a ≢ b)
    by true is = inl (same_true cdata_states_type.the_type (search rules) a b is)
    by false is = inr (same_false cdata_states_type.the_type a b is)

modes : Tells Mode
modes a b = by (sameb modes_type.the_type a b) refl
  where
    by : (v : Bool) → sameb modes_type.the_type a b ≡ v → (a ≡ b) ⊎ (a ≢ b)
    by true is = inl (same_true modes_type.the_type (search rules) a b is)
    by false is = inr (same_false modes_type.the_type a b is)

-- ---- of the parts of a state

abbrev parts_attributes : Attribute → (List ℕ) × (List ℕ)
parts_attributes x = (x.name, x.value)

abbrev from_attributes : (List ℕ) × (List ℕ) → Attribute
from_attributes y = record { name = y.0; value = y.1 }

attributes : Tells Attribute
attributes = back parts_attributes from_attributes (λ x. refl) (pairs texts texts)

abbrev parts_ids : NodeId → ℕ × ℕ
parts_ids x = (x.realm, x.n)

abbrev from_ids : ℕ × ℕ → NodeId
from_ids y = record { realm = y.0; n = y.1 }

ids : Tells NodeId
ids = back parts_ids from_ids (λ x. refl) (pairs numbers numbers)

abbrev Parts_names : Type 0
Parts_names = Word ⊎ (Space × (List ℕ))

abbrev parts_names : Name → Parts_names
parts_names (name.Known a) = inl a
parts_names (name.Other a b) = inr (a, b)

abbrev from_names : Parts_names → Name
from_names (inl n) = name.Known n
from_names (inr n) = name.Other n.0 n.1

back_names : (x : Name) → from_names (parts_names x) ≡ x
back_names (name.Known a) = refl
back_names (name.Other a b) = refl

names : Tells Name
names = back parts_names from_names back_names (sums words (pairs spaces texts))

abbrev parts_tags : Tag → Name × ((List Attribute) × Bool)
parts_tags x = (x.name, (x.attributes, x.self_closing))

abbrev from_tags : Name × ((List Attribute) × Bool) → Tag
from_tags y = record { name = y.0; attributes = y.1.0; self_closing = y.1.1 }

tags : Tells Tag
tags = back parts_tags from_tags (λ x. refl) (pairs names (pairs (lists attributes) flags))

abbrev parts_partial_tags : PartialTag → TagKind × ((List ℕ) × (List Attribute))
parts_partial_tags x = (x.kind, (x.name, x.attributes))

abbrev from_partial_tags : TagKind × ((List ℕ) × (List Attribute)) → PartialTag
from_partial_tags y = record { kind = y.0; name = y.1.0; attributes = y.1.1 }

partial_tags : Tells PartialTag
partial_tags = back parts_partial_tags from_partial_tags (λ x. refl) (pairs kinds (pairs texts (lists attributes)))

abbrev parts_elements : OpenElement → NodeId × (Name × Bool)
parts_elements x = (x.id, (x.name, x.html_point))

abbrev from_elements : NodeId × (Name × Bool) → OpenElement
from_elements y = record { id = y.0; name = y.1.0; html_point = y.1.1 }

elements : Tells OpenElement
elements = back parts_elements from_elements (λ x. refl) (pairs ids (pairs names flags))

abbrev Parts_formats : Type 0
Parts_formats = ℕ ⊎ (NodeId × Tag)

abbrev parts_formats : FormattingEntry → Parts_formats
parts_formats entry.Marker = inl 0
parts_formats (entry.Element a b) = inr (a, b)

abbrev from_formats : Parts_formats → FormattingEntry
from_formats (inl n) = entry.Marker
from_formats (inr n) = entry.Element n.0 n.1

back_formats : (x : FormattingEntry) → from_formats (parts_formats x) ≡ x
back_formats entry.Marker = refl
back_formats (entry.Element a b) = refl

formats : Tells FormattingEntry
formats = back parts_formats from_formats back_formats (sums numbers (pairs ids tags))

abbrev Parts_text_states : Type 0
Parts_text_states = ℕ ⊎ ((RawText × (Option Word)) ⊎ (ℕ ⊎ ((RawText × (Option Word)) ⊎ ((RawText × (Option Word)) ⊎ ((RawText × ((Option Word) × (List ℕ))) ⊎ ((Option Word) ⊎ ((Option Word) ⊎ ((Option Word) ⊎ ((Option Word) ⊎ (((Option Word) × (List ℕ)) ⊎ ((Option Word) ⊎ ((Option Word) ⊎ ((Option Word) ⊎ ((Option Word) ⊎ ((Option Word) × (List ℕ))))))))))))))))

abbrev parts_text_states : TextState → Parts_text_states
parts_text_states text.Data = inl 0
parts_text_states (text.Raw a b) = inr (inl (a, b))
parts_text_states text.Plaintext = inr (inr (inl 0))
parts_text_states (text.RawLessThan a b) = inr (inr (inr (inl (a, b))))
parts_text_states (text.RawEndTagOpen a b) = inr (inr (inr (inr (inl (a, b)))))
parts_text_states (text.RawEndTagName a b c) = inr (inr (inr (inr (inr (inl (a, (b, c)))))))
parts_text_states (text.EscapeStart a) = inr (inr (inr (inr (inr (inr (inl a))))))
parts_text_states (text.EscapeStartDash a) = inr (inr (inr (inr (inr (inr (inr (inl a)))))))
parts_text_states (text.EscapedDash a) = inr (inr (inr (inr (inr (inr (inr (inr (inl a))))))))
parts_text_states (text.EscapedDashDash a) = inr (inr (inr (inr (inr (inr (inr (inr (inr (inl a)))))))))
parts_text_states (text.DoubleEscapeStart a b) = inr (inr (inr (inr (inr (inr (inr (inr (inr (inr (inl (a, b)))))))))))
parts_text_states (text.DoubleEscaped a) = inr (inr (inr (inr (inr (inr (inr (inr (inr (inr (inr (inl a)))))))))))
parts_text_states (text.DoubleEscapedDash a) = inr (inr (inr (inr (inr (inr (inr (inr (inr (inr (inr (inr (inl a))))))))))))
parts_text_states (text.DoubleEscapedDashDash a) = inr (inr (inr (inr (inr (inr (inr (inr (inr (inr (inr (inr (inr (inl a)))))))))))))
parts_text_states (text.DoubleEscapedLessThan a) = inr (inr (inr (inr (inr (inr (inr (inr (inr (inr (inr (inr (inr (inr (inl a))))))))))))))
parts_text_states (text.DoubleEscapeEnd a b) = inr (inr (inr (inr (inr (inr (inr (inr (inr (inr (inr (inr (inr (inr (inr (a, b)))))))))))))))

abbrev from_text_states : Parts_text_states → TextState
from_text_states (inl n) = text.Data
from_text_states (inr (inl n)) = text.Raw n.0 n.1
from_text_states (inr (inr (inl n))) = text.Plaintext
from_text_states (inr (inr (inr (inl n)))) = text.RawLessThan n.0 n.1
from_text_states (inr (inr (inr (inr (inl n))))) = text.RawEndTagOpen n.0 n.1
from_text_states (inr (inr (inr (inr (inr (inl n)))))) = text.RawEndTagName n.0 n.1.0 n.1.1
from_text_states (inr (inr (inr (inr (inr (inr (inl n))))))) = text.EscapeStart n
from_text_states (inr (inr (inr (inr (inr (inr (inr (inl n)))))))) = text.EscapeStartDash n
from_text_states (inr (inr (inr (inr (inr (inr (inr (inr (inl n))))))))) = text.EscapedDash n
from_text_states (inr (inr (inr (inr (inr (inr (inr (inr (inr (inl n)))))))))) = text.EscapedDashDash n
from_text_states (inr (inr (inr (inr (inr (inr (inr (inr (inr (inr (inl n))))))))))) = text.DoubleEscapeStart n.0 n.1
from_text_states (inr (inr (inr (inr (inr (inr (inr (inr (inr (inr (inr (inl n)))))))))))) = text.DoubleEscaped n
from_text_states (inr (inr (inr (inr (inr (inr (inr (inr (inr (inr (inr (inr (inl n))))))))))))) = text.DoubleEscapedDash n
from_text_states (inr (inr (inr (inr (inr (inr (inr (inr (inr (inr (inr (inr (inr (inl n)))))))))))))) = text.DoubleEscapedDashDash n
from_text_states (inr (inr (inr (inr (inr (inr (inr (inr (inr (inr (inr (inr (inr (inr (inl n))))))))))))))) = text.DoubleEscapedLessThan n
from_text_states (inr (inr (inr (inr (inr (inr (inr (inr (inr (inr (inr (inr (inr (inr (inr n))))))))))))))) = text.DoubleEscapeEnd n.0 n.1

back_text_states : (x : TextState) → from_text_states (parts_text_states x) ≡ x
back_text_states text.Data = refl
back_text_states (text.Raw a b) = refl
back_text_states text.Plaintext = refl
back_text_states (text.RawLessThan a b) = refl
back_text_states (text.RawEndTagOpen a b) = refl
back_text_states (text.RawEndTagName a b c) = refl
back_text_states (text.EscapeStart a) = refl
back_text_states (text.EscapeStartDash a) = refl
back_text_states (text.EscapedDash a) = refl
back_text_states (text.EscapedDashDash a) = refl
back_text_states (text.DoubleEscapeStart a b) = refl
back_text_states (text.DoubleEscaped a) = refl
back_text_states (text.DoubleEscapedDash a) = refl
back_text_states (text.DoubleEscapedDashDash a) = refl
back_text_states (text.DoubleEscapedLessThan a) = refl
back_text_states (text.DoubleEscapeEnd a b) = refl

text_states : Tells TextState
text_states = back parts_text_states from_text_states back_text_states (sums numbers (sums (pairs raws (options words)) (sums numbers (sums (pairs raws (options words)) (sums (pairs raws (options words)) (sums (pairs raws (pairs (options words) texts)) (sums (options words) (sums (options words) (sums (options words) (sums (options words) (sums (pairs (options words) texts) (sums (options words) (sums (options words) (sums (options words) (sums (options words) (pairs (options words) texts))))))))))))))))

abbrev Parts_tag_states : Type 0
Parts_tag_states = ℕ ⊎ (ℕ ⊎ (PartialTag ⊎ (PartialTag ⊎ ((PartialTag × (List ℕ)) ⊎ ((PartialTag × (Option (List ℕ))) ⊎ ((PartialTag × (Option (List ℕ))) ⊎ ((PartialTag × ((Option Attribute) × Quote)) ⊎ ((PartialTag × (Option Attribute)) ⊎ (PartialTag ⊎ PartialTag)))))))))

abbrev parts_tag_states : TagState → Parts_tag_states
parts_tag_states tag.TagOpen = inl 0
parts_tag_states tag.EndTagOpen = inr (inl 0)
parts_tag_states (tag.TagName a) = inr (inr (inl a))
parts_tag_states (tag.BeforeAttributeName a) = inr (inr (inr (inl a)))
parts_tag_states (tag.AttributeName a b) = inr (inr (inr (inr (inl (a, b)))))
parts_tag_states (tag.AfterAttributeName a b) = inr (inr (inr (inr (inr (inl (a, b))))))
parts_tag_states (tag.BeforeAttributeValue a b) = inr (inr (inr (inr (inr (inr (inl (a, b)))))))
parts_tag_states (tag.AttributeValueQuoted a b c) = inr (inr (inr (inr (inr (inr (inr (inl (a, (b, c)))))))))
parts_tag_states (tag.AttributeValueUnquoted a b) = inr (inr (inr (inr (inr (inr (inr (inr (inl (a, b)))))))))
parts_tag_states (tag.AfterAttributeValueQuoted a) = inr (inr (inr (inr (inr (inr (inr (inr (inr (inl a)))))))))
parts_tag_states (tag.SelfClosingStartTag a) = inr (inr (inr (inr (inr (inr (inr (inr (inr (inr a)))))))))

abbrev from_tag_states : Parts_tag_states → TagState
from_tag_states (inl n) = tag.TagOpen
from_tag_states (inr (inl n)) = tag.EndTagOpen
from_tag_states (inr (inr (inl n))) = tag.TagName n
from_tag_states (inr (inr (inr (inl n)))) = tag.BeforeAttributeName n
from_tag_states (inr (inr (inr (inr (inl n))))) = tag.AttributeName n.0 n.1
from_tag_states (inr (inr (inr (inr (inr (inl n)))))) = tag.AfterAttributeName n.0 n.1
from_tag_states (inr (inr (inr (inr (inr (inr (inl n))))))) = tag.BeforeAttributeValue n.0 n.1
from_tag_states (inr (inr (inr (inr (inr (inr (inr (inl n)))))))) = tag.AttributeValueQuoted n.0 n.1.0 n.1.1
from_tag_states (inr (inr (inr (inr (inr (inr (inr (inr (inl n))))))))) = tag.AttributeValueUnquoted n.0 n.1
from_tag_states (inr (inr (inr (inr (inr (inr (inr (inr (inr (inl n)))))))))) = tag.AfterAttributeValueQuoted n
from_tag_states (inr (inr (inr (inr (inr (inr (inr (inr (inr (inr n)))))))))) = tag.SelfClosingStartTag n

back_tag_states : (x : TagState) → from_tag_states (parts_tag_states x) ≡ x
back_tag_states tag.TagOpen = refl
back_tag_states tag.EndTagOpen = refl
back_tag_states (tag.TagName a) = refl
back_tag_states (tag.BeforeAttributeName a) = refl
back_tag_states (tag.AttributeName a b) = refl
back_tag_states (tag.AfterAttributeName a b) = refl
back_tag_states (tag.BeforeAttributeValue a b) = refl
back_tag_states (tag.AttributeValueQuoted a b c) = refl
back_tag_states (tag.AttributeValueUnquoted a b) = refl
back_tag_states (tag.AfterAttributeValueQuoted a) = refl
back_tag_states (tag.SelfClosingStartTag a) = refl

tag_states : Tells TagState
tag_states = back parts_tag_states from_tag_states back_tag_states (sums numbers (sums numbers (sums partial_tags (sums partial_tags (sums (pairs partial_tags texts) (sums (pairs partial_tags (options texts)) (sums (pairs partial_tags (options texts)) (sums (pairs partial_tags (pairs (options attributes) quotes)) (sums (pairs partial_tags (options attributes)) (sums partial_tags partial_tags))))))))))

abbrev Parts_comment_states : Type 0
Parts_comment_states = ℕ ⊎ (ℕ ⊎ ((List ℕ) ⊎ ((List ℕ) ⊎ ((List ℕ) ⊎ ((List ℕ) ⊎ ((List ℕ) ⊎ ((List ℕ) ⊎ ((List ℕ) ⊎ (List ℕ)))))))))

abbrev parts_comment_states : CommentState → Parts_comment_states
parts_comment_states comment.Start = inl 0
parts_comment_states comment.StartDash = inr (inl 0)
parts_comment_states (comment.Inside a) = inr (inr (inl a))
parts_comment_states (comment.LessThan a) = inr (inr (inr (inl a)))
parts_comment_states (comment.LessThanBang a) = inr (inr (inr (inr (inl a))))
parts_comment_states (comment.LessThanBangDash a) = inr (inr (inr (inr (inr (inl a)))))
parts_comment_states (comment.LessThanBangDashDash a) = inr (inr (inr (inr (inr (inr (inl a))))))
parts_comment_states (comment.EndDash a) = inr (inr (inr (inr (inr (inr (inr (inl a)))))))
parts_comment_states (comment.End a) = inr (inr (inr (inr (inr (inr (inr (inr (inl a))))))))
parts_comment_states (comment.EndBang a) = inr (inr (inr (inr (inr (inr (inr (inr (inr a))))))))

abbrev from_comment_states : Parts_comment_states → CommentState
from_comment_states (inl n) = comment.Start
from_comment_states (inr (inl n)) = comment.StartDash
from_comment_states (inr (inr (inl n))) = comment.Inside n
from_comment_states (inr (inr (inr (inl n)))) = comment.LessThan n
from_comment_states (inr (inr (inr (inr (inl n))))) = comment.LessThanBang n
from_comment_states (inr (inr (inr (inr (inr (inl n)))))) = comment.LessThanBangDash n
from_comment_states (inr (inr (inr (inr (inr (inr (inl n))))))) = comment.LessThanBangDashDash n
from_comment_states (inr (inr (inr (inr (inr (inr (inr (inl n)))))))) = comment.EndDash n
from_comment_states (inr (inr (inr (inr (inr (inr (inr (inr (inl n))))))))) = comment.End n
from_comment_states (inr (inr (inr (inr (inr (inr (inr (inr (inr n))))))))) = comment.EndBang n

back_comment_states : (x : CommentState) → from_comment_states (parts_comment_states x) ≡ x
back_comment_states comment.Start = refl
back_comment_states comment.StartDash = refl
back_comment_states (comment.Inside a) = refl
back_comment_states (comment.LessThan a) = refl
back_comment_states (comment.LessThanBang a) = refl
back_comment_states (comment.LessThanBangDash a) = refl
back_comment_states (comment.LessThanBangDashDash a) = refl
back_comment_states (comment.EndDash a) = refl
back_comment_states (comment.End a) = refl
back_comment_states (comment.EndBang a) = refl

comment_states : Tells CommentState
comment_states = back parts_comment_states from_comment_states back_comment_states (sums numbers (sums numbers (sums texts (sums texts (sums texts (sums texts (sums texts (sums texts (sums texts texts)))))))))

abbrev Parts_doctype_states : Type 0
Parts_doctype_states = ℕ ⊎ (ℕ ⊎ ((List ℕ) ⊎ ((List ℕ) ⊎ (((List ℕ) × (List ℕ)) ⊎ ((List ℕ) ⊎ (((List ℕ) × Quote) ⊎ ((List ℕ) ⊎ ((List ℕ) ⊎ (((List ℕ) × Quote) ⊎ ((List ℕ) ⊎ ((List ℕ) × Bool)))))))))))

abbrev parts_doctype_states : DoctypeState → Parts_doctype_states
parts_doctype_states doctype.Doctype = inl 0
parts_doctype_states doctype.BeforeName = inr (inl 0)
parts_doctype_states (doctype.Name a) = inr (inr (inl a))
parts_doctype_states (doctype.AfterName a) = inr (inr (inr (inl a)))
parts_doctype_states (doctype.Keyword a b) = inr (inr (inr (inr (inl (a, b)))))
parts_doctype_states (doctype.AfterPublicKeyword a) = inr (inr (inr (inr (inr (inl a)))))
parts_doctype_states (doctype.PublicIdentifier a b) = inr (inr (inr (inr (inr (inr (inl (a, b)))))))
parts_doctype_states (doctype.AfterPublicIdentifier a) = inr (inr (inr (inr (inr (inr (inr (inl a)))))))
parts_doctype_states (doctype.AfterSystemKeyword a) = inr (inr (inr (inr (inr (inr (inr (inr (inl a))))))))
parts_doctype_states (doctype.SystemIdentifier a b) = inr (inr (inr (inr (inr (inr (inr (inr (inr (inl (a, b))))))))))
parts_doctype_states (doctype.AfterSystemIdentifier a) = inr (inr (inr (inr (inr (inr (inr (inr (inr (inr (inl a))))))))))
parts_doctype_states (doctype.Bogus a b) = inr (inr (inr (inr (inr (inr (inr (inr (inr (inr (inr (a, b)))))))))))

abbrev from_doctype_states : Parts_doctype_states → DoctypeState
from_doctype_states (inl n) = doctype.Doctype
from_doctype_states (inr (inl n)) = doctype.BeforeName
from_doctype_states (inr (inr (inl n))) = doctype.Name n
from_doctype_states (inr (inr (inr (inl n)))) = doctype.AfterName n
from_doctype_states (inr (inr (inr (inr (inl n))))) = doctype.Keyword n.0 n.1
from_doctype_states (inr (inr (inr (inr (inr (inl n)))))) = doctype.AfterPublicKeyword n
from_doctype_states (inr (inr (inr (inr (inr (inr (inl n))))))) = doctype.PublicIdentifier n.0 n.1
from_doctype_states (inr (inr (inr (inr (inr (inr (inr (inl n)))))))) = doctype.AfterPublicIdentifier n
from_doctype_states (inr (inr (inr (inr (inr (inr (inr (inr (inl n))))))))) = doctype.AfterSystemKeyword n
from_doctype_states (inr (inr (inr (inr (inr (inr (inr (inr (inr (inl n)))))))))) = doctype.SystemIdentifier n.0 n.1
from_doctype_states (inr (inr (inr (inr (inr (inr (inr (inr (inr (inr (inl n))))))))))) = doctype.AfterSystemIdentifier n
from_doctype_states (inr (inr (inr (inr (inr (inr (inr (inr (inr (inr (inr n))))))))))) = doctype.Bogus n.0 n.1

back_doctype_states : (x : DoctypeState) → from_doctype_states (parts_doctype_states x) ≡ x
back_doctype_states doctype.Doctype = refl
back_doctype_states doctype.BeforeName = refl
back_doctype_states (doctype.Name a) = refl
back_doctype_states (doctype.AfterName a) = refl
back_doctype_states (doctype.Keyword a b) = refl
back_doctype_states (doctype.AfterPublicKeyword a) = refl
back_doctype_states (doctype.PublicIdentifier a b) = refl
back_doctype_states (doctype.AfterPublicIdentifier a) = refl
back_doctype_states (doctype.AfterSystemKeyword a) = refl
back_doctype_states (doctype.SystemIdentifier a b) = refl
back_doctype_states (doctype.AfterSystemIdentifier a) = refl
back_doctype_states (doctype.Bogus a b) = refl

doctype_states : Tells DoctypeState
doctype_states = back parts_doctype_states from_doctype_states back_doctype_states (sums numbers (sums numbers (sums texts (sums texts (sums (pairs texts texts) (sums texts (sums (pairs texts quotes) (sums texts (sums texts (sums (pairs texts quotes) (sums texts (pairs texts flags))))))))))))

abbrev Parts_mark_states : Type 0
Parts_mark_states = (List ℕ) ⊎ ((List ℕ) ⊎ (CommentState ⊎ (DoctypeState ⊎ CdataState)))

abbrev parts_mark_states : MarkState → Parts_mark_states
parts_mark_states (mark.MarkupDeclarationOpen a) = inl a
parts_mark_states (mark.BogusComment a) = inr (inl a)
parts_mark_states (mark.Comment a) = inr (inr (inl a))
parts_mark_states (mark.Doctype a) = inr (inr (inr (inl a)))
parts_mark_states (mark.Cdata a) = inr (inr (inr (inr a)))

abbrev from_mark_states : Parts_mark_states → MarkState
from_mark_states (inl n) = mark.MarkupDeclarationOpen n
from_mark_states (inr (inl n)) = mark.BogusComment n
from_mark_states (inr (inr (inl n))) = mark.Comment n
from_mark_states (inr (inr (inr (inl n)))) = mark.Doctype n
from_mark_states (inr (inr (inr (inr n)))) = mark.Cdata n

back_mark_states : (x : MarkState) → from_mark_states (parts_mark_states x) ≡ x
back_mark_states (mark.MarkupDeclarationOpen a) = refl
back_mark_states (mark.BogusComment a) = refl
back_mark_states (mark.Comment a) = refl
back_mark_states (mark.Doctype a) = refl
back_mark_states (mark.Cdata a) = refl

mark_states : Tells MarkState
mark_states = back parts_mark_states from_mark_states back_mark_states (sums texts (sums texts (sums comment_states (sums doctype_states cdata_states))))

abbrev Parts_return_states : Type 0
Parts_return_states = ℕ ⊎ ((Option Word) ⊎ ((PartialTag × ((Option Attribute) × Quote)) ⊎ (PartialTag × (Option Attribute))))

abbrev parts_return_states : ReturnState → Parts_return_states
parts_return_states return.Data = inl 0
parts_return_states (return.Rcdata a) = inr (inl a)
parts_return_states (return.AttributeValueQuoted a b c) = inr (inr (inl (a, (b, c))))
parts_return_states (return.AttributeValueUnquoted a b) = inr (inr (inr (a, b)))

abbrev from_return_states : Parts_return_states → ReturnState
from_return_states (inl n) = return.Data
from_return_states (inr (inl n)) = return.Rcdata n
from_return_states (inr (inr (inl n))) = return.AttributeValueQuoted n.0 n.1.0 n.1.1
from_return_states (inr (inr (inr n))) = return.AttributeValueUnquoted n.0 n.1

back_return_states : (x : ReturnState) → from_return_states (parts_return_states x) ≡ x
back_return_states return.Data = refl
back_return_states (return.Rcdata a) = refl
back_return_states (return.AttributeValueQuoted a b c) = refl
back_return_states (return.AttributeValueUnquoted a b) = refl

return_states : Tells ReturnState
return_states = back parts_return_states from_return_states back_return_states (sums numbers (sums (options words) (sums (pairs partial_tags (pairs (options attributes) quotes)) (pairs partial_tags (options attributes)))))

abbrev Parts_reference_states : Type 0
Parts_reference_states = ReturnState ⊎ ((ReturnState × (List ℕ)) ⊎ (ReturnState ⊎ ((ReturnState × ℕ) ⊎ ((ReturnState × ℕ) ⊎ (ReturnState × ℕ)))))

abbrev parts_reference_states : ReferenceState → Parts_reference_states
parts_reference_states (reference.Ampersand a) = inl a
parts_reference_states (reference.Named a b) = inr (inl (a, b))
parts_reference_states (reference.Numeric a) = inr (inr (inl a))
parts_reference_states (reference.HexadecimalStart a b) = inr (inr (inr (inl (a, b))))
parts_reference_states (reference.Hexadecimal a b) = inr (inr (inr (inr (inl (a, b)))))
parts_reference_states (reference.Decimal a b) = inr (inr (inr (inr (inr (a, b)))))

abbrev from_reference_states : Parts_reference_states → ReferenceState
from_reference_states (inl n) = reference.Ampersand n
from_reference_states (inr (inl n)) = reference.Named n.0 n.1
from_reference_states (inr (inr (inl n))) = reference.Numeric n
from_reference_states (inr (inr (inr (inl n)))) = reference.HexadecimalStart n.0 n.1
from_reference_states (inr (inr (inr (inr (inl n))))) = reference.Hexadecimal n.0 n.1
from_reference_states (inr (inr (inr (inr (inr n))))) = reference.Decimal n.0 n.1

back_reference_states : (x : ReferenceState) → from_reference_states (parts_reference_states x) ≡ x
back_reference_states (reference.Ampersand a) = refl
back_reference_states (reference.Named a b) = refl
back_reference_states (reference.Numeric a) = refl
back_reference_states (reference.HexadecimalStart a b) = refl
back_reference_states (reference.Hexadecimal a b) = refl
back_reference_states (reference.Decimal a b) = refl

reference_states : Tells ReferenceState
reference_states = back parts_reference_states from_reference_states back_reference_states (sums return_states (sums (pairs return_states texts) (sums return_states (sums (pairs return_states numbers) (sums (pairs return_states numbers) (pairs return_states numbers))))))

abbrev Parts_tok_states : Type 0
Parts_tok_states = TextState ⊎ (TagState ⊎ (MarkState ⊎ ReferenceState))

abbrev parts_tok_states : TokState → Parts_tok_states
parts_tok_states (state.Text a) = inl a
parts_tok_states (state.Tag a) = inr (inl a)
parts_tok_states (state.Mark a) = inr (inr (inl a))
parts_tok_states (state.Reference a) = inr (inr (inr a))

abbrev from_tok_states : Parts_tok_states → TokState
from_tok_states (inl n) = state.Text n
from_tok_states (inr (inl n)) = state.Tag n
from_tok_states (inr (inr (inl n))) = state.Mark n
from_tok_states (inr (inr (inr n))) = state.Reference n

back_tok_states : (x : TokState) → from_tok_states (parts_tok_states x) ≡ x
back_tok_states (state.Text a) = refl
back_tok_states (state.Tag a) = refl
back_tok_states (state.Mark a) = refl
back_tok_states (state.Reference a) = refl

tok_states : Tells TokState
tok_states = back parts_tok_states from_tok_states back_tok_states (sums text_states (sums tag_states (sums mark_states reference_states)))

abbrev parts_open_states : Open → (List OpenElement) × ((List FormattingEntry) × ((Option NodeId) × ((Option NodeId) × (Mode × ((Option Mode) × ((List Mode) × ((List ℕ) × (Bool × (Bool × (Bool × (Bool × (NodeId × (Option OpenElement)))))))))))))
parts_open_states x = (x.stack, (x.formats, (x.head, (x.form, (x.mode, (x.original, (x.template_modes, (x.pending_text, (x.frameset_ok, (x.quirks, (x.skip_line_feed, (x.foster, (x.next, x.context)))))))))))))

abbrev from_open_states : (List OpenElement) × ((List FormattingEntry) × ((Option NodeId) × ((Option NodeId) × (Mode × ((Option Mode) × ((List Mode) × ((List ℕ) × (Bool × (Bool × (Bool × (Bool × (NodeId × (Option OpenElement))))))))))))) → Open
from_open_states y = record { stack = y.0; formats = y.1.0; head = y.1.1.0; form = y.1.1.1.0; mode = y.1.1.1.1.0; original = y.1.1.1.1.1.0; template_modes = y.1.1.1.1.1.1.0; pending_text = y.1.1.1.1.1.1.1.0; frameset_ok = y.1.1.1.1.1.1.1.1.0; quirks = y.1.1.1.1.1.1.1.1.1.0; skip_line_feed = y.1.1.1.1.1.1.1.1.1.1.0; foster = y.1.1.1.1.1.1.1.1.1.1.1.0; next = y.1.1.1.1.1.1.1.1.1.1.1.1.0; context = y.1.1.1.1.1.1.1.1.1.1.1.1.1 }

open_states : Tells Open
open_states = back parts_open_states from_open_states (λ x. refl) (pairs (lists elements) (pairs (lists formats) (pairs (options ids) (pairs (options ids) (pairs modes (pairs (options modes) (pairs (lists modes) (pairs texts (pairs flags (pairs flags (pairs flags (pairs flags (pairs ids (options elements))))))))))))))

abbrev parts_parsers : Parser → TokState × (Bool × Open)
parts_parsers x = (x.tokenizer, (x.after_cr, x.open_state))

abbrev from_parsers : TokState × (Bool × Open) → Parser
from_parsers y = record { tokenizer = y.0; after_cr = y.1.0; open_state = y.1.1 }

parsers : Tells Parser
parsers = back parts_parsers from_parsers (λ x. refl) (pairs tok_states (pairs flags open_states))

-- ---- the law

pub told : DecidesSame
told held now = elim (parsers (record held { open_state = record held.open_state { next = now.open_state.next } }) now) as (λ _. (c : Verdict) × IsVerdict held now c) [
  | inl same ↦ (Keep, same)
  | inr other ↦ (Rewind, other)
]

pub have-steps : HaveSteps
have-steps = enabled-steps told
