-- The laws of the tokenizer's rows.
use Rattle.std.proofs.Common.{◌≡◌, ℕ, Bool, true, false, if◌then◌else◌, List, Option, refl}
use Rattle.html_types.specs.declared.word.Word.{Word}
use Rattle.html_types.specs.declared.state.RawText.{RawText}
use Rattle.html_types.specs.declared.state.RawText.TheVariants.{Rcdata, Rawtext, ScriptData, ScriptDataEscaped}
use Rattle.html_types.specs.declared.state.TextState.{TextState}
use Rattle.html_types.specs.declared.state.TextState.TheVariants.{Data, Raw, Plaintext, RawLessThan, RawEndTagOpen, RawEndTagName, EscapeStart, EscapeStartDash, EscapedDash, EscapedDashDash, DoubleEscapeStart, DoubleEscaped, DoubleEscapedDash, DoubleEscapedDashDash, DoubleEscapedLessThan, DoubleEscapeEnd}
use Rattle.html_types.specs.declared.state.TagState.{TagState}
use Rattle.html_types.specs.declared.state.TagState.TheVariants.{TagOpen, EndTagOpen, TagName, BeforeAttributeName, AttributeName, AfterAttributeName, BeforeAttributeValue, AttributeValueQuoted, AttributeValueUnquoted, AfterAttributeValueQuoted, SelfClosingStartTag}
use Rattle.html_types.specs.declared.state.TokState.TheVariants as group
use Rattle.html_types.specs.declared.class.Class.{Class}
use Rattle.html_types.specs.declared.class.Class.TheVariants.{Nul, Space, Slash, Greater, Alpha}
use Rattle.standard.specs.Entities.{Entities}
use Rattle.standard.specs.Step.{Step, in_text, in_tag, to, emit_tag}
use Rattle.standard.specs.TextStates.{is_appropriate, in_lower_case, end_tag_named, no_end_tag}
use Rattle.standard.specs.Tokenizer.{readings}
use Rattle.tokenizer_laws.specs.TokenizerLaws.{CutAnywhere, EndsAlways, ends}
use Rattle.tokenizer_laws.proofs.FeedLemmas.{onward-append}
use Rattle.tokenizer_laws.proofs.EndsLemmas.{ends-data, ends-raw, ends-quoted, ends-unquoted}
use Rattle.tokenizer_laws.proofs.EscapeLaws.{ends-escape_start, ends-escape_start_dash, ends-escaped_dash, ends-escaped_dash_dash, ends-double_escape_start, ends-double_escaped, ends-double_escaped_dash, ends-double_escaped_dash_dash, ends-double_escaped_less_than, ends-double_escape_end}
use Rattle.tokenizer_laws.proofs.MarkLaws.{ends-mark}
use Rattle.tokenizer_laws.proofs.ReferenceLaws.{ends-reference}

pub cut-anywhere : CutAnywhere
cut-anywhere = onward-append

-- the states of text

ends-less : (es : Entities) (foreign : Bool) (r : RawText) (l : Option Word) (k : Class) (c : ℕ) → ends es foreign readings (in_text (RawLessThan r l)) k c ≡ true
unfolding ends
ends-less es foreign Rcdata l k c = elim k as (λ v. ends es foreign readings (in_text (RawLessThan Rcdata l)) v c ≡ true) [ Nul ↦ refl | _ ↦ refl ]
ends-less es foreign Rawtext l k c = elim k as (λ v. ends es foreign readings (in_text (RawLessThan Rawtext l)) v c ≡ true) [ Nul ↦ refl | _ ↦ refl ]
ends-less es foreign ScriptData l k c = elim k as (λ v. ends es foreign readings (in_text (RawLessThan ScriptData l)) v c ≡ true) [ Nul ↦ refl | _ ↦ refl ]
ends-less es foreign ScriptDataEscaped l k c = elim k as (λ v. ends es foreign readings (in_text (RawLessThan ScriptDataEscaped l)) v c ≡ true) [ Nul ↦ refl | _ ↦ refl ]

ends-end_tag_open : (es : Entities) (foreign : Bool) (r : RawText) (l : Option Word) (k : Class) (c : ℕ) → ends es foreign readings (in_text (RawEndTagOpen r l)) k c ≡ true
unfolding ends
ends-end_tag_open es foreign Rcdata l k c = elim k as (λ v. ends es foreign readings (in_text (RawEndTagOpen Rcdata l)) v c ≡ true) [ Nul ↦ refl | _ ↦ refl ]
ends-end_tag_open es foreign Rawtext l k c = elim k as (λ v. ends es foreign readings (in_text (RawEndTagOpen Rawtext l)) v c ≡ true) [ Nul ↦ refl | _ ↦ refl ]
ends-end_tag_open es foreign ScriptData l k c = elim k as (λ v. ends es foreign readings (in_text (RawEndTagOpen ScriptData l)) v c ≡ true) [ Nul ↦ refl | _ ↦ refl ]
ends-end_tag_open es foreign ScriptDataEscaped l k c = elim k as (λ v. ends es foreign readings (in_text (RawEndTagOpen ScriptDataEscaped l)) v c ≡ true) [ Nul ↦ refl | _ ↦ refl ]

-- where the row asks whether the end tag is appropriate
ends-if : (es : Entities) (foreign : Bool) (r : RawText) (l : Option Word) (w : List ℕ) (k : Class) (c : ℕ) (step : Step) (b : Bool) → step.again ≡ false → (let q = (if b then step else no_end_tag r l w) in if q.again then ends es foreign 4 q.state k c else true) ≡ true
ends-if es foreign r l w k c step true e = rw e refl
ends-if es foreign r l w k c step false e = ends-raw es foreign 3 r l k c

ends-end_tag_name : (es : Entities) (foreign : Bool) (r : RawText) (l : Option Word) (w : List ℕ) (k : Class) (c : ℕ) → ends es foreign readings (in_text (RawEndTagName r l w)) k c ≡ true
unfolding ends
ends-end_tag_name es foreign r l w Space c = ends-if es foreign r l w Space c (to (in_tag (BeforeAttributeName (end_tag_named w)))) (is_appropriate l (in_lower_case w)) refl
ends-end_tag_name es foreign r l w Slash c = ends-if es foreign r l w Slash c (to (in_tag (SelfClosingStartTag (end_tag_named w)))) (is_appropriate l (in_lower_case w)) refl
ends-end_tag_name es foreign r l w Greater c = ends-if es foreign r l w Greater c (emit_tag (end_tag_named w)) (is_appropriate l (in_lower_case w)) refl
ends-end_tag_name es foreign r l w Alpha c = refl
ends-end_tag_name es foreign r l w k c = ends-raw es foreign 3 r l k c

ends-text : (es : Entities) (foreign : Bool) (s : TextState) (k : Class) (c : ℕ) → ends es foreign readings (in_text s) k c ≡ true
unfolding ends
ends-text es foreign Data k c = ends-data es foreign 4 k c
ends-text es foreign (Raw r l) k c = ends-raw es foreign 4 r l k c
ends-text es foreign Plaintext k c = elim k as (λ v. ends es foreign readings (in_text Plaintext) v c ≡ true) [ Nul ↦ refl | _ ↦ refl ]
ends-text es foreign (RawLessThan r l) k c = ends-less es foreign r l k c
ends-text es foreign (RawEndTagOpen r l) k c = ends-end_tag_open es foreign r l k c
ends-text es foreign (RawEndTagName r l w) k c = ends-end_tag_name es foreign r l w k c
ends-text es foreign (EscapeStart l) k c = ends-escape_start es foreign 3 l k c
ends-text es foreign (EscapeStartDash l) k c = ends-escape_start_dash es foreign 3 l k c
ends-text es foreign (EscapedDash l) k c = ends-escaped_dash es foreign 3 l k c
ends-text es foreign (EscapedDashDash l) k c = ends-escaped_dash_dash es foreign 3 l k c
ends-text es foreign (DoubleEscapeStart l t) k c = ends-double_escape_start es foreign 3 l t k c
ends-text es foreign (DoubleEscaped l) k c = ends-double_escaped es foreign 3 l k c
ends-text es foreign (DoubleEscapedDash l) k c = ends-double_escaped_dash es foreign 3 l k c
ends-text es foreign (DoubleEscapedDashDash l) k c = ends-double_escaped_dash_dash es foreign 3 l k c
ends-text es foreign (DoubleEscapedLessThan l) k c = ends-double_escaped_less_than es foreign 3 l k c
ends-text es foreign (DoubleEscapeEnd l t) k c = ends-double_escape_end es foreign 3 l t k c

-- the states of tags

ends-tag : (es : Entities) (foreign : Bool) (s : TagState) (k : Class) (c : ℕ) → ends es foreign readings (in_tag s) k c ≡ true
unfolding ends
ends-tag es foreign TagOpen k c = elim k as (λ v. ends es foreign readings (in_tag TagOpen) v c ≡ true) [ Nul ↦ refl | _ ↦ refl ]
ends-tag es foreign EndTagOpen k c = elim k as (λ v. ends es foreign readings (in_tag EndTagOpen) v c ≡ true) [ Nul ↦ refl | _ ↦ refl ]
ends-tag es foreign (TagName t) k c = elim k as (λ v. ends es foreign readings (in_tag (TagName t)) v c ≡ true) [ Nul ↦ refl | _ ↦ refl ]
ends-tag es foreign (BeforeAttributeName t) k c = elim k as (λ v. ends es foreign readings (in_tag (BeforeAttributeName t)) v c ≡ true) [ Nul ↦ refl | _ ↦ refl ]
ends-tag es foreign (AttributeName t n) k c = elim k as (λ v. ends es foreign readings (in_tag (AttributeName t n)) v c ≡ true) [ Nul ↦ refl | _ ↦ refl ]
ends-tag es foreign (AfterAttributeName t h) k c = elim k as (λ v. ends es foreign readings (in_tag (AfterAttributeName t h)) v c ≡ true) [ Nul ↦ refl | _ ↦ refl ]
ends-tag es foreign (BeforeAttributeValue t h) k c = elim k as (λ v. ends es foreign readings (in_tag (BeforeAttributeValue t h)) v c ≡ true) [ Nul ↦ refl | _ ↦ refl ]
ends-tag es foreign (AttributeValueQuoted t h q) k c = ends-quoted es foreign 4 t h q k c
ends-tag es foreign (AttributeValueUnquoted t h) k c = ends-unquoted es foreign 4 t h k c
ends-tag es foreign (AfterAttributeValueQuoted t) k c = elim k as (λ v. ends es foreign readings (in_tag (AfterAttributeValueQuoted t)) v c ≡ true) [ Nul ↦ refl | _ ↦ refl ]
ends-tag es foreign (SelfClosingStartTag t) k c = elim k as (λ v. ends es foreign readings (in_tag (SelfClosingStartTag t)) v c ≡ true) [ Nul ↦ refl | _ ↦ refl ]

pub ends-always : EndsAlways
ends-always es foreign (group.Text s) k c = ends-text es foreign s k c
ends-always es foreign (group.Tag s) k c = ends-tag es foreign s k c
ends-always es foreign (group.Mark s) k c = ends-mark es foreign 2 s k c
ends-always es foreign (group.Reference s) k c = ends-reference es foreign 2 s k c
