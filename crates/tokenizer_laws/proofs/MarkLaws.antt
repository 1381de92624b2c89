-- Comments, doctypes, CDATA sections and markup declarations: no character is read more than three times.
use Rattle.std.proofs.Common.{◌≡◌, ℕ, suc, true, true≢false, Bool, ◌||◌, ◌&&◌, List, [], ◌∷◌, ◌++◌, refl, codes}
use Rattle.html_types.specs.Text.{same_text}
use Rattle.html_types.specs.declared.token.Quote.TheVariants.{Single, Double}
use Rattle.html_types.specs.declared.mark_state.CommentState.{CommentState}
use Rattle.html_types.specs.declared.mark_state.CommentState.TheVariants as comment
use Rattle.html_types.specs.declared.mark_state.DoctypeState.{DoctypeState}
use Rattle.html_types.specs.declared.mark_state.DoctypeState.TheVariants as doctype
use Rattle.html_types.specs.declared.state.TokState.TheVariants as group
use Rattle.html_types.specs.declared.mark_state.CdataState.{CdataState}
use Rattle.html_types.specs.declared.mark_state.CdataState.TheVariants as cdata
use Rattle.html_types.specs.declared.mark_state.MarkState.{MarkState}
use Rattle.html_types.specs.declared.mark_state.MarkState.TheVariants.{MarkupDeclarationOpen, BogusComment, Comment, Doctype, Cdata}
use Rattle.html_types.specs.declared.class.Class.{Class}
use Rattle.html_types.specs.declared.class.Class.TheVariants.{Nul, Space, Greater, InputEnd}
use Rattle.standard.specs.Class.{name_char}
use Rattle.standard.specs.Entities.{Entities, is_front}
use Rattle.standard.specs.Step.{in_mark}
use Rattle.standard.specs.TextStates.{in_lower_case}
use Rattle.standard.specs.CommentStates.{in_comment}
use Rattle.standard.specs.DoctypeStates.{in_doctype, keyword_step}
use Rattle.standard.specs.CdataStates.{in_cdata}
use Rattle.standard.specs.MarkStates.{declaration_step}
use Rattle.tokenizer_laws.specs.TokenizerLaws.{ends, AsksAtDeclarations}
use Rattle.tokenizer_laws.proofs.EndsLemmas.{settles, either}

pub ends-bogus_comment : (es : Entities) (foreign : Bool) (n : ℕ) (t : List ℕ) (k : Class) (c : ℕ) → ends es foreign (suc n) (in_mark (BogusComment t)) k c ≡ true
unfolding ends
ends-bogus_comment es foreign n t k c = elim k as (λ v. ends es foreign (suc n) (in_mark (BogusComment t)) v c ≡ true) [ Nul ↦ refl | _ ↦ refl ]

-- comments

ends-comment : (es : Entities) (foreign : Bool) (n : ℕ) (s : CommentState) (k : Class) (c : ℕ) → ends es foreign (suc (suc (suc n))) (in_comment s) k c ≡ true
unfolding ends
ends-comment es foreign n comment.Start k c = elim k as (λ v. ends es foreign (suc (suc (suc n))) (in_comment comment.Start) v c ≡ true) [ Nul ↦ refl | _ ↦ refl ]
ends-comment es foreign n comment.StartDash k c = elim k as (λ v. ends es foreign (suc (suc (suc n))) (in_comment comment.StartDash) v c ≡ true) [ Nul ↦ refl | _ ↦ refl ]
ends-comment es foreign n (comment.Inside t) k c = elim k as (λ v. ends es foreign (suc (suc (suc n))) (in_comment (comment.Inside t)) v c ≡ true) [ Nul ↦ refl | _ ↦ refl ]
ends-comment es foreign n (comment.LessThan t) k c = elim k as (λ v. ends es foreign (suc (suc (suc n))) (in_comment (comment.LessThan t)) v c ≡ true) [ Nul ↦ refl | _ ↦ refl ]
ends-comment es foreign n (comment.LessThanBang t) k c = elim k as (λ v. ends es foreign (suc (suc (suc n))) (in_comment (comment.LessThanBang t)) v c ≡ true) [ Nul ↦ refl | _ ↦ refl ]
ends-comment es foreign n (comment.LessThanBangDash t) k c = elim k as (λ v. ends es foreign (suc (suc (suc n))) (in_comment (comment.LessThanBangDash t)) v c ≡ true) [ Nul ↦ refl | _ ↦ refl ]
ends-comment es foreign n (comment.LessThanBangDashDash t) k c = elim k as (λ v. ends es foreign (suc (suc (suc n))) (in_comment (comment.LessThanBangDashDash t)) v c ≡ true) [ Nul ↦ refl | _ ↦ refl ]
ends-comment es foreign n (comment.EndDash t) k c = elim k as (λ v. ends es foreign (suc (suc (suc n))) (in_comment (comment.EndDash t)) v c ≡ true) [ Nul ↦ refl | _ ↦ refl ]
ends-comment es foreign n (comment.End t) k c = elim k as (λ v. ends es foreign (suc (suc (suc n))) (in_comment (comment.End t)) v c ≡ true) [ Nul ↦ refl | _ ↦ refl ]
ends-comment es foreign n (comment.EndBang t) k c = elim k as (λ v. ends es foreign (suc (suc (suc n))) (in_comment (comment.EndBang t)) v c ≡ true) [ Nul ↦ refl | _ ↦ refl ]

-- doctypes

ends-bogus_doctype : (es : Entities) (foreign : Bool) (n : ℕ) (t : List ℕ) (q : Bool) (k : Class) (c : ℕ) → ends es foreign (suc n) (in_doctype (doctype.Bogus t q)) k c ≡ true
unfolding ends
ends-bogus_doctype es foreign n t q k c = elim k as (λ v. ends es foreign (suc n) (in_doctype (doctype.Bogus t q)) v c ≡ true) [ Nul ↦ refl | _ ↦ refl ]

keyword-settles : (es : Entities) (foreign : Bool) (n : ℕ) (t now : List ℕ) (k : Class) (c : ℕ) → settles es foreign (suc n) k c (keyword_step t now) ≡ true
keyword-settles es foreign n t now k c =
    either es foreign (suc n) k c _ _ (same_text now (codes "public")) refl
    (either es foreign (suc n) k c _ _ (same_text now (codes "system")) refl
    (either es foreign (suc n) k c _ _ (is_front now (codes "public") || is_front now (codes "system")) refl (ends-bogus_doctype es foreign n t true k c)))

ends-after_name : (es : Entities) (foreign : Bool) (n : ℕ) (t : List ℕ) (k : Class) (c : ℕ) → ends es foreign (suc (suc n)) (in_doctype (doctype.AfterName t)) k c ≡ true
unfolding ends
ends-after_name es foreign n t Space c = refl
ends-after_name es foreign n t Greater c = refl
ends-after_name es foreign n t InputEnd c = refl
ends-after_name es foreign n t k c = keyword-settles es foreign n t (name_char c ∷ []) k c

ends-keyword : (es : Entities) (foreign : Bool) (n : ℕ) (t h : List ℕ) (k : Class) (c : ℕ) → ends es foreign (suc (suc n)) (in_doctype (doctype.Keyword t h)) k c ≡ true
unfolding ends
ends-keyword es foreign n t h InputEnd c = refl
ends-keyword es foreign n t h k c = keyword-settles es foreign n t (h ++ name_char c ∷ []) k c

ends-doctype : (es : Entities) (foreign : Bool) (n : ℕ) (s : DoctypeState) (k : Class) (c : ℕ) → ends es foreign (suc (suc n)) (in_doctype s) k c ≡ true
unfolding ends
ends-doctype es foreign n doctype.Doctype k c = elim k as (λ v. ends es foreign (suc (suc n)) (in_doctype doctype.Doctype) v c ≡ true) [ Nul ↦ refl | _ ↦ refl ]
ends-doctype es foreign n doctype.BeforeName k c = elim k as (λ v. ends es foreign (suc (suc n)) (in_doctype doctype.BeforeName) v c ≡ true) [ Nul ↦ refl | _ ↦ refl ]
ends-doctype es foreign n (doctype.Name t) k c = elim k as (λ v. ends es foreign (suc (suc n)) (in_doctype (doctype.Name t)) v c ≡ true) [ Nul ↦ refl | _ ↦ refl ]
ends-doctype es foreign n (doctype.AfterName t) k c = ends-after_name es foreign n t k c
ends-doctype es foreign n (doctype.Keyword t h) k c = ends-keyword es foreign n t h k c
ends-doctype es foreign n (doctype.AfterPublicKeyword t) k c = elim k as (λ v. ends es foreign (suc (suc n)) (in_doctype (doctype.AfterPublicKeyword t)) v c ≡ true) [ Nul ↦ refl | _ ↦ refl ]
ends-doctype es foreign n (doctype.PublicIdentifier t Single) k c = elim k as (λ v. ends es foreign (suc (suc n)) (in_doctype (doctype.PublicIdentifier t Single)) v c ≡ true) [ Nul ↦ refl | _ ↦ refl ]
ends-doctype es foreign n (doctype.PublicIdentifier t Double) k c = elim k as (λ v. ends es foreign (suc (suc n)) (in_doctype (doctype.PublicIdentifier t Double)) v c ≡ true) [ Nul ↦ refl | _ ↦ refl ]
ends-doctype es foreign n (doctype.AfterPublicIdentifier t) k c = elim k as (λ v. ends es foreign (suc (suc n)) (in_doctype (doctype.AfterPublicIdentifier t)) v c ≡ true) [ Nul ↦ refl | _ ↦ refl ]
ends-doctype es foreign n (doctype.AfterSystemKeyword t) k c = elim k as (λ v. ends es foreign (suc (suc n)) (in_doctype (doctype.AfterSystemKeyword t)) v c ≡ true) [ Nul ↦ refl | _ ↦ refl ]
ends-doctype es foreign n (doctype.SystemIdentifier t Single) k c = elim k as (λ v. ends es foreign (suc (suc n)) (in_doctype (doctype.SystemIdentifier t Single)) v c ≡ true) [ Nul ↦ refl | _ ↦ refl ]
ends-doctype es foreign n (doctype.SystemIdentifier t Double) k c = elim k as (λ v. ends es foreign (suc (suc n)) (in_doctype (doctype.SystemIdentifier t Double)) v c ≡ true) [ Nul ↦ refl | _ ↦ refl ]
ends-doctype es foreign n (doctype.AfterSystemIdentifier t) k c = elim k as (λ v. ends es foreign (suc (suc n)) (in_doctype (doctype.AfterSystemIdentifier t)) v c ≡ true) [ Nul ↦ refl | _ ↦ refl ]
ends-doctype es foreign n (doctype.Bogus t q) k c = ends-bogus_doctype es foreign (suc n) t q k c

-- CDATA sections

ends-cdata : (es : Entities) (foreign : Bool) (n : ℕ) (s : CdataState) (k : Class) (c : ℕ) → ends es foreign (suc (suc n)) (in_cdata s) k c ≡ true
unfolding ends
ends-cdata es foreign n cdata.Section k c = elim k as (λ v. ends es foreign (suc (suc n)) (in_cdata cdata.Section) v c ≡ true) [ Nul ↦ refl | _ ↦ refl ]
ends-cdata es foreign n cdata.Bracket k c = elim k as (λ v. ends es foreign (suc (suc n)) (in_cdata cdata.Bracket) v c ≡ true) [ Nul ↦ refl | _ ↦ refl ]
ends-cdata es foreign n cdata.End k c = elim k as (λ v. ends es foreign (suc (suc n)) (in_cdata cdata.End) v c ≡ true) [ Nul ↦ refl | _ ↦ refl ]

-- markup declarations

declaration-settles : (es : Entities) (foreign : Bool) (n : ℕ) (h now : List ℕ) (k : Class) (c : ℕ) → settles es foreign (suc n) k c (declaration_step foreign h now) ≡ true
declaration-settles es foreign n h now k c =
    either es foreign (suc n) k c _ _ (same_text now (codes "--")) refl
    (either es foreign (suc n) k c _ _ (same_text (in_lower_case now) (codes "doctype")) refl
    (either es foreign (suc n) k c _ _ (foreign && same_text now (codes "[CDATA[")) refl
    (either es foreign (suc n) k c _ _ (is_front now (codes "--") || is_front (in_lower_case now) (codes "doctype") || (foreign && is_front now (codes "[CDATA["))) refl (ends-bogus_comment es foreign n h k c))))

ends-declaration : (es : Entities) (foreign : Bool) (n : ℕ) (h : List ℕ) (k : Class) (c : ℕ) → ends es foreign (suc (suc n)) (in_mark (MarkupDeclarationOpen h)) k c ≡ true
unfolding ends
ends-declaration es foreign n h InputEnd c = refl
ends-declaration es foreign n h k c = declaration-settles es foreign n h (h ++ c ∷ []) k c

pub ends-mark : (es : Entities) (foreign : Bool) (n : ℕ) (s : MarkState) (k : Class) (c : ℕ) → ends es foreign (suc (suc (suc n))) (in_mark s) k c ≡ true
ends-mark es foreign n (MarkupDeclarationOpen h) k c = ends-declaration es foreign (suc n) h k c
ends-mark es foreign n (BogusComment t) k c = ends-bogus_comment es foreign (suc (suc n)) t k c
ends-mark es foreign n (Comment s) k c = ends-comment es foreign n s k c
ends-mark es foreign n (Doctype s) k c = ends-doctype es foreign (suc n) s k c
ends-mark es foreign n (Cdata s) k c = ends-cdata es foreign (suc n) s k c

-- the flag is read at markup declarations alone

pub asks-at-declarations : AsksAtDeclarations
asks-at-declarations es foreign other (group.Text s) k c h = refl
asks-at-declarations es foreign other (group.Tag s) k c h = refl
asks-at-declarations es foreign other (group.Mark (MarkupDeclarationOpen held)) k c h = absurd (true≢false h)
asks-at-declarations es foreign other (group.Mark _) k c h = refl
asks-at-declarations es foreign other (group.Reference s) k c h = refl
