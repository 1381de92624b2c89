-- At the end of the input each row is done, having emitted the end-of-file token last, or has it read again in another state.
use Rattle.std.proofs.Common.{◌≡◌, ℕ, zero, suc, Bool, true, false, true≢false, if◌then◌else◌, List, [], ◌∷◌, ◌++◌, Option, Some, None, length, drop, refl, sym, ap, ◌∙◌, append_assoc}
use Rattle.html_types.specs.declared.token.Token.{Token}
use Rattle.html_types.specs.declared.token.Token.TheVariants.{EndOfFile}
use Rattle.html_types.specs.declared.token.Quote.TheVariants.{Single, Double}
use Rattle.html_types.specs.declared.state.RawText.TheVariants.{Rcdata}
use Rattle.html_types.specs.declared.state.TextState.{TextState}
use Rattle.html_types.specs.declared.state.TextState.TheVariants.{Data, Raw, RawLessThan, RawEndTagOpen}
use Rattle.html_types.specs.declared.state.TagState.{TagState}
use Rattle.html_types.specs.declared.state.TagState.TheVariants.{TagOpen, AttributeValueQuoted}
use Rattle.html_types.specs.declared.state.TokState.{TokState}
use Rattle.html_types.specs.declared.state.TokState.TheVariants as group
use Rattle.html_types.specs.declared.mark_state.DoctypeState.{DoctypeState}
use Rattle.html_types.specs.declared.mark_state.DoctypeState.TheVariants as doctype
use Rattle.html_types.specs.declared.mark_state.CommentState.TheVariants as comment
use Rattle.html_types.specs.declared.mark_state.CdataState.TheVariants as cdata
use Rattle.html_types.specs.declared.mark_state.MarkState.{MarkState}
use Rattle.html_types.specs.declared.mark_state.MarkState.TheVariants.{MarkupDeclarationOpen, BogusComment, Comment, Doctype, Cdata}
use Rattle.html_types.specs.declared.reference_state.ReturnState.{ReturnState}
use Rattle.html_types.specs.declared.reference_state.ReturnState.TheVariants as back
use Rattle.html_types.specs.declared.reference_state.ReferenceState.{ReferenceState}
use Rattle.html_types.specs.declared.reference_state.ReferenceState.TheVariants.{Ampersand, Named, Numeric, HexadecimalStart, Hexadecimal, Decimal}
use Rattle.html_types.specs.declared.class.Class.TheVariants.{InputEnd}
use Rattle.standard.specs.Entities.{Entity, Entities, longest}
use Rattle.standard.specs.Step.{Step}
use Rattle.standard.specs.TextStates.{text_row}
use Rattle.standard.specs.TagStates.{tag_row}
use Rattle.standard.specs.MarkStates.{mark_row}
use Rattle.standard.specs.ReferenceStates.{literally, is_kept, named_step, character_of, reference_row}
use Rattle.standard.specs.Tokenizer.{Reached, after_tokens, row, settle, readings}
use Rattle.tokenizer_laws.specs.TokenizerLaws.{ends, EndsWith, EndsInEndOfFile}
use Rattle.tokenizer_laws.proofs.TokenizerLaws.{ends-always}

abbrev is_end : Token → Bool
is_end EndOfFile = true
is_end _ = false

-- the last token is that of the end of the file
abbrev is_last : List Token → Bool
is_last [] = false
is_last (t ∷ []) = is_end t
is_last (t ∷ u ∷ ts) = is_last (u ∷ ts)

-- it is, or the end is read again
abbrev is_fine : Step → Bool
is_fine r = if r.again then true else is_last r.tokens

text-fine : (s : TextState) → is_fine (text_row s InputEnd 0) ≡ true
text-fine Data = refl
text-fine (Raw Rcdata l) = refl
text-fine (Raw _ l) = refl
text-fine (RawLessThan Rcdata l) = refl
text-fine (RawLessThan _ l) = refl
text-fine (RawEndTagOpen Rcdata l) = refl
text-fine (RawEndTagOpen _ l) = refl
text-fine _ = refl

tag-fine : (s : TagState) → is_fine (tag_row s InputEnd 0) ≡ true
tag-fine TagOpen = refl
tag-fine (AttributeValueQuoted t h Single) = refl
tag-fine (AttributeValueQuoted t h Double) = refl
tag-fine _ = refl

doctype-fine : (foreign : Bool) (s : DoctypeState) → is_fine (mark_row foreign (Doctype s) InputEnd 0) ≡ true
doctype-fine foreign doctype.Doctype = refl
doctype-fine foreign (doctype.PublicIdentifier t Single) = refl
doctype-fine foreign (doctype.PublicIdentifier t Double) = refl
doctype-fine foreign (doctype.SystemIdentifier t Single) = refl
doctype-fine foreign (doctype.SystemIdentifier t Double) = refl
doctype-fine foreign _ = refl

mark-fine : (foreign : Bool) (s : MarkState) → is_fine (mark_row foreign s InputEnd 0) ≡ true
mark-fine foreign (MarkupDeclarationOpen h) = refl
mark-fine foreign (BogusComment t) = refl
mark-fine foreign (Comment comment.Start) = refl
mark-fine foreign (Comment _) = refl
mark-fine foreign (Doctype s) = doctype-fine foreign s
mark-fine foreign (Cdata cdata.Section) = refl
mark-fine foreign (Cdata _) = refl

literally-fine : (r : ReturnState) (cs : List ℕ) → is_fine (literally r cs true) ≡ true
literally-fine back.Data cs = refl
literally-fine _ cs = refl

either-fine : (p q : Step) (b : Bool) → is_fine p ≡ true → is_fine q ≡ true → is_fine (if b then p else q) ≡ true
either-fine p q true e f = e
either-fine p q false e f = f

named-fine : (r : ReturnState) (h : List ℕ) (found : Option Entity) → is_fine (named_step r h found InputEnd) ≡ true
named-fine r h None = literally-fine r h
named-fine r h (Some e) = either-fine _ _ (is_kept r e (drop (length e.name) h) InputEnd) (literally-fine r h) (literally-fine r (e.characters ++ drop (length e.name) h))

reference-fine : (es : Entities) (s : ReferenceState) → is_fine (reference_row es s InputEnd 0) ≡ true
reference-fine es (Ampersand r) = literally-fine r (38 ∷ [])
reference-fine es (Named r h) = named-fine r h (longest h es)
reference-fine es (Numeric r) = literally-fine r (38 ∷ 35 ∷ [])
reference-fine es (HexadecimalStart r x) = literally-fine r (38 ∷ 35 ∷ x ∷ [])
reference-fine es (Hexadecimal r m) = literally-fine r (character_of m ∷ [])
reference-fine es (Decimal r m) = literally-fine r (character_of m ∷ [])

row-fine : (es : Entities) (foreign : Bool) (s : TokState) → is_fine (row es foreign s InputEnd 0) ≡ true
row-fine es foreign (group.Text s) = text-fine s
row-fine es foreign (group.Tag s) = tag-fine s
row-fine es foreign (group.Mark s) = mark-fine foreign s
row-fine es foreign (group.Reference s) = reference-fine es s

end-ends : (t : Token) → is_end t ≡ true → EndsWith EndOfFile (t ∷ [])
end-ends EndOfFile e = ([], refl)
end-ends _ e = absurd (true≢false (sym e))

last-ends : (ts : List Token) → is_last ts ≡ true → EndsWith EndOfFile ts
last-ends [] e = absurd (true≢false (sym e))
last-ends (t ∷ []) e = end-ends t e
last-ends (t ∷ u ∷ ts) e = let (front, is) = last-ends (u ∷ ts) e in (t ∷ front, ap (λ l. t ∷ l) is)

-- a row is done with the end, or what comes of it in the next state follows
one-reading : (ts : List Token) (s : TokState) (m : Reached) (again x : Bool) → (if again then true else is_last ts) ≡ true → (if again then x else true) ≡ true
    → (x ≡ true → EndsWith EndOfFile m.tokens) → EndsWith EndOfFile (let r : Reached = if again then after_tokens ts m else record { tokens = ts; state = s } in r.tokens)
one-reading ts s m true x fine e rest = let (front, is) = rest e in (ts ++ front, ap (λ l. ts ++ l) is ∙ sym (append_assoc ts front (EndOfFile ∷ [])))
one-reading ts s m false x fine e rest = last-ends ts fine

end-settles : (es : Entities) (foreign : Bool) (n : ℕ) (s : TokState) → ends es foreign n s InputEnd 0 ≡ true → EndsWith EndOfFile (settle es foreign n s InputEnd 0).tokens
unfolding ends settle
end-settles es foreign zero s e = absurd (true≢false (sym e))
end-settles es foreign (suc n) s e =
    let r : Step = row es foreign s InputEnd 0 in
    one-reading r.tokens r.state (settle es foreign n r.state InputEnd 0) r.again (ends es foreign n r.state InputEnd 0) (row-fine es foreign s) e (end-settles es foreign n r.state)

pub ends-in_end_of_file : EndsInEndOfFile
ends-in_end_of_file es foreign s = end-settles es foreign readings s (ends-always es foreign s InputEnd 0)
