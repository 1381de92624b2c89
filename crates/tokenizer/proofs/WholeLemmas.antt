-- A tag that stands whole in a text, read character by character.
use Rattle.std.proofs.Common.{◌≡◌, ℕ, zero, suc, ◌+◌, ◌-◌, ◌<◌, ◌≤◌, Bool, true, false, true≢false, ◌==◌, ◌||◌, List, [], ◌∷◌, ◌++◌, length, get_or, take, drop, subst, refl, sym, ap, ◌∙◌, append-nil, append_assoc, arith}
use Rattle.std.specs.Prelude.{slice_range, Option, Some, None, not, if◌then◌else◌}
use Rattle.std.specs.List.{list_any}
use Rattle.std.specs.Str.{chars, IsUtf8, IsAscii, IsCharBoundary}
use Rattle.std.proofs.Math.Utf8.{encode, encodes}
use Rattle.std.proofs.lemmas.Bool.{and_parts}
use Rattle.std.proofs.lemmas.Bool.Decides.{Decides-eqb, nat_tests}
use Rattle.std.proofs.lemmas.List.Folds.{list_any-append}
use Rattle.std.proofs.lemmas.Str.{chars-append, chars-nil, chars-IsAscii, encode_ascii, encodes-chars, IsUtf8-between}
use Rattle.std.proofs.Math.Seq.{take-add, drop-drop, drop-cons}
use Rattle.html_types.specs.declared.class.Class.{Class}
use Rattle.html_types.specs.declared.class.Class.TheVariants.{Space, DoubleQuote, Ampersand, SingleQuote, Slash, Equals, Greater, Alpha, InputEnd}
use Rattle.html_types.specs.declared.state.TokState.{TokState}
use Rattle.html_types.specs.declared.state.TagState.TheVariants.{TagOpen, EndTagOpen, TagName, BeforeAttributeName, AttributeName, AfterAttributeName, BeforeAttributeValue, AttributeValueQuoted, AttributeValueUnquoted, AfterAttributeValueQuoted}
use Rattle.html_types.specs.declared.token.PartialTag.{PartialTag}
use Rattle.html_types.specs.declared.token.TagKind.{TagKind}
use Rattle.html_types.specs.declared.token.TagKind.TheVariants as kind
use Rattle.html_types.specs.declared.token.Token.{Token}
use Rattle.html_types.specs.declared.token.Quote.{Quote}
use Rattle.html_types.specs.declared.token.Quote.TheVariants as quote
use Rattle.html_types.specs.Attributes.{has_name}
use Rattle.html_types.specs.declared.attributes.Attribute.{Attribute}
use Rattle.standard.specs.Class.{class_of, name_char, shown}
use Rattle.standard.specs.Entities.{Entities}
use Rattle.html_types.specs.declared.reference_state.ReturnState.TheVariants as back
use Rattle.standard.specs.ReferenceStates.{return_state}
use Rattle.tokenizer.specs.Reference.{Means}
use Rattle.standard.specs.Step.{Step, in_tag, data_state, to, again, new_tag, finished, tag_token}
use Rattle.standard.specs.TagStates.{tag_name_row, tag_open_row, end_tag_open_row, before_attribute_name_row, attribute_name_row, after_attribute_name_row, before_attribute_value_row, quoted_row, unquoted_row, after_quoted_row}
use Rattle.standard.specs.Tokenizer.{Reached, after_tokens, row, settle, readings, reading, read, feed}
use Rattle.tokenizer_laws.proofs.FeedLemmas.{onward-front}
use Rattle.tokenizer_laws.proofs.SettleLemmas.{settle-again, settle-done, reading-emit}
use Rattle.tokenizer.specs.declared.part.Part.{Part}
use Rattle.tokenizer.specs.declared.part.Part.TheVariants as part
use Rattle.tokenizer.specs.declared.whole.Behind.{Behind}
use Rattle.tokenizer.specs.declared.whole.Behind.TheVariants as behind
use Rattle.tokenizer.specs.Whole.{in_name, in_attribute_name, in_quoted, in_unquoted, is_space, is_alpha, is_of, all_of, begins_name, begins_with, has_cr, bare, is_gap, goes_on, begins_part, may_close, quote_mark, close_text, piece, value_part, value_of, Opens, Leads, Reads, HasValue, Gives, MakesAlone}

-- ---- pieces of a text

range_split : (xs : List ℕ) (a m b : ℕ) → a ≤ m → m ≤ b → slice_range xs a b ≡ slice_range xs a m ++ slice_range xs m b
range_split xs a m b p q =
    let e : b - a ≡ (m - a) + (b - m) = omega arith in
    let at : a + (m - a) ≡ m = omega arith in
    ap (λ (n : ℕ). take n (drop a xs)) e ∙ take-add (m - a) (b - m) (drop a xs)
    ∙ ap (λ (l : List ℕ). slice_range xs a m ++ take (b - m) l) (drop-drop (m - a) a xs ∙ ap (λ (n : ℕ). drop n xs) at)

pub piece-split : (text : List ℕ) (a m b : ℕ) → IsUtf8 text → IsCharBoundary text a → IsCharBoundary text m → a ≤ m → m ≤ b → piece text a b ≡ piece text a m ++ piece text m b
piece-split text a m b u p q h k = ap chars (range_split text a m b h k) ∙ chars-append (slice_range text a m) (slice_range text m b) (IsUtf8-between text a m u h p q)

one_ascii : (b : ℕ) → b < 128 → IsAscii (b ∷ [])
one_ascii b h zero = h
one_ascii b h (suc i) = omega arith

pub piece-byte : (text : List ℕ) (at : ℕ) → at < length text → get_or text at 0 < 128 → piece text at (at + 1) ≡ get_or text at 0 ∷ []
piece-byte text at h a =
    let one : at + 1 - at ≡ 1 = omega arith in
    ap chars (ap (λ (n : ℕ). take n (drop at text)) one ∙ ap (take 1) (drop-cons text at 0 h))
    ∙ chars-IsAscii (get_or text at 0 ∷ []) (one_ascii (get_or text at 0) a)

pub piece-none : (text : List ℕ) (a : ℕ) → piece text a a ≡ []
piece-none text a =
    let none : a - a ≡ 0 = omega arith in
    ap chars (ap (λ (n : ℕ). take n (drop a text)) none) ∙ chars-nil

-- one more character behind a piece, and one before it
pub piece-push : (text : List ℕ) (a b c : ℕ) → IsUtf8 text → IsCharBoundary text a → IsCharBoundary text b → a ≤ b → piece text b (b + 1) ≡ c ∷ [] → piece text a (b + 1) ≡ piece text a b ++ c ∷ []
piece-push text a b c u p q h e = piece-split text a b (b + 1) u p q h (omega arith) ∙ ap (λ (l : List ℕ). piece text a b ++ l) e

pub piece-cons : (text : List ℕ) (a b c : ℕ) → IsUtf8 text → IsCharBoundary text a → IsCharBoundary text (a + 1) → a + 1 ≤ b → piece text a (a + 1) ≡ c ∷ [] → piece text a b ≡ c ∷ piece text (a + 1) b
piece-cons text a b c u p q h e = piece-split text a (a + 1) b u p q (omega arith) h ∙ ap (λ (l : List ℕ). l ++ piece text (a + 1) b) e

-- ---- names

pub all_of-append : (p : Part) (xs ys : List ℕ) → all_of p xs ≡ true → all_of p ys ≡ true → all_of p (xs ++ ys) ≡ true
all_of-append p [] ys h k = k
all_of-append p (x ∷ xs) ys h k = let a = and_parts (is_of p x) (all_of p xs) h in rw a.0 (all_of-append p xs ys a.1 k)

pub all_of-one : (p : Part) (c : ℕ) → is_of p c ≡ true → all_of p (c ∷ []) ≡ true
all_of-one p c h = rw h refl

pub all_of-cons : (p : Part) (c : ℕ) (cs : List ℕ) → is_of p c ≡ true → all_of p cs ≡ true → all_of p (c ∷ cs) ≡ true
all_of-cons p c cs h k = rw h k

pub name_row : (k : Class) (tag : PartialTag) (c : ℕ) → in_name k ≡ true → name_char c ≡ c → tag_name_row tag k c ≡ to (in_tag (TagName (record tag { name = tag.name ++ c ∷ [] })))
name_row Space tag c h e = absurd (true≢false (sym h))
name_row Slash tag c h e = absurd (true≢false (sym h))
name_row Greater tag c h e = absurd (true≢false (sym h))
name_row InputEnd tag c h e = absurd (true≢false (sym h))
name_row _ tag c h e = ap (λ (n : ℕ). to (in_tag (TagName (record tag { name = tag.name ++ n ∷ [] })))) e

-- ---- rows in a row

-- a row that goes to a state and makes nothing
pub feed-to : (es : Entities) (foreign : Bool) (s t : TokState) (c : ℕ) (cs : List ℕ) → row es foreign s (class_of c) c ≡ to t → feed es foreign s (c ∷ cs) ≡ feed es foreign t cs
unfolding feed
feed-to es foreign s t c cs e = ap (λ (m : Reached). after_tokens m.tokens (feed es foreign m.state cs)) (reading-emit es foreign s t [] (class_of c) c e)

-- a row that reads the character again in a state that is done with it
pub feed-again : (es : Entities) (foreign : Bool) (s t : TokState) (c : ℕ) (cs : List ℕ) → row es foreign s (class_of c) c ≡ again t → (row es foreign t (class_of c) c).again ≡ false → feed es foreign s (c ∷ cs) ≡ feed es foreign t (c ∷ cs)
unfolding feed
feed-again es foreign s t c cs e d =
    let k = class_of c in
    let same : reading es foreign s k c ≡ reading es foreign t k c =
    settle-again es foreign readings s k c (omega arith) (ap (λ (r : Step). r.again) e)
    ∙ ap (λ (r : Step). after_tokens r.tokens (settle es foreign 4 r.state k c)) e
    ∙ settle-done es foreign 4 t k c (omega arith) d
    ∙ sym (settle-done es foreign readings t k c (omega arith) d) in
    ap (λ (m : Reached). after_tokens m.tokens (feed es foreign m.state cs)) same

-- a name
pub feed-name : (es : Entities) (foreign : Bool) (cs rest : List ℕ) (tag : PartialTag) → all_of part.TagName cs ≡ true → feed es foreign (in_tag (TagName tag)) (cs ++ rest) ≡ feed es foreign (in_tag (TagName (record tag { name = tag.name ++ cs }))) rest
feed-name es foreign [] rest tag h = ap (λ (n : List ℕ). feed es foreign (in_tag (TagName (record tag { name = n }))) rest) (sym (append-nil tag.name))
feed-name es foreign (c ∷ cs) rest tag h =
    let p = and_parts (is_of part.TagName c) (all_of part.TagName cs) h in
    let q = and_parts (in_name (class_of c)) (name_char c == c) p.0 in
    let longer = record tag { name = tag.name ++ c ∷ [] } in
    feed-to es foreign (in_tag (TagName tag)) (in_tag (TagName longer)) c (cs ++ rest) (name_row (class_of c) tag c q.0 ((Decides-eqb (name_char c) c).0 q.1))
    ∙ feed-name es foreign cs rest longer p.1
    ∙ ap (λ (n : List ℕ). feed es foreign (in_tag (TagName (record tag { name = n }))) rest) (append_assoc tag.name (c ∷ []) cs)

-- ---- what stands before the name

alpha : (k : Class) → is_alpha k ≡ true → k ≡ Alpha
alpha Alpha h = refl
alpha _ h = absurd (true≢false (sym h))

start-begins : (es : Entities) (foreign : Bool) (rest : List ℕ) → begins_name rest ≡ true → feed es foreign (in_tag TagOpen) rest ≡ feed es foreign (in_tag (TagName (new_tag kind.Start []))) rest
start-begins es foreign [] h = absurd (true≢false (sym h))
start-begins es foreign (c ∷ cs) h =
    let a = alpha (class_of c) h in
    feed-again es foreign (in_tag TagOpen) (in_tag (TagName (new_tag kind.Start []))) c cs (ap (λ (k : Class). tag_open_row k c) a) (ap (λ (k : Class). (tag_name_row (new_tag kind.Start []) k c).again) a)

end-begins : (es : Entities) (foreign : Bool) (rest : List ℕ) → begins_name rest ≡ true → feed es foreign (in_tag EndTagOpen) rest ≡ feed es foreign (in_tag (TagName (new_tag kind.End []))) rest
end-begins es foreign [] h = absurd (true≢false (sym h))
end-begins es foreign (c ∷ cs) h =
    let a = alpha (class_of c) h in
    feed-again es foreign (in_tag EndTagOpen) (in_tag (TagName (new_tag kind.End []))) c cs (ap (λ (k : Class). end_tag_open_row k c) a) (ap (λ (k : Class). (tag_name_row (new_tag kind.End []) k c).again) a)

pub opens-start : Opens (60 ∷ []) kind.Start
opens-start es foreign rest h = feed-to es foreign data_state (in_tag TagOpen) 60 rest refl ∙ start-begins es foreign rest h

pub opens-end : Opens (60 ∷ 47 ∷ []) kind.End
opens-end es foreign rest h =
    feed-to es foreign data_state (in_tag TagOpen) 60 (47 ∷ rest) refl
    ∙ feed-to es foreign (in_tag TagOpen) (in_tag EndTagOpen) 47 rest refl
    ∙ end-begins es foreign rest h

pub Opens-same : {xs ys : List ℕ} (k : TagKind) → xs ≡ ys → Opens ys k → Opens xs k
Opens-same k e o es foreign rest h = ap (λ (l : List ℕ). feed es foreign data_state (l ++ rest)) e ∙ o es foreign rest h

-- ---- attributes

pub attribute_row : (k : Class) (tag : PartialTag) (n : List ℕ) (c : ℕ) → in_attribute_name k ≡ true → name_char c ≡ c → attribute_name_row tag n k c ≡ to (in_tag (AttributeName tag (n ++ c ∷ [])))
attribute_row Space tag n c h e = absurd (true≢false (sym h))
attribute_row Slash tag n c h e = absurd (true≢false (sym h))
attribute_row Greater tag n c h e = absurd (true≢false (sym h))
attribute_row InputEnd tag n c h e = absurd (true≢false (sym h))
attribute_row Equals tag n c h e = absurd (true≢false (sym h))
attribute_row _ tag n c h e = ap (λ (x : ℕ). to (in_tag (AttributeName tag (n ++ x ∷ [])))) e

before_row : (k : Class) (tag : PartialTag) (c : ℕ) → in_attribute_name k ≡ true → before_attribute_name_row tag k c ≡ again (in_tag (AttributeName tag []))
before_row Space tag c h = absurd (true≢false (sym h))
before_row Slash tag c h = absurd (true≢false (sym h))
before_row Equals tag c h = absurd (true≢false (sym h))
before_row Greater tag c h = absurd (true≢false (sym h))
before_row InputEnd tag c h = absurd (true≢false (sym h))
before_row _ tag c h = refl

name_goes_on : (k : Class) → in_attribute_name k ≡ true → goes_on behind.Space k ≡ true
name_goes_on Space h = absurd (true≢false (sym h))
name_goes_on Slash h = absurd (true≢false (sym h))
name_goes_on Equals h = absurd (true≢false (sym h))
name_goes_on Greater h = absurd (true≢false (sym h))
name_goes_on InputEnd h = absurd (true≢false (sym h))
name_goes_on _ h = refl

pub value_row : (q : Quote) (k : Class) (tag : PartialTag) (a : Attribute) (c : ℕ) → in_quoted q k ≡ true → shown c ≡ c → quoted_row tag (Some a) q k c ≡ to (in_tag (AttributeValueQuoted tag (Some (record a { value = a.value ++ c ∷ [] })) q))
value_row quote.Double DoubleQuote tag a c h e = absurd (true≢false (sym h))
value_row quote.Double Ampersand tag a c h e = absurd (true≢false (sym h))
value_row quote.Double InputEnd tag a c h e = absurd (true≢false (sym h))
value_row quote.Double _ tag a c h e = ap (λ (x : ℕ). to (in_tag (AttributeValueQuoted tag (Some (record a { value = a.value ++ x ∷ [] })) quote.Double))) e
value_row quote.Single SingleQuote tag a c h e = absurd (true≢false (sym h))
value_row quote.Single Ampersand tag a c h e = absurd (true≢false (sym h))
value_row quote.Single InputEnd tag a c h e = absurd (true≢false (sym h))
value_row quote.Single _ tag a c h e = ap (λ (x : ℕ). to (in_tag (AttributeValueQuoted tag (Some (record a { value = a.value ++ x ∷ [] })) quote.Single))) e

pub unquoted_value_row : (k : Class) (tag : PartialTag) (a : Attribute) (c : ℕ) → in_unquoted k ≡ true → shown c ≡ c → unquoted_row tag (Some a) k c ≡ to (in_tag (AttributeValueUnquoted tag (Some (record a { value = a.value ++ c ∷ [] }))))
unquoted_value_row Space tag a c h e = absurd (true≢false (sym h))
unquoted_value_row DoubleQuote tag a c h e = absurd (true≢false (sym h))
unquoted_value_row SingleQuote tag a c h e = absurd (true≢false (sym h))
unquoted_value_row Ampersand tag a c h e = absurd (true≢false (sym h))
unquoted_value_row Greater tag a c h e = absurd (true≢false (sym h))
unquoted_value_row InputEnd tag a c h e = absurd (true≢false (sym h))
unquoted_value_row _ tag a c h e = ap (λ (x : ℕ). to (in_tag (AttributeValueUnquoted tag (Some (record a { value = a.value ++ x ∷ [] }))))) e

before_unquoted_row : (k : Class) (tag : PartialTag) (n : List ℕ) (c : ℕ) → in_unquoted k ≡ true → before_attribute_value_row tag (Some n) k c ≡ again (in_tag (AttributeValueUnquoted tag (Some (record { name = n; value = [] }))))
before_unquoted_row Space tag n c h = absurd (true≢false (sym h))
before_unquoted_row DoubleQuote tag n c h = absurd (true≢false (sym h))
before_unquoted_row SingleQuote tag n c h = absurd (true≢false (sym h))
before_unquoted_row Ampersand tag n c h = absurd (true≢false (sym h))
before_unquoted_row Greater tag n c h = absurd (true≢false (sym h))
before_unquoted_row InputEnd tag n c h = absurd (true≢false (sym h))
before_unquoted_row _ tag n c h = refl

space : (k : Class) → is_space k ≡ true → k ≡ Space
space Space h = refl
space _ h = absurd (true≢false (sym h))

name_at_once : (es : Entities) (foreign : Bool) (tag : PartialTag) (k : Class) (c : ℕ) → goes_on behind.Nothing k ≡ true → reading es foreign (in_tag (TagName tag)) k c ≡ reading es foreign (in_tag (BeforeAttributeName tag)) k c
unfolding settle
name_at_once es foreign tag Slash c h = refl
name_at_once es foreign tag Greater c h = refl
name_at_once es foreign tag _ c h = absurd (true≢false (sym h))

quoted_at_once : (es : Entities) (foreign : Bool) (tag : PartialTag) (k : Class) (c : ℕ) → goes_on behind.Nothing k ≡ true → reading es foreign (in_tag (AfterAttributeValueQuoted tag)) k c ≡ reading es foreign (in_tag (BeforeAttributeName tag)) k c
unfolding settle
quoted_at_once es foreign tag Slash c h = refl
quoted_at_once es foreign tag Greater c h = refl
quoted_at_once es foreign tag _ c h = absurd (true≢false (sym h))

unquoted_at_once : (es : Entities) (foreign : Bool) (tag : PartialTag) (a : Attribute) (k : Class) (c : ℕ) → goes_on behind.Value k ≡ true → reading es foreign (in_tag (AttributeValueUnquoted tag (Some a))) k c ≡ reading es foreign (in_tag (BeforeAttributeName (record tag { attributes = tag.attributes ++ a ∷ [] }))) k c
unfolding settle
unquoted_at_once es foreign tag a Greater c h = refl
unquoted_at_once es foreign tag a Space c h = refl
unquoted_at_once es foreign tag a _ c h = absurd (true≢false (sym h))

feed-gap : (es : Entities) (foreign : Bool) (cs rest : List ℕ) (tag : PartialTag) → all_of part.Gap cs ≡ true → feed es foreign (in_tag (BeforeAttributeName tag)) (cs ++ rest) ≡ feed es foreign (in_tag (BeforeAttributeName tag)) rest
feed-gap es foreign [] rest tag h = refl
feed-gap es foreign (c ∷ cs) rest tag h =
    let p = and_parts (is_of part.Gap c) (all_of part.Gap cs) h in
    let b = in_tag (BeforeAttributeName tag) in
    feed-to es foreign b b c (cs ++ rest) (ap (λ (k : Class). before_attribute_name_row tag k c) (space (class_of c) p.0)) ∙ feed-gap es foreign cs rest tag p.1

-- a state in which white space, the end and a slash do what they do before an attribute
feed-gap_ends : (es : Entities) (foreign : Bool) (s : TokState) (tag : PartialTag) (unquoted : Bool) (b : Behind) (gap rest : List ℕ) →
    ((c : ℕ) (x : List ℕ) → class_of c ≡ Space → feed es foreign s (c ∷ x) ≡ feed es foreign (in_tag (BeforeAttributeName tag)) x) →
    ((c : ℕ) (x : List ℕ) → goes_on (bare unquoted) (class_of c) ≡ true → feed es foreign s (c ∷ x) ≡ feed es foreign (in_tag (BeforeAttributeName tag)) (c ∷ x)) →
    is_gap unquoted b gap ≡ true → begins_part b rest ≡ true → feed es foreign s (gap ++ rest) ≡ feed es foreign (in_tag (BeforeAttributeName tag)) rest
feed-gap_ends es foreign s tag unquoted behind.Space [] rest f g h e = absurd (true≢false (sym h))
feed-gap_ends es foreign s tag unquoted behind.Space (c ∷ cs) rest f g h e =
    let p = and_parts (is_of part.Gap c) (all_of part.Gap cs) h in
    f c (cs ++ rest) (space (class_of c) p.0) ∙ feed-gap es foreign cs rest tag p.1
feed-gap_ends es foreign s tag unquoted b [] [] f g h e = absurd (true≢false (sym e))
feed-gap_ends es foreign s tag false behind.Nothing [] (c ∷ x) f g h e = g c x e
feed-gap_ends es foreign s tag true behind.Value [] (c ∷ x) f g h e = g c x e
feed-gap_ends es foreign s tag _ _ _ _ f g h e = absurd (true≢false (sym h))

feed-same : (es : Entities) (foreign : Bool) (s t : TokState) (c : ℕ) (x : List ℕ) → read es foreign s c ≡ read es foreign t c → feed es foreign s (c ∷ x) ≡ feed es foreign t (c ∷ x)
unfolding feed
feed-same es foreign s t c x e = ap (λ (m : Reached). after_tokens m.tokens (feed es foreign m.state x)) e

feed-behind_name : (es : Entities) (foreign : Bool) (tag : PartialTag) (b : Behind) (gap rest : List ℕ) → is_gap false b gap ≡ true → begins_part b rest ≡ true → feed es foreign (in_tag (TagName tag)) (gap ++ rest) ≡ feed es foreign (in_tag (BeforeAttributeName tag)) rest
feed-behind_name es foreign tag b gap rest =
    let s = in_tag (TagName tag) in
    let t = in_tag (BeforeAttributeName tag) in
    feed-gap_ends es foreign s tag false b gap rest
    (λ c x e. feed-to es foreign s t c x (ap (λ (k : Class). tag_name_row tag k c) e))
    (λ c x e. feed-same es foreign s t c x (name_at_once es foreign tag (class_of c) c e))

feed-behind_quote : (es : Entities) (foreign : Bool) (tag : PartialTag) (b : Behind) (gap rest : List ℕ) → is_gap false b gap ≡ true → begins_part b rest ≡ true → feed es foreign (in_tag (AfterAttributeValueQuoted tag)) (gap ++ rest) ≡ feed es foreign (in_tag (BeforeAttributeName tag)) rest
feed-behind_quote es foreign tag b gap rest =
    let s = in_tag (AfterAttributeValueQuoted tag) in
    let t = in_tag (BeforeAttributeName tag) in
    feed-gap_ends es foreign s tag false b gap rest
    (λ c x e. feed-to es foreign s t c x (ap (λ (k : Class). after_quoted_row tag k c) e))
    (λ c x e. feed-same es foreign s t c x (quoted_at_once es foreign tag (class_of c) c e))

feed-behind_value : (es : Entities) (foreign : Bool) (tag : PartialTag) (a : Attribute) (b : Behind) (gap rest : List ℕ) → is_gap true b gap ≡ true → begins_part b rest ≡ true →
    feed es foreign (in_tag (AttributeValueUnquoted tag (Some a))) (gap ++ rest) ≡ feed es foreign (in_tag (BeforeAttributeName (record tag { attributes = tag.attributes ++ a ∷ [] }))) rest
feed-behind_value es foreign tag a b gap rest =
    let full : PartialTag = record tag { attributes = tag.attributes ++ a ∷ [] } in
    let s = in_tag (AttributeValueUnquoted tag (Some a)) in
    let t = in_tag (BeforeAttributeName full) in
    feed-gap_ends es foreign s full true b gap rest
    (λ c x e. feed-to es foreign s t c x (ap (λ (k : Class). unquoted_row tag (Some a) k c) e))
    (λ c x e. feed-same es foreign s t c x (unquoted_at_once es foreign tag a (class_of c) c e))

feed-attribute_name : (es : Entities) (foreign : Bool) (cs rest n : List ℕ) (tag : PartialTag) → all_of part.AttributeName cs ≡ true → feed es foreign (in_tag (AttributeName tag n)) (cs ++ rest) ≡ feed es foreign (in_tag (AttributeName tag (n ++ cs))) rest
feed-attribute_name es foreign [] rest n tag h = ap (λ (x : List ℕ). feed es foreign (in_tag (AttributeName tag x)) rest) (sym (append-nil n))
feed-attribute_name es foreign (c ∷ cs) rest n tag h =
    let p = and_parts (is_of part.AttributeName c) (all_of part.AttributeName cs) h in
    let q = and_parts (in_attribute_name (class_of c)) (name_char c == c) p.0 in
    feed-to es foreign (in_tag (AttributeName tag n)) (in_tag (AttributeName tag (n ++ c ∷ []))) c (cs ++ rest) (attribute_row (class_of c) tag n c q.0 ((Decides-eqb (name_char c) c).0 q.1))
    ∙ feed-attribute_name es foreign cs rest (n ++ c ∷ []) tag p.1
    ∙ ap (λ (x : List ℕ). feed es foreign (in_tag (AttributeName tag x)) rest) (append_assoc n (c ∷ []) cs)

feed-named : (es : Entities) (foreign : Bool) (name rest : List ℕ) (tag : PartialTag) → begins_with part.AttributeName name ≡ true → all_of part.AttributeName name ≡ true → feed es foreign (in_tag (BeforeAttributeName tag)) (name ++ rest) ≡ feed es foreign (in_tag (AttributeName tag name)) rest
feed-named es foreign [] rest tag b h = absurd (true≢false (sym b))
feed-named es foreign (c ∷ cs) rest tag b h =
    let q = and_parts (in_attribute_name (class_of c)) (name_char c == c) b in
    feed-again es foreign (in_tag (BeforeAttributeName tag)) (in_tag (AttributeName tag [])) c (cs ++ rest) (before_row (class_of c) tag c q.0)
    (ap (λ (r : Step). r.again) (attribute_row (class_of c) tag [] c q.0 ((Decides-eqb (name_char c) c).0 q.1)))
    ∙ feed-attribute_name es foreign (c ∷ cs) rest [] tag h

feed-value : (es : Entities) (foreign : Bool) (q : Quote) (cs rest : List ℕ) (tag : PartialTag) (a : Attribute) → all_of (part.Quoted q) cs ≡ true →
    feed es foreign (in_tag (AttributeValueQuoted tag (Some a) q)) (cs ++ rest) ≡ feed es foreign (in_tag (AttributeValueQuoted tag (Some (record a { value = a.value ++ cs })) q)) rest
feed-value es foreign q [] rest tag a h = ap (λ (x : List ℕ). feed es foreign (in_tag (AttributeValueQuoted tag (Some (record a { value = x })) q)) rest) (sym (append-nil a.value))
feed-value es foreign q (c ∷ cs) rest tag a h =
    let p = and_parts (is_of (part.Quoted q) c) (all_of (part.Quoted q) cs) h in
    let r = and_parts (in_quoted q (class_of c)) (shown c == c) p.0 in
    let longer = record a { value = a.value ++ c ∷ [] } in
    feed-to es foreign (in_tag (AttributeValueQuoted tag (Some a) q)) (in_tag (AttributeValueQuoted tag (Some longer) q)) c (cs ++ rest) (value_row q (class_of c) tag a c r.0 ((Decides-eqb (shown c) c).0 r.1))
    ∙ feed-value es foreign q cs rest tag longer p.1
    ∙ ap (λ (x : List ℕ). feed es foreign (in_tag (AttributeValueQuoted tag (Some (record a { value = x })) q)) rest) (append_assoc a.value (c ∷ []) cs)

feed-unquoted : (es : Entities) (foreign : Bool) (cs rest : List ℕ) (tag : PartialTag) (a : Attribute) → all_of part.Unquoted cs ≡ true →
    feed es foreign (in_tag (AttributeValueUnquoted tag (Some a))) (cs ++ rest) ≡ feed es foreign (in_tag (AttributeValueUnquoted tag (Some (record a { value = a.value ++ cs })))) rest
feed-unquoted es foreign [] rest tag a h = ap (λ (x : List ℕ). feed es foreign (in_tag (AttributeValueUnquoted tag (Some (record a { value = x })))) rest) (sym (append-nil a.value))
feed-unquoted es foreign (c ∷ cs) rest tag a h =
    let p = and_parts (is_of part.Unquoted c) (all_of part.Unquoted cs) h in
    let r = and_parts (in_unquoted (class_of c)) (shown c == c) p.0 in
    let longer = record a { value = a.value ++ c ∷ [] } in
    feed-to es foreign (in_tag (AttributeValueUnquoted tag (Some a))) (in_tag (AttributeValueUnquoted tag (Some longer))) c (cs ++ rest) (unquoted_value_row (class_of c) tag a c r.0 ((Decides-eqb (shown c) c).0 r.1))
    ∙ feed-unquoted es foreign cs rest tag longer p.1
    ∙ ap (λ (x : List ℕ). feed es foreign (in_tag (AttributeValueUnquoted tag (Some (record a { value = x })))) rest) (append_assoc a.value (c ∷ []) cs)

-- the first character of such a value is read again
feed-before_unquoted : (es : Entities) (foreign : Bool) (c : ℕ) (rest : List ℕ) (tag : PartialTag) (n : List ℕ) → is_of part.Unquoted c ≡ true →
    feed es foreign (in_tag (BeforeAttributeValue tag (Some n))) (c ∷ rest) ≡ feed es foreign (in_tag (AttributeValueUnquoted tag (Some (record { name = n; value = [] })))) (c ∷ rest)
feed-before_unquoted es foreign c rest tag n h =
    let r = and_parts (in_unquoted (class_of c)) (shown c == c) h in
    let a : Attribute = record { name = n; value = [] } in
    feed-again es foreign (in_tag (BeforeAttributeValue tag (Some n))) (in_tag (AttributeValueUnquoted tag (Some a))) c rest (before_unquoted_row (class_of c) tag n c r.0)
    (ap (λ (r : Step). r.again) (unquoted_value_row (class_of c) tag a c r.0 ((Decides-eqb (shown c) c).0 r.1)))

-- a value's characters, some as they are and some by references

pub value_run : (es : Entities) (foreign : Bool) (o : Option Quote) (cs rest : List ℕ) (tag : PartialTag) (a : Attribute) → all_of (value_part o) cs ≡ true →
    feed es foreign (return_state (value_of o tag a)) (cs ++ rest) ≡ feed es foreign (return_state (value_of o tag (record a { value = a.value ++ cs }))) rest
value_run es foreign (Some q) cs rest tag a h = feed-value es foreign q cs rest tag a h
value_run es foreign None cs rest tag a h = feed-unquoted es foreign cs rest tag a h

pub Reads-run : (es : Entities) (o : Option Quote) (cs : List ℕ) → all_of (value_part o) cs ≡ true → Reads es o cs cs
Reads-run es o cs h foreign tag a c rest = value_run es foreign o cs (c ∷ rest) tag a h

reads_before : (es : Entities) (o : Option Quote) (cs value ys : List ℕ) → Reads es o cs value → (foreign : Bool) (tag : PartialTag) (a : Attribute) (c : ℕ) (rest : List ℕ) →
    feed es foreign (return_state (value_of o tag a)) (cs ++ (ys ++ c ∷ rest)) ≡ feed es foreign (return_state (value_of o tag (record a { value = a.value ++ value }))) (ys ++ c ∷ rest)
reads_before es o cs value [] r foreign tag a c rest = r foreign tag a c rest
reads_before es o cs value (y ∷ ys) r foreign tag a c rest = r foreign tag a y (ys ++ c ∷ rest)

pub Reads-reference : (es : Entities) (o : Option Quote) (cs us : List ℕ) → Means es cs us → Reads es o cs us
Reads-reference es (Some q) cs us m foreign tag a c rest = m foreign (back.AttributeValueQuoted tag (Some a) q) c rest
Reads-reference es None cs us m foreign tag a c rest = m foreign (back.AttributeValueUnquoted tag (Some a)) c rest

pub Reads-append : (es : Entities) (o : Option Quote) (cs value ds more : List ℕ) → Reads es o cs value → Reads es o ds more → Reads es o (cs ++ ds) (value ++ more)
Reads-append es o cs value ds more r t foreign tag a c rest =
    ap (feed es foreign (return_state (value_of o tag a))) (append_assoc cs ds (c ∷ rest))
    ∙ reads_before es o cs value ds r foreign tag a c rest
    ∙ t foreign tag (record a { value = a.value ++ value }) c rest
    ∙ ap (λ (v : List ℕ). feed es foreign (return_state (value_of o tag (record a { value = v }))) (c ∷ rest)) (append_assoc a.value value more)

pub Reads-same : {xs ys vs ws : List ℕ} (es : Entities) (o : Option Quote) → xs ≡ ys → vs ≡ ws → Reads es o ys ws → Reads es o xs vs
Reads-same {xs} {ys} {vs} {ws} es o e f r = subst (λ (l : List ℕ). Reads es o l vs) (sym e) (subst (λ (v : List ℕ). Reads es o ys v) (sym f) r)

quote_opens : (q : Quote) (tag : PartialTag) (n : List ℕ) → before_attribute_value_row tag (Some n) (class_of (quote_mark q)) (quote_mark q) ≡ to (in_tag (AttributeValueQuoted tag (Some (record { name = n; value = [] })) q))
quote_opens quote.Double tag n = refl
quote_opens quote.Single tag n = refl

quote_closes : (q : Quote) (tag : PartialTag) (a : Attribute) → quoted_row tag (Some a) q (class_of (quote_mark q)) (quote_mark q) ≡ to (in_tag (AfterAttributeValueQuoted (record tag { attributes = tag.attributes ++ a ∷ [] })))
quote_closes quote.Double tag a = refl
quote_closes quote.Single tag a = refl

-- `=` behind an attribute's name that is new
feed-equals : (es : Entities) (foreign : Bool) (tag : PartialTag) (name rest : List ℕ) → has_name name tag.attributes ≡ false → feed es foreign (in_tag (AttributeName tag name)) (61 ∷ rest) ≡ feed es foreign (in_tag (BeforeAttributeValue tag (Some name))) rest
feed-equals es foreign tag name rest fresh =
    feed-to es foreign (in_tag (AttributeName tag name)) (in_tag (BeforeAttributeValue tag (Some name))) 61 rest (ap (λ (h : Bool). to (in_tag (BeforeAttributeValue tag (if h then None else Some name)))) fresh)

pub quoted-value : (es : Entities) (q : Quote) (b : Behind) (cs value gap : List ℕ) → Reads es (Some q) cs value → is_gap false b gap ≡ true →
    HasValue es b (61 ∷ (quote_mark q ∷ (cs ++ (quote_mark q ∷ gap)))) value
quoted-value es q b cs value gap v g foreign tag name rest fresh ends =
    let m = quote_mark q in
    let a : Attribute = record { name = name; value = value } in
    let full : PartialTag = record tag { attributes = tag.attributes ++ a ∷ [] } in
    ap (λ (l : List ℕ). feed es foreign (in_tag (AttributeName tag name)) (61 ∷ (m ∷ l))) (append_assoc cs (m ∷ gap) rest)
    ∙ feed-equals es foreign tag name (m ∷ (cs ++ (m ∷ (gap ++ rest)))) fresh
    ∙ feed-to es foreign (in_tag (BeforeAttributeValue tag (Some name))) (in_tag (AttributeValueQuoted tag (Some (record { name = name; value = [] })) q)) m (cs ++ (m ∷ (gap ++ rest))) (quote_opens q tag name)
    ∙ v foreign tag (record { name = name; value = [] }) m (gap ++ rest)
    ∙ feed-to es foreign (in_tag (AttributeValueQuoted tag (Some a) q)) (in_tag (AfterAttributeValueQuoted full)) m (gap ++ rest) (quote_closes q tag a)
    ∙ feed-behind_quote es foreign full b gap rest g ends

value_ends : (es : Entities) (foreign : Bool) (b : Behind) (cs value gap rest : List ℕ) (tag : PartialTag) (a : Attribute) → Reads es None cs value → begins_part b rest ≡ true →
    feed es foreign (in_tag (AttributeValueUnquoted tag (Some a))) (cs ++ (gap ++ rest)) ≡ feed es foreign (in_tag (AttributeValueUnquoted tag (Some (record a { value = a.value ++ value })))) (gap ++ rest)
value_ends es foreign b cs value [] [] tag a v e = absurd (true≢false (sym e))
value_ends es foreign b cs value [] (c ∷ x) tag a v e = v foreign tag a c x
value_ends es foreign b cs value (c ∷ x) rest tag a v e = v foreign tag a c (x ++ rest)

pub unquoted-value : (es : Entities) (b : Behind) (cs value gap : List ℕ) → begins_with part.Unquoted cs ≡ true → Reads es None cs value → is_gap true b gap ≡ true →
    HasValue es b (61 ∷ (cs ++ gap)) value
unquoted-value es b [] value gap begins v g foreign tag name rest fresh ends = absurd (true≢false (sym begins))
unquoted-value es b (c ∷ cs) value gap begins v g foreign tag name rest fresh ends =
    ap (λ (l : List ℕ). feed es foreign (in_tag (AttributeName tag name)) (61 ∷ l)) (append_assoc (c ∷ cs) gap rest)
    ∙ feed-equals es foreign tag name (c ∷ (cs ++ (gap ++ rest))) fresh
    ∙ feed-before_unquoted es foreign c (cs ++ (gap ++ rest)) tag name begins
    ∙ value_ends es foreign b (c ∷ cs) value gap rest tag (record { name = name; value = [] }) v ends
    ∙ feed-behind_value es foreign tag (record { name = name; value = value }) b gap rest g ends

-- an attribute with no value

after_at_once : (es : Entities) (foreign : Bool) (tag : PartialTag) (n : List ℕ) (k : Class) (c : ℕ) → goes_on behind.Space k ≡ true → reading es foreign (in_tag (AfterAttributeName tag (Some n))) k c ≡ reading es foreign (in_tag (BeforeAttributeName (record tag { attributes = tag.attributes ++ record { name = n; value = [] } ∷ [] }))) k c
unfolding settle
after_at_once es foreign tag n Space c h = absurd (true≢false (sym h))
after_at_once es foreign tag n Equals c h = absurd (true≢false (sym h))
after_at_once es foreign tag n InputEnd c h = absurd (true≢false (sym h))
after_at_once es foreign tag n _ c h = refl

bare_at_once : (es : Entities) (foreign : Bool) (tag : PartialTag) (n : List ℕ) (k : Class) (c : ℕ) → has_name n tag.attributes ≡ false → goes_on behind.Nothing k ≡ true → reading es foreign (in_tag (AttributeName tag n)) k c ≡ reading es foreign (in_tag (BeforeAttributeName (record tag { attributes = tag.attributes ++ record { name = n; value = [] } ∷ [] }))) k c
unfolding settle
bare_at_once es foreign tag n Slash c f h = rw f refl
bare_at_once es foreign tag n Greater c f h = rw f refl
bare_at_once es foreign tag n _ c f h = absurd (true≢false (sym h))

bare_space : (es : Entities) (foreign : Bool) (tag : PartialTag) (n : List ℕ) (c : ℕ) → has_name n tag.attributes ≡ false → reading es foreign (in_tag (AttributeName tag n)) Space c ≡ reading es foreign (in_tag (AfterAttributeName tag (Some n))) Space c
unfolding settle
bare_space es foreign tag n c f = rw f refl

feed-after_gap : (es : Entities) (foreign : Bool) (tag : PartialTag) (n cs rest : List ℕ) → all_of part.Gap cs ≡ true → begins_part behind.Space rest ≡ true →
    feed es foreign (in_tag (AfterAttributeName tag (Some n))) (cs ++ rest) ≡ feed es foreign (in_tag (BeforeAttributeName (record tag { attributes = tag.attributes ++ record { name = n; value = [] } ∷ [] }))) rest
feed-after_gap es foreign tag n [] [] h b = absurd (true≢false (sym b))
feed-after_gap es foreign tag n [] (c ∷ x) h b =
    feed-same es foreign (in_tag (AfterAttributeName tag (Some n))) (in_tag (BeforeAttributeName (record tag { attributes = tag.attributes ++ record { name = n; value = [] } ∷ [] }))) c x (after_at_once es foreign tag n (class_of c) c b)
feed-after_gap es foreign tag n (c ∷ cs) rest h b =
    let p = and_parts (is_of part.Gap c) (all_of part.Gap cs) h in
    let s = in_tag (AfterAttributeName tag (Some n)) in
    feed-to es foreign s s c (cs ++ rest) (ap (λ (k : Class). after_attribute_name_row tag (Some n) k c) (space (class_of c) p.0)) ∙ feed-after_gap es foreign tag n cs rest p.1 b

pub no-value : (es : Entities) (b : Behind) (gap : List ℕ) → is_gap false b gap ≡ true → HasValue es b gap []
no-value es behind.Space [] g foreign tag n rest f e = absurd (true≢false (sym g))
no-value es behind.Space (c ∷ cs) g foreign tag n rest f e =
    let p = and_parts (is_of part.Gap c) (all_of part.Gap cs) g in
    let is = space (class_of c) p.0 in
    let s = in_tag (AttributeName tag n) in
    let t = in_tag (AfterAttributeName tag (Some n)) in
    feed-same es foreign s t c (cs ++ rest) (ap (λ (k : Class). reading es foreign s k c) is ∙ bare_space es foreign tag n c f ∙ ap (λ (k : Class). reading es foreign t k c) (sym is))
    ∙ feed-after_gap es foreign tag n (c ∷ cs) rest g e
no-value es b [] g foreign tag n [] f e = absurd (true≢false (sym e))
no-value es behind.Nothing [] g foreign tag n (c ∷ x) f e =
    feed-same es foreign (in_tag (AttributeName tag n)) (in_tag (BeforeAttributeName (record tag { attributes = tag.attributes ++ record { name = n; value = [] } ∷ [] }))) c x (bare_at_once es foreign tag n (class_of c) c f e)
no-value es _ _ g foreign tag n _ f e = absurd (true≢false (sym g))

pub begins_with-append : (p : Part) (xs ys : List ℕ) → begins_with p xs ≡ true → begins_with p (xs ++ ys) ≡ true
begins_with-append p [] ys h = absurd (true≢false (sym h))
begins_with-append p (x ∷ xs) ys h = h

-- a name and then its value
pub named-gives : (es : Entities) (b : Behind) (name cs value : List ℕ) → begins_with part.AttributeName name ≡ true → all_of part.AttributeName name ≡ true → HasValue es b cs value → Gives es b (name ++ cs) (record { name = name; value = value })
named-gives es b name cs value begins n v foreign tag rest fresh ends =
    ap (feed es foreign (in_tag (BeforeAttributeName tag))) (append_assoc name cs rest)
    ∙ feed-named es foreign name (cs ++ rest) tag begins n
    ∙ v foreign tag name rest fresh ends

pub HasValue-same : {xs ys vs ws : List ℕ} (es : Entities) (b : Behind) → xs ≡ ys → vs ≡ ws → HasValue es b ys ws → HasValue es b xs vs
HasValue-same {xs} {ys} {vs} {ws} es b e f g = subst (λ (l : List ℕ). HasValue es b l vs) (sym e) (subst (λ (v : List ℕ). HasValue es b ys v) (sym f) g)

pub Gives-same : {xs ys : List ℕ} {m n : Attribute} (es : Entities) (b : Behind) → xs ≡ ys → m ≡ n → Gives es b ys n → Gives es b xs m
Gives-same {xs} {ys} {m} {n} es b e f g = subst (λ (l : List ℕ). Gives es b l m) (sym e) (subst (λ (a : Attribute). Gives es b ys a) (sym f) g)

-- ---- the tag so far

pub name-leads : (es : Entities) (front name gap : List ℕ) (k : TagKind) (b : Behind) → Opens front k → begins_name name ≡ true → all_of part.TagName name ≡ true → is_gap false b gap ≡ true → Leads es b (front ++ (name ++ gap)) (new_tag k name)
name-leads es front [] gap k b o begins n g foreign rest ends = absurd (true≢false (sym begins))
name-leads es front (c ∷ cs) gap k b o begins n g foreign rest ends =
    let name = c ∷ cs in
    ap (feed es foreign data_state) (append_assoc front (name ++ gap) rest ∙ ap (λ (l : List ℕ). front ++ l) (append_assoc name gap rest))
    ∙ o es foreign (name ++ (gap ++ rest)) begins
    ∙ feed-name es foreign name (gap ++ rest) (new_tag k []) n
    ∙ feed-behind_name es foreign (new_tag k name) b gap rest g ends

begins_part-named : (xs rest : List ℕ) → begins_with part.AttributeName xs ≡ true → begins_part behind.Space (xs ++ rest) ≡ true
begins_part-named [] rest h = absurd (true≢false (sym h))
begins_part-named (c ∷ cs) rest h = name_goes_on (class_of c) (and_parts (in_attribute_name (class_of c)) (name_char c == c) h).0

pub Leads-more : (es : Entities) (cs xs : List ℕ) (tag : PartialTag) (a : Attribute) (b : Behind) → Leads es behind.Space cs tag → begins_with part.AttributeName xs ≡ true → has_name a.name tag.attributes ≡ false → Gives es b xs a → Leads es b (cs ++ xs) (record tag { attributes = tag.attributes ++ a ∷ [] })
Leads-more es cs xs tag a b l begins f g foreign rest ends =
    ap (feed es foreign data_state) (append_assoc cs xs rest) ∙ l foreign (xs ++ rest) (begins_part-named xs rest begins) ∙ g foreign tag rest f ends

pub Leads-as : {xs ys : List ℕ} {olds news : List Attribute} (es : Entities) (b : Behind) (k : TagKind) (name : List ℕ) → xs ≡ ys → olds ≡ news → Leads es b ys (record { kind = k; name = name; attributes = news }) → Leads es b xs (record { kind = k; name = name; attributes = olds })
Leads-as es b k name e f l foreign rest ends =
    ap (λ (x : List ℕ). feed es foreign data_state (x ++ rest)) e ∙ l foreign rest ends
    ∙ ap (λ (x : List Attribute). feed es foreign (in_tag (BeforeAttributeName (record { kind = k; name = name; attributes = x }))) rest) (sym f)

pub Leads-behind : (es : Entities) (b now : Behind) (cs : List ℕ) (tag : PartialTag) → b ≡ now → Leads es b cs tag → Leads es now cs tag
Leads-behind es b now cs tag e l = subst (λ (v : Behind). Leads es v cs tag) e l

-- ---- its end

feed-close : (es : Entities) (foreign : Bool) (tag : PartialTag) (closing : Bool) → feed es foreign (in_tag (BeforeAttributeName tag)) (close_text closing) ≡ record { tokens = tag_token tag.kind (finished closing tag) ∷ []; state = data_state }
unfolding feed settle
feed-close es foreign tag true = refl
feed-close es foreign tag false = refl

close_begins : (b : Behind) (closing : Bool) → may_close b closing ≡ true → begins_part b (close_text closing) ≡ true
close_begins behind.Value true h = absurd (true≢false (sym h))
close_begins behind.Space true h = refl
close_begins behind.Nothing true h = refl
close_begins b false h = refl

-- a character that may come next and makes no token
abbrev quiet : Behind → ℕ
quiet behind.Value = 32
quiet b = 47

quiet_begins : (b : Behind) → begins_part b (quiet b ∷ []) ≡ true
quiet_begins behind.Space = refl
quiet_begins behind.Nothing = refl
quiet_begins behind.Value = refl

quiet_feed : (es : Entities) (foreign : Bool) (b : Behind) (tag : PartialTag) → (feed es foreign (in_tag (BeforeAttributeName tag)) (quiet b ∷ [])).tokens ≡ []
unfolding feed settle
quiet_feed es foreign behind.Space tag = refl
quiet_feed es foreign behind.Nothing tag = refl
quiet_feed es foreign behind.Value tag = refl

-- the tag so far makes no token
leads-silent : (es : Entities) (foreign : Bool) (b : Behind) (cs : List ℕ) (tag : PartialTag) → Leads es b cs tag → (feed es foreign data_state cs).tokens ≡ []
leads-silent es foreign b cs tag l =
    onward-front es foreign (record { tokens = []; state = data_state }) cs (quiet b ∷ [])
    (ap (λ (m : Reached). m.tokens) (l foreign (quiet b ∷ []) (quiet_begins b)) ∙ quiet_feed es foreign b tag)

slash-silent : (es : Entities) (foreign : Bool) (b : Behind) (cs : List ℕ) (tag : PartialTag) → may_close b true ≡ true → Leads es b cs tag → (feed es foreign data_state (cs ++ 47 ∷ [])).tokens ≡ []
unfolding feed settle
slash-silent es foreign behind.Value cs tag h l = absurd (true≢false (sym h))
slash-silent es foreign behind.Space cs tag h l = ap (λ (m : Reached). m.tokens) (l foreign (47 ∷ []) refl)
slash-silent es foreign behind.Nothing cs tag h l = ap (λ (m : Reached). m.tokens) (l foreign (47 ∷ []) refl)

pub Leads-close : (es : Entities) (cs : List ℕ) (tag : PartialTag) (b : Behind) (closing : Bool) → may_close b closing ≡ true → Leads es b cs tag → MakesAlone es (cs ++ close_text closing) (tag_token tag.kind (finished closing tag))
Leads-close es cs tag b false may l = record {
  front = cs;
  last = 62;
  split = refl;
  silent = λ foreign. leads-silent es foreign b cs tag l;
  whole = λ foreign. l foreign (62 ∷ []) (close_begins b false may) ∙ feed-close es foreign tag false;
}
Leads-close es cs tag b true may l = record {
  front = cs ++ 47 ∷ [];
  last = 62;
  split = sym (append_assoc cs (47 ∷ []) (62 ∷ []));
  silent = λ foreign. slash-silent es foreign b cs tag may l;
  whole = λ foreign. l foreign (47 ∷ 62 ∷ []) (close_begins b true may) ∙ feed-close es foreign tag true;
}

pub MakesAlone-same : {xs ys : List ℕ} {t u : Token} (es : Entities) → xs ≡ ys → t ≡ u → MakesAlone es ys u → MakesAlone es xs t
MakesAlone-same es e f m = record {
  front = m.front;
  last = m.last;
  split = e ∙ m.split;
  silent = m.silent;
  whole = λ foreign. ap (feed es foreign data_state) e ∙ m.whole foreign ∙ ap (λ (v : Token). record { tokens = v ∷ []; state = data_state }) (sym f);
}

-- ---- no CR

cr-ascii : (c : ℕ) → (c == 13) ≡ true → c < 128
cr-ascii c h = grind (arith, nat_tests, h)

-- a character whose bytes have no CR is none
one_no_cr : (c : ℕ) → list_any (λ x. x == 13) (encode c) ≡ false → (c == 13) ≡ false
one_no_cr c h = by (c == 13) refl
  where
    by : (v : Bool) → (c == 13) ≡ v → (c == 13) ≡ false
    by false e = e
    by true e =
        let is : list_any (λ x. x == 13) (encode c) ≡ (true || false) = ap (list_any (λ x. x == 13)) (encode_ascii c (cr-ascii c e)) ∙ ap (λ v. v || false) e in
        absurd (cc)

or-first : (a b : Bool) → (a || b) ≡ false → a ≡ false
or-first false b e = refl
or-first true b e = e

or-second : (a b : Bool) → (a || b) ≡ false → b ≡ false
or-second false b e = e
or-second true b e = cc

none_has_cr : (cs : List ℕ) → list_any (λ x. x == 13) (encodes cs) ≡ false → has_cr cs ≡ false
none_has_cr [] h = refl
none_has_cr (c ∷ cs) h =
    let both : (list_any (λ x. x == 13) (encode c) || list_any (λ x. x == 13) (encodes cs)) ≡ false = sym (list_any-append (λ x. x == 13) (encode c) (encodes cs)) ∙ h in
    let first : (c == 13) ≡ false = one_no_cr c (or-first _ _ both) in
    rw first (none_has_cr cs (or-second _ _ both))

pub not-true : (b : Bool) → not b ≡ true → b ≡ false
not-true true h = sym h
not-true false h = refl

-- where no byte is a CR, no character is
pub no_cr-bytes : (bs : List ℕ) → IsUtf8 bs → list_any (λ x. x == 13) bs ≡ false → has_cr (chars bs) ≡ false
no_cr-bytes bs u h = none_has_cr (chars bs) (ap (list_any (λ x. x == 13)) (encodes-chars bs u) ∙ h)
