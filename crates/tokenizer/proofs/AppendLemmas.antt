-- States that only add characters to what they hold, or drop them.
use Rattle.std.proofs.Common.{◌≡◌, ℕ, Bool, true, false, true≢false, List, [], ◌∷◌, ◌++◌, refl, sym, ap, ◌∙◌, append-nil, append_assoc, ◌==◌, Result, Ok, Err, IfOk}
use Rattle.std.specs.Prelude.{Option, Some, None}
use Rattle.std.proofs.lemmas.Bool.{and_parts}
use Rattle.std.proofs.lemmas.Bool.Decides.{Decides-eqb}
use Rattle.html_types.specs.declared.attributes.Attribute.{Attribute}
use Rattle.html_types.specs.declared.class.Class.{Class}
use Rattle.html_types.specs.declared.class.Class.TheVariants.{Space, DoubleQuote, Ampersand, SingleQuote, Greater, InputEnd}
use Rattle.html_types.specs.declared.mark_state.CommentState.TheVariants.{Inside}
use Rattle.html_types.specs.declared.mark_state.DoctypeState.TheVariants.{Name, PublicIdentifier, SystemIdentifier, Bogus}
use Rattle.html_types.specs.declared.mark_state.MarkState.TheVariants.{BogusComment}
use Rattle.html_types.specs.declared.memory.NoMemory.{NoMemory}
use Rattle.html_types.specs.declared.state.TagState.TheVariants.{TagName, AttributeName, AttributeValueQuoted, AttributeValueUnquoted}
use Rattle.html_types.specs.declared.state.TokState.{TokState}
use Rattle.html_types.specs.declared.token.PartialTag.{PartialTag}
use Rattle.html_types.specs.declared.token.Quote.{Quote}
use Rattle.html_types.specs.declared.token.Quote.TheVariants as quote
use Rattle.standard.specs.Class.{class_of, name_char, shown}
use Rattle.standard.specs.CommentStates.{in_comment}
use Rattle.standard.specs.DoctypeStates.{in_doctype, doctype_name_row, public_identifier_row, system_identifier_row, bogus_doctype_row}
use Rattle.standard.specs.Entities.{Entities}
use Rattle.standard.specs.MarkStates.{bogus_comment_row}
use Rattle.standard.specs.Step.{in_tag, in_mark, to}
use Rattle.standard.specs.TagStates.{quoted_row, unquoted_row}
use Rattle.standard.specs.Tokenizer.{row, feed}
use Rattle.tokenizer.specs.declared.part.Part.{Part}
use Rattle.tokenizer.specs.declared.part.Part.TheVariants as part
use Rattle.tokenizer.specs.Runs.{LeadsTo, longer}
use Rattle.tokenizer.specs.Whole.{is_of, all_of, has_cr, in_name, in_attribute_name, in_quoted, in_unquoted, in_comment_text, in_bogus, in_doctype_name, in_identifier}
use Rattle.tokenizer.proofs.WholeLemmas.{feed-to, name_row, attribute_row, value_row, unquoted_value_row}
use Rattle.tokenizer.proofs.CommentLemmas.{inside_row}

-- ---- characters of a part, one by one

-- a state that holds a text and gets each of them
adds : (s : List ℕ → TokState) (p : Part) → ((es : Entities) (foreign : Bool) (held : List ℕ) (c : ℕ) → is_of p c ≡ true → row es foreign (s held) (class_of c) c ≡ to (s (held ++ c ∷ [])))
    → (cs held : List ℕ) → all_of p cs ≡ true → LeadsTo (s held) cs (s (held ++ cs))
unfolding feed
adds s p each [] held h es foreign = ap (λ (l : List ℕ). record { tokens = []; state = s l }) (sym (append-nil held))
adds s p each (c ∷ cs) held h es foreign =
    let q = and_parts (is_of p c) (all_of p cs) h in
    feed-to es foreign (s held) (s (held ++ c ∷ [])) c cs (each es foreign held c q.0)
    ∙ adds s p each cs (held ++ c ∷ []) q.1 es foreign
    ∙ ap (λ (l : List ℕ). record { tokens = []; state = s l }) (append_assoc held (c ∷ []) cs)

-- a state that drops them
drops : (s : TokState) (p : Part) → ((es : Entities) (foreign : Bool) (c : ℕ) → is_of p c ≡ true → row es foreign s (class_of c) c ≡ to s) → (cs : List ℕ) → all_of p cs ≡ true → LeadsTo s cs s
unfolding feed
drops s p each [] h es foreign = refl
drops s p each (c ∷ cs) h es foreign =
    let q = and_parts (is_of p c) (all_of p cs) h in
    feed-to es foreign s s c cs (each es foreign c q.0) ∙ drops s p each cs q.1 es foreign

pub stays-there : (s : TokState) (cs : List ℕ) → cs ≡ [] → LeadsTo s cs s
unfolding feed
stays-there s cs e es foreign = ap (feed es foreign s) e

LeadsTo-same : (s t u : TokState) (xs : List ℕ) → t ≡ u → LeadsTo s xs u → LeadsTo s xs t
LeadsTo-same s t u xs e l es foreign = l es foreign ∙ ap (λ (v : TokState). record { tokens = []; state = v }) (sym e)

pub no_cr-none : {cs : List ℕ} → cs ≡ [] → has_cr cs ≡ false
no_cr-none e = ap has_cr e

-- what a function came to that held `was`, of some type, and holds `now`
pub led : {A : Type 0} (s : TokState) (t : A → TokState) (more : A → List ℕ → A) (p : Part) (was now : A) (run : ℕ → List ℕ) (r : Result ℕ NoMemory)
    → ((cs : List ℕ) → all_of p cs ≡ true → LeadsTo s cs (t (more was cs)))
    → IfOk r (λ end. now ≡ more was (run end)) → IfOk r (λ end. all_of p (run end) ≡ true) → IfOk r (λ end. LeadsTo s (run end) (t now))
led s t more p was now run (Ok end) leads added all = LeadsTo-same s (t now) (t (more was (run end))) (run end) (ap t added) (leads (run end) all)
led s t more p was now run (Err e) leads added all = tt

same_name : (c : ℕ) → (name_char c == c) ≡ true → name_char c ≡ c
same_name c h = (Decides-eqb (name_char c) c).0 h

same_shown : (c : ℕ) → (shown c == c) ≡ true → shown c ≡ c
same_shown c h = (Decides-eqb (shown c) c).0 h

-- ---- tags

pub name-adds : (tag : PartialTag) (cs : List ℕ) → all_of part.TagName cs ≡ true → LeadsTo (in_tag (TagName tag)) cs (in_tag (TagName (record tag { name = tag.name ++ cs })))
name-adds tag cs h =
    adds (λ (n : List ℕ). in_tag (TagName (record tag { name = n }))) part.TagName
    (λ es foreign n c e. let q = and_parts (in_name (class_of c)) (name_char c == c) e in name_row (class_of c) (record tag { name = n }) c q.0 (same_name c q.1))
    cs tag.name h

pub attribute_name-adds : (tag : PartialTag) (name cs : List ℕ) → all_of part.AttributeName cs ≡ true → LeadsTo (in_tag (AttributeName tag name)) cs (in_tag (AttributeName tag (name ++ cs)))
attribute_name-adds tag name cs h =
    adds (λ (n : List ℕ). in_tag (AttributeName tag n)) part.AttributeName
    (λ es foreign n c e. let q = and_parts (in_attribute_name (class_of c)) (name_char c == c) e in attribute_row (class_of c) tag n c q.0 (same_name c q.1))
    cs name h

value-adds : (tag : PartialTag) (a : Attribute) (k : Quote) (cs : List ℕ) → all_of (part.Quoted k) cs ≡ true
    → LeadsTo (in_tag (AttributeValueQuoted tag (Some a) k)) cs (in_tag (AttributeValueQuoted tag (Some (record a { value = a.value ++ cs })) k))
value-adds tag a k cs h =
    adds (λ (v : List ℕ). in_tag (AttributeValueQuoted tag (Some (record a { value = v })) k)) (part.Quoted k)
    (λ es foreign v c e. let q = and_parts (in_quoted k (class_of c)) (shown c == c) e in value_row k (class_of c) tag (record a { value = v }) c q.0 (same_shown c q.1))
    cs a.value h

unquoted-adds : (tag : PartialTag) (a : Attribute) (cs : List ℕ) → all_of part.Unquoted cs ≡ true
    → LeadsTo (in_tag (AttributeValueUnquoted tag (Some a))) cs (in_tag (AttributeValueUnquoted tag (Some (record a { value = a.value ++ cs }))))
unquoted-adds tag a cs h =
    adds (λ (v : List ℕ). in_tag (AttributeValueUnquoted tag (Some (record a { value = v })))) part.Unquoted
    (λ es foreign v c e. let q = and_parts (in_unquoted (class_of c)) (shown c == c) e in unquoted_value_row (class_of c) tag (record a { value = v }) c q.0 (same_shown c q.1))
    cs a.value h

dropped_row : (k : Quote) (class : Class) (tag : PartialTag) (c : ℕ) → in_quoted k class ≡ true → quoted_row tag None k class c ≡ to (in_tag (AttributeValueQuoted tag None k))
dropped_row quote.Double DoubleQuote tag c h = absurd (true≢false (sym h))
dropped_row quote.Double Ampersand tag c h = absurd (true≢false (sym h))
dropped_row quote.Double InputEnd tag c h = absurd (true≢false (sym h))
dropped_row quote.Double _ tag c h = refl
dropped_row quote.Single SingleQuote tag c h = absurd (true≢false (sym h))
dropped_row quote.Single Ampersand tag c h = absurd (true≢false (sym h))
dropped_row quote.Single InputEnd tag c h = absurd (true≢false (sym h))
dropped_row quote.Single _ tag c h = refl

value-drops : (tag : PartialTag) (k : Quote) (cs : List ℕ) → all_of (part.Quoted k) cs ≡ true → LeadsTo (in_tag (AttributeValueQuoted tag None k)) cs (in_tag (AttributeValueQuoted tag None k))
value-drops tag k cs h =
    drops (in_tag (AttributeValueQuoted tag None k)) (part.Quoted k)
    (λ es foreign c e. dropped_row k (class_of c) tag c (and_parts (in_quoted k (class_of c)) (shown c == c) e).0) cs h

dropped_unquoted_row : (class : Class) (tag : PartialTag) (c : ℕ) → in_unquoted class ≡ true → unquoted_row tag None class c ≡ to (in_tag (AttributeValueUnquoted tag None))
dropped_unquoted_row Space tag c h = absurd (true≢false (sym h))
dropped_unquoted_row Ampersand tag c h = absurd (true≢false (sym h))
dropped_unquoted_row Greater tag c h = absurd (true≢false (sym h))
dropped_unquoted_row InputEnd tag c h = absurd (true≢false (sym h))
dropped_unquoted_row _ tag c h = refl

unquoted-drops : (tag : PartialTag) (cs : List ℕ) → all_of part.Unquoted cs ≡ true → LeadsTo (in_tag (AttributeValueUnquoted tag None)) cs (in_tag (AttributeValueUnquoted tag None))
unquoted-drops tag cs h =
    drops (in_tag (AttributeValueUnquoted tag None)) part.Unquoted
    (λ es foreign c e. dropped_unquoted_row (class_of c) tag c (and_parts (in_unquoted (class_of c)) (shown c == c) e).0) cs h

pub quoted-leads : (tag : PartialTag) (k : Quote) (held : Option Attribute) (cs : List ℕ) → all_of (part.Quoted k) cs ≡ true
    → LeadsTo (in_tag (AttributeValueQuoted tag held k)) cs (in_tag (AttributeValueQuoted tag (longer held cs) k))
quoted-leads tag k None cs h = value-drops tag k cs h
quoted-leads tag k (Some a) cs h = value-adds tag a k cs h

pub unquoted-leads : (tag : PartialTag) (held : Option Attribute) (cs : List ℕ) → all_of part.Unquoted cs ≡ true
    → LeadsTo (in_tag (AttributeValueUnquoted tag held)) cs (in_tag (AttributeValueUnquoted tag (longer held cs)))
unquoted-leads tag None cs h = unquoted-drops tag cs h
unquoted-leads tag (Some a) cs h = unquoted-adds tag a cs h

-- ---- comments

pub comment-adds : (held cs : List ℕ) → all_of part.Comment cs ≡ true → LeadsTo (in_comment (Inside held)) cs (in_comment (Inside (held ++ cs)))
comment-adds held cs h =
    adds (λ (t : List ℕ). in_comment (Inside t)) part.Comment
    (λ es foreign t c e. let q = and_parts (in_comment_text (class_of c)) (shown c == c) e in inside_row t (class_of c) c q.0 (same_shown c q.1))
    cs held h

bogus_row : (held : List ℕ) (k : Class) (c : ℕ) → in_bogus k ≡ true → shown c ≡ c → bogus_comment_row held k c ≡ to (in_mark (BogusComment (held ++ c ∷ [])))
bogus_row held Greater c h e = absurd (true≢false (sym h))
bogus_row held InputEnd c h e = absurd (true≢false (sym h))
bogus_row held _ c h e = ap (λ (x : ℕ). to (in_mark (BogusComment (held ++ x ∷ [])))) e

pub bogus-adds : (held cs : List ℕ) → all_of part.BogusComment cs ≡ true → LeadsTo (in_mark (BogusComment held)) cs (in_mark (BogusComment (held ++ cs)))
bogus-adds held cs h =
    adds (λ (t : List ℕ). in_mark (BogusComment t)) part.BogusComment
    (λ es foreign t c e. let q = and_parts (in_bogus (class_of c)) (shown c == c) e in bogus_row t (class_of c) c q.0 (same_shown c q.1))
    cs held h

-- ---- doctypes

doctype_row : (name : List ℕ) (k : Class) (c : ℕ) → in_doctype_name k ≡ true → name_char c ≡ c → doctype_name_row name k c ≡ to (in_doctype (Name (name ++ c ∷ [])))
doctype_row name Space c h e = absurd (true≢false (sym h))
doctype_row name Greater c h e = absurd (true≢false (sym h))
doctype_row name InputEnd c h e = absurd (true≢false (sym h))
doctype_row name _ c h e = ap (λ (x : ℕ). to (in_doctype (Name (name ++ x ∷ [])))) e

pub doctype-adds : (name cs : List ℕ) → all_of part.DoctypeName cs ≡ true → LeadsTo (in_doctype (Name name)) cs (in_doctype (Name (name ++ cs)))
doctype-adds name cs h =
    adds (λ (n : List ℕ). in_doctype (Name n)) part.DoctypeName
    (λ es foreign n c e. let q = and_parts (in_doctype_name (class_of c)) (name_char c == c) e in doctype_row n (class_of c) c q.0 (same_name c q.1))
    cs name h

public_row : (name : List ℕ) (q : Quote) (k : Class) (c : ℕ) → in_identifier q k ≡ true → public_identifier_row name q k c ≡ to (in_doctype (PublicIdentifier name q))
public_row name quote.Double DoubleQuote c h = absurd (true≢false (sym h))
public_row name quote.Double Greater c h = absurd (true≢false (sym h))
public_row name quote.Double InputEnd c h = absurd (true≢false (sym h))
public_row name quote.Double _ c h = refl
public_row name quote.Single SingleQuote c h = absurd (true≢false (sym h))
public_row name quote.Single Greater c h = absurd (true≢false (sym h))
public_row name quote.Single InputEnd c h = absurd (true≢false (sym h))
public_row name quote.Single _ c h = refl

pub public-drops : (name : List ℕ) (q : Quote) (cs : List ℕ) → all_of (part.Identifier q) cs ≡ true → LeadsTo (in_doctype (PublicIdentifier name q)) cs (in_doctype (PublicIdentifier name q))
public-drops name q cs h = drops (in_doctype (PublicIdentifier name q)) (part.Identifier q) (λ es foreign c e. public_row name q (class_of c) c e) cs h

system_row : (name : List ℕ) (q : Quote) (k : Class) (c : ℕ) → in_identifier q k ≡ true → system_identifier_row name q k c ≡ to (in_doctype (SystemIdentifier name q))
system_row name quote.Double DoubleQuote c h = absurd (true≢false (sym h))
system_row name quote.Double Greater c h = absurd (true≢false (sym h))
system_row name quote.Double InputEnd c h = absurd (true≢false (sym h))
system_row name quote.Double _ c h = refl
system_row name quote.Single SingleQuote c h = absurd (true≢false (sym h))
system_row name quote.Single Greater c h = absurd (true≢false (sym h))
system_row name quote.Single InputEnd c h = absurd (true≢false (sym h))
system_row name quote.Single _ c h = refl

pub system-drops : (name : List ℕ) (q : Quote) (cs : List ℕ) → all_of (part.Identifier q) cs ≡ true → LeadsTo (in_doctype (SystemIdentifier name q)) cs (in_doctype (SystemIdentifier name q))
system-drops name q cs h = drops (in_doctype (SystemIdentifier name q)) (part.Identifier q) (λ es foreign c e. system_row name q (class_of c) c e) cs h

bogus_dropped_row : (name : List ℕ) (quirks : Bool) (k : Class) (c : ℕ) → in_bogus k ≡ true → bogus_doctype_row name quirks k c ≡ to (in_doctype (Bogus name quirks))
bogus_dropped_row name quirks Greater c h = absurd (true≢false (sym h))
bogus_dropped_row name quirks InputEnd c h = absurd (true≢false (sym h))
bogus_dropped_row name quirks _ c h = refl

pub bogus_doctype-drops : (name : List ℕ) (quirks : Bool) (cs : List ℕ) → all_of part.BogusDoctype cs ≡ true → LeadsTo (in_doctype (Bogus name quirks)) cs (in_doctype (Bogus name quirks))
bogus_doctype-drops name quirks cs h = drops (in_doctype (Bogus name quirks)) part.BogusDoctype (λ es foreign c e. bogus_dropped_row name quirks (class_of c) c e) cs h
