-- A renaming under which no two ids become one loses nothing.
use Rattle.std.proofs.Common.{◌≡◌, true≢false, Bool, true, false, List, [], ◌∷◌, map, Option, Some, None, refl, sym, ◌∙◌, ap}
use Rattle.std.proofs.lemmas.Option.{none-some, same_Some}
use Rattle.std.specs.Prelude.{option_map}
use Rattle.html_types.specs.declared.operation.NodeId.{NodeId}
use Rattle.html_types.specs.declared.token.Tag.{Tag}
use Rattle.html_types.specs.declared.open.OpenElement.{OpenElement}
use Rattle.html_types.specs.declared.open.FormattingEntry.{FormattingEntry}
use Rattle.html_types.specs.declared.open.FormattingEntry.TheVariants.{Marker, Element}
use Rattle.standard.specs.Parser.{Parser}
use Rattle.rule_laws.specs.Naming.{rename_element, rename_format, rename_parser}
use Rattle.core_definitions.specs.declared.verdict.Verdict.{Verdict}
use Rattle.core_definitions.specs.declared.verdict.Verdict.TheVariants.{Keep, Rewind}
use Rattle.core_definitions.specs.Verdict.{IsVerdict}
use Rattle.core_definitions.specs.Settling.{is_empty}
use Rattle.core_laws.specs.Rebasing.{with_next}

abbrev first_or : {A : Type 0} → A → List A → A
first_or a [] = a
first_or a (x ∷ xs) = x

abbrev rest_of : {A : Type 0} → List A → List A
rest_of [] = []
rest_of (x ∷ xs) = xs

abbrev with_ids : List OpenElement → List FormattingEntry → Option NodeId → Option NodeId → NodeId → Parser → Parser
with_ids es fs h f n p = record p { open_state = record p.open_state { stack = es; formats = fs; head = h; form = f; next = n } }

abbrev is_marker : FormattingEntry → Bool
is_marker Marker = true
is_marker (Element id tag) = false

abbrev id_or : NodeId → FormattingEntry → NodeId
id_or i Marker = i
id_or i (Element id tag) = id

abbrev tag_or : Tag → FormattingEntry → Tag
tag_or t Marker = t
tag_or t (Element id tag) = tag

module _ (r : NodeId → NodeId) (one : (a b : NodeId) → r a ≡ r b → a ≡ b) where
  element-back : (x y : OpenElement) → rename_element r x ≡ rename_element r y → x ≡ y
  element-back x y e = ap (λ i. record x { id = i }) (one x.id y.id (ap (λ t. t.id) e)) ∙ ap (λ (t : OpenElement). record t { id = y.id }) e

  stack-back : (xs ys : List OpenElement) → map (rename_element r) xs ≡ map (rename_element r) ys → xs ≡ ys
  stack-back [] [] e = refl
  stack-back [] (y ∷ ys) e = absurd (true≢false (ap is_empty e))
  stack-back (x ∷ xs) [] e = absurd (true≢false (sym (ap is_empty e)))
  stack-back (x ∷ xs) (y ∷ ys) e =
      ap (λ z. z ∷ xs) (element-back x y (ap (first_or (rename_element r x)) e)) ∙ ap (λ zs. y ∷ zs) (stack-back xs ys (ap rest_of e))

  format-back : (x y : FormattingEntry) → rename_format r x ≡ rename_format r y → x ≡ y
  format-back Marker Marker e = refl
  format-back Marker (Element id tag) e = absurd (true≢false (ap is_marker e))
  format-back (Element id tag) Marker e = absurd (true≢false (sym (ap is_marker e)))
  format-back (Element i t) (Element j u) e = ap (λ k. Element k t) (one i j (ap (id_or (r i)) e)) ∙ ap (Element j) (ap (tag_or t) e)

  formats-back : (xs ys : List FormattingEntry) → map (rename_format r) xs ≡ map (rename_format r) ys → xs ≡ ys
  formats-back [] [] e = refl
  formats-back [] (y ∷ ys) e = absurd (true≢false (ap is_empty e))
  formats-back (x ∷ xs) [] e = absurd (true≢false (sym (ap is_empty e)))
  formats-back (x ∷ xs) (y ∷ ys) e =
      ap (λ z. z ∷ xs) (format-back x y (ap (first_or (rename_format r x)) e)) ∙ ap (λ zs. y ∷ zs) (formats-back xs ys (ap rest_of e))

  id-back : (a b : Option NodeId) → option_map r a ≡ option_map r b → a ≡ b
  id-back None None e = refl
  id-back None (Some b) e = absurd (none-some (r b) e)
  id-back (Some a) None e = absurd (none-some (r a) (sym e))
  id-back (Some a) (Some b) e = ap Some (one a b (same_Some (r a) (r b) e))

  pub parser-back : (p q : Parser) → rename_parser r p ≡ rename_parser r q → p ≡ q
  parser-back p q e =
      let stack : p.open_state.stack ≡ q.open_state.stack = stack-back p.open_state.stack q.open_state.stack (ap (λ (x : Parser). x.open_state.stack) e) in
      let formats : p.open_state.formats ≡ q.open_state.formats = formats-back p.open_state.formats q.open_state.formats (ap (λ (x : Parser). x.open_state.formats) e) in
      let head : p.open_state.head ≡ q.open_state.head = id-back p.open_state.head q.open_state.head (ap (λ (x : Parser). x.open_state.head) e) in
      let form : p.open_state.form ≡ q.open_state.form = id-back p.open_state.form q.open_state.form (ap (λ (x : Parser). x.open_state.form) e) in
      let next : p.open_state.next ≡ q.open_state.next = one p.open_state.next q.open_state.next (ap (λ (x : Parser). x.open_state.next) e) in
      ap (with_ids p.open_state.stack p.open_state.formats p.open_state.head p.open_state.form p.open_state.next) e
      ∙ (ap (λ s. with_ids s p.open_state.formats p.open_state.head p.open_state.form p.open_state.next q) stack
      ∙ (ap (λ s. with_ids q.open_state.stack s p.open_state.head p.open_state.form p.open_state.next q) formats
      ∙ (ap (λ s. with_ids q.open_state.stack q.open_state.formats s p.open_state.form p.open_state.next q) head
      ∙ (ap (λ s. with_ids q.open_state.stack q.open_state.formats q.open_state.head s p.open_state.next q) form
      ∙ ap (λ s. with_ids q.open_state.stack q.open_state.formats q.open_state.head q.open_state.form s q) next))))

  -- the states with ids renamed are the same where the others are
  pub verdict-back : (held p q : Parser) (c : Verdict) → held ≡ with_next held.open_state.next (rename_parser r p) → IsVerdict held (rename_parser r q) c → IsVerdict p q c
  verdict-back held p q Keep h e = parser-back (with_next q.open_state.next p) q (ap (with_next (r q.open_state.next)) (sym h) ∙ e)
  verdict-back held p q Rewind h e = λ same. e (ap (with_next (r q.open_state.next)) h ∙ ap (rename_parser r) same)
