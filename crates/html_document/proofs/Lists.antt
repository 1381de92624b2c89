-- How the flat lists of a tree grow.
use Rattle.std.proofs.Common.{◌≡◌, ◌<◌, ◌≤◌, ◌+◌, ◌⊎◌, inl, inr, ℕ, suc, List, [], ◌∷◌, ◌++◌, length, take, drop, refl, sym, ◌∙◌, ap, subst, arith, append-nil, append_assoc, length-append, length-drop, flat_map, encode_utf8_all}
use Rattle.std.specs.Prelude.{Result, IfOk, Ok, Err}
use Rattle.std.proofs.Math.Seq.{take-suc, take-length, drop-append_seam, get_or-append_seam}
use Rattle.std.proofs.Math.ListN.{get_or-append}
use Rattle.std.proofs.lemmas.List.{take_all, take-append-le, drop-append-le}
use Rattle.std.proofs.lemmas.Grind.{flat_map-append}
use Rattle.std.proofs.lemmas.Bool.{cases_lt}
use Rattle.html_types.specs.declared.attributes.Attribute.{Attribute}
use Rattle.html_types.specs.declared.tree.Kind.{Kind}
use Rattle.standard.specs.Tree.{Nodes, no_node, node_at, kind_of, attributes_of}
use Rattle.text_store.specs.declared.seen.SeenName.{SeenName}
use Rattle.text_store.specs.declared.seen.Seen.{Seen}
use Rattle.text_store.specs.declared.seen.Seen.TheVariants as seen
use Rattle.text_store.specs.Views.{seen_kind}
use Rattle.html_document.specs.declared.spans.Span.{Span}
use Rattle.html_document.specs.declared.spans.FlatNode.{FlatNode}
use Rattle.html_document.specs.declared.spans.FlatAttribute.{FlatAttribute}
use Rattle.html_document.specs.declared.spans.TheConstants.{NONE}
use Rattle.html_document.specs.declared.flat.Flat.{Flat}
use Rattle.html_document.specs.Flat.{words_of, IsNode, IsText, IsAttribute, AreAttributes, HaveAttributes, IsRow, no_row, row_at, attribute_bytes, kind_bytes, node_bytes, node_attributes, AttributesAdded, RowAdded, Shows}

-- ---- parts of a list

part-stays : {A : Type 0} (xs more : List A) (i n : ℕ) → i + n ≤ length xs → take n (drop i (xs ++ more)) ≡ take n (drop i xs)
part-stays xs more i n within =
    let front : i ≤ length xs = omega (arith, within) in
    let rest : n ≤ length (drop i xs) = omega (arith, within, length-drop i xs) in
    ap (take n) (drop-append-le i xs more front) ∙ take-append-le n (drop i xs) more rest

last-part : {A : Type 0} (xs ys : List A) → take (length ys) (drop (length xs) (xs ++ ys)) ≡ ys
last-part xs ys = ap (take (length ys)) (drop-append_seam xs ys) ∙ take-length ys

-- what was added is at the end
pub added-part : {A : Type 0} (xs ys all : List A) (i n : ℕ) → all ≡ xs ++ ys → i ≡ length xs → n ≡ length ys → take n (drop i all) ≡ ys
added-part xs ys all i n is at long =
    ap (λ k. take k (drop i all)) long ∙ (ap (λ k. take (length ys) (drop k all)) at ∙ (ap (λ zs. take (length ys) (drop (length xs) zs)) is ∙ last-part xs ys))

pub added-within : {A : Type 0} (xs ys all : List A) (i n : ℕ) → all ≡ xs ++ ys → i ≡ length xs → n ≡ length ys → i + n ≤ length all
added-within xs ys all i n is at long = omega (arith, at, long, ap length is, length-append xs ys)

-- ---- texts

pub text-stays : (bs more : List ℕ) (s : Span) (text : List ℕ) → IsText bs s text → IsText (bs ++ more) s text
text-stays bs more s text h = record {
  within = omega (arith, h.within, length-append bs more);
  bytes = part-stays bs more s.start s.length h.within ∙ h.bytes;
}

pub text-added : (bs added all text : List ℕ) (s : Span) → all ≡ bs ++ added → s.start ≡ length bs → s.length ≡ length added → added ≡ encode_utf8_all text → IsText all s text
text-added bs added all text s is at long utf8 = record {
  within = added-within bs added all s.start s.length is at long;
  bytes = added-part bs added all s.start s.length is at long ∙ utf8;
}

-- ---- attributes

attribute-stays : (bs more : List ℕ) (r : FlatAttribute) (a : Attribute) → IsAttribute bs r a → IsAttribute (bs ++ more) r a
attribute-stays bs more r a h = record { name = text-stays bs more r.name a.name h.name; value = text-stays bs more r.value a.value h.value }

attributes-stay : (bs more : List ℕ) (rs : List FlatAttribute) (own : List Attribute) → AreAttributes bs rs own → AreAttributes (bs ++ more) rs own
attributes-stay bs more [] [] h = tt
attributes-stay bs more [] (a ∷ own) h = absurd h
attributes-stay bs more (r ∷ rs) [] h = absurd h
attributes-stay bs more (r ∷ rs) (a ∷ own) h = (attribute-stays bs more r a h.0, attributes-stay bs more rs own h.1)

attributes-join : (bs : List ℕ) (rs qs : List FlatAttribute) (own more : List Attribute) → AreAttributes bs rs own → AreAttributes bs qs more → AreAttributes bs (rs ++ qs) (own ++ more)
attributes-join bs [] qs [] more h k = k
attributes-join bs [] qs (a ∷ own) more h k = absurd h
attributes-join bs (r ∷ rs) qs [] more h k = absurd h
attributes-join bs (r ∷ rs) qs (a ∷ own) more h k = (h.0, attributes-join bs rs qs own more h.1 k)

pub attributes-number : (bs : List ℕ) (rs : List FlatAttribute) (own : List Attribute) → AreAttributes bs rs own → length rs ≡ length own
attributes-number bs [] [] h = refl
attributes-number bs [] (a ∷ own) h = absurd h
attributes-number bs (r ∷ rs) [] h = absurd h
attributes-number bs (r ∷ rs) (a ∷ own) h = ap suc (attributes-number bs rs own h.1)

pub have-stay : (as' more : List FlatAttribute) (bs bytes : List ℕ) (s : Span) (own : List Attribute) → HaveAttributes as' bs s own → HaveAttributes (as' ++ more) (bs ++ bytes) s own
have-stay as' more bs bytes s own h = record {
  within = omega (arith, h.within, length-append as' more);
  read = subst (λ rs. AreAttributes (bs ++ bytes) rs own) (sym (part-stays as' more s.start s.length h.within)) (attributes-stay bs bytes (take s.length (drop s.start as')) own h.read);
}

-- ---- attributes that are added

pub none-added : (as' : List FlatAttribute) (bs : List ℕ) → AttributesAdded as' bs [] as' bs
none-added as' bs = record { list = []; attributes = sym (append-nil as'); text = sym (append-nil bs); read = tt }

-- what is no element has none
pub none-of : (k : Seen) → ((name : SeenName) (list : List Attribute) → k ≡ seen.Element name list → ⊥) → attributes_of (seen_kind k) ≡ []
none-of seen.Document other = refl
none-of seen.Contents other = refl
none-of (seen.Doctype name) other = refl
none-of (seen.Element name list) other = absurd (other name list refl)
none-of (seen.Text text) other = refl
none-of (seen.Comment text) other = refl

pub none-pushed : {E : Type 0} (as' : List FlatAttribute) (bs : List ℕ) (own : List Attribute) (result : Result Span E) → own ≡ [] → IfOk result (λ (s : Span). s.start ≡ length as') → IfOk result (λ (s : Span). s.length ≡ 0)
    → IfOk result (λ (s : Span). AttributesAdded as' bs own as' bs × (s.start ≡ length as') × (s.length ≡ length own))
none-pushed as' bs own (Ok s) none start size = (subst (λ (l : List Attribute). AttributesAdded as' bs l as' bs) (sym none) (none-added as' bs), start, size ∙ sym (ap length none))
none-pushed as' bs own (Err e) none start size = tt

pub one-added : (as' new_as : List FlatAttribute) (bs named all n v : List ℕ) (a : Attribute) (name value : Span) → n ≡ a.name → v ≡ a.value → named ≡ bs ++ encode_utf8_all n → IsText named name n
    → all ≡ named ++ encode_utf8_all v → IsText all value v → new_as ≡ as' ++ record { name = name; value = value } ∷ [] → AttributesAdded as' bs (a ∷ []) new_as all
one-added as' new_as bs named all n v a name value is-name is-value front h behind k last = record {
  list = record { name = name; value = value } ∷ [];
  attributes = last;
  text = behind ∙ (ap (λ x. x ++ encode_utf8_all v) front ∙ (append_assoc bs (encode_utf8_all n) (encode_utf8_all v)
      ∙ (ap (λ x. bs ++ (encode_utf8_all x ++ encode_utf8_all v)) is-name ∙ (ap (λ x. bs ++ (encode_utf8_all a.name ++ encode_utf8_all x)) is-value ∙ ap (λ x. bs ++ x) (sym (append-nil (attribute_bytes a)))))));
  read = (
    record {
      name = subst (λ x. IsText all name x) is-name (subst (λ x. IsText x name n) (sym behind) (text-stays named (encode_utf8_all v) name n h));
      value = subst (λ x. IsText all value x) is-value k;
    },
    tt,
  );
}

pub more-added : (as1 as2 as3 : List FlatAttribute) (bs1 bs2 bs3 : List ℕ) (own more : List Attribute) → AttributesAdded as1 bs1 own as2 bs2 → AttributesAdded as2 bs2 more as3 bs3
    → AttributesAdded as1 bs1 (own ++ more) as3 bs3
more-added as1 as2 as3 bs1 bs2 bs3 own more h k = record {
  list = h.list ++ k.list;
  attributes = k.attributes ∙ (ap (λ l. l ++ k.list) h.attributes ∙ append_assoc as1 h.list k.list);
  text = k.text ∙ (ap (λ l. l ++ flat_map attribute_bytes more) h.text ∙ (append_assoc bs1 (flat_map attribute_bytes own) (flat_map attribute_bytes more) ∙ ap (λ l. bs1 ++ l) (sym (flat_map-append attribute_bytes own more))));
  read = attributes-join bs3 h.list k.list own more
      (subst (λ bs. AreAttributes bs h.list own) (sym k.text) (attributes-stay bs2 (flat_map attribute_bytes more) h.list own h.read)) k.read;
}

-- those that were added, as a part of the list
pub have-added : (as' new_as : List FlatAttribute) (bs new_bs : List ℕ) (own : List Attribute) (s : Span) → AttributesAdded as' bs own new_as new_bs → s.start ≡ length as' → s.length ≡ length own
    → HaveAttributes new_as new_bs s own
have-added as' new_as bs new_bs own s h at long =
    let same : s.length ≡ length h.list = long ∙ sym (attributes-number new_bs h.list own h.read) in
    record {
      within = added-within as' h.list new_as s.start s.length h.attributes at same;
      read = subst (λ rs. AreAttributes new_bs rs own) (sym (added-part as' h.list new_as s.start s.length h.attributes at same)) h.read;
    }

-- ---- rows

pub row-stays : (t : Nodes) (as' more : List FlatAttribute) (bs bytes : List ℕ) (n : ℕ) (r : FlatNode) → IsRow t as' bs n r → IsRow t (as' ++ more) (bs ++ bytes) n r
row-stays t as' more bs bytes n r h = record {
  node = h.node;
  words = text-stays bs bytes r.text (words_of (kind_of t n)) h.words;
  attributes = have-stay as' more bs bytes r.attributes (attributes_of (kind_of t n)) h.attributes;
}

-- a row whose words and attributes were added before
pub row-added : (t : Nodes) (n : ℕ) (old new : Flat) (worded words : List ℕ) (own : List Attribute) (row : FlatNode) (text span : Span) → words ≡ words_of (kind_of t n) → own ≡ attributes_of (kind_of t n)
    → worded ≡ old.text.items ++ encode_utf8_all words → IsText worded text words → AttributesAdded old.attributes.items worded own new.attributes.items new.text.items
    → span.start ≡ length old.attributes.items → span.length ≡ length own → IsNode t n row → row.text ≡ text → row.attributes ≡ span → new.nodes.items ≡ old.nodes.items ++ row ∷ [] → RowAdded t n old new
row-added t n old new worded words own row text span is-words is-own front placed more start long node at-text at-span last =
    let k : Kind = kind_of t n in
    let behind : List ℕ = flat_map attribute_bytes own in
    record {
      row = row;
      list = more.list;
      nodes = last;
      attributes = more.attributes;
      number = attributes-number new.text.items more.list own more.read ∙ ap length is-own;
      text = more.text ∙ (ap (λ x. x ++ behind) front ∙ (append_assoc old.text.items (encode_utf8_all words) behind
          ∙ (ap (λ x. old.text.items ++ (encode_utf8_all x ++ behind)) is-words ∙ ap (λ x. old.text.items ++ (encode_utf8_all (words_of k) ++ flat_map attribute_bytes x)) is-own)));
      is = record {
        node = node;
        words = subst (λ s. IsText new.text.items s (words_of k)) (sym at-text)
            (subst (λ w. IsText new.text.items text w) is-words (subst (λ x. IsText x text words) (sym more.text) (text-stays worded behind text words placed)));
        attributes = subst (λ s. HaveAttributes new.attributes.items new.text.items s (attributes_of k)) (sym at-span)
            (subst (λ l. HaveAttributes new.attributes.items new.text.items span l) is-own
            (have-added old.attributes.items new.attributes.items worded new.text.items own span more start long));
      };
    }

-- the lists of the first nodes
pub record ShowsFirst (t : Nodes) (k : ℕ) (ns : List FlatNode) (as' : List FlatAttribute) (bs : List ℕ) : Type 0 where
  pub size : length ns ≡ k
  pub rows : (n : ℕ) → n < k → IsRow t as' bs n (row_at ns n)
  pub attributes : length as' ≡ length (flat_map node_attributes (take k t))
  pub text : bs ≡ flat_map node_bytes (take k t)

pub shows-none : (t : Nodes) → ShowsFirst t 0 [] [] []
shows-none t = record { size = refl; rows = λ n lt. absurd (omega arith); attributes = refl; text = refl }

first-more : (t : Nodes) (k : ℕ) → k < length t → take (suc k) t ≡ take k t ++ node_at t k ∷ []
first-more t k lt = take-suc t k no_node lt

bytes-more : (t : Nodes) (k : ℕ) → k < length t → flat_map node_bytes (take (suc k) t) ≡ flat_map node_bytes (take k t) ++ kind_bytes (kind_of t k)
bytes-more t k lt =
    ap (flat_map node_bytes) (first-more t k lt) ∙ (flat_map-append node_bytes (take k t) (node_at t k ∷ []) ∙ ap (λ x. flat_map node_bytes (take k t) ++ x) (append-nil (kind_bytes (kind_of t k))))

attributes-more : (t : Nodes) (k : ℕ) → k < length t → flat_map node_attributes (take (suc k) t) ≡ flat_map node_attributes (take k t) ++ attributes_of (kind_of t k)
attributes-more t k lt =
    ap (flat_map node_attributes) (first-more t k lt)
    ∙ (flat_map-append node_attributes (take k t) (node_at t k ∷ []) ∙ ap (λ x. flat_map node_attributes (take k t) ++ x) (append-nil (attributes_of (kind_of t k))))

pub shows-more : (t : Nodes) (k : ℕ) (ns ns' : List FlatNode) (as' new_as list : List FlatAttribute) (bs new_bs : List ℕ) (row : FlatNode) → k < length t → ShowsFirst t k ns as' bs
    → ns' ≡ ns ++ row ∷ [] → new_as ≡ as' ++ list → length list ≡ length (attributes_of (kind_of t k)) → new_bs ≡ bs ++ kind_bytes (kind_of t k) → IsRow t new_as new_bs k row → ShowsFirst t (suc k) ns' new_as new_bs
shows-more t k ns ns' as' new_as list bs new_bs row lt h nodes attributes number text is = record {
  size = omega (arith, ap length nodes, length-append ns (row ∷ []), h.size);
  rows = λ n below. by n (cases_lt n k) below;
  attributes = ap length attributes ∙ (length-append as' list ∙ (ap (λ m. m + length list) h.attributes ∙ (ap (λ m. length (flat_map node_attributes (take k t)) + m) number
      ∙ (sym (length-append (flat_map node_attributes (take k t)) (attributes_of (kind_of t k))) ∙ ap length (sym (attributes-more t k lt))))));
  text = text ∙ (ap (λ x. x ++ kind_bytes (kind_of t k)) h.text ∙ sym (bytes-more t k lt));
}
  where
    at : (n : ℕ) → n < k → row_at ns' n ≡ row_at ns n
    at n below = ap (λ (l : List FlatNode). row_at l n) nodes ∙ get_or-append ns (row ∷ []) no_row n (omega (arith, below, h.size))

    last : row_at ns' k ≡ row
    last = ap (λ (l : List FlatNode). row_at l k) nodes ∙ (ap (λ i. row_at (ns ++ row ∷ []) i) (sym h.size) ∙ get_or-append_seam ns row [] no_row)

    stays : (n : ℕ) → n < k → IsRow t new_as new_bs n (row_at ns' n)
    stays n below =
        subst (λ r. IsRow t new_as new_bs n r) (sym (at n below))
        (subst (λ x. IsRow t x new_bs n (row_at ns n)) (sym attributes) (subst (λ x. IsRow t (as' ++ list) x n (row_at ns n)) (sym text) (row-stays t as' list bs (kind_bytes (kind_of t k)) n (row_at ns n) (h.rows n below))))

    by : (n : ℕ) → (n < k) ⊎ (k ≤ n) → n < suc k → IsRow t new_as new_bs n (row_at ns' n)
    by n (inl below) lt' = stays n below
    by n (inr from) lt' =
        let same : n ≡ k = omega (arith, from, lt') in
        subst (λ m. IsRow t new_as new_bs m (row_at ns' m)) (sym same) (subst (λ r. IsRow t new_as new_bs k r) (sym last) is)

-- ---- the loop over the nodes

pub shows-begun : (t : Nodes) (ns : List FlatNode) (as' : List FlatAttribute) (bs : List ℕ) → ns ≡ [] → as' ≡ [] → bs ≡ [] → ShowsFirst t 0 ns as' bs
shows-begun t ns as' bs no_nodes no_attributes no_text =
    subst (λ x. ShowsFirst t 0 x as' bs) (sym no_nodes) (subst (λ x. ShowsFirst t 0 [] x bs) (sym no_attributes) (subst (λ x. ShowsFirst t 0 [] [] x) (sym no_text) (shows-none t)))

pub shows-next : (t : Nodes) (k : ℕ) (old new : Flat) → k < length t → ShowsFirst t k old.nodes.items old.attributes.items old.text.items → RowAdded t k old new
    → ShowsFirst t (k + 1) new.nodes.items new.attributes.items new.text.items
shows-next t k old new lt h r =
    let same : suc k ≡ k + 1 = omega arith in
    subst (λ (n : ℕ). ShowsFirst t n new.nodes.items new.attributes.items new.text.items) same
    (shows-more t k old.nodes.items new.nodes.items old.attributes.items new.attributes.items r.list old.text.items new.text.items r.row lt h r.nodes r.attributes r.number r.text r.is)

pub shows-all : (t : Nodes) (k : ℕ) (ns : List FlatNode) (as' : List FlatAttribute) (bs : List ℕ) → k ≡ length t → length t ≤ NONE → ShowsFirst t k ns as' bs → Shows t ns as' bs
shows-all t k ns as' bs full few h =
    let whole : take k t ≡ t = take_all k t (omega (arith, full)) in
    record {
      size = h.size ∙ full;
      small = subst (λ n. n ≤ NONE) (sym (h.size ∙ full)) few;
      rows = λ n below. h.rows n (subst (λ m. n < m) (sym full) below);
      attributes = h.attributes ∙ ap (λ (x : Nodes). length (flat_map node_attributes x)) whole;
      text = h.text ∙ ap (λ (x : Nodes). flat_map node_bytes x) whole;
    }
