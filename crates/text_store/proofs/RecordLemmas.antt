-- What operations are after a change of the store.
use Rattle.std.proofs.Common.{◌≡◌, ℕ, ◌+◌, ◌<◌, zero, suc, true, false, List, [], ◌∷◌, ◌++◌, length, get_or, set, map, Some, refl, sym, ap, ◌∙◌, subst, arith}
use Rattle.std.specs.Option.{option_map}
use Rattle.std.specs.Prelude.{Result, OnErr, Ok, Err, slice_get}
use Rattle.std.proofs.lemmas.List.{map_push, map-set, map-append, get_or-map, length-map}
use Rattle.std.proofs.lemmas.Option.{slice_get-map, slice_get-get_or}
use Rattle.html_types.specs.declared.attributes.Attribute.{Attribute}
use Rattle.html_types.specs.declared.name.Name.{Name}
use Rattle.html_types.specs.declared.operation.NodeId.{NodeId}
use Rattle.html_types.specs.declared.operation.Op.{Op}
use Rattle.html_types.specs.declared.operation.Op.TheVariants as op
use Rattle.html_types.specs.declared.operation.Place.{Place}
use Rattle.html_types.specs.declared.tree.Kind.{Kind}
use Rattle.html_types.specs.declared.tree.Kind.TheVariants as kind
use Rattle.html_types.specs.Operations.{spelled, spelled_one}
use Rattle.standard.specs.Tree.{is_element, attributes_of}
use Rattle.html_types.proofs.ListLemmas.{spelled-append, spelled-last}
use Rattle.text_store.specs.declared.store.Piece.{Piece}
use Rattle.text_store.specs.declared.store.Spot.TheVariants.{Inside, Apart}
use Rattle.text_store.specs.declared.lists.Store.{Store}
use Rattle.text_store.specs.declared.kinds.Kept.{Kept}
use Rattle.text_store.specs.declared.ops.Record.{Record}
use Rattle.text_store.specs.declared.ops.Record.TheVariants as record_of
use Rattle.text_store.specs.declared.seen.SeenName.{SeenName}
use Rattle.text_store.specs.declared.seen.Seen.{Seen}
use Rattle.text_store.specs.declared.seen.Seen.TheVariants as seen
use Rattle.text_store.specs.Stores.{HoldsText}
use Rattle.text_store.specs.Kinds.{MeansKind}
use Rattle.text_store.specs.Lists.{KeepsAll}
use Rattle.text_store.specs.Records.{made_op, op_at, HoldsRecord, HoldsRecords, MeansRecord}
use Rattle.text_store.specs.Views.{seen_kind}
use Rattle.text_store.proofs.KindLemmas.{kind_still}

pub record_still : (s s' : Store) → KeepsAll s s' → (r : Record) → HoldsRecord s r → MeansRecord s' r (op_at s r)
record_still s s' keeps (record_of.Make id k) holds =
    let still = kind_still s s' keeps k holds.0 in
    record { held = (still.held, ap is_element still.is ∙ holds.1); is = ap (made_op id) still.is }
record_still s s' keeps (record_of.Put node place) holds = record { held = tt; is = refl }
record_still s s' keeps (record_of.Text place p) holds =
    let t = keeps.texts (Inside p) holds in
    record { held = t.0; is = rw t.1 refl }
record_still s s' keeps (record_of.TextApart place p) holds =
    let t = keeps.texts (Apart p) holds in
    record { held = t.0; is = rw t.1 refl }
record_still s s' keeps (record_of.Comment place p) holds =
    let t = keeps.texts (Inside p) holds in
    record { held = t.0; is = rw t.1 refl }
record_still s s' keeps (record_of.Doctype p) holds =
    let t = keeps.texts (Inside p) holds in
    record { held = t.0; is = rw t.1 refl }
record_still s s' keeps (record_of.Detach node) holds = record { held = tt; is = refl }
record_still s s' keeps (record_of.MoveChildren from to) holds = record { held = tt; is = refl }
record_still s s' keeps (record_of.AddAttributes node k) holds =
    let still = kind_still s s' keeps k holds.0 in
    record { held = (still.held, ap is_element still.is ∙ holds.1); is = ap (λ (x : Kind). op.AddAttributes node (attributes_of x)) still.is }

module _ (s s' : Store) (keeps : KeepsAll s s') where
  pub records_held : (rs : List Record) → HoldsRecords s rs → HoldsRecords s' rs
  records_held [] h = tt
  records_held (r ∷ rs) h = ((record_still s s' keeps r h.0).held, records_held rs h.1)

  pub records_same : (rs : List Record) → HoldsRecords s rs → map (op_at s') rs ≡ map (op_at s) rs
  records_same [] h = refl
  records_same (r ∷ rs) h = rw ((record_still s s' keeps r h.0).is, records_same rs h.1) refl

  -- the last operation gets more
  pub records_set : (rs : List Record) → HoldsRecords s rs → (i : ℕ) (r : Record) → HoldsRecord s' r → HoldsRecords s' (set rs i r)
  records_set [] h i r holds = tt
  records_set (x ∷ rs) h zero r holds = (holds, records_held rs h.1)
  records_set (x ∷ rs) h (suc i) r holds = ((record_still s s' keeps x h.0).held, records_set rs h.1 i r holds)

  pub spelled_more : (rs : List Record) → HoldsRecords s rs → (i : ℕ) (x r : Record) (more : List Op) → i + 1 ≡ length rs → get_or rs i x ≡ x → spelled_one (op_at s' r) ≡ spelled_one (op_at s x) ++ more
      → spelled (map (op_at s') (set rs i r)) ≡ spelled (map (op_at s) rs) ++ more
  spelled_more rs h i x r more last read is =
      let below : i < length rs = omega (arith, last) in
      ap spelled (map-set (op_at s') rs i r) ∙ (ap (λ (l : List Op). spelled (set l i (op_at s' r))) (records_same rs h)
      ∙ spelled-last (map (op_at s) rs) i (op_at s x) (op_at s' r) more (omega (arith, last, length-map rs (op_at s))) (get_or-map (op_at s) rs i x (op_at s x) below ∙ ap (op_at s) read) is)

  -- operations that stay as they are
  pub still_held : (rs rs' : List Record) → HoldsRecords s rs → rs' ≡ rs → HoldsRecords s' rs'
  still_held rs rs' h same = subst (HoldsRecords s') (sym same) (records_held rs h)

  pub still_spelled : (rs rs' : List Record) → HoldsRecords s rs → rs' ≡ rs → spelled (map (op_at s') rs') ≡ spelled (map (op_at s) rs)
  still_spelled rs rs' h same = ap (λ (l : List Record). spelled (map (op_at s') l)) same ∙ ap spelled (records_same rs h)

  -- one operation more
  held_behind : (rs : List Record) → HoldsRecords s rs → (r : Record) → HoldsRecord s' r → HoldsRecords s' (rs ++ r ∷ [])
  held_behind [] h r holds = (holds, tt)
  held_behind (x ∷ rs) h r holds = ((record_still s s' keeps x h.0).held, held_behind rs h.1 r holds)

  pub pushed_held : (rs rs' : List Record) → HoldsRecords s rs → (r : Record) (o : Op) → MeansRecord s' r o → rs' ≡ rs ++ r ∷ [] → HoldsRecords s' rs'
  pushed_held rs rs' h r o means more = subst (HoldsRecords s') (sym more) (held_behind rs h r means.held)

  pub pushed_spelled : (rs rs' : List Record) → HoldsRecords s rs → (r : Record) (o : Op) → MeansRecord s' r o → rs' ≡ rs ++ r ∷ [] → spelled (map (op_at s') rs') ≡ spelled (map (op_at s) rs) ++ spelled_one o
  pushed_spelled rs rs' h r o means more =
      ap (λ (l : List Record). spelled (map (op_at s') l)) more ∙ (ap spelled (map_push (op_at s') rs r) ∙ (spelled-append (map (op_at s') rs) (op_at s' r)
      ∙ (ap (λ (l : List Op). spelled l ++ spelled_one (op_at s' r)) (records_same rs h) ∙ ap (λ (p : Op). spelled (map (op_at s) rs) ++ spelled_one p) means.is)))

-- ---- what a record means

pub make_means : (s : Store) (id : NodeId) (k : Kept) (n : Name) (list : List Attribute) → MeansKind s k (kind.Element n list) → MeansRecord s (record_of.Make id k) (op.Make id n list)
make_means s id k n list means = record { held = (means.held, ap is_element means.is); is = ap (made_op id) means.is }

pub added_means : (s : Store) (node : NodeId) (k : Kept) (n : Name) (list : List Attribute) → MeansKind s k (kind.Element n list) → MeansRecord s (record_of.AddAttributes node k) (op.AddAttributes node list)
added_means s node k n list means = record { held = (means.held, ap is_element means.is); is = ap (λ (x : Kind). op.AddAttributes node (attributes_of x)) means.is }

pub text_means : (s : Store) (place : Place) (p : Piece) (t : List ℕ) → HoldsText s.texts (Inside p) t → MeansRecord s (record_of.Text place p) (op.Text place t)
text_means s place p t holds = record { held = holds.0; is = ap (λ (l : List ℕ). op.Text place l) holds.1 }

pub put_means : (s : Store) (node : NodeId) (place : Place) → MeansRecord s (record_of.Put node place) (op.Put node place)
put_means s node place = record { held = tt; is = refl }

none : false ≡ true → ⊥
none e = cc

-- what isn't seen as an element is none
pub not_element : (x : Seen) (k : Kind) → seen_kind x ≡ k → is_element k ≡ true → ((n : SeenName) (list : List Attribute) → x ≡ seen.Element n list → ⊥) → ⊥
not_element (seen.Element n list) k same element other = other n list refl
not_element seen.Document k same element other = none (ap is_element same ∙ element)
not_element seen.Contents k same element other = none (ap is_element same ∙ element)
not_element (seen.Doctype t) k same element other = none (ap is_element same ∙ element)
not_element (seen.Text t) k same element other = none (ap is_element same ∙ element)
not_element (seen.Comment t) k same element other = none (ap is_element same ∙ element)

-- ---- operations that are read

pub record_read : (s : Store) (rs : List Record) → HoldsRecords s rs → (i : ℕ) (x : Record) → i < length rs → x ≡ get_or rs i x → HoldsRecord s x
record_read s [] h i x below read = absurd (omega (arith, below))
record_read s (r ∷ rs) h zero x below read = rw read h.0
record_read s (r ∷ rs) h (suc i) x below read = record_read s rs h.1 i x (omega (arith, below)) read

pub op_read : (s : Store) (rs : List Record) (i : ℕ) (x : Record) → i < length rs → x ≡ get_or rs i x → slice_get (map (op_at s) rs) i ≡ Some (op_at s x)
op_read s rs i x below read = slice_get-map (op_at s) rs i ∙ ap (option_map (op_at s)) (slice_get-get_or rs i x below ∙ ap Some (sym read))

-- a text that gets more is spelled out so much longer
pub spelled-text_more : (place : Place) (t more : List ℕ) → spelled_one (op.Text place (t ++ more)) ≡ spelled_one (op.Text place t) ++ spelled_one (op.Text place more)
spelled-text_more place t more = map-append (λ c. op.Text place (c ∷ [])) t more

pub on_err_held : {T E P : Type 0} (r : Result T E) → P → OnErr r P
on_err_held (Ok x) p = tt
on_err_held (Err e) p = p
