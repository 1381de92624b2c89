-- Operations in a list, and which of them have their ids bound.
use Rattle.std.proofs.Common.{◌≡◌, ℕ, ◌+◌, Bool, true, false, List, [], ◌∷◌, ◌++◌, take, drop, map, Some, refl, sym, ap, ◌∙◌, subst, append_assoc, append-nil}
use Rattle.std.specs.Prelude.{slice_get}
use Rattle.std.proofs.lemmas.List.{take_more, drop_more}
use Rattle.std.proofs.lemmas.Option.{slice_get_within, get_or_from_slice_get}
use Rattle.html_types.specs.Operations.{spelled, spelled_one}
use Rattle.html_types.specs.declared.operation.NodeId.{NodeId}
use Rattle.html_types.specs.declared.operation.Place.{Place}
use Rattle.html_types.specs.declared.operation.Op.{Op}
use Rattle.html_types.specs.declared.operation.Op.TheVariants.{Make, Put, Text, Comment, Doctype, Detach, MoveChildren, AddAttributes}
use Rattle.standard.specs.Act.{Doc, act, acts, is_bound, IsPlaceBound, IsOpBound, known_after, AreOpsBound}
use Rattle.standard.specs.Fragment.{in_root, all_in_root}
use Rattle.op_exec.specs.Docs.{inserts_nothing, IsDoneInPart}
use Rattle.act_laws.proofs.Known.{known_after-is, AreOpsBound-act}

-- ---- what is read at a place of a list

pub take_read : (xs : List Op) (i : ℕ) (x : Op) → slice_get xs i ≡ Some x → take (i + 1) xs ≡ take i xs ++ x ∷ []
take_read xs i x read =
    take_more xs i x (slice_get_within xs i x read) ∙ ap (λ (y : Op). take i xs ++ y ∷ []) (get_or_from_slice_get xs i x x read)

pub drop_read : (xs : List Op) (i : ℕ) (x : Op) → slice_get xs i ≡ Some x → drop i xs ≡ x ∷ drop (i + 1) xs
drop_read xs i x read =
    drop_more xs i x (slice_get_within xs i x read) ∙ ap (λ (y : Op). y ∷ drop (i + 1) xs) (get_or_from_slice_get xs i x x read)

-- ---- operations behind others

pub acts-append : (d : Doc) (xs ys : List Op) → acts d (xs ++ ys) ≡ acts (acts d xs) ys
unfolding acts
acts-append d [] ys = refl
acts-append d (x ∷ xs) ys = acts-append (act d x) xs ys

spelled-split : (xs ys : List Op) → spelled (xs ++ ys) ≡ spelled xs ++ spelled ys
unfolding spelled
spelled-split [] ys = refl
spelled-split (x ∷ xs) ys = ap (λ zs. spelled_one x ++ zs) (spelled-split xs ys) ∙ sym (append_assoc (spelled_one x) (spelled xs) (spelled ys))

spelled-one : (o : Op) → spelled (o ∷ []) ≡ spelled_one o
unfolding spelled
spelled-one o = append-nil (spelled_one o)

AreOpsBound-after : (d : Doc) (xs ys : List Op) → AreOpsBound (is_bound d.bound) (xs ++ ys) → AreOpsBound (is_bound (acts d xs).bound) ys
unfolding acts AreOpsBound
AreOpsBound-after d [] ys bound = bound
AreOpsBound-after d (x ∷ xs) ys bound = AreOpsBound-after (act d x) xs ys (AreOpsBound-act d x (xs ++ ys) bound.1)

pub AreOpsBound-append : (d : Doc) (xs ys : List Op) → AreOpsBound (is_bound d.bound) xs → AreOpsBound (is_bound (acts d xs).bound) ys → AreOpsBound (is_bound d.bound) (xs ++ ys)
unfolding acts AreOpsBound
AreOpsBound-append d [] ys first next = next
AreOpsBound-append d (x ∷ xs) ys first next =
    let rest : AreOpsBound (is_bound (act d x).bound) (xs ++ ys) = AreOpsBound-append (act d x) xs ys (AreOpsBound-act d x xs first.1) next in
    (first.0, subst (λ (known : NodeId → Bool). AreOpsBound known (xs ++ ys)) (λ i q. sym (known_after-is d x q) i) rest)

AreOpsBound-front : (known : NodeId → Bool) (xs ys : List Op) → AreOpsBound known (xs ++ ys) → AreOpsBound known xs
unfolding AreOpsBound
AreOpsBound-front known [] ys bound = tt
AreOpsBound-front known (x ∷ xs) ys bound = (bound.0, AreOpsBound-front (known_after known x) xs ys bound.1)

pub IsOpBound-from_spelled : (known : NodeId → Bool) (o : Op) → inserts_nothing o ≡ false → AreOpsBound known (spelled_one o) → IsOpBound known o
unfolding AreOpsBound
IsOpBound-from_spelled known (Make id name attributes) some bound = bound.0
IsOpBound-from_spelled known (Put id place) some bound = bound.0
IsOpBound-from_spelled known (Text place []) some bound = absurd (cc)
IsOpBound-from_spelled known (Text place (c ∷ cs)) some bound = bound.0
IsOpBound-from_spelled known (Comment place text) some bound = bound.0
IsOpBound-from_spelled known (Doctype name) some bound = bound.0
IsOpBound-from_spelled known (Detach id) some bound = bound.0
IsOpBound-from_spelled known (MoveChildren from to) some bound = bound.0
IsOpBound-from_spelled known (AddAttributes id attributes) some bound = bound.0

AreOpsBound-run : (known : NodeId → Bool) (place : Place) (text : List ℕ) → IsPlaceBound known place → AreOpsBound known (map (λ c. Text place (c ∷ [])) text)
unfolding AreOpsBound
AreOpsBound-run known place [] there = tt
AreOpsBound-run known place (c ∷ cs) there = (there, AreOpsBound-run known place cs there)

-- an operation with its ids bound, spelled out
pub AreOpsBound-spelled : (known : NodeId → Bool) (o : Op) → IsOpBound known o → AreOpsBound known (spelled_one o)
unfolding AreOpsBound
AreOpsBound-spelled known (Make id name attributes) bound = (bound, tt)
AreOpsBound-spelled known (Put id place) bound = (bound, tt)
AreOpsBound-spelled known (Text place text) bound = AreOpsBound-run known place text bound
AreOpsBound-spelled known (Comment place text) bound = (bound, tt)
AreOpsBound-spelled known (Doctype name) bound = (bound, tt)
AreOpsBound-spelled known (Detach id) bound = (bound, tt)
AreOpsBound-spelled known (MoveChildren from to) bound = (bound, tt)
AreOpsBound-spelled known (AddAttributes id attributes) bound = (bound, tt)

pub acts-nothing : (d : Doc) (o : Op) → inserts_nothing o ≡ true → acts d (spelled_one o) ≡ d
unfolding acts
acts-nothing d (Text place []) none = refl
acts-nothing d (Text place (c ∷ cs)) none = absurd (cc)
acts-nothing d (Make id name attributes) none = absurd (cc)
acts-nothing d (Put id place) none = absurd (cc)
acts-nothing d (Comment place text) none = absurd (cc)
acts-nothing d (Doctype name) none = absurd (cc)
acts-nothing d (Detach id) none = absurd (cc)
acts-nothing d (MoveChildren from to) none = absurd (cc)
acts-nothing d (AddAttributes id attributes) none = absurd (cc)

-- ---- a turn of a loop over operations, each with its text spelled out: xs are done, then comes o, and os are left

module _ (d e : Doc) (xs : List Op) (o : Op) (os : List Op) (done : e ≡ acts d (spelled xs)) (bound : AreOpsBound (is_bound e.bound) (spelled (o ∷ os))) where
  whole : AreOpsBound (is_bound e.bound) (spelled_one o ++ spelled os)
  whole = subst (AreOpsBound (is_bound e.bound)) (spelled-split (o ∷ []) os ∙ ap (λ ys. ys ++ spelled os) (spelled-one o)) bound

  pub turn-bound : AreOpsBound (is_bound e.bound) (spelled_one o)
  turn-bound = AreOpsBound-front (is_bound e.bound) (spelled_one o) (spelled os) whole

  pub turn-bound_after : (e' : Doc) → e' ≡ acts e (spelled_one o) → AreOpsBound (is_bound e'.bound) (spelled os)
  turn-bound_after e' is = subst (λ (x : Doc). AreOpsBound (is_bound x.bound) (spelled os)) (sym is) (AreOpsBound-after e (spelled_one o) (spelled os) whole)

  pub turn-done : (e' : Doc) → e' ≡ acts e (spelled_one o) → e' ≡ acts d (spelled (xs ++ o ∷ []))
  turn-done e' is =
      is
      ∙ ap (λ (x : Doc). acts x (spelled_one o)) done
      ∙ sym (acts-append d (spelled xs) (spelled_one o))
      ∙ ap (λ ys. acts d (spelled xs ++ ys)) (sym (spelled-one o))
      ∙ ap (acts d) (sym (spelled-split xs (o ∷ [])))

  pub turn-part : IsDoneInPart d e (spelled (xs ++ o ∷ os))
  turn-part = record {
    done = spelled xs;
    left = spelled (o ∷ os);
    all = spelled-split xs (o ∷ os);
    result = done;
  }

-- ---- in the root of a fragment
abbrev pub rooted : List Op → List Op
rooted os = all_in_root (spelled os)

abbrev pub rooted_one : Op → List Op
rooted_one o = all_in_root (spelled_one o)

in_root-split : (xs ys : List Op) → all_in_root (xs ++ ys) ≡ all_in_root xs ++ all_in_root ys
in_root-split [] ys = refl
in_root-split (x ∷ xs) ys = ap (λ zs. in_root x ++ zs) (in_root-split xs ys) ∙ sym (append_assoc (in_root x) (all_in_root xs) (all_in_root ys))

rooted-split : (xs ys : List Op) → rooted (xs ++ ys) ≡ rooted xs ++ rooted ys
rooted-split xs ys = ap all_in_root (spelled-split xs ys) ∙ in_root-split (spelled xs) (spelled ys)

rooted-one : (o : Op) → rooted (o ∷ []) ≡ rooted_one o
rooted-one o = ap all_in_root (spelled-one o)

-- one more comes behind those of xs
pub turn-rooted : (start now next : List Op) (xs : List Op) (o : Op) → now ≡ start ++ rooted xs → next ≡ now ++ rooted_one o → next ≡ start ++ rooted (xs ++ o ∷ [])
turn-rooted start now next xs o was is =
    is
    ∙ ap (λ ys. ys ++ rooted_one o) was
    ∙ append_assoc start (rooted xs) (rooted_one o)
    ∙ ap (λ ys. start ++ (rooted xs ++ ys)) (sym (rooted-one o))
    ∙ ap (λ ys. start ++ ys) (sym (rooted-split xs (o ∷ [])))
