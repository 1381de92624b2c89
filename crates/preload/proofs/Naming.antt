-- The names of the scripts that operations make.
use Rattle.std.proofs.Common.{◌≡◌, ℕ, zero, suc, ◌+◌, add-one, take, slice_get, Bool, true, false, true≢false, List, [], ◌∷◌, ◌++◌, Option, Some, None, map, flat_map, refl, sym, ap, ◌∙◌}
use Rattle.std.specs.Prelude.{if◌then◌else◌, ◌||◌, codes}
use Rattle.std.proofs.lemmas.Grind.{flat_map-append}
use Rattle.html_types.specs.Operations.{spelled, spelled_one}
use Rattle.html_types.specs.declared.attributes.Attribute.{Attribute}
use Rattle.html_types.specs.declared.operation.Place.{Place}
use Rattle.html_types.specs.declared.operation.Op.{Op}
use Rattle.html_types.specs.declared.operation.Op.TheVariants as op
use Rattle.standard.specs.Tree.{attribute}
use Rattle.standard.specs.Prepare.{has, may_run, prepared_by, prepared_with}
use Rattle.serial.specs.Scripts.{is_lawful}
use Rattle.core_definitions.specs.Batches.{Batch}
use Rattle.preload.specs.Names.{wanted_by, wanted_in, is_listed, firsts, names_of}

-- ---- a script's `src`

by_run : (as' : List Attribute) (b : Bool) → may_run as' ≡ b → prepared_with as' [] ≡ (if b then prepared_by (attribute (codes "src") as') (has "async" as' || has "defer" as') [] else prepared_with as' [])
by_run as' true is = rw is refl
by_run as' false is = refl

pub wanted_still : (as' : List Attribute) → may_run as' ≡ false → wanted_by (prepared_with as' []) ≡ []
wanted_still as' is = rw is refl

module _ (as' : List Attribute) (runs : may_run as' ≡ true) where
  late : (src : Option (List ℕ)) → wanted_by (prepared_by src true []) ≡ []
  late None = refl
  late (Some []) = refl
  late (Some (c ∷ cs)) = refl

  pub wanted_later : (has "async" as' || has "defer" as') ≡ true → wanted_by (prepared_with as' []) ≡ []
  wanted_later later = rw (runs, later) (late (attribute (codes "src") as'))

  module _ (now : (has "async" as' || has "defer" as') ≡ false) where
    pub wanted_none : attribute (codes "src") as' ≡ None → wanted_by (prepared_with as' []) ≡ []
    wanted_none none = rw (runs, now, none) refl

    lawful : (src : List ℕ) → is_lawful src ≡ true → wanted_by (prepared_by (Some src) false []) ≡ src ∷ []
    unfolding is_lawful
    lawful [] is = absurd (true≢false (sym is))
    lawful (c ∷ cs) is = ap (λ b. if b then (c ∷ cs) ∷ [] else []) is

    unlawful : (src : List ℕ) → is_lawful src ≡ false → wanted_by (prepared_by (Some src) false []) ≡ []
    unlawful [] is = refl
    unlawful (c ∷ cs) is = ap (λ b. if b then (c ∷ cs) ∷ [] else []) is

    pub wanted_lawful : (src : List ℕ) → attribute (codes "src") as' ≡ Some src → is_lawful src ≡ true → wanted_by (prepared_with as' []) ≡ src ∷ []
    wanted_lawful src there is = rw (runs, now, there) (lawful src is)

    pub wanted_unlawful : (src : List ℕ) → attribute (codes "src") as' ≡ Some src → is_lawful src ≡ false → wanted_by (prepared_with as' []) ≡ []
    wanted_unlawful src there is = rw (runs, now, there) (unlawful src is)

-- ---- names behind names

pub firsts_append : (listed xs ys : List (List ℕ)) → firsts listed (xs ++ ys) ≡ firsts (firsts listed xs) ys
firsts_append listed [] ys = refl
firsts_append listed (x ∷ xs) ys = firsts_append (if is_listed x listed then listed else listed ++ x ∷ []) xs ys

pub firsts_old : (listed : List (List ℕ)) (name : List ℕ) → is_listed name listed ≡ true → firsts listed (name ∷ []) ≡ listed
firsts_old listed name is = ap (λ b. if b then listed else listed ++ name ∷ []) is

pub firsts_new : (listed : List (List ℕ)) (name : List ℕ) → is_listed name listed ≡ false → firsts listed (name ∷ []) ≡ listed ++ name ∷ []
firsts_new listed name is = ap (λ b. if b then listed else listed ++ name ∷ []) is

-- ---- operations as they are kept

wanted-text : (place : Place) (text : List ℕ) → flat_map wanted_in (map (λ c. op.Text place (c ∷ [])) text) ≡ []
wanted-text place [] = refl
wanted-text place (c ∷ cs) = wanted-text place cs

wanted-one : (o : Op) → flat_map wanted_in (spelled_one o) ≡ wanted_in o
wanted-one (op.Text place text) = wanted-text place text
wanted-one (op.Make id name attributes) = single (wanted_in (op.Make id name attributes))
  where
    single : (xs : List (List ℕ)) → xs ++ [] ≡ xs
    single [] = refl
    single (x ∷ xs) = ap (λ l. x ∷ l) (single xs)
wanted-one (op.Put node place) = refl
wanted-one (op.Comment place text) = refl
wanted-one (op.Doctype name) = refl
wanted-one (op.Detach node) = refl
wanted-one (op.MoveChildren from to) = refl
wanted-one (op.AddAttributes node attributes) = refl

pub wanted_spelled : (ops : List Op) → flat_map wanted_in (spelled ops) ≡ flat_map wanted_in ops
unfolding spelled
wanted_spelled [] = refl
wanted_spelled (o ∷ os) = flat_map-append wanted_in (spelled_one o) (spelled os) ∙ ap (λ l. l ++ flat_map wanted_in (spelled os)) (wanted-one o) ∙ ap (λ l. wanted_in o ++ l) (wanted_spelled os)

-- one batch more
take-more : {X A : Type 0} (f : X → List A) (xs : List X) (k : ℕ) (x : X) → slice_get xs k ≡ Some x → flat_map f (take (suc k) xs) ≡ flat_map f (take k xs) ++ f x
take-more f [] k x is = absurd (cc is)
take-more f (y ∷ xs) zero x is = let same : y ≡ x = cc is in single (f y) ∙ ap f same
  where
    single : {A : Type 0} (ys : List A) → ys ++ [] ≡ ys
    single [] = refl
    single (z ∷ zs) = ap (λ l. z ∷ l) (single zs)
take-more f (y ∷ xs) (suc k) x is = ap (λ l. f y ++ l) (take-more f xs k x is) ∙ sym (assoc (f y) (flat_map f (take k xs)) (f x))
  where
    assoc : {A : Type 0} (a b c : List A) → (a ++ b) ++ c ≡ a ++ (b ++ c)
    assoc [] b c = refl
    assoc (z ∷ zs) b c = ap (λ l. z ∷ l) (assoc zs b c)

-- one operation more
pub ops_more : (os : List Op) (i : ℕ) (o : Op) (listed now more : List (List ℕ)) → slice_get os i ≡ Some o → now ≡ firsts listed (flat_map wanted_in (take i os)) → more ≡ firsts now (wanted_in o)
    → more ≡ firsts listed (flat_map wanted_in (take (i + 1) os))
ops_more os i o listed now more there so_far one = rw add-one
    (one ∙ (ap (λ l. firsts l (wanted_in o)) so_far
    ∙ (sym (firsts_append listed (flat_map wanted_in (take i os)) (wanted_in o)) ∙ ap (firsts listed) (sym (take-more wanted_in os i o there)))))

pub batch_more : (batches : List Batch) (k : ℕ) (b : Batch) (listed more : List (List ℕ)) → slice_get batches k ≡ Some b → listed ≡ firsts [] (flat_map wanted_in (flat_map (λ (x : Batch). x.ops) (take k batches)))
    → more ≡ firsts listed (flat_map wanted_in b.ops) → more ≡ firsts [] (flat_map wanted_in (flat_map (λ (x : Batch). x.ops) (take (k + 1) batches)))
batch_more batches k b listed more there so_far one = rw add-one
    (one ∙ (ap (λ l. firsts l (flat_map wanted_in b.ops)) so_far
    ∙ (sym (firsts_append [] (flat_map wanted_in (flat_map (λ (x : Batch). x.ops) (take k batches))) (flat_map wanted_in b.ops))
    ∙ (ap (firsts []) (sym (flat_map-append wanted_in (flat_map (λ (x : Batch). x.ops) (take k batches)) b.ops))
    ∙ ap (λ l. firsts [] (flat_map wanted_in l)) (sym (take-more (λ (x : Batch). x.ops) batches k b there))))))
