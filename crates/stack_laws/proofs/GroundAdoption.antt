-- What the adoption agency algorithm leaves: the special elements in their order, and the formatting elements' entries.
use Rattle.std.proofs.Common.{◌≡◌, ◌⊎◌, inl, inr, refl, sym, ap, subst, ◌∙◌, true≢false, ℕ, zero, suc, ◌+◌, ◌-◌, ◌==◌, Bool, true, false, not, ◌&&◌, ◌||◌, List, [], ◌∷◌, ◌++◌, append_assoc, Option, Some, None}
use Rattle.std.specs.Prelude.{if◌then◌else◌}
use Rattle.std.proofs.lemmas.Option.{none-some, same_Some}
use Rattle.html_types.proofs.WordLemmas.{word_decides}
use Rattle.html_types.specs.Operations.{same_id, later}
use Rattle.html_types.specs.Words.{same_word}
use Rattle.html_types.specs.declared.word.Word.{Word}
use Rattle.html_types.specs.declared.word.Word.TheVariants as word
use Rattle.html_types.specs.declared.name.Name.{Name}
use Rattle.html_types.specs.declared.name.Name.TheVariants.{Known, Other}
use Rattle.html_types.specs.declared.token.Tag.{Tag}
use Rattle.html_types.specs.declared.operation.NodeId.{NodeId}
use Rattle.html_types.specs.declared.operation.Op.{Op}
use Rattle.html_types.specs.declared.open.Open.{Open}
use Rattle.html_types.specs.declared.instruction.Scope.TheVariants as scope
use Rattle.html_types.specs.declared.instruction.Turn.{Turn}
use Rattle.html_types.specs.declared.instruction.Turn.TheVariants.{More, Over, Other as OtherTag}
use Rattle.html_types.specs.declared.open.OpenElement.{OpenElement}
use Rattle.html_types.specs.declared.open.FormattingEntry.{FormattingEntry}
use Rattle.html_types.specs.declared.open.FormattingEntry.TheVariants.{Marker, Element}
use Rattle.standard.specs.Elements.{is_word}
use Rattle.standard.specs.Foreign.{opened}
use Rattle.standard.specs.Stack.{is_open, current_is, current_id, pop, open_in_scope, without_open, below, from_on, through, above, with_below, block_below}
use Rattle.standard.specs.Formatting.{entry_named, has_entry, tag_of_entry, later_than, entry_on, before_first, renewed, without_entry, with_id, with_behind}
use Rattle.standard.specs.Adoption.{Turned, turned, turn_with, turn_at, turn, turns, adopted, adopted_by, is_plain as is_plain_end, adopt, Climb, climb_at, climb_clone, climb_drop, climb_one, climb, joined, put_at_bookmark}
use Rattle.standard.specs.Act.{AreOpsBound}
use Rattle.rule_laws.specs.Naming.{AreOpenBound, AreFresh, Serves, known_after_all}
use Rattle.stack_laws.specs.Grounded.{is_vital, is_guard, is_formatting, is_known, is_special, with_name, core, is_orderly, is_rooted, is_loose, is_apart, are_apart, are_listed, Firm, FirmOf}
use Rattle.rule_laws.proofs.Calm.{split}
use Rattle.rule_laws.proofs.Takes.{both}
use Rattle.rule_laws.proofs.FreshnessDocs.{same-true}
use Rattle.rule_laws.proofs.FreshnessOps.{same-itself}
use Rattle.rule_laws.proofs.Thinned.{Thinned, thin-same}
use Rattle.rule_laws.proofs.FreshnessTexts.{later-later, fresh-follows}
use Rattle.rule_laws.proofs.AdoptionFreshness.{turn_at-fits}
use Rattle.stack_laws.proofs.Popped.{drops-thinned, Spares, firm-dropped, vital-guard}
use Rattle.stack_laws.proofs.Cores.{Drops, drops-none, loose-closed, not-true, not-false, either-false, neither, to-false, turned-ids, loose-thinned, apart-all-thinned, listed-by, owner-by}

-- ---- elements that aren't special

abbrev pub are_plain : List OpenElement → Bool
are_plain [] = true
are_plain (e ∷ es) = not (is_special e.name) && are_plain es

guards-special : (w : Word) → is_guard w && not (is_special (Known w)) ≡ false
guards-special word.A = refl
guards-special _ = refl

formatting-plain : (w : Word) → is_formatting w && is_special (Known w) ≡ false
formatting-plain word.A = refl
formatting-plain _ = refl

-- the elements that count are special
pub guard-special : (n : Name) → is_special n ≡ false → is_known is_guard n ≡ false
guard-special (Other s t) h = refl
guard-special (Known w) h = by (is_guard w) (is_special (Known w)) (guards-special w) h
  where
    by : (v x : Bool) → v && not x ≡ false → x ≡ false → v ≡ false
    by true true e g = absurd (true≢false g)
    by true false e g = absurd (true≢false e)
    by false x e g = refl

pub formatting-special : (n : Name) → is_known is_formatting n ≡ true → is_special n ≡ false
formatting-special (Other s t) h = absurd (true≢false (sym h))
formatting-special (Known w) h = by (is_formatting w) (is_special (Known w)) (formatting-plain w) h
  where
    by : (v x : Bool) → v && x ≡ false → v ≡ true → x ≡ false
    by true x e g = e
    by false x e g = absurd (true≢false (sym g))

pub guardless : (n : Name) (ws : List Word) → is_known is_guard n ≡ false → with_name n ws ≡ ws
guardless (Other s t) ws h = refl
guardless (Known w) ws h = by (is_guard w) h
  where
    by : (v : Bool) → v ≡ false → (if v then w ∷ ws else ws) ≡ ws
    by true e = absurd (true≢false e)
    by false e = refl

core-plain : (xs ys : List OpenElement) → are_plain xs ≡ true → core (xs ++ ys) ≡ core ys
core-plain [] ys h = refl
core-plain (e ∷ es) ys h =
    let p = split (not (is_special e.name)) (are_plain es) h in
    guardless e.name (core (es ++ ys)) (guard-special e.name (not-true (is_special e.name) p.0)) ∙ core-plain es ys p.1

core-behind : (xs ys zs : List OpenElement) → core ys ≡ core zs → core (xs ++ ys) ≡ core (xs ++ zs)
core-behind [] ys zs h = h
core-behind (e ∷ es) ys zs h = ap (with_name e.name) (core-behind es ys zs h)

rooted-behind : (xs : List OpenElement) (e : OpenElement) (ys : List OpenElement) → is_rooted (xs ++ e ∷ ys) ≡ is_rooted (e ∷ ys)
rooted-behind [] e ys = refl
rooted-behind (x ∷ []) e ys = refl
rooted-behind (x ∷ y ∷ xs) e ys = rooted-behind (y ∷ xs) e ys

-- ---- parts of the stack

thin-behind : (xs ys zs : List OpenElement) → Thinned ys zs → Thinned (xs ++ ys) (xs ++ zs)
thin-behind [] ys zs t = t
thin-behind (e ∷ es) ys zs t = inr (es ++ zs, refl, thin-behind es ys zs t)

thin-before : (xs ys zs : List OpenElement) → Thinned ys zs → Thinned (xs ++ ys) zs
thin-before [] ys zs t = t
thin-before (e ∷ es) ys zs t = inl (thin-before es ys zs t)

loose-inserted : (q : Name → Bool) (id : NodeId) (c : OpenElement) (xs ys : List OpenElement) → q c.name ≡ false → is_loose q (xs ++ ys) id ≡ true → is_loose q (xs ++ c ∷ ys) id ≡ true
loose-inserted q id c [] ys h l = both (not (q c.name && same_id c.id id)) (is_loose q ys id) (ap (λ v. not (v && same_id c.id id)) h) l
loose-inserted q id c (e ∷ es) ys h l =
    let p = split (not (q e.name && same_id e.id id)) (is_loose q (es ++ ys) id) l in
    both (not (q e.name && same_id e.id id)) (is_loose q (es ++ c ∷ ys) id) p.0 (loose-inserted q id c es ys h p.1)

open-inserted : (id : NodeId) (c : OpenElement) (xs ys : List OpenElement) → same_id c.id id ≡ false → is_open id (xs ++ ys) ≡ false → is_open id (xs ++ c ∷ ys) ≡ false
open-inserted id c [] ys h l = neither (same_id c.id id) (is_open id ys) h l
open-inserted id c (e ∷ es) ys h l =
    let p = either-false (same_id e.id id) (is_open id (es ++ ys)) l in
    neither (same_id e.id id) (is_open id (es ++ c ∷ ys)) p.0 (open-inserted id c es ys h p.1)

apart-inserted : (c : OpenElement) (xs ys : List OpenElement) → is_special c.name ≡ false → is_loose is_special (xs ++ ys) c.id ≡ true → are_apart (xs ++ ys) ≡ true → are_apart (xs ++ c ∷ ys) ≡ true
apart-inserted c [] ys h l a = both (is_apart c ys) (are_apart ys) (plain (is_special c.name) h) a
  where
    plain : (v : Bool) → v ≡ false → (if v then not (is_open c.id ys) else is_loose is_special ys c.id) ≡ true
    plain true e = absurd (true≢false e)
    plain false e = l
apart-inserted c (e ∷ es) ys h l a =
    let p = split (is_apart e (es ++ ys)) (are_apart (es ++ ys)) a in
    let r = split (not (is_special e.name && same_id e.id c.id)) (is_loose is_special (es ++ ys) c.id) l in
    both (is_apart e (es ++ c ∷ ys)) (are_apart (es ++ c ∷ ys)) (by (is_special e.name) p.0 r.0) (apart-inserted c es ys h r.1 p.1)
  where
    by : (v : Bool) → (if v then not (is_open e.id (es ++ ys)) else is_loose is_special (es ++ ys) e.id) ≡ true → not (v && same_id e.id c.id) ≡ true
        → (if v then not (is_open e.id (es ++ c ∷ ys)) else is_loose is_special (es ++ c ∷ ys) e.id) ≡ true
    by true g k = not-false (is_open e.id (es ++ c ∷ ys)) (open-inserted e.id c es ys (turned-ids e.id c.id (not-true (same_id e.id c.id) k)) (not-true (is_open e.id (es ++ ys)) g))
    by false g k = loose-inserted is_special e.id c es ys h g

-- elements that are neither special nor have a special one's id
abbrev pub are_new : List OpenElement → List OpenElement → Bool
are_new zs [] = true
are_new zs (c ∷ cs) = (not (is_special c.name) && is_loose is_special zs c.id) && are_new zs cs

new-parts : (zs : List OpenElement) (c : OpenElement) (cs : List OpenElement) → are_new zs (c ∷ cs) ≡ true → (is_special c.name ≡ false) × (is_loose is_special zs c.id ≡ true) × (are_new zs cs ≡ true)
new-parts zs c cs h =
    let p = split (not (is_special c.name) && is_loose is_special zs c.id) (are_new zs cs) h in
    let r = split (not (is_special c.name)) (is_loose is_special zs c.id) p.0 in
    (not-true (is_special c.name) r.0, r.1, p.1)

loose-all-inserted : (q : Name → Bool) (id : NodeId) (cs xs ys zs : List OpenElement) → ((n : Name) → is_special n ≡ false → q n ≡ false) → are_new zs cs ≡ true → is_loose q (xs ++ ys) id ≡ true → is_loose q (xs ++ (cs ++ ys)) id ≡ true
loose-all-inserted q id [] xs ys zs sub h l = l
loose-all-inserted q id (c ∷ cs) xs ys zs sub h l =
    let p = new-parts zs c cs h in loose-inserted q id c xs (cs ++ ys) (sub c.name p.0) (loose-all-inserted q id cs xs ys zs sub p.2 l)

apart-all-inserted : (cs xs ys : List OpenElement) → are_new (xs ++ ys) cs ≡ true → are_apart (xs ++ ys) ≡ true → are_apart (xs ++ (cs ++ ys)) ≡ true
apart-all-inserted [] xs ys h a = a
apart-all-inserted (c ∷ cs) xs ys h a =
    let p = new-parts (xs ++ ys) c cs h in
    apart-inserted c xs (cs ++ ys) p.0 (loose-all-inserted is_special c.id cs xs ys (xs ++ ys) (λ n g. g) p.2 p.1) (apart-all-inserted cs xs ys p.2 a)

new-thinned : (zs ds cs : List OpenElement) → Thinned zs ds → are_new zs cs ≡ true → are_new ds cs ≡ true
new-thinned zs ds [] t h = refl
new-thinned zs ds (c ∷ cs) t h =
    let p = new-parts zs c cs h in
    both (not (is_special c.name) && is_loose is_special ds c.id) (are_new ds cs) (both (not (is_special c.name)) (is_loose is_special ds c.id) (not-false (is_special c.name) p.0) (loose-thinned is_special c.id zs ds t p.1)) (new-thinned zs ds cs t p.2)

new-plain : (zs cs ys : List OpenElement) → are_new zs cs ≡ true → core (cs ++ ys) ≡ core ys
new-plain zs [] ys h = refl
new-plain zs (c ∷ cs) ys h = let p = new-parts zs c cs h in guardless c.name (core (cs ++ ys)) (guard-special c.name p.0) ∙ new-plain zs cs ys p.2

new-more : (zs cs : List OpenElement) (c : OpenElement) → are_new zs cs ≡ true → is_special c.name ≡ false → is_loose is_special zs c.id ≡ true → are_new zs (cs ++ c ∷ []) ≡ true
new-more zs [] c h k l = both (not (is_special c.name) && is_loose is_special zs c.id) true (both (not (is_special c.name)) (is_loose is_special zs c.id) (not-false (is_special c.name) k) l) refl
new-more zs (d ∷ cs) c h k l =
    let p = split (not (is_special d.name) && is_loose is_special zs d.id) (are_new zs cs) h in
    both (not (is_special d.name) && is_loose is_special zs d.id) (are_new zs (cs ++ c ∷ [])) p.0 (new-more zs cs c p.1 k l)

-- ---- walks past elements of other ids

through-past : (id : NodeId) (xs ys : List OpenElement) → is_open id xs ≡ false → through id (xs ++ ys) ≡ xs ++ through id ys
through-past id [] ys h = refl
through-past id (e ∷ es) ys h = let p = either-false (same_id e.id id) (is_open id es) h in by (same_id e.id id) p.0 (through-past id es ys p.1)
  where
    by : (v : Bool) → v ≡ false → through id (es ++ ys) ≡ es ++ through id ys → (if v then e ∷ [] else e ∷ through id (es ++ ys)) ≡ e ∷ (es ++ through id ys)
    by true g r = absurd (true≢false g)
    by false g r = ap (λ l. e ∷ l) r

above-past : (id : NodeId) (xs ys : List OpenElement) → is_open id xs ≡ false → above id (xs ++ ys) ≡ above id ys
above-past id [] ys h = refl
above-past id (e ∷ es) ys h = let p = either-false (same_id e.id id) (is_open id es) h in by (same_id e.id id) p.0 (above-past id es ys p.1)
  where
    by : (v : Bool) → v ≡ false → above id (es ++ ys) ≡ above id ys → (if v then es ++ ys else above id (es ++ ys)) ≡ above id ys
    by true g r = absurd (true≢false g)
    by false g r = r

from_on-past : (id : NodeId) (xs ys : List OpenElement) → is_open id xs ≡ false → from_on id (xs ++ ys) ≡ from_on id ys
from_on-past id [] ys h = refl
from_on-past id (e ∷ es) ys h = let p = either-false (same_id e.id id) (is_open id es) h in by (same_id e.id id) p.0 (from_on-past id es ys p.1)
  where
    by : (v : Bool) → v ≡ false → from_on id (es ++ ys) ≡ from_on id ys → (if v then e ∷ (es ++ ys) else from_on id (es ++ ys)) ≡ from_on id ys
    by true g r = absurd (true≢false g)
    by false g r = r

below-past : (id : NodeId) (xs ys : List OpenElement) → is_open id xs ≡ false → below id (xs ++ ys) ≡ xs ++ below id ys
below-past id [] ys h = refl
below-past id (e ∷ es) ys h = let p = either-false (same_id e.id id) (is_open id es) h in by (same_id e.id id) p.0 (below-past id es ys p.1)
  where
    by : (v : Bool) → v ≡ false → below id (es ++ ys) ≡ es ++ below id ys → (if v then [] else e ∷ below id (es ++ ys)) ≡ e ∷ (es ++ below id ys)
    by true g r = absurd (true≢false g)
    by false g r = ap (λ l. e ∷ l) r

without-past : (id : NodeId) (xs ys : List OpenElement) → is_open id xs ≡ false → without_open (Some id) (xs ++ ys) ≡ xs ++ without_open (Some id) ys
without-past id [] ys h = refl
without-past id (e ∷ es) ys h = let p = either-false (same_id e.id id) (is_open id es) h in by (same_id e.id id) p.0 (without-past id es ys p.1)
  where
    by : (v : Bool) → v ≡ false → without_open (Some id) (es ++ ys) ≡ es ++ without_open (Some id) ys → (if v then es ++ ys else e ∷ without_open (Some id) (es ++ ys)) ≡ e ∷ (es ++ without_open (Some id) ys)
    by true g r = absurd (true≢false g)
    by false g r = ap (λ l. e ∷ l) r

-- and at the element of the id
module _ (id : NodeId) (e : OpenElement) (es : List OpenElement) (is : same_id e.id id ≡ true) where
  through-at : through id (e ∷ es) ≡ e ∷ []
  through-at = ap (λ v. if v then e ∷ [] else e ∷ through id es) is

  above-at : above id (e ∷ es) ≡ es
  above-at = ap (λ v. if v then es else above id es) is

  from_on-at : from_on id (e ∷ es) ≡ e ∷ es
  from_on-at = ap (λ v. if v then e ∷ es else from_on id es) is

  below-at : below id (e ∷ es) ≡ []
  below-at = ap (λ v. if v then [] else e ∷ below id es) is

  without-at : without_open (Some id) (e ∷ es) ≡ es
  without-at = ap (λ v. if v then es else e ∷ without_open (Some id) es) is

-- ---- the stack at the furthest block and the formatting element

record Parts (f block : NodeId) (es : List OpenElement) : Type 0 where
  before : List OpenElement
  at_block : OpenElement
  between : List OpenElement
  at_f : OpenElement
  rest : List OpenElement
  is : es ≡ before ++ at_block ∷ (between ++ at_f ∷ rest)
  special : is_special at_block.name ≡ true
  block_id : at_block.id ≡ block
  f_id : same_id at_f.id f ≡ true
  plain : are_plain between ≡ true
  f_between : is_open f between ≡ false
  f_block : same_id at_block.id f ≡ false
  f_before : is_open f before ≡ false
  block_before : is_open block before ≡ false

record Front (f : NodeId) (es : List OpenElement) : Type 0 where
  between : List OpenElement
  at_f : OpenElement
  rest : List OpenElement
  is : es ≡ between ++ at_f ∷ rest
  f_id : same_id at_f.id f ≡ true
  plain : are_plain between ≡ true
  f_between : is_open f between ≡ false

-- an element before the furthest block has another id
apart-block : (e : OpenElement) (xs : List OpenElement) (b : OpenElement) (ys : List OpenElement) → is_apart e (xs ++ b ∷ ys) ≡ true → is_special b.name ≡ true → same_id e.id b.id ≡ false
apart-block e xs b ys a s = by (is_special e.name) a
  where
    in_open : (zs : List OpenElement) → is_open e.id (zs ++ b ∷ ys) ≡ false → same_id b.id e.id ≡ false
    in_open [] h = (either-false (same_id b.id e.id) (is_open e.id ys) h).0
    in_open (z ∷ zs) h = in_open zs (either-false (same_id z.id e.id) (is_open e.id (zs ++ b ∷ ys)) h).1

    in_loose : (zs : List OpenElement) → is_loose is_special (zs ++ b ∷ ys) e.id ≡ true → same_id b.id e.id ≡ false
    in_loose [] h =
        let p = split (not (is_special b.name && same_id b.id e.id)) (is_loose is_special ys e.id) h in
        not-true (same_id b.id e.id) (subst (λ v. not (v && same_id b.id e.id) ≡ true) s p.0)
    in_loose (z ∷ zs) h = in_loose zs (split (not (is_special z.name && same_id z.id e.id)) (is_loose is_special (zs ++ b ∷ ys) e.id) h).1

    by : (v : Bool) → (if v then not (is_open e.id (xs ++ b ∷ ys)) else is_loose is_special (xs ++ b ∷ ys) e.id) ≡ true → same_id e.id b.id ≡ false
    by true h = turned-ids b.id e.id (in_open xs (not-true (is_open e.id (xs ++ b ∷ ys)) h))
    by false h = turned-ids b.id e.id (in_loose xs h)

parts-by : (f block : NodeId) (found : Option NodeId) (es : List OpenElement) → are_apart es ≡ true → block_below f found es ≡ Some block → is_open f es ≡ true → ((found ≡ Some block) × Front f es) ⊎ Parts f block es
parts-by f block found [] a h o = absurd (true≢false (sym o))
parts-by f block found (e ∷ es) a h o =
    let p = split (is_apart e es) (are_apart es) a in
    by (same_id e.id f) refl h o (parts-by f block (if is_special e.name then Some e.id else found) es p.1) p.0
  where
    more : (v : Bool) → is_special e.name ≡ v → same_id e.id f ≡ false → is_apart e es ≡ true → (((if v then Some e.id else found) ≡ Some block) × Front f es) ⊎ Parts f block es
        → ((found ≡ Some block) × Front f (e ∷ es)) ⊎ Parts f block (e ∷ es)
    more true s n a' (inl (q, front)) =
        inr (record {
          before = [];
          at_block = e;
          between = front.between;
          at_f = front.at_f;
          rest = front.rest;
          is = ap (λ l. e ∷ l) front.is;
          special = s;
          block_id = same_Some e.id block q;
          f_id = front.f_id;
          plain = front.plain;
          f_between = front.f_between;
          f_block = n;
          f_before = refl;
          block_before = refl;
        })
    more false s n a' (inl (q, front)) =
        inl (
          q,
          record {
            between = e ∷ front.between;
            at_f = front.at_f;
            rest = front.rest;
            is = ap (λ l. e ∷ l) front.is;
            f_id = front.f_id;
            plain = both (not (is_special e.name)) (are_plain front.between) (not-false (is_special e.name) s) front.plain;
            f_between = neither (same_id e.id f) (is_open f front.between) n front.f_between;
          },
        )
    more v s n a' (inr parts) =
        inr (record {
          before = e ∷ parts.before;
          at_block = parts.at_block;
          between = parts.between;
          at_f = parts.at_f;
          rest = parts.rest;
          is = ap (λ l. e ∷ l) parts.is;
          special = parts.special;
          block_id = parts.block_id;
          f_id = parts.f_id;
          plain = parts.plain;
          f_between = parts.f_between;
          f_block = parts.f_block;
          f_before = neither (same_id e.id f) (is_open f parts.before) n parts.f_before;
          block_before =
              neither (same_id e.id block) (is_open block parts.before)
              (subst (λ i. same_id e.id i ≡ false) parts.block_id (apart-block e parts.before parts.at_block (parts.between ++ parts.at_f ∷ parts.rest) (subst (λ l. is_apart e l ≡ true) parts.is a') parts.special))
              parts.block_before;
        })

    by : (v : Bool) → same_id e.id f ≡ v → (if v then found else block_below f (if is_special e.name then Some e.id else found) es) ≡ Some block → (v || is_open f es) ≡ true
        → (block_below f (if is_special e.name then Some e.id else found) es ≡ Some block → is_open f es ≡ true → (((if is_special e.name then Some e.id else found) ≡ Some block) × Front f es) ⊎ Parts f block es)
        → is_apart e es ≡ true → ((found ≡ Some block) × Front f (e ∷ es)) ⊎ Parts f block (e ∷ es)
    by true n h' o' rest a' = inl (h', record { between = []; at_f = e; rest = es; is = refl; f_id = n; plain = refl; f_between = refl })
    by false n h' o' rest a' = more (is_special e.name) refl n a' (rest h' o')

parts : (f block : NodeId) (es : List OpenElement) → are_apart es ≡ true → block_below f None es ≡ Some block → is_open f es ≡ true → Parts f block es
parts f block es a h o = by (parts-by f block None es a h o)
  where
    by : ((None ≡ Some block) × Front f es) ⊎ Parts f block es → Parts f block es
    by (inl (q, front)) = absurd (none-some block q)
    by (inr p) = p

-- ---- the stack put together again

snoc : (xs : List OpenElement) (b : OpenElement) (ys : List OpenElement) → (xs ++ b ∷ []) ++ ys ≡ xs ++ b ∷ ys
snoc xs b ys = append_assoc xs (b ∷ []) ys

append-none : (xs : List OpenElement) → xs ++ [] ≡ xs
append-none [] = refl
append-none (e ∷ es) = ap (λ l. e ∷ l) (append-none es)

closed-append : (id : NodeId) (xs ys : List OpenElement) → is_open id xs ≡ false → is_open id ys ≡ false → is_open id (xs ++ ys) ≡ false
closed-append id [] ys h k = k
closed-append id (e ∷ es) ys h k =
    let p = either-false (same_id e.id id) (is_open id es) h in neither (same_id e.id id) (is_open id (es ++ ys)) p.0 (closed-append id es ys p.1 k)

module _ (f block : NodeId) (st kept : List OpenElement) (clone : OpenElement) (p : Parts f block st) (away : is_open f kept ≡ false) where
  at_id : same_id p.at_block.id block ≡ true
  at_id = subst (λ i. same_id p.at_block.id i ≡ true) p.block_id (same-itself p.at_block.id)

  through-is : through block st ≡ p.before ++ p.at_block ∷ []
  through-is =
      ap (through block) p.is ∙ (through-past block p.before (p.at_block ∷ (p.between ++ p.at_f ∷ p.rest)) p.block_before
      ∙ ap (λ l. p.before ++ l) (through-at block p.at_block (p.between ++ p.at_f ∷ p.rest) at_id))

  above-is : from_on f (above block st) ≡ p.at_f ∷ p.rest
  above-is =
      ap (λ l. from_on f (above block l)) p.is
      ∙ (ap (from_on f) (above-past block p.before (p.at_block ∷ (p.between ++ p.at_f ∷ p.rest)) p.block_before ∙ above-at block p.at_block (p.between ++ p.at_f ∷ p.rest) at_id)
      ∙ (from_on-past f p.between (p.at_f ∷ p.rest) p.f_between ∙ from_on-at f p.at_f p.rest p.f_id))

  joined-is : joined f block st kept ≡ ((p.before ++ p.at_block ∷ []) ++ kept) ++ p.at_f ∷ p.rest
  joined-is = ap (λ l. l ++ kept ++ from_on f (above block st)) through-is ∙ ap (λ l. ((p.before ++ p.at_block ∷ []) ++ kept) ++ l) above-is

  without-is : without_open (Some f) (joined f block st kept) ≡ p.before ++ p.at_block ∷ (kept ++ p.rest)
  without-is =
      ap (without_open (Some f)) joined-is
      ∙ (without-past f ((p.before ++ p.at_block ∷ []) ++ kept) (p.at_f ∷ p.rest)
      (closed-append f (p.before ++ p.at_block ∷ []) kept (closed-append f p.before (p.at_block ∷ []) p.f_before (neither (same_id p.at_block.id f) false p.f_block refl)) away)
      ∙ (ap (λ l. ((p.before ++ p.at_block ∷ []) ++ kept) ++ l) (without-at f p.at_f p.rest p.f_id)
      ∙ (append_assoc (p.before ++ p.at_block ∷ []) kept p.rest ∙ snoc p.before p.at_block (kept ++ p.rest))))

  stack-is : with_below block clone (without_open (Some f) (joined f block st kept)) ≡ p.before ++ clone ∷ (p.at_block ∷ (kept ++ p.rest))
  stack-is =
      let es : List OpenElement = p.at_block ∷ (kept ++ p.rest) in
      ap (with_below block clone) without-is
      ∙ (ap (λ l. l ++ clone ∷ from_on block (p.before ++ es)) (below-past block p.before es p.block_before ∙ (ap (λ l. p.before ++ l) (below-at block p.at_block (kept ++ p.rest) at_id) ∙ append-none p.before))
      ∙ ap (λ l. p.before ++ clone ∷ l) (from_on-past block p.before es p.block_before ∙ from_on-at block p.at_block (kept ++ p.rest) at_id))

-- an element with an id that is loose isn't of those
loose-at : (q : Name → Bool) (id : NodeId) (xs : List OpenElement) (e : OpenElement) (ys : List OpenElement) → is_loose q (xs ++ e ∷ ys) id ≡ true → same_id e.id id ≡ true → q e.name ≡ false
loose-at q id [] e ys h s = let p = split (not (q e.name && same_id e.id id)) (is_loose q ys id) h in both-false (q e.name) (same_id e.id id) (not-true (q e.name && same_id e.id id) p.0) s
  where
    both-false : (v w : Bool) → v && w ≡ false → w ≡ true → v ≡ false
    both-false true w g k = absurd (true≢false (sym k ∙ g))
    both-false false w g k = refl
loose-at q id (x ∷ xs) e ys h s = loose-at q id xs e ys (split (not (q x.name && same_id x.id id)) (is_loose q (xs ++ e ∷ ys) id) h).1 s

special-rooted : (e : OpenElement) (es : List OpenElement) → is_special e.name ≡ false → is_rooted (e ∷ es) ≡ true → is_rooted es ≡ true
special-rooted e [] h r = refl
special-rooted e (d ∷ es) h r = r

special-word : (n : Name) → is_special n ≡ false → is_word word.Html n ≡ false
special-word (Other s t) h = refl
special-word (Known w) h = to-false (same_word w word.Html) (λ g. true≢false (sym (subst (λ v. is_special (Known v) ≡ true) (sym ((word_decides w word.Html).0 g)) refl) ∙ h))

rooted-swap : (e : OpenElement) (es bs : List OpenElement) (b : OpenElement) → is_special e.name ≡ false → is_rooted (e ∷ es) ≡ true → is_rooted (b ∷ (bs ++ es)) ≡ true
rooted-swap e [] bs b h r = absurd (true≢false (sym r ∙ special-word e.name h))
rooted-swap e (d ∷ es) bs b h r = rooted-behind (b ∷ bs) d es ∙ r

-- the stack that the algorithm leaves
module _ (f block : NodeId) (st kept : List OpenElement) (clone : OpenElement) (p : Parts f block st) (fs : List FormattingEntry) (form : Option NodeId) (firm : Firm st fs form)
    (f_loose : is_loose is_special st f ≡ true) (fresh : are_new st (clone ∷ kept) ≡ true) where
  rebuilt_stack : List OpenElement
  rebuilt_stack = p.before ++ clone ∷ (p.at_block ∷ (kept ++ p.rest))

  f_plain : is_special p.at_f.name ≡ false
  f_plain =
      loose-at is_special f (p.before ++ p.at_block ∷ p.between) p.at_f p.rest
      (subst (λ l. is_loose is_special l f ≡ true) (p.is ∙ sym (append_assoc p.before (p.at_block ∷ p.between) (p.at_f ∷ p.rest))) f_loose) p.f_id

  new_parts : (is_special clone.name ≡ false) × (is_loose is_special st clone.id ≡ true) × (are_new st kept ≡ true)
  new_parts = new-parts st clone kept fresh

  rebuilt-core : core (p.before ++ clone ∷ (p.at_block ∷ (kept ++ p.rest))) ≡ core st
  rebuilt-core =
      core-behind p.before (clone ∷ (p.at_block ∷ (kept ++ p.rest))) (p.at_block ∷ (p.between ++ p.at_f ∷ p.rest))
      (guardless clone.name (core (p.at_block ∷ (kept ++ p.rest))) (guard-special clone.name new_parts.0)
      ∙ ap (with_name p.at_block.name) (new-plain st kept p.rest new_parts.2 ∙ sym (core-plain p.between (p.at_f ∷ p.rest) p.plain ∙ guardless p.at_f.name (core p.rest) (guard-special p.at_f.name f_plain))))
      ∙ ap core (sym p.is)

  thin : Thinned st (p.before ++ p.at_block ∷ p.rest)
  thin =
      subst (λ l. Thinned l (p.before ++ p.at_block ∷ p.rest)) (sym p.is)
      (thin-behind p.before (p.at_block ∷ (p.between ++ p.at_f ∷ p.rest)) (p.at_block ∷ p.rest)
      (inr (p.rest, refl, thin-before p.between (p.at_f ∷ p.rest) p.rest (inl (thin-same p.rest)))))

  -- an id that is loose stays loose
  loose-rebuilt : (q : Name → Bool) → ((n : Name) → is_special n ≡ false → q n ≡ false) → (id : NodeId) → is_loose q st id ≡ true → is_loose q (p.before ++ clone ∷ (p.at_block ∷ (kept ++ p.rest))) id ≡ true
  loose-rebuilt q sub id h =
      let zs : List OpenElement = p.before ++ p.at_block ∷ p.rest in
      let l : is_loose q zs id ≡ true = loose-thinned q id st zs thin h in
      loose-inserted q id clone p.before (p.at_block ∷ (kept ++ p.rest)) (sub clone.name new_parts.0)
      (subst (λ x. is_loose q x id ≡ true) (snoc p.before p.at_block (kept ++ p.rest))
      (loose-all-inserted q id kept (p.before ++ p.at_block ∷ []) p.rest st sub new_parts.2 (subst (λ x. is_loose q x id ≡ true) (sym (snoc p.before p.at_block p.rest)) l)))

  apart-rebuilt : are_apart (p.before ++ clone ∷ (p.at_block ∷ (kept ++ p.rest))) ≡ true
  apart-rebuilt =
      let zs : List OpenElement = p.before ++ p.at_block ∷ p.rest in
      let front : List OpenElement = p.before ++ p.at_block ∷ [] in
      let a : are_apart zs ≡ true = apart-all-thinned st zs thin firm.apart in
      let n : are_new zs kept ≡ true = new-thinned st zs kept thin new_parts.2 in
      let l : is_loose is_special zs clone.id ≡ true = loose-thinned is_special clone.id st zs thin new_parts.1 in
      let back = sym (snoc p.before p.at_block p.rest) in
      let on = snoc p.before p.at_block (kept ++ p.rest) in
      let all : are_apart (front ++ (kept ++ p.rest)) ≡ true = apart-all-inserted kept front p.rest (subst (λ x. are_new x kept ≡ true) back n) (subst (λ x. are_apart x ≡ true) back a) in
      let loose : is_loose is_special (front ++ (kept ++ p.rest)) clone.id ≡ true =
      loose-all-inserted is_special clone.id kept front p.rest st (λ m g. g) new_parts.2 (subst (λ x. is_loose is_special x clone.id ≡ true) back l) in
      apart-inserted clone p.before (p.at_block ∷ (kept ++ p.rest)) new_parts.0 (subst (λ x. is_loose is_special x clone.id ≡ true) on loose) (subst (λ x. are_apart x ≡ true) on all)

  rebuilt-firm : (gs : List FormattingEntry) → are_listed st gs ≡ true → Firm (p.before ++ clone ∷ (p.at_block ∷ (kept ++ p.rest))) gs form
  rebuilt-firm gs listed = record {
    order = subst (λ ws. is_orderly ws ≡ true) (sym rebuilt-core) firm.order;
    root =
        rooted-behind p.before clone (p.at_block ∷ (kept ++ p.rest))
        ∙ rooted-swap p.at_f p.rest kept p.at_block f_plain
        (sym (rooted-behind (p.before ++ p.at_block ∷ p.between) p.at_f p.rest) ∙ (ap is_rooted (append_assoc p.before (p.at_block ∷ p.between) (p.at_f ∷ p.rest) ∙ sym p.is) ∙ firm.root));
    apart = apart-rebuilt;
    entries = listed-by st (p.before ++ clone ∷ (p.at_block ∷ (kept ++ p.rest))) (loose-rebuilt is_special (λ n g. g)) gs listed;
    owner = owner-by (is_known is_guard) st (p.before ++ clone ∷ (p.at_block ∷ (kept ++ p.rest))) (loose-rebuilt (is_known is_guard) guard-special) form firm.owner;
  }

-- ---- the entries

module _ (es : List OpenElement) where
  entry-parts : (id : NodeId) (tag : Tag) (fs : List FormattingEntry) → are_listed es (Element id tag ∷ fs) ≡ true → (is_known is_formatting tag.name ≡ true) × (is_loose is_special es id ≡ true) × (are_listed es fs ≡ true)
  entry-parts id tag fs h =
      let p = split (is_known is_formatting tag.name && is_loose is_special es id) (are_listed es fs) h in
      let r = split (is_known is_formatting tag.name) (is_loose is_special es id) p.0 in
      (r.0, r.1, p.1)

  pub entry-listed : (id : NodeId) (tag : Tag) (fs : List FormattingEntry) → is_known is_formatting tag.name ≡ true → is_loose is_special es id ≡ true → are_listed es fs ≡ true → are_listed es (Element id tag ∷ fs) ≡ true
  entry-listed id tag fs t l h =
      both (is_known is_formatting tag.name && is_loose is_special es id) (are_listed es fs) (both (is_known is_formatting tag.name) (is_loose is_special es id) t l) h

  listed-if : (v : Bool) (fs gs : List FormattingEntry) → are_listed es fs ≡ true → are_listed es gs ≡ true → are_listed es (if v then fs else gs) ≡ true
  listed-if true fs gs h k = h
  listed-if false fs gs h k = k

  listed-append : (fs gs : List FormattingEntry) → are_listed es fs ≡ true → are_listed es gs ≡ true → are_listed es (fs ++ gs) ≡ true
  listed-append [] gs h k = k
  listed-append (Marker ∷ fs) gs h k = listed-append fs gs h k
  listed-append (Element id tag ∷ fs) gs h k = let p = entry-parts id tag fs h in entry-listed id tag (fs ++ gs) p.0 p.1 (listed-append fs gs p.2 k)

  later-listed : (id : NodeId) (fs : List FormattingEntry) → are_listed es fs ≡ true → are_listed es (later_than id fs) ≡ true
  later-listed id [] h = refl
  later-listed id (Marker ∷ fs) h = later-listed id fs h
  later-listed id (Element i tag ∷ fs) h = let p = entry-parts i tag fs h in listed-if (same_id i id) [] (Element i tag ∷ later_than id fs) refl (entry-listed i tag (later_than id fs) p.0 p.1 (later-listed id fs p.2))

  on-listed : (id : NodeId) (fs : List FormattingEntry) → are_listed es fs ≡ true → are_listed es (entry_on id fs) ≡ true
  on-listed id [] h = refl
  on-listed id (Marker ∷ fs) h = on-listed id fs h
  on-listed id (Element i tag ∷ fs) h = listed-if (same_id i id) (Element i tag ∷ fs) (entry_on id fs) h (on-listed id fs (entry-parts i tag fs h).2)

  first-listed : (fs : List FormattingEntry) → are_listed es fs ≡ true → are_listed es (before_first fs) ≡ true
  first-listed [] h = refl
  first-listed (Marker ∷ fs) h = h
  first-listed (Element i tag ∷ fs) h = (entry-parts i tag fs h).2

  renewed-listed : (id : NodeId) (fs : List FormattingEntry) → is_loose is_special es id ≡ true → are_listed es fs ≡ true → are_listed es (renewed id fs) ≡ true
  renewed-listed id [] l h = refl
  renewed-listed id (Marker ∷ fs) l h = h
  renewed-listed id (Element i tag ∷ fs) l h = let p = entry-parts i tag fs h in entry-listed id tag fs p.0 l p.2

  pub without-listed : (id : NodeId) (fs : List FormattingEntry) → are_listed es fs ≡ true → are_listed es (without_entry id fs) ≡ true
  without-listed id fs h = listed-append (later_than id fs) (before_first (entry_on id fs)) (later-listed id fs h) (first-listed (entry_on id fs) (on-listed id fs h))

  with_id-listed : (id new : NodeId) (fs : List FormattingEntry) → is_loose is_special es new ≡ true → are_listed es fs ≡ true → are_listed es (with_id id new fs) ≡ true
  with_id-listed id new fs l h = listed-append (later_than id fs) (renewed new (entry_on id fs)) (later-listed id fs h) (renewed-listed new (entry_on id fs) l (on-listed id fs h))

  with_behind-listed : (id new : NodeId) (tag : Tag) (fs : List FormattingEntry) → is_known is_formatting tag.name ≡ true → is_loose is_special es new ≡ true → are_listed es fs ≡ true → are_listed es (with_behind id (Element new tag) fs) ≡ true
  with_behind-listed id new tag fs t l h = listed-append (later_than id fs) (Element new tag ∷ entry_on id fs) (later-listed id fs h) (entry-listed new tag (entry_on id fs) t l (on-listed id fs h))

  bookmark-listed : (f new : NodeId) (tag : Tag) (m : Option NodeId) (fs : List FormattingEntry) → is_known is_formatting tag.name ≡ true → is_loose is_special es new ≡ true → are_listed es fs ≡ true → are_listed es (put_at_bookmark f new tag m fs) ≡ true
  bookmark-listed f new tag None fs t l h = with_id-listed f new fs l h
  bookmark-listed f new tag (Some m) fs t l h = without-listed f (with_behind m (Element new tag) fs) (with_behind-listed m new tag fs t l h)

  abbrev FormattingIfAny : Option Tag → Type 0
  FormattingIfAny None = Unit {0}
  FormattingIfAny (Some tag) = is_known is_formatting tag.name ≡ true

  tag-formatting : (id : NodeId) (fs : List FormattingEntry) → are_listed es fs ≡ true → FormattingIfAny (tag_of_entry id fs)
  tag-formatting id [] h = tt
  tag-formatting id (Marker ∷ fs) h = tag-formatting id fs h
  tag-formatting id (Element i tag ∷ fs) h = let p = entry-parts i tag fs h in by (same_id i id) p.0 (tag-formatting id fs p.2)
    where
      by : (v : Bool) → is_known is_formatting tag.name ≡ true → FormattingIfAny (tag_of_entry id fs) → FormattingIfAny (if v then Some tag else tag_of_entry id fs)
      by true t rest = t
      by false t rest = rest

  abbrev pub LooseIfAny : Option NodeId → Type 0
  LooseIfAny None = Unit {0}
  LooseIfAny (Some id) = is_loose is_special es id ≡ true

  pub entry-loose : (is : Name → Bool) (fs : List FormattingEntry) → are_listed es fs ≡ true → LooseIfAny (entry_named is fs)
  entry-loose is [] h = tt
  entry-loose is (Marker ∷ fs) h = tt
  entry-loose is (Element i tag ∷ fs) h = let p = entry-parts i tag fs h in by (is tag.name) p.1 (entry-loose is fs p.2)
    where
      by : (v : Bool) → is_loose is_special es i ≡ true → LooseIfAny (entry_named is fs) → LooseIfAny (if v then Some i else entry_named is fs)
      by true l rest = l
      by false l rest = rest

-- ---- the inner loop

-- the ids that are bound are those of the stack, and others are given
unknown-closed : (known : NodeId → Bool) (id : NodeId) (es : List OpenElement) → known id ≡ false → AreOpenBound known es → is_open id es ≡ false
unknown-closed known id [] h a = refl
unknown-closed known id (e ∷ es) h a =
    neither (same_id e.id id) (is_open id es) (to-false (same_id e.id id) (λ s. true≢false (sym (subst (λ i. known i ≡ true) (same-true e.id id s) a.0) ∙ h))) (unknown-closed known id es h a.1)

abbrev are_unknown : (NodeId → Bool) → List OpenElement → Bool
are_unknown known [] = true
are_unknown known (e ∷ es) = not (known e.id) && are_unknown known es

unknown-more : (known : NodeId → Bool) (es : List OpenElement) (e : OpenElement) → are_unknown known es ≡ true → known e.id ≡ false → are_unknown known (es ++ e ∷ []) ≡ true
unknown-more known [] e h k = both (not (known e.id)) true (not-false (known e.id) k) refl
unknown-more known (d ∷ es) e h k =
    let p = split (not (known d.id)) (are_unknown known es) h in both (not (known d.id)) (are_unknown known (es ++ e ∷ [])) p.0 (unknown-more known es e p.1 k)

unknown-away : (known : NodeId → Bool) (id : NodeId) (es : List OpenElement) → are_unknown known es ≡ true → known id ≡ true → is_open id es ≡ false
unknown-away known id [] h k = refl
unknown-away known id (e ∷ es) h k =
    let p = split (not (known e.id)) (are_unknown known es) h in
    neither (same_id e.id id) (is_open id es) (to-false (same_id e.id id) (λ s. true≢false (sym k ∙ subst (λ i. known i ≡ false) (same-true e.id id s) (not-true (known e.id) p.0)))) (unknown-away known id es p.1 k)

fresh-now : (known : NodeId → Bool) (id : NodeId) → AreFresh known id → known id ≡ false
fresh-now known id h = fresh-follows.fresh known id h

fresh-on : (known : NodeId → Bool) (id : NodeId) → AreFresh known id → AreFresh known (later 1 id)
fresh-on known id h k = ap known (later-later k id) ∙ h (1 + k)

module _ (known : NodeId → Bool) (st : List OpenElement) (bound : AreOpenBound known st) where
  record ClimbFirm (c : Climb) : Type 0 where
    listed : are_listed st c.formats ≡ true
    new : are_new st c.kept ≡ true
    unknown : are_unknown known c.kept ≡ true
    fresh : AreFresh known c.next

  next-loose : (id : NodeId) → AreFresh known id → is_loose is_special st id ≡ true
  next-loose id h = loose-closed is_special id st (unknown-closed known id st (fresh-now known id h) bound)

  clone-firm : (id : NodeId) (tag : Option Tag) (c : Climb) → FormattingIfAny st tag → ClimbFirm c → ClimbFirm (climb_clone id tag c)
  clone-firm id None c t h = h
  clone-firm id (Some tag) c t h = record {
    listed = with_id-listed st id c.next c.formats (next-loose c.next h.fresh) h.listed;
    new = new-more st c.kept (opened c.next tag) h.new (formatting-special tag.name t) (next-loose c.next h.fresh);
    unknown = unknown-more known c.kept (opened c.next tag) h.unknown (fresh-now known c.next h.fresh);
    fresh = fresh-on known c.next h.fresh;
  }

  dropped-listed : (left : ℕ) (id : NodeId) (fs : List FormattingEntry) → are_listed st fs ≡ true → are_listed st (climb_drop left id fs) ≡ true
  dropped-listed left id fs h = listed-if st (left == 0) (without_entry id fs) fs (without-listed st id fs h) h

  climb-firm : (left : ℕ) (es : List OpenElement) (c : Climb) → ClimbFirm c → ClimbFirm (climb left es c)
  climb-firm left [] c h = h
  climb-firm left (e ∷ es) c h =
      let fs : List FormattingEntry = climb_drop left e.id c.formats in
      let l : are_listed st fs ≡ true = dropped-listed left e.id c.formats h.listed in
      climb-firm (left - 1) es (climb_one left e.id c)
      (clone-firm e.id (tag_of_entry e.id fs) (climb_at fs c.next c.ops c.kept c.last c.bookmark) (tag-formatting st e.id fs l) (record { listed = l; new = h.new; unknown = h.unknown; fresh = h.fresh }))

-- ---- turns

-- what the algorithm keeps
abbrev pub Adopts : Open → Open → Type 0
Adopts b c = FirmOf c × (core c.stack ≡ core b.stack) × (c.frameset_ok ≡ true → b.frameset_ok ≡ true) × ((i : NodeId) → is_loose is_special b.stack i ≡ true → is_loose is_special c.stack i ≡ true)

adopts-on : (a b c : Open) → Adopts a b → Adopts b c → Adopts a c
adopts-on a b c h k = (k.0, k.1 ∙ h.1, λ e. h.2 (k.2 e), λ i l. k.3 i (h.3 i l))

other-entries : (b : Open) (fs : List FormattingEntry) → FirmOf b → are_listed b.stack fs ≡ true → Firm b.stack fs b.form
other-entries b fs f l = record { order = f.order; root = f.root; apart = f.apart; entries = l; owner = f.owner }

-- where there is no furthest block, no special element is popped
found-stays : (f x : NodeId) (es : List OpenElement) → block_below f (Some x) es ≡ None → ⊥
found-stays f x [] h = none-some x (sym h)
found-stays f x (e ∷ es) h = by (same_id e.id f) (is_special e.name) h (found-stays f e.id es) (found-stays f x es)
  where
    by : (v w : Bool) → (if v then Some x else block_below f (if w then Some e.id else Some x) es) ≡ None → (block_below f (Some e.id) es ≡ None → ⊥) → (block_below f (Some x) es ≡ None → ⊥) → ⊥
    by true w g here there = none-some x (sym g)
    by false true g here there = here g
    by false false g here there = there g

no-block : (f : NodeId) (es : List OpenElement) → block_below f None es ≡ None → is_open f es ≡ true → is_loose is_special es f ≡ true → Drops (λ n. not (is_special n)) es (above f es)
no-block f [] h o l = refl
no-block f (e ∷ es) h o l =
    let p = split (not (is_special e.name && same_id e.id f)) (is_loose is_special es f) l in
    by (same_id e.id f) (is_special e.name) refl p.0 h o (λ g k. no-block f es g k p.1)
  where
    by : (v w : Bool) → is_special e.name ≡ w → not (w && v) ≡ true → (if v then None else block_below f (if w then Some e.id else None) es) ≡ None → (v || is_open f es) ≡ true
        → (block_below f None es ≡ None → is_open f es ≡ true → Drops (λ n. not (is_special n)) es (above f es)) → Drops (λ n. not (is_special n)) (e ∷ es) (if v then es else above f es)
    by true true s n g k rest = absurd (true≢false (sym n))
    by true false s n g k rest = inr (ap not s, drops-none (λ m. not (is_special m)) es)
    by false true s n g k rest = absurd (found-stays f e.id es g)
    by false false s n g k rest = inr (ap not s, rest g k)

pub core-dropped : (q : Name → Bool) → Spares is_guard q → (es ds : List OpenElement) → Drops q es ds → core ds ≡ core es
core-dropped q spares [] ds d = ap core d
core-dropped q spares (e ∷ es) ds (inl d) = ap core d
core-dropped q spares (e ∷ es) ds (inr d) = core-dropped q spares es ds d.1 ∙ sym (guardless e.name (core es) (spares e.name d.0))

pub guard-vital : (q : Name → Bool) → Spares is_guard q → Spares is_vital q
guard-vital q h (Known w) e = vital-guard w (h (Known w) e)
guard-vital q h (Other s t) e = refl

plain-spares : Spares is_guard (λ n. not (is_special n))
plain-spares n h = guard-special n (not-true (is_special n) h)

module _ (known : NodeId → Bool) where
  abbrev after : List Op → NodeId → Bool
  after o = known_after_all known o

  turn_with-firm : (f : NodeId) (tag : Option Tag) (block : Option NodeId) (b : Open) (o : List Op) → Serves AreFresh (after o) b → FirmOf b → is_loose is_special b.stack f ≡ true → is_open f b.stack ≡ true
      → FormattingIfAny b.stack tag → block_below f None b.stack ≡ block → after o f ≡ true → Adopts b (turn_with f tag block b o).open_state
  turn_with-firm f None block b o s firm l open_ t e k = (firm, refl, λ x. x, λ j l. l)
  turn_with-firm f (Some tag) None b o s firm l open_ t e k =
      let d = no-block f b.stack e open_ l in
      let left : Firm (above f b.stack) b.formats b.form = firm-dropped (λ n. not (is_special n)) (guard-vital _ plain-spares) b.stack (above f b.stack) b.formats b.form d firm in
      (other-entries (record b { stack = above f b.stack }) (without_entry f b.formats) left (without-listed (above f b.stack) f b.formats left.entries), core-dropped (λ n. not (is_special n)) plain-spares b.stack (above f b.stack) d, λ x. x, λ j q. loose-thinned is_special j b.stack (above f b.stack) (drops-thinned (λ n. not (is_special n)) b.stack (above f b.stack) d) q)
  turn_with-firm f (Some tag) (Some block) b o s firm l open_ t e k =
      let start : Climb = climb_at b.formats b.next o [] block None in
      let c : Climb = climb 3 (below f (above block b.stack)) start in
      let g : ClimbFirm (after o) b.stack s.stack_bound c =
      climb-firm (after o) b.stack s.stack_bound 3 (below f (above block b.stack)) start (record { listed = firm.entries; new = refl; unknown = refl; fresh = s.coming }) in
      let clone : OpenElement = opened c.next tag in
      let p : Parts f block b.stack = parts f block b.stack firm.apart e open_ in
      let away : is_open f c.kept ≡ false = unknown-away (after o) f c.kept g.unknown k in
      let loose : is_loose is_special b.stack c.next ≡ true = next-loose (after o) b.stack s.stack_bound c.next g.fresh in
      let new : are_new b.stack (clone ∷ c.kept) ≡ true =
      both (not (is_special tag.name) && is_loose is_special b.stack c.next) (are_new b.stack c.kept) (both (not (is_special tag.name)) (is_loose is_special b.stack c.next) (not-false (is_special tag.name) (formatting-special tag.name t)) loose) g.new in
      let gs : List FormattingEntry = put_at_bookmark f c.next tag c.bookmark c.formats in
      let done = rebuilt-firm f block b.stack c.kept clone p b.formats b.form firm l new gs (bookmark-listed b.stack f c.next tag c.bookmark c.formats t loose g.listed) in
      let is = sym (stack-is f block b.stack c.kept clone p away) in
      (subst (λ es. Firm es gs b.form) is done, subst (λ es. core es ≡ core b.stack) is (rebuilt-core f block b.stack c.kept clone p b.formats b.form firm l new), λ x. x, λ j q. subst (λ es. is_loose is_special es j ≡ true) is (loose-rebuilt f block b.stack c.kept clone p b.formats b.form firm l new is_special (λ n z. z) j q))

  open-known : (k : NodeId → Bool) (id : NodeId) (es : List OpenElement) → is_open id es ≡ true → AreOpenBound k es → k id ≡ true
  open-known k id [] h a = absurd (true≢false (sym h))
  open-known k id (e ∷ es) h a = by (same_id e.id id) refl h (open-known k id es)
    where
      by : (v : Bool) → same_id e.id id ≡ v → (v || is_open id es) ≡ true → (is_open id es ≡ true → AreOpenBound k es → k id ≡ true) → k id ≡ true
      by true s g rest = subst (λ i. k i ≡ true) (same-true e.id id s) a.0
      by false s g rest = rest g a.1

  turn_at-firm : (f : Option NodeId) (b : Open) (o : List Op) → Serves AreFresh (after o) b → FirmOf b → LooseIfAny b.stack f → Adopts b (turn_at f b o).open_state
  turn_at-firm None b o s firm l = (firm, refl, λ x. x, λ j l. l)
  turn_at-firm (Some f) b o s firm l = by (is_open f b.stack) (open_in_scope scope.Default f b.stack) refl
    where
      by : (v w : Bool) → is_open f b.stack ≡ v → Adopts b (if not v then turned (record b { formats = without_entry f b.formats }) o Over
          else (if not w then turned b o Over else turn_with f (tag_of_entry f b.formats) (block_below f None b.stack) b o)).open_state
      by false w e = (other-entries b (without_entry f b.formats) firm (without-listed b.stack f b.formats firm.entries), refl, λ x. x, λ j q. q)
      by true false e = (firm, refl, λ x. x, λ j l. l)
      by true true e =
          turn_with-firm f (tag_of_entry f b.formats) (block_below f None b.stack) b o s firm l e (tag-formatting b.stack f b.formats firm.entries) refl (open-known (after o) f b.stack e s.stack_bound)

  turns-firm : (n : ℕ) (is : Name → Bool) (b : Open) (o : List Op) (t : Turn) → AreOpsBound known o → Serves AreFresh (after o) b → FirmOf b → Adopts b (turns n is (turned b o t)).open_state
  turns-firm zero is b o t a s firm = (firm, refl, λ x. x, λ j l. l)
  turns-firm (suc n) is b o More a s firm =
      let c : Turned = turn is b o in
      let g = turn_at-fits AreFresh fresh-follows known (entry_named is b.formats) b o a s in
      let h : Adopts b c.open_state = turn_at-firm (entry_named is b.formats) b o s firm (entry-loose b.stack is b.formats firm.entries) in
      adopts-on b c.open_state (turns n is c).open_state h (turns-firm n is c.open_state c.ops c.turn g.0 g.1 h.0)
  turns-firm (suc n) is b o Over a s firm = (firm, refl, λ x. x, λ j l. l)
  turns-firm (suc n) is b o OtherTag a s firm = (firm, refl, λ x. x, λ j l. l)

  -- a formatting element that is the current node, popped
  plain-popped : (w : Word) (es : List OpenElement) → is_formatting w ≡ true → current_is (is_word w) es ≡ true → Drops (λ n. not (is_special n)) es (pop es)
  plain-popped w [] h c = refl
  plain-popped w (e ∷ es) h c = inr (not-false (is_special e.name) (formatting-special e.name (by e.name c)), drops-none (λ n. not (is_special n)) es)
    where
      by : (n : Name) → is_word w n ≡ true → is_known is_formatting n ≡ true
      by (Known v) g = subst (λ u. is_formatting u ≡ true) (sym ((word_decides v w).0 g)) h
      by (Other s t) g = absurd (true≢false (sym g))

  plain-current : (is : Name → Bool) (i : Option NodeId) (b : Open) → is_plain_end is i b ≡ true → current_is is b.stack ≡ true
  plain-current is None b h = absurd (true≢false (sym h))
  plain-current is (Some i) b h = (split (current_is is b.stack) (not (has_entry i b.formats)) h).0

  pub adopt-firm : (w : Word) (b : Open) (o : List Op) → is_formatting w ≡ true → AreOpsBound known o → Serves AreFresh (after o) b → FirmOf b → Adopts b (adopt w b o).open_state
  unfolding adopt
  adopt-firm w b o h a s firm = by (is_plain_end (is_word w) (current_id b.stack) b) refl
    where
      by : (v : Bool) → is_plain_end (is_word w) (current_id b.stack) b ≡ v → Adopts b (if v then adopted (record b { stack = pop b.stack }) o false else adopted_by (turns 8 (is_word w) (turned b o More))).open_state
      by true e =
          let d = plain-popped w b.stack h (plain-current (is_word w) (current_id b.stack) b e) in
          (firm-dropped (λ n. not (is_special n)) (guard-vital _ plain-spares) b.stack (pop b.stack) b.formats b.form d firm, core-dropped (λ n. not (is_special n)) plain-spares b.stack (pop b.stack) d, λ x. x, λ j q. loose-thinned is_special j b.stack (pop b.stack) (drops-thinned (λ n. not (is_special n)) b.stack (pop b.stack) d) q)
      by false e = turns-firm 8 (is_word w) b o More a s firm
