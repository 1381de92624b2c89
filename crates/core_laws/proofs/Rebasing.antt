-- A renaming that is changed for the ids to come.
use Rattle.std.proofs.Common.{◌≢◌, ◌≡◌, ◌<◌, true≢false, ℕ, ◌+◌, ◌-◌, ◌==◌, nat_lt, Bool, true, false, List, [], ◌∷◌, map, Option, Some, None, refl, sym, ◌∙◌, ap, subst, arith}
use Rattle.std.specs.Prelude.{IsTrue, option_map, is_some}
use Rattle.html_types.specs.Operations.{same_id, later}
use Rattle.html_types.specs.declared.operation.NodeId.{NodeId}
use Rattle.html_types.specs.declared.open.OpenElement.{OpenElement}
use Rattle.html_types.specs.declared.open.FormattingEntry.{FormattingEntry}
use Rattle.html_types.specs.declared.open.FormattingEntry.TheVariants.{Marker, Element}
use Rattle.standard.specs.Act.{Doc, bound_to, is_bound, SameUpTo}
use Rattle.standard.specs.Parser.{Parser}
use Rattle.rule_laws.specs.Naming.{Serves, AreOpenBound, AreFormatsBound, IsBoundIfAny, CameBefore, rename_element, rename_format, rename_parser}
use Rattle.rule_laws.proofs.FreshnessDocs.{same-true}
use Rattle.core_laws.specs.Rebasing.{with_next, part, rebased, Rebases, StatesRebase}
use Rattle.core_laws.proofs.Okay.{Named}

same-refl : (a : NodeId) → same_id a a ≡ true
same-refl a = grind arith

-- ---- two renamings that agree on the ids that are bound

module _ (r g : NodeId → NodeId) (known : NodeId → Bool) (agree : (i : NodeId) → IsTrue (known i) → r i ≡ g i) where
  stack-agrees : (es : List OpenElement) → AreOpenBound known es → map (rename_element r) es ≡ map (rename_element g) es
  stack-agrees [] h = refl
  stack-agrees (e ∷ es) h = rw (agree e.id h.0, stack-agrees es h.1) refl

  formats-agree : (fs : List FormattingEntry) → AreFormatsBound known fs → map (rename_format r) fs ≡ map (rename_format g) fs
  formats-agree [] h = refl
  formats-agree (Marker ∷ fs) h = ap (λ xs. Marker ∷ xs) (formats-agree fs h)
  formats-agree (Element id tag ∷ fs) h = rw (agree id h.0, formats-agree fs h.1) refl

  id-agrees : (o : Option NodeId) → IsBoundIfAny known o → option_map r o ≡ option_map g o
  id-agrees None h = refl
  id-agrees (Some i) h = ap Some (agree i h)

  pub parser-agrees : (p : Parser) → Serves CameBefore known p.open_state → with_next (g p.open_state.next) (rename_parser r p) ≡ rename_parser g p
  parser-agrees p h =
      rw (stack-agrees p.open_state.stack h.stack_bound, formats-agree p.open_state.formats h.formats_bound, id-agrees p.open_state.head h.head_bound, id-agrees p.open_state.form h.form_bound) refl

-- ---- the changed renaming

module _ (r : NodeId → NodeId) (n : ℕ) (next : NodeId) (low : ℕ) (b : Rebases r n next low) where
  parts : (u v u' v' : Bool) (a c : NodeId) → (a.realm == 0) ≡ u → nat_lt a.n n ≡ v → (c.realm == 0) ≡ u' → nat_lt c.n n ≡ v' →
      part r n next low u v a ≡ part r n next low u' v' c → a ≡ c
  parts true true true true a c p q p' q' e = b.one_to_one a c e
  parts true true true false a c p q p' q' e = absurd (b.avoids a (c.n - n) (grind (arith, p)) (grind (arith, q)) e)
  parts true false true true a c p q p' q' e = absurd (b.avoids c (a.n - n) (grind (arith, p')) (grind (arith, q')) (sym e))
  parts true true false v' a c p q p' q' e =
      let l : (r a).realm < low = b.low_realms a (grind (arith, p)) in
      let s : (r a).realm ≡ low + c.realm = ap (λ i. i.realm) e in
      absurd (omega (arith, l, s))
  parts false v true true a c p q p' q' e =
      let l : (r c).realm < low = b.low_realms c (grind (arith, p')) in
      let s : low + a.realm ≡ (r c).realm = ap (λ i. i.realm) e in
      absurd (omega (arith, l, s))
  parts true false true false a c p q p' q' e =
      let s : next.n + (a.n - n) ≡ next.n + (c.n - n) = ap (λ i. i.n) e in
      same-true a c (grind (arith, s, p, q, p', q'))
  parts true false false v' a c p q p' q' e =
      let s : next.realm ≡ low + c.realm = ap (λ i. i.realm) e in
      absurd (omega (arith, b.next_is_low, s))
  parts false v true false a c p q p' q' e =
      let s : low + a.realm ≡ next.realm = ap (λ i. i.realm) e in
      absurd (omega (arith, b.next_is_low, s))
  parts false v false v' a c p q p' q' e =
      let s : low + a.realm ≡ low + c.realm = ap (λ i. i.realm) e in
      let t : a.n ≡ c.n = ap (λ i. i.n) e in
      same-true a c (grind (arith, s, t))

  pub rebased-one : (a c : NodeId) → rebased r n next low a ≡ rebased r n next low c → a ≡ c
  rebased-one a c e = parts (a.realm == 0) (nat_lt a.n n) (c.realm == 0) (nat_lt c.n n) a c refl refl refl refl e

  apart : (a c : NodeId) → same_id (rebased r n next low a) (rebased r n next low c) ≡ same_id a c
  apart a c = by (same_id a c) (same_id (rebased r n next low a) (rebased r n next low c)) refl refl
    where
      by : (u v : Bool) → same_id a c ≡ u → same_id (rebased r n next low a) (rebased r n next low c) ≡ v → v ≡ u
      by true true p q = refl
      by false false p q = refl
      by true false p q = sym q ∙ (ap (λ i. same_id (rebased r n next low a) (rebased r n next low i)) (sym (same-true a c p)) ∙ same-refl (rebased r n next low a))
      by false true p q = sym (same-refl a) ∙ (ap (same_id a) (rebased-one a c (same-true _ _ q)) ∙ p)

  in-order : (i : NodeId) (k : ℕ) → i.realm ≡ 0 → i.n ≡ n → rebased r n next low (later k i) ≡ later k next
  in-order i k z e =
      let p : (i.realm == 0) ≡ true = grind (arith, z) in
      let q : nat_lt (i.n + k) n ≡ false = grind (arith, e) in
      let m : i.n + k - n ≡ k = omega (arith, e) in
      ap (λ u. part r n next low u (nat_lt (i.n + k) n) (later k i)) p
      ∙ (ap (λ v. part r n next low true v (later k i)) q ∙ ap (λ j. record { realm = next.realm; n = next.n + j }) m)

  pub agrees : (i : NodeId) → i.realm ≡ 0 → i.n < n → r i ≡ rebased r n next low i
  agrees i z l =
      let p : (i.realm == 0) ≡ true = grind (arith, z) in
      let q : nat_lt i.n n ≡ true = grind (arith, l) in
      sym (ap (λ u. part r n next low u (nat_lt i.n n) i) p ∙ ap (λ v. part r n next low true v i) q)

  -- what holds of the old names, of the ids to come and of the ids of other realms holds of every name
  pub every-name : (P : NodeId → Type 0) → ((i : NodeId) → i.realm ≡ 0 → i.n < n → P (r i)) → ((k : ℕ) → P (later k next)) → ((i : NodeId) → i.realm ≢ 0 → P (record { realm = low + i.realm; n = i.n })) →
      (i : NodeId) → P (rebased r n next low i)
  every-name P old new other i = by (i.realm == 0) (nat_lt i.n n) refl refl
    where
      by : (u v : Bool) → (i.realm == 0) ≡ u → nat_lt i.n n ≡ v → P (part r n next low u v i)
      by true true p q = old i (grind (arith, p)) (grind (arith, q))
      by true false p q = new (i.n - n)
      by false v p q = other i (λ z. grind (arith, p, z))

  pub rebased-low : (i : NodeId) → i.realm ≡ 0 → (rebased r n next low i).realm < low
  rebased-low i z = by (i.realm == 0) (nat_lt i.n n) refl
    where
      by : (u v : Bool) → (i.realm == 0) ≡ u → (part r n next low u v i).realm < low
      by true true p = b.low_realms i z
      by true false p = b.next_is_low
      by false v p = absurd (grind (arith, p, z))

  -- what is bound to the new names
  module _ (d own : Doc) (same : SameUpTo r d own) (before : (i : NodeId) → IsTrue (is_bound d.bound i) → (i.realm ≡ 0) × (i.n < n)) (named : Named r own) where
    -- what is bound in the second document came before in the first
    came : (j : NodeId) → IsTrue (is_bound own.bound j) → (i : NodeId) × (r i ≡ j) × (i.realm ≡ 0) × (i.n < n)
    came j h =
        let (i, e) = named j h in
        let b : IsTrue (is_bound d.bound i) = subst IsTrue (ap is_some (same.bound i)) (subst (λ k. IsTrue (is_bound own.bound k)) (sym e) h) in
        let (z, l) = before i b in
        (i, e, z, l)

    low-realm : (j : NodeId) → IsTrue (is_bound own.bound j) → j.realm < low
    low-realm j h =
        let (i, e, z, l) = came j h in
        subst (λ (k : NodeId). k.realm < low) e (b.low_realms i z)

    fresh : (k : ℕ) → is_bound own.bound (later k next) ≡ false
    fresh k = by (is_bound own.bound (later k next)) refl
      where
        by : (v : Bool) → is_bound own.bound (later k next) ≡ v → v ≡ false
        by true h =
            let (i, e, z, l) = came (later k next) h in
            absurd (b.avoids i k z l e)
        by false h = refl

    same-named : Named (rebased r n next low) own
    same-named j h =
        let (i, e, z, l) = came j h in
        (i, sym (agrees i z l) ∙ e)

    unbound : (o : Option ℕ) → is_some o ≡ false → o ≡ None
    unbound None e = refl
    unbound (Some k) e = absurd (true≢false e)

    not-before : (i : NodeId) → ((i.realm ≡ 0) → (i.n < n) → ⊥) → bound_to d.bound i ≡ None
    not-before i no_ = unbound (bound_to d.bound i) (by (is_bound d.bound i) refl)
      where
        by : (v : Bool) → is_bound d.bound i ≡ v → v ≡ false
        by true e = let h = before i e in absurd (no_ h.0 h.1)
        by false e = refl

    not-low : (i : NodeId) → (i.realm < low → ⊥) → bound_to own.bound i ≡ None
    not-low i no_ = unbound (bound_to own.bound i) (by (is_bound own.bound i) refl)
      where
        by : (v : Bool) → is_bound own.bound i ≡ v → v ≡ false
        by true e = absurd (no_ (low-realm i e))
        by false e = refl

    bound : (i : NodeId) (u v : Bool) → (i.realm == 0) ≡ u → nat_lt i.n n ≡ v → bound_to own.bound (part r n next low u v i) ≡ bound_to d.bound i
    bound i true true p q = same.bound i
    bound i true false p q =
        unbound (bound_to own.bound (later (i.n - n) next)) (fresh (i.n - n)) ∙ sym (not-before i (λ z l. let f : i.n < n = l in absurd (grind (arith, q, f))))
    bound i false v p q =
        not-low (record { realm = low + i.realm; n = i.n }) (λ l. omega (arith, l)) ∙ sym (not-before i (λ z l. absurd (grind (arith, p, z))))

    same-rebased : SameUpTo (rebased r n next low) d own
    same-rebased = record { tree = same.tree; bound = λ i. bound i (i.realm == 0) (nat_lt i.n n) refl refl }

later-none : (i : NodeId) → later 0 i ≡ i
later-none i =
    let e : i.n + 0 ≡ i.n = omega arith in
    ap (λ n. record { realm = i.realm; n = n }) e

pub states-rebase : StatesRebase
states-rebase r p d own next low o b =
    let n : ℕ = p.open_state.next.n in
    let g : NodeId → NodeId = rebased r n next low in
    let before : (i : NodeId) → IsTrue (is_bound d.bound i) → (i.realm ≡ 0) × (i.n < n) = λ i h. let c = o.served.coming i h in (c.0 ∙ o.serial, c.1) in
    let order : (k : ℕ) → g (later k p.open_state.next) ≡ later k next = λ k. in-order r n next low b p.open_state.next k o.serial refl in
    let at_next : g p.open_state.next ≡ next = ap g (sym (later-none p.open_state.next)) ∙ (order 0 ∙ later-none next) in (
      ap (λ i. with_next i (rename_parser r p)) (sym at_next) ∙ parser-agrees r g (is_bound d.bound) (λ i h. agrees r n next low b i (before i h).0 (before i h).1) p o.served,
      record {
        same = same-rebased r n next low b d own o.same before o.named;
        named = same-named r n next low b d own o.same before o.named;
        renames = record { apart = apart r n next low b; in_order = λ k. order k ∙ ap (later k) (sym at_next) };
        served = o.served;
        serial = o.serial;
      },
    )
