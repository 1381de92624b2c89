-- What is known of a page's scripts along one parse: it is one thing at a moment, and only more fail.
use Rattle.std.proofs.Common.{◌≡◌, ◌≤◌, ℕ, nat_le, nat_lt, Bool, true, false, length, Option, Some, None, refl, subst, sym, ◌∙◌, ap, arith}
use Rattle.std.proofs.lemmas.Option.{same_Some}
use Rattle.html_types.specs.declared.ending.Ending.{Ending}
use Rattle.standard.specs.Parser.{Parser}
use Rattle.serial.specs.Serial.{World, Moment, reading, tag_ended, awaits, over, Outcome, prepared, moment_after}
use Rattle.core_definitions.specs.declared.verdict.Verdict.{Verdict}
use Rattle.core_definitions.specs.declared.verdict.Verdict.TheVariants.{Keep, Rewind}
use Rattle.core_definitions.specs.Verdict.{Watch, runs, at_tag, judged, Reads, Watched, Watches, stays, goes_on}
use Rattle.core_laws.proofs.OneResult.{one-verdict, one-next}

-- ---- one thing at a moment

reads-once : (b : Bool) (p : Option Parser) (left : ℕ) (now : Parser) (v x y : Watch) → Reads b p left now v x → Reads b p left now v y → x ≡ y
reads-once false p left now v x y a b = a ∙ sym b
reads-once true None left now v x y a b = a ∙ sym b
reads-once true (Some held) left now v x y (c, i, a) (k, j, b) = a ∙ (ap (λ z. judged z v) (one-verdict held now c k i j) ∙ sym b)

pub watched-once : (m : Moment) (v x y : Watch) → Watched m v x → Watched m v y → x ≡ y
watched-once (reading s) v x y a b = reads-once (nat_le (length s.input) v.page_left) v.after_tag (length s.input) s.parser v x y a b
watched-once (tag_ended i s) v x y a b = a ∙ sym b
watched-once (awaits name s) v x y a b = a ∙ sym b
watched-once (over o) v x y a b = a ∙ sym b

-- ---- only more fail

judged-grows : (c : Verdict) (v : Watch) → v.failed ≤ (judged c v).failed
judged-grows Keep v = omega arith
judged-grows Rewind v = omega arith

failed-same : (v x : Watch) → x ≡ v → v.failed ≤ x.failed
failed-same v x q = let f : x.failed ≡ v.failed = ap (λ (z : Watch). z.failed) q in omega (arith, f)

reads-grow : (b : Bool) (p : Option Parser) (left : ℕ) (now : Parser) (v x : Watch) → Reads b p left now v x → v.failed ≤ x.failed
reads-grow false p left now v x a = failed-same v x a
reads-grow true None left now v x a = let f : x.failed ≡ v.failed = ap (λ (z : Watch). z.failed) a in omega (arith, f)
reads-grow true (Some held) left now v x (c, i, a) = let f : x.failed ≡ (judged c v).failed = ap (λ (z : Watch). z.failed) a in omega (arith, f, judged-grows c v)

tag-grows : (own run : Bool) (left : ℕ) (p : Parser) (v : Watch) → v.failed ≤ (at_tag own run left p v).failed
tag-grows false run left p v = omega arith
tag-grows true true left p v = omega arith
tag-grows true false left p v = omega arith

watched-grows : (m : Moment) (v x : Watch) → Watched m v x → v.failed ≤ x.failed
watched-grows (reading s) v x a = reads-grow (nat_le (length s.input) v.page_left) v.after_tag (length s.input) s.parser v x a
watched-grows (tag_ended i s) v x a =
    let f : x.failed ≡ (at_tag (nat_lt (length s.input) v.page_left) (runs (prepared i s)) (length s.input) s.parser v).failed = ap (λ (z : Watch). z.failed) a in
    omega (arith, f, tag-grows (nat_lt (length s.input) v.page_left) (runs (prepared i s)) (length s.input) s.parser v)
watched-grows (awaits name s) v x a = failed-same v x a
watched-grows (over o) v x a = failed-same v x a

module _ (e : Ending) (w : World) where
  path-grows : (a b : Moment) (u v : Watch) → Watches e w a u b v → u.failed ≤ v.failed
  path-grows a b u v (stays m x) = omega arith
  path-grows a b u v (goes_on n m m1 m' x x1 x' q k rest) = omega (arith, watched-grows m1 x x1 k, path-grows m1 m' x1 x' rest)

  -- behind the end nothing more is found
  over-stays : (a b : Moment) (o : Outcome) (u v : Watch) → a ≡ over o → Watches e w a u b v → u ≡ v
  unfolding moment_after
  over-stays a b o u v q (stays m x) = refl
  over-stays a b o u v q (goes_on n m m1 m' x x1 x' p k rest) =
      let next : m1 ≡ over o = sym (same_Some (over o) m1 (ap (λ z. moment_after n e w z) (sym q) ∙ p)) in
      let same : x1 ≡ x = subst (λ z. Watched z x x1) next k in
      sym same ∙ over-stays m1 m' o x1 x' next rest

  onward : (a a1 b c : Moment) (o : Outcome) (n : ℕ) (u u1 v x : Watch) → moment_after n e w a ≡ Some a1 → Watched a1 u u1 → (Watches e w a1 u1 c x → v.failed ≤ x.failed) → (c ≡ a → v.failed ≤ u.failed) →
      Watches e w a u c x → v.failed ≤ x.failed
  onward a a1 b c o n u u1 v x q k each here (stays m y) = here refl
  onward a a1 b c o n u u1 v x q k each here (goes_on j m m1 m' y y1 y' p l rest) =
      let same : m1 ≡ a1 = one-next e w j n m m1 a1 p q in
      let one : y1 ≡ u1 = watched-once a1 y y1 u1 (subst (λ z. Watched z y y1) same l) k in
      each (subst (λ z. Watches e w a1 z m' y') one (subst (λ z. Watches e w z y1 m' y') same rest))

  -- at no moment have more scripts failed than at the end
  pub failed-by-end : (a b c : Moment) (o : Outcome) (u v x : Watch) → c ≡ over o → Watches e w a u b v → Watches e w a u c x → v.failed ≤ x.failed
  failed-by-end a b c o u v x end (stays m y) there = path-grows m c y x there
  failed-by-end a b c o u v x end (goes_on n m m1 m' y y1 y' q k rest) there =
      onward m m1 m' c o n y y1 y' x q k (λ t. failed-by-end m1 m' c o y1 y' x end rest t)
      (λ at_end. let same : y ≡ y' = over-stays m m' o y y' (sym at_end ∙ end) (goes_on n m m1 m' y y1 y' q k rest) in let f : y.failed ≡ y'.failed = ap (λ (z : Watch). z.failed) same in omega (arith, f)) there
