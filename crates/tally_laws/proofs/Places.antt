-- What is known of a page's scripts at two moments of one parse with as much of the page left.
use Rattle.std.proofs.Common.{◌≡◌, ◌≤◌, ◌<◌, ◌⊎◌, inl, inr, ℕ, nat_le, nat_lt, Bool, true, false, length, Option, Some, None, refl, subst, sym, ◌∙◌, ap, arith}
use Rattle.std.proofs.lemmas.Option.{same_Some}
use Rattle.std.proofs.lemmas.Bool.{leb-true, ltb-true}
use Rattle.html_types.specs.declared.ending.Ending.{Ending}
use Rattle.standard.specs.Parser.{Parser}
use Rattle.serial.specs.Serial.{World, Moment, reading, tag_ended, awaits, over, Outcome, prepared, moment_after}
use Rattle.core_definitions.specs.declared.verdict.Verdict.{Verdict}
use Rattle.core_definitions.specs.declared.verdict.Verdict.TheVariants.{Keep, Rewind}
use Rattle.core_definitions.specs.Verdict.{Watch, runs, at_tag, judged, Reads, Watched, Watches, stays, goes_on}
use Rattle.core_laws.proofs.OneResult.{one-next}
use Rattle.core_laws.proofs.Comparing.{watched-once}

-- ---- a moment's own step

-- what a moment makes of what was known: nothing, or it judges the script in hand, or less of the page is left behind it
abbrev Goes : Watch → Watch → Type 0
Goes v x = (x ≡ v) ⊎ ((p : Parser) × (c : Verdict) × (v.after_tag ≡ Some p) × (x ≡ judged c v)) ⊎ (x.page_left < v.page_left)

judges : (c : Verdict) (v : Watch) → (judged c v).page_left ≡ v.page_left
judges Keep v = refl
judges Rewind v = refl

judged-none : (c : Verdict) (v : Watch) → (judged c v).after_tag ≡ None
judged-none Keep v = refl
judged-none Rewind v = refl

-- so much of the page is left, and no script is in hand
reads-goes : (p : Option Parser) (left : ℕ) (now : Parser) (v x : Watch) → v.after_tag ≡ p → left ≤ v.page_left → Reads true p left now v x → Goes v x
reads-goes None left now v x q h a = by (nat_lt left v.page_left) refl
  where
    by : (b : Bool) → nat_lt left v.page_left ≡ b → Goes v x
    by true less = inr (inr (let l : x.page_left ≡ left = ap (λ (z : Watch). z.page_left) a in let s : left < v.page_left = ltb-true left v.page_left less in omega (arith, l, s)))
    by false more = inl (let same : left ≡ v.page_left = grind (arith, h, more) in a ∙ ap (λ n. record v { page_left = n }) same)
reads-goes (Some held) left now v x q h (c, i, a) = inr (inl (held, c, q, a))

reading-goes : (b : Bool) (left : ℕ) (now : Parser) (v x : Watch) → nat_le left v.page_left ≡ b → Reads b v.after_tag left now v x → Goes v x
reading-goes false left now v x q a = inl a
reading-goes true left now v x q a = reads-goes v.after_tag left now v x refl (leb-true left v.page_left q) a

tag-goes : (own run : Bool) (left : ℕ) (p : Parser) (v x : Watch) → nat_lt left v.page_left ≡ own → x ≡ at_tag own run left p v → Goes v x
tag-goes false run left p v x q a = inl a
tag-goes true true left p v x q a = inr (inr (let l : x.page_left ≡ left = ap (λ (z : Watch). z.page_left) a in let s : left < v.page_left = ltb-true left v.page_left q in omega (arith, l, s)))
tag-goes true false left p v x q a = inr (inr (let l : x.page_left ≡ left = ap (λ (z : Watch). z.page_left) a in let s : left < v.page_left = ltb-true left v.page_left q in omega (arith, l, s)))

goes : (m : Moment) (v x : Watch) → Watched m v x → Goes v x
goes (reading s) v x a = reading-goes (nat_le (length s.input) v.page_left) (length s.input) s.parser v x refl a
goes (tag_ended i s) v x a = tag-goes (nat_lt (length s.input) v.page_left) (runs (prepared i s)) (length s.input) s.parser v x refl a
goes (awaits name s) v x a = inl a
goes (over o) v x a = inl a

goes-less : (v x : Watch) → Goes v x → x.page_left ≤ v.page_left
goes-less v x (inl same) = let l : x.page_left ≡ v.page_left = ap (λ (z : Watch). z.page_left) same in omega (arith, l)
goes-less v x (inr (inl (p, c, q, is))) = let l : x.page_left ≡ v.page_left = ap (λ (z : Watch). z.page_left) is ∙ judges c v in omega (arith, l)
goes-less v x (inr (inr less)) = omega (arith, less)

-- ---- along a parse

-- with as much of the page left: all is as it was, or the script in hand was judged
abbrev pub InPlace : Option Parser → Option Parser → Watch → Watch → Type 0
InPlace None q u v = v ≡ u
InPlace (Some p) None u v = (c : Verdict) × (v ≡ judged c u)
InPlace (Some p) (Some q) u v = v ≡ u

in-place-refl : (p : Option Parser) (u : Watch) → InPlace p p u u
in-place-refl None u = refl
in-place-refl (Some p) u = refl

module _ (e : Ending) (w : World) where
  less-left : (a b : Moment) (u v : Watch) → Watches e w a u b v → v.page_left ≤ u.page_left
  less-left a b u v (stays m x) = omega arith
  less-left a b u v (goes_on n m m1 m' x x1 x' q k rest) = omega (arith, goes-less x x1 (goes m1 x x1 k), less-left m1 m' x1 x' rest)

  -- no script is in hand, and as much of the page is left
  pub none-in_hand : (a b : Moment) (u v : Watch) → Watches e w a u b v → u.after_tag ≡ None → u.page_left ≡ v.page_left → v ≡ u
  none-in_hand a b u v (stays m x) none left = refl
  none-in_hand a b u v (goes_on n m m1 m' x x1 x' q k rest) none left = by (goes m1 x x1 k) (λ same. none-in_hand m1 m' x1 x' rest (ap (λ (z : Watch). z.after_tag) same ∙ none) (ap (λ (z : Watch). z.page_left) same ∙ left))
    where
      by : Goes x x1 → (x1 ≡ x → x' ≡ x1) → x' ≡ x
      by (inl same) on = on same ∙ same
      by (inr (inl (p, c, some, is))) on = absurd (cc (sym none ∙ some))
      by (inr (inr less)) on = absurd (omega (arith, less, left, less-left m1 m' x1 x' rest))

  -- a script is in hand
  pub some-in_hand : (a b : Moment) (u v : Watch) (p : Parser) → Watches e w a u b v → u.after_tag ≡ Some p → u.page_left ≡ v.page_left → InPlace (Some p) v.after_tag u v
  some-in_hand a b u v p (stays m x) some left = subst (λ (o : Option Parser). InPlace (Some p) o x x) (sym some) refl
  some-in_hand a b u v p (goes_on n m m1 m' x x1 x' q k rest) some left =
      by (goes m1 x x1 k) (λ same. some-in_hand m1 m' x1 x' p rest (ap (λ (z : Watch). z.after_tag) same ∙ some) (ap (λ (z : Watch). z.page_left) same ∙ left))
    where
      by : Goes x x1 → (x1 ≡ x → InPlace (Some p) x'.after_tag x1 x') → InPlace (Some p) x'.after_tag x x'
      by (inl same) on = subst (λ (z : Watch). InPlace (Some p) x'.after_tag z x') same (on same)
      by (inr (inl (o, c, held, is))) on =
          let gone : x1.after_tag ≡ None = ap (λ (z : Watch). z.after_tag) is ∙ judged-none c x in
          let there : x1.page_left ≡ x'.page_left = ap (λ (z : Watch). z.page_left) is ∙ judges c x ∙ left in
          let same : x' ≡ x1 = none-in_hand m1 m' x1 x' rest gone there in
          subst (λ (o : Option Parser). InPlace (Some p) o x x') (sym (ap (λ (z : Watch). z.after_tag) same ∙ gone)) (c, same ∙ is)
      by (inr (inr less)) on = absurd (omega (arith, less, left, less-left m1 m' x1 x' rest))

  -- behind the end nothing more is found
  pub over-stays : (a b : Moment) (o : Outcome) (u v : Watch) → a ≡ over o → Watches e w a u b v → (b ≡ over o) × (v ≡ u)
  unfolding moment_after
  over-stays a b o u v q (stays m x) = (q, refl)
  over-stays a b o u v q (goes_on n m m1 m' x x1 x' p k rest) =
      let next : m1 ≡ over o = sym (same_Some (over o) m1 (ap (λ z. moment_after n e w z) (sym q) ∙ p)) in
      let same : x1 ≡ x = subst (λ z. Watched z x x1) next k in
      let more = over-stays m1 m' o x1 x' next rest in
      (more.0, more.1 ∙ same)

  -- ---- two ways from one moment

  -- the one goes on to the other's end
  abbrev pub OneGoesOn : Moment → Watch → Moment → Watch → Type 0
  OneGoesOn b v c x = Watches e w b v c x ⊎ Watches e w c x b v

  onward : (a a1 b c : Moment) (n : ℕ) (u u1 v x : Watch) → moment_after n e w a ≡ Some a1 → Watched a1 u u1 → (Watches e w a1 u1 c x → OneGoesOn b v c x) → Watches e w a u b v →
      Watches e w a u c x → OneGoesOn b v c x
  onward a a1 b c n u u1 v x q k each first (stays m y) = inr first
  onward a a1 b c n u u1 v x q k each first (goes_on j m m1 m' y y1 y' p l rest) =
      let same : m1 ≡ a1 = one-next e w j n m m1 a1 p q in
      let one : y1 ≡ u1 = watched-once a1 y y1 u1 (subst (λ z. Watched z y y1) same l) k in
      each (subst (λ z. Watches e w a1 z m' y') one (subst (λ z. Watches e w z y1 m' y') same rest))

  pub one-goes_on : (a b c : Moment) (u v x : Watch) → Watches e w a u b v → Watches e w a u c x → OneGoesOn b v c x
  one-goes_on a b c u v x (stays m y) there = inl there
  one-goes_on a b c u v x (goes_on n m m1 m' y y1 y' q k rest) there =
      onward m m1 m' c n y y1 y' x q k (λ t. one-goes_on m1 m' c y1 y' x rest t) (goes_on n m m1 m' y y1 y' q k rest) there

  -- with as much of the page left, and a script in hand at both ends or at neither, one thing is known
  pub same-with_none : (a b c : Moment) (u v x : Watch) → Watches e w a u b v → Watches e w a u c x → v.page_left ≡ x.page_left → v.after_tag ≡ None → x.after_tag ≡ None → x ≡ v
  same-with_none a b c u v x one other left none none' = by (one-goes_on a b c u v x one other)
    where
      by : OneGoesOn b v c x → x ≡ v
      by (inl on) = none-in_hand b c v x on none left
      by (inr on) = sym (none-in_hand c b x v on none' (sym left))

  pub same-with_some : (a b c : Moment) (u v x : Watch) (p q : Parser) → Watches e w a u b v → Watches e w a u c x → v.page_left ≡ x.page_left → v.after_tag ≡ Some p → x.after_tag ≡ Some q → x ≡ v
  same-with_some a b c u v x p q one other left some some' = by (one-goes_on a b c u v x one other)
    where
      by : OneGoesOn b v c x → x ≡ v
      by (inl on) = subst (λ (o : Option Parser). InPlace (Some p) o v x) some' (some-in_hand b c v x p on some left)
      by (inr on) = sym (subst (λ (o : Option Parser). InPlace (Some q) o x v) some (some-in_hand c b x v q on some' (sym left)))
