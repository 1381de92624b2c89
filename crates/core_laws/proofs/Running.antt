-- Do with a script in hand: it runs alongside the serial parse's, and the document's side stands for the moment at which it is settled.
use Rattle.std.proofs.Common.{◌≡◌, ◌<◌, true≢false, ℕ, suc, ◌+◌, true, false, List, [], ◌∷◌, ◌++◌, length, Some, refl, subst, sym, ◌∙◌, ap, arith}
use Rattle.std.proofs.lemmas.List.{length-append}
use Rattle.html_types.specs.declared.operation.NodeId.{NodeId}
use Rattle.html_types.specs.declared.ending.Ending.{Ending}
use Rattle.html_types.specs.declared.ending.Ending.TheVariants as ending
use Rattle.standard.specs.Parser.{AreSame, Parser}
use Rattle.serial.specs.Serial.{World, Serial, Moment, reading, tag_ended, awaits, over, moment_after}
use Rattle.rule_laws.specs.Naming.{rename_parser}
use Rattle.core_definitions.specs.declared.verdict.Verdict.{Verdict}
use Rattle.core_definitions.specs.declared.verdict.Verdict.TheVariants.{Keep, Rewind}
use Rattle.core_definitions.specs.Verdict.{IsVerdict, Watch, judged, Watched, Watches}
use Rattle.core_definitions.specs.Settling.{is_empty, is_settled, Through, here, onward}
use Rattle.core_definitions.specs.Desk.{Desk, renewed, decided, Concludes, RunsOn}
use Rattle.core_laws.specs.Alike.{own_of, Okay, AreAlike}
use Rattle.core_laws.specs.Rebasing.{with_next, rebased, Rebases}
use Rattle.core_laws.proofs.Framing.{moments-rename, fetches-rename}
use Rattle.moment_laws.proofs.Through.{any-ending, through-any}
use Rattle.core_laws.proofs.Rebasing.{states-rebase}
use Rattle.core_laws.proofs.Back.{verdict-back}
use Rattle.core_laws.proofs.Watching.{watches-next, longer-watched, written-watched, rest-watched}
use Rattle.core_laws.proofs.Known.{IsFree, Names, InHand, Stood, renews, names-rebased, with_input, Reads, reads}

module _ (e : Ending) (w : World) (m0 : Moment) (v0 : Watch) (r : NodeId → NodeId) (page : List ℕ) (v : Watch) (long : v.page_left ≡ length page) where
  -- the serial parse comes to m, whatever is known there
  abbrev pub Comes : Moment → Type 0
  Comes m = (v' : Watch) → Watched m v v' → Watches e w m0 v0 m v'

  some-input : (cs : List ℕ) → is_empty cs ≡ false → 0 < length cs
  some-input [] open_ = absurd (true≢false open_)
  some-input (c ∷ cs) open_ = omega arith

  -- a moment that isn't settled judges nothing
  unsettled : (m own : Moment) → is_settled own ≡ false → AreAlike r page m own → Watched m v v
  unsettled m (reading t) open_ (s, d, p, q, o, idle) =
      let some : 0 < length s.input = some-input s.input (ap (λ (u : Serial). is_empty u.input) (sym q) ∙ open_) in
      let sum : length (s.input ++ page) ≡ length s.input + length page = length-append s.input page in
      subst (λ x. Watched x v v) (sym p) (longer-watched e w (record s { input = s.input ++ page }) v (omega (arith, long, sum, some)))
  unsettled m (tag_ended j t) open_ (i, s, d, p, q, g, o, idle) =
      let sum : length (s.input ++ page) ≡ length s.input + length page = length-append s.input page in
      subst (λ x. Watched x v v) (sym p) (written-watched e w (record s { input = s.input ++ page }) i v (omega (arith, long, sum)))
  unsettled m (awaits name t) open_ h = absurd (true≢false open_)
  unsettled m (over o) open_ h = absurd (true≢false open_)

  -- from one moment to another the serial parse comes alongside
  alongside : (m own own' : Moment) → Through e w own own' → AreAlike r page m own → Comes m → (m' : Moment) × AreAlike r page m' own' × Comes m'
  alongside m own own' (here x) alike comes = (m, alike, comes)
  alongside m own own' (onward n x x1 x' open_ q rest) alike comes =
      let seen : Watches e w m0 v0 m v = comes v (unsettled m own open_ alike) in
      let next = moments-rename r page n e w m own x1 alike open_ q in
      alongside next.0 x1 own' rest next.2 (λ v' k. watches-next e w m0 m next.0 v0 v v' n seen next.1 k)

  -- ---- the settled moment

  empty-of : (t : List ℕ) → is_empty t ≡ true → t ≡ []
  empty-of [] h = refl
  empty-of (c ∷ cs) h = absurd (true≢false (sym h))

  -- the state that was held back is the one that was reached, with its own ids to come
  held-is : (held now : Parser) → AreSame held now → held ≡ with_next held.open_state.next now
  held-is held now same = ap (with_next held.open_state.next) same

  -- what was made of the text behind the script is kept, or it is sent again
  decides : (held : Parser) (d : Desk) (m : Moment) (t : Serial) (c : Verdict) → InHand r page held v → v.failed + 1 ≡ d.epoch → Names r d.realm → IsFree r d.realm held → Reads r page m t → IsVerdict held t.parser c →
      Comes m → Stood e w m0 v0 page (decided c held t d)
  decides held d m t Keep (p, at_page, after, is) f names free_ k verdict comes =
      let s : Serial = k.s in
      let n : ℕ = s.parser.open_state.next.n in
      let next : NodeId = held.open_state.next in
      let x : Rebases r n next d.realm = record { one_to_one = names.one_to_one; low_realms = names.low_realms; next_is_low = free_.next_is_low; avoids = λ i j z l. free_.avoids i j } in
      let g : NodeId → NodeId = rebased r n next d.realm in
      let rebase : (with_next next (rename_parser r s.parser) ≡ rename_parser g s.parser) × Okay g s.parser s.side.doc k.doc = states-rebase r s.parser s.side.doc k.doc next d.realm k.okay x in
      let now : t.parser ≡ rename_parser r s.parser = ap (λ (u : Serial). u.parser) k.is in
      let there : IsVerdict p s.parser Keep = verdict-back r names.one_to_one held p s.parser Keep is (subst (λ q. IsVerdict held q Keep) now verdict) in
      let on : Watched (reading (with_input page s)) v (judged Keep v) = rest-watched e w (with_input page s) v p Keep (sym at_page) after there in
      let seen : Watches e w m0 v0 m (judged Keep v) = comes (judged Keep v) (subst (λ a. Watched a v (judged Keep v)) (sym k.moment) on) in
      let held_now : held ≡ rename_parser g s.parser = held-is held t.parser verdict ∙ (ap (with_next next) now ∙ rebase.0) in
      let own : record t { parser = held } ≡ own_of g k.doc (with_input [] s) = ap (λ (u : Serial). record u { parser = held }) k.is ∙ ap (λ q. record (own_of r k.doc (with_input [] s)) { parser = q }) held_now in (
        m,
        judged Keep v,
        g,
        seen,
        record {
          names = names-rebased r n next d.realm x;
          alike = (with_input [] s, k.doc, k.moment, own, rebase.1, k.idle);
          in_phase = ap (λ (u : Serial). u.input) k.is;
          failed = f;
          watch = (at_page, refl);
        },
      )
  decides held d m t Rewind (p, at_page, after, is) f names free_ k verdict comes =
      let s : Serial = k.s in
      let n : ℕ = s.parser.open_state.next.n in
      let next : NodeId = record { realm = d.realm; n = 0 } in
      let low : ℕ = suc d.realm in
      let x : Rebases r n next low = renews r n d.realm names in
      let g : NodeId → NodeId = rebased r n next low in
      let rebase : (with_next next (rename_parser r s.parser) ≡ rename_parser g s.parser) × Okay g s.parser s.side.doc k.doc = states-rebase r s.parser s.side.doc k.doc next low k.okay x in
      let now : t.parser ≡ rename_parser r s.parser = ap (λ (u : Serial). u.parser) k.is in
      let there : IsVerdict p s.parser Rewind = verdict-back r names.one_to_one held p s.parser Rewind is (subst (λ q. IsVerdict held q Rewind) now verdict) in
      let on : Watched (reading (with_input page s)) v (judged Rewind v) = rest-watched e w (with_input page s) v p Rewind (sym at_page) after there in
      let seen : Watches e w m0 v0 m (judged Rewind v) = comes (judged Rewind v) (subst (λ a. Watched a v (judged Rewind v)) (sym k.moment) on) in
      let renewed_is : renewed d.realm t.parser ≡ rename_parser g s.parser = ap (with_next next) now ∙ rebase.0 in
      let own : record t { parser = renewed d.realm t.parser } ≡ own_of g k.doc (with_input [] s) =
      ap (λ (u : Serial). record u { parser = renewed d.realm t.parser }) k.is ∙ ap (λ q. record (own_of r k.doc (with_input [] s)) { parser = q }) renewed_is in (
        m,
        judged Rewind v,
        g,
        seen,
        record {
          names = names-rebased r n next low x;
          alike = (with_input [] s, k.doc, k.moment, own, rebase.1, k.idle);
          in_phase = ap (λ (u : Serial). u.input) k.is;
          failed = omega (arith, f);
          watch = (at_page, refl);
        },
      )

  concludes : (held : Parser) (d d' : Desk) (m own : Moment) → InHand r page held v → v.failed + 1 ≡ d.epoch → Names r d.realm → IsFree r d.realm held → AreAlike r page m own → is_settled own ≡ true →
      Concludes held own d d' → Comes m → Stood e w m0 v0 page d'
  concludes held d d' m (reading t) hand f names free_ alike settled (c, verdict, is) comes =
      subst (Stood e w m0 v0 page) (sym is) (decides held d m t c hand f names free_ (reads r page m t alike (empty-of t.input settled)) verdict comes)
  concludes held d d' m (tag_ended j t) hand f names free_ alike settled is comes = absurd is
  concludes held d d' m (awaits name t) hand f names free_ alike settled is comes =
      let seen : Watches e w m0 v0 m v = comes v (still-awaits m t name alike) in
      subst (Stood e w m0 v0 page) (sym is) (m, v, r, seen, record { names = names; alike = alike; in_phase = free_; failed = f; watch = hand })
    where
      still-awaits : (m : Moment) (t : Serial) (name : List ℕ) → AreAlike r page m (awaits name t) → Watched m v v
      still-awaits m t name (s, doc, p, q, o, idle) = subst (λ a. Watched a v v) (sym p) refl
  concludes held d d' m (over o) hand f names free_ alike settled is comes =
      let seen : Watches e w m0 v0 m v = comes v (is-over m alike) in
      subst (Stood e w m0 v0 page) (sym is) (m, v, r, seen, record { names = names; alike = alike; in_phase = tt; failed = f; watch = tt })
    where
      is-over : (m : Moment) → AreAlike r page m (over o) → Watched m v v
      is-over m (u, p, q, l, s) = subst (λ a. Watched a v v) (sym p) refl

  -- Do with a script in hand, from a moment of the serial parse behind which the next is its own next
  pub do-script : (held : Parser) (d d' : Desk) (m own : Moment) → InHand r page held v → v.failed + 1 ≡ d.epoch → Names r d.realm → IsFree r d.realm held → Watches e w m0 v0 m v →
      ((n : ℕ) (own1 : Moment) → moment_after n ending.End w own ≡ Some own1 → (m1 : Moment) × (moment_after n e w m ≡ Some m1) × AreAlike r page m1 own1) →
      RunsOn w held own d d' → Stood e w m0 v0 page d'
  do-script held d d' m own hand f names free_ seen each (own', settles, concluded) =
      let next = each settles.fuel settles.next settles.first in
      let there = alongside next.0 settles.next own' (through-any ending.End e w settles.next own' settles.through) next.2 (λ v' k. watches-next e w m0 m next.0 v0 v v' settles.fuel seen next.1 k) in
      concludes held d d' there.0 own' hand f names free_ there.1 settles.settled concluded there.2

-- ---- what comes next where a script is in hand

module _ (e : Ending) (w : World) (r : NodeId → NodeId) (page : List ℕ) where
  abbrev pub NextAlike : Moment → Moment → Type 0
  NextAlike m own = (n : ℕ) (own1 : Moment) → moment_after n ending.End w own ≡ Some own1 → (m1 : Moment) × (moment_after n e w m ≡ Some m1) × AreAlike r page m1 own1

  pub tag-next : (m : Moment) (i : NodeId) (t : Serial) → AreAlike r page m (tag_ended i t) → NextAlike m (tag_ended i t)
  tag-next m i t alike n own1 q = moments-rename r page n e w m (tag_ended i t) own1 alike refl (any-ending n e ending.End w (tag_ended i t) refl ∙ q)

  pub fetch-next : (m : Moment) (name : List ℕ) (t : Serial) → AreAlike r page m (awaits name t) → NextAlike m (awaits name t)
  unfolding moment_after
  fetch-next m name t alike n own1 q = fetches-rename r page n e w m name t own1 alike q
