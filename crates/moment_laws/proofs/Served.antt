-- Which ids are bound from moment to moment.
use Rattle.std.proofs.Common.{IsTrue, ◌≡◌, refl, sym, ◌∙◌, subst, ℕ, zero, suc, ◌<◌, Bool, true, false, ◌||◌, List, [], ◌∷◌, Option, Some, None, option_and_then, inl, inr, arith, true≢false}
use Rattle.std.specs.Prelude.{◌⊎◌}
use Rattle.std.proofs.lemmas.Option.{none-some, same_Some}
use Rattle.html_types.specs.Operations.{same_id, later}
use Rattle.html_types.specs.declared.operation.NodeId.{NodeId}
use Rattle.html_types.specs.declared.open.Open.{Open}
use Rattle.html_types.specs.declared.ending.Ending.{Ending}
use Rattle.html_types.specs.declared.ending.Ending.TheVariants as ending
use Rattle.html_types.specs.declared.instruction.Stop.TheVariants as stop
use Rattle.html_types.specs.declared.instruction.Finish.{Finish}
use Rattle.html_types.specs.declared.instruction.Finish.TheVariants as finale
use Rattle.standard.specs.Act.{Doc, acts, is_bound}
use Rattle.standard.specs.Parser.{Parser, Took, took, take_character, Finished, finish}
use Rattle.serial.specs.Scripts.{Fetched, got, missing, faulted, file_statements}
use Rattle.serial.specs.Serial.{World, Serial, Course, goes, refuses, starved, Advanced, advanced, advance, before_point, moved, run_text, end_of_script, Moment, reading, tag_ended, awaits, over, taken, at_end, read_next, unless_pending, behind_script, after_script, after_fetch, fetched, moment_after, moments_on, Leads}
use Rattle.serial.specs.Serial as serial
use Rattle.standard_laws.specs.Laws.{outcome_at}
use Rattle.standard_laws.proofs.Parse.{advance-parse}
use Rattle.standard_laws.proofs.Passing.{finished-at}
use Rattle.standard_laws.proofs.Kept as kept
use Rattle.rule_laws.specs.Naming.{Serves, AreFresh}
use Rattle.rule_laws.specs.NamingLaws.{TookBound}
use Rattle.rule_laws.proofs.FreshnessOps.{Follows}
use Rattle.rule_laws.proofs.FreshnessTexts.{characters-bound, fresh-follows}
use Rattle.rule_laws.proofs.FreshnessDocs.{acts-bind, texts-served, ends-served, serves-more}
use Rattle.core_definitions.specs.Desk.{renewed}
use Rattle.moment_laws.specs.Served.{AreBelow, HasRoom, RoomServes, FirstHasRoom, TextsHaveRoom, EndsHaveRoom, RenewingHasRoom, state_at, IsServedAt, MomentsServe, MomentsHaveRoom, MomentsBind, HeldHaveRoom}

-- ---- from moment to moment

module _ (Coming : (NodeId → Bool) → NodeId → Type 0) (law : Follows Coming) where
  abbrev IsServedIn : Serial → Type 0
  IsServedIn s = Serves Coming (is_bound s.side.doc.bound) s.parser.open_state

  abbrev StaysServed : Serial → Serial → Type 0
  StaysServed s t = IsServedIn s → IsServedIn t

  abbrev Advances : Advanced → Type 0
  Advances (advanced p d rest k) = Serves Coming (is_bound d.bound) p.open_state

  served-steps : kept.Steps StaysServed
  served-steps = record {
    same = λ s h. h;
    join = λ s t u a b h. b (a h);
    line = λ l s h. h;
    counted = λ s h. h;
    inserted = λ t s fits h. h;
    changed = λ t s stays h. h;
    awaits = λ name s h. h;
    parsed = λ s p d rest k es q h.
        subst Advances (sym (advance-parse es s.parser s.side.doc (before_point s)) ∙ q)
        (texts-served Coming law s.side.doc es s.parser (before_point s) h).0.1;
    script = λ s t h. h;
    enters = λ s h. h;
  }

  character-served : (s : Serial) (cs : List ℕ) (k : Took) → TookBound Coming (is_bound s.side.doc.bound) k → IsServedAt Coming (serial.after_character s cs k)
  character-served s cs (took ops p stop.InputEnd) b = subst (λ known. Serves Coming known p.open_state) (sym (acts-bind s.side.doc ops)) b.0.1
  character-served s cs (took ops p (stop.Script i)) b = subst (λ known. Serves Coming known p.open_state) (sym (acts-bind s.side.doc ops)) b.0.1
  character-served s cs (took ops p stop.Deep) b = subst (λ known. Serves Coming known p.open_state) (sym (acts-bind s.side.doc ops)) b.0.1

  outcome-served : (s : Serial) (p : Parser) (d : Doc) (k : Finish) → Serves Coming (is_bound d.bound) p.open_state → IsServedAt Coming (over (outcome_at s p d k))
  outcome-served s p d finale.Finished h = h
  outcome-served s p d finale.Deep h = h

  next-served : (e : Ending) (w : World) (s : Serial) (input : List ℕ) → IsServedIn s → IsServedAt Coming (read_next w.entities e s input)
  next-served ending.End w s [] h =
      let f : Finished = finish w.entities s.parser in
      subst (λ o. IsServedAt Coming (over o)) (sym (finished-at s f))
      (outcome-served s f.parser (acts s.side.doc f.ops) f.finish (ends-served Coming law s.side.doc w.entities s.parser h).1)
  next-served ending.Bad w s [] h = h
  next-served ending.Long w s [] h = h
  next-served ending.Fault w s [] h = h
  next-served e w s (c ∷ cs) h = character-served s cs (take_character w.entities s.parser c) (characters-bound Coming law (is_bound s.side.doc.bound) w.entities s.parser c h)

  pending-served : (pending : Option (List ℕ)) (t : Serial) → IsServedIn t → IsServedAt Coming (unless_pending pending t)
  pending-served None t h = h
  pending-served (Some name) t h = h

  script-served : (s : Serial) (f : Course) (m : Moment) → IsServedIn s → kept.Kept StaysServed s f → after_script f ≡ Some m → IsServedAt Coming m
  script-served s (goes t) m h k q = subst (IsServedAt Coming) (same_Some (behind_script t) m q) (pending-served t.side.pending t (k h))
  script-served s (refuses w t) m h k q = subst (IsServedAt Coming) (same_Some (over (serial.refusal w t)) m q) (k h)
  script-served s starved m h k q = absurd (none-some m q)

  fetch-served : (n : ℕ) (w : World) (name : List ℕ) (s : Serial) (f : Fetched) (m : Moment) → IsServedIn s → after_fetch n w name s f ≡ Some m → IsServedAt Coming m
  fetch-served n w name s (got bytes) m h q =
      script-served s (run_text n w (file_statements bytes) s) m h (kept.run_text-kept StaysServed served-steps n w (file_statements bytes) s) q
  fetch-served n w name s missing m h q = subst (IsServedAt Coming) (same_Some _ m q) h
  fetch-served n w name s faulted m h q = subst (IsServedAt Coming) (same_Some _ m q) h

  moment-served : (n : ℕ) (e : Ending) (w : World) (m m' : Moment) → moment_after n e w m ≡ Some m' → IsServedAt Coming m → IsServedAt Coming m'
  unfolding moment_after
  moment-served n e w (reading s) m' q h = subst (IsServedAt Coming) (same_Some _ m' q) (next-served e w s s.input h)
  moment-served n e w (tag_ended i s) m' q h = script-served s (end_of_script n w i s) m' h (kept.end_of_script-kept StaysServed served-steps n w i s) q
  moment-served n e w (awaits name s) m' q h = fetch-served n w name s (fetched w name) m' h q
  moment-served n e w (over o) m' q h = subst (IsServedAt Coming) (same_Some _ m' q) h

  some-served : (k n : ℕ) (e : Ending) (w : World) (m m' : Moment) → moments_on k n e w m ≡ Some m' → IsServedAt Coming m → IsServedAt Coming m'
  some-served zero n e w m m' q h = subst (IsServedAt Coming) (same_Some m m' q) h
  some-served (suc k) n e w m m' q h = by (moment_after n e w m) (λ a is. some-served k n e w a m' is) (λ a is. moment-served n e w m a is h) q
    where
      by : (o : Option Moment) → ((a : Moment) → moments_on k n e w a ≡ Some m' → IsServedAt Coming a → IsServedAt Coming m') → ((a : Moment) → o ≡ Some a → IsServedAt Coming a) →
          option_and_then (λ a. moments_on k n e w a) o ≡ Some m' → IsServedAt Coming m'
      by None rest first is = absurd (none-some m' is)
      by (Some a) rest first is = rest a is (first a refl)

  pub moments-served : MomentsServe Coming
  moments-served e w m m' (k, n, q) h = some-served k n e w m m' q h

-- ---- room for realms

same-realm : (q id : NodeId) → same_id q id ≡ true → q.realm ≡ id.realm
same-realm q id e = grind (arith, e)

room-follows : (realm : ℕ) → Follows (HasRoom realm)
room-follows realm = record {
  fresh = λ known id h. fresh-follows.fresh known id h.fresh;
  made_next = λ known id h. record { fresh = fresh-follows.made_next known id h.fresh; below = λ q. by known id h q (same_id q id) refl; next_below = h.next_below };
}
  where
    by : (known : NodeId → Bool) (id : NodeId) → HasRoom realm known id → (q : NodeId) (v : Bool) → same_id q id ≡ v → IsTrue (v || known q) → q.realm < realm
    by known id h q true e bound = subst (λ r. r < realm) (sym (same-realm q id e)) h.next_below
    by known id h q false e bound = h.below q bound

-- what is asked of the ids that come, asked anew
coming-anew : (A B : (NodeId → Bool) → NodeId → Type 0) (known : NodeId → Bool) (b : Open) → Serves A known b → B known b.next → Serves B known b
coming-anew A B known b s c = record { stack_bound = s.stack_bound; formats_bound = s.formats_bound; head_bound = s.head_bound; form_bound = s.form_bound; coming = c }

pub room-serves : RoomServes
room-serves realm p d h = coming-anew (HasRoom realm) AreFresh (is_bound d.bound) p.open_state h h.coming.fresh

pub first-room : FirstHasRoom
first-room realm = record {
  stack_bound = tt;
  formats_bound = tt;
  head_bound = tt;
  form_bound = tt;
  coming = record { fresh = λ k. refl; below = λ id bound. absurd (true≢false (sym bound)); next_below = omega arith };
}

pub texts-room : TextsHaveRoom
texts-room realm = texts-served (HasRoom realm) (room-follows realm)

pub ends-room : EndsHaveRoom
ends-room realm = ends-served (HasRoom realm) (room-follows realm)

pub moments-room : MomentsHaveRoom
moments-room realm = moments-served (HasRoom realm) (room-follows realm)

-- no id of a realm is bound that all bound ids are below
pub below-fresh : (realm : ℕ) (known : NodeId → Bool) → AreBelow realm known → AreFresh known (record { realm = realm; n = 0 })
below-fresh realm known below k = by (known (later k (record { realm = realm; n = 0 }))) refl
  where
    by : (v : Bool) → known (later k (record { realm = realm; n = 0 })) ≡ v → v ≡ false
    by true bound = let l : realm < realm = below (later k (record { realm = realm; n = 0 })) bound in absurd (omega (arith, l))
    by false bound = refl

-- the ids that come are of another realm
pub renewed-serves : (realm : ℕ) (p : Parser) (d : Doc) → AreBelow realm (is_bound d.bound) → Serves AreFresh (is_bound d.bound) p.open_state →
    Serves AreFresh (is_bound d.bound) (renewed realm p).open_state
renewed-serves realm p d below s = record {
  stack_bound = s.stack_bound;
  formats_bound = s.formats_bound;
  head_bound = s.head_bound;
  form_bound = s.form_bound;
  coming = below-fresh realm (is_bound d.bound) below;
}

pub renewing-room : RenewingHasRoom
renewing-room realm p d h = record {
  stack_bound = h.stack_bound;
  formats_bound = h.formats_bound;
  head_bound = h.head_bound;
  form_bound = h.form_bound;
  coming = record {
    fresh = below-fresh realm (is_bound d.bound) h.coming.below;
    below = λ id bound. let l : id.realm < realm = h.coming.below id bound in omega (arith, l);
    next_below = omega arith;
  };
}

-- ---- what comes to be bound

-- the ids that come are of that realm, and so are all that are bound and weren't
record AreOwn (before : NodeId → Bool) (realm : ℕ) (known : NodeId → Bool) (next : NodeId) : Type 0 where
  fresh : AreFresh known next
  stays : (id : NodeId) → IsTrue (before id) → IsTrue (known id)
  anew : (id : NodeId) → IsTrue (known id) → IsTrue (before id) ⊎ (id.realm ≡ realm)
  own : next.realm ≡ realm

own-follows : (before : NodeId → Bool) (realm : ℕ) → Follows (AreOwn before realm)
own-follows before realm = record {
  fresh = λ known id h. fresh-follows.fresh known id h.fresh;
  made_next = λ known id h. record {
    fresh = fresh-follows.made_next known id h.fresh;
    stays = λ q bound. or-true (same_id q id) (known q) (h.stays q bound);
    anew = λ q. by known id h q (same_id q id) refl;
    own = h.own;
  };
}
  where
    or-true : (v w : Bool) → IsTrue w → IsTrue (v || w)
    or-true true w h = refl
    or-true false w h = h

    by : (known : NodeId → Bool) (id : NodeId) → AreOwn before realm known id → (q : NodeId) (v : Bool) → same_id q id ≡ v → IsTrue (v || known q) → IsTrue (before q) ⊎ (q.realm ≡ realm)
    by known id h q true e bound = inr (same-realm q id e ∙ h.own)
    by known id h q false e bound = h.anew q bound

pub moments-bind : MomentsBind
moments-bind e w m m' at h =
    let before : NodeId → Bool = is_bound (state_at m).side.doc.bound in
    let next : NodeId = (state_at m).parser.open_state.next in
    let own : AreOwn before next.realm before next = record { fresh = h.coming; stays = λ id bound. bound; anew = λ id bound. inl bound; own = refl } in
    let end : IsServedAt (AreOwn before next.realm) m' =
    moments-served (AreOwn before next.realm) (own-follows before next.realm) e w m m' at
    (coming-anew AreFresh (AreOwn before next.realm) before (state_at m).parser.open_state h own) in
    record { stays = end.coming.stays; anew = end.coming.anew; realm = end.coming.own }

-- a parser of another realm
pub held-room : HeldHaveRoom
held-room realm held s t binds other below h =
    serves-more (HasRoom realm) (is_bound s.side.doc.bound) (is_bound t.side.doc.bound) held.open_state binds.stays
    (record { fresh = λ k. by k (is_bound t.side.doc.bound (later k held.open_state.next)) refl; below = below; next_below = h.coming.next_below }) h
  where
    not-bound : (k : ℕ) → IsTrue (is_bound s.side.doc.bound (later k held.open_state.next)) ⊎ (held.open_state.next.realm ≡ s.parser.open_state.next.realm) → true ≡ false
    not-bound k (inl bound) = sym bound ∙ h.coming.fresh k
    not-bound k (inr same) = absurd (other same)

    by : (k : ℕ) (v : Bool) → is_bound t.side.doc.bound (later k held.open_state.next) ≡ v → v ≡ false
    by k true bound = not-bound k (binds.anew (later k held.open_state.next) bound)
    by k false bound = refl
