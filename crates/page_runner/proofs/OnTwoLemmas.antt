-- What went through both lanes, beside the journal.
use Rattle.std.proofs.Common.{◌≡◌, ℕ, List, [], ◌∷◌, ◌++◌, length, map, Option, Some, None, Result, Ok, Err, OnOk, refl, sym, ◌∙◌, ap, subst, inl, inr}
use Rattle.std.specs.Prelude.{IfSome}
use Rattle.std.proofs.lemmas.List.{map-append}
use Rattle.standard.specs.Entities.{Entities}
use Rattle.core_definitions.specs.declared.event.Event.{Event}
use Rattle.core_definitions.specs.Core.{Setup}
use Rattle.core_definitions.specs.Desk.{Desk}
use Rattle.speculation.specs.declared.in_force.InForce as InForce
use Rattle.speculation.specs.Asking.{Asked}
use Rattle.core_steps.specs.Sides.{Shown}
use Rattle.parser_thread.specs.declared.messages.ToParser.{ToParser}
use Rattle.parser_thread.specs.declared.messages.ToParser.TheVariants.{Ask, Stop}
use Rattle.parser_thread.specs.declared.running.Lanes.{Lanes}
use Rattle.parser_thread.specs.Answers.{said}
use Rattle.run_laws.specs.Along.{HoldsAlong, takes_in, SendsOf, LooksAhead}
use Rattle.run_laws.proofs.Dropping.{drops-are_over}
use Rattle.page_turns.specs.declared.page.Failure.{Failure}
use Rattle.page_turns.specs.declared.page.Failure.TheVariants.{Memory, Write}
use Rattle.page_turns.specs.Along.{AsksOf, FetchesAwaited, requests_of, Goes}
use Rattle.page_turns.specs.Messages.{Message, TakenSoFar, MayTakeMore}
use Rattle.page_turns.specs.Scripts.{Met, GivesMore}
use Rattle.page_turns.proofs.AlongLemmas.{goes_more, looks_along, asks_along, awaited_along, sends_along}
use Rattle.page_runner.specs.declared.status.Status.{Status}
use Rattle.page_runner.specs.Answers.{status_for}
use Rattle.page_runner.proofs.TakenLemmas.{takes_follow}
use Rattle.page_runner.specs.OnTwo.{asks_in, requests_in, AreRepliesAt, TakesOf, InOrder, IsAnswered, IsJournaled, DropsFailed, IsLookingAhead, IsFetchingAwaited}

-- ---- the messages to the parser's side

pub asks_then : (ms : List ToParser) (r : Asked) → asks_in (ms ++ Ask r ∷ []) ≡ asks_in ms ++ r ∷ []
asks_then [] r = refl
asks_then (Ask q ∷ ms) r = ap (λ l. q ∷ l) (asks_then ms r)
asks_then (Stop ∷ ms) r = asks_then ms r

asks-stopped : (asks : List Asked) → asks_in (map Ask asks ++ Stop ∷ []) ≡ asks
asks-stopped [] = refl
asks-stopped (q ∷ asks) = ap (λ l. q ∷ l) (asks-stopped asks)

pub asked_then : (ms : List ToParser) (r : Asked) → ms ≡ map Ask (asks_in ms) → ms ++ Ask r ∷ [] ≡ map Ask (asks_in (ms ++ Ask r ∷ []))
asked_then ms r is = ap (λ l. l ++ Ask r ∷ []) is ∙ (sym (map-append Ask (asks_in ms) (r ∷ [])) ∙ ap (map Ask) (sym (asks_then ms r)))

-- ---- those that were taken, by the status
pub taken_at_ok : (r : Status) (taken : Option (List Message)) (vs : List Event) → TakenSoFar taken vs → IfSome taken (λ messages. AreRepliesAt r (takes_in vs) messages)
taken_at_ok r None vs h = tt
taken_at_ok r (Some ms) vs h = inl h

pub taken_at_err : (f : Failure) (taken : Option (List Message)) (vs : List Event) → (f ≡ Write → TakenSoFar taken vs) → MayTakeMore taken vs → IfSome taken (λ messages. AreRepliesAt (status_for f) (takes_in vs) messages)
taken_at_err f None vs exact more = tt
taken_at_err Memory (Some ms) vs exact (inl h) = inl h
taken_at_err Memory (Some ms) vs exact (inr (before, last, is, h)) = inr (refl, before, last, is, h)
taken_at_err Write (Some ms) vs exact more = inl (exact refl)

-- ---- both ends

module _ {E : Type 0} (g : InForce.Ghosts E) (es : Entities) (ahead : ℕ) (s : Shown) (l : Lanes E g) {given : Met} (asks : List Asked) (goes : Goes given (Some asks) s) (entities : s.entities ≡ es) (credit : s.ahead ≡ ahead) (stopped : l.asked.put ≡ map Ask asks ++ Stop ∷ []) where
  asks-are : asks_in l.asked.put ≡ goes.asked
  asks-are = ap asks_in stopped ∙ (asks-stopped asks ∙ goes.told)

  requests-are : requests_in l.asked.put ≡ requests_of goes.asked
  requests-are = ap requests_of asks-are

  along-here : (P : Setup → Event → Desk → Type 0) → HoldsAlong P s.entities s.ahead s.journal → HoldsAlong P es ahead s.journal
  along-here P h = subst (λ n. HoldsAlong P es n s.journal) credit (subst (λ e. HoldsAlong P e s.ahead s.journal) entities h)

  sent-here : HoldsAlong (λ x. SendsOf (requests_in l.asked.put)) es ahead s.journal
  sent-here = subst (λ rs. HoldsAlong (λ x. SendsOf rs) es ahead s.journal) (sym requests-are) (along-here (λ x. SendsOf (requests_of goes.asked)) (sends_along (Some asks) s goes))

  took-here : es ≡ g.entities → InOrder g l → IsAnswered g l → (outcome : Status) (messages : List Message) → map (said g) l.answers.taken ≡ messages → AreRepliesAt outcome (takes_in s.journal.events) messages →
      HoldsAlong (TakesOf (map (said g) l.answers.taken)) es ahead s.journal
  took-here table order answered outcome messages same taken =
      let asked : HoldsAlong (λ x. AsksOf asks x.pieces) g.entities ahead s.journal =
      subst (λ e. HoldsAlong (λ x. AsksOf asks x.pieces) e ahead s.journal) table
      (subst (λ qs. HoldsAlong (λ x. AsksOf qs x.pieces) es ahead s.journal) (sym goes.told) (along-here (λ x. AsksOf goes.asked x.pieces) (asks_along (Some asks) s goes))) in
      subst (λ e. HoldsAlong (TakesOf (map (said g) l.answers.taken)) e ahead s.journal) (sym table)
      (subst (λ ms. HoldsAlong (TakesOf ms) g.entities ahead s.journal) (sym same) (takes_follow g l asks stopped order answered ahead s.journal outcome messages same taken asked))

  pub is_journaled : es ≡ g.entities → InOrder g l → IsAnswered g l → (outcome : Status) (messages : List Message) → map (said g) l.answers.taken ≡ messages → AreRepliesAt outcome (takes_in s.journal.events) messages →
      IsJournaled g es ahead s.journal outcome l
  is_journaled table order answered outcome messages same taken = record {
    stopped = (asks, stopped);
    sends = ap length asks-are ∙ goes.sends;
    sent = subst (λ qs. HoldsAlong (λ x. AsksOf qs x.pieces) es ahead s.journal) (sym asks-are) (along-here (λ x. AsksOf goes.asked x.pieces) (asks_along (Some asks) s goes));
    taken = subst (λ ms. AreRepliesAt outcome (takes_in s.journal.events) ms) (sym same) taken;
    took = took-here table order answered outcome messages same taken;
  }

  pub drops_failed : DropsFailed g es ahead s.journal l
  drops_failed = record { dropped = drops-are_over (requests_in l.asked.put) es ahead s.journal sent-here }

pub is_looking_ahead : {given : Met} (es : Entities) (ahead : ℕ) (s : Shown) (asks : Option (List Asked)) → Goes given asks s → s.entities ≡ es → s.ahead ≡ ahead → IsLookingAhead es ahead s.journal
is_looking_ahead es ahead s asks goes entities credit = record { looks = subst (λ n. HoldsAlong (λ x. LooksAhead x.ahead) es n s.journal) credit (subst (λ e. HoldsAlong (λ x. LooksAhead x.ahead) e s.ahead s.journal) entities (looks_along asks s goes)) }

pub is_fetching_awaited : (given : Met) (es : Entities) (ahead : ℕ) (s : Shown) (asks : Option (List Asked)) → Goes given asks s → s.entities ≡ es → s.ahead ≡ ahead → IsFetchingAwaited es ahead given s.journal
is_fetching_awaited given es ahead s asks goes entities credit =
    record { awaited = subst (λ n. HoldsAlong (λ x. FetchesAwaited given) es n s.journal) credit (subst (λ e. HoldsAlong (λ x. FetchesAwaited given) e s.ahead s.journal) entities (awaited_along asks s goes)) }

-- where more was given
pub is_fetching_more : (given given' : Met) (es : Entities) (ahead : ℕ) (s : Shown) (asks : Option (List Asked)) → GivesMore given given' → Goes given asks s → s.entities ≡ es → s.ahead ≡ ahead → IsFetchingAwaited es ahead given' s.journal
is_fetching_more given given' es ahead s asks more goes = is_fetching_awaited given' es ahead s asks (goes_more given given' asks s more goes)

-- what is so whatever came
pub always_ok : {T E P : Type 0} (r : Result T E) → P → OnOk r P
always_ok (Ok x) so = so
always_ok (Err e) so = tt
