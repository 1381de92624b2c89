-- The messages that are taken, beside the journal's Takes.
use Rattle.std.proofs.Common.{◌≡◌, ◌+◌, Bool, false, true≢false, List, [], ◌∷◌, ◌++◌, Option, Some, None, refl, sym, ◌∙◌, ap, subst, inl, inr, length-append, arith}
use Rattle.std.specs.Prelude.{IfSome, IsSome, IsTrue}
use Rattle.std.proofs.lemmas.List.{map-append}
use Rattle.standard.specs.Entities.{Entities}
use Rattle.core_definitions.specs.declared.event.Event.{Event}
use Rattle.core_definitions.specs.declared.event.Event.TheVariants.{Send, Pick, Give, Take, Do, Arrive}
use Rattle.core_steps.specs.Sides.{Shown}
use Rattle.run_laws.specs.Along.{takes_in}
use Rattle.speculation.specs.Asking.{Asked}
use Rattle.page_turns.specs.Along.{MayDo, requests_of}
use Rattle.page_turns.specs.Messages.{Message, AreReplies, TakesOne, TakesLast, TakenSoFar, MayTakeMore, ToldInOrder, TellsOn}

takes-then : (vs : List Event) (v : Event) → takes_in (vs ++ v ∷ []) ≡ takes_in vs + takes_in (v ∷ [])
takes-then [] v = omega arith
takes-then (Send ∷ vs) v = takes-then vs v
takes-then (Pick ∷ vs) v = takes-then vs v
takes-then (Give ∷ vs) v = takes-then vs v
takes-then (Take ∷ vs) v = let rest = takes-then vs v in omega (arith, rest)
takes-then (Do ∷ vs) v = takes-then vs v
takes-then (Arrive name ∷ vs) v = takes-then vs v

pub taken_first : (taken : Option (List Message)) (s : Shown) → IfSome taken (λ messages. messages ≡ []) → s.journal.events ≡ [] → TakenSoFar taken s.journal.events
taken_first None s none is = tt
taken_first (Some ms) s none is = subst (λ vs. AreReplies (takes_in vs) ms) (sym is) ([], none, refl)

-- an event that is no Take
pub taken_same : (old new : Option (List Message)) (vs us : List Event) (v : Event) → takes_in (v ∷ []) ≡ 0 → new ≡ old → us ≡ vs ++ v ∷ [] → TakenSoFar old vs → TakenSoFar new us
taken_same None new vs us v none same is h = subst (λ o. TakenSoFar o us) (sym same) tt
taken_same (Some ms) new vs us v none same is (rs, all, count) =
    let more = takes-then vs v in
    subst (λ o. TakenSoFar o us) (sym same) (subst (λ e. AreReplies (takes_in e) ms) (sym is) (rs, all, omega (arith, count, more, none)))

-- a Take, whose reply was taken
pub taken_one : (old new : Option (List Message)) (vs us : List Event) → TakesOne old new → us ≡ vs ++ Take ∷ [] → TakenSoFar old vs → TakenSoFar new us
taken_one old None vs us (r, one) is h = tt
taken_one None (Some ns) vs us (r, one) is h = absurd one
taken_one (Some ms) (Some ns) vs us (r, one) is (rs, all, count) =
    let more = takes-then vs Take in
    let longer = length-append rs (r ∷ []) in
    subst (λ l. AreReplies (takes_in us) l) (sym one) (subst (λ e. AreReplies (takes_in e) (ms ++ Some r ∷ [])) (sym is) (rs ++ r ∷ [], ap (λ l. l ++ Some r ∷ []) all ∙ sym (map-append Some rs (r ∷ [])), omega (arith, count, more, longer)))

pub taken_kept : (old new : Option (List Message)) (vs us : List Event) → new ≡ old → us ≡ vs → TakenSoFar old vs → TakenSoFar new us
taken_kept old new vs us same is h = subst (λ o. TakenSoFar o us) (sym same) (subst (λ e. TakenSoFar old e) (sym is) h)

pub taken_did : (taken : Option (List Message)) (s s' : Shown) → MayDo s s' → TakenSoFar taken s.journal.events → TakenSoFar taken s'.journal.events
taken_did taken s s' (inl stays) h = taken_kept taken taken s.journal.events s'.journal.events refl (ap (λ (z : Shown). z.journal.events) stays) h
taken_did taken s s' (inr did) h = taken_same taken taken s.journal.events s'.journal.events Do refl refl (ap (λ (z : Shown). z.journal.events) did.others) h

-- perhaps with one more
pub more_none : (taken : Option (List Message)) (vs : List Event) → TakenSoFar taken vs → MayTakeMore taken vs
more_none None vs h = tt
more_none (Some ms) vs h = inl h

pub more_last : (old new : Option (List Message)) (vs us : List Event) → TakesLast old new → us ≡ vs → TakenSoFar old vs → MayTakeMore new us
more_last old None vs us (last, one) is h = tt
more_last None (Some ns) vs us (last, one) is h = absurd one
more_last (Some ms) (Some ns) vs us (last, one) is h = subst (λ e. MayTakeMore (Some ns) e) (sym is) (inr (ms, last, one, h))

-- ---- in order

none-taken : (es : Entities) (put : Option (List Asked)) (taken : Option (List Message)) → IfSome taken (λ messages. messages ≡ []) → ToldInOrder es put taken
none-taken es None taken none = tt
none-taken es (Some asked) None none = tt
none-taken es (Some asked) (Some ms) none = record { said = []; messages_are = none; answered = []; later = requests_of asked; asked_are = refl; replies_are = refl }

-- before anything went through
pub tells_first : (es : Entities) (put : Option (List Asked)) (taken : Option (List Message)) (ordered : Bool) → IfSome taken (λ messages. messages ≡ []) → TellsOn es put put taken taken ordered ordered
tells_first es put taken ordered none = record { put_told = λ some. some; taken_told = λ some. some; kept = refl; in_order = λ is. none-taken es put taken none }

-- where the order isn't known
pub tells_unordered : (es : Entities) (put put' : Option (List Asked)) (taken taken' : Option (List Message)) → IsSome put' → IsSome taken' → TellsOn es put put' taken taken' false false
tells_unordered es put put' taken taken' put_told taken_told = record { put_told = λ some. put_told; taken_told = λ some. taken_told; kept = refl; in_order = λ is. absurd (true≢false (sym is)) }

pub tells_then : {es : Entities} {p q r : Option (List Asked)} {t u v : Option (List Message)} {a b c : Bool} → TellsOn es p q t u a b → TellsOn es q r u v b c → TellsOn es p r t v a c
tells_then one two = record {
  put_told = λ some. two.put_told (one.put_told some);
  taken_told = λ some. two.taken_told (one.taken_told some);
  kept = two.kept ∙ one.kept;
  in_order = two.in_order;
}
