-- What holds along the events so far holds along one more, and in each run.
use Rattle.std.proofs.Common.{◌≡◌, ℕ, zero, suc, ◌+◌, nat_lt, Bool, true, false, true≢false, List, [], ◌∷◌, ◌++◌, length, Option, Some, None, Ok, Err, refl, sym, ◌∙◌, ap, subst, inl, inr, append-nil, append_assoc, length-append, arith}
use Rattle.std.specs.Prelude.{◌⊎◌, Result, OnOk, OnErr, IsTrue, IfSome, not, slice_get}
use Rattle.std.specs.List.{AllByRecursion}
use Rattle.std.proofs.lemmas.Bool.{and_parts}
use Rattle.html_types.specs.declared.ending.Ending.{Ending}
use Rattle.serial.specs.declared.script.Line.{Line}
use Rattle.standard.specs.Entities.{Entities}
use Rattle.serial.specs.Scripts.{Fetched}
use Rattle.serial.specs.Serial.{World}
use Rattle.core_definitions.specs.declared.event.Event.{Event}
use Rattle.core_definitions.specs.declared.event.Event.TheVariants.{Send, Pick, Give, Take, Do, Arrive}
use Rattle.core_definitions.specs.Batches.{Piece, of_text, of_ending}
use Rattle.core_definitions.specs.Core.{Setup, Request, joined}
use Rattle.core_definitions.specs.Desk.{Phase, free, tagged, waits, done, Desk, first_desk, pieces_with, with_more, outstanding, is_done, is_free, can_send, wants_reply, can_do, can_do_in, can_arrive, sends_first, sends, takes, Moves}
use Rattle.core_definitions.specs.StandsFor.{text_of}
use Rattle.core_definitions.specs.Journal.{Knows, IsPageOf}
use Rattle.core_laws.proofs.Handing.{more-may_follow}
use Rattle.speculation.specs.Asking.{Asked}
use Rattle.core_steps.specs.Fetches.{names_of}
use Rattle.core_steps.specs.Sides.{Shown, first_shown, ShowsIn, Shows, DoesShow, journaled, with_piece, with_ending, with_fetch, sent_before, IsRequestFor}
use Rattle.core_steps.proofs.Counts.{counts-same}
use Rattle.run_laws.specs.Along.{MovesWith, HoldsAlong, sends_in, IsForFirst, SendsOf, IsSentAhead, LooksAhead}
use Rattle.page_turns.specs.Scripts.{Met, GivenEarly, GivesMore}
use Rattle.page_turns.specs.Along.{Stays, MayDo, Hands, IsSentSoFar, LooksSoFar, AsksOf, IsAwaitedIn, FetchesAwaited, GoesSoFar, requests_of, HasArrived, Goes}
use Rattle.page_turns.specs.Messages.{Adds}
use Rattle.page_turns.specs.Turns.{StaysRead}
use Rattle.page_turns.proofs.DeskLemmas.{text-append}
use Rattle.page_turns.proofs.ReachLemmas.{joined-append, pieces-more}

-- ---- events one behind another

with-then : (P : Event → Desk → Type 0) (ahead : ℕ) (w : World) (vs : List Event) (v : Event) (a b c : Desk) → MovesWith P ahead w vs a b → P v b → Moves ahead w v b c → MovesWith P ahead w (vs ++ v ∷ []) a c
with-then P ahead w [] v a b c is p step = (c, subst (P v) is p, subst (λ d. Moves ahead w v d c) is step, refl)
with-then P ahead w (u ∷ us) v a b c (d, q, first, rest) p step = (d, q, first, with-then P ahead w us v d b c rest p step)

pub with-weaker : (P Q : Event → Desk → Type 0) (ahead : ℕ) (w : World) → ((v : Event) (d : Desk) → P v d → Q v d) → (vs : List Event) (a b : Desk) → MovesWith P ahead w vs a b → MovesWith Q ahead w vs a b
with-weaker P Q ahead w less [] a b is = is
with-weaker P Q ahead w less (v ∷ vs) a b (d, p, step, rest) = (d, less v a p, step, with-weaker P Q ahead w less vs d b rest)

step-more : (ahead : ℕ) (w : World) (v : Event) (xs : List Piece) (a b : Desk) → Moves ahead w v a b → Moves ahead w v (with_more xs a) (with_more xs b)
step-more ahead w v xs a b step = let (c, there, is) = more-may_follow ahead w (v ∷ []) xs a b (b, step, refl) in subst (λ z. Moves ahead w v (with_more xs a) z) (sym is) there

-- with more pieces to be sent
with-more : (P Q : Event → Desk → Type 0) (ahead : ℕ) (w : World) (xs : List Piece) → ((v : Event) (d : Desk) → P v d → Q v (with_more xs d)) → (vs : List Event) (a b : Desk) → MovesWith P ahead w vs a b → MovesWith Q ahead w vs (with_more xs a) (with_more xs b)
with-more P Q ahead w xs also [] a b is = ap (with_more xs) is
with-more P Q ahead w xs also (v ∷ vs) a b (d, p, step, rest) = (with_more xs d, also v a p, step-more ahead w v xs a d step, with-more P Q ahead w xs also vs d b rest)

-- ---- what is said of one event

get-more : {A : Type 0} (xs ys : List A) (k : ℕ) (x : A) → slice_get xs k ≡ Some x → slice_get (xs ++ ys) k ≡ Some x
get-more [] ys k x at = absurd (cc at)
get-more (z ∷ xs) ys zero x at = at
get-more (z ∷ xs) ys (suc k) x at = get-more xs ys k x at

get-last : {A : Type 0} (xs : List A) (x : A) → slice_get (xs ++ x ∷ []) (length xs) ≡ Some x
get-last [] x = refl
get-last (z ∷ xs) x = get-last xs x

asks-longer : (asks more : List Asked) (pieces : List (List ℕ)) (v : Event) (d : Desk) → AsksOf asks pieces v d → AsksOf (asks ++ more) pieces v d
asks-longer asks more pieces Send d (a, at, for, from) = (a, get-more asks more d.sent a at, for, from)
asks-longer asks more pieces Pick d s = s
asks-longer asks more pieces Give d s = s
asks-longer asks more pieces Take d s = s
asks-longer asks more pieces Do d s = s
asks-longer asks more pieces (Arrive name) d s = s

for-first : (ps : List Piece) (d : Desk) (r : Request) → IsRequestFor ps d r → IsForFirst ps d r
for-first [] d r for = for
for-first (p ∷ ps) d r for = for

for-more : (ps xs : List Piece) (d : Desk) (r : Request) → IsForFirst ps d r → IsForFirst (ps ++ xs) (with_more xs d) r
for-more [] xs d r for = absurd for
for-more (p ∷ ps) xs d r for = for

-- so many characters more are to be sent as the page has more
asks-more : (asks : List Asked) (pieces pieces' : List (List ℕ)) (xs : List Piece) → length (joined pieces') ≡ length (joined pieces) + length (text_of xs) → (v : Event) (d : Desk) → AsksOf asks pieces v d
    → AsksOf asks pieces' v (with_more xs d)
asks-more asks pieces pieces' xs longer Send d (a, at, for, from) =
    let text : length (text_of (d.to_send ++ xs)) ≡ length (text_of d.to_send) + length (text_of xs) = ap (λ t. length t) (text-append d.to_send xs) ∙ length-append (text_of d.to_send) (text_of xs) in
    (a, at, for-more d.to_send xs d a.request for, omega (arith, longer, text, from))
asks-more asks pieces pieces' xs longer Pick d s = s
asks-more asks pieces pieces' xs longer Give d s = s
asks-more asks pieces pieces' xs longer Take d s = s
asks-more asks pieces pieces' xs longer Do d s = s
asks-more asks pieces pieces' xs longer (Arrive name) d s = s

awaited-more : (given : Met) (xs : List Piece) (v : Event) (d : Desk) → FetchesAwaited given v d → FetchesAwaited given v (with_more xs d)
awaited-more given xs Send d s = s
awaited-more given xs Pick d s = s
awaited-more given xs Give d s = s
awaited-more given xs Take d s = s
awaited-more given xs Do d s = s
awaited-more given xs (Arrive name) d s = s

-- where more was given
pub awaited-given : (given given' : Met) → GivesMore given given' → (v : Event) (d : Desk) → FetchesAwaited given v d → FetchesAwaited given' v d
awaited-given given given' more Send d s = s
awaited-given given given' more Pick d s = s
awaited-given given given' more Give d s = s
awaited-given given given' more Take d s = s
awaited-given given given' more Do d s = s
awaited-given given given' more (Arrive name) d (inl awaited) = inl awaited
awaited-given given given' more (Arrive name) d (inr (f, early)) = inr (f, more name f early)

full-of : (ahead : ℕ) (d : Desk) → IsSentSoFar ahead None d → nat_lt (outstanding d) ahead ≡ false
full-of ahead d (inl full) = full
full-of ahead d (inr (some, nil)) = absurd (true≢false (sym some))

looks-more : (ahead : ℕ) (o : Option Ending) (xs : List Piece) (v : Event) (d : Desk) → LooksSoFar ahead None v d → LooksSoFar ahead o v (with_more xs d)
looks-more ahead o xs Send d l = tt
looks-more ahead o xs Pick d l = tt
looks-more ahead o xs Give d l = tt
looks-more ahead o xs Take d l = tt
looks-more ahead o xs Do d l = inl (full-of ahead d l)
looks-more ahead o xs (Arrive name) d l = inl (full-of ahead d l)

looks-behind : (ahead : ℕ) (xs : List Piece) (v : Event) (d : Desk) → LooksSoFar ahead None v d → LooksAhead ahead v (with_more xs d)
looks-behind ahead xs Send d l = tt
looks-behind ahead xs Pick d l = tt
looks-behind ahead xs Give d l = tt
looks-behind ahead xs Take d l = tt
looks-behind ahead xs Do d l = inl (full-of ahead d l)
looks-behind ahead xs (Arrive name) d l = inl (full-of ahead d l)

ahead-of : (ahead : ℕ) (o : Option Ending) (d : Desk) → IsSentSoFar ahead o d → IsSentAhead ahead d
ahead-of ahead o d (inl full) = inl full
ahead-of ahead o d (inr (some, nil)) = inr nil

looks-whole : (ahead : ℕ) (o : Option Ending) (v : Event) (d : Desk) → LooksSoFar ahead o v d → LooksAhead ahead v d
looks-whole ahead o Send d l = tt
looks-whole ahead o Pick d l = tt
looks-whole ahead o Give d l = tt
looks-whole ahead o Take d l = tt
looks-whole ahead o Do d l = ahead-of ahead o d l
looks-whole ahead o (Arrive name) d l = ahead-of ahead o d l

text-pieces : (ts : List (List ℕ)) (o : Option Ending) → text_of (pieces_with ts o) ≡ joined ts
text-pieces [] None = refl
text-pieces [] (Some e) = refl
text-pieces (t ∷ ts) o = ap (λ l. t ++ l) (text-pieces ts o)

-- the requests among them are those of the Sends
request-at : (asks : List Asked) (k : ℕ) (a : Asked) → slice_get asks k ≡ Some a → slice_get (requests_of asks) k ≡ Some a.request
request-at [] k a at = absurd (cc at)
request-at (x ∷ asks) zero a at = let same : x ≡ a = cc in ap (λ (z : Asked). Some z.request) same
request-at (x ∷ asks) (suc k) a at = request-at asks k a at

pub asks-send : (asks : List Asked) (pieces : List (List ℕ)) (v : Event) (d : Desk) → AsksOf asks pieces v d → SendsOf (requests_of asks) v d
asks-send asks pieces Send d (a, at, for, from) = (a.request, request-at asks d.sent a at, for)
asks-send asks pieces Pick d s = tt
asks-send asks pieces Give d s = tt
asks-send asks pieces Take d s = tt
asks-send asks pieces Do d s = tt
asks-send asks pieces (Arrive name) d s = tt

-- ---- counts

sends-then : (vs : List Event) (v : Event) → sends_in (vs ++ v ∷ []) ≡ sends_in vs + sends_in (v ∷ [])
sends-then [] v = omega arith
sends-then (Send ∷ vs) v = let rest = sends-then vs v in omega (arith, rest)
sends-then (Pick ∷ vs) v = sends-then vs v
sends-then (Give ∷ vs) v = sends-then vs v
sends-then (Take ∷ vs) v = sends-then vs v
sends-then (Do ∷ vs) v = sends-then vs v
sends-then (Arrive name ∷ vs) v = sends-then vs v

sends-sent : (ps : List Piece) (d : Desk) (r : Request) → IsRequestFor ps d r → (sends_first ps d).sent ≡ suc d.sent
sends-sent [] d r for = absurd for
sends-sent (p ∷ ps) d r for = refl

-- ---- what is shown

shows-same : (p : Phase) (d : Desk) → ShowsIn p d d
shows-same free d = refl
shows-same (tagged i held) d = refl
shows-same (waits name held) d = refl
shows-same (done r) d = (refl, refl, refl, counts-same r d.own.side d.own.side refl)

-- while it goes on, all of the desk is
shown-going : (p : Phase) (d v : Desk) → is_done p ≡ false → ShowsIn p d v → d ≡ v
shown-going free d v going is = is
shown-going (tagged i held) d v going is = is
shown-going (waits name held) d v going is = is
shown-going (done r) d v going is = absurd (true≢false going)

shows-more : (p : Phase) (xs : List Piece) (d v : Desk) → ShowsIn p d v → ShowsIn p (with_more xs d) (with_more xs v)
shows-more free xs d v is = ap (with_more xs) is
shows-more (tagged i held) xs d v is = ap (with_more xs) is
shows-more (waits name held) xs d v is = ap (with_more xs) is
shows-more (done r) xs d v (is, doc, lines, counts) = (ap (with_more xs) is, doc, lines, counts)

not-done : (p : Phase) → not (is_done p) ≡ true → is_done p ≡ false
not-done free e = refl
not-done (tagged i held) e = refl
not-done (waits name held) e = refl
not-done (done r) e = absurd (true≢false (sym e))

free-going : (p : Phase) → is_free p ≡ true → is_done p ≡ false
free-going free e = refl
free-going (tagged i held) e = refl
free-going (waits name held) e = refl
free-going (done r) e = absurd (true≢false (sym e))

do-going : (p : Phase) (d : Desk) → can_do_in p d ≡ true → is_done p ≡ false
do-going free d e = refl
do-going (tagged i held) d e = refl
do-going (waits name held) d e = refl
do-going (done r) d e = absurd (true≢false (sym e))

-- ---- the events of a run

pub goes_first : {given : Met} (es : Entities) (ahead : ℕ) (asks : Option (List Asked)) (s : Shown) → IfSome asks (λ all. all ≡ []) → s ≡ first_shown es ahead → Goes given asks s
goes_first {given} es ahead asks s none is = subst (Goes given asks) (sym is) (record { asked = []; told = none; count = refl; sends = refl; arrived = tt; along = λ w entities knows. (first_desk [], refl, refl) })

-- ---- what is handed in

hands-with : (ts : List (List ℕ)) (t : List ℕ) → pieces_with (ts ++ t ∷ []) None ≡ pieces_with ts None ++ of_text t ∷ []
hands-with [] t = refl
hands-with (u ∷ us) t = ap (λ ps. of_text u ∷ ps) (hands-with us t)

hands-end : (ts : List (List ℕ)) (e : Ending) → pieces_with ts (Some e) ≡ pieces_with ts None ++ of_ending e ∷ []
hands-end [] e = refl
hands-end (u ∷ us) e = ap (λ ps. of_text u ∷ ps) (hands-end us e)

module _ (old : Shown) (none : old.journal.ending ≡ None) where
  hands-none : (spent : Bool) → Hands old (record old { spent = spent })
  hands-none spent = record {
    pieces = [];
    desk = ap (λ ps. record old.desk { to_send = ps }) (sym (append-nil old.desk.to_send));
    page = ap (pieces_with old.journal.pieces) none ∙ sym (append-nil (pieces_with old.journal.pieces None));
    others = refl;
  }

  hands-piece : (t : List ℕ) (spent : Bool) → Hands old (record (with_piece t old) { spent = spent })
  hands-piece t spent = record {
    pieces = of_text t ∷ [];
    desk = refl;
    page = ap (pieces_with (old.journal.pieces ++ t ∷ [])) none ∙ hands-with old.journal.pieces t;
    others = refl;
  }

  hands-ending : (e : Ending) (spent : Bool) → Hands old (record (with_ending e old) { spent = spent })
  hands-ending e spent = record { pieces = of_ending e ∷ []; desk = refl; page = hands-end old.journal.pieces e; others = refl }

  hands-both : (t : List ℕ) (e : Ending) → Hands old (with_ending e (with_piece t old))
  hands-both t e = record {
    pieces = of_text t ∷ of_ending e ∷ [];
    desk = ap (λ ys. record old.desk { to_send = ys }) (append_assoc old.desk.to_send (of_text t ∷ []) (of_ending e ∷ []));
    page = hands-end (old.journal.pieces ++ t ∷ []) e ∙ (ap (λ ps. ps ++ of_ending e ∷ []) (hands-with old.journal.pieces t) ∙ append_assoc (pieces_with old.journal.pieces None) (of_text t ∷ []) (of_ending e ∷ []));
    others = refl;
  }

  -- as the calls answer
  pub hands_spent : (new : Shown) → new ≡ record old { spent = true } → Hands old new
  hands_spent new is = subst (Hands old) (sym is) (hands-none true)

  pub hands_same : Hands old old
  hands_same = hands-none old.spent

  pub hands_piece : (t : List ℕ) (new : Shown) → new ≡ with_piece t old → Hands old new
  hands_piece t new is = subst (Hands old) (sym is) (hands-piece t old.spent)

  pub hands_end : {T E : Type 0} (r : Result T E) (e : Ending) (new : Shown) → OnOk r (new ≡ with_ending e old) → OnErr r (new ≡ record old { spent = true }) → Hands old new
  hands_end (Ok x) e new ok err = subst (Hands old) (sym ok) (hands-ending e old.spent)
  hands_end (Err x) e new ok err = hands_spent new err

  -- behind a piece
  pub hands_both : {T E : Type 0} (r : Result T E) (t : List ℕ) (e : Ending) (mid new : Shown) → mid ≡ with_piece t old → OnOk r (new ≡ with_ending e mid) → OnErr r (new ≡ record mid { spent = true }) → Hands old new
  hands_both (Ok x) t e mid new piece ok err = subst (Hands old) (sym (ok ∙ ap (with_ending e) piece)) (hands-both t e)
  hands_both (Err x) t e mid new piece ok err = subst (Hands old) (sym (err ∙ ap (λ (z : Shown). record z { spent = true }) piece)) (hands-piece t true)

-- ---- a Do

pub did_none : (old new : Shown) → new ≡ record old { spent = true } → MayDo old new
did_none old new is = inl (subst (Stays old) (sym is) refl)

did_one : (old mid new : Shown) → DoesShow old.entities old.journal.fetches old.desk mid.desk → mid ≡ journaled Do mid.desk old → new ≡ record mid { given = new.given } → MayDo old new
did_one old mid new does did is =
    let desk : new.desk ≡ mid.desk = ap (λ (z : Shown). z.desk) is in
    let all : new ≡ record (journaled Do mid.desk old) { given = new.given; spent = old.spent } = is ∙ ap (λ (z : Shown). record z { given = new.given }) did in
    let spent : new.spent ≡ old.spent = ap (λ (z : Shown). z.spent) all in
    inr (record {
      does = subst (λ d. DoesShow old.entities old.journal.fetches old.desk d) (sym desk) does;
      others = all ∙ ap (λ d. record (journaled Do d old) { given = new.given; spent = old.spent }) (sym desk) ∙ ap (λ b. record (journaled Do new.desk old) { given = new.given; spent = b }) (sym spent);
    })

pub did_same : (old mid new : Shown) → DoesShow old.entities old.journal.fetches old.desk mid.desk → mid ≡ journaled Do mid.desk old → new ≡ mid → MayDo old new
did_same old mid new does did is = subst (MayDo old) (sym is) (did_one old mid mid does did refl)

pub did_given : (old mid new : Shown) (lines : List Line) → DoesShow old.entities old.journal.fetches old.desk mid.desk → mid ≡ journaled Do mid.desk old → new ≡ record mid { given = lines } → MayDo old new
did_given old mid new lines does did is = subst (MayDo old) (sym is) (did_one old mid (record mid { given = lines }) does did refl)

-- ---- what stays

pub stays_spent : (old new : Shown) → new ≡ record old { spent = true } → Stays old new
stays_spent old new is = subst (Stays old) (sym is) refl

pub stays_same : (s : Shown) → Stays s s
stays_same s = refl

pub stays_read : (old new : Shown) → Stays old new → StaysRead old new
stays_read old new is = subst (λ z. StaysRead old z) (sym is) refl

-- nothing of desk and journal was changed
pub goes_stays : {given : Met} (asks : Option (List Asked)) (s s' : Shown) → Stays s s' → Goes given asks s → Goes given asks s'
goes_stays {given} asks s s' is g = subst (Goes given asks) (sym is) (record { asked = g.asked; told = g.told; count = g.count; sends = g.sends; arrived = g.arrived; along = g.along })

-- whatever was put
pub goes_forget : {given : Met} (asks : Option (List Asked)) (s : Shown) → Goes given asks s → Goes given None s
goes_forget {given} asks s g = record { asked = g.asked; told = tt; count = g.count; sends = g.sends; arrived = g.arrived; along = g.along }

pub goes_same : {given : Met} (asks asks' : Option (List Asked)) (s : Shown) → asks' ≡ asks → Goes given asks s → Goes given asks' s
goes_same {given} asks asks' s same g = subst (λ o. Goes given o s) (sym same) g

-- what was given is the same
pub goes_given : (given given' : Met) (asks : Option (List Asked)) (s : Shown) → given' ≡ given → Goes given asks s → Goes given' asks s
goes_given given given' asks s same g = subst (λ x. Goes x asks s) (sym same) g

-- where more was given
pub goes_more : (given given' : Met) (asks : Option (List Asked)) (s : Shown) → GivesMore given given' → Goes given asks s → Goes given' asks s
goes_more given given' asks s more g = record { asked = g.asked; told = g.told; count = g.count; sends = g.sends; arrived = g.arrived; along = along }
  where
    Then : Met → Event → Desk → Type 0
    Then them = GoesSoFar them g.asked s.journal.pieces s.ahead s.journal.ending

    along : (w : World) → w.entities ≡ s.entities → Knows s.journal.fetches w → (d : Desk) × MovesWith (Then given') s.ahead w s.journal.events (first_desk (pieces_with s.journal.pieces s.journal.ending)) d × Shows d s.desk
    along w entities knows =
        let (d, with, shows) = g.along w entities knows in
        (d, with-weaker (Then given) (Then given') s.ahead w (λ v e h. (h.0, h.1, awaited-given given given' more v e h.2)) s.journal.events (first_desk (pieces_with s.journal.pieces s.journal.ending)) d with, shows)

module _ {given : Met} (asks : Option (List Asked)) (s : Shown) (g : Goes given asks s) where
  abbrev Was : Option Ending → Event → Desk → Type 0
  Was o = GoesSoFar given g.asked s.journal.pieces s.ahead o

  -- one event more, which is no Send
  same-sends : (v : Event) → sends_in (v ∷ []) ≡ 0 → length g.asked ≡ sends_in (s.journal.events ++ v ∷ [])
  same-sends v none = let all = sends-then s.journal.events v in let was = g.sends in omega (arith, all, was, none)

  arrived-more : (v : Event) (names : List (List ℕ)) → AllByRecursion (λ name. HasArrived name s.journal.events) names → AllByRecursion (λ name. HasArrived name (s.journal.events ++ v ∷ [])) names
  arrived-more v [] all = tt
  arrived-more v (name ∷ names) ((earlier, later, is), all) =
      ((earlier, later ++ v ∷ [], ap (λ l. l ++ v ∷ []) is ∙ append_assoc earlier (Arrive name ∷ later) (v ∷ [])), arrived-more v names all)

  abbrev Now : Asked → Event → Desk → Type 0
  Now q = GoesSoFar given (g.asked ++ q ∷ []) s.journal.pieces s.ahead s.journal.ending

  pub goes_sent : (asks' : Option (List Asked)) (q : Asked) (s' : Shown) → Adds asks asks' q → IsTrue (can_send s.ahead s.desk) → IsRequestFor s.desk.to_send s.desk q.request → q.from ≡ sent_before s
      → s' ≡ journaled Send (sends s.desk) s → Goes given asks' s'
  goes_sent asks' q s' put can for from is = subst (Goes given asks') (sym is) (record {
    asked = g.asked ++ q ∷ [];
    told = told-of asks asks' put g.told;
    count = let longer = length-append g.asked (q ∷ []) in let was = g.count in let more = sends-sent s.desk.to_send s.desk q.request for in omega (arith, longer, was, more);
    sends = let longer = length-append g.asked (q ∷ []) in let was = g.sends in let more = sends-then s.journal.events Send in omega (arith, longer, was, more);
    arrived = arrived-more Send (names_of s.journal.fetches) g.arrived;
    along = along;
  })
    where
      told-of : (o o' : Option (List Asked)) → Adds o o' q → IfSome o (λ all. all ≡ g.asked) → IfSome o' (λ all. all ≡ g.asked ++ q ∷ [])
      told-of o None put h = tt
      told-of None (Some now) put h = absurd put
      told-of (Some all) (Some now) put h = put ∙ ap (λ l. l ++ q ∷ []) h

      going : is_done s.desk.phase ≡ false
      going = not-done s.desk.phase (and_parts _ _ (and_parts _ _ can).0).0

      along : (w : World) → w.entities ≡ s.entities → Knows s.journal.fetches w →
          (d : Desk) × MovesWith (Now q) s.ahead w (s.journal.events ++ Send ∷ []) (first_desk (pieces_with s.journal.pieces s.journal.ending)) d × Shows d (sends s.desk)
      along w entities knows =
          let (d, with, shows) = g.along w entities knows in
          let same : d ≡ s.desk = shown-going s.desk.phase d s.desk going shows in
          let longer = with-weaker (Was s.journal.ending) (Now q) s.ahead w (λ v e h. (asks-longer g.asked (q ∷ []) s.journal.pieces v e h.0, h.1, h.2)) s.journal.events (first_desk (pieces_with s.journal.pieces s.journal.ending)) d with in
          let at : slice_get (g.asked ++ q ∷ []) s.desk.sent ≡ Some q = ap (λ k. slice_get (g.asked ++ q ∷ []) k) (sym g.count) ∙ get-last g.asked q in
          let here : Now q Send d = subst (λ e. Now q Send e) (sym same) ((q, at, for-first s.desk.to_send s.desk q.request for, from), tt, tt) in
          let step : Moves s.ahead w Send d (sends s.desk) = subst (λ e. Moves s.ahead w Send e (sends s.desk)) (sym same) (can, refl) in
          (sends s.desk, with-then (Now q) s.ahead w s.journal.events Send (first_desk (pieces_with s.journal.pieces s.journal.ending)) d (sends s.desk) longer here step, shows-same (sends s.desk).phase (sends s.desk))

  pub goes_took : (s' : Shown) → IsTrue (wants_reply s.desk) → (takes s.entities s.desk).sent ≡ s.desk.sent → s' ≡ journaled Take (takes s.entities s.desk) s → Goes given asks s'
  goes_took s' wants sent is = subst (Goes given asks) (sym is) (record { asked = g.asked; told = g.told; count = g.count ∙ sym sent; sends = same-sends Take refl; arrived = arrived-more Take (names_of s.journal.fetches) g.arrived; along = along })
    where
      going : is_done s.desk.phase ≡ false
      going = free-going s.desk.phase (and_parts _ _ (and_parts _ _ wants).0).0

      along : (w : World) → w.entities ≡ s.entities → Knows s.journal.fetches w →
          (d : Desk) × MovesWith (GoesSoFar given g.asked s.journal.pieces s.ahead s.journal.ending) s.ahead w (s.journal.events ++ Take ∷ []) (first_desk (pieces_with s.journal.pieces s.journal.ending)) d × Shows d (takes s.entities s.desk)
      along w entities knows =
          let (d, with, shows) = g.along w entities knows in
          let same : d ≡ s.desk = shown-going s.desk.phase d s.desk going shows in
          let step : Moves s.ahead w Take d (takes s.entities s.desk) = subst (λ e. Moves s.ahead w Take e (takes s.entities s.desk)) (sym same) (wants, ap (λ es. takes es s.desk) (sym entities)) in
          (takes s.entities s.desk, with-then (GoesSoFar given g.asked s.journal.pieces s.ahead s.journal.ending) s.ahead w s.journal.events Take (first_desk (pieces_with s.journal.pieces s.journal.ending)) d (takes s.entities s.desk) with (tt, tt, tt) step, shows-same (takes s.entities s.desk).phase (takes s.entities s.desk))

  pub goes_did : (s' : Shown) → IsTrue (can_do s.desk) → IsSentSoFar s.ahead s.journal.ending s.desk → DoesShow s.entities s.journal.fetches s.desk s'.desk → s'.desk.sent ≡ s.desk.sent → s' ≡ record (journaled Do s'.desk s) { given = s'.given; spent = s'.spent } → Goes given asks s'
  goes_did s' can looks does sent is = subst (Goes given asks) (sym is) (record { asked = g.asked; told = g.told; count = g.count ∙ sym sent; sends = same-sends Do refl; arrived = arrived-more Do (names_of s.journal.fetches) g.arrived; along = along })
    where
      going : is_done s.desk.phase ≡ false
      going = do-going s.desk.phase s.desk can

      along : (w : World) → w.entities ≡ s.entities → Knows s.journal.fetches w →
          (d : Desk) × MovesWith (GoesSoFar given g.asked s.journal.pieces s.ahead s.journal.ending) s.ahead w (s.journal.events ++ Do ∷ []) (first_desk (pieces_with s.journal.pieces s.journal.ending)) d × Shows d s'.desk
      along w entities knows =
          let (d, with, shows) = g.along w entities knows in
          let same : d ≡ s.desk = shown-going s.desk.phase d s.desk going shows in
          let (d', it, shows') = does w entities knows in
          let here : GoesSoFar given g.asked s.journal.pieces s.ahead s.journal.ending Do d = subst (λ e. GoesSoFar given g.asked s.journal.pieces s.ahead s.journal.ending Do e) (sym same) (tt, looks, tt) in
          let step : Moves s.ahead w Do d d' = subst (λ e. Moves s.ahead w Do e d') (sym same) (can, it) in
          (d', with-then (GoesSoFar given g.asked s.journal.pieces s.ahead s.journal.ending) s.ahead w s.journal.events Do (first_desk (pieces_with s.journal.pieces s.journal.ending)) d d' with here step, shows')

  pub goes_arrived : (name : List ℕ) (f : Fetched) (s' : Shown) → is_done s.desk.phase ≡ false → IsTrue (can_arrive name s.desk) → IsAwaitedIn name s.desk.phase ⊎ GivenEarly name given → IsSentSoFar s.ahead s.journal.ending s.desk → s' ≡ with_fetch name f s → Goes given asks s'
  goes_arrived name f s' going can awaited looks is = subst (Goes given asks) (sym is) (record { asked = g.asked; told = g.told; count = g.count; sends = same-sends (Arrive name) refl; arrived = ((s.journal.events, [], refl), arrived-more (Arrive name) (names_of s.journal.fetches) g.arrived); along = along })
    where
      along : (w : World) → w.entities ≡ s.entities → Knows ((name, f) ∷ s.journal.fetches) w →
          (d : Desk) × MovesWith (GoesSoFar given g.asked s.journal.pieces s.ahead s.journal.ending) s.ahead w (s.journal.events ++ Arrive name ∷ []) (first_desk (pieces_with s.journal.pieces s.journal.ending)) d × Shows d (with_fetch name f s).desk
      along w entities knows =
          let (d, with, shows) = g.along w entities knows.1 in
          let same : d ≡ s.desk = shown-going s.desk.phase d s.desk going shows in
          let after : Desk = (with_fetch name f s).desk in
          let here : GoesSoFar given g.asked s.journal.pieces s.ahead s.journal.ending (Arrive name) d = subst (λ e. GoesSoFar given g.asked s.journal.pieces s.ahead s.journal.ending (Arrive name) e) (sym same) (tt, looks, awaited) in
          let step : Moves s.ahead w (Arrive name) d after = subst (λ e. Moves s.ahead w (Arrive name) e after) (sym same) (can, refl) in
          (after, with-then (GoesSoFar given g.asked s.journal.pieces s.ahead s.journal.ending) s.ahead w s.journal.events (Arrive name) (first_desk (pieces_with s.journal.pieces s.journal.ending)) d after with here step, shows-same after.phase after)

  abbrev Later : Shown → Event → Desk → Type 0
  Later s' = GoesSoFar given g.asked s'.journal.pieces s.ahead s'.journal.ending

  pub goes_read : (s' : Shown) → s.journal.ending ≡ None → Hands s s' → Goes given asks s'
  goes_read s' none h = subst (Goes given asks) (sym h.others) (record { asked = g.asked; told = g.told; count = g.count ∙ sym (ap (λ (d : Desk). d.sent) h.desk); sends = g.sends; arrived = g.arrived; along = along })
    where
      longer : length (joined s'.journal.pieces) ≡ length (joined s.journal.pieces) + length (text_of h.pieces)
      longer =
          ap (λ t. length t)
          (sym (text-pieces s'.journal.pieces s'.journal.ending) ∙ ap text_of h.page ∙ text-append (pieces_with s.journal.pieces None) h.pieces ∙ ap (λ t. t ++ text_of h.pieces) (text-pieces s.journal.pieces None))
          ∙ length-append (joined s.journal.pieces) (text_of h.pieces)

      along : (w : World) → w.entities ≡ s.entities → Knows s.journal.fetches w →
          (d : Desk) × MovesWith (Later s') s.ahead w s.journal.events (first_desk (pieces_with s'.journal.pieces s'.journal.ending)) d × Shows d s'.desk
      along w entities knows =
          let (d, with, shows) = g.along w entities knows in
          let open_ = subst (λ o. MovesWith (Was o) s.ahead w s.journal.events (first_desk (pieces_with s.journal.pieces o)) d) none with in
          let more = with-more (Was None) (Later s') s.ahead w h.pieces
          (λ v e p. (asks-more g.asked s.journal.pieces s'.journal.pieces h.pieces longer v e p.0, looks-more s.ahead s'.journal.ending h.pieces v e p.1, awaited-more given h.pieces v e p.2))
          s.journal.events (first_desk (pieces_with s.journal.pieces None)) d open_ in (
            with_more h.pieces d,
            subst (λ ps. MovesWith (Later s') s.ahead w s.journal.events (first_desk ps) (with_more h.pieces d)) (sym h.page) more,
            subst (λ v. Shows (with_more h.pieces d) v) (sym h.desk) (shows-more s.desk.phase h.pieces d s.desk shows),
          )

  -- ---- in each run

  abbrev Said : List (List ℕ) → ℕ → Event → Desk → Type 0
  Said pieces ahead v d = AsksOf g.asked pieces v d × LooksAhead ahead v d × FetchesAwaited given v d

  goes-along : HoldsAlong (λ x. Said x.pieces x.ahead) s.entities s.ahead s.journal
  goes-along x run = by s.journal.ending run.page (g.along x.world run.entities run.fetches).1
    where
      d : Desk
      d = (g.along x.world run.entities run.fetches).0

      to-run : (d' : Desk) → MovesWith (Said x.pieces s.ahead) s.ahead x.world s.journal.events (first_desk (pieces_with x.pieces (Some x.ending))) d'
          → (d' : Desk) × MovesWith (Said x.pieces x.ahead) x.ahead x.world s.journal.events (first_desk (pieces_with x.pieces (Some x.ending))) d'
      to-run d' with = (d', subst (λ n. MovesWith (Said x.pieces n) n x.world s.journal.events (first_desk (pieces_with x.pieces (Some x.ending))) d') (sym run.credit) with)

      by : (o : Option Ending) → IsPageOf o s.journal.pieces x → MovesWith (Was o) s.ahead x.world s.journal.events (first_desk (pieces_with s.journal.pieces o)) d →
          (d' : Desk) × MovesWith (Said x.pieces x.ahead) x.ahead x.world s.journal.events (first_desk (pieces_with x.pieces (Some x.ending))) d'
      by None (more, all) with =
          let behind : List Piece = pieces_with more (Some x.ending) in
          let whole : pieces_with s.journal.pieces None ++ behind ≡ pieces_with x.pieces (Some x.ending) = pieces-more s.journal.pieces more x.ending ∙ ap (λ ts. pieces_with ts (Some x.ending)) (sym all) in
          let longer : length (joined x.pieces) ≡ length (joined s.journal.pieces) + length (text_of behind) =
          ap (λ t. length t) (ap joined all ∙ joined-append s.journal.pieces more ∙ ap (λ t. joined s.journal.pieces ++ t) (sym (text-pieces more (Some x.ending)))) ∙ length-append (joined s.journal.pieces) (text_of behind) in
          to-run (with_more behind d)
          (subst (λ ps. MovesWith (Said x.pieces s.ahead) s.ahead x.world s.journal.events (first_desk ps) (with_more behind d)) whole
          (with-more (Was None) (Said x.pieces s.ahead) s.ahead x.world behind (λ v e p. (asks-more g.asked s.journal.pieces x.pieces behind longer v e p.0, looks-behind s.ahead behind v e p.1, awaited-more given behind v e p.2)) s.journal.events
          (first_desk (pieces_with s.journal.pieces None)) d with))
      by (Some e) (all, end) with =
          let whole : pieces_with s.journal.pieces (Some e) ≡ pieces_with x.pieces (Some x.ending) = ap (λ ts. pieces_with ts (Some e)) (sym all) ∙ ap (λ y. pieces_with x.pieces (Some y)) (sym end) in
          to-run d
          (subst (λ ps. MovesWith (Said x.pieces s.ahead) s.ahead x.world s.journal.events (first_desk ps) d) whole
          (with-weaker (Was (Some e)) (Said x.pieces s.ahead) s.ahead x.world (λ v z p. (subst (λ ts. AsksOf g.asked ts v z) (sym all) p.0, looks-whole s.ahead (Some e) v z p.1, p.2)) s.journal.events
          (first_desk (pieces_with s.journal.pieces (Some e))) d with))

  along-as : (P : Setup → Event → Desk → Type 0) → ((x : Setup) (v : Event) (e : Desk) → Said x.pieces x.ahead v e → P x v e) → HoldsAlong P s.entities s.ahead s.journal
  along-as P weaker x run =
      let (d, with) = goes-along x run in
      (d, with-weaker (Said x.pieces x.ahead) (P x) x.ahead x.world (weaker x) s.journal.events (first_desk (pieces_with x.pieces (Some x.ending))) d with)

  pub looks_along : HoldsAlong (λ x. LooksAhead x.ahead) s.entities s.ahead s.journal
  looks_along = along-as (λ x. LooksAhead x.ahead) (λ x v e p. p.1)

  pub asks_along : HoldsAlong (λ x. AsksOf g.asked x.pieces) s.entities s.ahead s.journal
  asks_along = along-as (λ x. AsksOf g.asked x.pieces) (λ x v e p. p.0)

  pub awaited_along : HoldsAlong (λ x. FetchesAwaited given) s.entities s.ahead s.journal
  awaited_along = along-as (λ x. FetchesAwaited given) (λ x v e p. p.2)

  pub sends_along : HoldsAlong (λ x. SendsOf (requests_of g.asked)) s.entities s.ahead s.journal
  sends_along = along-as (λ x. SendsOf (requests_of g.asked)) (λ x v e p. asks-send g.asked x.pieces v e p.0)
