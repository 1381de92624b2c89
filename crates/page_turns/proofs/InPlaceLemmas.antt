-- The parser's side in the calling thread answers each request once, in order.
use Rattle.std.proofs.Common.{◌≡◌, Bool, true, false, true≢false, List, [], ◌∷◌, ◌++◌, Option, Some, None, refl, sym, ap, subst, ◌∙◌, append_assoc, append-nil, map}
use Rattle.std.specs.Prelude.{option_to_list, is_some, not, if◌then◌else◌, IsSome}
use Rattle.std.specs.declared.snapshot.Snapshot.{Snapshot}
use Rattle.std.proofs.lemmas.List.{map-append}
use Rattle.standard.specs.Entities.{Entities}
use Rattle.standard.specs.Parser.{Parser}
use Rattle.core_definitions.specs.Core.{Request, Reply as Answer, WorkSide, first_work, answer_to, reply_to}
use Rattle.speculation.specs.declared.in_force.InForce as InForce
use Rattle.speculation.specs.declared.reply.Reply.{Reply}
use Rattle.speculation.specs.Asking.{Asked, Told}
use Rattle.core_steps.specs.Working.{IsGiven, IsBehind, replies_to, behind}
use Rattle.page_turns.specs.Along.{requests_of}
use Rattle.page_turns.specs.Messages.{Message, Adds, AreInOrder, ToldInOrder, TellsOn}
use Rattle.page_turns.specs.InPlaces.{Place, told_of, asked_in, taken_in, replies_in, in_hand, IsAnswering}

-- ---- as the calls answer

pub pushed : {A : Type 0} (ok err : Bool) (xs ys zs : List A) → ys ≡ (if ok then zs else xs) → ok ≡ not err → err ≡ false → ys ≡ zs
pushed ok err xs ys zs is negation none = is ∙ ap (λ b. if b then zs else xs) (negation ∙ ap not none)

pub first_of : {A : Type 0} (o : Option A) (x : A) (xs ys : List A) → xs ≡ option_to_list o ++ ys → o ≡ Some x → xs ≡ x ∷ ys
first_of o x xs ys is one = is ∙ ap (λ p. option_to_list p ++ ys) one

pub hand_empty : (hand : Option Request) (can : Bool) → can ≡ not (is_some hand) → can ≡ true → hand ≡ None
hand_empty None can is can_pick = refl
hand_empty (Some r) can is can_pick = absurd (true≢false (sym can_pick ∙ is))

-- ---- what is told

-- one more went through
pub told_more : {A : Type 0} (tells : Bool) (xs ys : List A) (x : A) → ys ≡ xs ++ x ∷ [] → Adds (told_of tells xs) (told_of tells ys) x
told_more true xs ys x is = is
told_more false xs ys x is = tt

pub asked_more : (xs ys : List (Snapshot Asked)) (x : Snapshot Asked) (q : Asked) → ys ≡ xs ++ x ∷ [] → x.value ≡ q → asked_in ys ≡ asked_in xs ++ q ∷ []
asked_more xs ys x q is value = ap asked_in is ∙ map-append (λ (s : Snapshot Asked). s.value) xs (x ∷ []) ∙ ap (λ v. asked_in xs ++ v ∷ []) value

pub taken_more : (xs ys : List (Snapshot Told)) (x : Snapshot Told) (t : Told) → ys ≡ xs ++ x ∷ [] → x.value ≡ t → taken_in ys ≡ taken_in xs ++ Some t ∷ []
taken_more xs ys x t is value = ap taken_in is ∙ map-append (λ (s : Snapshot Told). Some s.value) xs (x ∷ []) ∙ ap (λ v. taken_in xs ++ Some v ∷ []) value

-- ---- the answers

replies-more : (es : Entities) (last : Option Parser) (rs : List Request) (r : Request) → replies_to es last (rs ++ r ∷ []) ≡ replies_to es last rs ++ reply_to r (answer_to es (behind es last rs) r).batches ∷ []
replies-more es last [] r = refl
replies-more es last (x ∷ rs) r = ap (λ l. reply_to x (answer_to es last x).batches ∷ l) (replies-more es (answer_to es last x).parser rs r)

behind-more : (es : Entities) (last : Option Parser) (rs : List Request) (r : Request) → behind es last (rs ++ r ∷ []) ≡ (answer_to es (behind es last rs) r).parser
behind-more es last [] r = refl
behind-more es last (x ∷ rs) r = behind-more es (answer_to es last x).parser rs r

module _ (es : Entities) (asked : List Asked) (given : List Message) (work : WorkSide) (requests : List Asked) (a : IsAnswering es asked given work requests) where
  -- one more stands
  pub asks_one : (q : Asked) → IsAnswering es (asked ++ q ∷ []) given work (requests ++ q ∷ [])
  asks_one q = record {
    answered = a.answered;
    asked_are = map-append (λ (x : Asked). x.request) asked (q ∷ [])
        ∙ ap (λ l. l ++ q.request ∷ []) a.asked_are
        ∙ append_assoc (a.answered ++ in_hand work.hand) (requests_of requests) (q.request ∷ [])
        ∙ ap (λ l. (a.answered ++ in_hand work.hand) ++ l) (sym (map-append (λ (x : Asked). x.request) requests (q ∷ [])));
    said = a.said;
    given_are = a.given_are;
    replies_are = a.replies_are;
    parser_is = a.parser_is;
  }

  -- the first of those that stand is picked
  pub picks_one : (q : Asked) (rest : List Asked) (work' : WorkSide) → requests ≡ q ∷ rest → work.hand ≡ None → work' ≡ record work { hand = Some q.request } → IsAnswering es asked given work' rest
  picks_one q rest work' first none picked = subst (λ w. IsAnswering es asked given w rest) (sym picked) (record {
    answered = a.answered;
    asked_are = a.asked_are
        ∙ ap (λ h. (a.answered ++ in_hand h) ++ requests_of requests) none
        ∙ ap (λ l. l ++ requests_of requests) (append-nil a.answered)
        ∙ ap (λ rs. a.answered ++ requests_of rs) first
        ∙ sym (append_assoc a.answered (q.request ∷ []) (requests_of rest));
    said = a.said;
    given_are = a.given_are;
    replies_are = a.replies_are;
    parser_is = a.parser_is;
  })

  -- the one that was picked is answered
  pub gives_one : (r : Request) (t : Told) (work' : WorkSide) → work.hand ≡ Some r → t.reply ≡ reply_to r (answer_to es work.parser r).batches → work' ≡ record { hand = None; parser = (answer_to es work.parser r).parser }
      → IsAnswering es asked (given ++ Some t ∷ []) work' requests
  gives_one r t work' hand reply after = subst (λ w. IsAnswering es asked (given ++ Some t ∷ []) w requests) (sym after) (record {
    answered = a.answered ++ r ∷ [];
    asked_are = a.asked_are
        ∙ ap (λ h. (a.answered ++ in_hand h) ++ requests_of requests) hand
        ∙ ap (λ l. l ++ requests_of requests) (sym (append-nil (a.answered ++ r ∷ [])));
    said = a.said ++ t ∷ [];
    given_are = ap (λ l. l ++ Some t ∷ []) a.given_are ∙ sym (map-append Some a.said (t ∷ []));
    replies_are = map-append (λ (x : Told). x.reply) a.said (t ∷ [])
        ∙ ap (λ l. l ++ t.reply ∷ []) a.replies_are
        ∙ ap (λ x. replies_to es first_work.parser a.answered ++ x ∷ []) (reply ∙ ap (λ p. reply_to r (answer_to es p r).batches) a.parser_is)
        ∙ sym (replies-more es first_work.parser a.answered r);
    parser_is = ap (λ p. (answer_to es p r).parser) a.parser_is ∙ sym (behind-more es first_work.parser a.answered r);
  })

  pub gives : (hand : Option Request) (t : Told) (work' : WorkSide) → work.hand ≡ hand → IsGiven es work.parser hand t → IsBehind es hand work work' → IsAnswering es asked (given ++ Some t ∷ []) work' requests
  gives None t work' is reply after = absurd reply
  gives (Some r) t work' is reply after = gives_one r t work' is reply.0 after

  -- the same replies, of which one more was taken
  pub takes_one : (given' : List Message) → given' ≡ given → IsAnswering es asked given' work requests
  takes_one given' same = subst (λ l. IsAnswering es asked l work requests) (sym same) a

-- ---- a front of the answers, which was taken

head-same : {A : Type 0} (a b : A) (xs ys : List A) → a ∷ xs ≡ b ∷ ys → a ≡ b
head-same a b xs ys e = cc e

tail-same : {A : Type 0} (a b : A) (xs ys : List A) → a ∷ xs ≡ b ∷ ys → xs ≡ ys
tail-same a b xs ys e = cc e

replies-front : (es : Entities) (last : Option Parser) (rs : List Request) (xs ys : List Answer) → xs ++ ys ≡ replies_to es last rs
    → (answered : List Request) × (later : List Request) × (rs ≡ answered ++ later) × (xs ≡ replies_to es last answered)
replies-front es last rs [] ys is = ([], rs, refl, refl)
replies-front es last [] (x ∷ xs) ys is = absurd (cc is)
replies-front es last (r ∷ rs) (x ∷ xs) ys is =
    let next = (answer_to es last r).parser in
    let reply = reply_to r (answer_to es last r).batches in
    let (answered, later, all, are) = replies-front es next rs xs ys (tail-same x reply (xs ++ ys) (replies_to es next rs) is) in
    (r ∷ answered, later, ap (λ l. r ∷ l) all, ap (λ l. x ∷ l) are ∙ ap (λ z. z ∷ replies_to es next answered) (head-same x reply (xs ++ ys) (replies_to es next rs) is))

said-front : (ms ns : List Message) (said : List Told) → ms ++ ns ≡ map Some said → (front : List Told) × (later : List Told) × (said ≡ front ++ later) × (ms ≡ map Some front)
said-front [] ns said is = ([], said, refl, refl)
said-front (m ∷ ms) ns [] is = absurd (cc is)
said-front (m ∷ ms) ns (t ∷ said) is =
    let (front, later, all, are) = said-front ms ns said (tail-same m (Some t) (ms ++ ns) (map Some said) is) in
    (t ∷ front, later, ap (λ l. t ∷ l) all, ap (λ l. m ∷ l) are ∙ ap (λ z. z ∷ map Some front) (head-same m (Some t) (ms ++ ns) (map Some said) is))

abbrev reply-in : Told → Answer
reply-in t = t.reply

are-in_order : (es : Entities) (asked : List Asked) (taken standing : List Message) (work : WorkSide) (requests : List Asked) → IsAnswering es asked (taken ++ standing) work requests → AreInOrder es asked taken
are-in_order es asked taken standing work requests a =
    let (said, later, all, are) = said-front taken standing a.said a.given_are in
    let split : map reply-in said ++ map reply-in later ≡ replies_to es first_work.parser a.answered =
    sym (map-append reply-in said later) ∙ ap (map reply-in) (sym all) ∙ a.replies_are in
    let (answered, behind, whole, replies) = replies-front es first_work.parser a.answered (map reply-in said) (map reply-in later) split in
    record {
      said = said;
      messages_are = are;
      answered = answered;
      later = (behind ++ in_hand work.hand) ++ requests_of requests;
      asked_are = a.asked_are
          ∙ ap (λ l. (l ++ in_hand work.hand) ++ requests_of requests) whole
          ∙ ap (λ l. l ++ requests_of requests) (append_assoc answered behind (in_hand work.hand))
          ∙ append_assoc answered (behind ++ in_hand work.hand) (requests_of requests);
      replies_are = replies;
    }

told-in_order : (es : Entities) (tells tells' : Bool) (asked : List Asked) (taken standing : List Message) (work : WorkSide) (requests : List Asked) → IsAnswering es asked (taken ++ standing) work requests
    → ToldInOrder es (told_of tells asked) (told_of tells' taken)
told-in_order es false tells' asked taken standing work requests a = tt
told-in_order es true false asked taken standing work requests a = tt
told-in_order es true true asked taken standing work requests a = are-in_order es asked taken standing work requests a

still-told : {A : Type 0} (tells : Bool) (xs ys : List A) → IsSome (told_of tells xs) → IsSome (told_of tells ys)
still-told false xs ys some = some
still-told true xs ys some = refl

not-spent : (spent : Bool) → not spent ≡ true → spent ≡ false
not-spent false is = refl
not-spent true is = absurd (true≢false (sym is))

-- A call was done, and memory was refused where it was before.
pub tells_on : (es : Entities) (tells tells' spent : Bool) (asked asked' : List Asked) (taken taken' standing : List Message) (work : WorkSide) (requests : List Asked) → (spent ≡ false → IsAnswering es asked' (taken' ++ standing) work requests)
    → TellsOn es (told_of tells asked) (told_of tells asked') (told_of tells' taken) (told_of tells' taken') (not spent) (not spent)
tells_on es tells tells' spent asked asked' taken taken' standing work requests answering = record {
  put_told = still-told tells asked asked';
  taken_told = still-told tells' taken taken';
  kept = refl;
  in_order = λ ordered. told-in_order es tells tells' asked' taken' standing work requests (answering (not-spent spent ordered));
}

-- the same beside what was shown before it
pub tells_since : (es : Entities) (view old : Place) (put : Option (List Asked)) (taken : Option (List Message)) (ordered : Bool) → old ≡ view → TellsOn es old.asked put old.taken taken old.ordered ordered
    → TellsOn es view.asked put view.taken taken view.ordered ordered
tells_since es view old put taken ordered is tells = subst (λ (p : Place). TellsOn es p.asked put p.taken taken p.ordered ordered) is tells

-- before any request
pub answers_none : (es : Entities) (asked : List Asked) (given : List Message) (work : WorkSide) (requests : List Asked) → asked ≡ [] → given ≡ [] → work ≡ first_work → requests ≡ [] → IsAnswering es asked given work requests
answers_none es asked given work requests none nothing first empty =
    subst (λ w. IsAnswering es asked given w requests) (sym first) (record {
      answered = [];
      asked_are = ap requests_of none ∙ ap requests_of (sym empty);
      said = [];
      given_are = nothing;
      replies_are = refl;
      parser_is = refl;
    })

-- g: the entities in force
module _ {E : Type 0} {g : InForce.Ghosts E} where
  pub given_none : (ts : List (Snapshot Told)) (rs : List (Reply E g)) → ts ≡ [] → rs ≡ [] → taken_in ts ++ replies_in rs ≡ []
  given_none ts rs none nothing = ap (λ l. taken_in l ++ replies_in rs) none ∙ ap replies_in nothing

  -- a reply more stands
  pub given_more : (ts : List (Snapshot Told)) (xs ys : List (Reply E g)) (r : Reply E g) → ys ≡ xs ++ r ∷ [] → taken_in ts ++ replies_in ys ≡ (taken_in ts ++ replies_in xs) ++ Some r.said ∷ []
  given_more ts xs ys r is = ap (λ rs. taken_in ts ++ replies_in rs) is ∙ ap (λ ms. taken_in ts ++ ms) (map-append (λ (r : Reply E g). Some r.said) xs (r ∷ [])) ∙ sym (append_assoc (taken_in ts) (replies_in xs) (Some r.said ∷ []))

  -- the first that stood was taken
  pub given_same : (ts us : List (Snapshot Told)) (xs ys : List (Reply E g)) (o : Option (Reply E g)) (r : Reply E g) → o ≡ Some r → xs ≡ option_to_list o ++ ys → taken_in us ≡ taken_in ts ++ Some r.said ∷ []
      → taken_in us ++ replies_in ys ≡ taken_in ts ++ replies_in xs
  given_same ts us xs ys o r one all more =
      ap (λ ms. ms ++ replies_in ys) more
      ∙ append_assoc (taken_in ts) (Some r.said ∷ []) (replies_in ys)
      ∙ ap (λ rs. taken_in ts ++ replies_in rs) (sym (all ∙ ap (λ x. option_to_list x ++ ys) one))
