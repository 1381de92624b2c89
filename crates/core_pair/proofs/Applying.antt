-- What a call on one of the sides makes of what a pair holds.
use Rattle.std.proofs.Common.{◌≡◌, ◌≤◌, ◌+◌, ℕ, Bool, true, false, List, [], ◌∷◌, ◌++◌, map, length, length-append, Option, Some, None, refl, sym, ◌∙◌, ap, subst, arith}
use Rattle.std.proofs.lemmas.List.{map-append}
use Rattle.std.specs.Prelude.{IfSome, IfNone, is_some, not, ◌&&◌}
use Rattle.std.specs.declared.snapshot.Snapshot.{Snapshot}
use Rattle.html_types.specs.declared.ending.Ending.{Ending}
use Rattle.standard.specs.Entities.{Entities}
use Rattle.serial.specs.Scripts.{Fetched, is_lawful}
use Rattle.core_definitions.specs.declared.event.Event.{Event}
use Rattle.core_definitions.specs.declared.event.Event.TheVariants.{Send, Give, Take, Do}
use Rattle.core_definitions.specs.Batches.{Piece}
use Rattle.core_definitions.specs.Desk.{Desk, is_among, can_arrive, sends, takes}
use Rattle.core_definitions.specs.Core.{Request, Reply, WorkSide, joined, answer_to, sent_from, given_to}
use Rattle.speculation.specs.Asking.{Told}
use Rattle.core_steps.specs.declared.fetch.FetchedFile.{FetchedFile}
use Rattle.core_steps.specs.Fetches.{fetched_of, names_of}
use Rattle.core_pair.specs.Files.{files_of}
use Rattle.core_steps.specs.Journals.{found}
use Rattle.core_steps.specs.Sides.{Shown, journaled, IsRequestFor, DoesShow}
use Rattle.core_steps.specs.Working.{IsGiven, IsBehind}
use Rattle.core_steps.proofs.Events.{found-among}
use Rattle.core_pair.specs.Pairs.{Paired, told_of, events_of, noted, behind_first, with_core, with_event, Applied}

-- one more stands behind those that stood there
pub mapped-more : {A B : Type 0} (f : A → B) (xs ys zs : List A) (a : A) → ys ≡ xs → zs ≡ ys ++ a ∷ [] → map f zs ≡ map f xs ++ f a ∷ []
mapped-more f xs ys zs a same more = ap (map f) (more ∙ ap (λ l. l ++ a ∷ []) same) ∙ map-append f xs (a ∷ [])

module _ (d : Shown) (rs : List Request) (w : WorkSide) (bs : List Reply) (files : List (List ℕ × Fetched)) (e : Ending) (vs : List Event) (p : Paired) (shown : told_of d rs w bs files e vs ≡ p) where
  abbrev before : Paired
  before = told_of d rs w bs files e vs

  as-shown : (v : Event) (q : Paired) → Applied v before q → Applied v p q
  as-shown v q h = subst (λ (z : Paired). Applied v z q) shown h

  pub sent : (d' : Shown) (rs' : List Request) (r : Request) → d' ≡ journaled Send (sends d.desk) d → IsRequestFor d.desk.to_send d.desk r → rs' ≡ rs ++ r ∷ [] → Applied Send p (told_of d' rs' w bs files e vs)
  sent d' rs' r is asked more =
      as-shown Send (told_of d' rs' w bs files e vs)
      (ap (λ (z : Shown). told_of z rs' w bs files e vs) is ∙ (ap (λ ps. told_of (journaled Send (sends d.desk) d) ps w bs files e vs) more ∙ by d.desk.to_send asked))
    where
      by : (ps : List Piece) → IsRequestFor ps d.desk r → told_of (journaled Send (sends d.desk) d) (rs ++ r ∷ []) w bs files e vs ≡ with_core (sent_from ps before.core) (noted Send d.journal) before
      by [] h = absurd h
      by (x ∷ xs) h = ap (λ (z : Request). told_of (journaled Send (sends d.desk) d) (rs ++ z ∷ []) w bs files e vs) h

  pub given : (es : Entities) (w' : WorkSide) (bs' : List Reply) (t : Told) → d.entities ≡ es → IsGiven es w.parser w.hand t → IsBehind es w.hand w w' → bs' ≡ bs ++ t.reply ∷ [] → Applied Give p (told_of d rs w' bs' files e vs)
  given es w' bs' t in_force said behind more =
      as-shown Give (told_of d rs w' bs' files e vs)
      (ap (λ as'. told_of d rs w' as' files e vs) more ∙ by w.hand (subst (λ z. IsGiven z w.parser w.hand t) (sym in_force) said) (subst (λ z. IsBehind z w.hand w w') (sym in_force) behind))
    where
      by : (h : Option Request) → IsGiven d.entities w.parser h t → IsBehind d.entities h w w' → told_of d rs w' (bs ++ t.reply ∷ []) files e vs ≡ with_core (given_to h d.entities before.core) d.journal before
      by None g b = absurd g
      by (Some r) g b =
          let after : WorkSide = record { hand = None; parser = (answer_to d.entities w.parser r).parser } in
          ap (λ (z : WorkSide). told_of d rs z (bs ++ t.reply ∷ []) files e vs) b ∙ ap (λ (z : Reply). told_of d rs after (bs ++ z ∷ []) files e vs) g.0

  pub taken : (d' : Shown) (a : Reply) (rest : List Reply) → bs ≡ a ∷ rest → d' ≡ journaled Take (takes d.entities d.desk) d → Applied Take p (told_of d' rs w rest files e vs)
  taken d' a rest some is =
      as-shown Take (told_of d' rs w rest files e vs)
      (ap (λ (z : Shown). told_of z rs w rest files e vs) is
      ∙ ap (λ as'. with_core (record before.core { desk = takes d.entities d.desk; replies = behind_first as' }) (noted Take d.journal) before) (sym some))

  pub did : (d' : Shown) → DoesShow d.entities d.journal.fetches d.desk d'.desk → d' ≡ journaled Do d'.desk d → Applied Do p (told_of d' rs w bs files e vs)
  did d' does is = as-shown Do (told_of d' rs w bs files e vs) (d'.desk, does, ap (λ (z : Shown). told_of z rs w bs files e vs) is)

-- ---- the events

events-append : (ss : List (Snapshot Event)) (s : Snapshot Event) → events_of (ss ++ s ∷ []) ≡ events_of ss ++ s.value ∷ []
events-append [] s = refl
events-append (t ∷ ts) s = ap (λ vs. t.value ∷ vs) (events-append ts s)

pub event-noted : (d : Shown) (rs : List Request) (w : WorkSide) (bs : List Reply) (files : List (List ℕ × Fetched)) (e : Ending) (ss ss' : List (Snapshot Event)) (s : Snapshot Event) (v : Event) (p : Paired) →
    ss' ≡ ss ++ s ∷ [] → s.value ≡ v → told_of d rs w bs files e (events_of ss) ≡ p → told_of d rs w bs files e (events_of ss') ≡ with_event v p
event-noted d rs w bs files e ss ss' s v p more is shown =
    ap (λ l. told_of d rs w bs files e (events_of l)) more
    ∙ (ap (λ vs. told_of d rs w bs files e vs) (events-append ss s ∙ ap (λ u. events_of ss ++ u ∷ []) is) ∙ ap (λ (z : Paired). with_event v z) shown)

-- ---- the files of scripts

pub fetches-append : (fs : List FetchedFile) (f : FetchedFile) → files_of (fs ++ f ∷ []) ≡ files_of fs ++ (f.name, fetched_of f.fetch) ∷ []
fetches-append [] f = refl
fetches-append (g ∷ gs) f = ap (λ fs. (g.name, fetched_of g.fetch) ∷ fs) (fetches-append gs f)

-- a script that was looked for and not found may arrive
some-found : {A : Type 0} (o : Option A) (f : A → Fetched) (r : Option Fetched) → IfSome o (λ a. r ≡ Some (f a)) → IfNone o (r ≡ None) → is_some o ≡ is_some r
some-found None f r some none = sym (ap is_some none)
some-found (Some a) f r some none = sym (ap is_some some)

other-way : (a b : Bool) → a ≡ not b → b ≡ not a
other-way a true q = sym (ap not q)
other-way a false q = sym (ap not q)

pub may-arrive : {A : Type 0} (o : Option A) (f : A → Fetched) (n name : List ℕ) (fs fs' : List (List ℕ × Fetched)) (d : Desk) (none : Bool) → IfSome o (λ a. found n fs ≡ Some (f a)) → IfNone o (found n fs ≡ None) → is_some o ≡ not none →
    n ≡ name → fs ≡ fs' → d.arrived ≡ names_of fs' → is_lawful name ≡ true → none ≡ can_arrive name d
may-arrive o f n name fs fs' d none there absent is same_name same arrived lawful =
    let among : is_some o ≡ is_among name d.arrived =
    some-found o f (found n fs) there absent ∙ (found-among n fs ∙ (ap (λ m. is_among m (names_of fs)) same_name ∙ ap (is_among name) (ap names_of same ∙ sym arrived))) in
    other-way (is_some o) none is ∙ (ap not among ∙ sym (ap (λ b. b && not (is_among name d.arrived)) lawful))

-- ---- the pieces

joined-append : (ts : List (List ℕ)) (t : List ℕ) → length (joined (ts ++ t ∷ [])) ≡ length (joined ts) + length t
joined-append [] t = omega (arith, length-append t [])
joined-append (u ∷ us) t = omega (arith, joined-append us t, length-append u (joined (us ++ t ∷ [])), length-append u (joined us))

pub pieces-fit : (ts ts' rest behind : List (List ℕ)) (t : List ℕ) (n : ℕ) → ts' ≡ ts ++ t ∷ [] → rest ≡ t ∷ behind → length (joined ts) + length (joined rest) ≤ n → length (joined ts') + length (joined behind) ≤ n
pieces-fit ts ts' rest behind t n more split fits =
    let a : length (joined ts') ≡ length (joined ts) + length t = ap (λ l. length (joined l)) more ∙ joined-append ts t in
    let b : length (joined rest) ≡ length t + length (joined behind) = ap (λ l. length (joined l)) split ∙ length-append t (joined behind) in
    omega (arith, a, b, fits)
