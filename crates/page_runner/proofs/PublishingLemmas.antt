-- What a publisher is told goes over the lane in turn, and it takes all of it.
use Rattle.std.proofs.Common.{◌≡◌, ◌≢◌, Bool, true, false, true≢false, List, [], ◌∷◌, ◌++◌, refl, sym, ap, subst, ◌∙◌, append_assoc, append-nil, Result, Ok, Err, OnOk, IsTrue}
use Rattle.std.proofs.lemmas.List.Sums.{fold-append}
use mathlib.Core.List.{IsPrefix}
use Rattle.standard.specs.Act.{Doc}
use Rattle.tree_watch.specs.declared.watcher.Seen.{Seen}
use Rattle.page_turns.specs.Watched.{Grown, ungrown, AreLast}
use Rattle.page_runner.specs.declared.publisher.ToPublisher.{ToPublisher}
use Rattle.page_runner.specs.declared.publisher.ToPublisher.TheVariants.{Did, End}
use Rattle.page_runner.specs.Publishing.{Shows, ShowsFront, shows, shows_with, shows_behind, AreDid}

-- ---- what is to be shown

-- one word more was told
pub shows_more : (old : Shows) (words words' : List ToPublisher) (w : ToPublisher) → old ≡ shows_behind words → words' ≡ words ++ w ∷ [] → shows_with old w ≡ shows_behind words'
shows_more old words words' w before is = ap (λ s. shows_with s w) before ∙ sym (ap shows_behind is ∙ fold-append shows_with (shows ungrown []) words (w ∷ []))

pub shows_now : (doc doc' : Grown) (shown shown' : List Doc) → doc ≡ doc' → shown ≡ shown' → shows doc shown ≡ shows doc' shown'
shows_now doc doc' shown shown' same alike = ap (λ d. shows d shown) same ∙ ap (λ l. shows doc' l) alike

-- nothing was taken
pub front_first : (doc : Grown) (shown : List Doc) (words : List ToPublisher) (all : Bool) → doc ≡ ungrown → shown ≡ [] → words ≡ [] → ShowsFront words all (shows doc shown)
front_first doc shown words all is none first = record { front = []; rest = []; is = first; passed = shows_now _ _ _ _ is none; whole = λ _. refl }

-- unless memory ran out all is shown
pub front_whole : (words : List ToPublisher) (all : Bool) (now : Shows) → ShowsFront words all now → IsTrue all → now ≡ shows_behind words
front_whole words all now f holds = f.passed ∙ ap shows_behind (sym (f.is ∙ (ap (λ ws. f.front ++ ws) (f.whole holds) ∙ append-nil f.front)))

-- one word more was taken, and shown, or from here on nothing is
pub front_more : (words words' : List ToPublisher) (w : ToPublisher) (before all : Bool) (old now : Shows) → ShowsFront words before old → words' ≡ words ++ w ∷ [] → (IsTrue all → IsTrue before)
    → (IsTrue all → now ≡ shows_with old w) → (all ≡ false → now ≡ old) → ShowsFront words' all now
front_more words words' w before true old now f is was more kept =
    let passed = more refl ∙ shows_more old words words' w (front_whole words before old f (was refl)) is in
    record { front = words'; rest = []; is = sym (append-nil words'); passed = passed; whole = λ _. refl }
front_more words words' w before false old now f is was more kept =
    record {
      front = f.front;
      rest = f.rest ++ w ∷ [];
      is = is ∙ (ap (λ ws. ws ++ w ∷ []) f.is ∙ append_assoc f.front f.rest (w ∷ []));
      passed = kept refl ∙ f.passed;
      whole = λ e. absurd (true≢false (sym e));
    }

-- where it was shown here, and memory didn't run out
pub shows_told : {T E : Type 0} (r : Result T E) (old : Shows) (doc doc' : Grown) (shown shown' : List Doc) (w : ToPublisher) → old ≡ shows doc shown → OnOk r (doc' ≡ (shows_with (shows doc shown) w).doc)
    → OnOk r (shown' ≡ (shows_with (shows doc shown) w).shown) → OnOk r (shows doc' shown' ≡ shows_with old w)
shows_told (Ok x) old doc doc' shown shown' w is now then = shows_now _ _ _ _ now then ∙ ap (λ s. shows_with s w) (sym is)
shows_told (Err e) old doc doc' shown shown' w is now then = tt

pub told_doc : {T E : Type 0} (r : Result T E) (now then : Shows) → OnOk r (now ≡ then) → OnOk r (now.doc ≡ then.doc)
told_doc (Ok x) now then told = ap (λ (s : Shows). s.doc) told
told_doc (Err e) now then told = tt

pub told_shown : {T E : Type 0} (r : Result T E) (now then : Shows) → OnOk r (now ≡ then) → OnOk r (now.shown ≡ then.shown)
told_shown (Ok x) now then told = ap (λ (s : Shows). s.shown) told
told_shown (Err e) now then told = tt

pub last_behind : (words : List ToPublisher) (now : Shows) (seen : List Seen) → now ≡ shows_behind words → AreLast now.doc seen → AreLast (shows_behind words).doc seen
last_behind words now seen is last = subst (λ (s : Shows). AreLast s.doc seen) is last

-- ---- the lane

-- one change more was told
pub did_more : (words words' : List ToPublisher) (w : ToPublisher) → AreDid words → AreDid (w ∷ []) → words' ≡ words ++ w ∷ [] → AreDid words'
did_more words words' w all one is = subst AreDid (sym is) (both words all)
  where
    both : (ws : List ToPublisher) → AreDid ws → AreDid (ws ++ w ∷ [])
    both [] did = one
    both (Did changes ∷ ws) did = both ws did
    both (End ∷ ws) did = absurd did

abbrev ends : List ToPublisher → Bool
ends [] = false
ends (Did changes ∷ words) = false
ends (End ∷ words) = true

abbrev is_some : List ToPublisher → Bool
is_some [] = false
is_some (w ∷ words) = true

abbrev first_of : List ToPublisher → ToPublisher
first_of [] = End
first_of (w ∷ words) = w

abbrev behind : List ToPublisher → List ToPublisher
behind [] = []
behind (w ∷ words) = words

not-none : (words rest : List ToPublisher) → (words ++ End ∷ []) ++ rest ≢ []
not-none [] rest is = true≢false (ap is_some is)
not-none (w ∷ words) rest is = true≢false (ap is_some is)

all-of : (words did rest : List ToPublisher) → AreDid did → (words ++ End ∷ []) ++ rest ≡ did ++ End ∷ [] → words ≡ did
all-of [] [] rest are is = refl
all-of [] (Did changes ∷ did) rest are is = absurd (true≢false (ap ends is))
all-of words (End ∷ did) rest are is = absurd are
all-of (w ∷ words) [] rest are is = absurd (not-none words rest (ap behind is))
all-of (w ∷ words) (Did changes ∷ did) rest are is = ap (λ x. x ∷ words) (ap first_of is) ∙ ap (λ ws. Did changes ∷ ws) (all-of words did rest are (ap behind is))

-- What was taken up to the end is all that was put before it.
pub all_told : (words did taken put : List ToPublisher) → AreDid did → IsPrefix taken put → taken ≡ words ++ End ∷ [] → put ≡ did ++ End ∷ [] → words ≡ did
all_told words did taken put are (rest, is) took gave = all-of words did rest are (ap (λ ws. ws ++ rest) (sym took) ∙ (is ∙ gave))
