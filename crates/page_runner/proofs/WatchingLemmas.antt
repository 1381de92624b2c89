-- The board of a run, and what its watchers saw last.
use Rattle.std.proofs.Common.{◌≡◌, ◌≢◌, ◌≤◌, ℕ, ◌+◌, ◌==◌, Bool, true, false, true≢false, arith, List, [], ◌∷◌, ◌++◌, length, map, drop, fold, Option, Some, None, IfSome, Result, Ok, Err, OnOk, OnErr, IsTrue, refl, sym, ap, subst, ◌∙◌, append_assoc, append-nil, add_assoc, zero-add, if◌then◌else◌}
use Rattle.std.specs.List.{All}
use Rattle.std.proofs.Math.Nat.{add-zero}
use Rattle.std.proofs.lemmas.Bool.Decides.{nat_tests}
use Rattle.std.proofs.lemmas.List.Elements.{All-nil, All-pop, All-push, All-weaker}
use Rattle.standard.specs.Act.{Doc}
use Rattle.standard.specs.Outer.{document_text}
use Rattle.core_steps.specs.Sides.{Shown}
use Rattle.doc_changes.specs.declared.change.Change.{Change}
use Rattle.doc_changes.specs.Changes.{changed, weight, counted}
use Rattle.tree_watch.specs.declared.shown.Stand.{Stand}
use Rattle.tree_watch.specs.declared.shown.Note.{Note}
use Rattle.tree_watch.specs.declared.shown.Note.TheVariants.{Did, Last}
use Rattle.tree_watch.specs.declared.watcher.Seen.{Seen}
use Rattle.tree_watch.specs.Boards.{BoardView, Begins, begun, HasPublished, HasNotPublished, HasCompared, WatcherView, IsNew}
use Rattle.tree_watch.specs.Notes.{noted, start}
use Rattle.tree_watch.specs.Rule.{Log, latest}
use Rattle.tree_watch.specs.Seeing.{IsSeen}
use Rattle.tree_watch.proofs.Counting.{counted-push}
use Rattle.page_turns.specs.Watched.{Grown, ungrown, grown_by, shown_with, Follows, SeesLast, AreLast}
use Rattle.page_turns.proofs.WatchLemmas.{counted-append}
use Rattle.atomic_table.specs.Seated.{TableId}
use Rattle.page_runner.specs.declared.watchers.Post.{Post}
use Rattle.page_runner.specs.Partings.{AreOfBoard}
use Rattle.page_runner.specs.Watching.{table_at, doc_on, shown_on, doc_of, shown_of, IsShowing, IsAtWork, HasShown, HasKept, IsShownFrom, IsLeftFrom, IsWatching, AreAtPosts}

abbrev grown : Doc → ℕ → Grown
grown doc count = record { doc = doc; count = count }

none_there : {A : Type 0} (xs : List A) → length xs ≡ 0 → xs ≡ []
none_there [] is = refl
none_there (x ∷ xs) is = absurd (cc is)

texts_of : (g : Grown) (doc : Doc) (seen : List Seen) → g.doc ≡ doc → AreLast g seen → All (λ (s : Seen). s.text ≡ document_text doc.tree) seen
texts_of g doc seen same each = All-weaker _ _ (λ (s : Seen) (is : SeesLast g s). is.text ∙ ap (λ (d : Doc). document_text d.tree) same) seen each

-- Where all saw the mark, the texts are the document's.
pub seen_last : (watches : Bool) (s : Shown) (g : Grown) (shown : List Doc) (doc : Doc) (count count' : ℕ) (seen : List Seen) → doc ≡ s.desk.own.side.doc → (IsTrue watches → Follows s g shown)
    → (watches ≡ false → count ≡ 0) → count' ≡ count → length seen ≡ count' → AreLast g seen → All (λ (x : Seen). x.text ≡ document_text doc.tree) seen
seen_last true s g shown doc count count' seen here told unwatched same all last = texts_of g doc seen ((told refl).doc_is ∙ sym here) last
seen_last false s g shown doc count count' seen here told unwatched same all last =
    subst (λ (l : List Seen). All (λ (x : Seen). x.text ≡ document_text doc.tree) l) (sym (none_there seen (all ∙ (same ∙ unwatched refl)))) (All-nil _)

-- what was seen where nobody watches
pub none_watched : (seen : List Seen) → length seen ≤ 0 → seen ≡ []
none_watched seen few = none_there seen (omega (arith, few))

-- ---- the changes

zero-of : (n : ℕ) → (n == 0) ≡ true → n ≡ 0
zero-of n is = grind (arith, nat_tests)

-- there are none
pub none_told : (b : Bool) (n : ℕ) (changes : List Change) → b ≡ (n == 0) → n ≡ length changes → b ≡ true → changes ≡ []
none_told b n changes is len holds = none_there changes (sym len ∙ zero-of n (sym is ∙ holds))

-- there are some
pub some_told : (b : Bool) (n : ℕ) (changes : List Change) → b ≡ (n == 0) → n ≡ length changes → b ≡ false → changes ≢ []
some_told b n [] is len fails none = absurd (true≢false (sym (is ∙ ap (λ (k : ℕ). k == 0) len) ∙ fails))
some_told b n (c ∷ cs) is len fails none = absurd (cc none)

-- and then nothing grew
pub grown_none : (g : Grown) (changes : List Change) → changes ≡ [] → g ≡ grown_by g changes
grown_none g changes none = subst (λ (cs : List Change). g ≡ grown_by g cs) (sym none) (ap (grown g.doc) (sym (add-zero g.count)))

-- ---- the board

-- a board that was just made
pub shows_first : (b : BoardView) → Begins b → IsShowing b
shows_first b is = record {
  going = ap (λ (x : BoardView). x.over) is;
  first = ([], ap (λ (x : BoardView). x.published) is);
  stands = ap (λ (x : BoardView). x.stand) is ∙ sym (ap (λ (x : BoardView). latest x.published) is);
}

pub doc_first : (b : BoardView) → Begins b → doc_on b ≡ ungrown
doc_first b is = ap doc_on is

pub shown_first : (b : BoardView) → Begins b → shown_on b ≡ []
shown_first b is = ap shown_on is

noted-doc : (s : Stand) (cs : List Change) → (fold noted s (map Did cs)).doc ≡ fold changed s.doc cs
noted-doc s [] = refl
noted-doc s (c ∷ cs) = noted-doc (noted s (Did c)) cs

counted-one : (c : Change) (cs : List Change) → counted (c ∷ cs) ≡ weight c + counted cs
counted-one c cs = counted-append (c ∷ []) cs ∙ ap (λ n. n + counted cs) (counted-push [] c ∙ zero-add (weight c))

noted-count : (s : Stand) (cs : List Change) → (fold noted s (map Did cs)).changes ≡ s.changes + counted cs
noted-count s [] = sym (add-zero s.changes)
noted-count s (c ∷ cs) =
    let more : (fold noted (noted s (Did c)) (map Did cs)).changes ≡ (s.changes + weight c) + counted cs = noted-count (noted s (Did c)) cs in
    more ∙ (add_assoc s.changes (weight c) (counted cs) ∙ ap (λ n. s.changes + n) (sym (counted-one c cs)))

latest-last : (log : Log) (d s : Stand) → fold (λ (a b : Stand). b) d (log ++ s ∷ []) ≡ s
latest-last [] d s = refl
latest-last (x ∷ log) d s = latest-last log x s

docs-last : (rest : Log) (s : Stand) → map (λ (x : Stand). x.doc) (rest ++ s ∷ []) ≡ map (λ (x : Stand). x.doc) rest ++ s.doc ∷ []
docs-last [] s = refl
docs-last (x ∷ xs) s = ap (λ (ds : List Doc). x.doc ∷ ds) (docs-last xs s)

grown-is : (g h : Grown) → g.doc ≡ h.doc → g.count ≡ h.count → g ≡ h
grown-is g h doc count = ap (λ (d : Doc). grown d g.count) doc ∙ ap (grown h.doc) count

module _ (old : BoardView) (changes : List Change) (new : BoardView) (showing : IsShowing old) (noted_all : old.pending ≡ []) (shown : HasShown old changes new) where
  stand-is : new.stand ≡ fold noted old.stand (map Did changes)
  stand-is = shown.stand ∙ ap (λ (notes : List Note). fold noted old.stand (notes ++ map Did changes)) noted_all

  pub shows_on : IsShowing new
  shows_on = record {
    going = shown.over;
    first = (showing.first.0 ++ new.stand ∷ [], shown.published ∙ ap (λ (l : Log). l ++ new.stand ∷ []) showing.first.1);
    stands = sym (ap latest shown.published ∙ latest-last old.published start new.stand);
  }

  doc-shown : new.stand.doc ≡ fold changed old.stand.doc changes
  doc-shown = ap (λ (s : Stand). s.doc) stand-is ∙ noted-doc old.stand changes

  count-shown : new.stand.changes ≡ old.stand.changes + counted changes
  count-shown = ap (λ (s : Stand). s.changes) stand-is ∙ noted-count old.stand changes

  pub doc_shown : doc_on new ≡ grown_by (doc_on old) changes
  doc_shown = grown-is (doc_on new) (grown_by (doc_on old) changes) doc-shown count-shown

  shown-more : shown_on new ≡ shown_on old ++ new.stand.doc ∷ []
  shown-more =
      let rest = showing.first.0 in
      let now : new.published ≡ begun ∷ (rest ++ new.stand ∷ []) = shown.published ∙ ap (λ (l : Log). l ++ new.stand ∷ []) showing.first.1 in
      ap (λ (l : Log). map (λ (x : Stand). x.doc) (drop 1 l)) now
      ∙ (docs-last rest new.stand ∙ ap (λ (l : Log). map (λ (x : Stand). x.doc) (drop 1 l) ++ new.stand.doc ∷ []) (sym showing.first.1))

  pub shown_then : (c : Change) (cs : List Change) → changes ≡ c ∷ cs → shown_on new ≡ shown_with changes (shown_on old) (fold changed old.stand.doc changes)
  shown_then c cs are =
      shown-more ∙ (ap (λ (d : Doc). shown_on old ++ d ∷ []) doc-shown ∙ sym (ap (λ (l : List Change). shown_with l (shown_on old) (fold changed old.stand.doc changes)) are))

  pub shown_some : changes ≢ [] → shown_on new ≡ shown_with changes (shown_on old) (fold changed old.stand.doc changes)
  shown_some some = by changes refl
    where
      by : (cs : List Change) → changes ≡ cs → shown_on new ≡ shown_with changes (shown_on old) (fold changed old.stand.doc changes)
      by [] are = absurd (some are)
      by (c ∷ cs) are = shown_then c cs are

-- what was noted is published, without the mark
pub has_shown : (old mid new : BoardView) (changes : List Change) → mid ≡ record old { pending = old.pending ++ map Did changes } → new.over ≡ false → new.table ≡ mid.table → HasPublished false mid new
    → HasShown old changes new
has_shown old mid new changes is over table published = record {
  over = over;
  table = table ∙ ap (λ (b : BoardView). b.table) is;
  stand =
      published.stand
      ∙ (ap (λ (notes : List Note). fold noted mid.stand notes) (append-nil mid.pending)
      ∙ (ap (λ (b : BoardView). fold noted b.stand b.pending) is));
  published = published.published ∙ ap (λ (b : BoardView). b.published ++ new.stand ∷ []) is;
  pending = published.pending;
}

-- the same where publishing may find no memory
pub shown_if : {T E : Type 0} (r : Result T E) (old mid new : BoardView) (changes : List Change) → mid ≡ record old { pending = old.pending ++ map Did changes } → new.over ≡ false → new.table ≡ mid.table
    → OnOk r (HasPublished false mid new) → OnOk r (HasShown old changes new)
shown_if (Ok x) old mid new changes is over table published = has_shown old mid new changes is over table published
shown_if (Err e) old mid new changes is over table published = tt

-- and where it finds none all is as it was that is published
pub kept_if : {T E : Type 0} (r : Result T E) (old mid new : BoardView) → mid.stand ≡ old.stand → mid.published ≡ old.published → new.over ≡ false → new.table ≡ old.table
    → OnErr r (HasNotPublished false mid new) → OnErr r (HasKept old new)
kept_if (Ok x) old mid new stand published over table still = tt
kept_if (Err e) old mid new stand published over table still = record { over = over; table = table; stand = still.stand ∙ stand; published = still.published ∙ published }

-- ---- the mark

module _ (old new : BoardView) (noted_all : old.pending ≡ []) (published : HasPublished true old new) where
  marked-stand : new.stand ≡ record old.stand { last = true }
  marked-stand = published.stand ∙ ap (λ (notes : List Note). fold noted old.stand (notes ++ Last ∷ [])) noted_all

  pub marked_stands : new.stand ≡ latest new.published
  marked_stands = sym (ap latest published.published ∙ latest-last old.published start new.stand)

  pub marked_last : new.stand.last ≡ true
  marked_last = ap (λ (s : Stand). s.last) marked-stand

  is-last : (s : Seen) → IsSeen s new.stand → SeesLast (doc_on old) s
  is-last s seen = record {
    text = seen.text ∙ ap (λ (x : Stand). document_text x.doc.tree) marked-stand;
    counts = seen.changes ∙ ap (λ (x : Stand). x.changes) marked-stand;
    marked = seen.last ∙ marked_last;
  }

  pub are_last : (seen : List Seen) → All (λ (s : Seen). IsSeen s new.stand) seen → AreLast (doc_on old) seen
  are_last seen all = All-weaker _ _ is-last seen all

-- ---- the board of a run and those who watch it

-- the board is there
pub at_work : (board : Option BoardView) (b : BoardView) (failed : Bool) (posts : List Post) → IsWatching board failed posts → board ≡ Some b → IsAtWork failed posts b
at_work board b failed posts watching is = subst (λ (o : Option BoardView). IfSome o (IsAtWork failed posts)) is watching

-- it is gone
pub gone : (board : Option BoardView) (failed : Bool) (posts : List Post) → board ≡ None → IsWatching board failed posts
gone board failed posts is = subst (λ (o : Option BoardView). IsWatching o failed posts) (sym is) tt

-- nothing is published with the mark yet
pub going_there : (board taken : Option BoardView) (failed : Bool) (posts : List Post) → IsWatching board failed posts → taken ≡ board → IfSome taken (λ (b : BoardView). b.over ≡ false)
going_there board taken failed posts watching is = by taken (subst (λ (o : Option BoardView). IsWatching o failed posts) (sym is) watching)
  where
    by : (o : Option BoardView) → IsWatching o failed posts → IfSome o (λ (b : BoardView). b.over ≡ false)
    by None work = tt
    by (Some b) work = work.showing.going

kept-showing : (old new : BoardView) → IsShowing old → HasKept old new → IsShowing new
kept-showing old new showing kept = record {
  going = kept.over;
  first = (showing.first.0, kept.published ∙ showing.first.1);
  stands = kept.stand ∙ (showing.stands ∙ ap latest (sym kept.published));
}

-- what became of the board where it was to be shown on
module _ (board taken now dest : Option BoardView) (failed failed' : Bool) (changes : List Change) (posts : List Post) (watching : IsWatching board failed posts) (same : taken ≡ board) (put : dest ≡ now) where
  taken-work : (shown : IsShownFrom taken failed changes now) → IsAtWork failed posts shown.old
  taken-work shown = at_work board shown.old failed posts watching (sym same ∙ shown.there)

  shown-work : IsShownFrom taken failed changes now → failed' ≡ false → IsWatching dest failed' posts
  shown-work shown going =
      let work = taken-work shown in
      let noted = work.noted_all shown.going in
      subst (λ (o : Option BoardView). IsWatching o failed' posts) (sym (put ∙ shown.here)) (record {
        showing = shows_on shown.old changes shown.new work.showing noted shown.shown;
        noted_all = λ _. shown.shown.pending;
        posted = subst (λ (t : TableId). AreAtPosts t posts) (sym shown.shown.table) work.posted;
      })

  kept-work : (o : Option BoardView) → board ≡ o → IsWatching o failed posts → IsLeftFrom o now → failed' ≡ true → IsWatching dest failed' posts
  kept-work None is work left lost = gone dest failed' posts (put ∙ left)
  kept-work (Some old) is work (new, here, kept) lost =
      subst (λ (o : Option BoardView). IsWatching o failed' posts) (sym (put ∙ here)) (record {
        showing = kept-showing old new work.showing kept;
        noted_all = λ going. absurd (true≢false (sym lost ∙ going));
        posted = subst (λ (t : TableId). AreAtPosts t posts) (sym kept.table) work.posted;
      })

  left-here : IsLeftFrom taken now → IsLeftFrom board now
  left-here left = subst (λ (o : Option BoardView). IsLeftFrom o now) same left

  pub watching_after : (failed' ≡ false → IsShownFrom taken failed changes now) → (failed' ≡ true → IsLeftFrom taken now) → IsWatching dest failed' posts
  watching_after shown left = by failed' refl
    where
      by : (b : Bool) → failed' ≡ b → IsWatching dest failed' posts
      by true lost = kept-work board refl watching (left-here (left lost)) lost
      by false going = shown-work (shown going) going

  pub doc_after : IsShownFrom taken failed changes now → doc_of dest ≡ grown_by (doc_of board) changes
  doc_after shown =
      let work = taken-work shown in
      ap doc_of (put ∙ shown.here)
      ∙ (doc_shown shown.old changes shown.new work.showing (work.noted_all shown.going) shown.shown
      ∙ ap (λ (o : Option BoardView). grown_by (doc_of o) changes) (sym shown.there ∙ same))

  pub shown_after : changes ≢ [] → IsShownFrom taken failed changes now → shown_of dest ≡ shown_with changes (shown_of board) (fold changed (doc_of board).doc changes)
  shown_after some shown =
      let work = taken-work shown in
      ap shown_of (put ∙ shown.here)
      ∙ (shown_some shown.old changes shown.new work.showing (work.noted_all shown.going) shown.shown some
      ∙ ap (λ (o : Option BoardView). shown_with changes (shown_of o) (fold changed (doc_of o).doc changes)) (sym shown.there ∙ same))

  doc-left : (o : Option BoardView) → IsLeftFrom o now → doc_of now ≡ doc_of o
  doc-left None left = ap doc_of left
  doc-left (Some old) (new, here, kept) = ap doc_of here ∙ ap (λ (s : Stand). grown s.doc s.changes) kept.stand

  shown-left : (o : Option BoardView) → IsLeftFrom o now → shown_of now ≡ shown_of o
  shown-left None left = ap shown_of left
  shown-left (Some old) (new, here, kept) = ap shown_of here ∙ ap (λ (l : Log). map (λ (s : Stand). s.doc) (drop 1 l)) kept.published

  pub doc_left : IsLeftFrom taken now → doc_of dest ≡ doc_of board
  doc_left left = ap doc_of put ∙ doc-left board (left-here left)

  pub shown_left : IsLeftFrom taken now → shown_of dest ≡ shown_of board
  shown_left left = ap shown_of put ∙ shown-left board (left-here left)

-- ---- a watcher

-- what it saw last, with the mark, is what was published last
pub compared_last : (w : WatcherView) (published : Log) (s : Seen) → HasCompared w → w.told ≡ published → IsSeen s (latest w.seen) → s.last ≡ true → (latest published).last ≡ true → IsSeen s (latest published)
compared_last w published s compared told seen last marked =
    let same = compared.marked (sym seen.last ∙ last) (ap (λ (l : Log). (latest l).last) told ∙ marked) in
    subst (λ (l : Log). IsSeen s (latest l)) (same ∙ told) seen

-- ---- one after the other

did-more : (cs : List Change) (c : Change) → map Did (cs ++ c ∷ []) ≡ map Did cs ++ Did c ∷ []
did-more [] c = refl
did-more (x ∷ xs) c = ap (λ (l : List Note). Did x ∷ l) (did-more xs c)

-- no change is noted yet
pub noted_none : (b : BoardView) → b ≡ record b { pending = b.pending ++ map Did [] }
noted_none b = ap (λ (l : List Note). record b { pending = l }) (sym (append-nil b.pending))

-- one change more
pub noted_more : (old now new : BoardView) (cs : List Change) (c : Change) → now ≡ record old { pending = old.pending ++ map Did cs } → new ≡ record now { pending = now.pending ++ Did c ∷ [] }
    → new ≡ record old { pending = old.pending ++ map Did (cs ++ c ∷ []) }
noted_more old now new cs c before is =
    is
    ∙ (ap (λ (b : BoardView). record b { pending = b.pending ++ Did c ∷ [] }) before
    ∙ ap (λ (l : List Note). record old { pending = l }) (append_assoc old.pending (map Did cs) (Did c ∷ []) ∙ ap (λ (l : List Note). old.pending ++ l) (sym (did-more cs c))))

-- what one watcher more saw, where there was memory for it
pub seen_more : (b : Bool) (x : Stand) (seen seen' : List Seen) (s : Seen) → seen' ≡ (if b then seen ++ s ∷ [] else seen) → IsSeen s x → All (λ (t : Seen). IsSeen t x) seen → All (λ (t : Seen). IsSeen t x) seen'
seen_more true x seen seen' s is one all = subst (λ (l : List Seen). All (λ (t : Seen). IsSeen t x) l) (sym is) (All-push (λ (t : Seen). IsSeen t x) seen s all one)
seen_more false x seen seen' s is one all = subst (λ (l : List Seen). All (λ (t : Seen). IsSeen t x) l) (sym is) all

-- what a watcher that was met saw, where the mark is published
pub met_last : (b now : BoardView) (last : Option Seen) → now ≡ b → b.stand ≡ latest b.published → b.stand.last ≡ true
    → ((latest now.published).last ≡ true → IfSome last (λ (s : Seen). IsSeen s (latest now.published))) → IfSome last (λ (s : Seen). IsSeen s b.stand)
met_last b now last same stands marked met =
    let is : latest now.published ≡ b.stand = ap (λ (x : BoardView). latest x.published) same ∙ sym stands in
    subst (λ (x : Stand). IfSome last (λ (s : Seen). IsSeen s x)) is (met (ap (λ (x : Stand). x.last) is ∙ marked))

-- one watcher more has its post
pub posted_more : (table : TableId) (ws : List WatcherView) (w : WatcherView) (ps ps' : List Post) (p : Post) → ps' ≡ ps ++ p ∷ [] → table_at p ≡ w.table → (AreOfBoard table ws → AreAtPosts table ps)
    → AreOfBoard table (ws ++ w ∷ []) → AreAtPosts table ps'
posted_more table ws w ps ps' p is at posted all =
    let both = All-pop (IsNew table) (ws ++ w ∷ []) ws (Some w) refl all in
    subst (AreAtPosts table) (sym is) (All-push (λ (x : Post). table_at x ≡ table) ps p (posted both.0) (at ∙ ap (λ (x : WatcherView). x.table) both.1))
