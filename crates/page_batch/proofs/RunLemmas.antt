-- A window: its pages are read, run and written.
use Rattle.std.proofs.Common.{◌≡◌, ◌≤◌, ◌<◌, ℕ, List, [], ◌∷◌, ◌++◌, length, take, drop, take-append-drop, Option, sym, ap, subst, ◌∙◌, arith}
use Rattle.std.specs.Prelude.{Result, Ok, Err, IfOk}
use Rattle.std.specs.List.{AllByRecursion}
use Rattle.standard.specs.Entities.{Entities}
use Rattle.outside.specs.Outside.{Begun, Seen, KeepsOthers}
use Rattle.outside.specs.declared.traits.Port.TheVariants.{Page, Script}
use Rattle.outside.proofs.KeepsLemmas.{keeps-then}
use Rattle.page_turns.specs.declared.page.TheConstants.{PAGE_LIMIT}
use Rattle.page_turns.specs.Calls.{EachWithin}
use Rattle.page_turns.specs.Given.{Given, KeepsEntities}
use Rattle.page_turns.specs.Pages.{PageRead}
use Rattle.page_turns.specs.Scripts.{Met, folder_with}
use Rattle.page_turns.proofs.CallLemmas.{each_none, each_then}
use Rattle.page_turns.proofs.KeepsLemmas.{begun_stays, later-others, entities-then, entities-others}
use Rattle.page_turns.proofs.MeetLemmas.{fetches-past}
use Rattle.page_turns.proofs.PageTakenLemmas.{front_nothing}
use Rattle.page_batch.specs.Reading.{ReadsPages}
use Rattle.page_batch.specs.Slots.{Slotted}
use Rattle.page_batch.specs.Rounds.{RunsAll, FetchesMore, FetchesOrSpends}
use Rattle.page_batch.specs.Windows.{files_in, IsNew, ReadsFront, ReadsInPart, WritesAll, WritesInPart, texts_of, RunsWindow, StopsInWindow}
use Rattle.page_batch.proofs.CountLemmas.{rose-none}
use Rattle.page_batch.proofs.FetchLemmas.{more-then}
use Rattle.page_batch.proofs.FrontLemmas.{files-count}
use Rattle.page_batch.proofs.SlotLemmas.{parts-settled, front-settled}

-- scripts were fetched behind the pages
reads-stay : (paths : List (List ℕ)) (pages : List (Given PageRead)) (before now after : Seen) → ReadsPages paths pages before now → KeepsOthers Script now after → ReadsPages paths pages before after
reads-stay [] [] before now after reads others = keeps-then Script before now after reads others
reads-stay (path ∷ paths) (page ∷ pages) before now after (begun, later, past, may, own, rest) others = (begun, later, past, may, own, reads-stay paths pages later now after rest others)
reads-stay [] (page ∷ pages) before now after reads others = absurd reads
reads-stay (path ∷ paths) [] before now after reads others = absurd reads

-- pages were read, and no script was fetched
more-alone : (dir : List ℕ) (before now : Seen) (s : Met) → KeepsOthers Page before now → FetchesMore [] dir before now s s
more-alone dir before now s keeps = record {
  fetches = fetches-past [] (folder_with dir []) Page before now s (λ e. cc e) keeps;
  known = λ k. k;
  more = 0;
  count = omega arith;
  rose = rose-none (before.faults Script) (now.faults Script) (keeps.faults Script);
}

-- memory ran out while the pages were read
pub stops-unread : (es : Entities) (dir : List ℕ) (paths : List (List ℕ)) (before after : Seen) (t : Met) (u : Option (List ℕ)) → ReadsInPart paths before after → StopsInWindow es dir paths before after t t u u
stops-unread es dir paths before after t u (pages, read) = record {
  front = take (length pages) paths;
  behind = drop (length pages) paths;
  is = sym (take-append-drop (length pages) paths);
  settled_pages = [];
  others = pages;
  reads = read.reads;
  begun = read.begun;
  within = read.within;
  keeps = entities-others Page before after (λ e. cc e) (λ e. cc e) read.others;
  unmet = [];
  fetches = more-alone dir before after t read.others;
  parts = [];
  settled = tt;
  took = front_nothing u (texts_of (take (length pages) paths) []);
}

module _ (es : Entities) (dir : List ℕ) (paths : List (List ℕ)) (olds news : List Slotted) (t0 t1 : Met) (before now after : Seen) (read : ReadsFront paths (files_in olds) before now) (fresh : AllByRecursion IsNew olds)
    (others : KeepsOthers Script now after) where
  abbrev front : List (List ℕ)
  front = take (length (files_in olds)) paths

  reads-here : ReadsPages front (files_in olds) before after
  reads-here = reads-stay front (files_in olds) before now after read.reads others

  begun-here : Begun (before.begun Page) (after.begun Page) front
  begun-here = begun_stays (before.begun Page) (now.begun Page) (after.begun Page) front read.begun (others.begun Page (λ e. cc e))

  within-here : EachWithin PAGE_LIMIT Page before after
  within-here = each_then PAGE_LIMIT Page before now after read.within (each_none PAGE_LIMIT Page now after (others.calls Page (λ e. cc e)))

  keeps-here : KeepsEntities before after
  keeps-here = entities-then before now after (entities-others Page before now (λ e. cc e) (λ e. cc e) read.others) (entities-others Script now after (λ e. cc e) (λ e. cc e) others)

  fetches-here : (unmet : List (List ℕ)) → FetchesMore unmet dir now after t0 t1 → FetchesMore unmet dir before after t0 t1
  fetches-here unmet fetched = more-then unmet dir before now after t0 t0 t1 (later-others Page before now read.others) (later-others Script now after others) (more-alone dir before now t0 read.others) fetched

  pub window-ran : (u v : Option (List ℕ)) → RunsAll t0 t1 olds news → FetchesMore [] dir now after t0 t1 → WritesAll es front news u v → RunsWindow es dir front before after t0 t1 u v
  window-ran u v all fetched writes = record {
    pages = files_in olds;
    reads = reads-here;
    begun = begun-here;
    within = within-here;
    keeps = keeps-here;
    fetches = fetches-here [] fetched;
    parts = writes.parts;
    settled = parts-settled es t0 t1 olds news writes.parts fresh all writes.have;
    took = writes.took;
  }

  -- a part was written in part, or a page isn't over
  pub stops-writing : (u v : Option (List ℕ)) → RunsAll t0 t1 olds news → FetchesMore [] dir now after t0 t1 → WritesInPart es front news u v → StopsInWindow es dir paths before after t0 t1 u v
  stops-writing u v all fetched writes =
      let settled = front-settled es t0 t1 olds writes.front writes.rest writes.parts fresh (subst (λ l. RunsAll t0 t1 olds l) writes.is all) writes.have in
      record {
        front = front;
        behind = drop (length (files_in olds)) paths;
        is = sym (take-append-drop (length (files_in olds)) paths);
        settled_pages = settled.settled_pages;
        others = settled.others;
        reads = subst (λ l. ReadsPages front l before after) settled.is reads-here;
        begun = begun-here;
        within = within-here;
        keeps = keeps-here;
        unmet = [];
        fetches = fetches-here [] fetched;
        parts = writes.parts;
        settled = settled.settled;
        took = writes.took;
      }

  -- memory ran out in a round, or while scripts were fetched
  pub stops-running : (u : Option (List ℕ)) → FetchesOrSpends dir now after t0 t1 → StopsInWindow es dir paths before after t0 t1 u u
  stops-running u (unmet, fetched) = record {
    front = front;
    behind = drop (length (files_in olds)) paths;
    is = sym (take-append-drop (length (files_in olds)) paths);
    settled_pages = [];
    others = files_in olds;
    reads = reads-here;
    begun = begun-here;
    within = within-here;
    keeps = keeps-here;
    unmet = unmet;
    fetches = fetches-here unmet fetched;
    parts = [];
    settled = tt;
    took = front_nothing u (texts_of front []);
  }

  -- ---- by the count of the pages

  module _ (n : ℕ) (count : n ≡ length olds) (paths' : List (List ℕ)) (few : paths' ≡ take n paths) (slots : List Slotted) (same : slots ≡ news) (u v : Option (List ℕ)) (all : RunsAll t0 t1 olds news) (fetched : FetchesMore [] dir now after t0 t1) where
    counted : front ≡ take n paths
    counted = ap (λ k. take k paths) (files-count olds ∙ sym count)

    pub ran-counted : WritesAll es paths' slots u v → RunsWindow es dir (take n paths) before after t0 t1 u v
    ran-counted writes =
        subst (λ l. RunsWindow es dir l before after t0 t1 u v) counted
        (window-ran u v all fetched (subst (λ l. WritesAll es l news u v) (few ∙ sym counted) (subst (λ l. WritesAll es paths' l u v) same writes)))

    pub stops-counted : WritesInPart es paths' slots u v → StopsInWindow es dir paths before after t0 t1 u v
    stops-counted writes = stops-writing u v all fetched (subst (λ l. WritesInPart es l news u v) (few ∙ sym counted) (subst (λ l. WritesInPart es paths' l u v) same writes))

-- ---- by what is known of the slots that were read

pub window-fits : {X : Type 0} (r : Result ℕ X) (m n : ℕ) → m ≤ n → IfOk r (λ k. k ≡ m) → IfOk r (λ k. k ≤ n)
window-fits (Ok k) m n fits count = omega (arith, fits, count)
window-fits (Err e) m n fits count = tt

pub window-some : {X : Type 0} (r : Result ℕ X) (m n : ℕ) → (0 < n → 0 < m) → IfOk r (λ k. k ≡ m) → IfOk r (λ k. 0 < n → 0 < k)
window-some (Ok k) m n some count = λ filled. subst (λ i. 0 < i) (sym count) (some filled)
window-some (Err e) m n some count = tt
