use Rattle.std.proofs.Common.{◌≡◌, ◌≤◌, ◌<◌, [], ◌∷◌, ◌++◌, List, ℕ, map, length, drop, true≢false, refl, sym, ap, subst, ◌∙◌, arith}
use Rattle.std.specs.String.{string_bytes}
use Rattle.std.specs.List.{AllByRecursion}
use Rattle.std.proofs.lemmas.List.{length-map, length_push}
use Rattle.page_turns.specs.Given.{unmet}
use Rattle.page_turns.proofs.LineLemmas.{on_err}
use Rattle.page_batch.specs.Reading.{given_in}
use Rattle.page_batch.specs.Slots.{Slotted}
use Rattle.page_batch.specs.Windows.{files_in, IsNew, ReadsFront}
use Rattle.page_batch.proofs.FrontLemmas.{all-more, front-none, files-count, slots-more, slots-rest, slots-cut, some-there, all-read}
use Rattle.page_batch.proofs.windows.fill_window.Goals as goal

pub pages-init : goal.pages-init
pages-init g c =
    let now = g.F.Outside.seen c.args.files.now in
    let none = c.requires in
    record {
      read = subst (λ (l : List Slotted). ReadsFront (map string_bytes c.args.paths.now) (files_in l) now now) (sym none) (front-none (map string_bytes c.args.paths.now) now);
      rest = subst (λ (l : List Slotted). map string_bytes c.args.paths.now ≡ drop (length l) (map string_bytes c.args.paths.now)) (sym none) refl;
      unused = subst (AllByRecursion IsNew) (sym none) tt;
      room = λ q. refl;
    }

pub pages-preserved : goal.pages-preserved
pages-preserved g c =
    let at = g.F.Outside.seen in
    let i = c.pages.invariant in
    let cut = ap (map string_bytes) c.in-Some.ensures.cases.0 in
    let count = ap length c.in_ok-push.ensures.items in
    let more = length_push c.pages.slots.items c.new.result in
    record {
      read = slots-more (map string_bytes c.args.paths.now) c.pages.slots.items (string_bytes c.in-Some.path.now) (map string_bytes c.in-Some.behind.now) (map string_bytes c.pages.rest.now) cut i.rest (at c.args.files.now) (at c.pages.files) (at c.read_page.new.files) i.read c.as_str.result.now
          c.as_str.ensures.value (given_in c.in_ok-file.file) c.in_ok-file.ensures.given c.read_page.ensures.begun c.read_page.ensures.within c.read_page.ensures.others c.new.result c.push.new.self.items c.in_ok-push.ensures.items c.new.ensures.page;
      rest = slots-rest (map string_bytes c.args.paths.now) c.pages.slots.items (string_bytes c.in-Some.path.now) (map string_bytes c.in-Some.behind.now) (map string_bytes c.pages.rest.now) cut i.rest (at c.args.files.now) (at c.pages.files) (at c.read_page.new.files) i.read c.new.result
          c.push.new.self.items c.in_ok-push.ensures.items;
      unused = subst (AllByRecursion IsNew) (sym c.in_ok-push.ensures.items) (all-more IsNew c.pages.slots.items c.new.result i.unused c.new.ensures.unused);
      room = λ q. absurd (omega (arith, q, count, more));
    }

pub returns-in_default-clause-fits : goal.returns-in_default-clause-fits
returns-in_default-clause-fits g c =
    let count = files-count c.pages.slots.items in let all = length-map c.args.paths.now string_bytes in let front = c.pages.invariant.read.front in omega (arith, count, all, front)

pub returns-in_default-clause-some : goal.returns-in_default-clause-some
returns-in_default-clause-some g c = λ filled.
    let rest = ap length c.pages.invariant.rest in
    let left = length-map c.pages.rest.now string_bytes in
    let all = length-map c.args.paths.now string_bytes in
    all-read (map string_bytes c.args.paths.now) c.pages.slots.items (omega (arith, rest, left, c.in_default.ensures.cases)) (omega (arith, all, filled))

pub returns-then-is_full-clause-fits : goal.returns-then-is_full-clause-fits
returns-then-is_full-clause-fits g c =
    let count = files-count c.pages.slots.items in let all = length-map c.args.paths.now string_bytes in let front = c.pages.invariant.read.front in omega (arith, count, all, front)

pub returns-then-is_full-clause-some : goal.returns-then-is_full-clause-some
returns-then-is_full-clause-some g c = λ filled.
    some-there (length c.pages.slots.items) (λ none. true≢false (sym c.if-is_full.true ∙ c.is_full.ensures (omega (arith, none, c.len.ensures, c.pages.slots.ok.0)) (c.pages.invariant.room none)))

pub returns-in_err-file-clause-spent : goal.returns-in_err-file-clause-spent
returns-in_err-file-clause-spent g c =
    let at = g.F.Outside.seen in
    on_err _ _ (slots-cut (map string_bytes c.args.paths.now) c.pages.slots.items (string_bytes c.in-Some.path.now) (map string_bytes c.in-Some.behind.now) (map string_bytes c.pages.rest.now) (ap (map string_bytes) c.in-Some.ensures.cases.0) c.pages.invariant.rest
    (at c.args.files.now) (at c.pages.files) (at c.read_page.new.files) c.pages.invariant.read c.as_str.result.now c.as_str.ensures.value unmet tt c.read_page.ensures.begun c.read_page.ensures.within c.read_page.ensures.others)

pub returns-in_err-push-clause-spent : goal.returns-in_err-push-clause-spent
returns-in_err-push-clause-spent g c =
    let at = g.F.Outside.seen in
    on_err _ _ (slots-cut (map string_bytes c.args.paths.now) c.pages.slots.items (string_bytes c.in-Some.path.now) (map string_bytes c.in-Some.behind.now) (map string_bytes c.pages.rest.now) (ap (map string_bytes) c.in-Some.ensures.cases.0) c.pages.invariant.rest
    (at c.args.files.now) (at c.pages.files) (at c.read_page.new.files) c.pages.invariant.read c.as_str.result.now c.as_str.ensures.value (given_in c.in_ok-file.file) c.in_ok-file.ensures.given c.read_page.ensures.begun c.read_page.ensures.within c.read_page.ensures.others)

pub pages-smaller : goal.pages-smaller
pages-smaller g c = omega (arith, c.in-Some.ensures.cases.1)
