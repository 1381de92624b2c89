-- How a program that follows the parse goes from moment to moment.
use Rattle.std.proofs.Common.{◌≡◌, ℕ, zero, suc, ◌+◌, List, [], ◌∷◌, ◌++◌, length, drop, Option, Some, None, option_and_then, refl, sym, ◌∙◌, ap, zero-add, subst, arith}
use Rattle.std.proofs.Math.Seq.{drop-length}
use Rattle.std.proofs.lemmas.Option.{none-some, same_Some}
use Rattle.std.specs.Prelude.{⊤}
use Rattle.html_types.specs.declared.ending.Ending.{Ending}
use Rattle.html_types.specs.declared.ending.Ending.TheVariants as ending
use Rattle.html_types.specs.declared.ending.Why.TheVariants as why
use Rattle.html_types.specs.declared.instruction.Stop.{Stop}
use Rattle.html_types.specs.declared.instruction.Stop.TheVariants as stop
use Rattle.html_types.specs.declared.instruction.Finish.{Finish}
use Rattle.html_types.specs.declared.instruction.Finish.TheVariants as finale
use Rattle.standard.specs.Entities.{Entities}
use Rattle.standard.specs.Act.{acts}
use Rattle.standard.specs.Parser.{Parser, Took, took, take_character, Parsed, and_rest, parse, Finished, finish}
use Rattle.serial.specs.Page.{Page}
use Rattle.serial.specs.Serial.{World, Outcome, Serial, Moment, reading, over, refusal, first, finished, taken, at_end, read_next, moment_after, moments_on, Leads, Passes}
use Rattle.standard_laws.specs.Laws.{LeavesNothing, BatchesLead, WholeBatchesLead, EndLeads, outcome_at, FinishLeads, OverIsSerial}
use Rattle.standard_laws.proofs.Fuel.{moments_on-by, over-by, over-serial}
use Rattle.standard_laws.proofs.Batch.{moment_behind, reading-batch}

-- ---- some moments on

-- k moments and then j more
pub moments-add : (j k n : ℕ) (e : Ending) (w : World) (m m' : Moment) → moments_on k n e w m ≡ Some m' → moments_on (k + j) n e w m ≡ moments_on j n e w m'
moments-add j zero n e w m m' h = rw zero-add (ap (moments_on j n e w) (same_Some m m' h))
moments-add j (suc k) n e w m m' h =
    let c : suc k + j ≡ suc (k + j) = omega arith in
    rw c (by_next (moment_after n e w m) (λ a q. moments-add j k n e w a m' q) h)
  where
    by_next : (o : Option Moment) → ((a : Moment) → moments_on k n e w a ≡ Some m' → moments_on (k + j) n e w a ≡ moments_on j n e w m') →
        option_and_then (λ a. moments_on k n e w a) o ≡ Some m' → option_and_then (λ a. moments_on (k + j) n e w a) o ≡ moments_on j n e w m'
    by_next None rest q = absurd (none-some m' q)
    by_next (Some a) rest q = rest a q

pub passes-first : (page : Page) (w : World) → Passes page w (reading (first page))
passes-first page w = (0, 0, refl)

pub leads-same : (e : Ending) (w : World) (m : Moment) → Leads e w m m
leads-same e w m = (0, 0, refl)

pub leads-on : (e : Ending) (w : World) (m0 : Moment) (j n : ℕ) (m m' : Moment) → Leads e w m0 m → moments_on j n e w m ≡ Some m' → Leads e w m0 m'
leads-on e w m0 j n m m' (k, i, p) h =
    let c : i + n ≡ n + i = omega arith in
    let here : moments_on k (n + i) e w m0 ≡ Some m = moments_on-by n k i e w m0 m p in
    let more : moments_on j (n + i) e w m ≡ Some m' =
    (let r : moments_on j (i + n) e w m ≡ Some m' = moments_on-by i j n e w m m' h in rw c at r) in
    (k + j, n + i, moments-add j k (n + i) e w m0 m here ∙ more)

pub leads-next : (e : Ending) (w : World) (m0 : Moment) (n : ℕ) (m m' : Moment) → Leads e w m0 m → moment_after n e w m ≡ Some m' → Leads e w m0 m'
leads-next e w m0 n m m' p h = leads-on e w m0 1 n m m' p (ap (option_and_then (λ a. Some a)) h)

pub leads-then : (e : Ending) (w : World) (m0 m m' : Moment) → Leads e w m0 m → Leads e w m m' → Leads e w m0 m'
leads-then e w m0 m m' p (j, n, q) = leads-on e w m0 j n m m' p q

-- the moment in which the parse is over has its outcome
pub passes-over : OverIsSerial
passes-over page w o (k, n, p) =
    let c : n + k ≡ k + n = omega arith in
    let more : moments_on (k + n) (k + n) page.ending w (reading (first page)) ≡ Some (over o) =
    (let r : moments_on (n + k) (k + n) page.ending w (reading (first page)) ≡ Some (over o) =
    over-by n k (k + n) page.ending w (reading (first page)) o (moments_on-by k k n page.ending w (reading (first page)) (over o) p) in rw c at r) in
    (k + n, over-serial (k + n) page w o more)

-- ---- a batch

-- a parse that stopped isn't at the end of its text
HasStopped : Stop → Type 0
HasStopped stop.InputEnd = ⊥
HasStopped _ = ⊤

has_stopped : (s : Stop) → HasStopped s → s ≡ stop.InputEnd → ⊥
unfolding HasStopped
has_stopped s h e = subst HasStopped e h

used-rest : (k : Took) (cs : List ℕ) (f : Parser → Parsed) → ((p : Parser) → (f p).stop ≡ stop.InputEnd → (f p).used ≡ length cs) →
    (and_rest k f).stop ≡ stop.InputEnd → (and_rest k f).used ≡ suc (length cs)
unfolding HasStopped
used-rest (took ops p stop.InputEnd) cs f each h = ap suc (each p h)
used-rest (took ops p (stop.Script i)) cs f each h = absurd (has_stopped _ tt h)
used-rest (took ops p stop.Deep) cs f each h = absurd (has_stopped _ tt h)

pub parse-used : (es : Entities) (p : Parser) (x : List ℕ) → (parse es p x).stop ≡ stop.InputEnd → (parse es p x).used ≡ length x
unfolding parse
parse-used es p [] h = refl
parse-used es p (c ∷ cs) h = used-rest (take_character es p c) cs (λ p'. parse es p' cs) (λ p'. parse-used es p' cs) h

-- a parse leaves nothing of its text unless it stops
pub parse-left : LeavesNothing
parse-left es p p' d d' x left h =
    h.left ∙ (ap (λ k. drop k x) (parse-used es p x (sym h.stop)) ∙ drop-length x)

leads-parse : (e : Ending) (w : World) (m0 : Moment) (s : Serial) (x y : List ℕ) →
    Leads e w m0 (reading s) → s.input ≡ x ++ y → Leads e w m0 (moment_behind s x y (parse w.entities s.parser x))
leads-parse e w m0 s x y p q =
    let at_front : Leads e w m0 (reading (record s { input = x ++ y })) = rw (← q) p in
    leads-on e w m0 (parse w.entities s.parser x).used 0 _ _ at_front (reading-batch x y 0 e w s.parser s.side.doc s)

-- a batch is executed: what was parsed of the front of the input
pub leads-batch : BatchesLead
leads-batch e w m s x rest p d left stopped h q b =
    rw (b.parser, b.doc, b.left, b.stop) (leads-parse e w m s x rest h q)

pub leads-whole_batch : WholeBatchesLead
leads-whole_batch e w m s x rest p d left h q b =
    let c : Leads e w m (reading (taken p d (left ++ rest) s)) = leads-batch e w m s x rest p d left stop.InputEnd h q b in
    rw (parse-left w.entities s.parser p s.side.doc d x left b) at c

-- the page's ending is applied
pub leads-end : EndLeads
unfolding moment_after
leads-end e w m0 s p h = leads-next e w m0 0 (reading s) _ p (ap (λ t. Some (read_next w.entities e s t)) h)

pub finished-at : (s : Serial) (f : Finished) → at_end s f ≡ outcome_at s f.parser (acts s.side.doc f.ops) f.finish
finished-at s f = by_finish f.finish
  where
    by_finish : (k : Finish) → (let last = taken f.parser (acts s.side.doc f.ops) [] s in
        (elim k as (λ _. Outcome) [ finale.Finished ↦ record { result = finished; last = last } | finale.Deep ↦ refusal why.Depth last ]))
        ≡ outcome_at s f.parser (acts s.side.doc f.ops) k
    by_finish finale.Finished = refl
    by_finish finale.Deep = refl

-- the last operations are executed
pub leads-finish : FinishLeads
leads-finish w m s p d f h q b =
    let over_there : Leads ending.End w m (over (at_end s (finish w.entities s.parser))) = leads-end ending.End w m s h q in
    let o : outcome_at s p d f ≡ at_end s (finish w.entities s.parser) = rw (b.parser, b.doc, b.finish) (sym (finished-at s (finish w.entities s.parser))) in
    rw (← o) at over_there
