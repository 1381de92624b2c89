-- The realms of a desk and the counts of its own state, by what is known of the page's scripts at the moment for which it stands.
use Rattle.std.proofs.Common.{◌≡◌, inl, inr, true≢false, ℕ, suc, ◌+◌, ◌*◌, nat_lt, Bool, true, false, List, [], ◌∷◌, ◌++◌, length, drop, Option, Some, None, refl, subst, sym, ◌∙◌, ap, append_assoc, arith}
use Rattle.std.proofs.lemmas.List.{drop_at, drop_all}
use Rattle.std.proofs.lemmas.Bool.{and_parts}
use Rattle.std.specs.Prelude.{IsTrue, not, if◌then◌else◌}
use Rattle.html_types.specs.declared.operation.NodeId.{NodeId}
use Rattle.html_types.specs.declared.instruction.Stop.{Stop}
use Rattle.html_types.specs.declared.instruction.Stop.TheVariants as stop
use Rattle.html_types.specs.declared.instruction.Finish.{Finish}
use Rattle.html_types.specs.declared.instruction.Finish.TheVariants as finale
use Rattle.html_types.specs.declared.ending.Ending.{Ending}
use Rattle.html_types.specs.declared.ending.Ending.TheVariants as ending
use Rattle.html_types.specs.declared.ending.Why.TheVariants as why
use Rattle.standard.specs.Act.{Doc, acts, node_of}
use Rattle.standard.specs.Entities.{Entities}
use Rattle.standard.specs.Parser.{Parser, Parsed, parse, Finished, finish}
use Rattle.standard.specs.Prepare.{prepare}
use Rattle.serial.specs.Serial.{World, Serial, Side, prepared, first, Moment, reading, tag_ended, awaits, over, Result, finished, refused, Outcome, taken, ended, at_end, moment_after, Passes}
use Rattle.standard_laws.specs.Laws.{moment_at}
use Rattle.standard_laws.proofs.Batch.{moment_behind}
use Rattle.standard_laws.proofs.Passing.{passes-over}
use Rattle.standard_laws.proofs.Fuel.{one_outcome}
use Rattle.rule_laws.specs.Naming.{rename_parser, rename_ops, rename_stop, rename_parsed, rename_finished}
use Rattle.rule_laws.proofs.RenamingTexts.{texts-renamed, ends-renamed}
use Rattle.core_definitions.specs.declared.event.Event.{Event}
use Rattle.core_definitions.specs.declared.event.Event.TheVariants.{Send, Pick, Give, Take, Do, Arrive}
use Rattle.core_definitions.specs.declared.verdict.Verdict.{Verdict}
use Rattle.core_definitions.specs.declared.verdict.Verdict.TheVariants.{Keep, Rewind}
use Rattle.core_definitions.specs.Batches.{Piece, Batch, text_batch, finish_batch, end_batch, Halt, at, answer, over_with, result_at}
use Rattle.core_definitions.specs.Verdict.{Watch, first_watch, runs, at_tag, judged, Watches, stays}
use Rattle.core_definitions.specs.Settling.{Settles, is_empty}
use Rattle.core_definitions.specs.Desk.{Phase, free, tagged, waits, done, Desk, first_desk, pieces_with, stale, wants_reply, can_do_in, sends_first, with_batches, drops, answer_called_for, takes, at_end_tag, behind_halt, with_executed, executes, decided, Concludes, RunsOn, DoesIn, Moves, MovesBy}
use Rattle.core_definitions.specs.Core.{Setup, whole_page}
use Rattle.core_definitions.specs.StandsFor.{own_moment, text_of, page_left}
use Rattle.core_laws.specs.Alike.{own_of, Okay, AreAlike}
use Rattle.core_laws.specs.DeskLaws.{IsReached}
use Rattle.core_laws.proofs.Okay.{okay-parse}
use Rattle.core_laws.proofs.Framing.{prepared-same}
use Rattle.core_laws.proofs.Cutting.{IsText, IsLast, first-batch, answered-by-nothing}
use Rattle.core_laws.proofs.Watching.{at_left, IsWatch, watches-then, watches-next, watches-batch, watches-lead}
use Rattle.core_laws.proofs.Known.{InPhase, InHand, InWatch, Known, with_input, Reads, reads}
use Rattle.core_laws.proofs.Ledger.{Piped, Pipe, again-text, page-text, last-piece}
use Rattle.core_laws.proofs.Moving.{Holding, free-of, nil-of, moves-hold}
use Rattle.core_laws.proofs.Standing.{first-holds}
use Rattle.tally_laws.specs.TallyLaws.{Tallies, TalliesAsSerial}
use Rattle.tally_laws.proofs.Places.{InPlace, none-in_hand, some-in_hand, same-with_none, same-with_some, over-stays, OneGoesOn, one-goes_on}
use Rattle.tally_laws.proofs.Ends.{HasNotFinished, tag-settles_open, awaited-settles_open}

-- ---- what is counted

-- so many realms were taken, with so many scripts in hand
abbrev Realms : ℕ → ℕ → Watch → Type 0
Realms in_hand realm v = realm ≡ v.kept + 2 * v.failed + 1 + in_hand

-- the parse is over, and scripts wrote and ran as on this side
abbrev EndsSo : Side → Moment → Type 0
EndsSo side m = (o : Outcome) × (m ≡ over o) × (side.written ≡ o.last.side.written) × (side.executed ≡ o.last.side.executed)

-- where the parse is refused nothing is counted
abbrev CountsIn : Phase → ℕ → Side → Moment → Watch → Type 0
CountsIn free realm side m v = Realms 0 realm v
CountsIn (tagged i held) realm side m v = Realms 1 realm v
CountsIn (waits name held) realm side m v = Realms 1 realm v
CountsIn (done finished) realm side m v = Realms 0 realm v × EndsSo side m
CountsIn (done (refused y)) realm side m v = Unit {0}

module _ (e : Ending) (w : World) (m0 : Moment) (v0 : Watch) where
  abbrev Stands : List ℕ → Desk → Type 0
  Stands page d = (m : Moment) × (v : Watch) × (r : NodeId → NodeId) × Watches e w m0 v0 m v × Known r page d m v × CountsIn d.phase d.realm d.own.side m v

  record Tallied (d : Desk) : Type 0 where
    stood : Stands (page_left d) d
    pipe : Pipe w.entities e d.phase d

  -- what is known says nothing of pieces, batches and the other counts
  stands-with : (page page' : List ℕ) (d : Desk) (h : List Batch) (l : Piece) (a t : List Piece) (b : Option Parser) (s k x : ℕ) (n : List (List ℕ)) → page ≡ page' → Stands page d →
      Stands page' (record d { hand = h; left = l; asked = a; to_send = t; begins = b; sent = s; taken = k; dropped = x; arrived = n })
  stands-with page page' d h l a t b s k x n same (m, v, r, seen, known, counts) =
      let d' : Desk = record d { hand = h; left = l; asked = a; to_send = t; begins = b; sent = s; taken = k; dropped = x; arrived = n } in
      subst (λ y. Stands y d') same (m, v, r, seen, record { names = known.names; alike = known.alike; in_phase = known.in_phase; failed = known.failed; watch = known.watch }, counts)

  -- what is left of the page in its pieces goes on as it does by itself
  pipe-on : (ahead : ℕ) (v : Event) (d d' : Desk) → Moves ahead w v d d' → Tallied d → Pipe w.entities e d'.phase d'
  pipe-on ahead v d d' moves h =
      let (m, u, r, seen, known, counts) = h.stood in
      let from : Holding e w m u d = record { stood = (m, u, r, stays m u, known); pipe = h.pipe } in
      (moves-hold e w m u ahead v d d' moves from).pipe

  -- ---- Send, Take

  sends-stand : (d : Desk) (ps : List Piece) → d.to_send ≡ ps → Stands (page_left d) d → Stands (page_left (sends_first ps d)) (sends_first ps d)
  sends-stand d [] q h = h
  sends-stand d (x ∷ xs) q h =
      stands-with (page_left d) (page_left (sends_first (x ∷ xs) d)) d d.hand d.left (d.asked ++ x ∷ []) xs None (suc d.sent) d.taken d.dropped d.arrived
      (ap (λ ys. text_of (d.left ∷ ys)) (ap (λ ys. d.asked ++ ys) q ∙ sym (append_assoc d.asked (x ∷ []) xs))) h

  takes-first : (d : Desk) (ps : List Piece) → d.asked ≡ ps → d.phase ≡ free → d.hand ≡ [] → Tallied d →
      Stands (page_left (with_batches (answer_called_for w.entities d ps) ps d)) (with_batches (answer_called_for w.entities d ps) ps d)
  takes-first d [] q at_free nil h = h.stood
  takes-first d (x ∷ xs) q at_free nil h =
      let p : Piped w.entities e d.own.parser d = subst (λ f. Pipe w.entities e f d) at_free h.pipe in
      let used = answered-by-nothing w.entities d.own.parser d.left (sym nil ∙ p.hand) in
      let page : page_left d ≡ text_of (x ∷ xs ++ d.to_send) =
      ap (λ ps. d.left.text ++ text_of (ps ++ d.to_send)) q ∙ ap (λ t. t ++ text_of (x ∷ xs ++ d.to_send)) used.text in
      stands-with (page_left d) (text_of (x ∷ xs ++ d.to_send)) d (answer w.entities (Some d.own.parser) x).batches x xs d.to_send d.begins d.sent (suc d.taken) d.dropped d.arrived page h.stood

  takes-stand : (d : Desk) → IsTrue (wants_reply d) → Tallied d → Stands (page_left (takes w.entities d)) (takes w.entities d)
  takes-stand d can h = by (nat_lt 0 (stale d))
    where
      by : (b : Bool) →
          Stands (page_left (if b then drops d else with_batches (answer_called_for w.entities d d.asked) d.asked d)) (if b then drops d else with_batches (answer_called_for w.entities d d.asked) d.asked d)
      by true = stands-with (page_left d) (page_left d) d d.hand d.left d.asked d.to_send d.begins d.sent (suc d.taken) (suc d.dropped) d.arrived refl h.stood
      by false = takes-first d d.asked refl (free-of d.phase (and_parts _ _ (and_parts _ _ can).0).0) (nil-of d.hand (and_parts _ _ (and_parts _ _ can).0).1) h

  -- ---- Do

  -- where the desk stands behind Do, by what is known there
  module _ (d d' : Desk) (m m' : Moment) (v v' : Watch) (r r' : NodeId → NodeId) (known : Known r (page_left d) d m v) (known' : Known r' (page_left d') d' m' v') (seen : Watches e w m v m' v') where
    abbrev Counted : Type 0
    Counted = CountsIn d'.phase d'.realm d'.own.side m' v'

    -- ---- with a script in hand

    -- as much of the page is left
    decides : (held : Parser) (p : Parser) (c : Verdict) (t : Serial) → v.after_tag ≡ Some p → v.page_left ≡ length (page_left d) → Realms 1 d.realm v → d' ≡ decided c held t d → Counted
    decides held p Keep t after left counts is =
        let at_free : d'.phase ≡ free = ap (λ (z : Desk). z.phase) is in
        let here = subst (λ f. InWatch f r' (page_left d') v') at_free known'.watch in
        let page : page_left d' ≡ page_left d = ap page_left is in
        let same : v.page_left ≡ v'.page_left = left ∙ (ap (λ (z : List ℕ). length z) (sym page) ∙ sym here.0) in
        let judgement : InPlace (Some p) None v v' = subst (λ o. InPlace (Some p) o v v') here.1 (some-in_hand e w m m' v v' p seen after same) in
        let epoch : d'.epoch ≡ d.epoch = ap (λ (z : Desk). z.epoch) is in
        let realm : d'.realm ≡ d.realm = ap (λ (z : Desk). z.realm) is in
        subst (λ f. CountsIn f d'.realm d'.own.side m' v') (sym at_free) (by judgement.0 judgement.1 epoch realm)
      where
        by : (c : Verdict) → v' ≡ judged c v → d'.epoch ≡ d.epoch → d'.realm ≡ d.realm → Realms 0 d'.realm v'
        by Keep j epoch realm =
            let kept : v'.kept ≡ suc v.kept = ap (λ (z : Watch). z.kept) j in
            let failed : v'.failed ≡ v.failed = ap (λ (z : Watch). z.failed) j in
            omega (arith, kept, failed, realm, counts)
        by Rewind j epoch realm = let failed : v'.failed ≡ suc v.failed = ap (λ (z : Watch). z.failed) j in absurd (omega (arith, failed, epoch, known.failed, known'.failed))
    decides held p Rewind t after left counts is =
        let at_free : d'.phase ≡ free = ap (λ (z : Desk). z.phase) is in
        let here = subst (λ f. InWatch f r' (page_left d') v') at_free known'.watch in
        let page : page_left d' ≡ page_left d = ap page_left is ∙ again-text (d.left ∷ d.asked) d.to_send in
        let same : v.page_left ≡ v'.page_left = left ∙ (ap (λ (z : List ℕ). length z) (sym page) ∙ sym here.0) in
        let judgement : InPlace (Some p) None v v' = subst (λ o. InPlace (Some p) o v v') here.1 (some-in_hand e w m m' v v' p seen after same) in
        let epoch : d'.epoch ≡ suc d.epoch = ap (λ (z : Desk). z.epoch) is in
        let realm : d'.realm ≡ suc d.realm = ap (λ (z : Desk). z.realm) is in
        subst (λ f. CountsIn f d'.realm d'.own.side m' v') (sym at_free) (by judgement.0 judgement.1 epoch realm)
      where
        by : (c : Verdict) → v' ≡ judged c v → d'.epoch ≡ suc d.epoch → d'.realm ≡ suc d.realm → Realms 0 d'.realm v'
        by Keep j epoch realm = let failed : v'.failed ≡ v.failed = ap (λ (z : Watch). z.failed) j in absurd (omega (arith, failed, epoch, known.failed, known'.failed))
        by Rewind j epoch realm =
            let kept : v'.kept ≡ v.kept = ap (λ (z : Watch). z.kept) j in
            let failed : v'.failed ≡ suc v.failed = ap (λ (z : Watch). z.failed) j in
            omega (arith, kept, failed, realm, counts)

    concludes : (held p : Parser) (own : Moment) → v.after_tag ≡ Some p → v.page_left ≡ length (page_left d) → Realms 1 d.realm v → HasNotFinished own → Concludes held own d d' → Counted
    concludes held p (reading t) after left counts open_ (c, verdict, is) = decides held p c t after left counts is
    concludes held p (tag_ended i t) after left counts open_ is = absurd is
    concludes held p (awaits name t) after left counts open_ is =
        let at_wait : d'.phase ≡ waits name held = ap (λ (z : Desk). z.phase) is in
        let here : InHand r' (page_left d') held v' = subst (λ f. InWatch f r' (page_left d') v') at_wait known'.watch in
        let same : v.page_left ≡ v'.page_left = left ∙ (ap (λ (z : Desk). length (page_left z)) (sym is) ∙ sym here.1) in
        let all : v' ≡ v = subst (λ o. InPlace (Some p) o v v') here.2 (some-in_hand e w m m' v v' p seen after same) in
        let realm : d'.realm ≡ d.realm = ap (λ (z : Desk). z.realm) is in
        subst (λ f. CountsIn f d'.realm d'.own.side m' v') (sym at_wait) (subst (λ z. Realms 1 d'.realm z) (sym all) (realm ∙ counts))
    concludes held p (over o) after left counts open_ is = by o.result refl
      where
        by : (x : Result) → o.result ≡ x → Counted
        by finished q = absurd (open_ q)
        by (refused y) q = subst (λ f. CountsIn f d'.realm d'.own.side m' v') (sym (ap (λ (z : Desk). z.phase) is ∙ ap done q)) tt

    in-hand : (held : Parser) (own : Moment) → InHand r (page_left d) held v → Realms 1 d.realm v → ((to : Moment) → Settles w own to → HasNotFinished to) → RunsOn w held own d d' → Counted
    in-hand held own (p, left, after, is) counts open_ (to, settles, concluded) = concludes held p to after left counts (open_ to settles) concluded

    -- ---- with no script in hand: a batch of text

    module _ (own_free : d.phase ≡ free) (counts : Realms 0 d.realm v) where
      rest-in_watch : InWatch free r (page_left d) v
      rest-in_watch = subst (λ f. InWatch f r (page_left d) v) own_free known.watch

      from : Reads r (page_left d) m d.own
      from = reads r (page_left d) m d.own (subst (λ f. AreAlike r (page_left d) m (own_moment f d.own)) own_free known.alike) (subst (λ f. InPhase f r d.own.input d.realm) own_free known.in_phase)

      module _ (b : Batch) (bs : List Batch) (t : IsText w.entities d.own.parser d.left b bs) (is : d' ≡ executes (b ∷ bs) d) where
        abbrev es : Entities
        es = w.entities

        abbrev s : Serial
        s = from.s

        abbrev q : Parsed
        q = parse es s.parser b.text

        abbrev tail : List ℕ
        tail = text_of (d.asked ++ d.to_send)

        abbrev rest : List ℕ
        rest = t.rest ++ tail

        abbrev s1 : Serial
        s1 = with_input (page_left d) s

        abbrev d1 : Desk
        d1 = with_executed b bs d

        page : page_left d ≡ b.text ++ rest
        page = ap (λ x. x ++ tail) t.text ∙ append_assoc b.text t.rest tail

        left : drop (length b.text) d.left.text ≡ t.rest
        left = ap (drop (length b.text)) t.text ∙ drop_at b.text t.rest (length b.text) refl

        -- what is left of the page behind the batch
        page-behind : page_left d1 ≡ rest
        page-behind = ap (λ x. x ++ tail) left

        own-parsed : parse es d.own.parser b.text ≡ rename_parsed r q
        own-parsed = ap (λ (o : Serial). parse es o.parser b.text) from.is ∙ texts-renamed r es s.parser b.text from.okay.renames

        b-is : b ≡ text_batch d.own.parser b.text (rename_parsed r q)
        b-is = t.parsed ∙ ap (text_batch d.own.parser b.text) own-parsed

        used : drop q.used b.text ≡ []
        used = ap (λ (z : Parsed). drop z.used b.text) (sym own-parsed) ∙ t.used

        halt-is : b.halt ≡ at (rename_stop r q.stop)
        halt-is = ap (λ (z : Batch). z.halt) b-is

        desk-is : d' ≡ behind_halt (at (rename_stop r q.stop)) d1
        desk-is = is ∙ ap (λ h. behind_halt h d1) halt-is

        abbrev doc : Doc
        doc = acts s.side.doc q.ops

        -- the moment behind the batch
        abbrev there : Stop → Moment
        there x = moment_at s1 q.parser doc rest x

        comes : (u : Watch) × Watches e w m v (there q.stop) u × IsWatch e w v (there q.stop) u
        comes =
            let c = watches-batch e w s1 b.text rest v page in
            let i : (v.page_left ≡ length (page_left d)) × (v.after_tag ≡ None) = rest-in_watch in
            let idle : v ≡ at_left e w (length (page_left d)) v = ap (λ n. record v { page_left = n }) i.0 ∙ ap (λ o. record v { page_left = length (page_left d); after_tag = o }) i.1 in
            let all : moment_behind s1 b.text rest q ≡ there q.stop = ap (λ z. moment_at s1 q.parser doc (z ++ rest) q.stop) used in
            let way : Watches e w m v (moment_behind s1 b.text rest q) c.0 = subst (λ u. Watches e w m u (moment_behind s1 b.text rest q) c.0) (sym idle) (subst (λ a. Watches e w a (at_left e w (length (page_left d)) v) (moment_behind s1 b.text rest q) c.0) (sym from.moment) c.1) in
            (c.0, subst (λ a. Watches e w m v a c.0) all way, subst (λ a. IsWatch e w v a c.0) all c.2)

        own-doc : d1.own.side.doc ≡ acts from.doc (rename_ops r q.ops)
        own-doc = ap (λ (z : Batch). acts d.own.side.doc z.ops) b-is ∙ ap (λ (z : Serial). acts z.side.doc (rename_ops r q.ops)) from.is

        -- whether the script runs is the same
        same-run : (i : NodeId) → runs (prepared (r i) d1.own) ≡ runs (prepared i (taken q.parser doc rest s1))
        same-run i =
            ap (λ (z : Doc). runs (prepare z.tree (node_of z.bound (r i)))) own-doc
            ∙ ap runs (prepared-same r rest i (taken q.parser doc rest s1) (acts from.doc (rename_ops r q.ops)) (okay-parse r es s.parser s.side.doc from.doc b.text from.okay))

        tag-counts : (i : NodeId) (u : Watch) (run : Bool) → Watches e w m v (tag_ended i (taken q.parser doc rest s1)) u →
            u ≡ at_tag true run (length rest) q.parser (at_left e w (suc (length rest)) v) → d' ≡ at_end_tag run (r i) d1 → Counted
        tag-counts i u true way u-is desk =
            let at_tag_ : d'.phase ≡ tagged (r i) d1.own.parser = ap (λ (z : Desk). z.phase) desk in
            let here : InHand r' (page_left d') d1.own.parser v' = subst (λ f. InWatch f r' (page_left d') v') at_tag_ known'.watch in
            let left_here : u.page_left ≡ v'.page_left = ap (λ (z : Watch). z.page_left) u-is ∙ (ap (λ (z : List ℕ). length z) (sym (ap page_left desk ∙ page-behind)) ∙ sym here.1) in
            let same : v' ≡ u = same-with_some e w m (tag_ended i (taken q.parser doc rest s1)) m' v u v' q.parser here.0 way seen left_here (ap (λ (z : Watch). z.after_tag) u-is) here.2 in
            let kept : v'.kept ≡ v.kept = ap (λ (z : Watch). z.kept) same ∙ ap (λ (z : Watch). z.kept) u-is in
            let failed : v'.failed ≡ v.failed = ap (λ (z : Watch). z.failed) same ∙ ap (λ (z : Watch). z.failed) u-is in
            let realm : d'.realm ≡ suc d.realm = ap (λ (z : Desk). z.realm) desk in
            let more : Realms 1 d'.realm v' = omega (arith, kept, failed, realm, counts) in
            subst (λ f. CountsIn f d'.realm d'.own.side m' v') (sym at_tag_) more
        tag-counts i u false way u-is desk =
            let at_free : d'.phase ≡ free = ap (λ (z : Desk). z.phase) desk ∙ own_free in
            let here = subst (λ f. InWatch f r' (page_left d') v') at_free known'.watch in
            let left_here : u.page_left ≡ v'.page_left = ap (λ (z : Watch). z.page_left) u-is ∙ (ap (λ (z : List ℕ). length z) (sym (ap page_left desk ∙ page-behind)) ∙ sym here.0) in
            let same : v' ≡ u = same-with_none e w m (tag_ended i (taken q.parser doc rest s1)) m' v u v' way seen left_here (ap (λ (z : Watch). z.after_tag) u-is) here.1 in
            let kept : v'.kept ≡ v.kept = ap (λ (z : Watch). z.kept) same ∙ ap (λ (z : Watch). z.kept) u-is in
            let failed : v'.failed ≡ v.failed = ap (λ (z : Watch). z.failed) same ∙ ap (λ (z : Watch). z.failed) u-is in
            let realm : d'.realm ≡ d.realm = ap (λ (z : Desk). z.realm) desk in
            let more : Realms 0 d'.realm v' = omega (arith, kept, failed, realm, counts) in
            subst (λ f. CountsIn f d'.realm d'.own.side m' v') (sym at_free) more

        behind : (x : Stop) (u : Watch) → Watches e w m v (there x) u → IsWatch e w v (there x) u → d' ≡ behind_halt (at (rename_stop r x)) d1 → Counted
        behind stop.InputEnd u way u-is desk =
            let at_free : d'.phase ≡ free = ap (λ (z : Desk). z.phase) desk ∙ own_free in
            let here = subst (λ f. InWatch f r' (page_left d') v') at_free known'.watch in
            let left_here : u.page_left ≡ v'.page_left = ap (λ (z : Watch). z.page_left) u-is ∙ (ap (λ (z : List ℕ). length z) (sym (ap page_left desk ∙ page-behind)) ∙ sym here.0) in
            let same : v' ≡ u = same-with_none e w m (there stop.InputEnd) m' v u v' way seen left_here (ap (λ (z : Watch). z.after_tag) u-is) here.1 in
            let kept : v'.kept ≡ v.kept = ap (λ (z : Watch). z.kept) same ∙ ap (λ (z : Watch). z.kept) u-is in
            let failed : v'.failed ≡ v.failed = ap (λ (z : Watch). z.failed) same ∙ ap (λ (z : Watch). z.failed) u-is in
            let realm : d'.realm ≡ d.realm = ap (λ (z : Desk). z.realm) desk in
            let more : Realms 0 d'.realm v' = omega (arith, kept, failed, realm, counts) in
            subst (λ f. CountsIn f d'.realm d'.own.side m' v') (sym at_free) more
        behind (stop.Script i) u way u-is desk =
            tag-counts i u (runs (prepared i (taken q.parser doc rest s1))) way u-is (desk ∙ ap (λ k. at_end_tag k (r i) d1) (same-run i))
        behind stop.Deep u way u-is desk = subst (λ f. CountsIn f d'.realm d'.own.side m' v') (sym (ap (λ (z : Desk). z.phase) desk)) tt

        text-counts : Counted
        text-counts = behind q.stop comes.0 comes.1 comes.2 desk-is

      -- ---- the batch of the page's ending

      module _ (b : Batch) (bs : List Batch) (is : d' ≡ executes (b ∷ bs) d) (nothing : page_left d ≡ []) where
        abbrev last : Serial
        last = with_input [] from.s

        abbrev d2 : Desk
        d2 = with_executed b bs d

        refused-counts : (x : Halt) → b.halt ≡ x → ((d3 : Desk) → (y : _) × ((behind_halt x d3).phase ≡ done (refused y))) → Counted
        refused-counts x h each =
            subst (λ f. CountsIn f d'.realm d'.own.side m' v') (sym (ap (λ (z : Desk). z.phase) is ∙ (ap (λ k. (behind_halt k d2).phase) h ∙ (each d2).1))) tt

        at-end_ : m ≡ reading last
        at-end_ = from.moment ∙ ap (λ t. reading (with_input t from.s)) nothing

        -- the last moment, with nothing more known
        ends : e ≡ ending.End → Watches e w m v (over (ended w.entities e last)) v
        unfolding moment_after
        ends end = watches-next e w m m (over (ended w.entities e last)) v v v 0 (stays m v) (ap (λ a. moment_after 0 e w a) at-end_) refl

        one-end : (o : Outcome) → Watches e w m v (over o) v → (u : Outcome) × (m' ≡ over u) → (m' ≡ over o) × (v' ≡ v)
        one-end o way (u, q) = by (one-goes_on e w m (over o) m' v v v' way seen)
          where
            by : OneGoesOn e w (over o) v m' v' → (m' ≡ over o) × (v' ≡ v)
            by (inl on) = over-stays e w (over o) m' o v v' refl on
            by (inr on) = let back = over-stays e w m' (over o) u v' v q on in (q ∙ sym back.0, sym back.1)

        counted-end : (f : Finished) (o : Outcome) → o ≡ at_end last f → (o.last.side.written ≡ last.side.written) × (o.last.side.executed ≡ last.side.executed)
        counted-end f o q = by f.finish (q ∙ refl)
          where
            by : (x : Finish) → o ≡ at_end last (record f { finish = x }) → (o.last.side.written ≡ last.side.written) × (o.last.side.executed ≡ last.side.executed)
            by finale.Finished q = (ap (λ (z : Outcome). z.last.side.written) q, ap (λ (z : Outcome). z.last.side.executed) q)
            by finale.Deep q = (ap (λ (z : Outcome). z.last.side.written) q, ap (λ (z : Outcome). z.last.side.executed) q)

        finished-counts : e ≡ ending.End → b.halt ≡ over_with finished → Counted
        finished-counts end h =
            let desk : d' ≡ behind_halt (over_with finished) d2 = is ∙ ap (λ k. behind_halt k d2) h in
            let at_done : d'.phase ≡ done finished = ap (λ (z : Desk). z.phase) desk in
            let o : Outcome = ended w.entities e last in
            let there : AreAlike r' (page_left d') m' (own_moment (done finished) d'.own) = subst (λ f. AreAlike r' (page_left d') m' (own_moment f d'.own)) at_done known'.alike in
            let one = one-end o (ends end) (there.0, there.1) in
            let same = counted-end (finish w.entities last.parser) o (ap (λ x. ended w.entities x last) end) in
            let written : d'.own.side.written ≡ o.last.side.written = ap (λ (z : Desk). z.own.side.written) desk ∙ (ap (λ (z : Serial). z.side.written) from.is ∙ sym same.0) in
            let executed : d'.own.side.executed ≡ o.last.side.executed = ap (λ (z : Desk). z.own.side.executed) desk ∙ (ap (λ (z : Serial). z.side.executed) from.is ∙ sym same.1) in
            let realm : d'.realm ≡ d.realm = ap (λ (z : Desk). z.realm) desk in
            subst (λ f. CountsIn f d'.realm d'.own.side m' v') (sym at_done) (subst (λ z. Realms 0 d'.realm z) (sym one.1) (realm ∙ counts), (o, one.0, written, executed))

        by-finish : (x : Finish) → e ≡ ending.End → b.halt ≡ over_with (result_at x) → Counted
        by-finish finale.Finished end h = finished-counts end h
        by-finish finale.Deep end h = refused-counts (over_with (refused why.Depth)) h (λ d3. (_, refl))

        by-ending : (x : Ending) → e ≡ x → b ≡ end_batch w.entities d.own.parser x → Counted
        by-ending ending.End end q = by-finish (finish w.entities d.own.parser).finish end (ap (λ (z : Batch). z.halt) q)
        by-ending ending.Bad end q = refused-counts _ (ap (λ (z : Batch). z.halt) q) (λ d3. (_, refl))
        by-ending ending.Long end q = refused-counts _ (ap (λ (z : Batch). z.halt) q) (λ d3. (_, refl))
        by-ending ending.Fault end q = refused-counts _ (ap (λ (z : Batch). z.halt) q) (λ d3. (_, refl))

      ending-counts : (b : Batch) (bs : List Batch) → d' ≡ executes (b ∷ bs) d → Piped w.entities e d.own.parser d → IsLast w.entities d.own.parser d.left b bs → Counted
      ending-counts b bs is p t =
          let tail : List ℕ = text_of (d.asked ++ d.to_send) in
          let only : (t.ending ≡ e) × (d.asked ++ d.to_send ≡ []) = last-piece d.left.ending (d.asked ++ d.to_send) e t.ending t.carries p.pieces in
          let nothing : page_left d ≡ [] = ap (λ x. x ++ tail) t.text ∙ ap text_of only.1 in
          by-ending b bs is nothing e refl (t.is ∙ ap (end_batch w.entities d.own.parser) only.0)

      executes-counts : (bs : List Batch) → d.hand ≡ bs → is_empty bs ≡ false → Piped w.entities e d.own.parser d → d' ≡ executes bs d → Counted
      executes-counts [] hand some p is = absurd (true≢false some)
      executes-counts (b ∷ bs) hand some p is = elim (first-batch w.entities d.own.parser d.left b bs (sym hand ∙ p.hand)) [
        | inl t ↦ text-counts b bs t is
        | inr t ↦ ending-counts b bs is p t
      ]

    -- ---- by what is in hand

    does-counts : (p : Phase) → d.phase ≡ p → IsTrue (can_do_in p d) → Pipe w.entities e p d → CountsIn p d.realm d.own.side m v → DoesIn w p d d' → Counted
    does-counts free q can pipe counts is = executes-counts q counts d.hand refl (by d.hand can) pipe is
      where
        by : (bs : List Batch) → not (is_empty bs) ≡ true → is_empty bs ≡ false
        by [] h = absurd (true≢false (sym h))
        by (b ∷ bs) h = refl
    does-counts (tagged i held) q can pipe counts is =
        in-hand held (tag_ended i d.own) (subst (λ f. InWatch f r (page_left d) v) q known.watch) counts (λ to h. tag-settles_open w (tag_ended i d.own) to refl h) is
    does-counts (waits name held) q can pipe counts is =
        in-hand held (awaits name d.own) (subst (λ f. InWatch f r (page_left d) v) q known.watch) counts (λ to h. awaited-settles_open w name d.own to h) is
    does-counts (done x) q can pipe counts is = absurd is

  does-stand : (ahead : ℕ) (d d' : Desk) → Moves ahead w Do d d' → Tallied d → Stands (page_left d') d'
  does-stand ahead d d' moves h =
      let (m, v, r, seen, known, counts) = h.stood in
      let from : Holding e w m v d = record { stood = (m, v, r, stays m v, known); pipe = h.pipe } in
      let (m', v', r', on, known') = (moves-hold e w m v ahead Do d d' moves from).stood in
      (m', v', r', watches-then e w m0 m m' v0 v v' seen on, known', does-counts d d' m m' v v' r r' known known' on d.phase refl moves.0 h.pipe counts moves.1)

  -- ---- events

  moves-stand : (ahead : ℕ) (v : Event) (d d' : Desk) → Moves ahead w v d d' → Tallied d → Stands (page_left d') d'
  moves-stand ahead Send d d' (can, is) h = subst (λ z. Stands (page_left z) z) (sym is) (sends-stand d d.to_send refl h.stood)
  moves-stand ahead Pick d d' moves h = absurd moves
  moves-stand ahead Give d d' moves h = absurd moves
  moves-stand ahead Take d d' (can, is) h = subst (λ z. Stands (page_left z) z) (sym is) (takes-stand d can h)
  moves-stand ahead Do d d' moves h = does-stand ahead d d' moves h
  moves-stand ahead (Arrive name) d d' (can, is) h =
      subst (λ z. Stands (page_left z) z) (sym is) (stands-with (page_left d) (page_left d) d d.hand d.left d.asked d.to_send d.begins d.sent d.taken d.dropped (name ∷ d.arrived) refl h.stood)

  moves-by-tally : (ahead : ℕ) (vs : List Event) (d d' : Desk) → MovesBy ahead w vs d d' → Tallied d → Tallied d'
  moves-by-tally ahead [] d d' is h = subst Tallied (sym is) h
  moves-by-tally ahead (v ∷ vs) d d' (d1, moves, rest) h =
      moves-by-tally ahead vs d1 d' rest (record { stood = moves-stand ahead v d d1 moves h; pipe = pipe-on ahead v d d1 moves h })

-- ---- the law

module _ (x : Setup) where
  abbrev from0 : Moment
  from0 = reading (first (whole_page x))

  abbrev seen0 : Watch
  seen0 = first_watch (whole_page x)

  abbrev desk0 : Desk
  desk0 = first_desk (pieces_with x.pieces (Some x.ending))

  first-tallied : Tallied x.ending x.world from0 seen0 desk0
  first-tallied =
      let (m, v, r, seen, known) = (first-holds x).stood in
      let left : seen0.page_left ≡ v.page_left = ap (λ (t : List ℕ). length t) (sym (page-text x.pieces x.ending)) ∙ sym known.watch.0 in
      let same : v ≡ seen0 = none-in_hand x.ending x.world from0 m seen0 v seen refl left in
      record { stood = (m, v, r, seen, known, subst (λ z. Realms 0 1 z) (sym same) refl); pipe = (first-holds x).pipe }

pub tallies-as-serial : TalliesAsSerial
tallies-as-serial x vs d o h q is =
    let from : Moment = from0 x in
    let known0 : Watch = seen0 x in
    let (m, v, r, seen, known, counts) = (moves-by-tally x.ending x.world from known0 x.ahead vs (desk0 x) d h (first-tallied x)).stood in
    let (realms, (o', at_end_, written, executed)) = subst (λ p. CountsIn p d.realm d.own.side m v) q counts in
    let passes : Passes (whole_page x) x.world (over o') = subst (Passes (whole_page x) x.world) at_end_ (watches-lead x.ending x.world from m known0 v seen) in
    let one : o' ≡ o = one_outcome (whole_page x) x.world o' o (passes-over (whole_page x) x.world o' passes) is in
    record {
      watch = v;
      verdicts = (o', subst (λ z. Watches x.ending x.world from known0 z v) at_end_ seen);
      epochs = sym known.failed;
      realms = omega (arith, realms);
      written = written ∙ ap (λ (z : Outcome). z.last.side.written) one;
      executed = executed ∙ ap (λ (z : Outcome). z.last.side.executed) one;
    }
