-- The document's side stands for moments of the serial parse, from the first on.
use Rattle.std.proofs.Common.{◌≡◌, true≢false, ℕ, true, List, [], ◌∷◌, ◌++◌, length, Some, refl, subst, sym, ◌∙◌, ap, arith}
use Rattle.std.proofs.lemmas.Bool.{and_parts}
use Rattle.std.specs.Prelude.{not}
use Rattle.html_types.specs.declared.operation.NodeId.{NodeId}
use Rattle.standard.specs.Act.{Doc, new_doc}
use Rattle.standard.specs.Parser.{new_parser}
use Rattle.serial.specs.Serial.{World, Serial, first, Moment, reading, tag_ended, awaits, over, Result, Outcome, Passes}
use Rattle.standard_laws.specs.Laws.{GoesOnFrom, lines_of}
use Rattle.standard_laws.proofs.Passing.{passes-over}
use Rattle.standard_laws.proofs.Fuel.{one_outcome}
use Rattle.standard_laws.proofs.Lines.{passed-lines}
use Rattle.rule_laws.proofs.FreshnessDocs.{new-serves_alone}
use Rattle.core_definitions.specs.declared.event.Event.{Event}
use Rattle.core_definitions.specs.declared.event.Event.TheVariants.{Send, Pick, Give, Take, Do, Arrive}
use Rattle.core_definitions.specs.Verdict.{Watch, first_watch, stays}
use Rattle.core_definitions.specs.Desk.{Phase, free, tagged, waits, done, Desk, first_own, first_desk, pieces_with, is_free, is_done, can_do_in, Moves}
use Rattle.core_definitions.specs.Core.{Setup, joined, whole_page}
use Rattle.core_definitions.specs.StandsFor.{Carries, CarriesMoment, own_moment, page_left, StandsFor}
use Rattle.core_laws.specs.Alike.{own_of, Okay, AreAlike}
use Rattle.core_laws.specs.DeskLaws.{IsReached, AlwaysStandsFor, EndsAsSerial, EndStays, LinesBegin, FailuresAreEpochs}
use Rattle.core_laws.proofs.Cutting.{blank-answer}
use Rattle.core_laws.proofs.Watching.{watches-lead}
use Rattle.core_laws.proofs.Known.{Known}
use Rattle.core_laws.proofs.Ledger.{page-text, page-ends}
use Rattle.core_laws.proofs.Moving.{Holding, moves-by-hold}

-- ---- what is known says what the desk stands for

carries : (r : NodeId → NodeId) (page : List ℕ) (s own : Serial) (doc : Doc) → own ≡ own_of r doc s → Okay r s.parser s.side.doc doc → Carries r page (record s { input = s.input ++ page }) own
carries r page s own doc q o = subst (λ (t : Serial). Carries r page (record s { input = s.input ++ page }) t) (sym q) (record { parser = refl; doc = o.same; input = refl; side = refl })

carries-moment : (r : NodeId → NodeId) (page : List ℕ) (m own : Moment) → AreAlike r page m own → CarriesMoment r page m own
carries-moment r page m (reading t) (s, d, p, q, o, idle) = subst (λ x. CarriesMoment r page x (reading t)) (sym p) (carries r page s t d q o)
carries-moment r page m (tag_ended j t) (i, s, d, p, g, q, o, idle) = subst (λ x. CarriesMoment r page x (tag_ended j t)) (sym p) (g, carries r page s t d q o)
carries-moment r page m (awaits name t) (s, d, p, q, o, idle) = subst (λ x. CarriesMoment r page x (awaits name t)) (sym p) (refl, carries r page s t d q o)
carries-moment r page m (over u) (o, p, res, lines, same) = subst (λ x. CarriesMoment r page x (over u)) (sym p) (res, lines, same)

stands : (r : NodeId → NodeId) (d : Desk) (m : Moment) (v : Watch) → Known r (page_left d) d m v → StandsFor d m
stands r d m v known = (r, known.names.one_to_one, carries-moment r (page_left d) m (own_moment d.phase d.own) known.alike)

-- ---- the first desk

abbrev itself : NodeId → NodeId
itself i = i

first-okay : Okay itself (new_parser 0) new_doc new_doc
first-okay = record {
  same = record { tree = refl; bound = λ i. refl };
  named = λ j b. (j, refl);
  renames = record { apart = λ a b. refl; in_order = λ k. refl };
  served = new-serves_alone 0;
  serial = refl;
}

first-known : (x : Setup) (page : List ℕ) → page ≡ joined x.pieces → Known itself page (first_desk (pieces_with x.pieces (Some x.ending))) (reading (first (whole_page x))) (first_watch (whole_page x))
first-known x page is = record {
  names = record { one_to_one = λ a b q. q; low_realms = λ i z. omega (arith, z) };
  alike = (first_own, new_doc, ap (λ t. reading (record (first (whole_page x)) { input = t })) (sym is), refl, first-okay, refl);
  in_phase = refl;
  failed = refl;
  watch = (ap (λ (t : List ℕ). length t) (sym is), refl);
}

first-page : (x : Setup) → page_left (first_desk (pieces_with x.pieces (Some x.ending))) ≡ joined x.pieces
first-page x = page-text x.pieces x.ending

pub first-holds : (x : Setup) → Holding x.ending x.world (reading (first (whole_page x))) (first_watch (whole_page x)) (first_desk (pieces_with x.pieces (Some x.ending)))
first-holds x = record {
  stood = (
    reading (first (whole_page x)),
    first_watch (whole_page x),
    itself,
    stays (reading (first (whole_page x))) (first_watch (whole_page x)),
    first-known x (page_left (first_desk (pieces_with x.pieces (Some x.ending)))) (first-page x),
  );
  pipe = record { hand = blank-answer x.world.entities (new_parser 0); pieces = page-ends x.pieces x.ending };
}

reached-holds : (x : Setup) (vs : List Event) (d : Desk) → IsReached x vs d → Holding x.ending x.world (reading (first (whole_page x))) (first_watch (whole_page x)) d
reached-holds x vs d h = moves-by-hold x.ending x.world (reading (first (whole_page x))) (first_watch (whole_page x)) x.ahead vs (first_desk (pieces_with x.pieces (Some x.ending))) d h (first-holds x)

-- ---- the laws

pub always-stands_for : AlwaysStandsFor
always-stands_for x vs us d d' h g =
    let a = reached-holds x vs d h in
    let (m, v, r, seen, known) = a.stood in
    let from : Holding x.ending x.world m v d = record { stood = (m, v, r, stays m v, known); pipe = a.pipe } in
    let b = moves-by-hold x.ending x.world m v x.ahead us d d' g from in
    let (m', v', r', seen', known') = b.stood in (
      m,
      m',
      watches-lead x.ending x.world (reading (first (whole_page x))) m (first_watch (whole_page x)) v seen,
      stands r d m v known,
      watches-lead x.ending x.world m m' v v' seen',
      stands r' d' m' v' known',
    )

pub ends-as-serial : EndsAsSerial
ends-as-serial x vs d res o h q is =
    let (m, v, r, seen, known) = (reached-holds x vs d h).stood in
    let alike : AreAlike r (page_left d) m (over (record { result = res; last = d.own })) = subst (λ p. AreAlike r (page_left d) m (own_moment p d.own)) q known.alike in
    by m alike (watches-lead x.ending x.world (reading (first (whole_page x))) m (first_watch (whole_page x)) v seen)
  where
    by : {r : NodeId → NodeId} (m : Moment) → AreAlike r (page_left d) m (over (record { result = res; last = d.own })) → Passes (whole_page x) x.world m →
        (res ≡ o.result) × (d.own.side.lines ≡ o.last.side.lines) × (d.own.side.doc.tree ≡ o.last.side.doc.tree)
    by m (u, p, same, lines, docs) passes =
        let one : u ≡ o = one_outcome (whole_page x) x.world u o (passes-over (whole_page x) x.world u (subst (Passes (whole_page x) x.world) p passes)) is in
        (same ∙ ap (λ (y : Outcome). y.result) one, lines ∙ ap (λ (y : Outcome). y.last.side.lines) one, docs.tree ∙ ap (λ (y : Outcome). y.last.side.doc.tree) one)

own-lines : (r : NodeId → NodeId) (page : List ℕ) (p : Phase) (own : Serial) (m : Moment) → AreAlike r page m (own_moment p own) → own.side.lines ≡ lines_of m
own-lines r page free own m (s, d, p, q, o, idle) = ap (λ (t : Serial). t.side.lines) q ∙ ap lines_of (sym p)
own-lines r page (tagged j held) own m (i, s, d, p, g, q, o, idle) = ap (λ (t : Serial). t.side.lines) q ∙ ap lines_of (sym p)
own-lines r page (waits name held) own m (s, d, p, q, o, idle) = ap (λ (t : Serial). t.side.lines) q ∙ ap lines_of (sym p)
own-lines r page (done x) own m (u, p, res, lines, same) = lines ∙ ap lines_of (sym p)

pub lines-begin : LinesBegin
lines-begin x vs d o h is =
    let (m, v, r, seen, known) = (reached-holds x vs d h).stood in
    let passes : Passes (whole_page x) x.world m = watches-lead x.ending x.world (reading (first (whole_page x))) m (first_watch (whole_page x)) v seen in
    subst (λ l. GoesOnFrom l o.last.side.lines) (sym (own-lines r (page_left d) d.phase d.own m known.alike)) (passed-lines (whole_page x) x.world m o passes is)

pub failures-are-epochs : FailuresAreEpochs
failures-are-epochs x vs d h =
    let (m, v, r, seen, known) = (reached-holds x vs d h).stood in
    (m, v, seen, stands r d m v known, known.failed)

-- ---- the end stays

module _ (ahead : ℕ) (w : World) (r : Result) where
  free-not-done : (p : Phase) → p ≡ done r → is_free p ≡ true → ⊥
  free-not-done free q h = true≢false (ap is_free q)
  free-not-done (tagged i held) q h = true≢false (sym h)
  free-not-done (waits name held) q h = true≢false (sym h)
  free-not-done (done x) q h = true≢false (sym h)

  stays-by : (v : Event) (d d' : Desk) → d.phase ≡ done r → Moves ahead w v d d' → (d'.phase ≡ done r) × (d'.own ≡ d.own)
  stays-by Send d d' q (can, is) = absurd (true≢false (sym (and_parts _ _ (and_parts _ _ can).0).0 ∙ ap (λ p. not (is_done p)) q))
  stays-by Pick d d' q m = absurd m
  stays-by Give d d' q m = absurd m
  stays-by Take d d' q (can, is) = absurd (free-not-done d.phase q (and_parts _ _ (and_parts _ _ can).0).0)
  stays-by Do d d' q (can, does) = absurd (true≢false (sym can ∙ ap (λ p. can_do_in p d) q))
  stays-by (Arrive name) d d' q (can, is) = (ap (λ (x : Desk). x.phase) is ∙ q, ap (λ (x : Desk). x.own) is)

pub end-stays : EndStays
end-stays ahead w [] d d' r q is = (ap (λ (x : Desk). x.phase) is ∙ q, ap (λ (x : Desk). x.own) is)
end-stays ahead w (v ∷ us) d d' r q (d1, moves, rest) =
    let one = stays-by ahead w r v d d1 q moves in
    let more = end-stays ahead w us d1 d' r one.0 rest in
    (more.0, more.1 ∙ one.1)
