-- A batch is executed, one that was made ahead or one that is parsed here.
use Rattle.std.proofs.Common.{◌≡◌, ◌≤◌, ◌+◌, ℕ, Bool, true, false, List, [], ◌∷◌, ◌++◌, length, take, drop, Option, Some, None, refl, sym, ◌∙◌, ap, subst, arith, length-append, length-take}
use Rattle.std.specs.Str.{chars, IsUtf8, IsCharBoundary}
use Rattle.std.proofs.lemmas.Str.{IsUtf8-take, chars-append}
use Rattle.std.proofs.lemmas.List.{take-append-drop}
use Rattle.html_types.specs.declared.instruction.Stop.{Stop}
use Rattle.html_types.specs.declared.instruction.Stop.TheVariants as stop
use Rattle.html_types.specs.declared.ending.Ending.{Ending}
use Rattle.standard.specs.Act.{Doc, acts, is_bound}
use Rattle.standard.specs.Entities.{Entities}
use Rattle.standard.specs.Parser.{Parser, Parsed, parse}
use Rattle.core_definitions.specs.Batches.{Piece, Batch, Halt, at, end_batch, answer, over_with}
use Rattle.core_definitions.specs.Settling.{is_empty}
use Rattle.core_laws.proofs.Cutting.{GoesOn}
use Rattle.moment_laws.specs.Served.{IsRoomy}
use Rattle.parse_machine.specs.declared.end.End.{End}
use Rattle.parse_machine.specs.declared.machine.Ran.{Ran}
use Rattle.parse_machine.specs.Ends.{result_of}
use Rattle.write_parser.specs.Writing.{View, Parses, Finishes}
use Rattle.speculation.specs.declared.batch.Halt as code
use Rattle.speculation.specs.declared.batch.Halt.TheVariants as halt
use Rattle.speculation.specs.Halting.{halt_of}
use Rattle.core_steps.specs.declared.side.Side.{Side}
use Rattle.core_steps.specs.Sides.{AreAhead, IsFree, IsPlaced}
use Rattle.core_steps.specs.Acting.{used_up, IsFront, UsedUp, behind_first, free_hand, IsHaltBound, Executed}
use Rattle.core_steps.proofs.Hands.{batch_of, first-of-text, ending-alone, no-text, IsServed, IsNext, next-of, rest-of-text}

goes-map : (h : Halt) (C D : Type 0) → (C → D) → GoesOn h C → GoesOn h D
goes-map (at stop.InputEnd) C D f c = f c
goes-map (at (stop.Script i)) C D f c = f c
goes-map (at stop.Deep) C D f c = tt
goes-map (over_with w) C D f c = tt

-- the parser stands behind the batch, and its operations are done
abbrev pub behind : Batch → Side → Side
behind b s = record s { writer = record s.writer { parser = b.after; doc = acts s.writer.doc b.ops } }

pub executed-from : (old new : Side) (h : code.Halt) (b : Batch) (bs : List Batch) (rest : List ℕ) (place : ℕ) (n : IsNext old.table old.writer.parser old.ledger.left b bs) → free_hand old ≡ b ∷ bs → halt_of h ≡ b.halt →
    IsFree old.counts.realm old.writer → AreAhead old.ready bs → rest ≡ n.rest → new ≡ used_up rest place (behind b old) → IsPlaced new.counts.place new.counts.sent_to new.ledger new.journal → Executed old h new
executed-from old new h b bs rest place n hand halts free ahead is m placed =
    let served : IsServed old.counts.realm old.writer.doc b = n.serves old.counts.realm old.writer.doc free.room in
    let now : free_hand new ≡ (answer old.table (Some b.after) (record old.ledger.left { text = n.rest })).batches =
    ap free_hand m ∙ ap (λ t. (answer old.table (Some b.after) (record old.ledger.left { text = t })).batches) is in
    let more : GoesOn b.halt (bs ≡ free_hand new) = goes-map b.halt (bs ≡ (answer old.table (Some b.after) (record old.ledger.left { text = n.rest })).batches) (bs ≡ free_hand new) (λ e. e ∙ sym now) n.more in
    let ready : new.ready ≡ old.ready = ap (λ (z : Side). z.ready) m in
    record {
      batch = b;
      behind = bs;
      hand = hand;
      halt = halts;
      rest = rest;
      text = n.text ∙ ap (λ t. b.text ++ t) (sym is);
      place = place;
      is = m ∙ ap (λ r. record (used_up rest place (behind b old)) { ready = r }) (sym ready);
      more = more;
      some = n.some;
      ahead = goes-map b.halt (bs ≡ free_hand new) (AreAhead new.ready (free_hand new)) (λ e. subst (λ r. AreAhead r (free_hand new)) (sym ready) (subst (AreAhead old.ready) e ahead)) more;
      room = subst (λ (z : Side). IsRoomy old.counts.realm z.writer.parser z.writer.doc) (sym m) served.room;
      bound = subst (λ (z : Side). IsHaltBound (is_bound z.writer.doc.bound) b.halt) (sym m) served.bound;
      placed = placed;
    }

-- ---- one that was made ahead

pub ready-front : (old : Side) (b : Batch) (bs : List Batch) (bytes : ℕ) (u : List ℕ) → free_hand old ≡ b ∷ bs → IsUtf8 u → bytes ≡ length u → chars u ≡ b.text → IsFront bytes old.ledger.left.text
ready-front old b bs bytes u hand utf8 size is =
    let n = next-of old.table old.writer.parser old.ledger.left b bs hand in
    record { front = u; utf8 = utf8; size = size; rest = n.rest; is = n.text ∙ ap (λ t. t ++ n.rest) (sym is) }

pub ready-executed : (old mid new : Side) (h : code.Halt) (b : Batch) (bytes : ℕ) (u : List ℕ) → free_hand old ≡ b ∷ old.ready → halt_of h ≡ b.halt → IsFree old.counts.realm old.writer → IsUtf8 u → bytes ≡ length u → chars u ≡ b.text →
    mid ≡ behind b old → UsedUp bytes mid new → Executed old h new
ready-executed old mid new h b bytes u hand halts free utf8 size is m used =
    let n = next-of old.table old.writer.parser old.ledger.left b old.ready hand in
    let text : mid.ledger.left.text ≡ chars u ++ n.rest = ap (λ (z : Side). z.ledger.left.text) m ∙ (n.text ∙ ap (λ t. t ++ n.rest) (sym is)) in
    executed-from old new h b old.ready used.rest used.place n hand halts free (all-ahead old.ready) (used.same u n.rest utf8 size text) (used.is ∙ ap (used_up used.rest used.place) m) used.placed
  where
    all-ahead : (bs : List Batch) → AreAhead bs bs
    all-ahead [] = tt
    all-ahead (c ∷ cs) = refl

-- ---- one that is parsed here

text-front : (text : List ℕ) (used : ℕ) → IsUtf8 text → IsCharBoundary text used → used ≡ length (take used text)
text-front text used utf8 boundary =
    let l = length-take used text in
    let n : used ≤ length text = boundary.0 in
    grind (arith, l, n)

text-split : (text : List ℕ) (used : ℕ) → IsUtf8 text → IsCharBoundary text used → chars text ≡ chars (take used text) ++ chars (drop used text)
text-split text used utf8 boundary = ap chars (sym (take-append-drop used text)) ∙ chars-append (take used text) (drop used text) (IsUtf8-take text used utf8 boundary)

pub parsed-front : (left text : List ℕ) (used : ℕ) → chars text ≡ left → IsUtf8 text → IsCharBoundary text used → IsFront used left
parsed-front left text used is utf8 boundary = record {
  front = take used text;
  utf8 = IsUtf8-take text used utf8 boundary;
  size = text-front text used utf8 boundary;
  rest = chars (drop used text);
  is = sym is ∙ text-split text used utf8 boundary;
}

view-of : (old new : View) (p : Parser) (d : Doc) → new ≡ record old { parser = new.parser; doc = new.doc } → new.parser ≡ p → new.doc ≡ d → new ≡ record old { parser = p; doc = d }
view-of old new p d is q e = is ∙ (ap (λ r. record old { parser = r; doc = new.doc }) q ∙ ap (λ r. record old { parser = p; doc = r }) e)

pub parsed-executed : (old mid new : Side) (v : View) (text : List ℕ) (ran : Ran) → is_empty old.ledger.left.text ≡ false → chars text ≡ old.ledger.left.text → IsUtf8 text → Parses old.table old.writer v text ran →
    IsFree old.counts.realm old.writer → AreAhead old.ready (behind_first (free_hand old)) → mid ≡ record old { writer = v } → UsedUp ran.used mid new → Executed old (halt.At ran.stop) new
parsed-executed old mid new v text ran some is utf8 p free ahead m used =
    let es : Entities = old.table in
    let now : Parser = old.writer.parser in
    let x : Piece = old.ledger.left in
    let r : Parsed = parse es now x.text in
    let b : Batch = batch_of es now x.text in
    let first = first-of-text es now x.text x.ending some in
    let n = next-of es now x b first.0 first.1 in
    let parser : v.parser ≡ r.parser = p.parsed.parser ∙ ap (λ t. (parse es now t).parser) is in
    let doc : v.doc ≡ acts old.writer.doc r.ops = p.parsed.doc ∙ ap (λ t. acts old.writer.doc (parse es now t).ops) is in
    let view : v ≡ record old.writer { parser = r.parser; doc = acts old.writer.doc r.ops } = view-of old.writer v r.parser (acts old.writer.doc r.ops) p.others parser doc in
    let left : chars (drop ran.used text) ≡ drop r.used x.text = p.parsed.left ∙ ap (λ t. drop (parse es now t).used t) is in
    let front : mid.ledger.left.text ≡ chars (take ran.used text) ++ chars (drop ran.used text) = ap (λ (z : Side). z.ledger.left.text) m ∙ (sym is ∙ text-split text ran.used utf8 p.boundary) in
    let rest : used.rest ≡ n.rest =
    used.same (take ran.used text) (chars (drop ran.used text)) (IsUtf8-take text ran.used utf8 p.boundary) (text-front text ran.used utf8 p.boundary) front
    ∙ (left ∙ sym (rest-of-text es now x.text x.ending first.0 n)) in
    executed-from old new (halt.At ran.stop) b first.0 used.rest used.place n first.1 (ap at (p.parsed.stop ∙ ap (λ t. (parse es now t).stop) is)) free
    (subst (AreAhead old.ready) (ap behind_first first.1) ahead) rest (used.is ∙ ap (used_up used.rest used.place) (m ∙ ap (λ z. record old { writer = z }) view)) used.placed

-- ---- the page's ending

ended-from : (old new : Side) (h : code.Halt) (e : Ending) → old.ledger.left.text ≡ [] → old.ledger.left.ending ≡ Some e → halt_of h ≡ (end_batch old.table old.writer.parser e).halt → IsFree old.counts.realm old.writer →
    AreAhead old.ready (behind_first (free_hand old)) → new ≡ behind (end_batch old.table old.writer.parser e) old → IsPlaced new.counts.place new.counts.sent_to new.ledger new.journal → (end_batch old.table old.writer.parser e).text ≡ [] → Executed old h new
ended-from old new h e none carries halts free ahead m placed nothing =
    let x : Piece = old.ledger.left in
    let b : Batch = end_batch old.table old.writer.parser e in
    let hand : free_hand old ≡ b ∷ [] =
    ap (λ t. (answer old.table (Some old.writer.parser) (record x { text = t })).batches) none
    ∙ (ap (λ o. (answer old.table (Some old.writer.parser) (record { text = []; ending = o })).batches) carries ∙ ending-alone old.table old.writer.parser e) in
    let n = next-of old.table old.writer.parser x b [] hand in
    executed-from old new h b [] x.text old.counts.place n hand halts free (subst (AreAhead old.ready) (ap behind_first hand) ahead) (n.text ∙ ap (λ t. t ++ n.rest) nothing) m placed

module _ (old new : Side) (none : old.ledger.left.text ≡ []) (free : IsFree old.counts.realm old.writer) (ahead : AreAhead old.ready (behind_first (free_hand old)))
    (placed : IsPlaced old.counts.place old.counts.sent_to old.ledger old.journal) where
  placed-as : (v : View) → new ≡ record old { writer = v } → IsPlaced new.counts.place new.counts.sent_to new.ledger new.journal
  placed-as v m = subst (λ (z : Side). IsPlaced z.counts.place z.counts.sent_to z.ledger z.journal) (sym m) placed

  pub ending-executed : (v : View) (e : Ending) (end : End) (h : code.Halt) → old.ledger.left.ending ≡ Some e → Finishes old.table e old.writer v end → halt_of h ≡ over_with (result_of end) → new ≡ record old { writer = v } → Executed old h new
  ending-executed v e end h carries fin halts m =
      let b : Batch = end_batch old.table old.writer.parser e in
      ended-from old new h e none carries (halts ∙ fin.taken.answer) free ahead
      (m ∙ ap (λ z. record old { writer = z }) (view-of old.writer v b.after (acts old.writer.doc b.ops) fin.others fin.taken.parser fin.taken.doc)) (placed-as v m) (no-text old.table old.writer.parser e)
