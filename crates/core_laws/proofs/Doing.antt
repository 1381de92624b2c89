-- Do with no script in hand: a batch is executed, and the document's side stands for a later moment.
use Rattle.std.proofs.Common.{◌≡◌, ◌≢◌, ◌<◌, true≢false, ℕ, suc, ◌+◌, nat_le, Bool, true, false, List, [], ◌∷◌, ◌++◌, length, drop, Some, None, refl, subst, sym, ◌∙◌, ap, arith}
use Rattle.std.specs.Prelude.{IsTrue}
use Rattle.html_types.specs.Operations.{later}
use Rattle.html_types.specs.declared.operation.NodeId.{NodeId}
use Rattle.html_types.specs.declared.instruction.Stop.{Stop}
use Rattle.html_types.specs.declared.instruction.Stop.TheVariants as stop
use Rattle.html_types.specs.declared.instruction.Finish.{Finish}
use Rattle.html_types.specs.declared.instruction.Finish.TheVariants as finale
use Rattle.html_types.specs.declared.ending.Ending.{Ending}
use Rattle.html_types.specs.declared.ending.Ending.TheVariants as ending
use Rattle.html_types.specs.declared.ending.Why.{Why}
use Rattle.html_types.specs.declared.ending.Why.TheVariants as why
use Rattle.standard.specs.Entities.{Entities}
use Rattle.standard.specs.Act.{Doc, is_bound, acts, SameUpTo}
use Rattle.standard.specs.Parser.{Finished, finish, Parsed, parse, Parser}
use Rattle.standard.specs.Prepare.{Prepared, still, inline, external}
use Rattle.serial.specs.Serial.{World, Serial, Outcome, prepared, ended, Moment, reading, tag_ended, over, refusal, taken, after_script, unless_pending, moment_after}
use Rattle.standard_laws.specs.Laws.{moment_at, outcome_at, ScriptComesTo}
use Rattle.standard_laws.proofs.Batch.{moment_behind}
use Rattle.standard_laws.proofs.Passing.{finished-at}
use Rattle.standard_laws.proofs.Scripts.{still-script}
use Rattle.rule_laws.specs.Naming.{CameBefore, IsStopBound, rename_parser, rename_ops, rename_stop, rename_parsed, rename_finished}
use Rattle.rule_laws.proofs.FreshnessDocs.{texts-served}
use Rattle.rule_laws.proofs.FreshnessTexts.{before-follows}
use Rattle.rule_laws.proofs.RenamingTexts.{texts-renamed, ends-renamed}
use Rattle.act_laws.proofs.Renamed.{acts-renamed}
use Rattle.core_definitions.specs.Batches.{Piece, Batch, text_batch, finish_batch, refusal_batch, end_batch, at, over_with, result_at}
use Rattle.core_definitions.specs.Verdict.{Watch, runs, at_tag, Watched, Reads as WatchReads, Watches}
use Rattle.core_definitions.specs.Desk.{Phase, free, done, Desk, at_end_tag, behind_halt, executes}
use Rattle.core_laws.specs.Alike.{own_of, Okay}
use Rattle.core_laws.specs.Rebasing.{with_next, rebased, Rebases}
use Rattle.core_laws.proofs.Okay.{one-to-one, okay-parse}
use Rattle.core_laws.proofs.Framing.{prepared-same}
use Rattle.core_laws.proofs.Rebasing.{agrees, parser-agrees, every-name, states-rebase}
use Rattle.core_laws.proofs.Cutting.{IsText}
use Rattle.core_laws.proofs.Watching.{at_left, IsWatch, watches-then, watches-next, watches-batch}
use Rattle.core_laws.proofs.Known.{Names, Stood, renews, names-rebased, with_input, Reads}

still-of : (k : Prepared) → runs k ≡ false → k ≡ still
still-of still e = refl
still-of (inline t) e = absurd (true≢false e)
still-of (external n) e = absurd (true≢false e)

-- the document's side with no script in hand
abbrev pub at_rest : Desk → Serial → Desk
at_rest d own = record d { phase = free; own = own }

module _ (e : Ending) (w : World) (m0 : Moment) (v0 : Watch) where
  -- a script that doesn't run changes nothing
  still-next : (i : NodeId) (s : Serial) → s.side.pending ≡ None → runs (prepared i s) ≡ false → (n : ℕ) × (moment_after n e w (tag_ended i s) ≡ Some (reading s))
  unfolding moment_after
  still-next i s idle x =
      let c : ScriptComesTo w i s _ = still-script w i s (still-of (prepared i s) x) in
      (c.0, ap after_script c.1 ∙ ap (λ p. Some (unless_pending p s)) idle)

  -- no script is in hand, and so much of the page is left
  abbrev pub IsIdle : List ℕ → Watch → Type 0
  IsIdle page v = (v.page_left ≡ length page) × (v.after_tag ≡ None)

  idle-left : (page : List ℕ) (v : Watch) → IsIdle page v → v ≡ at_left e w (length page) v
  idle-left page v i = ap (λ n. record v { page_left = n }) i.0 ∙ ap (λ o. record v { page_left = length page; after_tag = o }) i.1

  -- ---- what the document's side then stands for

  -- between two characters
  rests : (r : NodeId → NodeId) (rest : List ℕ) (d : Desk) (s : Serial) (doc : Doc) (v : Watch) → Names r d.realm → Okay r s.parser s.side.doc doc → s.side.pending ≡ None →
      v.failed + 1 ≡ d.epoch → IsIdle rest v → Watches e w m0 v0 (reading (with_input rest s)) v → Stood e w m0 v0 rest (at_rest d (own_of r doc (with_input [] s)))
  rests r rest d s doc v names o idle f i seen = (
    reading (with_input rest s),
    v,
    r,
    seen,
    record { names = names; alike = (with_input [] s, doc, refl, refl, o, idle); in_phase = refl; failed = f; watch = i },
  )

  -- the parse is over
  ends : (r : NodeId → NodeId) (rest : List ℕ) (d : Desk) (own : Serial) (u : Outcome) (v : Watch) → Names r d.realm → own.side.lines ≡ u.last.side.lines → SameUpTo r u.last.side.doc own.side.doc →
      v.failed + 1 ≡ d.epoch → Watches e w m0 v0 (over u) v → Stood e w m0 v0 rest (record d { phase = done u.result; own = own })
  ends r rest d own u v names lines same f seen = (over u, v, r, seen, record { names = names; alike = (u, refl, refl, lines, same); in_phase = tt; failed = f; watch = tt })

  -- a script that runs is in hand
  in-hand : (r : NodeId → NodeId) (rest : List ℕ) (d : Desk) (s : Serial) (doc : Doc) (i : NodeId) (v : Watch) → Names r d.realm → Okay r s.parser s.side.doc doc → s.side.pending ≡ None →
      IsTrue (is_bound s.side.doc.bound i) → v.failed + 1 ≡ d.epoch → v.page_left ≡ length rest → v.after_tag ≡ Some s.parser → Watches e w m0 v0 (tag_ended i (with_input rest s)) v →
      Stood e w m0 v0 rest (at_end_tag true (r i) (at_rest d (own_of r doc (with_input [] s))))
  in-hand r rest d s doc i v names o idle b f long after seen =
      let n : ℕ = s.parser.open_state.next.n in
      let next : NodeId = record { realm = d.realm; n = 0 } in
      let low : ℕ = suc d.realm in
      let x : Rebases r n next low = renews r n d.realm names in
      let g : NodeId → NodeId = rebased r n next low in
      let came : (j : NodeId) → IsTrue (is_bound s.side.doc.bound j) → (j.realm ≡ 0) × (j.n < n) = λ j h. let c = o.served.coming j h in (c.0 ∙ o.serial, c.1) in
      let agree : (j : NodeId) → IsTrue (is_bound s.side.doc.bound j) → r j ≡ g j = λ j h. agrees r n next low x j (came j h).0 (came j h).1 in
      let held : Parser = rename_parser r s.parser in
      let spec : NodeId = r s.parser.open_state.next in
      let spec_low : spec.realm < d.realm = names.low_realms s.parser.open_state.next o.serial in
      let rebase : (with_next next held ≡ rename_parser g s.parser) × Okay g s.parser s.side.doc doc = states-rebase r s.parser s.side.doc doc next low o x in
      let given : (j : NodeId) → j.realm ≡ 0 → j.n < n → (k : ℕ) → r j ≢ later k spec = λ j z l k q.
      (let same : j ≡ later k s.parser.open_state.next = names.one_to_one j (later k s.parser.open_state.next) (q ∙ sym (o.renames.in_order k)) in
      let count : j.n ≡ n + k = ap (λ t. t.n) same in absurd (omega (arith, l, count))) in
      let to_come : (m k : ℕ) → later m next ≢ later k spec = λ m k q. (let z : d.realm ≡ spec.realm = ap (λ t. t.realm) q in absurd (omega (arith, spec_low, z))) in
      let elsewhere : (j : NodeId) → j.realm ≢ 0 → (k : ℕ) → record { realm = low + j.realm; n = j.n } ≢ later k spec =
      λ j other k q. (let z : low + j.realm ≡ spec.realm = ap (λ t. t.realm) q in absurd (omega (arith, spec_low, z))) in (
        tag_ended i (with_input rest s),
        v,
        g,
        seen,
        record {
          names = names-rebased r n next low x;
          alike = (i, with_input [] s, doc, refl, agree i b, ap (λ (p : Parser). record (own_of r doc (with_input [] s)) { parser = p }) rebase.0, rebase.1, idle);
          in_phase = record { next_is_low = omega (arith, spec_low); avoids = every-name r n next low x (λ j. (k : ℕ) → j ≢ later k spec) given to_come elsewhere };
          failed = f;
          watch = (s.parser, long, after, ap (with_next spec) (parser-agrees r g (is_bound s.side.doc.bound) agree s.parser o.served));
        },
      )

  -- ---- a batch of text

  -- the end tag of a script of the page
  tag : (r : NodeId → NodeId) (rest : List ℕ) (d : Desk) (s : Serial) (doc : Doc) (i : NodeId) (run : Bool) (v : Watch) → Names r d.realm → Okay r s.parser s.side.doc doc → s.side.pending ≡ None →
      IsTrue (is_bound s.side.doc.bound i) → runs (prepared i s) ≡ run → v.failed + 1 ≡ d.epoch →
      Watches e w m0 v0 (tag_ended i (with_input rest s)) (at_tag true run (length rest) s.parser (at_left e w (suc (length rest)) v)) →
      Stood e w m0 v0 rest (at_end_tag run (r i) (at_rest d (own_of r doc (with_input [] s))))
  tag r rest d s doc i true v names o idle b x f seen =
      in-hand r rest d s doc i (record (at_left e w (length rest) v) { after_tag = Some s.parser }) names o idle b f refl refl seen
  tag r rest d s doc i false v names o idle b x f seen =
      let next : (n : ℕ) × (moment_after n e w (tag_ended i (with_input rest s)) ≡ Some (reading (with_input rest s))) = still-next i (with_input rest s) idle x in
      let own : nat_le (length rest) (length rest) ≡ true = grind arith in
      let v1 : Watch = at_left e w (length rest) v in
      let on : Watched (reading (with_input rest s)) v1 v1 = subst (λ (c : Bool). WatchReads c None (length rest) s.parser v1 v1) (sym own) refl in
      rests r rest d s doc v1 names o idle f (refl, refl) (watches-next e w m0 (tag_ended i (with_input rest s)) (reading (with_input rest s)) v0 v1 v1 next.0 seen next.1 on)

  behind : (r : NodeId → NodeId) (rest : List ℕ) (d : Desk) (s0 : Serial) (p : Parser) (doc own_doc : Doc) (stopped : Stop) (v v' : Watch) → Names r d.realm → Okay r p doc own_doc → s0.side.pending ≡ None →
      IsStopBound (is_bound doc.bound) stopped → v.failed + 1 ≡ d.epoch → Watches e w m0 v0 (moment_at s0 p doc rest stopped) v' → IsWatch e w v (moment_at s0 p doc rest stopped) v' →
      Stood e w m0 v0 rest (behind_halt (at (rename_stop r stopped)) (at_rest d (own_of r own_doc (taken p doc [] s0))))
  behind r rest d s0 p doc own_doc stop.InputEnd v v' names o idle b f seen is =
      rests r rest d (taken p doc [] s0) own_doc v' names o idle (ap (λ (u : Watch). u.failed + 1) is ∙ f) (ap (λ (u : Watch). u.page_left) is, ap (λ (u : Watch). u.after_tag) is) seen
  behind r rest d s0 p doc own_doc (stop.Script i) v v' names o idle b f seen is =
      let s : Serial = taken p doc [] s0 in
      let same : prepared (r i) (own_of r own_doc s) ≡ prepared i s = prepared-same r rest i s own_doc o in
      subst (λ k. Stood e w m0 v0 rest (at_end_tag (runs k) (r i) (at_rest d (own_of r own_doc s)))) (sym same)
      (tag r rest d s own_doc i (runs (prepared i s)) v names o idle b refl f (subst (λ u. Watches e w m0 v0 (tag_ended i (with_input rest s)) u) is seen))
  behind r rest d s0 p doc own_doc stop.Deep v v' names o idle b f seen is =
      ends r rest d (own_of r own_doc (taken p doc [] s0)) (refusal why.Depth (taken p doc rest s0)) v' names refl o.same (ap (λ n. n + 1) is ∙ f) seen

  -- Do over a batch of text, behind which that of the page is left
  pub do-text : (r : NodeId → NodeId) (page rest : List ℕ) (d : Desk) (x : Piece) (b : Batch) (bs : List Batch) (m : Moment) (v : Watch) → d.phase ≡ free → Names r d.realm → Reads r page m d.own →
      IsText w.entities d.own.parser x b bs → page ≡ b.text ++ rest → v.failed + 1 ≡ d.epoch → IsIdle page v → Watches e w m0 v0 m v → Stood e w m0 v0 rest (executes (b ∷ bs) d)
  do-text r page rest d x b bs m v at_free names k t is f i seen =
      let es : Entities = w.entities in
      let s : Serial = k.s in
      let q : Parsed = parse es s.parser b.text in
      let own_parsed : parse es d.own.parser b.text ≡ rename_parsed r q = ap (λ (o : Serial). parse es o.parser b.text) k.is ∙ texts-renamed r es s.parser b.text k.okay.renames in
      let b_is : b ≡ text_batch d.own.parser b.text (rename_parsed r q) = t.parsed ∙ ap (text_batch d.own.parser b.text) own_parsed in
      let used : drop q.used b.text ≡ [] = ap (λ (z : Parsed). drop z.used b.text) (sym own_parsed) ∙ t.used in
      let served = texts-served CameBefore before-follows s.side.doc es s.parser b.text k.okay.served in
      let doc : Doc = acts s.side.doc q.ops in
      let own_doc : Doc = acts k.doc (rename_ops r q.ops) in
      let s1 : Serial = with_input page s in
      let from : Watches e w m0 v0 (reading s1) (at_left e w (length page) v) = subst (λ u. Watches e w m0 v0 (reading s1) u) (idle-left page v i) (subst (λ a. Watches e w m0 v0 a v) k.moment seen) in
      let comes = watches-batch e w s1 b.text rest v is in
      let there : Watches e w m0 v0 (moment_behind s1 b.text rest q) comes.0 =
      watches-then e w m0 (reading s1) (moment_behind s1 b.text rest q) v0 (at_left e w (length page) v) comes.0 from comes.1 in
      let all : (z : List ℕ) → z ≡ [] → moment_at s1 q.parser doc (z ++ rest) q.stop ≡ moment_at s1 q.parser doc rest q.stop = λ z none. ap (λ y. moment_at s1 q.parser doc (y ++ rest) q.stop) none in
      let done_ : Stood e w m0 v0 rest (behind_halt (at (rename_stop r q.stop)) (at_rest (record d { hand = bs; left = record d.left { text = drop (length b.text) d.left.text } }) (own_of r own_doc (taken q.parser doc [] s1)))) =
      behind r rest (record d { hand = bs; left = record d.left { text = drop (length b.text) d.left.text } }) s1 q.parser doc own_doc q.stop v comes.0 names (okay-parse r es s.parser s.side.doc k.doc b.text k.okay) k.idle served.1 f
      (subst (λ a. Watches e w m0 v0 a comes.0) (all (drop q.used b.text) used) there) (subst (λ a. IsWatch e w v a comes.0) (all (drop q.used b.text) used) comes.2) in
      subst (λ (z : Batch). Stood e w m0 v0 rest (executes (z ∷ bs) d)) (sym b_is)
      (subst (λ (p : Phase). Stood e w m0 v0 rest (executes (text_batch d.own.parser b.text (rename_parsed r q) ∷ bs) (record d { phase = p }))) (sym at_free)
      (subst (λ (o : Serial). Stood e w m0 v0 rest (executes (text_batch o.parser b.text (rename_parsed r q) ∷ bs) (at_rest d o))) (sym k.is) done_))

  -- ---- the batch of the ending

  finishes : (r : NodeId → NodeId) (d : Desk) (own s : Serial) (p : Parser) (doc : Doc) (f : Finish) (v : Watch) → Names r d.realm → own.side.lines ≡ s.side.lines → SameUpTo r doc own.side.doc →
      v.failed + 1 ≡ d.epoch → Watches e w m0 v0 (over (outcome_at s p doc f)) v → Stood e w m0 v0 [] (behind_halt (over_with (result_at f)) (at_rest d own))
  finishes r d own s p doc finale.Finished v names lines same g seen = ends r [] d own (outcome_at s p doc finale.Finished) v names lines same g seen
  finishes r d own s p doc finale.Deep v names lines same g seen = ends r [] d own (outcome_at s p doc finale.Deep) v names lines same g seen

  refuses : (r : NodeId → NodeId) (d : Desk) (s : Serial) (own_doc : Doc) (bs : List Batch) (y : Why) (v : Watch) → Names r d.realm → Okay r s.parser s.side.doc own_doc → v.failed + 1 ≡ d.epoch →
      Watches e w m0 v0 (over (refusal y (with_input [] s))) v → Stood e w m0 v0 [] (executes (refusal_batch (rename_parser r s.parser) y ∷ bs) (at_rest d (own_of r own_doc (with_input [] s))))
  unfolding acts
  refuses r d s own_doc bs y v names o g seen =
      ends r [] (record d { hand = bs; left = record d.left { text = drop 0 d.left.text } }) (own_of r own_doc (with_input [] s)) (refusal y (with_input [] s)) v names refl o.same g seen

  applies : (r : NodeId → NodeId) (d : Desk) (s : Serial) (own_doc : Doc) (bs : List Batch) (x : Ending) (v : Watch) → Names r d.realm → Okay r s.parser s.side.doc own_doc → v.failed + 1 ≡ d.epoch →
      Watches e w m0 v0 (over (ended w.entities x (with_input [] s))) v → Stood e w m0 v0 [] (executes (end_batch w.entities (rename_parser r s.parser) x ∷ bs) (at_rest d (own_of r own_doc (with_input [] s))))
  applies r d s own_doc bs ending.End v names o g seen =
      let es : Entities = w.entities in
      let f : Finished = finish es s.parser in
      let own : Serial = own_of r own_doc (with_input [] s) in
      let same : finish es (rename_parser r s.parser) ≡ rename_finished r f = ends-renamed r es s.parser o.renames in
      let docs : SameUpTo r (acts s.side.doc f.ops) (acts own_doc (rename_ops r f.ops)) = acts-renamed r (one-to-one r s.parser.open_state.next o.renames) s.side.doc own_doc o.same f.ops in
      subst (λ (z : Finished). Stood e w m0 v0 [] (executes (finish_batch (rename_parser r s.parser) z ∷ bs) (at_rest d own))) (sym same)
      (finishes r (record d { hand = bs; left = record d.left { text = drop 0 d.left.text } }) (record own { parser = rename_parser r f.parser; side = record own.side { doc = acts own_doc (rename_ops r f.ops) } })
      (with_input [] s) f.parser (acts s.side.doc f.ops) f.finish v names refl docs g (subst (λ a. Watches e w m0 v0 (over a) v) (finished-at (with_input [] s) f) seen))
  applies r d s own_doc bs ending.Bad v names o g seen = refuses r d s own_doc bs why.BadUtf8 v names o g seen
  applies r d s own_doc bs ending.Long v names o g seen = refuses r d s own_doc bs why.Page v names o g seen
  applies r d s own_doc bs ending.Fault v names o g seen = refuses r d s own_doc bs why.Fault v names o g seen

  -- Do over the batch of the page's ending, where all of the page is executed
  pub do-ending : (r : NodeId → NodeId) (page : List ℕ) (d : Desk) (b : Batch) (bs : List Batch) (m : Moment) (v : Watch) → d.phase ≡ free → Names r d.realm → Reads r page m d.own →
      page ≡ [] → b ≡ end_batch w.entities d.own.parser e → v.failed + 1 ≡ d.epoch → Watches e w m0 v0 m v → Stood e w m0 v0 [] (executes (b ∷ bs) d)
  unfolding moment_after
  do-ending r page d b bs m v at_free names k nil is f seen =
      let es : Entities = w.entities in
      let s : Serial = k.s in
      let at_end_ : m ≡ reading (with_input [] s) = k.moment ∙ ap (λ t. reading (with_input t s)) nil in
      let next : Watches e w m0 v0 (over (ended es e (with_input [] s))) v =
      watches-next e w m0 m (over (ended es e (with_input [] s))) v0 v v 0 seen (ap (λ a. moment_after 0 e w a) at_end_) refl in
      subst (λ (z : Batch). Stood e w m0 v0 [] (executes (z ∷ bs) d)) (sym is)
      (subst (λ (p : Phase). Stood e w m0 v0 [] (executes (end_batch es d.own.parser e ∷ bs) (record d { phase = p }))) (sym at_free)
      (subst (λ (o : Serial). Stood e w m0 v0 [] (executes (end_batch es o.parser e ∷ bs) (at_rest d o))) (sym k.is) (applies r d s k.doc bs e v names k.okay f next)))
