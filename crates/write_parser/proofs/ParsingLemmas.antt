-- What the machine and the document do together.
use Rattle.std.proofs.Common.{◌≡◌, ◌<◌, ◌≢◌, ℕ, List, [], ◌∷◌, ◌++◌, length, refl, sym, ap, ◌∙◌, subst, drop, length-drop, ◌+◌, arith}
use Rattle.std.specs.Str.{chars, IsCharBoundary, IsUtf8}
use Rattle.std.proofs.lemmas.List.{drop-drop}
use Rattle.html_types.specs.declared.operation.Op.{Op}
use Rattle.html_types.specs.declared.instruction.Stop.{Stop}
use Rattle.html_types.specs.declared.instruction.Stop.TheVariants as stop
use Rattle.html_types.specs.declared.ending.Ending.{Ending}
use Rattle.html_types.specs.declared.ending.Ending.TheVariants as ending
use Rattle.standard.specs.Entities.{Entities}
use Rattle.standard.specs.Act.{Doc, is_bound, acts, AreOpsBound}
use Rattle.standard_laws.specs.Laws.{HasParsed}
use Rattle.standard.specs.Parser.{Parser, take_character, Parsed, parse}
use Rattle.core_definitions.specs.Batches.{Batch, end_batch}
use Rattle.rule_laws.specs.Naming.{AreFresh}
use Rattle.rule_laws.proofs.FreshnessTexts.{fresh-follows}
use Rattle.rule_laws.proofs.FreshnessDocs.{texts-served, ends-served}
use Rattle.parse_machine.specs.declared.machine.Ran.{Ran}
use Rattle.parse_machine.specs.declared.end.End.{End}
use Rattle.parse_machine.specs.Machine.{RanAs, EndsAs}
use Rattle.parse_machine.proofs.Fronts.{rest-chars, some-used, none-used, bytes-used}
use Rattle.write_parser.specs.Parsing.{IsServed, TextParsed, RestParsed, EndParsed}

-- the operations are bound, where those before were none
pub ops-bound : (es : Entities) (p : Parser) (d : Doc) (now : Parser) (before ops : List Op) (ran : Ran) (text : List ℕ) → IsServed p d → before ≡ [] →
    RanAs (parse es p (chars text)) before now ops ran text → AreOpsBound (is_bound d.bound) ops
ops-bound es p d now before ops ran text served none run =
    subst (AreOpsBound (is_bound d.bound)) (sym (run.ops ∙ ap (λ l. l ++ (parse es p (chars text)).ops) none)) (texts-served AreFresh fresh-follows d es p (chars text) served).0.0

pub ops-are : (before ops more : List Op) → before ≡ [] → ops ≡ before ++ more → ops ≡ more
ops-are before ops more none is = is ∙ ap (λ l. l ++ more) none

pub text-parsed : (es : Entities) (p p' : Parser) (d d' : Doc) (before ops : List Op) (ran : Ran) (text : List ℕ) → IsUtf8 text → IsServed p d → before ≡ [] →
    RanAs (parse es p (chars text)) before p' ops ran text → d' ≡ acts d ops → IsCharBoundary text ran.used → TextParsed es p d text p' d' ran
text-parsed es p p' d d' before ops ran text utf8 served none run done boundary =
    let r : Parsed = parse es p (chars text) in
    let stays = texts-served AreFresh fresh-follows d es p (chars text) served in
    let doc : d' ≡ acts d r.ops = done ∙ ap (acts d) (ops-are before ops r.ops none run.ops) in
    record {
      boundary = boundary;
      onward = λ stops. bytes-used ran.used r.used text run.used (λ h. stops (run.stop ∙ none-used es p (chars text) h));
      parsed = record {
        parser = run.state;
        doc = doc;
        left = rest-chars text ran.used r.used utf8 boundary run.used;
        stop = run.stop;
      };
      served = rw (doc, run.state) stays.0.1;
      bound = rw (doc, run.stop) stays.1;
    }

shorter : (n : ℕ) (c : ℕ) (cs : List ℕ) → 0 < n → length (drop n (c ∷ cs)) < length (c ∷ cs)
shorter n c cs lt = omega (arith, length-drop n (c ∷ cs))

used-less : (es : Entities) (p : Parser) (x : List ℕ) → ((parse es p x).stop ≢ stop.InputEnd) → length (drop (parse es p x).used x) < length x
unfolding parse
used-less es p [] h = absurd (h refl)
used-less es p (c ∷ cs) h = shorter (parse es p (c ∷ cs)).used c cs (some-used (take_character es p c) (λ p'. parse es p' cs))

-- a stop leaves less of a text than there was
pub stop-shortens : (es : Entities) (p p' : Parser) (d d' : Doc) (text left : List ℕ) (s : Stop) → HasParsed es p d text p' d' left s → s ≢ stop.InputEnd → length left < length text
stop-shortens es p p' d d' text left s parsed stops = subst (λ l. length l < length text) (sym parsed.left) (used-less es p text (λ h. stops (parsed.stop ∙ h)))

-- of a text whose front is used already
pub rest-parsed : (es : Entities) (p p' : Parser) (d d' : Doc) (bytes : List ℕ) (used : ℕ) (ran : Ran) → TextParsed es p d (drop used bytes) p' d' ran →
    RestParsed es p d (chars (drop used bytes)) p' d' (chars (drop (used + ran.used) bytes)) ran.stop
rest-parsed es p p' d d' bytes used ran parsed = by (subst (λ b. HasParsed es p d (chars (drop used bytes)) p' d' (chars b) ran.stop) (drop-drop ran.used used bytes) parsed.parsed)
  where
    by : HasParsed es p d (chars (drop used bytes)) p' d' (chars (drop (used + ran.used) bytes)) ran.stop → RestParsed es p d (chars (drop used bytes)) p' d' (chars (drop (used + ran.used) bytes)) ran.stop
    by here = record {
      parsed = here;
      served = parsed.served;
      bound = parsed.bound;
      shorter = λ stops. stop-shortens es p p' d d' (chars (drop used bytes)) (chars (drop (used + ran.used) bytes)) ran.stop here stops;
    }

-- what the page's ending comes to: the operations are bound, and behind them the ids are as the parser holds them
ending-served : (es : Entities) (p : Parser) (d : Doc) (e : Ending) → IsServed p d → AreOpsBound (is_bound d.bound) (end_batch es p e).ops × IsServed (end_batch es p e).after (acts d (end_batch es p e).ops)
unfolding AreOpsBound acts
ending-served es p d ending.End served = ends-served AreFresh fresh-follows d es p served
ending-served es p d ending.Bad served = (tt, served)
ending-served es p d ending.Long served = (tt, served)
ending-served es p d ending.Fault served = (tt, served)

-- the last operations are bound
pub last-bound : (es : Entities) (p : Parser) (d : Doc) (e : Ending) (now : Parser) (before ops : List Op) (end : End) → IsServed p d → before ≡ [] →
    EndsAs (end_batch es p e) before now ops end → AreOpsBound (is_bound d.bound) ops
last-bound es p d e now before ops end served none run =
    subst (AreOpsBound (is_bound d.bound)) (sym (ops-are before ops (end_batch es p e).ops none run.ops)) (ending-served es p d e served).0

pub end-parsed : (es : Entities) (e : Ending) (p p' : Parser) (d d' : Doc) (before ops : List Op) (end : End) → IsServed p d → before ≡ [] →
    EndsAs (end_batch es p e) before p' ops end → d' ≡ acts d ops → EndParsed es e p d p' d' end
end-parsed es e p p' d d' before ops end served none run done =
    let b : Batch = end_batch es p e in
    let doc : d' ≡ acts d b.ops = done ∙ ap (acts d) (ops-are before ops b.ops none run.ops) in
    record {
      taken = record { parser = run.state; doc = doc; answer = run.answer };
      served = rw (doc, run.state) (ending-served es p d e served).1;
    }
