-- What a page comes to that is fed in pieces.
use Rattle.std.proofs.Common.{◌≡◌, ℕ, Bool, true, false, List, [], ◌++◌, Option, Some, None, refl, sym, ◌∙◌, ap, subst}
use Rattle.std.specs.Prelude.{unwrap_or}
use Rattle.html_types.specs.declared.operation.Op.{Op}
use Rattle.html_types.specs.declared.instruction.Finish.{Finish}
use Rattle.html_types.specs.declared.instruction.Finish.TheVariants as finale
use Rattle.html_types.specs.declared.ending.Ending.{Ending}
use Rattle.html_types.specs.declared.ending.Ending.TheVariants as ending
use Rattle.html_types.specs.declared.ending.Why.TheVariants as why
use Rattle.standard.specs.Entities.{Entities}
use Rattle.standard.specs.Act.{Doc, new_doc, is_bound, acts, AreOpsBound}
use Rattle.standard.specs.Parser.{Parser, new_parser, Finished, finish}
use Rattle.standard.specs.Through.{Through, through, deep, after_those, read_through, if_finished, with_end, whole}
use Rattle.serial.specs.Page.{page_of, text_of, shown, ending_of}
use Rattle.serial.specs.Quiet.{tree, refused, made, ended_quietly, quiet}
use Rattle.rule_laws.specs.Naming.{AreFresh}
use Rattle.rule_laws.specs.NamingLaws.{StaysServed}
use Rattle.rule_laws.specs.Fragments.{ThroughServed}
use Rattle.rule_laws.proofs.FreshnessTexts.{fresh-follows}
use Rattle.rule_laws.proofs.FreshnessDocs.{ends-served, new-serves}
use Rattle.rule_laws.proofs.FragmentTexts.{docs-through}
use Rattle.standard_laws.specs.Quiet.{go_through}
use Rattle.standard_laws.proofs.Quiet.{after-none, through-append}
use Rattle.standard_laws.proofs.Parse.{acts-append}
use Rattle.utf8_pieces.specs.declared.decoder.Decoder.{Decoder}
use Rattle.utf8_pieces.specs.Decoder.{HasRead}
use Rattle.utf8_pieces.proofs.PageLaws.{text_of-nil}
use Rattle.parse_machine.specs.Through.{came_to}
use Rattle.html_document.specs.declared.feeding.TheConstants.{PAGE_LIMIT}
use Rattle.html_document.specs.Stage.{Stage, IsServed}
use Rattle.html_document.specs.Fed.{CameTo, Furthers, HasFed, goes_through, shown_refusal, refused_so_far}

-- ---- a text

-- what is read behind no operations
pub same-through : (t s : Through) (before : List Op) → before ≡ [] → after_those before t ≡ s → t ≡ s
same-through t s before none is = after-none t ∙ (ap (λ os. after_those os t) (sym none) ∙ is)

-- its operations can be done, and then all ids are bound that the parser holds
read-served : (es : Entities) (p p' : Parser) (d : Doc) (text : List ℕ) (ops : List Op) → IsServed p d → read_through es p text ≡ through ops p' → StaysServed AreFresh d ops p'.open_state
read-served es p p' d text ops served is = subst (ThroughServed AreFresh d) is (docs-through AreFresh fresh-follows d es p text served)

pub read-bound : (es : Entities) (p p' : Parser) (d : Doc) (text : List ℕ) (before ops : List Op) (goes : Bool) → IsServed p d → before ≡ [] →
    after_those before (read_through es p text) ≡ came_to p' ops goes → goes ≡ true → AreOpsBound (is_bound d.bound) ops
read-bound es p p' d text before ops goes served none is on =
    (read-served es p p' d text ops served (same-through (read_through es p text) (came_to p' ops goes) before none is ∙ ap (came_to p' ops) on)).0

pub came-through : (es : Entities) (p p' : Parser) (d d' : Doc) (text : List ℕ) (before ops : List Op) (goes : Bool) → IsServed p d → before ≡ [] →
    after_those before (read_through es p text) ≡ came_to p' ops goes → goes ≡ true → d' ≡ acts d ops → CameTo (read_through es p text) d p' d' true
came-through es p p' d d' text before ops goes served none is on done =
    let t : read_through es p text ≡ through ops p' = same-through (read_through es p text) (came_to p' ops goes) before none is ∙ ap (came_to p' ops) on in
    ((ops, t, done), subst (IsServed p') (sym done) (read-served es p p' d text ops served t).1)

pub came-deep : (es : Entities) (p p' : Parser) (text : List ℕ) (before ops : List Op) (goes : Bool) → before ≡ [] →
    after_those before (read_through es p text) ≡ came_to p' ops goes → goes ≡ false → read_through es p text ≡ deep
came-deep es p p' text before ops goes none is off = same-through (read_through es p text) (came_to p' ops goes) before none is ∙ ap (came_to p' ops) off

-- ---- a text behind another

behind : (es : Entities) (first : Parser) (x y : List ℕ) (t : Through) → read_through es first x ≡ t → read_through es first (x ++ y) ≡ go_through t (λ q. read_through es q y)
behind es first x y t is = through-append es first x y ∙ ap (λ s. go_through s (λ q. read_through es q y)) is

pub deep-further : (es : Entities) (first : Parser) (x y : List ℕ) → read_through es first x ≡ deep → read_through es first (x ++ y) ≡ deep
deep-further es first x y is = behind es first x y deep is

pub came-further : (es : Entities) (first p p' : Parser) (start d d' : Doc) (x y : List ℕ) (goes : Bool) → CameTo (read_through es first x) start p d true
    → CameTo (read_through es p y) d p' d' goes → CameTo (read_through es first (x ++ y)) start p' d' goes
came-further es first p p' start d d' x y true ((ops, is, done), served) ((more, is', done'), served') =
    ((ops ++ more, behind es first x y (through ops p) is ∙ ap (after_those ops) is', done' ∙ (ap (λ e. acts e more) done ∙ sym (acts-append ops more start))), served')
came-further es first p p' start d d' x y false ((ops, is, done), served) is' = behind es first x y (through ops p) is ∙ ap (after_those ops) is'

-- ---- the beginning

pub first-came : (es : Entities) (p : Parser) (d : Doc) (text : List ℕ) → p ≡ new_parser 0 → d ≡ new_doc → text ≡ [] → CameTo (read_through es (new_parser 0) text) new_doc p d true
unfolding read_through acts
first-came es p d text new alone none =
    (([], ap (read_through es (new_parser 0)) none ∙ ap (through []) (sym new), alone), subst (λ q. IsServed q d) (sym new) (subst (IsServed (new_parser 0)) (sym alone) (new-serves 0)))

-- ---- what was fed

-- a piece more
pub fed-on : (es : Entities) (old : Stage) (decoder : Decoder) (p : Parser) (d : Doc) (goes : Bool) (read piece text : List ℕ) → HasFed es old read
    → ((limit : ℕ) (bytes : List ℕ) → HasRead limit old.decoder bytes → HasRead limit decoder (bytes ++ piece))
    → ((limit : ℕ) (bytes : List ℕ) → HasRead limit old.decoder bytes → text_of limit (bytes ++ piece) ≡ text_of limit bytes ++ text)
    → Furthers old.entities old.parser old.doc old.goes_on text p d goes
    → HasFed es (record { entities = old.entities; decoder = decoder; parser = p; doc = d; goes_on = goes; spent = false }) (read ++ piece)
fed-on es old decoder p d goes read piece text had reads texts further =
    let front : List ℕ = text_of PAGE_LIMIT read in
    let on : Furthers es old.parser old.doc old.goes_on text p d goes = subst (λ (e : Entities). Furthers e old.parser old.doc old.goes_on text p d goes) had.entities further in
    record {
      lasts = refl;
      entities = had.entities;
      bytes = reads PAGE_LIMIT read had.bytes;
      came = subst (λ (x : List ℕ). CameTo (read_through es (new_parser 0) x) new_doc p d goes) (sym (texts PAGE_LIMIT read had.bytes)) (on (new_parser 0) front new_doc had.came);
    }

pub came-goes : (t : Through) (start : Doc) (p : Parser) (d : Doc) (goes : Bool) → CameTo t start p d goes → goes ≡ goes_through t
came-goes t start p d true ((ops, is, done), served) = sym (ap goes_through is)
came-goes t start p d false is = sym (ap goes_through is)

pub came-served : (t : Through) (start : Doc) (p : Parser) (d : Doc) (goes : Bool) → CameTo t start p d goes → goes ≡ true → IsServed p d
came-served t start p d true came on = came.1
came-served t start p d false came on = absurd (cc on)

-- what is said of a refusal
pub told-on : (es : Entities) (s : Stage) (read : List ℕ) (e : Option Ending) → HasFed es s read → e ≡ shown PAGE_LIMIT read → shown_refusal s.goes_on e ≡ refused_so_far es read
told-on es s read e had is =
    let t : Through = read_through es (new_parser 0) (text_of PAGE_LIMIT read) in
    ap (λ (g : Bool). shown_refusal g e) (came-goes t new_doc s.parser s.doc s.goes_on had.came) ∙ ap (shown_refusal (goes_through t)) is

-- nothing was
pub first-fed : (es : Entities) (decoder : Decoder) (p : Parser) (d : Doc) (table : Entities) → table ≡ es → HasRead PAGE_LIMIT decoder [] → p ≡ new_parser 0 → d ≡ new_doc
    → HasFed es (record { entities = table; decoder = decoder; parser = p; doc = d; goes_on = true; spent = false }) []
first-fed es decoder p d table same none new alone = record {
  lasts = refl;
  entities = same;
  bytes = none;
  came = first-came es p d (text_of PAGE_LIMIT []) new alone (text_of-nil PAGE_LIMIT);
}

pub first-served : (p : Parser) (d : Doc) → p ≡ new_parser 0 → d ≡ new_doc → IsServed p d
first-served p d new alone = subst (λ q. IsServed q d) (sym new) (subst (IsServed (new_parser 0)) (sym alone) (new-serves 0))

-- ---- the end

deep-ended : (es : Entities) (d : Doc) (e : Ending) → ended_quietly es d e deep ≡ refused why.Depth
deep-ended es d ending.End = refl
deep-ended es d ending.Bad = refl
deep-ended es d ending.Long = refl
deep-ended es d ending.Fault = refl

made-behind : (d : Doc) (ops last : List Op) (k : Finish) → made d (if_finished (ops ++ last) k) ≡ made (acts d ops) (if_finished ([] ++ last) k)
made-behind d ops last finale.Finished = ap (λ x. tree x) (acts-append ops last d)
made-behind d ops last finale.Deep = refl

ended-behind : (es : Entities) (d : Doc) (ops : List Op) (p : Parser) (e : Ending) → ended_quietly es d e (through ops p) ≡ ended_quietly es (acts d ops) e (through [] p)
ended-behind es d ops p ending.End = let f : Finished = finish es p in made-behind d ops f.ops f.finish
ended-behind es d ops p ending.Bad = refl
ended-behind es d ops p ending.Long = refl
ended-behind es d ops p ending.Fault = refl

pub quiet-on : (es : Entities) (read : List ℕ) (p : Parser) (d : Doc) (e : Ending) → CameTo (read_through es (new_parser 0) (text_of PAGE_LIMIT read)) new_doc p d true → e ≡ ending_of PAGE_LIMIT read false
    → quiet es (page_of PAGE_LIMIT read false) ≡ ended_quietly es d e (through [] p)
unfolding quiet
quiet-on es read p d e ((ops, is, done), served) at =
    ap (ended_quietly es new_doc (ending_of PAGE_LIMIT read false)) is
    ∙ (ended-behind es new_doc ops p (ending_of PAGE_LIMIT read false)
    ∙ (ap (λ x. ended_quietly es x (ending_of PAGE_LIMIT read false) (through [] p)) (sym done) ∙ ap (λ y. ended_quietly es d y (through [] p)) (sym at)))

pub quiet-deep : (es : Entities) (read : List ℕ) → read_through es (new_parser 0) (text_of PAGE_LIMIT read) ≡ deep → quiet es (page_of PAGE_LIMIT read false) ≡ refused why.Depth
unfolding quiet
quiet-deep es read is = ap (ended_quietly es new_doc (ending_of PAGE_LIMIT read false)) is ∙ deep-ended es new_doc (ending_of PAGE_LIMIT read false)

-- ---- the end of the input

pub none_given : {A : Type 0} (o : Option A) → ((x : A) → o ≡ Some x → ⊥) → o ≡ None
none_given None not = refl
none_given (Some x) not = absurd (not x refl)

pub whole-none : (es : Entities) (p : Parser) (text : List ℕ) → text ≡ [] → whole es p text ≡ with_end es (through [] p)
unfolding whole read_through
whole-none es p text none = ap (λ x. with_end es (read_through es p x)) none

some-ops : (x : List Op) (k : Finish) (ops : List Op) → if_finished x k ≡ Some ops → x ≡ ops
some-ops x finale.Finished ops is = ap (λ (o : Option (List Op)). unwrap_or o []) is
some-ops x finale.Deep ops is = absurd (cc)

pub end-bound : (es : Entities) (p : Parser) (d : Doc) (text : List ℕ) (ops : List Op) → IsServed p d → text ≡ [] → Some ops ≡ whole es p text → AreOpsBound (is_bound d.bound) ops
end-bound es p d text ops served none is =
    let f : Finished = finish es p in
    subst (AreOpsBound (is_bound d.bound)) (some-ops f.ops f.finish ops (sym (whole-none es p text none) ∙ sym is)) (ends-served AreFresh fresh-follows d es p served).0

pub end-made : (es : Entities) (p : Parser) (d d' : Doc) (text : List ℕ) (ops : List Op) → text ≡ [] → Some ops ≡ whole es p text → d' ≡ acts d ops → made d (with_end es (through [] p)) ≡ tree d'
end-made es p d d' text ops none is done = ap (made d) (sym (whole-none es p text none) ∙ sym is) ∙ ap (λ x. tree x) (sym done)

pub end-deep : (es : Entities) (p : Parser) (d : Doc) (text : List ℕ) → text ≡ [] → None ≡ whole es p text → made d (with_end es (through [] p)) ≡ refused why.Depth
end-deep es p d text none is = ap (made d) (sym (whole-none es p text none) ∙ sym is)

-- ---- behind a text that went on or not

pub furthers-deep : (es : Entities) (p : Parser) (d : Doc) (text : List ℕ) (went : Bool) → went ≡ false → Furthers es p d went text p d false
furthers-deep es p d text went off = λ first before start came. deep-further es first before text (subst (CameTo (read_through es first before) start p d) off came)

pub furthers-on : (es : Entities) (p p' : Parser) (d d' : Doc) (text : List ℕ) (went goes : Bool) → went ≡ true → CameTo (read_through es p text) d p' d' goes → Furthers es p d went text p' d' goes
furthers-on es p p' d d' text went goes on h = λ first before start came. came-further es first p p' start d d' before text goes (subst (CameTo (read_through es first before) start p d) on came) h

-- ---- the end of what was fed

pub finished-on : (es : Entities) (s : Stage) (read : List ℕ) (e : Ending) → HasFed es s read → s.goes_on ≡ true → ((limit : ℕ) (bytes : List ℕ) → HasRead limit s.decoder bytes → e ≡ ending_of limit bytes false)
    → quiet es (page_of PAGE_LIMIT read false) ≡ ended_quietly s.entities s.doc e (through [] s.parser)
finished-on es s read e had on closes =
    let t : Through = read_through es (new_parser 0) (text_of PAGE_LIMIT read) in
    quiet-on es read s.parser s.doc e (subst (λ (g : Bool). CameTo t new_doc s.parser s.doc g) on had.came) (closes PAGE_LIMIT read had.bytes)
    ∙ ap (λ (x : Entities). ended_quietly x s.doc e (through [] s.parser)) (sym had.entities)

pub finished-deep : (es : Entities) (s : Stage) (read : List ℕ) → HasFed es s read → s.goes_on ≡ false → quiet es (page_of PAGE_LIMIT read false) ≡ refused why.Depth
finished-deep es s read had off =
    let t : Through = read_through es (new_parser 0) (text_of PAGE_LIMIT read) in
    quiet-deep es read (subst (λ (g : Bool). CameTo t new_doc s.parser s.doc g) off had.came)
