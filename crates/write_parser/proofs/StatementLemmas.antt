-- Statements of the innermost script.
use Rattle.std.proofs.Common.{◌≡◌, ◌<◌, ◌≤◌, ◌+◌, ℕ, suc, true, false, get_or, drop, drop-cons, add-one, Result, Ok, Err, IfOk, OnOk, List, [], ◌∷◌, ◌++◌, length, Option, Some, None, Bool, if◌then◌else◌, refl, sym, ap, ◌∙◌, subst, append_assoc, append-nil, length-append, arith, ◌⊎◌, inl, inr, fold}
use Rattle.std.specs.Prelude.{unwrap_or}
use Rattle.std.specs.Option.{is_some}
use Rattle.std.proofs.lemmas.Bool.{cases_lt}
use Rattle.serial.specs.declared.script.Line.{Line}
use Rattle.serial.specs.declared.script.Line.TheVariants as line
use Rattle.serial.specs.declared.script.Statement.{Statement}
use Rattle.serial.specs.declared.script.Statement.TheVariants as statement
use Rattle.html_types.specs.declared.ending.Why.TheVariants as why
use Rattle.html_types.specs.declared.ending.Why.{Why}
use Rattle.html_types.specs.declared.operation.Op.{Op}
use Rattle.html_types.specs.declared.open.Context.{Context}
use Rattle.standard.specs.Entities.{Entities}
use Rattle.standard.specs.Fragment.{fragment, context_at, filled, Setting, lacking, too_deep, setting, set_by, inner_set}
use Rattle.standard.specs.Outer.{outer_text}
use Rattle.standard.specs.Tree.{Nodes, find_id, first_element, detached, lies_in, moved, appended}
use Rattle.standard.specs.Act.{Doc}
use Rattle.doc_tree.specs.declared.tree.Put.TheVariants as put
use Rattle.serial.specs.Serial.{World, Course, refuses, write_limit, with_line_feed}
use Rattle.standard_laws.specs.Frames.{Frame, Nest, state_of, NestComesTo, Waits, wrote, LacksElement}
use Rattle.write_parser.specs.declared.live.Live.{Live}
use Rattle.write_parser.specs.declared.live.Did.{Did}
use Rattle.write_parser.specs.declared.live.Did.TheVariants as did
use Rattle.doc_changes.specs.declared.change.Change.TheVariants.{Moved}
use Rattle.doc_changes.specs.Changes.{changed}
use Rattle.write_parser.specs.Made.{of_removal, of_move, of_fragment, of_setting, of_statement, written_by}
use Rattle.write_parser.specs.Steps.{changed_by, IsGoing, framed, nest_of, ThenBy, Then, HasWritten, HasRemoved, HasAppended, HasSet, HasRead, DoesMost, Does}
use Rattle.standard_laws.proofs.Frames.{write-fits, write-refuses, line-fits, line-refuses, removes, appends, fills, fill-refuses, reads_by_id, reads_root, throws}

-- ---- where the page isn't refused, and where it is

pub then-on : (w : World) (Of : Course → Type 0) (new : Live) (fs : List Frame) (before : List Line) (page : List ℕ) → new.halted ≡ None →
    ((g : Course) → NestComesTo w (nest_of new fs before page) g → Of g) → Then w Of new fs before page
then-on w Of new fs before page on each = subst (λ h. ThenBy h w Of new fs before page) (sym on) each

pub on-then : (w : World) (Of : Course → Type 0) (new : Live) (fs : List Frame) (before : List Line) (page : List ℕ) → new.halted ≡ None → Then w Of new fs before page →
    (g : Course) → NestComesTo w (nest_of new fs before page) g → Of g
on-then w Of new fs before page on each = subst (λ h. ThenBy h w Of new fs before page) on each

-- ---- what a statement makes of the document

-- nothing
changed-none : (es : Entities) (a : Statement) (l : Live) → of_statement es l.machine.open_state.quirks l.doc.tree a ≡ [] → l.doc ≡ changed_by es a l
changed-none es a l none = sym (ap (fold changed l.doc) none)

-- nor where its element isn't there
lacks-move : (t : Nodes) (first second : Option ℕ) → appended t first second ≡ None → of_move t first second ≡ []
lacks-move t None second is = refl
lacks-move t (Some first) None is = refl
lacks-move t (Some first) (Some second) is = by (lies_in t first second) is
  where
    by : (b : Bool) → (if b then None else Some (moved t second first None)) ≡ None → (if b then [] else Moved first second ∷ []) ≡ []
    by true is = refl
    by false is = absurd (cc is)

lacks-changes : (es : Entities) (quirks : Bool) (t : Nodes) (a : Statement) → LacksElement t a → of_statement es quirks t a ≡ []
lacks-changes es quirks t (statement.Write v) lacks = absurd lacks
lacks-changes es quirks t (statement.WriteLine v) lacks = absurd lacks
lacks-changes es quirks t (statement.Remove v) lacks = ap of_removal lacks
lacks-changes es quirks t (statement.Append v c) lacks = lacks-move t (find_id t v) (find_id t c) lacks
lacks-changes es quirks t (statement.SetInner v text) lacks = ap (λ (f : Option ℕ). of_setting es quirks t f text) lacks
lacks-changes es quirks t (statement.LogById v) lacks = refl
lacks-changes es quirks t statement.LogRoot lacks = refl

lacks-writes : (t : Nodes) (a : Statement) → LacksElement t a → written_by a ≡ []
lacks-writes t (statement.Write v) lacks = absurd lacks
lacks-writes t (statement.WriteLine v) lacks = absurd lacks
lacks-writes t (statement.Remove v) lacks = refl
lacks-writes t (statement.Append v c) lacks = refl
lacks-writes t (statement.SetInner v text) lacks = refl
lacks-writes t (statement.LogById v) lacks = refl
lacks-writes t statement.LogRoot lacks = refl

-- so what was written stays
stays-written : (rest text : List ℕ) → text ≡ [] → rest ≡ rest ++ text
stays-written rest text none = sym (ap (λ (t : List ℕ). rest ++ t) none ∙ append-nil rest)

-- a move that left this tree
moved-doc : (d : Doc) (first second : Option ℕ) (t : Nodes) → appended d.tree first second ≡ Some t → record d { tree = t } ≡ fold changed d (of_move d.tree first second)
moved-doc d None second t is = absurd (cc is)
moved-doc d (Some first) None t is = absurd (cc is)
moved-doc d (Some first) (Some second) t is = by (lies_in d.tree first second) is
  where
    by : (b : Bool) → (if b then None else Some (moved d.tree second first None)) ≡ Some t → record d { tree = t } ≡ fold changed d (if b then [] else Moved first second ∷ [])
    by true is = absurd (cc is)
    by false is = ap (λ (o : Option Nodes). record d { tree = unwrap_or o t }) (sym is)

abbrev tree_in : Setting → Nodes → Nodes
tree_in (setting t) other = t
tree_in _ other = other

-- a fragment that left this tree
set-doc : (es : Entities) (quirks : Bool) (d : Doc) (found : Option ℕ) (text : List ℕ) (t : Nodes) → inner_set es quirks d.tree found text ≡ setting t →
    record d { tree = t } ≡ fold changed d (of_setting es quirks d.tree found text)
unfolding inner_set filled
set-doc es quirks d None text t is = absurd (cc is)
set-doc es quirks d (Some n) text t is = let c : Context = context_at d.tree n quirks in by c.form (fragment es c text) is
  where
    by : (form : Bool) (ops : Option (List Op)) → set_by d.tree n form ops ≡ setting t → record d { tree = t } ≡ fold changed d (of_fragment n form ops)
    by form None is = absurd (cc is)
    by form (Some ops) is = ap (λ (s : Setting). record d { tree = tree_in s t }) (sym is)

-- or is too deep
deep-none : (es : Entities) (quirks : Bool) (t : Nodes) (found : Option ℕ) (text : List ℕ) → inner_set es quirks t found text ≡ too_deep → of_setting es quirks t found text ≡ []
unfolding inner_set
deep-none es quirks t None text is = refl
deep-none es quirks t (Some n) text is = let c : Context = context_at t n quirks in by c.form (fragment es c text) is
  where
    by : (form : Bool) (ops : Option (List Op)) → set_by t n form ops ≡ too_deep → of_fragment n form ops ≡ []
    by form None is = refl
    by form (Some ops) is = absurd (cc is)

-- ---- a write

-- a statement that writes a text, which fits
abbrev Writes : Statement → List ℕ → Type 0
Writes a t =
    (w : World) (x : Nest) (f : Frame) (fs : List Frame) (list : List Statement) (g : Course) →
    x.frames ≡ f ∷ fs → f.list ≡ a ∷ list → Waits x.pending f.rest → x.written + length t ≤ write_limit → NestComesTo w (wrote t list f fs x) g → NestComesTo w x g

-- or doesn't
abbrev Overruns : Statement → List ℕ → Type 0
Overruns a t =
    (w : World) (x : Nest) (f : Frame) (fs : List Frame) (list : List Statement) →
    x.frames ≡ f ∷ fs → f.list ≡ a ∷ list → Waits x.pending f.rest → write_limit < x.written + length t → NestComesTo w x (refuses why.Writes (state_of x))

module _ (es : Entities) (k : ℕ) (a : Statement) (t : List ℕ) (old : Live) (rest : List ℕ) (going : IsGoing old) (waits : Waits old.pending rest)
    (none : of_statement es old.machine.open_state.quirks old.doc.tree a ≡ []) (there : LacksElement old.doc.tree a → ⊥) (text : written_by a ≡ t) where
  wrote-fits : Writes a t → old.written + length t ≤ write_limit → DoesMost es k a old rest (record old { written = old.written + length t }) (rest ++ t) did.All
  wrote-fits writes fits = record {
    done = λ list fs. record {
      turns = λ w before page is.
          then-on w (NestComesTo w (nest_of old (framed k (a ∷ list) rest ∷ fs) before page)) (record old { written = old.written + length t })
          (framed k list (rest ++ t) ∷ fs) before page going.halted
          (λ g come. writes w (nest_of old (framed k (a ∷ list) rest ∷ fs) before page) (framed k (a ∷ list) rest) fs list g refl refl waits fits come);
    };
    served = going.served;
    light = record { light = omega (arith, length-append rest t); behind = refl; pending = refl };
    lacks = there;
    writes = λ on. ap (λ (u : List ℕ). rest ++ u) (sym text);
    doc = changed-none es a old none;
    machine = refl;
  }

  wrote-long : Overruns a t → write_limit < old.written + length t → DoesMost es k a old rest (record old { halted = Some why.Writes }) rest did.All
  wrote-long overruns long = record {
    done = λ list fs. record {
      turns = λ w before page is. (
        refuses why.Writes (state_of (nest_of old (framed k (a ∷ list) rest ∷ fs) before page)),
        record { last = state_of (nest_of old (framed k (a ∷ list) rest ∷ fs) before page); is = refl; lines = refl; doc = refl },
        overruns w (nest_of old (framed k (a ∷ list) rest ∷ fs) before page) (framed k (a ∷ list) rest) fs list refl refl waits long,
      );
    };
    served = going.served;
    light = record { light = omega arith; behind = refl; pending = refl };
    lacks = there;
    writes = λ on. absurd (cc on);
    doc = changed-none es a old none;
    machine = refl;
  }

  does-write_of : Writes a t → Overruns a t → (new : Live) (rest' : List ℕ) (d : Did) → HasWritten old rest t new rest' d → DoesMost es k a old rest new rest' d
  does-write_of writes overruns new rest' d has = subst (λ d'. DoesMost es k a old rest new rest' d') (sym has.did) (by_limit (cases_lt write_limit (old.written + length t)))
    where
      by_limit : (write_limit < old.written + length t) ⊎ (old.written + length t ≤ write_limit) → DoesMost es k a old rest new rest' did.All
      by_limit (inr fits) =
          let is = has.fits fits in
          subst (λ n. DoesMost es k a old rest n rest' did.All) (sym is.0)
          (subst (λ r. DoesMost es k a old rest (record old { written = old.written + length t }) r did.All) (sym is.1) (wrote-fits writes fits))
      by_limit (inl long) =
          let is = has.long long in
          subst (λ n. DoesMost es k a old rest n rest' did.All) (sym is.0)
          (subst (λ r. DoesMost es k a old rest (record old { halted = Some why.Writes }) r did.All) (sym is.1) (wrote-long overruns long))

pub does-write : (es : Entities) (k : ℕ) (t : List ℕ) (old : Live) (rest : List ℕ) (new : Live) (rest' : List ℕ) (d : Did) → IsGoing old → Waits old.pending rest →
    HasWritten old rest t new rest' d → DoesMost es k (statement.Write t) old rest new rest' d
does-write es k t old rest new rest' d going waits has =
    does-write_of es k (statement.Write t) t old rest going waits refl (λ none. none) refl
    (λ w x f fs list g. write-fits w x f fs t list g) (λ w x f fs list. write-refuses w x f fs t list) new rest' d has

pub does-write_line : (es : Entities) (k : ℕ) (t : List ℕ) (old : Live) (rest : List ℕ) (new : Live) (rest' : List ℕ) (d : Did) → IsGoing old → Waits old.pending rest →
    HasWritten old rest (with_line_feed t) new rest' d → DoesMost es k (statement.WriteLine t) old rest new rest' d
does-write_line es k t old rest new rest' d going waits has =
    does-write_of es k (statement.WriteLine t) (with_line_feed t) old rest going waits refl (λ none. none) refl
    (λ w x f fs list g. line-fits w x f fs t list g) (λ w x f fs list. line-refuses w x f fs t list) new rest' d has

-- ---- an element that isn't there

lacks : (es : Entities) (k : ℕ) (a : Statement) (old : Live) (rest : List ℕ) (new : Live) (rest' : List ℕ) (d : Did) → IsGoing old → LacksElement old.doc.tree a → rest' ≡ rest →
    (new ≡ old) × (d ≡ did.Nothing) → DoesMost es k a old rest new rest' d
lacks es k a old rest new rest' d going absent same (is, nothing) =
    subst (λ d'. DoesMost es k a old rest new rest' d') (sym nothing)
    (subst (λ r. DoesMost es k a old rest new r did.Nothing) (sym same)
    (subst (λ n. DoesMost es k a old rest n rest did.Nothing) (sym is)
    (record {
      done = (refl, refl, absent);
      served = going.served;
      light = record { light = omega arith; behind = refl; pending = refl };
      lacks = absent;
      writes = λ on. stays-written rest (written_by a) (lacks-writes old.doc.tree a absent);
      doc = changed-none es a old (lacks-changes es old.machine.open_state.quirks old.doc.tree a absent);
      machine = refl;
    })))

-- ---- a removal

removed-there : (es : Entities) (k : ℕ) (v : List ℕ) (old : Live) (rest : List ℕ) (e : ℕ) → IsGoing old → Waits old.pending rest → find_id old.doc.tree v ≡ Some e →
    DoesMost es k (statement.Remove v) old rest (record old { doc = record old.doc { tree = detached old.doc.tree e } }) rest did.All
removed-there es k v old rest e going waits there = record {
  done = λ list fs. record {
    turns = λ w before page is.
        then-on w (NestComesTo w (nest_of old (framed k (statement.Remove v ∷ list) rest ∷ fs) before page)) (record old { doc = record old.doc { tree = detached old.doc.tree e } })
        (framed k list rest ∷ fs) before page going.halted
        (λ g come. removes w (nest_of old (framed k (statement.Remove v ∷ list) rest ∷ fs) before page) (framed k (statement.Remove v ∷ list) rest) fs v list e g
        refl refl waits there come);
  };
  served = going.served;
  light = record { light = omega arith; behind = refl; pending = refl };
  lacks = λ none. absurd (cc (sym there ∙ none));
  writes = λ on. sym (append-nil rest);
  doc = sym (ap (λ (f : Option ℕ). fold changed old.doc (of_removal f)) there);
  machine = refl;
}

pub does-remove : (es : Entities) (k : ℕ) (v : List ℕ) (old : Live) (rest : List ℕ) (new : Live) (rest' : List ℕ) (d : Did) → IsGoing old → Waits old.pending rest → rest' ≡ rest →
    HasRemoved (find_id old.doc.tree v) old new d → DoesMost es k (statement.Remove v) old rest new rest' d
does-remove es k v old rest new rest' d going waits same = by_found (find_id old.doc.tree v) refl
  where
    by_found : (found : Option ℕ) → find_id old.doc.tree v ≡ found → HasRemoved found old new d → DoesMost es k (statement.Remove v) old rest new rest' d
    by_found None none has = lacks es k (statement.Remove v) old rest new rest' d going none same has
    by_found (Some e) there (is, all) =
        subst (λ d'. DoesMost es k (statement.Remove v) old rest new rest' d') (sym all)
        (subst (λ r. DoesMost es k (statement.Remove v) old rest new r did.All) (sym same)
        (subst (λ n. DoesMost es k (statement.Remove v) old rest n rest did.All) (sym is) (removed-there es k v old rest e going waits there)))

-- ---- a move

-- what a document answers that made it, or couldn't
module _ (old : Live) (doc : Doc) (v w : Option ℕ) (first second : ℕ) (is_v : v ≡ Some first) (is_w : w ≡ Some second)
    (left : doc ≡ record old.doc { tree = (if lies_in old.doc.tree first second then old.doc.tree else moved old.doc.tree second first None) }) where
  pub appended-done : put.Done ≡ (if lies_in old.doc.tree first second then put.Impossible else put.Done) → HasAppended (appended old.doc.tree v w) old (record old { doc = doc }) did.All
  appended-done answer = rw (is_v, is_w) (by_test (lies_in old.doc.tree first second) answer left)
    where
      by_test : (b : Bool) → put.Done ≡ (if b then put.Impossible else put.Done) → doc ≡ record old.doc { tree = (if b then old.doc.tree else moved old.doc.tree second first None) } →
          HasAppended (if b then None else Some (moved old.doc.tree second first None)) old (record old { doc = doc }) did.All
      by_test true answer left = absurd (cc)
      by_test false answer left = (ap (λ (d : Doc). record old { doc = d }) left, refl)

  pub appended-impossible : put.Impossible ≡ (if lies_in old.doc.tree first second then put.Impossible else put.Done) → HasAppended (appended old.doc.tree v w) old (record old { doc = doc }) did.Nothing
  appended-impossible answer = rw (is_v, is_w) (by_test (lies_in old.doc.tree first second) answer left)
    where
      by_test : (b : Bool) → put.Impossible ≡ (if b then put.Impossible else put.Done) → doc ≡ record old.doc { tree = (if b then old.doc.tree else moved old.doc.tree second first None) } →
          HasAppended (if b then None else Some (moved old.doc.tree second first None)) old (record old { doc = doc }) did.Nothing
      by_test true answer left = (ap (λ (d : Doc). record old { doc = d }) left, refl)
      by_test false answer left = absurd (cc)

-- or that lacks an element
pub lacks-first : (old : Live) (v w : Option ℕ) → v ≡ None → HasAppended (appended old.doc.tree v w) old old did.Nothing
lacks-first old v w none = rw none (refl, refl)

pub lacks-second : (old : Live) (v w : Option ℕ) (first : ℕ) → v ≡ Some first → w ≡ None → HasAppended (appended old.doc.tree v w) old old did.Nothing
lacks-second old v w first is none = rw (is, none) (refl, refl)

-- which left this tree
moved-there : (es : Entities) (k : ℕ) (v w : List ℕ) (old : Live) (rest : List ℕ) (t : Nodes) → IsGoing old → Waits old.pending rest →
    appended old.doc.tree (find_id old.doc.tree v) (find_id old.doc.tree w) ≡ Some t →
    DoesMost es k (statement.Append v w) old rest (record old { doc = record old.doc { tree = t } }) rest did.All
moved-there es k v w old rest t going waits there = record {
  done = λ list fs. record {
    turns = λ world before page is.
        then-on world (NestComesTo world (nest_of old (framed k (statement.Append v w ∷ list) rest ∷ fs) before page)) (record old { doc = record old.doc { tree = t } })
        (framed k list rest ∷ fs) before page going.halted
        (λ g come. appends world (nest_of old (framed k (statement.Append v w ∷ list) rest ∷ fs) before page) (framed k (statement.Append v w ∷ list) rest) fs v w list t g
        refl refl waits there come);
  };
  served = going.served;
  light = record { light = omega arith; behind = refl; pending = refl };
  lacks = λ none. absurd (cc (sym there ∙ none));
  writes = λ on. sym (append-nil rest);
  doc = moved-doc old.doc (find_id old.doc.tree v) (find_id old.doc.tree w) t there;
  machine = refl;
}

pub does-append : (es : Entities) (k : ℕ) (v w : List ℕ) (old : Live) (rest : List ℕ) (new : Live) (rest' : List ℕ) (d : Did) → IsGoing old → Waits old.pending rest → rest' ≡ rest →
    HasAppended (appended old.doc.tree (find_id old.doc.tree v) (find_id old.doc.tree w)) old new d → DoesMost es k (statement.Append v w) old rest new rest' d
does-append es k v w old rest new rest' d going waits same = by_left (appended old.doc.tree (find_id old.doc.tree v) (find_id old.doc.tree w)) refl
  where
    by_left : (left : Option Nodes) → appended old.doc.tree (find_id old.doc.tree v) (find_id old.doc.tree w) ≡ left → HasAppended left old new d →
        DoesMost es k (statement.Append v w) old rest new rest' d
    by_left None none has = lacks es k (statement.Append v w) old rest new rest' d going none same has
    by_left (Some t) there (is, all) =
        subst (λ d'. DoesMost es k (statement.Append v w) old rest new rest' d') (sym all)
        (subst (λ r. DoesMost es k (statement.Append v w) old rest new r did.All) (sym same)
        (subst (λ n. DoesMost es k (statement.Append v w) old rest n rest did.All) (sym is) (moved-there es k v w old rest t going waits there)))

-- ---- what stands in an element

-- what a document answers that lacks it, and what comes of the fragment
module _ (es : Entities) (quirks : Bool) (old : Live) (found : Option ℕ) (text : List ℕ) where
  pub set-lacking : found ≡ None → HasSet (inner_set es quirks old.doc.tree found text) old old did.Nothing
  unfolding inner_set
  set-lacking none = subst (λ (f : Option ℕ). HasSet (inner_set es quirks old.doc.tree f text) old old did.Nothing) (sym none) (refl, refl)

  module _ (n : ℕ) (context : Context) (is : found ≡ Some n) (there : context ≡ context_at old.doc.tree n quirks) where
    set-as : (ops : Option (List Op)) → ops ≡ fragment es context text → inner_set es quirks old.doc.tree found text ≡ set_by old.doc.tree n context.form ops
    unfolding inner_set
    set-as ops same =
        ap (λ (f : Option ℕ). inner_set es quirks old.doc.tree f text) is
        ∙ (ap (λ (c : Context). set_by old.doc.tree n c.form (fragment es c text)) (sym there) ∙ ap (set_by old.doc.tree n context.form) (sym same))

    pub set-deep : None ≡ fragment es context text → HasSet (inner_set es quirks old.doc.tree found text) old (record old { halted = Some why.Depth }) did.All
    set-deep none = subst (λ (s : Setting). HasSet s old (record old { halted = Some why.Depth }) did.All) (sym (set-as None none)) (refl, refl)

    pub set-filled : (ops : List Op) (doc : Doc) → Some ops ≡ fragment es context text → doc ≡ record old.doc { tree = filled old.doc.tree n context.form ops }
        → HasSet (inner_set es quirks old.doc.tree found text) old (record old { doc = doc }) did.All
    set-filled ops doc some done =
        subst (λ (s : Setting). HasSet s old (record old { doc = doc }) did.All) (sym (set-as (Some ops) some)) (ap (λ (d : Doc). record old { doc = d }) done, refl)

none-lacking : (es : Entities) (quirks : Bool) (t : Nodes) (found : Option ℕ) (text : List ℕ) → found ≡ None → inner_set es quirks t found text ≡ lacking
unfolding inner_set
none-lacking es quirks t found text is = subst (λ (f : Option ℕ). inner_set es quirks t f text ≡ lacking) (sym is) refl

lacking-none : (es : Entities) (quirks : Bool) (t : Nodes) (found : Option ℕ) (text : List ℕ) → inner_set es quirks t found text ≡ lacking → found ≡ None
unfolding inner_set
lacking-none es quirks t None text is = refl
lacking-none es quirks t (Some n) text is = let c : Context = context_at t n quirks in by c.form (fragment es c text) is
  where
    by : (form : Bool) (ops : Option (List Op)) → set_by t n form ops ≡ lacking → Some n ≡ None
    by form None is = absurd (cc is)
    by form (Some ops) is = absurd (cc is)

module _ (es : Entities) (k : ℕ) (v text : List ℕ) (old : Live) (rest : List ℕ) (going : IsGoing old) (waits : Waits old.pending rest) where
  abbrev set : Setting
  set = inner_set es old.machine.open_state.quirks old.doc.tree (find_id old.doc.tree v) text

  abbrev this : Statement
  this = statement.SetInner v text

  in_world : (w : World) → w.entities ≡ es → (s : Setting) → set ≡ s → inner_set w.entities old.machine.open_state.quirks old.doc.tree (find_id old.doc.tree v) text ≡ s
  in_world w is s there = ap (λ e. inner_set e old.machine.open_state.quirks old.doc.tree (find_id old.doc.tree v) text) is ∙ there

  -- where its element isn't there
  set-none : find_id old.doc.tree v ≡ None → set ≡ lacking
  set-none none = none-lacking es old.machine.open_state.quirks old.doc.tree (find_id old.doc.tree v) text none

  filled-there : (t : Nodes) → set ≡ setting t → DoesMost es k this old rest (record old { doc = record old.doc { tree = t } }) rest did.All
  filled-there t there = record {
    done = λ list fs. record {
      turns = λ w before page is.
          then-on w (NestComesTo w (nest_of old (framed k (this ∷ list) rest ∷ fs) before page)) (record old { doc = record old.doc { tree = t } })
          (framed k list rest ∷ fs) before page going.halted
          (λ g come. fills w (nest_of old (framed k (this ∷ list) rest ∷ fs) before page) (framed k (this ∷ list) rest) fs v text list t g
          refl refl waits (in_world w is (setting t) there) come);
    };
    served = going.served;
    light = record { light = omega arith; behind = refl; pending = refl };
    lacks = λ none. absurd (cc (sym there ∙ set-none none));
    writes = λ on. sym (append-nil rest);
    doc = set-doc es old.machine.open_state.quirks old.doc (find_id old.doc.tree v) text t there;
    machine = refl;
  }

  filled-deep : set ≡ too_deep → DoesMost es k this old rest (record old { halted = Some why.Depth }) rest did.All
  filled-deep there = record {
    done = λ list fs. record {
      turns = λ w before page is. (
        refuses why.Depth (state_of (nest_of old (framed k (this ∷ list) rest ∷ fs) before page)),
        record { last = state_of (nest_of old (framed k (this ∷ list) rest ∷ fs) before page); is = refl; lines = refl; doc = refl },
        fill-refuses w (nest_of old (framed k (this ∷ list) rest ∷ fs) before page) (framed k (this ∷ list) rest) fs v text list refl refl waits (in_world w is too_deep there),
      );
    };
    served = going.served;
    light = record { light = omega arith; behind = refl; pending = refl };
    lacks = λ none. absurd (cc (sym there ∙ set-none none));
    writes = λ on. absurd (cc on);
    doc = changed-none es this old (deep-none es old.machine.open_state.quirks old.doc.tree (find_id old.doc.tree v) text there);
    machine = refl;
  }

  pub does-set_inner : (new : Live) (rest' : List ℕ) (d : Did) → rest' ≡ rest → HasSet set old new d → DoesMost es k this old rest new rest' d
  does-set_inner new rest' d same = by_setting set refl
    where
      all : (n : Live) → DoesMost es k this old rest n rest did.All → (new ≡ n) × (d ≡ did.All) → DoesMost es k this old rest new rest' d
      all n does (is, every) =
          subst (λ d'. DoesMost es k this old rest new rest' d') (sym every)
          (subst (λ r. DoesMost es k this old rest new r did.All) (sym same) (subst (λ m. DoesMost es k this old rest m rest did.All) (sym is) does))

      by_setting : (s : Setting) → set ≡ s → HasSet s old new d → DoesMost es k this old rest new rest' d
      by_setting lacking there has =
          lacks es k this old rest new rest' d going (lacking-none es old.machine.open_state.quirks old.doc.tree (find_id old.doc.tree v) text there) same has
      by_setting too_deep there has = all (record old { halted = Some why.Depth }) (filled-deep there) has
      by_setting (setting t) there has = all (record old { doc = record old.doc { tree = t } }) (filled-there t there) has

-- ---- a reading

-- a statement that reads an element
abbrev Reads : Statement → Live → List ℕ → ℕ → Type 0
Reads a old rest e =
    (w : World) (k : ℕ) (list : List Statement) (fs : List Frame) (before : List Line) (page : List ℕ) (g : Course) →
    NestComesTo w (record (nest_of old (framed k list rest ∷ fs) before page) { lines = (before ++ old.lines) ++ line.Log k (outer_text old.doc.tree e) ∷ [] }) g →
    NestComesTo w (nest_of old (framed k (a ∷ list) rest ∷ fs) before page) g

reads-there : (es : Entities) (k : ℕ) (a : Statement) (old : Live) (rest : List ℕ) (new : Live) (rest' : List ℕ) (d : Did) (e : ℕ) → IsGoing old → rest' ≡ rest → Reads a old rest e →
    of_statement es old.machine.open_state.quirks old.doc.tree a ≡ [] → (LacksElement old.doc.tree a → ⊥) → written_by a ≡ [] → HasRead k (Some e) old new d → DoesMost es k a old rest new rest' d
reads-there es k a old rest new rest' d e going same reads none there text (is, all) =
    subst (λ d'. DoesMost es k a old rest new rest' d') (sym all)
    (subst (λ r. DoesMost es k a old rest new r did.All) (sym same)
    (subst (λ n. DoesMost es k a old rest n rest did.All) (sym is) (record {
      done = λ list fs. record {
        turns = λ w before page world.
            then-on w (NestComesTo w (nest_of old (framed k (a ∷ list) rest ∷ fs) before page)) (record old { lines = old.lines ++ line.Log k (outer_text old.doc.tree e) ∷ [] })
            (framed k list rest ∷ fs) before page going.halted
            (λ g come. reads w k list fs before page g
            (subst (λ l. NestComesTo w (record (nest_of old (framed k list rest ∷ fs) before page) { lines = l }) g)
            (sym (append_assoc before old.lines (line.Log k (outer_text old.doc.tree e) ∷ []))) come));
      };
      served = going.served;
      light = record { light = omega arith; behind = refl; pending = refl };
      lacks = there;
      writes = λ on. stays-written rest (written_by a) text;
      doc = changed-none es a old none;
      machine = refl;
    })))

pub does-read-by_id : (es : Entities) (k : ℕ) (v : List ℕ) (old : Live) (rest : List ℕ) (new : Live) (rest' : List ℕ) (d : Did) → IsGoing old → Waits old.pending rest → rest' ≡ rest →
    HasRead k (find_id old.doc.tree v) old new d → DoesMost es k (statement.LogById v) old rest new rest' d
does-read-by_id es k v old rest new rest' d going waits same = by_found (find_id old.doc.tree v) refl
  where
    by_found : (found : Option ℕ) → find_id old.doc.tree v ≡ found → HasRead k found old new d → DoesMost es k (statement.LogById v) old rest new rest' d
    by_found None none has = lacks es k (statement.LogById v) old rest new rest' d going none same has
    by_found (Some e) there has =
        reads-there es k (statement.LogById v) old rest new rest' d e going same
        (λ w j list fs before page g come. reads_by_id w (nest_of old (framed j (statement.LogById v ∷ list) rest ∷ fs) before page) (framed j (statement.LogById v ∷ list) rest) fs v list e g
        refl refl waits there come) refl (λ none. absurd (cc (sym there ∙ none))) refl has

pub does-read-root : (es : Entities) (k : ℕ) (old : Live) (rest : List ℕ) (new : Live) (rest' : List ℕ) (d : Did) → IsGoing old → Waits old.pending rest → rest' ≡ rest →
    HasRead k (first_element old.doc.tree) old new d → DoesMost es k statement.LogRoot old rest new rest' d
does-read-root es k old rest new rest' d going waits same = by_found (first_element old.doc.tree) refl
  where
    by_found : (found : Option ℕ) → first_element old.doc.tree ≡ found → HasRead k found old new d → DoesMost es k statement.LogRoot old rest new rest' d
    by_found None none has = lacks es k statement.LogRoot old rest new rest' d going none same has
    by_found (Some e) there has =
        reads-there es k statement.LogRoot old rest new rest' d e going same
        (λ w j list fs before page g come. reads_root w (nest_of old (framed j (statement.LogRoot ∷ list) rest ∷ fs) before page) (framed j (statement.LogRoot ∷ list) rest) fs list e g
        refl refl waits there come) refl (λ none. absurd (cc (sym there ∙ none))) refl has

-- ---- all of a statement

pub does-all : (es : Entities) (k : ℕ) (a : Statement) (old : Live) (rest : List ℕ) (new : Live) (rest' : List ℕ) (d : Did) → (d ≡ did.Nothing → ⊥) → DoesMost es k a old rest new rest' d →
    Does es k a old rest new rest' d
does-all es k a old rest new rest' did.All there does = record { turns = does.done; served = does.served; light = does.light; lacks = does.lacks; writes = does.writes; doc = does.doc; machine = does.machine }
does-all es k a old rest new rest' did.Nothing there does = absurd (there refl)

pub does-throw : (es : Entities) (k : ℕ) (a : Statement) (old : Live) (rest : List ℕ) (mid new : Live) (rest' : List ℕ) (d : Did) → IsGoing old → Waits old.pending rest → d ≡ did.Nothing →
    DoesMost es k a old rest mid rest' d → new ≡ record mid { lines = mid.lines ++ line.Throw k ∷ [] } → Does es k a old rest new rest' d
does-throw es k a old rest mid new rest' did.All going waits there does is = absurd (cc there)
does-throw es k a old rest mid new rest' did.Nothing going waits there does is =
    subst (λ r. Does es k a old rest new r did.Nothing) (sym does.done.1)
    (subst (λ n. Does es k a old rest n rest did.Nothing) (sym (is ∙ ap (λ (m : Live). record m { lines = m.lines ++ line.Throw k ∷ [] }) does.done.0)) (record {
      turns = λ list fs. record {
        turns = λ w before page world.
            then-on w (NestComesTo w (nest_of old (framed k (a ∷ list) rest ∷ fs) before page)) (record old { lines = old.lines ++ line.Throw k ∷ [] })
            (framed k [] rest ∷ fs) before page going.halted
            (λ g come. throws w (nest_of old (framed k (a ∷ list) rest ∷ fs) before page) (framed k (a ∷ list) rest) fs a list g refl refl waits does.done.2
            (subst (λ l. NestComesTo w (record (nest_of old (framed k [] rest ∷ fs) before page) { lines = l }) g)
            (sym (append_assoc before old.lines (line.Throw k ∷ []))) come));
      };
      served = going.served;
      light = record { light = omega arith; behind = refl; pending = refl };
      lacks = does.done.2;
      writes = λ on. stays-written rest (written_by a) (lacks-writes old.doc.tree a does.done.2);
      doc = changed-none es a old (lacks-changes es old.machine.open_state.quirks old.doc.tree a does.done.2);
      machine = refl;
    }))

-- a call's answer says more than it owes
pub if_ok : {T E : Type 0} (r : Result T E) (P Q : T → Type 0) → ((x : T) → P x → Q x) → IfOk r P → IfOk r Q
if_ok (Ok x) P Q more has = more x has
if_ok (Err e) P Q more has = tt

-- ---- the statement at a place

pub next-is : (list : List Statement) (i : ℕ) (a : Statement) → i < length list → a ≡ get_or list i a → drop i list ≡ a ∷ drop (i + 1) list
next-is list i a lt is = rw add-one (drop-cons list i a lt ∙ ap (λ x. x ∷ drop (suc i) list) (sym is))

pub halted-some : (h : Option Why) → is_some h ≡ true → (l : Why) × (h ≡ Some l)
halted-some None is = absurd (cc is)
halted-some (Some l) is = (l, refl)

pub halted-none : (h : Option Why) → is_some h ≡ false → h ≡ None
halted-none None is = refl
halted-none (Some l) is = absurd (cc is)

pub on_ok : {T E : Type 0} (r : Result T E) (P Q : Type 0) → (P → Q) → OnOk r P → OnOk r Q
on_ok (Ok x) P Q more has = more has
on_ok (Err e) P Q more has = tt

pub ok_if : {T E : Type 0} (r : Result T E) (P : T → Type 0) (Q : Type 0) → ((x : T) → P x → Q) → IfOk r P → OnOk r Q
ok_if (Ok x) P Q more has = more x has
ok_if (Err e) P Q more has = tt
