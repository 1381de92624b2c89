-- Nested scripts: their statements, their ends, and those that begin inside.
use Rattle.std.proofs.Common.{◌≡◌, ◌<◌, ◌≤◌, ◌+◌, ℕ, suc, List, [], ◌∷◌, ◌++◌, length, map, reverse, drop, Option, Some, None, refl, sym, ap, ◌∙◌, subst, append_assoc, length-append, arith}
use Rattle.std.proofs.lemmas.List.{reverse-append}
use Rattle.html_types.specs.declared.operation.NodeId.{NodeId}
use Rattle.serial.specs.declared.script.Line.{Line}
use Rattle.serial.specs.declared.script.Statement.{Statement}
use Rattle.html_types.specs.declared.ending.Why.TheVariants as why
use Rattle.html_types.specs.declared.ending.Why.{Why}
use Rattle.html_types.specs.declared.instruction.Stop.{Stop}
use Rattle.html_types.specs.declared.instruction.Stop.TheVariants as stop
use Rattle.standard.specs.Entities.{Entities}
use Rattle.standard.specs.Act.{Doc}
use Rattle.standard.specs.Parser.{Parser}
use Rattle.standard_laws.specs.Laws.{HasParsed}
use Rattle.serial.specs.Serial.{World, Course, refuses}
use Rattle.standard_laws.specs.Frames.{Frame, rests, state_of, parsed_to, NestComesTo, Waits}
use Rattle.write_parser.specs.declared.nesting.Begun.{Begun}
use Rattle.write_parser.specs.declared.nesting.Nesting.{Nesting}
use Rattle.write_parser.specs.declared.live.Live.{Live}
use Rattle.write_parser.specs.declared.live.Did.{Did}
use Rattle.write_parser.specs.declared.live.Did.TheVariants as did
use Rattle.write_parser.specs.declared.live.Progress.{Progress}
use Rattle.write_parser.specs.declared.live.Progress.TheVariants as turn
use Rattle.write_parser.specs.Parsing.{IsServed, RestParsed}
use Rattle.write_parser.specs.Writing.{scripts_awaited}
use Rattle.write_parser.specs.Made.{IsPrepared}
use Rattle.write_parser.specs.Steps.{Steps, IsGoing, at_of, framed, frame_of, frames_of, nest_of, ThenBy, Then, weight, steps_of, Moves, frames_at, Prepares, Nests, left_by, IsLight, Does, RunsOn, Continues, ParsesOn}
use Rattle.standard_laws.proofs.Passing.{parse-left}
use Rattle.standard_laws.proofs.Frames.{frame-ends, rest-ends, rest-stops, rest-refuses}
use Rattle.write_parser.proofs.StatementLemmas.{then-on, on-then}

-- ---- one part behind another

-- what comes of the state between comes of the first
pub then-then : (w : World) (Of : Course → Type 0) (mid new : Live) (fs fs' : List Frame) (before : List Line) (page : List ℕ) → mid.halted ≡ None → Then w Of mid fs before page →
    Then w (NestComesTo w (nest_of mid fs before page)) new fs' before page → Then w Of new fs' before page
then-then w Of mid new fs fs' before page on first second = by new.halted second
  where
    by : (h : Option Why) → ThenBy h w (NestComesTo w (nest_of mid fs before page)) new fs' before page → ThenBy h w Of new fs' before page
    by None second = λ g come. on-then w Of mid fs before page on first g (second g come)
    by (Some l) (g, refusal, come) = (g, refusal, on-then w Of mid fs before page on first g come)

pub moves-then : (es : Entities) (old mid new : Live) (fs fs' fs'' : List Frame) → mid.halted ≡ None → Moves es old fs mid fs' → Moves es mid fs' new fs'' → Moves es old fs new fs''
moves-then es old mid new fs fs' fs'' on first second = record {
  turns = record {
    turns = λ w before page is.
        then-then w (NestComesTo w (nest_of old fs before page)) mid new fs' fs'' before page on (first.turns.turns w before page is) (second.turns.turns w before page is);
  };
  served = second.served;
  weight = omega (arith, first.weight, second.weight);
}

pub moves-nowhere : (es : Entities) (l : Live) (fs : List Frame) → IsGoing l → Moves es l fs l fs
moves-nowhere es l fs going = record {
  turns = record { turns = λ w before page is. then-on w (NestComesTo w (nest_of l fs before page)) l fs before page going.halted (λ g come. come) };
  served = going.served;
  weight = omega arith;
}

-- ---- the end of the innermost script

ends-outermost : (es : Entities) (old : Live) (f : Frame) → IsGoing old → Waits old.pending f.rest → f.list ≡ [] → Moves es old (f ∷ []) (record old { rest = f.rest ++ old.rest }) []
ends-outermost es old f going waits ended = record {
  turns = record {
    turns = λ w before page is.
        then-on w (NestComesTo w (nest_of old (f ∷ []) before page)) (record old { rest = f.rest ++ old.rest }) [] before page going.halted
        (λ g come. frame-ends w (nest_of old (f ∷ []) before page) f [] g refl ended waits
        (subst (λ b. NestComesTo w (record (nest_of old [] before page) { behind = b }) g) (append_assoc f.rest old.rest page) come));
  };
  served = going.served;
  weight = omega (arith, length-append f.rest old.rest, length-append f.rest []);
}

ends-inner : (es : Entities) (old : Live) (f around : Frame) (fs : List Frame) → IsGoing old → Waits old.pending f.rest → f.list ≡ [] →
    Moves es old (f ∷ around ∷ fs) old ((record around { rest = f.rest ++ around.rest }) ∷ fs)
ends-inner es old f around fs going waits ended = record {
  turns = record {
    turns = λ w before page is.
        then-on w (NestComesTo w (nest_of old (f ∷ around ∷ fs) before page)) old ((record around { rest = f.rest ++ around.rest }) ∷ fs) before page going.halted
        (λ g come. frame-ends w (nest_of old (f ∷ around ∷ fs) before page) f (around ∷ fs) g refl ended waits come);
  };
  served = going.served;
  weight = omega (arith, length-append (f.rest ++ around.rest) (rests fs), length-append f.rest around.rest, length-append f.rest (around.rest ++ rests fs), length-append around.rest (rests fs));
}

-- the frames around the innermost, where the one before it in the list is the last
pub frames-below : (items front : List Begun) (b : Begun) → items ≡ front ++ b ∷ [] → map frame_of (reverse items) ≡ frame_of b ∷ map frame_of (reverse front)
frames-below items front b is = ap (λ l. map frame_of (reverse l)) is ∙ ap (map frame_of) (reverse-append front (b ∷ []))

pub step-ends-outermost : (es : Entities) (old new : Live) (n n' : Nesting) → IsGoing old → Waits old.pending n.top.rest → drop n.top.done n.top.script ≡ [] → n.below.items ≡ [] →
    new ≡ record old { rest = n.top.rest ++ old.rest } → Steps es old n new n' turn.Over
step-ends-outermost es old new n n' going waits ended none is = record {
  moves = rw (is, none) (ends-outermost es old (frame_of n.top) going waits ended);
  on = λ over. absurd (cc over);
}

pub step-ends-inner : (es : Entities) (old : Live) (n n' : Nesting) (around : Begun) → IsGoing old → Waits old.pending n.top.rest → drop n.top.done n.top.script ≡ [] →
    n.below.items ≡ n'.below.items ++ around ∷ [] → n'.top ≡ record around { rest = n.top.rest ++ around.rest } → Steps es old n old n' turn.On
step-ends-inner es old n n' around going waits ended below is = record {
  moves =
      subst (λ fs. Moves es old (frame_of n.top ∷ fs) old (frames_of n')) (sym (frames-below n.below.items n'.below.items around below))
      (subst (λ b. Moves es old (frame_of n.top ∷ frame_of around ∷ map frame_of (reverse n'.below.items)) old (frame_of b ∷ map frame_of (reverse n'.below.items))) (sym is)
      (ends-inner es old (frame_of n.top) (frame_of around) (map frame_of (reverse n'.below.items)) going waits ended));
  on = λ _. (going.halted, fewer);
}
  where
    fewer : steps_of (frames_of n') < steps_of (frames_of n)
    fewer =
        subst (λ fs. steps_of (frames_of n') < steps_of (frame_of n.top ∷ fs)) (sym (frames-below n.below.items n'.below.items around below))
        (subst (λ b. steps_of (frame_of b ∷ map frame_of (reverse n'.below.items)) < steps_of (frame_of n.top ∷ frame_of around ∷ map frame_of (reverse n'.below.items))) (sym is) (omega arith))

-- ---- a statement of the innermost script

light-weight : (old new : Live) (k j : ℕ) (list list' : List Statement) (rest rest' : List ℕ) (fs : List Frame) → IsLight old rest new rest' →
    weight new (framed j list' rest' ∷ fs) ≤ weight old (framed k list rest ∷ fs)
light-weight old new k j list list' rest rest' fs light =
    omega (arith, light.light, ap length light.behind, ap scripts_awaited light.pending, length-append rest (rests fs), length-append rest' (rests fs))

light-over : (old new : Live) (k : ℕ) (list : List Statement) (rest rest' : List ℕ) (fs : List Frame) → IsLight old rest new rest' → weight new [] ≤ weight old (framed k list rest ∷ fs)
light-over old new k list rest rest' fs light =
    omega (arith, light.light, ap length light.behind, ap scripts_awaited light.pending, length-append rest (rests fs))

-- where the page is refused, it doesn't matter which scripts are left
refused-then : (w : World) (Of : Course → Type 0) (new : Live) (fs fs' : List Frame) (before : List Line) (page : List ℕ) (l : Why) → new.halted ≡ Some l → Then w Of new fs before page →
    Then w Of new fs' before page
refused-then w Of new fs fs' before page l is then_ = subst (λ h. ThenBy h w Of new fs' before page) (sym is) (subst (λ h. ThenBy h w Of new fs before page) is then_)

-- the next statement of the innermost script
abbrev pub NextIs : Begun → Statement → Type 0
NextIs b a = drop b.done b.script ≡ a ∷ drop (b.done + 1) b.script

pub step-refused : (es : Entities) (old new : Live) (n n' : Nesting) (a : Statement) (rest' : List ℕ) (d : Did) (l : Why) → NextIs n.top a → Does es n.top.number a old n.top.rest new rest' d →
    new.halted ≡ Some l → Steps es old n new n' turn.Over
step-refused es old new n n' a rest' d l next does refused = record {
  moves = subst (λ list. Moves es old (framed n.top.number list n.top.rest ∷ map frame_of (reverse n.below.items)) new []) (sym next) (record {
    turns = record {
      turns = λ w before page is.
          refused-then w (NestComesTo w (nest_of old (framed n.top.number (a ∷ drop (n.top.done + 1) n.top.script) n.top.rest ∷ map frame_of (reverse n.below.items)) before page)) new
          (framed n.top.number (left_by d (drop (n.top.done + 1) n.top.script)) rest' ∷ map frame_of (reverse n.below.items)) [] before page l refused
          ((does.turns (drop (n.top.done + 1) n.top.script) (map frame_of (reverse n.below.items))).turns w before page is);
    };
    served = does.served;
    weight = light-over old new n.top.number (a ∷ drop (n.top.done + 1) n.top.script) n.top.rest rest' (map frame_of (reverse n.below.items)) does.light;
  });
  on = λ over. absurd (cc over);
}

-- the statements that are left behind it
abbrev pub LeftIs : Begun → Did → ℕ → Type 0
LeftIs b d done = drop done b.script ≡ left_by d (drop (b.done + 1) b.script)

pub step-on : (es : Entities) (old new : Live) (n n' : Nesting) (a : Statement) (rest' : List ℕ) (d : Did) (done : ℕ) → NextIs n.top a → Does es n.top.number a old n.top.rest new rest' d →
    new.halted ≡ None → LeftIs n.top d done → n' ≡ record n { top = record n.top { done = done; rest = rest' } } → Steps es old n new n' turn.On
step-on es old new n n' a rest' d done next does on left is = subst (λ m. Steps es old n new m turn.On) (sym is) (record {
  moves =
      subst (λ list. Moves es old (framed n.top.number list n.top.rest ∷ fs) new (framed n.top.number (drop done n.top.script) rest' ∷ fs)) (sym next)
      (subst (λ list. Moves es old (framed n.top.number (a ∷ more) n.top.rest ∷ fs) new (framed n.top.number list rest' ∷ fs)) (sym left) (record {
        turns = does.turns more fs;
        served = does.served;
        weight = light-weight old new n.top.number n.top.number (a ∷ more) (left_by d more) n.top.rest rest' fs does.light;
      }));
  on = λ _. (
    on,
    subst (λ list. suc (length (drop done n.top.script)) + steps_of fs < suc (length list) + steps_of fs) (sym next)
        (subst (λ list. suc (length list) + steps_of fs < suc (length (a ∷ more)) + steps_of fs) (sym left) (fewer d)),
  );
})
  where
    fs : List Frame
    fs = map frame_of (reverse n.below.items)

    more : List Statement
    more = drop (n.top.done + 1) n.top.script

    fewer : (e : Did) → suc (length (left_by e more)) + steps_of fs < suc (length (a ∷ more)) + steps_of fs
    fewer did.All = omega arith
    fewer did.Nothing = omega arith

-- ---- a script inside

pub nests-none : (id : NodeId) (old new : Live) (n : Nesting) → Prepares id old None new → Nests id old n new n
nests-none id old new n prepares = record {
  comes = λ w before page g come. prepares.comes w (frames_of n) before page g come;
  keeps = prepares.keeps;
  rests = refl;
  prepared = prepares.prepared (frames_of n);
}

pub nests-begun : (id : NodeId) (old new : Live) (n n' : Nesting) (b : Begun) → Prepares id old (Some b) new → n'.top ≡ b → n'.below.items ≡ n.below.items ++ n.top ∷ [] → Nests id old n new n'
nests-begun id old new n n' b prepares top below = record {
  comes = λ w before page g come.
      prepares.comes w (frames_of n) before page g (subst (λ fs. NestComesTo w (nest_of new fs before page) g) frames come);
  keeps = prepares.keeps;
  rests = ap rests frames ∙ ap (λ r. r ++ rests (frames_of n)) prepares.wrote;
  prepared = subst (λ (fs : List Frame). IsPrepared id (at_of old (frames_of n)) (at_of new fs)) (sym frames) (prepares.prepared (frames_of n));
}
  where
    frames : frames_of n' ≡ frame_of b ∷ frames_of n
    frames = ap (λ t. frame_of t ∷ map frame_of (reverse n'.below.items)) top ∙ ap (λ fs. frame_of b ∷ fs) (frames-below n'.below.items n.below.items n.top below)

-- ---- the text that the innermost script wrote

-- where that text, and nothing else of the scripts, changed
abbrev pub with_rest : List ℕ → Nesting → Nesting
with_rest rest n = record n { top = record n.top { rest = rest } }

abbrev pub parsed_live : Parser → Doc → Live → Live
parsed_live p d l = record l { machine = p; doc = d }

some-length : (text : List ℕ) → (text ≡ [] → ⊥) → 0 < length text
some-length [] some = absurd (some refl)
some-length (c ∷ cs) some = omega arith

-- all of it is used
parsed-whole : (es : Entities) (old : Live) (k : ℕ) (list : List Statement) (rest : List ℕ) (fs : List Frame) (p : Parser) (d : Doc) (left : List ℕ) → IsGoing old → old.pending ≡ None →
    HasParsed es old.machine old.doc rest p d left stop.InputEnd → IsServed p d → Moves es old (framed k list rest ∷ fs) (parsed_live p d old) (framed k list [] ∷ fs)
parsed-whole es old k list rest fs p d left going none parsed served = record {
  turns = record {
    turns = λ w before page is.
        then-on w (NestComesTo w (nest_of old (framed k list rest ∷ fs) before page)) (parsed_live p d old) (framed k list [] ∷ fs) before page going.halted
        (λ g come. rest-ends w (nest_of old (framed k list rest ∷ fs) before page) (framed k list rest) fs p d left g refl none
        (subst (λ e. HasParsed e old.machine old.doc rest p d left stop.InputEnd) (sym is) parsed) come);
  };
  served = served;
  weight = omega (arith, length-append rest (rests fs), length-append [] (rests fs));
}

pub parse-ends : (es : Entities) (old new : Live) (n n' : Nesting) (p : Parser) (d : Doc) (left : List ℕ) (s : Stop) → IsGoing old → Continues old.pending n.top.rest →
    RestParsed es old.machine old.doc n.top.rest p d left s → s ≡ stop.InputEnd → new ≡ parsed_live p d old → n' ≡ with_rest left n → ParsesOn es old n new n' turn.On
parse-ends es old new n n' p d left s going goes parsed ends is is' =
    subst (λ l. ParsesOn es old n l n' turn.On) (sym is) (subst (λ m. ParsesOn es old n (parsed_live p d old) m turn.On) (sym (is' ∙ ap (λ r. with_rest r n) none)) (record {
      moves = parsed-whole es old n.top.number (drop n.top.done n.top.script) n.top.rest (map frame_of (reverse n.below.items)) p d left going goes.pending whole parsed.served;
      on = λ _. (going.halted, lighter);
    }))
  where
    whole : HasParsed es old.machine old.doc n.top.rest p d left stop.InputEnd
    whole = subst (λ k. HasParsed es old.machine old.doc n.top.rest p d left k) ends parsed.parsed

    none : left ≡ []
    none = parse-left es old.machine p old.doc d n.top.rest left whole

    lighter : weight (parsed_live p d old) (framed n.top.number (drop n.top.done n.top.script) [] ∷ map frame_of (reverse n.below.items))
        < weight old (framed n.top.number (drop n.top.done n.top.script) n.top.rest ∷ map frame_of (reverse n.below.items))
    lighter = omega (
      arith,
      some-length n.top.rest goes.rest,
      length-append n.top.rest (rests (map frame_of (reverse n.below.items))),
      length-append [] (rests (map frame_of (reverse n.below.items))),
    )

-- an element more than there may be would be open
pub parse-deep : (es : Entities) (old new : Live) (n n' : Nesting) (p : Parser) (d : Doc) (left : List ℕ) (s : Stop) → IsGoing old → Continues old.pending n.top.rest →
    RestParsed es old.machine old.doc n.top.rest p d left s → s ≡ stop.Deep → new ≡ record (parsed_live p d old) { halted = Some why.Depth } → ParsesOn es old n new n' turn.Over
parse-deep es old new n n' p d left s going goes parsed deep is = subst (λ l. ParsesOn es old n l n' turn.Over) (sym is) (record {
  moves = record {
    turns = record {
      turns = λ w before page world. (
        refuses why.Depth (state_of (parsed_to p d left (frame_of n.top) (map frame_of (reverse n.below.items)) (nest_of old (frames_of n) before page))),
        record {
          last = state_of (parsed_to p d left (frame_of n.top) (map frame_of (reverse n.below.items)) (nest_of old (frames_of n) before page));
          is = refl;
          lines = refl;
          doc = refl;
        },
        rest-refuses w (nest_of old (frames_of n) before page) (frame_of n.top) (map frame_of (reverse n.below.items)) p d left refl goes.pending
            (subst (λ e. HasParsed e old.machine old.doc n.top.rest p d left stop.Deep) (sym world) (subst (λ k. HasParsed es old.machine old.doc n.top.rest p d left k) deep parsed.parsed)),
      );
    };
    served = parsed.served;
    weight = omega (arith, length-append n.top.rest (rests (map frame_of (reverse n.below.items))));
  };
  on = λ over. absurd (cc over);
})

-- at most one script is awaited
pub awaited-one : (pending : Option (List ℕ)) → scripts_awaited pending ≤ 1
awaited-one None = omega arith
awaited-one (Some name) = omega arith

-- the end tag of a script was met
pub parse-nests : (es : Entities) (old mid new : Live) (n m n' : Nesting) (p : Parser) (d : Doc) (left : List ℕ) (s : Stop) (id : NodeId) → IsGoing old → Continues old.pending n.top.rest →
    RestParsed es old.machine old.doc n.top.rest p d left s → s ≡ stop.Script id → mid ≡ parsed_live p d old → m ≡ with_rest left n → Nests id mid m new n' → ParsesOn es old n new n' turn.On
parse-nests es old mid new n m n' p d left s id going goes parsed stops is is' nests =
    by (subst (λ l. Nests id l (with_rest left n) new n') is (subst (λ k. Nests id mid k new n') is' nests))
  where
    part : HasParsed es old.machine old.doc n.top.rest p d left (stop.Script id)
    part = subst (λ k. HasParsed es old.machine old.doc n.top.rest p d left k) stops parsed.parsed

    shorter : length left < length n.top.rest
    shorter = parsed.shorter (λ ends. absurd (cc (sym stops ∙ ends)))

    by : Nests id (parsed_live p d old) (with_rest left n) new n' → ParsesOn es old n new n' turn.On
    by here =
        let on : new.halted ≡ None = ap (λ (l : Live). l.halted) here.keeps ∙ going.halted in
        let lighter : weight new (frames_of n') < weight old (frames_of n) =
        omega (
          arith,
          shorter,
          awaited-one new.pending,
          ap (λ (l : Live). l.written) here.keeps,
          ap (λ (l : Live). length l.rest) here.keeps,
          ap length here.rests,
          length-append n.top.rest (rests (map frame_of (reverse n.below.items))),
          length-append left (rests (map frame_of (reverse n.below.items))),
        ) in
        record {
          moves = record {
            turns = record {
              turns = λ w before page world.
                  then-on w (NestComesTo w (nest_of old (frames_of n) before page)) new (frames_of n') before page on
                  (λ g come. rest-stops w (nest_of old (frames_of n) before page) (frame_of n.top) (map frame_of (reverse n.below.items)) p d left id g refl goes.pending
                  (subst (λ e. HasParsed e old.machine old.doc n.top.rest p d left (stop.Script id)) (sym world) part) (here.comes w before page g come));
            };
            served = subst (λ q. IsServed q new.doc) (sym (ap (λ (l : Live). l.machine) here.keeps)) (subst (λ e. IsServed p e) (sym (ap (λ (l : Live). l.doc) here.keeps)) parsed.served);
            weight = omega (arith, lighter);
          };
          on = λ _. (on, lighter);
        }

-- ---- turns

pub turn-on : (t : Progress) → (t ≡ turn.Over → ⊥) → t ≡ turn.On
turn-on turn.On not = refl
turn-on turn.Over not = absurd (not refl)

-- no script is left, or the page is refused
pub runs-over : (es : Entities) (old mid new : Live) (n m n' : Nesting) (t : Progress) → t ≡ turn.Over → IsGoing mid → Moves es old (frames_of n) mid (frames_of m) → Steps es mid m new n' t →
    RunsOn es old n new n' turn.Over
runs-over es old mid new n m n' t over going moves step = record {
  moves = moves-then es old mid new (frames_of n) (frames_of m) [] going.halted moves (subst (λ k. Moves es mid (frames_of m) new (frames_at k n')) over step.moves);
  on = λ on. absurd (cc on);
}

pub moves-over : (es : Entities) (old mid new : Live) (fs : List Frame) (n n' : Nesting) (t : Progress) → t ≡ turn.Over → IsGoing mid → Moves es old fs mid (frames_of n) →
    Moves es mid (frames_of n) new (frames_at t n') → Moves es old fs new []
moves-over es old mid new fs n n' t over going first second =
    moves-then es old mid new fs (frames_of n) [] going.halted first (subst (λ k. Moves es mid (frames_of n) new (frames_at k n')) over second)

pub moves-on : (es : Entities) (old mid new : Live) (fs : List Frame) (n n' : Nesting) (t : Progress) → t ≡ turn.On → IsGoing mid → Moves es old fs mid (frames_of n) →
    Moves es mid (frames_of n) new (frames_at t n') → Moves es old fs new (frames_of n')
moves-on es old mid new fs n n' t on going first second =
    moves-then es old mid new fs (frames_of n) (frames_of n') going.halted first (subst (λ k. Moves es mid (frames_of n) new (frames_at k n')) on second)

pub runs-going : (es : Entities) (old new : Live) (n n' : Nesting) (t : Progress) → t ≡ turn.On → RunsOn es old n new n' t → IsGoing new
runs-going es old new n n' t on runs = record { served = runs.moves.served; halted = (runs.on on).0 }

pub parses-going : (es : Entities) (old new : Live) (n n' : Nesting) (t : Progress) → t ≡ turn.On → ParsesOn es old n new n' t → IsGoing new
parses-going es old new n n' t on parses = record { served = parses.moves.served; halted = (parses.on on).0 }

-- a turn of the loop makes what is left less
pub turn-lighter : (es : Entities) (old mid new : Live) (n m n' : Nesting) (t s : Progress) → t ≡ turn.On → s ≡ turn.On → RunsOn es old n mid m t → ParsesOn es mid m new n' s →
    weight new (frames_of n') < weight old (frames_of n)
turn-lighter es old mid new n m n' t s on on' runs parses =
    let first : Moves es old (frames_of n) mid (frames_of m) = subst (λ k. Moves es old (frames_of n) mid (frames_at k m)) on runs.moves in
    omega (arith, first.weight, (parses.on on').1)
