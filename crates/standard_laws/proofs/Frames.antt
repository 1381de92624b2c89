-- Nested scripts by a list of frames: each step of a program keeps what comes of it.
use Rattle.std.proofs.Common.{Bool, ◌≡◌, ℕ, zero, suc, ◌+◌, ◌-◌, List, [], ◌∷◌, ◌++◌, Option, Some, None, refl, length, take, drop, sym, ◌∙◌, ap, subst, length-append, append_assoc, append-nil, arith}
use Rattle.std.proofs.Math.Seq.{take-append_seam, drop-append_seam}
use Rattle.std.proofs.lemmas.Bool.{le-leb, lt-leb}
use Rattle.html_types.specs.declared.operation.NodeId.{NodeId}
use Rattle.html_types.specs.declared.ending.Why.TheVariants as why
use Rattle.serial.specs.declared.script.Statement.{Statement}
use Rattle.serial.specs.declared.script.Statement.TheVariants as statement
use Rattle.html_types.specs.declared.instruction.Stop.{Stop}
use Rattle.html_types.specs.declared.instruction.Stop.TheVariants as stop
use Rattle.serial.specs.declared.script.Line.{Line}
use Rattle.serial.specs.declared.script.Line.TheVariants as line
use Rattle.standard.specs.Fragment.{Setting, setting, inner_set}
use Rattle.standard.specs.Tree.{Nodes, detached, appended, find_id, first_element}
use Rattle.standard.specs.Act.{Doc}
use Rattle.standard.specs.Outer.{outer_text}
use Rattle.serial.specs.Scripts.{file_statements}
use Rattle.serial.specs.Statements.{statements}
use Rattle.standard.specs.Parser.{Parser}
use Rattle.serial.specs.Serial.{World, Serial, Course, goes, refuses, starved, ◌then◌, advanced, advance, before_point, after_point, moved, inside, back_at, with_line_feed, insert, with_tree, remove, with_line, read, execute, run_statements, on_element, on_move, write, go_on, stopped, end_of_script, run_prepared, on_set}
use Rattle.standard_laws.specs.Laws.{HasParsed, HasEnded, EndsIn}
use Rattle.standard_laws.specs.Frames.{Frame, Nest, rests, state_of, back_in, resume_in, resume, NestComesTo, TagComesTo, FramesEnd, ScriptsEnter, FilesEnter, StillTags, ExternalTags, InlineTags, outside_language, OutsideTexts, TextsBegin, begun, parsed_to, RestsEnd, RestsStop, RestsRefuse, Waits, frame_ended, FrameEnds, wrote, WritesFit, WritesRefuse, LinesFit, LinesRefuse, Removes, Appends, ReadsById, ReadsRoot, LacksElement, thrown, Throws, Fills, FillsRefuse}
use Rattle.standard_laws.proofs.Fuel.{Refines, Refines_refl, Refines_trans, Refines_then, run_statements-more, go_on-more}
use Rattle.standard_laws.proofs.Parse.{advance-parse}
use Rattle.standard_laws.proofs.Passing.{parse-left}

-- ---- flows

then_assoc : (f : Course) (g h : Serial → Course) → (f then g) then h ≡ f then (λ s. g s then h)
then_assoc starved g h = refl
then_assoc (goes s) g h = refl
then_assoc (refuses w t) g h = refl

then_goes : (f : Course) → (f then λ t. goes t) ≡ f
then_goes starved = refl
then_goes (goes s) = refl
then_goes (refuses w t) = refl

-- what has come to g comes to g with more fuel
raised : (h : ℕ → Course) (f g : Course) (k : ℕ) → f ≡ g → HasEnded g → Refines f (h k) → EndsIn h g
raised h starved g k q ended r = absurd (subst HasEnded (sym q) ended)
raised h (goes s) g k q ended r = (k, r ∙ q, ended)
raised h (refuses w t) g k q ended r = (k, r ∙ q, ended)

-- ---- more fuel

resume_in-more : (fs : List Frame) (n : ℕ) (w : World) (behind : List ℕ) (s : Serial) → Refines (resume_in n w fs behind s) (resume_in (suc n) w fs behind s)
resume_in-more [] n w behind s = refl
resume_in-more (f ∷ fs) n w behind s =
    Refines_then _ _ _ _ (go_on-more n w s.side.pending s)
    (λ t. Refines_then _ _ _ _ (run_statements-more n w f.number f.list t) (λ u. resume_in-more fs n w behind (back_in fs behind u)))

resume_in-two : (fs : List Frame) (n : ℕ) (w : World) (behind : List ℕ) (s : Serial) → Refines (resume_in n w fs behind s) (resume_in (suc (suc n)) w fs behind s)
resume_in-two fs n w behind s = Refines_trans _ _ _ (resume_in-more fs n w behind s) (resume_in-more fs (suc n) w behind s)

statements-two : (n : ℕ) (w : World) (k : ℕ) (list : List Statement) (s : Serial) → Refines (run_statements n w k list s) (run_statements (suc (suc n)) w k list s)
statements-two n w k list s = Refines_trans _ _ _ (run_statements-more n w k list s) (run_statements-more (suc n) w k list s)

-- what is left to do once the innermost frame's text is parsed
abbrev after_rest : ℕ → World → Frame → List Frame → List ℕ → Serial → Course
after_rest n w f fs behind t = run_statements n w f.number f.list t then λ u. resume_in n w fs behind (back_in fs behind u)

after_rest-two : (n : ℕ) (w : World) (f : Frame) (fs : List Frame) (behind : List ℕ) (t : Serial) →
    Refines (after_rest n w f fs behind t) (after_rest (suc (suc n)) w f fs behind t)
after_rest-two n w f fs behind t =
    Refines_then _ _ _ _ (statements-two n w f.number f.list t) (λ u. resume_in-two fs n w behind (back_in fs behind u))

-- ---- the innermost frame's text

-- these frames
abbrev framed : Frame → List Frame → Nest → Nest
framed f fs x = record x { frames = f ∷ fs }

-- what holds of a state whose frames are written out holds of every state
at_frames : (P : Nest → Type 0) (x : Nest) (fs : List Frame) → x.frames ≡ fs → P (record x { frames = fs }) → P x
at_frames P x fs e p = subst (λ k. P (record x { frames = k })) (sym e) p

abbrev tail_of : List Frame → Nest → List ℕ
tail_of fs x = rests fs ++ x.behind

seam : (t u : List ℕ) → length (t ++ u) - length u ≡ length t
seam t u = let e : length (t ++ u) ≡ length t + length u = length-append t u in omega arith

before-is : (f : Frame) (fs : List Frame) (x : Nest) → before_point (state_of (framed f fs x)) ≡ f.rest
before-is f fs x =
    ap (λ t. take (length t - length (tail_of fs x)) t) (append_assoc f.rest (rests fs) x.behind)
    ∙ (ap (λ k. take k (f.rest ++ tail_of fs x)) (seam f.rest (tail_of fs x)) ∙ take-append_seam f.rest (tail_of fs x))

after-is : (f : Frame) (fs : List Frame) (x : Nest) → after_point (state_of (framed f fs x)) ≡ tail_of fs x
after-is f fs x =
    ap (λ t. drop (length t - length (tail_of fs x)) t) (append_assoc f.rest (rests fs) x.behind)
    ∙ (ap (λ k. drop k (f.rest ++ tail_of fs x)) (seam f.rest (tail_of fs x)) ∙ drop-append_seam f.rest (tail_of fs x))

moved-is : (p : Parser) (d : Doc) (left : List ℕ) (f : Frame) (fs : List Frame) (x : Nest) →
    moved p d left (state_of (framed f fs x)) ≡ state_of (parsed_to p d left f fs x)
moved-is p d left f fs x =
    let s : Serial = state_of (parsed_to p d left f fs x) in
    ap (λ t. record s { input = left ++ t }) (after-is f fs x) ∙ ap (λ t. record s { input = t }) (sym (append_assoc left (rests fs) x.behind))

insert-is : (t : List ℕ) (list : List Statement) (f : Frame) (fs : List Frame) (x : Nest) →
    insert t (state_of (framed f fs x)) ≡ state_of (wrote t list f fs x)
insert-is t list f fs x =
    let s : Serial = state_of (wrote t list f fs x) in
    ap (λ u. record s { input = u ++ t ++ after_point (state_of (framed f fs x)) }) (before-is f fs x)
    ∙ (ap (λ u. record s { input = f.rest ++ t ++ u }) (after-is f fs x)
    ∙ ap (λ u. record s { input = u }) (sym (append_assoc (f.rest ++ t) (rests fs) x.behind)))

-- the parser doesn't go on
waits : (n : ℕ) (w : World) (pending : Option (List ℕ)) (f : Frame) (fs : List Frame) (x : Nest) → Waits pending f.rest →
    go_on (suc (suc n)) w pending (state_of (framed f fs x)) ≡ goes (state_of (framed f fs x))
unfolding execute advance
waits n w None f fs x h =
    let s : Serial = state_of (framed f fs x) in
    ap (λ t. stopped (suc n) w s (advance w.entities s.parser s.side.doc t)) (before-is f fs x ∙ h)
    ∙ (ap goes (moved-is x.parser x.doc [] f fs x) ∙ ap (λ t. goes (state_of (framed (record f { rest = t }) fs x))) (sym h))
waits n w (Some name) f fs x h = refl

waits-refines : (n : ℕ) (w : World) (pending : Option (List ℕ)) (f : Frame) (fs : List Frame) (x : Nest) → Waits pending f.rest →
    Refines (go_on n w pending (state_of (framed f fs x))) (goes (state_of (framed f fs x)))
waits-refines n w pending f fs x h =
    let s : Serial = state_of (framed f fs x) in
    let two : Refines (go_on n w pending s) (go_on (suc (suc n)) w pending s) = Refines_trans _ _ _ (go_on-more n w pending s) (go_on-more (suc n) w pending s) in
    rw (waits n w pending f fs x h) at two

nothing-waits : (pending : Option (List ℕ)) → Waits pending []
nothing-waits None = refl
nothing-waits (Some name) = tt

-- ---- no frame

pub frames-end : FramesEnd
frames-end w x e = at_frames (λ y. NestComesTo w y (goes (state_of y))) x [] e (0, refl, tt)

pub scripts-enter : ScriptsEnter
scripts-enter w i x g e (n, q, ended) =
    let t : (end_of_script n w i (state_of x) then λ t. resume_in n w [] x.behind t) ≡ g =
    subst (λ fs. (end_of_script n w i (state_of x) then λ t. resume_in n w fs x.behind t) ≡ g) e q in
    (n, sym (then_goes (end_of_script n w i (state_of x))) ∙ t, ended)

pub files-enter : FilesEnter
files-enter w bytes x g e (n, q, ended) = (n, subst (λ fs. (execute n w (file_statements bytes) (inside (state_of x)) then λ t. resume_in n w fs x.behind (back_at (state_of x) t)) ≡ g) e q, ended)

-- ---- the end tag of a script

abbrev tag : World → NodeId → Nest → ℕ → Course
tag w i x n = end_of_script n w i (state_of x) then λ t. resume_in n w x.frames x.behind t

pub still-tag : StillTags
unfolding execute
still-tag w i x g h (n, q, ended) =
    let s : Serial = state_of x in
    let is : tag w i x (suc (suc n)) ≡ resume (suc (suc n)) w x =
    ap (λ k. (run_prepared (suc n) w k (inside s) then λ t. goes (back_at s t)) then λ t. resume_in (suc (suc n)) w x.frames x.behind t) h in
    raised (tag w i x) _ g (suc (suc n)) q ended (rw is (resume_in-two x.frames n w x.behind s))

pub external-tag : ExternalTags
unfolding execute
external-tag w i x name g h (n, q, ended) =
    let s : Serial = state_of x in
    let y : Nest = record x { pending = Some name } in
    let is : tag w i x (suc (suc n)) ≡ resume (suc (suc n)) w y =
    ap (λ k. (run_prepared (suc n) w k (inside s) then λ t. goes (back_at s t)) then λ t. resume_in (suc (suc n)) w x.frames x.behind t) h in
    raised (tag w i x) _ g (suc (suc n)) q ended (rw is (resume_in-two x.frames n w x.behind (state_of y)))

-- a script's text and what follows it
abbrev text_in : World → Option (List Statement) → Nest → ℕ → Course
text_in w text x n = execute n w text (inside (state_of x)) then λ t. resume_in n w x.frames x.behind (back_at (state_of x) t)

pub inline-tag : InlineTags
unfolding execute
inline-tag w i x t g h (n, q, ended) =
    let s : Serial = state_of x in
    let behind : Serial → Course = λ u. resume_in (suc (suc n)) w x.frames x.behind u in
    let is : tag w i x (suc (suc n)) ≡ execute n w (statements t) (inside s) then λ u. behind (back_at s u) =
    ap (λ k. (run_prepared (suc n) w k (inside s) then λ u. goes (back_at s u)) then behind) h
    ∙ then_assoc (execute n w (statements t) (inside s)) (λ u. goes (back_at s u)) behind in
    raised (tag w i x) (text_in w (statements t) x n) g (suc (suc n)) q ended
    (rw is (Refines_then _ _ _ _ (Refines_refl (execute n w (statements t) (inside s))) (λ u. resume_in-two x.frames n w x.behind (back_at s u))))

-- ---- a text

pub outside-text : OutsideTexts
unfolding execute
outside-text w text x g none (n, q, ended) =
    let is : text_in w text x (suc n) ≡ resume (suc n) w (outside_language x) = ap (λ k. text_in w k x (suc n)) none in
    raised (text_in w text x) _ g (suc n) q ended (rw is (resume_in-more x.frames n w x.behind (state_of (outside_language x))))

-- behind a text that was begun the frames are those of before
pub text-begins : TextsBegin
unfolding execute
text-begins w text list x g some (n, q, ended) =
    let y : Nest = begun list x in
    let k : ℕ = suc x.executed in
    let is : text_in w text x (suc n) ≡ run_statements n w k list (state_of y) then λ u. resume_in (suc n) w x.frames x.behind (back_in x.frames x.behind u) =
    ap (λ o. text_in w o x (suc n)) some in
    raised (text_in w text x) (resume n w y) g (suc n) q ended
    (rw is
    (Refines_then (go_on n w x.pending (state_of y)) (goes (state_of y)) _ _ (waits-refines n w x.pending (record { number = k; list = list; rest = [] }) x.frames (record x { executed = k }) (nothing-waits x.pending))
    (λ t. Refines_then _ _ _ _ (Refines_refl (run_statements n w k list t)) (λ u. resume_in-more x.frames n w x.behind (back_in x.frames x.behind u)))))

-- ---- the parser takes what the innermost frame wrote

advanced-to : (w : World) (p : Parser) (d : Doc) (t : List ℕ) (p' : Parser) (d' : Doc) (left : List ℕ) (k : Stop) → HasParsed w.entities p d t p' d' left k →
    advance w.entities p d t ≡ advanced p' d' left k
advanced-to w p d t p' d' left k h = advance-parse w.entities p d t ∙ rw (h.parser, h.doc, h.left, h.stop) refl

-- where no script is pending the parser goes on over the frame's text
goes-on : (n : ℕ) (w : World) (f : Frame) (fs : List Frame) (x : Nest) (p : Parser) (d : Doc) (left : List ℕ) (k : Stop) → x.pending ≡ None →
    HasParsed w.entities x.parser x.doc f.rest p d left k →
    go_on (suc n) w x.pending (state_of (framed f fs x)) ≡ stopped n w (state_of (framed f fs x)) (advanced p d left k)
unfolding execute
goes-on n w f fs x p d left k none b =
    let s : Serial = state_of (framed f fs x) in
    ap (λ o. go_on (suc n) w o s) none
    ∙ (ap (λ t. stopped n w s (advance w.entities x.parser x.doc t)) (before-is f fs x)
    ∙ ap (stopped n w s) (advanced-to w x.parser x.doc f.rest p d left k b))

-- what such a state comes to
resumed : (n : ℕ) (w : World) (f : Frame) (fs : List Frame) (x : Nest) (p : Parser) (d : Doc) (left : List ℕ) (k : Stop) → x.pending ≡ None →
    HasParsed w.entities x.parser x.doc f.rest p d left k →
    resume (suc n) w (framed f fs x) ≡ stopped n w (state_of (framed f fs x)) (advanced p d left k) then after_rest (suc n) w f fs x.behind
resumed n w f fs x p d left k none b = ap (λ (o : Course). o then after_rest (suc n) w f fs x.behind) (goes-on n w f fs x p d left k none b)

pub rest-ends : RestsEnd
unfolding execute
rest-ends w x f fs p d left g e none b c = at_frames (λ y. NestComesTo w y g) x (f ∷ fs) e (framed-ends c)
  where
    framed-ends : NestComesTo w (parsed_to p d [] f fs x) g → NestComesTo w (framed f fs x) g
    framed-ends (n, q, ended) =
        let y : Nest = parsed_to p d [] f fs x in
        let none_left : left ≡ [] = parse-left w.entities x.parser p x.doc d f.rest left b in
        let is : resume (suc (suc n)) w (framed f fs x) ≡ after_rest (suc (suc n)) w f fs x.behind (state_of y) =
        resumed (suc n) w f fs x p d left stop.InputEnd none b
        ∙ (ap (after_rest (suc (suc n)) w f fs x.behind) (moved-is p d left f fs x) ∙ ap (λ t. after_rest (suc (suc n)) w f fs x.behind (state_of (parsed_to p d t f fs x))) none_left) in
        raised (λ m. resume m w (framed f fs x)) (resume n w y) g (suc (suc n)) q ended
        (rw is
        (Refines_then (go_on n w x.pending (state_of y)) (goes (state_of y)) _ _ (waits-refines n w x.pending (record f { rest = [] }) fs (record x { parser = p; doc = d }) (nothing-waits x.pending))
        (λ t. after_rest-two n w f fs x.behind t)))

pub rest-stops : RestsStop
unfolding execute
rest-stops w x f fs p d left i g e none b c = at_frames (λ y. NestComesTo w y g) x (f ∷ fs) e (framed-stops c)
  where
    framed-stops : TagComesTo w i (parsed_to p d left f fs x) g → NestComesTo w (framed f fs x) g
    framed-stops (n, q, ended) =
        let y : Nest = parsed_to p d left f fs x in
        let onward : Serial → Course = λ t. go_on n w t.side.pending t in
        let is : resume (suc (suc n)) w (framed f fs x) ≡ end_of_script n w i (state_of y) then λ t. onward t then after_rest (suc (suc n)) w f fs x.behind =
        resumed (suc n) w f fs x p d left (stop.Script i) none b
        ∙ (ap (λ s. (end_of_script n w i s then onward) then after_rest (suc (suc n)) w f fs x.behind) (moved-is p d left f fs x)
        ∙ then_assoc (end_of_script n w i (state_of y)) onward (after_rest (suc (suc n)) w f fs x.behind)) in
        raised (λ m. resume m w (framed f fs x)) (tag w i y n) g (suc (suc n)) q ended
        (rw is
        (Refines_then _ _ _ _ (Refines_refl (end_of_script n w i (state_of y)))
        (λ t. Refines_then _ _ _ _ (Refines_refl (go_on n w t.side.pending t)) (λ u. after_rest-two n w f fs x.behind u))))

pub rest-refuses : RestsRefuse
unfolding execute
rest-refuses w x f fs p d left e none b = at_frames (λ y. NestComesTo w y (refuses why.Depth (state_of (parsed_to p d left f fs x)))) x (f ∷ fs) e (2, framed-refuses, tt)
  where
    framed-refuses : resume 2 w (framed f fs x) ≡ refuses why.Depth (state_of (parsed_to p d left f fs x))
    framed-refuses = resumed 1 w f fs x p d left stop.Deep none b ∙ ap (refuses why.Depth) (moved-is p d left f fs x)

-- ---- the innermost frame's statements

-- where the parser waits the statements come next
statements-next : (n : ℕ) (w : World) (f : Frame) (fs : List Frame) (x : Nest) (list : List Statement) → Waits x.pending f.rest → f.list ≡ list →
    resume (suc (suc n)) w (framed f fs x) ≡ run_statements (suc (suc n)) w f.number list (state_of (framed f fs x))
    then λ u. resume_in (suc (suc n)) w fs x.behind (back_in fs x.behind u)
statements-next n w f fs x list h l =
    let s : Serial = state_of (framed f fs x) in
    ap (λ (o : Course). o then after_rest (suc (suc n)) w f fs x.behind) (waits n w x.pending f fs x h)
    ∙ ap (λ k. run_statements (suc (suc n)) w f.number k s then λ u. resume_in (suc (suc n)) w fs x.behind (back_in fs x.behind u)) l

-- back in the frames around one that ended
ended-is : (f : Frame) (fs : List Frame) (x : Nest) → back_in fs x.behind (state_of (framed f fs x)) ≡ state_of (frame_ended f.rest fs x)
ended-is f [] x = ap (λ t. record (state_of (frame_ended f.rest [] x)) { input = t ++ x.behind }) (append-nil f.rest)
ended-is f (g ∷ gs) x = ap (λ t. record (state_of (frame_ended f.rest (g ∷ gs) x)) { input = t ++ x.behind }) (sym (append_assoc f.rest g.rest (rests gs)))

-- the frames around it stand as they stood
around-ended : (n : ℕ) (w : World) (f : Frame) (fs : List Frame) (x : Nest) (s : Serial) →
    resume_in n w fs x.behind s ≡ resume_in n w (frame_ended f.rest fs x).frames (frame_ended f.rest fs x).behind s
around-ended n w f [] x s = refl
around-ended n w f (g ∷ gs) x s = refl

pub frame-ends : FrameEnds
unfolding execute
frame-ends w x f fs g e none h c = at_frames (λ y. NestComesTo w y g) x (f ∷ fs) e (framed-ends c)
  where
    framed-ends : NestComesTo w (frame_ended f.rest fs x) g → NestComesTo w (framed f fs x) g
    framed-ends (n, q, ended) =
        let y : Nest = frame_ended f.rest fs x in
        let is : resume (suc (suc n)) w (framed f fs x) ≡ resume (suc (suc n)) w y =
        statements-next n w f fs x [] h none
        ∙ (around-ended (suc (suc n)) w f fs x (back_in fs x.behind (state_of (framed f fs x)))
        ∙ ap (resume_in (suc (suc n)) w y.frames y.behind) (ended-is f fs x)) in
        raised (λ m. resume m w (framed f fs x)) (resume n w y) g (suc (suc n)) q ended (rw is (resume_in-two y.frames n w y.behind (state_of y)))

pub write-fits : WritesFit
unfolding execute
write-fits w x f fs t list g e l h le c = at_frames (λ y. NestComesTo w y g) x (f ∷ fs) e (framed-writes c)
  where
    framed-writes : NestComesTo w (wrote t list f fs x) g → NestComesTo w (framed f fs x) g
    framed-writes (n, q, ended) =
        let s : Serial = state_of (framed f fs x) in
        let y : Nest = wrote t list f fs x in
        let behind : Serial → Course = λ u. resume_in (suc (suc n)) w fs x.behind (back_in fs x.behind u) in
        let rest : Serial → Course = λ u. run_statements (suc n) w f.number list u in
        let is : resume (suc (suc n)) w (framed f fs x) ≡ go_on n w x.pending (state_of y) then λ u. rest u then behind =
        statements-next n w f fs x (statement.Write t ∷ list) h l
        ∙ (ap (λ k. (write (suc n) w k t s then rest) then behind) (le-leb _ _ le)
        ∙ (ap (λ u. (go_on n w x.pending u then rest) then behind) (insert-is t list f fs x)
        ∙ then_assoc (go_on n w x.pending (state_of y)) rest behind)) in
        raised (λ m. resume m w (framed f fs x)) (resume n w y) g (suc (suc n)) q ended
        (rw is
        (Refines_then _ _ _ _ (Refines_refl (go_on n w x.pending (state_of y)))
        (λ u. Refines_then _ _ _ _ (run_statements-more n w f.number list u) (λ v. resume_in-two fs n w x.behind (back_in fs x.behind v)))))

pub write-refuses : WritesRefuse
unfolding execute
write-refuses w x f fs t list e l h lt = at_frames (λ y. NestComesTo w y (refuses why.Writes (state_of y))) x (f ∷ fs) e (2, framed-refuses, tt)
  where
    framed-refuses : resume 2 w (framed f fs x) ≡ refuses why.Writes (state_of (framed f fs x))
    framed-refuses =
        let s : Serial = state_of (framed f fs x) in
        statements-next 0 w f fs x (statement.Write t ∷ list) h l
        ∙ ap (λ k. (write 1 w k t s then λ u. run_statements 1 w f.number list u) then λ u. resume_in 2 w fs x.behind (back_in fs x.behind u)) (lt-leb _ _ lt)

-- ---- a line written is a write of the text and a line feed

as-write : (n : ℕ) (w : World) (k : ℕ) (t : List ℕ) (list : List Statement) (s : Serial) →
    run_statements n w k (statement.WriteLine t ∷ list) s ≡ run_statements n w k (statement.Write (with_line_feed t) ∷ list) s
unfolding execute
as-write zero w k t list s = refl
as-write (suc n) w k t list s = refl

then_same : (f : Course) (g h : Serial → Course) → ((s : Serial) → g s ≡ h s) → (f then g) ≡ (f then h)
then_same starved g h each = refl
then_same (goes s) g h each = each s
then_same (refuses w t) g h each = refl

-- the frame with that write in its place
abbrev writing : List ℕ → List Statement → Frame → Frame
writing t list f = record f { list = statement.Write (with_line_feed t) ∷ list }

line-is-write : (w : World) (f : Frame) (fs : List Frame) (x : Nest) (t : List ℕ) (list : List Statement) (g : Course) → f.list ≡ statement.WriteLine t ∷ list →
    NestComesTo w (framed (writing t list f) fs x) g → NestComesTo w (framed f fs x) g
line-is-write w f fs x t list g l (n, q, ended) =
    let s : Serial = state_of (framed f fs x) in
    let after : Serial → Course = λ v. resume_in n w fs x.behind (back_in fs x.behind v) in
    let is : resume n w (framed f fs x) ≡ resume n w (framed (writing t list f) fs x) =
    then_same (go_on n w x.pending s) _ _
    (λ u. ap (λ k. run_statements n w f.number k u then after) l ∙ ap (λ (o : Course). o then after) (as-write n w f.number t list u)) in
    (n, is ∙ q, ended)

pub line-fits : LinesFit
line-fits w x f fs t list g e l h le c =
    at_frames (λ y. NestComesTo w y g) x (f ∷ fs) e
    (line-is-write w f fs x t list g l (write-fits w (framed (writing t list f) fs x) (writing t list f) fs (with_line_feed t) list g refl refl h le c))

pub line-refuses : LinesRefuse
line-refuses w x f fs t list e l h lt =
    at_frames (λ y. NestComesTo w y (refuses why.Writes (state_of y))) x (f ∷ fs) e
    (line-is-write w f fs x t list _ l (write-refuses w (framed (writing t list f) fs x) (writing t list f) fs (with_line_feed t) list refl refl h lt))

-- ---- statements that look for an element

-- a statement was done that changed these
abbrev done : Doc → List Line → List Statement → Frame → List Frame → Nest → Nest
done d lines list f fs x = record x { doc = d; lines = lines; frames = record f { list = list } ∷ fs }

-- a statement that leaves the parser where it stands
statement-done : (w : World) (x : Nest) (f : Frame) (fs : List Frame) (a : Statement) (more list : List Statement) (d : Doc) (lines : List Line) (g : Course) →
    x.frames ≡ f ∷ fs → f.list ≡ a ∷ more → Waits x.pending f.rest →
    ((n : ℕ) → Refines (run_statements n w f.number list (state_of (done d lines list f fs x))) (run_statements (suc (suc n)) w f.number (a ∷ more) (state_of (framed f fs x)))) →
    NestComesTo w (done d lines list f fs x) g → NestComesTo w x g
unfolding execute
statement-done w x f fs a more list d lines g e l h step c = at_frames (λ y. NestComesTo w y g) x (f ∷ fs) e (framed-done c)
  where
    framed-done : NestComesTo w (done d lines list f fs x) g → NestComesTo w (framed f fs x) g
    framed-done (n, q, ended) =
        let y : Nest = done d lines list f fs x in
        let s : Serial = state_of (framed f fs x) in
        let is : resume (suc (suc n)) w (framed f fs x) ≡ run_statements (suc (suc n)) w f.number (a ∷ more) s then λ u. resume_in (suc (suc n)) w fs x.behind (back_in fs x.behind u) =
        statements-next n w f fs x (a ∷ more) h l in
        let waited : Refines (resume n w y) (after_rest n w (record f { list = list }) fs x.behind (state_of y)) =
        Refines_then (go_on n w x.pending (state_of y)) (goes (state_of y)) _ _ (waits-refines n w x.pending (record f { list = list }) fs (record x { doc = d; lines = lines }) h)
        (λ t. Refines_refl (after_rest n w (record f { list = list }) fs x.behind t)) in
        let next : Refines (after_rest n w (record f { list = list }) fs x.behind (state_of y)) (resume (suc (suc n)) w (framed f fs x)) =
        rw is (Refines_then _ _ _ _ (step n) (λ u. resume_in-two fs n w x.behind (back_in fs x.behind u))) in
        raised (λ m. resume m w (framed f fs x)) (resume n w y) g (suc (suc n)) q ended (Refines_trans _ _ _ waited next)

-- on an element that is there the other statements follow
on_element-next : (n : ℕ) (w : World) (k : ℕ) (list : List Statement) (work : ℕ → Serial → Serial) (e : ℕ) (found : Option ℕ) (s : Serial) → found ≡ Some e →
    on_element (suc n) w k list work found s ≡ run_statements n w k list (work e s)
unfolding execute
on_element-next n w k list work e found s is = ap (λ o. on_element (suc n) w k list work o s) is

pub removes : Removes
unfolding execute
removes w x f fs v list e g at_f l h found c =
    statement-done w x f fs (statement.Remove v) list list (record x.doc { tree = detached x.doc.tree e }) x.lines g at_f l h
    (λ n. rw (on_element-next n w f.number list remove e (find_id x.doc.tree v) (state_of (framed f fs x)) found) (Refines_refl _)) c

-- where the move can be made the other statements follow on the tree that it leaves
on_move-next : (n : ℕ) (w : World) (k : ℕ) (list : List Statement) (left : Option Nodes) (t : Nodes) (s : Serial) → left ≡ Some t →
    on_move (suc n) w k list left s ≡ run_statements n w k list (with_tree t s)
unfolding execute
on_move-next n w k list left t s is = ap (λ o. on_move (suc n) w k list o s) is

pub appends : Appends
unfolding execute
appends w x f fs v c list t g at_f l h can come =
    statement-done w x f fs (statement.Append v c) list list (record x.doc { tree = t }) x.lines g at_f l h
    (λ n. rw (on_move-next n w f.number list (appended x.doc.tree (find_id x.doc.tree v) (find_id x.doc.tree c)) t (state_of (framed f fs x)) can) (Refines_refl _)) come

-- where the fragment isn't too deep the other statements follow on the tree that it leaves
on_set-next : (n : ℕ) (w : World) (k : ℕ) (list : List Statement) (there : Setting) (t : Nodes) (s : Serial) → there ≡ setting t →
    on_set (suc n) w k list there s ≡ run_statements n w k list (with_tree t s)
unfolding execute
on_set-next n w k list there t s is = ap (λ o. on_set (suc n) w k list o s) is

pub fills : Fills
unfolding execute
fills w x f fs v c list t g at_f l h can come =
    statement-done w x f fs (statement.SetInner v c) list list (record x.doc { tree = t }) x.lines g at_f l h
    (λ n. rw (on_set-next n w f.number list (inner_set w.entities x.parser.open_state.quirks x.doc.tree (find_id x.doc.tree v) c) t (state_of (framed f fs x)) can) (Refines_refl _)) come

pub fill-refuses : FillsRefuse
unfolding execute
fill-refuses w x f fs v c list e l h deep = at_frames (λ y. NestComesTo w y (refuses why.Depth (state_of y))) x (f ∷ fs) e (2, framed-refuses, tt)
  where
    framed-refuses : resume 2 w (framed f fs x) ≡ refuses why.Depth (state_of (framed f fs x))
    framed-refuses =
        statements-next 0 w f fs x (statement.SetInner v c ∷ list) h l
        ∙ ap (λ t. on_set 1 w f.number list t (state_of (framed f fs x)) then λ u. resume_in 2 w fs x.behind (back_in fs x.behind u)) deep

pub reads_by_id : ReadsById
unfolding execute
reads_by_id w x f fs v list e g at_f l h found c =
    statement-done w x f fs (statement.LogById v) list list x.doc (x.lines ++ line.Log f.number (outer_text x.doc.tree e) ∷ []) g at_f l h
    (λ n. rw (on_element-next n w f.number list (read f.number) e (find_id x.doc.tree v) (state_of (framed f fs x)) found) (Refines_refl _)) c

pub reads_root : ReadsRoot
unfolding execute
reads_root w x f fs list e g at_f l h found c =
    statement-done w x f fs statement.LogRoot list list x.doc (x.lines ++ line.Log f.number (outer_text x.doc.tree e) ∷ []) g at_f l h
    (λ n. rw (on_element-next n w f.number list (read f.number) e (first_element x.doc.tree) (state_of (framed f fs x)) found) (Refines_refl _)) c

-- on an element that isn't there the text ends
no_element-next : (n : ℕ) (w : World) (k : ℕ) (list : List Statement) (work : ℕ → Serial → Serial) (found : Option ℕ) (s : Serial) → found ≡ None →
    on_element (suc n) w k list work found s ≡ goes (with_line (line.Throw k) s)
unfolding execute
no_element-next n w k list work found s is = ap (λ o. on_element (suc n) w k list work o s) is

-- and where the move can't be made
no_move-next : (n : ℕ) (w : World) (k : ℕ) (list : List Statement) (left : Option Nodes) (s : Serial) → left ≡ None →
    on_move (suc n) w k list left s ≡ goes (with_line (line.Throw k) s)
unfolding execute
no_move-next n w k list left s is = ap (λ o. on_move (suc n) w k list o s) is

-- and where there is no element whose children are set
no_set-next : (n : ℕ) (w : World) (k : ℕ) (list : List Statement) (t : Nodes) (quirks : Bool) (e : Option ℕ) (c : List ℕ) (s : Serial) → e ≡ None →
    on_set (suc n) w k list (inner_set w.entities quirks t e c) s ≡ goes (with_line (line.Throw k) s)
unfolding execute inner_set
no_set-next n w k list t quirks e c s is = ap (λ o. on_set (suc n) w k list (inner_set w.entities quirks t o c) s) is

ends-at_once : (n : ℕ) (w : World) (k : ℕ) (s : Serial) → Refines (run_statements n w k [] s) (goes s)
unfolding execute
ends-at_once zero w k s = tt
ends-at_once (suc n) w k s = refl

throws-at : (n : ℕ) (w : World) (a : Statement) (list : List Statement) (f : Frame) (fs : List Frame) (x : Nest) → LacksElement x.doc.tree a →
    run_statements (suc (suc n)) w f.number (a ∷ list) (state_of (framed f fs x)) ≡ goes (state_of (thrown f fs x))
unfolding execute
throws-at n w (statement.Write t) list f fs x lacks = absurd lacks
throws-at n w (statement.WriteLine t) list f fs x lacks = absurd lacks
throws-at n w (statement.Remove v) list f fs x lacks = no_element-next n w f.number list remove (find_id x.doc.tree v) (state_of (framed f fs x)) lacks
throws-at n w (statement.Append v c) list f fs x lacks =
    no_move-next n w f.number list (appended x.doc.tree (find_id x.doc.tree v) (find_id x.doc.tree c)) (state_of (framed f fs x)) lacks
throws-at n w (statement.SetInner v c) list f fs x lacks =
    no_set-next n w f.number list x.doc.tree x.parser.open_state.quirks (find_id x.doc.tree v) c (state_of (framed f fs x)) lacks
throws-at n w (statement.LogById v) list f fs x lacks = no_element-next n w f.number list (read f.number) (find_id x.doc.tree v) (state_of (framed f fs x)) lacks
throws-at n w statement.LogRoot list f fs x lacks = no_element-next n w f.number list (read f.number) (first_element x.doc.tree) (state_of (framed f fs x)) lacks

pub throws : Throws
throws w x f fs a list g at_f l h lacks c =
    statement-done w x f fs a list [] x.doc (x.lines ++ line.Throw f.number ∷ []) g at_f l h
    (λ n. rw (throws-at n w a list f fs x lacks) (ends-at_once n w f.number (state_of (thrown f fs x)))) c
