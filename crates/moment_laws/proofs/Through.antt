-- Moments one behind another, none of them settled before the last.
use Rattle.std.proofs.Common.{◌≡◌, ◌∙◌, ℕ, List, [], ◌∷◌, ◌++◌, drop, Some, refl, subst, sym, ap, false, true≢false, take}
use Rattle.html_types.specs.declared.ending.Ending.{Ending}
use Rattle.html_types.specs.declared.instruction.Stop.TheVariants as stop
use Rattle.standard.specs.Act.{Doc, acts}
use Rattle.standard.specs.Entities.{Entities}
use Rattle.standard.specs.Parser.{Parser, Took, took, take_character, Parsed, after_character, and_rest, parse}
use Rattle.serial.specs.Serial.{World, Serial, Moment, reading, tag_ended, awaits, over, taken, read_next, moment_after, Leads}
use Rattle.serial.specs.Serial as serial
use Rattle.standard_laws.specs.Laws.{moment_at}
use Rattle.standard_laws.proofs.Parse.{acts-append}
use Rattle.standard_laws.proofs.Batch.{moment_behind}
use Rattle.standard_laws.proofs.Passing.{leads-next}
use Rattle.core_definitions.specs.Settling.{is_empty, is_settled, Through, here, onward}
use Rattle.moment_laws.specs.Ways.{BatchesGoThrough, GoesOn, ThroughLeads, ThroughSettles, NoEndingMatters, ParsesItsFront}

pub goes-on : GoesOn
goes-on e w a b c (here m) more = more
goes-on e w a b c (onward n m m1 m' open_ q rest) more = onward n m m1 c open_ q (goes-on e w m1 b c rest more)

pub through-leads : ThroughLeads
through-leads e w m0 a b h (here m) = h
through-leads e w m0 a b h (onward n m m1 m' open_ q rest) = through-leads e w m0 m1 b (leads-next e w m0 n m m1 h q) rest

pub through-settles : ThroughSettles
through-settles w a b open_ closed (here m) = absurd (true≢false (sym closed ∙ open_))
through-settles w a b open_ closed (onward n m m1 m' first q rest) = record { fuel = n; next = m1; first = q; through = rest; settled = closed }

through-step : (k : Took) (e : Ending) (w : World) (p : Parser) (d : Doc) (s : Serial) (c : ℕ) (x y : List ℕ) (f : Parser → Parsed) → take_character w.entities p c ≡ k →
    ((p' : Parser) (d' : Doc) → Through e w (reading (taken p' d' (x ++ y) s)) (moment_behind (taken p' d' (x ++ y) s) x y (f p'))) →
    Through e w (reading (taken p d (c ∷ (x ++ y)) s)) (moment_behind (taken p d (c ∷ (x ++ y)) s) (c ∷ x) y (and_rest k f))
unfolding moment_after
through-step (took ops p' stop.InputEnd) e w p d s c x y f q rest =
    let s0 : Serial = taken p d (c ∷ (x ++ y)) s in
    let r : Parsed = f p' in
    let same : moment_at s r.parser (acts d (ops ++ r.ops)) (drop r.used x ++ y) r.stop ≡ moment_at s r.parser (acts (acts d ops) r.ops) (drop r.used x ++ y) r.stop =
    ap (λ d'. moment_at s r.parser d' (drop r.used x ++ y) r.stop) (acts-append ops r.ops d) in
    onward 0 (reading s0) (reading (taken p' (acts d ops) (x ++ y) s)) _ refl (ap (λ k. Some (serial.after_character s0 (x ++ y) k)) q)
    (subst (Through e w (reading (taken p' (acts d ops) (x ++ y) s))) (sym same) (rest p' (acts d ops)))
through-step (took ops p' (stop.Script i)) e w p d s c x y f q rest =
    onward 0 _ _ _ refl (ap (λ k. Some (serial.after_character (taken p d (c ∷ (x ++ y)) s) (x ++ y) k)) q) (here _)
through-step (took ops p' stop.Deep) e w p d s c x y f q rest =
    onward 0 _ _ _ refl (ap (λ k. Some (serial.after_character (taken p d (c ∷ (x ++ y)) s) (x ++ y) k)) q) (here _)

reading-through : (x y : List ℕ) (e : Ending) (w : World) (p : Parser) (d : Doc) (s : Serial) →
    Through e w (reading (taken p d (x ++ y) s)) (moment_behind (taken p d (x ++ y) s) x y (parse w.entities p x))
unfolding parse acts
reading-through [] y e w p d s = here _
reading-through (c ∷ x) y e w p d s =
    through-step (take_character w.entities p c) e w p d s c x y (λ p'. parse w.entities p' x) refl (λ p' d'. reading-through x y e w p' d' s)

pub batches-through : BatchesGoThrough
batches-through e w s x rest p d left stopped input h =
    subst (λ i. Through e w (reading (record s { input = i })) (moment_at s p d (left ++ rest) stopped)) (sym input)
    (subst (λ q. Through e w (reading (record s { input = x ++ rest })) (moment_at s q d (left ++ rest) stopped)) (sym h.parser)
    (subst (λ q. Through e w (reading (record s { input = x ++ rest })) (moment_at s (parse w.entities s.parser x).parser q (left ++ rest) stopped)) (sym h.doc)
    (subst (λ q. Through e w (reading (record s { input = x ++ rest })) (moment_at s (parse w.entities s.parser x).parser (acts s.side.doc (parse w.entities s.parser x).ops) (q ++ rest) stopped)) (sym h.left)
    (subst (λ q. Through e w (reading (record s { input = x ++ rest })) (moment_at s (parse w.entities s.parser x).parser (acts s.side.doc (parse w.entities s.parser x).ops) (drop (parse w.entities s.parser x).used x ++ rest) q)) (sym h.stop)
    (reading-through x rest e w s.parser s.side.doc s)))))

-- ---- the page's ending

reading-any : (n : ℕ) (e e' : Ending) (w : World) (s : Serial) (input : List ℕ) → s.input ≡ input → is_empty input ≡ false →
    moment_after n e w (reading s) ≡ moment_after n e' w (reading s)
unfolding moment_after
reading-any n e e' w s [] q open_ = absurd (true≢false open_)
reading-any n e e' w s (c ∷ cs) q open_ = ap (λ t. Some (read_next w.entities e s t)) q ∙ ap (λ t. Some (read_next w.entities e' s t)) (sym q)

-- only where the input is used is the page's ending looked at
pub any-ending : (n : ℕ) (e e' : Ending) (w : World) (m : Moment) → is_settled m ≡ false → moment_after n e w m ≡ moment_after n e' w m
unfolding moment_after
any-ending n e e' w (reading s) open_ = reading-any n e e' w s s.input refl open_
any-ending n e e' w (tag_ended i s) open_ = refl
any-ending n e e' w (awaits name s) open_ = refl
any-ending n e e' w (over o) open_ = refl

pub through-any : NoEndingMatters
through-any e e' w a b (here m) = here m
through-any e e' w a b (onward n m m1 m' open_ q rest) = onward n m m1 m' open_ (sym (any-ending n e e' w m open_) ∙ q) (through-any e e' w m1 m' rest)

-- ---- the front of a text

front-by : (es : Entities) (p : Parser) (c : ℕ) (cs : List ℕ) (k : Took) → take_character es p c ≡ k → ((q : Parser) → parse es q (take (parse es q cs).used cs) ≡ parse es q cs) →
    parse es p (take (and_rest k (λ q. parse es q cs)).used (c ∷ cs)) ≡ and_rest k (λ q. parse es q cs)
unfolding parse
front-by es p c cs (took ops q stop.InputEnd) is rest = ap (λ k. and_rest k (λ q'. parse es q' (take (parse es q cs).used cs))) is ∙ ap (after_character ops) (rest q)
front-by es p c cs (took ops q (stop.Script i)) is rest = ap (λ k. and_rest k (λ q'. parse es q' [])) is
front-by es p c cs (took ops q stop.Deep) is rest = ap (λ k. and_rest k (λ q'. parse es q' [])) is

pub parse-front : ParsesItsFront
unfolding parse
parse-front es p [] = refl
parse-front es p (c ∷ cs) = front-by es p c cs (take_character es p c) refl (λ q. parse-front es q cs)
