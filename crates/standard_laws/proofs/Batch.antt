-- A batch: what `parse` makes of a text is where the moments at level 0 come to over it.
use Rattle.std.proofs.Common.{◌≡◌, ℕ, List, [], ◌∷◌, ◌++◌, drop, Some, refl, sym, ◌∙◌, ap}
use Rattle.html_types.specs.declared.operation.Op.{Op}
use Rattle.html_types.specs.declared.ending.Ending.{Ending}
use Rattle.html_types.specs.declared.instruction.Stop.TheVariants as stop
use Rattle.standard.specs.Act.{Doc, acts}
use Rattle.standard.specs.Parser.{Parser, Took, took, take_character, Parsed, and_rest, parse}
use Rattle.serial.specs.Serial.{World, Serial, Moment, reading, taken, moment_after, moments_on}
use Rattle.serial.specs.Serial as serial
use Rattle.standard_laws.specs.Laws.{moment_at}
use Rattle.standard_laws.proofs.Parse.{acts-append}

-- where the front x of the input of s comes to, with y behind it
abbrev pub moment_behind : Serial → List ℕ → List ℕ → Parsed → Moment
moment_behind s x y r = moment_at s r.parser (acts s.side.doc r.ops) (drop r.used x ++ y) r.stop

behind-after : (s : Serial) (d : Doc) (ops : List Op) (c : ℕ) (x y : List ℕ) (r : Parsed) →
    moment_at s r.parser (acts d (ops ++ r.ops)) (drop r.used x ++ y) r.stop ≡ moment_at s r.parser (acts (acts d ops) r.ops) (drop r.used x ++ y) r.stop
behind-after s d ops c x y r = ap (λ d'. moment_at s r.parser d' (drop r.used x ++ y) r.stop) (acts-append ops r.ops d)

reading-step : (k : Took) (n : ℕ) (e : Ending) (w : World) (p : Parser) (d : Doc) (s : Serial) (c : ℕ) (x y : List ℕ) (f : Parser → Parsed) → take_character w.entities p c ≡ k →
    ((p' : Parser) (d' : Doc) → moments_on (f p').used n e w (reading (taken p' d' (x ++ y) s)) ≡ Some (moment_behind (taken p' d' (x ++ y) s) x y (f p'))) →
    moments_on (and_rest k f).used n e w (reading (taken p d (c ∷ (x ++ y)) s)) ≡ Some (moment_behind (taken p d (c ∷ (x ++ y)) s) (c ∷ x) y (and_rest k f))
unfolding moment_after
reading-step (took ops p' stop.InputEnd) n e w p d s c x y f q rest =
    ap (λ k. moments_on (f p').used n e w (serial.after_character (taken p d (c ∷ (x ++ y)) s) (x ++ y) k)) q
    ∙ (rest p' (acts d ops) ∙ ap Some (sym (behind-after s d ops c x y (f p'))))
reading-step (took ops p' (stop.Script i)) n e w p d s c x y f q rest = ap (λ k. Some (serial.after_character (taken p d (c ∷ (x ++ y)) s) (x ++ y) k)) q
reading-step (took ops p' stop.Deep) n e w p d s c x y f q rest = ap (λ k. Some (serial.after_character (taken p d (c ∷ (x ++ y)) s) (x ++ y) k)) q

-- over the front x of the input, after as many moments as characters are used
pub reading-batch : (x y : List ℕ) (n : ℕ) (e : Ending) (w : World) (p : Parser) (d : Doc) (s : Serial) →
    moments_on (parse w.entities p x).used n e w (reading (taken p d (x ++ y) s)) ≡ Some (moment_behind (taken p d (x ++ y) s) x y (parse w.entities p x))
unfolding parse acts
reading-batch [] y n e w p d s = refl
reading-batch (c ∷ x) y n e w p d s =
    reading-step (take_character w.entities p c) n e w p d s c x y (λ p'. parse w.entities p' x) refl (λ p' d'. reading-batch x y n e w p' d' s)
