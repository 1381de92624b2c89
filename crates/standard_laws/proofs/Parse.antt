-- Characters one by one, each operation done at once, are the operations of `parse` done after it.
use Rattle.std.proofs.Common.{◌≡◌, ℕ, suc, ◌+◌, List, [], ◌∷◌, ◌++◌, drop, refl, sym, ◌∙◌, ap, zero-add, append_assoc, arith}
use mathlib.Core.Path.{fun_ext}
use Rattle.html_types.specs.declared.operation.Op.{Op}
use Rattle.html_types.specs.declared.instruction.Stop.{Stop}
use Rattle.html_types.specs.declared.instruction.Stop.TheVariants as stop
use Rattle.standard.specs.Act.{Doc, act, acts}
use Rattle.standard.specs.Parser.{Parser, Took, took, take_character, Parsed, after_character, and_rest, parse}
use Rattle.serial.specs.Serial.{Advanced, advanced, done_then, advance}
use Rattle.standard_laws.specs.Laws.{unless_stopped, and_then, executed, ParsesInPieces, AdvancesByParse}

pub acts-append : (xs ys : List Op) (d : Doc) → acts d (xs ++ ys) ≡ acts (acts d xs) ys
unfolding acts
acts-append [] ys d = refl
acts-append (x ∷ xs) ys d = acts-append xs ys (act d x)

executed-after : (ops : List Op) (d : Doc) (c : ℕ) (cs : List ℕ) (r : Parsed) → executed d (c ∷ cs) (after_character ops r) ≡ executed (acts d ops) cs r
executed-after ops d c cs r = ap (λ d'. advanced r.parser d' (drop r.used cs) r.stop) (acts-append ops r.ops d)

done_then-and_rest : (k : Took) (d : Doc) (c : ℕ) (cs : List ℕ) (f : Parser → Doc → Advanced) (g : Parser → Parsed) →
    ((p' : Parser) (d' : Doc) → f p' d' ≡ executed d' cs (g p')) → done_then k d cs f ≡ executed d (c ∷ cs) (and_rest k g)
done_then-and_rest (took ops p stop.InputEnd) d c cs f g same = same p (acts d ops) ∙ sym (executed-after ops d c cs (g p))
done_then-and_rest (took ops p _) d c cs f g same = refl

-- characters one by one are `parse`, its operations done on the document
pub advance-parse : AdvancesByParse
unfolding advance parse acts
advance-parse es p d [] = refl
advance-parse es p d (c ∷ cs) = done_then-and_rest (take_character es p c) d c cs _ _ (λ p' d'. advance-parse es p' d' cs)

and_rest-and_then : (k : Took) (f g : Parser → Parsed) → and_then (and_rest k f) g ≡ and_rest k (λ p. and_then (f p) g)
and_rest-and_then (took ops p stop.InputEnd) f g = by_stop (f p).stop (f p)
  where
    by_stop : (why : Stop) (r : Parsed) → unless_stopped why (after_character ops r) g ≡ after_character ops (unless_stopped why r g)
    by_stop stop.InputEnd r =
        let e : suc r.used + (g r.parser).used ≡ suc (r.used + (g r.parser).used) = omega arith in
        rw (e, append_assoc ops r.ops (g r.parser).ops)
    by_stop _ r = refl
and_rest-and_then (took ops p _) f g = refl

-- text may come in pieces
pub parse-append : ParsesInPieces
unfolding parse
parse-append es p [] y = rw zero-add
parse-append es p (c ∷ cs) y =
    ap (and_rest (take_character es p c)) (fun_ext (λ q. parse-append es q cs y))
    ∙ sym (and_rest-and_then (take_character es p c) (λ q. parse es q cs) (λ q. parse es q y))
