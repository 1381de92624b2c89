-- The first batch in hand.
use Rattle.std.proofs.Common.{◌≡◌, ◌≤◌, arith, ◌⊎◌, inl, inr, ℕ, zero, suc, Bool, true, false, true≢false, List, [], ◌∷◌, ◌++◌, length, take, drop, Option, Some, None, refl, sym, ◌∙◌, ap, subst, IsTrue}
use Rattle.std.specs.Prelude.{◌&&◌, is_none}
use Rattle.std.proofs.lemmas.List.{take-append-drop, append_cancel_left}
use Rattle.html_types.specs.declared.operation.NodeId.{NodeId}
use Rattle.html_types.specs.declared.instruction.Stop.{Stop}
use Rattle.html_types.specs.declared.instruction.Stop.TheVariants as stop
use Rattle.html_types.specs.declared.ending.Ending.{Ending}
use Rattle.html_types.specs.declared.ending.Ending.TheVariants as ending
use Rattle.standard.specs.Act.{Doc, acts, is_bound, AreOpsBound}
use Rattle.standard.specs.Entities.{Entities}
use Rattle.standard.specs.Parser.{Parser, Took, took, take_character, Parsed, and_rest, parse}
use Rattle.rule_laws.specs.Naming.{IsStopBound}
use Rattle.core_definitions.specs.Batches.{Piece, Batch, text_batch, end_batch, Halt, at, Answered, and_behind, cut, and_ending, answer, over_with}
use Rattle.core_definitions.specs.Settling.{is_empty}
use Rattle.core_laws.proofs.Cutting.{GoesOn, IsText, IsLast, first-batch, answered-by-nothing}
use Rattle.moment_laws.specs.Served.{IsRoomy}
use Rattle.core_steps.specs.Acting.{IsHaltBound}
use Rattle.moment_laws.proofs.Served.{texts-room, ends-room}

-- ---- of a text, and of the page's ending

behind-one : (es : Entities) (o : Option Ending) (b : Batch) (bs : List Batch) (q : Option Parser) →
    (rest : List Batch) × ((and_ending es o (record { batches = b ∷ bs; parser = q })).batches ≡ b ∷ rest)
behind-one es None b bs q = (bs, refl)
behind-one es (Some e) b bs None = (bs, refl)
behind-one es (Some e) b bs (Some p) = (bs ++ end_batch es p e ∷ [], refl)

behind-stop : (es : Entities) (o : Option Ending) (b : Batch) (why : Stop) (a : Answered) → (rest : List Batch) × ((and_ending es o (and_behind b why a)).batches ≡ b ∷ rest)
behind-stop es o b stop.InputEnd a = behind-one es o b a.batches a.parser
behind-stop es o b (stop.Script i) a = behind-one es o b a.batches a.parser
behind-stop es o b stop.Deep a = behind-one es o b [] None

abbrev pub batch_of : Entities → Parser → List ℕ → Batch
batch_of es p t = text_batch p (take (parse es p t).used t) (parse es p t)

pub first-of-text : (es : Entities) (p : Parser) (t : List ℕ) (o : Option Ending) → is_empty t ≡ false → (rest : List Batch) × ((answer es (Some p) (record { text = t; ending = o })).batches ≡ batch_of es p t ∷ rest)
unfolding answer cut
first-of-text es p [] o some = absurd (true≢false some)
first-of-text es p (c ∷ cs) o some =
    let r : Parsed = parse es p (c ∷ cs) in
    behind-stop es o (batch_of es p (c ∷ cs)) r.stop (cut (length cs) es r.parser (drop r.used (c ∷ cs)))

pub ending-alone : (es : Entities) (p : Parser) (e : Ending) → (answer es (Some p) (record { text = []; ending = Some e })).batches ≡ end_batch es p e ∷ []
unfolding answer cut
ending-alone es p e = refl

pub nothing-alone : (es : Entities) (p : Parser) → (answer es (Some p) (record { text = []; ending = None })).batches ≡ []
unfolding answer cut
nothing-alone es p = refl

-- a hand is empty exactly where the piece has neither text nor ending
pub empty-hand : (es : Entities) (p : Parser) (x : Piece) → is_empty (answer es (Some p) x).batches ≡ (is_empty x.text && is_none x.ending)
empty-hand es p x = by x.text x.ending
  where
    by : (t : List ℕ) (o : Option Ending) → is_empty (answer es (Some p) (record { text = t; ending = o })).batches ≡ (is_empty t && is_none o)
    by [] None = ap is_empty (nothing-alone es p)
    by [] (Some e) = ap is_empty (ending-alone es p e)
    by (c ∷ cs) o = ap is_empty (first-of-text es p (c ∷ cs) o refl).1

-- ---- at least one character of a text is used

some-used : (k : Took) (f : Parser → Parsed) → 1 ≤ (and_rest k f).used
some-used (took ops q stop.InputEnd) f = omega arith
some-used (took ops q _) f = omega arith

uses : (es : Entities) (p : Parser) (c : ℕ) (cs : List ℕ) → 1 ≤ (parse es p (c ∷ cs)).used
unfolding parse
uses es p c cs = some-used (take_character es p c) (λ q. parse es q cs)

some-taken : (n c : ℕ) (cs : List ℕ) → 1 ≤ n → 1 ≤ length (take n (c ∷ cs))
some-taken zero c cs h = absurd (omega (arith, h))
some-taken (suc n) c cs h = omega arith

-- ---- what may be executed of it

-- its operations can be executed, and the ids that the parser behind it holds are bound then
pub record IsServed (realm : ℕ) (d : Doc) (b : Batch) : Type 0 where
  pub ops : AreOpsBound (is_bound d.bound) b.ops
  pub room : IsRoomy realm b.after (acts d b.ops)
  pub bound : IsHaltBound (is_bound (acts d b.ops).bound) b.halt

-- a batch with those behind it
pub record IsNext (es : Entities) (p : Parser) (x : Piece) (b : Batch) (bs : List Batch) : Type 0 where
  pub rest : List ℕ
  pub text : x.text ≡ b.text ++ rest
  pub more : GoesOn b.halt (bs ≡ (answer es (Some b.after) (record x { text = rest })).batches)
  pub some : GoesOn b.halt (1 ≤ length b.text)
  pub serves : (realm : ℕ) (d : Doc) → IsRoomy realm p d → IsServed realm d b

stop-bound : (known : NodeId → Bool) (s : Stop) → IsStopBound known s → IsHaltBound known (at s)
stop-bound known stop.InputEnd h = tt
stop-bound known (stop.Script i) h = h
stop-bound known stop.Deep h = tt

text-serves : (es : Entities) (p : Parser) (t : List ℕ) (realm : ℕ) (d : Doc) → IsRoomy realm p d → IsServed realm d (text_batch p t (parse es p t))
text-serves es p t realm d room =
    let s = texts-room realm d es p t room in
    record { ops = s.0.0; room = s.0.1; bound = stop-bound (is_bound (acts d (parse es p t).ops).bound) (parse es p t).stop s.1 }

end-serves : (es : Entities) (p : Parser) (e : Ending) (realm : ℕ) (d : Doc) → IsRoomy realm p d → IsServed realm d (end_batch es p e)
unfolding AreOpsBound acts
end-serves es p ending.End realm d room = let s = ends-room realm d es p room in record { ops = s.0; room = s.1; bound = tt }
end-serves es p ending.Bad realm d room = record { ops = tt; room = room; bound = tt }
end-serves es p ending.Long realm d room = record { ops = tt; room = room; bound = tt }
end-serves es p ending.Fault realm d room = record { ops = tt; room = room; bound = tt }

halts-there : (es : Entities) (p : Parser) (e : Ending) (C : Type 0) → GoesOn (end_batch es p e).halt C
halts-there es p ending.End C = tt
halts-there es p ending.Bad C = tt
halts-there es p ending.Long C = tt
halts-there es p ending.Fault C = tt

pub no-text : (es : Entities) (p : Parser) (e : Ending) → (end_batch es p e).text ≡ []
no-text es p ending.End = refl
no-text es p ending.Bad = refl
no-text es p ending.Long = refl
no-text es p ending.Fault = refl

first_or : Batch → List Batch → Batch
first_or d [] = d
first_or d (b ∷ bs) = b

goes : (h : Halt) (C : Type 0) → C → GoesOn h C
goes (at stop.InputEnd) C x = x
goes (at (stop.Script i)) C x = x
goes (at stop.Deep) C x = tt
goes (over_with w) C x = tt

some-of : (es : Entities) (p : Parser) (t : List ℕ) (o : Option Ending) (b : Batch) (bs : List Batch) → (answer es (Some p) (record { text = t; ending = o })).batches ≡ b ∷ bs → GoesOn b.halt (1 ≤ length b.text)
unfolding first_or
some-of es p [] None b bs h = absurd (true≢false (ap is_empty (sym (nothing-alone es p) ∙ h)))
some-of es p [] (Some e) b bs h =
    let is : end_batch es p e ≡ b = ap (first_or b) (sym (ending-alone es p e) ∙ h) in
    subst (λ (y : Batch). GoesOn y.halt (1 ≤ length b.text)) is (halts-there es p e _)
some-of es p (c ∷ cs) o b bs h =
    let first = first-of-text es p (c ∷ cs) o refl in
    let is : batch_of es p (c ∷ cs) ≡ b = ap (first_or b) (sym first.1 ∙ h) in
    goes b.halt _ (subst (λ (y : Batch). 1 ≤ length y.text) is (some-taken (parse es p (c ∷ cs)).used c cs (uses es p c cs)))

pub next-of : (es : Entities) (p : Parser) (x : Piece) (b : Batch) (bs : List Batch) → (answer es (Some p) x).batches ≡ b ∷ bs → IsNext es p x b bs
next-of es p x b bs h = by (first-batch es p x b bs (sym h))
  where
    by : IsText es p x b bs ⊎ IsLast es p x b bs → IsNext es p x b bs
    by (inl t) = record {
      rest = t.rest;
      text = t.text;
      more = t.more;
      some = some-of es p x.text x.ending b bs h;
      serves = λ realm d room. subst (IsServed realm d) (sym t.parsed) (text-serves es p b.text realm d room);
    }
    by (inr l) = record {
      rest = [];
      text = l.text ∙ (sym (no-text es p l.ending) ∙ (ap (λ (y : Batch). y.text) (sym l.is) ∙ sym (nil b.text)));
      more = subst (λ (y : Batch). GoesOn y.halt (bs ≡ (answer es (Some b.after) (record x { text = [] })).batches)) (sym l.is) (halts-there es p l.ending _);
      some = subst (λ (y : Batch). GoesOn y.halt (1 ≤ length b.text)) (sym l.is) (halts-there es p l.ending _);
      serves = λ realm d room. subst (IsServed realm d) (sym l.is) (end-serves es p l.ending realm d room);
    }
      where
        nil : (t : List ℕ) → t ++ [] ≡ t
        nil [] = refl
        nil (c ∷ cs) = ap (λ u. c ∷ u) (nil cs)

-- the first batch of a text is that up to the first stop, and the rest is what isn't used
pub rest-of-text : (es : Entities) (p : Parser) (t : List ℕ) (o : Option Ending) (bs : List Batch) (n : IsNext es p (record { text = t; ending = o }) (batch_of es p t) bs) → n.rest ≡ drop (parse es p t).used t
rest-of-text es p t o bs n =
    append_cancel_left (take (parse es p t).used t) n.rest (drop (parse es p t).used t) (sym n.text ∙ sym (take-append-drop (parse es p t).used t))
