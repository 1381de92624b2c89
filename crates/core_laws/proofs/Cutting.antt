-- The first batch of an answer, and what comes behind it.
use Rattle.std.proofs.Common.{◌≡◌, ◌≤◌, ◌⊎◌, inl, inr, ℕ, zero, suc, min, true≢false, List, [], ◌∷◌, ◌++◌, length, take, drop, Option, Some, None, refl, sym, ◌∙◌, ap, subst, arith}
use Rattle.std.proofs.lemmas.List.{take-append-drop, length-drop, length-take, drop_all}
use Rattle.html_types.specs.declared.instruction.Stop.{Stop}
use Rattle.html_types.specs.declared.instruction.Stop.TheVariants as stop
use Rattle.html_types.specs.declared.ending.Ending.{Ending}
use Rattle.standard.specs.Entities.{Entities}
use Rattle.standard.specs.Parser.{Parser, Took, took, take_character, Parsed, and_rest, parse}
use Rattle.core_definitions.specs.Batches.{Piece, Batch, text_batch, end_batch, Halt, at, Answered, and_behind, cut, and_ending, answer, over_with}
use Rattle.core_definitions.specs.Settling.{is_empty}
use Rattle.core_definitions.specs.Desk.{blank}
use Rattle.moment_laws.proofs.Through.{parse-front}

-- it goes on behind a batch that used all its text or stopped at a script
abbrev pub GoesOn : Halt → Type 0 → Type 0
GoesOn (at stop.InputEnd) C = C
GoesOn (at (stop.Script i)) C = C
GoesOn _ C = Unit {0}

-- a batch of text, with these behind it
pub record IsText (es : Entities) (p : Parser) (x : Piece) (b : Batch) (bs : List Batch) : Type 0 where
  pub rest : List ℕ
  pub text : x.text ≡ b.text ++ rest
  pub parsed : b ≡ text_batch p b.text (parse es p b.text)
  pub used : drop (parse es p b.text).used b.text ≡ []
  pub more : GoesOn b.halt (bs ≡ (answer es (Some b.after) (record x { text = rest })).batches)
  pub ends : GoesOn b.halt ((answer es (Some p) x).parser ≡ (answer es (Some b.after) (record x { text = rest })).parser)

-- the batch of the page's ending, which is the last
pub record IsLast (es : Entities) (p : Parser) (x : Piece) (b : Batch) (bs : List Batch) : Type 0 where
  pub ending : Ending
  pub carries : x.ending ≡ Some ending
  pub text : x.text ≡ []
  pub is : b ≡ end_batch es p ending
  pub last : bs ≡ []

-- ---- at least one character of a text is used

some-used : (k : Took) (f : Parser → Parsed) → 1 ≤ (and_rest k f).used
some-used (took ops q stop.InputEnd) f = omega arith
some-used (took ops q _) f = omega arith

uses : (es : Entities) (p : Parser) (c : ℕ) (cs : List ℕ) → 1 ≤ (parse es p (c ∷ cs)).used
unfolding parse
uses es p c cs = some-used (take_character es p c) (λ q. parse es q cs)

all-used : (n : ℕ) (t : List ℕ) → drop n (take n t) ≡ []
all-used n t =
    let e : length (take n t) ≡ min n (length t) = length-take n t in
    drop_all n (take n t) (grind (arith, e))

pub shorter : (es : Entities) (p : Parser) (c : ℕ) (cs : List ℕ) (n : ℕ) → length cs ≤ n → length (drop (parse es p (c ∷ cs)).used (c ∷ cs)) ≤ n
shorter es p c cs n h = rw (length-drop (parse es p (c ∷ cs)).used (c ∷ cs)) (omega (arith, h, uses es p c cs))

-- more fuel than characters makes no difference
pub cut-enough : (n k : ℕ) (es : Entities) (p : Parser) (t : List ℕ) → length t ≤ n → length t ≤ k → cut n es p t ≡ cut k es p t
unfolding cut
cut-enough zero zero es p t h g = refl
cut-enough zero (suc k) es p [] h g = refl
cut-enough zero (suc k) es p (c ∷ cs) h g = absurd (omega (arith, h))
cut-enough (suc n) zero es p [] h g = refl
cut-enough (suc n) zero es p (c ∷ cs) h g = absurd (omega (arith, g))
cut-enough (suc n) (suc k) es p [] h g = refl
cut-enough (suc n) (suc k) es p (c ∷ cs) h g =
    let r : Parsed = parse es p (c ∷ cs) in
    let a : length cs ≤ n = omega (arith, h) in
    let b : length cs ≤ k = omega (arith, g) in
    ap (and_behind (text_batch p (take r.used (c ∷ cs)) r) r.stop) (cut-enough n k es r.parser (drop r.used (c ∷ cs)) (shorter es p c cs n a) (shorter es p c cs k b))

-- ---- the first batch

abbrev first_or : Batch → List Batch → Batch
first_or d [] = d
first_or d (b ∷ bs) = b

abbrev rest_of : List Batch → List Batch
rest_of [] = []
rest_of (b ∷ bs) = bs

ending-behind : (es : Entities) (o : Option Ending) (b : Batch) (bs : List Batch) (q : Option Parser) →
    (and_ending es o (record { batches = b ∷ bs; parser = q })).batches ≡ b ∷ (and_ending es o (record { batches = bs; parser = q })).batches
ending-behind es None b bs q = refl
ending-behind es (Some e) b bs None = refl
ending-behind es (Some e) b bs (Some p) = refl

parser-behind : (es : Entities) (o : Option Ending) (b : Batch) (bs : List Batch) (q : Option Parser) →
    (and_ending es o (record { batches = b ∷ bs; parser = q })).parser ≡ (and_ending es o (record { batches = bs; parser = q })).parser
parser-behind es None b bs q = refl
parser-behind es (Some e) b bs None = refl
parser-behind es (Some e) b bs (Some p) = refl

ending-none : (es : Entities) (o : Option Ending) (bs : List Batch) → (and_ending es o (record { batches = bs; parser = None })).batches ≡ bs
ending-none es None bs = refl
ending-none es (Some e) bs = refl

goes : (h : Halt) (C : Type 0) → C → GoesOn h C
goes (at stop.InputEnd) C x = x
goes (at (stop.Script i)) C x = x
goes (at stop.Deep) C x = tt
goes (over_with w) C x = tt

module _ (es : Entities) (p : Parser) (c : ℕ) (cs : List ℕ) (o : Option Ending) where
  abbrev r : Parsed
  r = parse es p (c ∷ cs)

  abbrev front : List ℕ
  front = take r.used (c ∷ cs)

  abbrev back : List ℕ
  back = drop r.used (c ∷ cs)

  abbrev cut_back : Answered
  cut_back = cut (length cs) es r.parser back

  abbrev Behind : (Answered → Answered → Type 0) → Type 0
  Behind Same = Same (answer es (Some p) (record { text = c ∷ cs; ending = o })) (answer es (Some r.parser) (record { text = back; ending = o }))

  abbrev SameEnd : Answered → Answered → Type 0
  SameEnd a a' = a.parser ≡ a'.parser

  is-front : (bs : List Batch) → GoesOn (at r.stop) (bs ≡ (answer es (Some r.parser) (record { text = back; ending = o })).batches) → GoesOn (at r.stop) (Behind SameEnd) →
      IsText es p (record { text = c ∷ cs; ending = o }) (text_batch p front r) bs
  is-front bs g k = record {
    rest = back;
    text = sym (take-append-drop r.used (c ∷ cs));
    parsed = ap (text_batch p front) (sym (parse-front es p (c ∷ cs)));
    used = ap (λ (q : Parsed). drop q.used front) (parse-front es p (c ∷ cs)) ∙ all-used r.used (c ∷ cs);
    more = g;
    ends = k;
  }

  -- with the fuel that the rest needs
  enough : cut_back ≡ cut (length back) es r.parser back
  enough =
      let n : length cs ≤ length cs = omega arith in
      let k : length back ≤ length back = omega arith in
      cut-enough (length cs) (length back) es r.parser back (shorter es p c cs (length cs) n) k

  onward : (b : Batch) (bs : List Batch) → b ∷ bs ≡ text_batch p front r ∷ (and_ending es o cut_back).batches →
      (and_ending es o (and_behind (text_batch p front r) r.stop cut_back)).parser ≡ (and_ending es o cut_back).parser → IsText es p (record { text = c ∷ cs; ending = o }) b bs
  unfolding answer cut
  onward b bs h e =
      let behind : bs ≡ (answer es (Some r.parser) (record { text = back; ending = o })).batches = ap rest_of h ∙ ap (λ (a : Answered). (and_ending es o a).batches) enough in
      let ends : Behind SameEnd = e ∙ ap (λ (a : Answered). (and_ending es o a).parser) enough in
      subst (λ (q : Batch). IsText es p (record { text = c ∷ cs; ending = o }) q bs) (sym (ap (first_or b) h)) (is-front bs (goes (at r.stop) _ behind) (goes (at r.stop) _ ends))

  by-stop : (b : Batch) (bs : List Batch) (why : Stop) → r.stop ≡ why → b ∷ bs ≡ (and_ending es o (and_behind (text_batch p front r) why cut_back)).batches →
      IsText es p (record { text = c ∷ cs; ending = o }) b bs
  by-stop b bs stop.InputEnd q h =
      onward b bs (h ∙ ending-behind es o (text_batch p front r) cut_back.batches cut_back.parser)
      (ap (λ s. (and_ending es o (and_behind (text_batch p front r) s cut_back)).parser) q ∙ parser-behind es o (text_batch p front r) cut_back.batches cut_back.parser)
  by-stop b bs (stop.Script i) q h =
      onward b bs (h ∙ ending-behind es o (text_batch p front r) cut_back.batches cut_back.parser)
      (ap (λ s. (and_ending es o (and_behind (text_batch p front r) s cut_back)).parser) q ∙ parser-behind es o (text_batch p front r) cut_back.batches cut_back.parser)
  by-stop b bs stop.Deep q h =
      let alone : b ∷ bs ≡ text_batch p front r ∷ [] = h ∙ ending-none es o (text_batch p front r ∷ []) in
      let halts : (C : Type 0) → GoesOn (at r.stop) C = λ C. subst (λ (s : Stop). GoesOn (at s) C) (sym q) tt in
      subst (λ (x : Batch). IsText es p (record { text = c ∷ cs; ending = o }) x bs) (sym (ap (first_or b) alone)) (is-front bs (halts _) (halts _))

by-text : (es : Entities) (p : Parser) (t : List ℕ) (o : Option Ending) (b : Batch) (bs : List Batch) → b ∷ bs ≡ (and_ending es o (cut (length t) es p t)).batches →
    IsText es p (record { text = t; ending = o }) b bs ⊎ IsLast es p (record { text = t; ending = o }) b bs
unfolding cut
by-text es p [] None b bs h = absurd (true≢false (sym (ap is_empty h)))
by-text es p [] (Some e) b bs h = inr (record { ending = e; carries = refl; text = refl; is = ap (first_or b) h; last = ap rest_of h })
by-text es p (c ∷ cs) o b bs h = inl (by-stop es p c cs o b bs (parse es p (c ∷ cs)).stop refl h)

-- the first batch of an answer is one of text or that of the ending
pub first-batch : (es : Entities) (p : Parser) (x : Piece) (b : Batch) (bs : List Batch) → b ∷ bs ≡ (answer es (Some p) x).batches → IsText es p x b bs ⊎ IsLast es p x b bs
unfolding answer
first-batch es p x b bs h = by-text es p x.text x.ending b bs h

-- ---- an answer is empty only where nothing is to be parsed

something-behind : (es : Entities) (o : Option Ending) (b : Batch) (why : Stop) (a : Answered) → [] ≡ (and_ending es o (and_behind b why a)).batches → ⊥
something-behind es o b stop.InputEnd a h = true≢false (ap is_empty (h ∙ ending-behind es o b a.batches a.parser))
something-behind es o b (stop.Script i) a h = true≢false (ap is_empty (h ∙ ending-behind es o b a.batches a.parser))
something-behind es o b stop.Deep a h = true≢false (ap is_empty (h ∙ ending-behind es o b [] None))

nothing-of : (es : Entities) (p : Parser) (t : List ℕ) (e : Ending) → [] ≡ (and_ending es (Some e) (cut (length t) es p t)).batches → ⊥
unfolding cut
nothing-of es p [] e h = true≢false (ap is_empty h)
nothing-of es p (c ∷ cs) e h =
    let r : Parsed = parse es p (c ∷ cs) in
    something-behind es (Some e) (text_batch p (take r.used (c ∷ cs)) r) r.stop (cut (length cs) es r.parser (drop r.used (c ∷ cs))) h

-- only a piece without text and ending is, and the parser stays where it is
pub record IsBlank (p : Parser) (t : List ℕ) (o : Option Ending) (end : Option Parser) : Type 0 where
  pub text : t ≡ []
  pub ending : o ≡ None
  pub stays : end ≡ Some p

blank-of : (es : Entities) (p : Parser) (t : List ℕ) (o : Option Ending) → [] ≡ (and_ending es o (cut (length t) es p t)).batches → IsBlank p t o (and_ending es o (cut (length t) es p t)).parser
unfolding cut
blank-of es p [] None h = record { text = refl; ending = refl; stays = refl }
blank-of es p [] (Some e) h = absurd (true≢false (ap is_empty h))
blank-of es p (c ∷ cs) o h =
    let r : Parsed = parse es p (c ∷ cs) in
    absurd (something-behind es o (text_batch p (take r.used (c ∷ cs)) r) r.stop (cut (length cs) es r.parser (drop r.used (c ∷ cs))) h)

pub answered-by-nothing : (es : Entities) (p : Parser) (x : Piece) → [] ≡ (answer es (Some p) x).batches → IsBlank p x.text x.ending (answer es (Some p) x).parser
unfolding answer
answered-by-nothing es p x h = blank-of es p x.text x.ending h

-- a piece with the page's ending is answered by a batch at least
pub ending-answered : (es : Entities) (p : Parser) (x : Piece) (e : Ending) → x.ending ≡ Some e → [] ≡ (answer es (Some p) x).batches → ⊥
unfolding answer
ending-answered es p x e q h = nothing-of es p x.text e (subst (λ o. [] ≡ (and_ending es o (cut (length x.text) es p x.text)).batches) q h)

-- a piece without text and ending is answered by nothing
pub blank-answer : (es : Entities) (p : Parser) → [] ≡ (answer es (Some p) blank).batches
unfolding answer cut
blank-answer es p = refl

pub blank-end : (es : Entities) (p : Parser) → (answer es (Some p) blank).parser ≡ Some p
unfolding answer cut
blank-end es p = refl
