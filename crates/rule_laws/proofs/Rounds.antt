-- No token uses up the rounds that it is allowed, and each ends in what the caller can do.
use Rattle.std.proofs.lemmas.Bool.{leb-true}
use Rattle.std.specs.Prelude.{if◌then◌else◌}
use Rattle.std.proofs.Common.{ℕ, zero, suc, ◌+◌, ◌*◌, ◌≤◌, ◌<◌, ◌⊎◌, inl, inr, nat_le, not, ◌||◌, ◌&&◌, Bool, true, false, ◌≡◌, ◌==◌, List, [], ◌∷◌, length, Option, Some, None, refl, sym, subst, true≢false, arith}
use Rattle.html_types.specs.Names.{name_text}
use Rattle.html_types.specs.declared.instruction.Instr.{Instr}
use Rattle.html_types.specs.declared.instruction.Instr.TheVariants as ins
use Rattle.html_types.specs.declared.instruction.Test.TheVariants.{SelfClosing}
use Rattle.html_types.specs.declared.instruction.Mode.{Mode}
use Rattle.html_types.specs.declared.instruction.Mode.TheVariants.{InBody, InForeign}
use Rattle.html_types.specs.declared.instruction.Flow.{Flow}
use Rattle.html_types.specs.declared.instruction.Flow.TheVariants.{On, Skip, Leave}
use Rattle.html_types.specs.declared.instruction.Next.{Next}
use Rattle.html_types.specs.declared.instruction.Next.TheVariants as next
use Rattle.html_types.specs.declared.instruction.Then.{Then}
use Rattle.html_types.specs.declared.instruction.Then.TheVariants.{Nothing, Link, Nobr}
use Rattle.html_types.specs.declared.word.Word.{Word}
use Rattle.html_types.specs.declared.word.Word.TheVariants as word
use Rattle.html_types.specs.declared.token.Token.{Token}
use Rattle.html_types.specs.declared.token.Token.TheVariants.{StartTag, EndTag, Character, Comment, Doctype, EndOfFile}
use Rattle.html_types.specs.declared.operation.Op.{Op}
use Rattle.html_types.specs.declared.open.Open.{Open}
use Rattle.html_types.specs.declared.open.OpenElement.{OpenElement}
use Rattle.standard.specs.WhiteSpace.{is_space}
use Rattle.standard.specs.Rows.{is_among}
use Rattle.standard.specs.Foreign.{adjusted, goes_foreign, breaks_out, is_html, is_text_point, is_annotation, is_html_point}
use Rattle.standard.specs.Instructions.{Config, config, on, run, pop_foreign, foreign_end, end_foreign_with}
use Rattle.standard.specs.Adoption.{Adopted, adopt}
use Rattle.standard.specs.RulesBody.{after_adopt}
use Rattle.standard.specs.RulesForeign.{in_foreign_any_end}
use Rattle.standard.specs.Rules.{Answer, answer, adopting, with_adoption, row, by_mode, process, rounds, rules_for, go_round, round_after, next_of, start_row, end_row, comment_row, doctype_row}
use Rattle.rule_laws.specs.Rounds.{is_insertion_mode, HasModes, is_answer, RoundsSuffice, RoundsAnswer}
use Rattle.rule_laws.proofs.Counts.{add, all, count-all, is_weighty, fewer-than-all, pop_foreign-fewer}
use Rattle.rule_laws.proofs.Readings.{calm_next, calm, all_quiet, kept_weight, pending_weight, weight_of, Small, Fit, Way, onto, anew, falls, Goes, FineNext, FineFlow, Fine}
use Rattle.rule_laws.proofs.Calm.{split, run-quiet}
use Rattle.rule_laws.proofs.Takes.{fewer-weight, thinner-fit}
use Rattle.rule_laws.proofs.Walk.{fine-calm, left-fine}
use Rattle.rule_laws.proofs.Rows.{Table, span, settles, settles_with, by_rows, Sound, rows-sound, chain, end_chain, character_rows, character-rows, characters-settle, starts-settle, ends-settle, comments-settle, doctypes-settle, at_end, end-settles, end-sound}

-- ---- behind the adoption agency algorithm

after-quiet : (h : Then) (other : Bool) → all_quiet false (after_adopt h other) ≡ true
after-quiet Nothing true = refl
after-quiet Nothing false = refl
after-quiet (Link id) true = refl
after-quiet (Link id) false = refl
after-quiet Nobr true = refl
after-quiet Nobr false = refl

calm-asked : (fl : Flow) → calm false fl ≡ true → calm_next false (next_of fl) ≡ true
calm-asked On s = refl
calm-asked Skip s = refl
calm-asked (Leave n) s = s

-- no other round is asked for
adopting-calm : (w : Word) (h : Then) (t : Token) (b : Open) (o : List Op) → calm_next false (adopting w h t b o).next ≡ true
unfolding adopting
adopting-calm w h t b o =
    let a : Adopted = adopt w b o in
    let row_after : List Instr = after_adopt h a.other in
    calm-asked (run t (on a.open_state a.ops) row_after).flow (run-quiet false row_after t a.open_state a.ops On refl (after-quiet h a.other))

-- ---- one round

-- where each round is done by f
abbrev Rounds : Type 0
Rounds = Open → List Op → Mode → Answer

abbrev goes_on : Rounds → Token → Answer → Answer
goes_on f t a = go_round (f a.open_state a.ops) a.open_state a.ops (round_after t a.open_state a.next)

-- what a row comes to, where the next round is done so
abbrev round_of : Rounds → Token → Open → List Op → Flow → Answer
round_of f t b o fl = goes_on f t (with_adoption t b o (next_of fl))

-- two answers are the same, and it is one
abbrev Agree : Answer → Answer → Type 0
Agree x y = (x ≡ y) × (calm_next false y.next ≡ true)

over-same : (f g : Rounds) (t : Token) (b : Open) (o : List Op) (n : Next) → calm_next false n ≡ true → Agree (goes_on f t (answer b o n)) (goes_on g t (answer b o n))
over-same f g t b o next.Reprocess s = absurd (true≢false (sym s))
over-same f g t b o (next.UsingRules m) s = absurd (true≢false (sym s))
over-same f g t b o next.InBodyFostering s = absurd (true≢false (sym s))
over-same f g t b o n s = (refl, s)

round-same : (x : Bool) (h : Way → Bool) (v : ℕ) (t : Token) (b : Open) (o : List Op) (f g : Rounds) (fl : Flow)
    → (FineNext x h v b next.Reprocess → Agree (f b o (rules_for t b)) (g b o (rules_for t b)))
    → ((m : Mode) → FineNext x h v b (next.UsingRules m) → Agree (f b o m) (g b o m))
    → FineFlow x h v b fl → Agree (round_of f t b o fl) (round_of g t b o fl)
round-same x h v t b o f g On again onward fine = (refl, refl)
round-same x h v t b o f g Skip again onward fine = (refl, refl)
round-same x h v t b o f g (Leave next.Reprocess) again onward fine = again fine
round-same x h v t b o f g (Leave (next.UsingRules m)) again onward fine = onward m fine
round-same x h v t b o f g (Leave next.InBodyFostering) again onward fine = onward InBody fine
round-same x h v t b o f g (Leave (next.Adopt w after)) again onward fine =
    let a : Answer = adopting w after t b o in over-same f g t a.open_state a.ops a.next (adopting-calm w after t b o)
round-same x h v t b o f g (Leave _) again onward fine = (refl, refl)

-- ---- the rules for foreign content: the token is done, or it goes by the rules of the mode

foreign-end : (x : Bool) (h : Way → Bool) (v : ℕ) (t : Token) (b : Open) (o : List Op) (es : Option (List OpenElement)) → Fit b → weight_of x b ≤ v → h (onto b.mode) ≡ true
    → (let c : Config = end_foreign_with es b o in FineFlow x h v c.open_state c.flow)
foreign-end x h v t b o None s w e = (s, (w, e))
foreign-end x h v t b o (Some es) s w e = tt

broken-out : (x : Bool) (h : Way → Bool) (v : ℕ) (b : Open) → Fit b → weight_of x b ≤ v → h (onto b.mode) ≡ true → FineNext x h v (record b { stack = pop_foreign b.stack }) (next.UsingRules b.mode)
broken-out x h v b s w e =
    let l : weight_of x (record b { stack = pop_foreign b.stack }) ≤ weight_of x b =
    fewer-weight x b.stack (pop_foreign b.stack) b.original b.pending_text (pop_foreign-fewer is_weighty b.stack) in
    (thinner-fit b (pop_foreign b.stack) (pop_foreign-fewer all b.stack) s, (omega (arith, l, w), e))

quiet-fine : (x : Bool) (h : Way → Bool) (v : ℕ) (t : Token) (b : Open) (o : List Op) (is : List Instr) → all_quiet true is ≡ true → Fine x h v (run t (on b o) is)
quiet-fine x h v t b o is q = let c : Config = run t (on b o) is in fine-calm x h v c.open_state c.flow (run-quiet true is t b o On refl q)

quiet-characters : (nul space : Bool) → all_quiet true (character_rows nul space InForeign) ≡ true
quiet-characters true true = refl
quiet-characters true false = refl
quiet-characters false true = refl
quiet-characters false false = refl

foreign-fine : (x : Bool) (h : Way → Bool) (v : ℕ) (t : Token) (b : Open) (o : List Op) → Fit b → weight_of x b ≤ v → h (onto b.mode) ≡ true → Fine x h v (run t (on b o) (row InForeign t))
unfolding row run
foreign-fine x h v (StartTag tag) b o s w e = by (breaks_out tag)
  where
    is : List Instr
    is = ins.InsertForeign ∷ ins.When SelfClosing ∷ ins.Pop ∷ []

    by : (breaks : Bool) → Fine x h v (run (StartTag tag) (config b o (if breaks then On else Skip)) (ins.BreakOut ∷ is))
    by true =
        let b' : Open = record b { stack = pop_foreign b.stack } in
        left-fine x h v (StartTag tag) is b' o (next.UsingRules b.mode) (broken-out x h v b s w e)
    by false = quiet-fine x h v (StartTag tag) b o is refl
foreign-fine x h v (EndTag tag) b o s w e = by (is_among (word.Br ∷ word.P ∷ []) tag.name)
  where
    by : (breaks : Bool) → Fine x h v (run (EndTag tag) (on b o) (if breaks then ins.BreakOut ∷ [] else in_foreign_any_end))
    by true = broken-out x h v b s w e
    by false = foreign-end x h v (EndTag tag) b o (foreign_end (name_text tag.name) b.stack b.stack) s w e
foreign-fine x h v (Character c) b o s w e =
    quiet-fine x h v (Character c) b o (row InForeign (Character c)) (subst (λ r. all_quiet true r ≡ true) (sym (character-rows c InForeign)) (quiet-characters (c == 0) (is_space c)))
foreign-fine x h v (Comment text) b o s w e = quiet-fine x h v (Comment text) b o (row InForeign (Comment text)) refl
foreign-fine x h v (Doctype name force) b o s w e = tt
foreign-fine x h v EndOfFile b o s w e = tt

-- ---- the weight

kept-bound : (m : Option Mode) → kept_weight m ≤ 1
kept-bound None = omega arith
kept-bound (Some m) = omega arith

pending-bound : (p : List ℕ) → pending_weight p ≤ 513
pending-bound [] = omega arith
pending-bound (c ∷ cs) = omega arith

weight-bound : (x : Bool) (b : Open) → Small b → weight_of x b ≤ 1026
weight-bound true b s = omega arith
weight-bound false b s =
    let few = fewer-than-all is_weighty b.stack in
    let kept = kept-bound b.original in
    let pending = pending-bound b.pending_text in
    omega (arith, few, kept, pending, s)

-- ---- all rounds

-- k + n, by recursion on k
more : ℕ → ℕ → ℕ
more zero n = n
more (suc k) n = suc (more k n)

more-add : (k n : ℕ) → more k n ≡ k + n
unfolding more
more-add zero n = omega arith
more-add (suc k) n = let e : more k n ≡ k + n = more-add k n in omega (arith, e)

-- by the rules for foreign content first, or at once by those of the mode
abbrev begun : Bool → Mode → Mode
begun true m = InForeign
begun false m = m

-- a token, and the table of its rounds; only where `foreign` does it go by the rules for foreign content
record Tokens : Type 0 where
  x : Bool
  foreign : Bool
  limit : ℕ
  t : Token
  round : Table
  sound : Sound x t round
  all_settle : (m : Mode) → is_insertion_mode m ≡ true → settles foreign limit round limit false m ≡ true
  only : (e : Option OpenElement) → goes_foreign t e ≡ true → foreign ≡ true

module _ (k : Tokens) (n : ℕ) where
  abbrev Same : ℕ → Mode → Open → List Op → Type 0
  Same j m b o = Agree (process (more j n) m k.t b o) (process j m k.t b o)

  -- j rounds are enough where the weight is v, and within i of them the token is done or the weight is less
  abbrev Enough : ℕ → Type 0
  Enough j =
      (v i : ℕ) (first : Bool) (m : Mode) (b : Open) (o : List Op) → span * v + i ≤ j → settles k.foreign k.limit k.round i first m ≡ true
      → (first ≡ true → b.mode ≡ m) → Fit b → weight_of k.x b ≤ v → Same j (begun first m) b o

  at_once : {A : Type 0} → false ≡ true → A
  at_once e = absurd (true≢false (sym e))

  once-more : (j v i : ℕ) (b : Open) (o : List Op) → Enough j → span * v + i ≤ j → (foreign : Bool) → k.foreign ≡ foreign → settles k.foreign k.limit k.round i foreign b.mode ≡ true → Fit b → weight_of k.x b ≤ v
      → (goes : Bool) → (goes ≡ true → foreign ≡ true) → Same j (if goes then InForeign else b.mode) b o
  unfolding settles
  once-more j v i b o enough l true f s fit w true only = enough v i true b.mode b o l s (λ e. refl) fit w
  once-more j v zero b o enough l true f s fit w false only = absurd (true≢false (sym s))
  once-more j v (suc i) b o enough l true f s fit w false only = enough v i false b.mode b o (omega (arith, l)) s at_once fit w
  once-more j v i b o enough l false f s fit w true only = absurd (true≢false (sym (only refl)))
  once-more j v i b o enough l false f s fit w false only = enough v i false b.mode b o l s at_once fit w

  again-same : (j v i : ℕ) (b : Open) (o : List Op) → Enough j → span * v + i ≤ j → settles k.foreign k.limit k.round i k.foreign b.mode ≡ true → Fit b → weight_of k.x b ≤ v → Same j (rules_for k.t b) b o
  again-same j v i b o enough l s fit w = once-more j v i b o enough l k.foreign refl s fit w (goes_foreign k.t (adjusted b)) (k.only (adjusted b))

  -- each mode settles, where the rules for foreign content may come first
  from-first : (foreign : Bool) (m : Mode) → settles k.foreign k.limit k.round k.limit false m ≡ true → settles k.foreign k.limit k.round (add foreign k.limit) foreign m ≡ true
  unfolding settles
  from-first true m s = s
  from-first false m s = s

  fallen-same : (j v i : ℕ) (b : Open) (o : List Op) → Enough j → span * v + i ≤ j → add k.foreign k.limit ≤ i + span → Fit b → weight_of k.x b < v → Same j (rules_for k.t b) b o
  fallen-same j zero i b o enough l h fit w = absurd (omega (arith, w))
  fallen-same j (suc v) i b o enough l h fit w =
      again-same j v (add k.foreign k.limit) b o enough (omega (arith, l, h)) (from-first k.foreign b.mode (k.all_settle b.mode fit.1.mode)) fit (omega (arith, w))

  abbrev ways : ℕ → Way → Bool
  ways i w = elim w as (λ _. Bool) [
    | onto m ↦ settles k.foreign k.limit k.round i false m
    | anew m ↦ settles k.foreign k.limit k.round i k.foreign m
    | falls ↦ nat_le (add k.foreign k.limit) (i + span)
  ]

  round-enough : (j v i : ℕ) (b : Open) (o : List Op) (fl : Flow) → Enough j → span * v + suc i ≤ suc j → FineFlow k.x (ways i) v b fl
      → Agree (round_of (λ b' o' m'. process (more j n) m' k.t b' o') k.t b o fl) (round_of (λ b' o' m'. process j m' k.t b' o') k.t b o fl)
  round-enough j v i b o fl enough l fine =
      round-same k.x (ways i) v k.t b o (λ b' o' m'. process (more j n) m' k.t b' o') (λ b' o' m'. process j m' k.t b' o') fl again (λ m f. enough v i false m b o less f.1.1 at_once f.0 f.1.0) fine
    where
      less : span * v + i ≤ j
      less = omega (arith, l)

      by_weight : Fit b → ((weight_of k.x b < v) × (ways i falls ≡ true)) ⊎ Goes k.x (ways i) v b (anew b.mode) → Same j (rules_for k.t b) b o
      by_weight fit (inl w) = fallen-same j v i b o enough less (leb-true (add k.foreign k.limit) (i + span) w.1) fit w.0
      by_weight fit (inr g) = again-same j v i b o enough less g.1 fit g.0

      again : FineNext k.x (ways i) v b next.Reprocess → Same j (rules_for k.t b) b o
      again f = by_weight f.0 f.1

  more-enough : (j : ℕ) → Enough j → Enough (suc j)
  unfolding more process by_mode settles
  more-enough j enough v zero first m b o l e same fit w = absurd (true≢false (sym e))
  more-enough j enough v (suc i) true m b o l e same fit w =
      let c : Config = run k.t (on b o) (row InForeign k.t) in
      round-enough j v i c.open_state c.ops c.flow enough l
      (foreign-fine k.x (ways i) v k.t b o fit w (subst (λ m'. settles k.foreign k.limit k.round i false m' ≡ true) (sym (same refl)) e))
  more-enough j enough v (suc i) false m b o l e same fit w =
      let c : Config = run k.t (on b o) (row m k.t) in
      round-enough j v i c.open_state c.ops c.flow enough l (k.sound (ways i) v m b o fit w (split (is_insertion_mode m) (k.round m (ways i)) e).1)

  none-enough : Enough zero
  unfolding settles
  none-enough v zero first m b o l e same fit w = absurd (true≢false (sym e))
  none-enough v (suc i) first m b o l e same fit w = absurd (omega (arith, l))

  all-enough : (j : ℕ) → Enough j
  all-enough zero = none-enough
  all-enough (suc j) = more-enough j (all-enough j)

  begins : (j : ℕ) → Enough j → span * 1026 + suc k.limit ≤ j → (m : Mode) (b : Open) (o : List Op) → Fit b → Same j m b o
  unfolding settles
  begins j enough l InForeign b o s = enough 1026 (suc k.limit) true b.mode b o l (k.all_settle b.mode s.1.mode) (λ e. refl) s (weight-bound k.x b s.0)
  begins j enough l m b o s = enough 1026 k.limit false m b o (omega (arith, l)) (k.all_settle m refl) at_once s (weight-bound k.x b s.0)

-- ---- every token

tags-only : (t : Token) (e : Option OpenElement) → goes_foreign t e ≡ true → true ≡ true
tags-only t e h = refl

-- the end of the input never goes by the rules for foreign content
end-only : (e : Option OpenElement) → goes_foreign EndOfFile e ≡ true → false ≡ true
unfolding goes_foreign
end-only None h = h
end-only (Some e) h = by (is_html e.name || (is_text_point e && false) || (is_annotation e.name && false) || (is_html_point e && false)) h
  where
    by : (v : Bool) → not (v || true) ≡ true → false ≡ true
    by true g = g
    by false g = g

abbrev by_table : (x : Bool) (t : Token) (round : Table) → Sound x t round → ((m : Mode) → is_insertion_mode m ≡ true → settles_with round m ≡ true) → Tokens
by_table x t round sound all_settle = record { x = x; foreign = true; limit = chain; t = t; round = round; sound = sound; all_settle = all_settle; only = tags-only t }

abbrev of_end : Tokens
of_end = record { x = false; foreign = false; limit = end_chain; t = EndOfFile; round = at_end; sound = end-sound; all_settle = end-settles; only = end-only }

begun-same : (k : Tokens) → k.limit ≤ chain → (n : ℕ) (m : Mode) (b : Open) (o : List Op) → Fit b → Agree (process (more rounds n) m k.t b o) (process rounds m k.t b o)
begun-same k l n = begins k n rounds (all-enough k n rounds) (omega (arith, l))

token-same : (t : Token) (n : ℕ) (m : Mode) (b : Open) (o : List Op) → Fit b → Agree (process (more rounds n) m t b o) (process rounds m t b o)
unfolding row
token-same (StartTag tag) =
    begun-same (by_table false (StartTag tag) (by_rows false (λ m'. start_row m' tag.name)) (rows-sound false (StartTag tag) (λ m'. start_row m' tag.name) (λ m'. refl)) (starts-settle tag.name)) (omega arith)
token-same (EndTag tag) =
    begun-same (by_table false (EndTag tag) (by_rows false (λ m'. end_row m' tag.name)) (rows-sound false (EndTag tag) (λ m'. end_row m' tag.name) (λ m'. refl)) (ends-settle tag.name)) (omega arith)
token-same (Character c) =
    let rows : Mode → List Instr = character_rows (c == 0) (is_space c) in
    begun-same (by_table true (Character c) (by_rows true rows) (rows-sound true (Character c) rows (character-rows c)) (characters-settle (c == 0) (is_space c))) (omega arith)
token-same (Comment text) = begun-same (by_table false (Comment text) (by_rows false comment_row) (rows-sound false (Comment text) comment_row (λ m'. refl)) comments-settle) (omega arith)
token-same (Doctype name force) = begun-same (by_table false (Doctype name force) (by_rows false doctype_row) (rows-sound false (Doctype name force) doctype_row (λ m'. refl)) doctypes-settle) (omega arith)
token-same EndOfFile = begun-same of_end (omega arith)

fit : (b : Open) → length b.stack ≤ 512 → HasModes b → Fit b
fit b l h = let same = count-all b.stack in (omega (arith, same, l), h)

pub rounds-suffice : RoundsSuffice
rounds-suffice n m t b o l h =
    let P : ℕ → Type 0 = λ f. process f m t b o ≡ process rounds m t b o in
    subst P (more-add rounds n) (token-same t n m b o (fit b l h)).0

answered : (n : Next) → calm_next false n ≡ true → is_answer n ≡ true
answered next.Reprocess s = s
answered (next.UsingRules m) s = s
answered next.InBodyFostering s = s
answered (next.Adopt w after) s = s
answered _ s = refl

pub rounds-answer : RoundsAnswer
rounds-answer m t b o l h = answered (process rounds m t b o).next (token-same t 0 m b o (fit b l h)).1
