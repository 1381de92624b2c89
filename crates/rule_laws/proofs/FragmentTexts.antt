-- Texts in the parser of a fragment, and texts that are read through.
use Rattle.std.proofs.Common.{◌≡◌, refl, sym, ap, ◌∙◌, subst, true≢false, ℕ, ◌+◌, ◌==◌, Bool, true, false, ◌||◌, ◌&&◌, List, [], ◌∷◌, ◌++◌, append-nil, Option, Some, None, arith}
use Rattle.std.specs.Prelude.{is_some, unwrap_or, if◌then◌else◌}
use Rattle.html_types.specs.Operations.{later}
use Rattle.html_types.specs.declared.instruction.Next.{Next}
use Rattle.html_types.specs.declared.instruction.Next.TheVariants as next
use Rattle.html_types.specs.declared.instruction.Stop.{Stop}
use Rattle.html_types.specs.declared.instruction.Stop.TheVariants as stop
use Rattle.html_types.specs.declared.instruction.Finish.{Finish}
use Rattle.html_types.specs.declared.instruction.Finish.TheVariants as finale
use Rattle.html_types.specs.declared.state.TokState.{TokState}
use Rattle.html_types.specs.declared.token.Token.{Token}
use Rattle.html_types.specs.declared.operation.NodeId.{NodeId}
use Rattle.html_types.specs.declared.operation.Op.{Op}
use Rattle.html_types.specs.declared.open.Open.{Open}
use Rattle.html_types.specs.declared.open.OpenElement.{OpenElement}
use Rattle.standard.specs.Entities.{Entities}
use Rattle.standard.specs.Foreign.{is_foreign}
use Rattle.standard.specs.Tokenizer.{read, read_end}
use Rattle.standard.specs.Rules.{Answer, construct}
use Rattle.standard.specs.Parser.{Parser, read_as, Took, took, after_ops, build_on, build, built, take_character, Finished, build_end_on, build_end, finish, Parsed, after_character, and_rest, parse}
use Rattle.standard.specs.Through.{Through, through, deep, after_those, and_through, read_through, if_finished, with_end, whole}
use Rattle.standard.specs.Tree.{Nodes}
use Rattle.standard.specs.Act.{Doc, is_bound, AreOpsBound}
use Rattle.standard.specs.Fragment.{form_id, root_element, fragment_opening, fragment_parser, fragment, roots_made, with_fragment}
use Rattle.rule_laws.specs.Naming.{Holds, Serves, AreFresh, known_after_all}
use Rattle.rule_laws.specs.NamingLaws.{StaysBound, TookBound, parser_of}
use Rattle.rule_laws.specs.Fragments.{CharactersKeepContext, EndsKeepContext, TextsKeepContext, asks_for_script, is_at_script, stop_of, IsFragment, CharactersNeverStop, TextsNeverStop, come_to, come_by, FragmentsParse, FragmentByParse, ThroughServed, DocsServeThrough, FragmentIsBound}
use Rattle.rule_laws.proofs.Contexts.{context-stays}
use Rattle.rule_laws.proofs.NeverStops.{tokens-never_stop}
use Rattle.rule_laws.proofs.FreshnessOps.{known-append, bound-append, Follows}
use Rattle.rule_laws.proofs.FreshnessTexts.{characters-bound, ends-bound, fresh-follows}
use Rattle.rule_laws.proofs.FreshnessDocs.{acts-bind}

-- ---- the context behind characters, and that they don't stop the parser where there is one

abbrev NoScript : Option OpenElement → Stop → Type 0
NoScript c s = is_some c ≡ true → is_at_script s ≡ false

abbrev Kept : Option OpenElement → Took → Type 0
Kept c x = ((parser_of x).open_state.context ≡ c) × NoScript c (stop_of x)

after-kept : (c : Option OpenElement) (ops : List Op) (x : Took) → Kept c x → Kept c (after_ops ops x)
after-kept c ops (took more p why) k = k

build_on-kept : (c : Option OpenElement) (s : TokState) (cr : Bool) (t : Token) (b : Open) (rest : TokState → Took) (n : Next) → b.context ≡ c → (is_some c ≡ true → asks_for_script n ≡ false)
    → ((s' : TokState) → Kept c (rest s')) → Kept c (build_on s cr t b rest n)
build_on-kept c s cr t b rest next.Done h i each = each s
build_on-kept c s cr t b rest (next.SwitchTokenizer r) h i each = each (read_as r t)
build_on-kept c s cr t b rest (next.Script id) h i each = (h, i)
build_on-kept c s cr t b rest next.Deep h i each = (h, λ u. refl)
build_on-kept c s cr t b rest (next.Adopt w x) h i each = each s
build_on-kept c s cr t b rest next.Reprocess h i each = each s
build_on-kept c s cr t b rest (next.UsingRules m) h i each = each s
build_on-kept c s cr t b rest next.InBodyFostering h i each = each s
build_on-kept c s cr t b rest next.Finished h i each = each s

build-kept : (c : Option OpenElement) (s : TokState) (cr : Bool) (ts : List Token) (b : Open) → b.context ≡ c → Kept c (build s cr ts b)
unfolding build
build-kept c s cr [] b h = (h, λ u. refl)
build-kept c s cr (t ∷ ts) b h =
    let a : Answer = construct t b [] in
    let g : a.open_state.context ≡ c = context-stays t b [] ∙ h in
    after-kept c a.ops (build_on s cr t a.open_state (λ s'. build s' cr ts a.open_state) a.next)
    (build_on-kept c s cr t a.open_state (λ s'. build s' cr ts a.open_state) a.next g (λ u. tokens-never_stop t b [] (ap (λ x. is_some x) h ∙ u)) (λ s'. build-kept c s' cr ts a.open_state g))

character-kept : (c : Option OpenElement) (es : Entities) (p : Parser) (k : ℕ) → p.open_state.context ≡ c → Kept c (take_character es p k)
unfolding take_character
character-kept c es p k h = by (p.after_cr && (k == 10)) (k == 13)
  where
    by : (skips cr : Bool) → Kept c (elim skips as (λ _. Took) [
      | true ↦ took [] (record p { after_cr = false }) stop.InputEnd
      | false ↦ elim cr as (λ _. Took) [ true ↦ built p true (read es (is_foreign p.open_state) p.tokenizer 10) | false ↦ built p false (read es (is_foreign p.open_state) p.tokenizer k) ]
    ])
    by true cr = (h, λ u. refl)
    by false true = build-kept c (read es (is_foreign p.open_state) p.tokenizer 10).state true (read es (is_foreign p.open_state) p.tokenizer 10).tokens p.open_state h
    by false false = build-kept c (read es (is_foreign p.open_state) p.tokenizer k).state false (read es (is_foreign p.open_state) p.tokenizer k).tokens p.open_state h

pub characters-context : CharactersKeepContext
characters-context es p k = (character-kept p.open_state.context es p k refl).0

pub characters-never_stop : CharactersNeverStop
characters-never_stop es p k h = (character-kept p.open_state.context es p k refl).1 h

-- ---- a text

abbrev KeptBy : Option OpenElement → Parsed → Type 0
KeptBy c r = (r.parser.open_state.context ≡ c) × NoScript c r.stop

rest-kept : (c : Option OpenElement) (x : Took) (rest : Parser → Parsed) → Kept c x → ((p : Parser) → p.open_state.context ≡ c → KeptBy c (rest p)) → KeptBy c (and_rest x rest)
rest-kept c (took ops p stop.InputEnd) rest k each = each p k.0
rest-kept c (took ops p (stop.Script id)) rest k each = k
rest-kept c (took ops p stop.Deep) rest k each = k

text-kept : (text : List ℕ) (c : Option OpenElement) (es : Entities) (p : Parser) → p.open_state.context ≡ c → KeptBy c (parse es p text)
unfolding parse
text-kept [] c es p h = (h, λ u. refl)
text-kept (k ∷ ks) c es p h = rest-kept c (take_character es p k) (λ p'. parse es p' ks) (character-kept c es p k h) (λ p'. text-kept ks c es p')

pub texts-context : TextsKeepContext
texts-context es p text = (text-kept text p.open_state.context es p refl).0

pub texts-never_stop : TextsNeverStop
texts-never_stop es p text h = (text-kept text p.open_state.context es p refl).1 h

-- ---- the end of the input

build_end_on-context : (c : Option OpenElement) (s : TokState) (cr : Bool) (b : Open) (rest : Finished) (n : Next) → b.context ≡ c → rest.parser.open_state.context ≡ c → (build_end_on s cr b rest n).parser.open_state.context ≡ c
build_end_on-context c s cr b rest next.Done h g = g
build_end_on-context c s cr b rest (next.SwitchTokenizer r) h g = g
build_end_on-context c s cr b rest (next.Script id) h g = g
build_end_on-context c s cr b rest next.Deep h g = h
build_end_on-context c s cr b rest (next.Adopt w i) h g = g
build_end_on-context c s cr b rest next.Reprocess h g = g
build_end_on-context c s cr b rest (next.UsingRules m) h g = g
build_end_on-context c s cr b rest next.InBodyFostering h g = g
build_end_on-context c s cr b rest next.Finished h g = h

build_end-context : (c : Option OpenElement) (s : TokState) (cr : Bool) (ts : List Token) (b : Open) → b.context ≡ c → (build_end s cr ts b).parser.open_state.context ≡ c
unfolding build_end
build_end-context c s cr [] b h = h
build_end-context c s cr (t ∷ ts) b h =
    let a : Answer = construct t b [] in
    let g : a.open_state.context ≡ c = context-stays t b [] ∙ h in
    build_end_on-context c s cr a.open_state (build_end s cr ts a.open_state) a.next g (build_end-context c s cr ts a.open_state g)

pub ends-context : EndsKeepContext
unfolding finish
ends-context es p = build_end-context p.open_state.context (read_end es (is_foreign p.open_state) p.tokenizer).state p.after_cr (read_end es (is_foreign p.open_state) p.tokenizer).tokens p.open_state refl

-- ---- a text that is read through: in a fragment it is parsed as any other

after-come : (ops : List Op) (r : Parsed) → after_those ops (come_by r) ≡ come_by (after_character ops r)
after-come ops r = by r.stop
  where
    by : (s : Stop) → after_those ops (come_to r.ops r.parser s) ≡ come_to (ops ++ r.ops) r.parser s
    by stop.InputEnd = refl
    by (stop.Script id) = refl
    by stop.Deep = refl

and-come : (x : Took) (rest : Parser → Through) (rest' : Parser → Parsed) → is_at_script (stop_of x) ≡ false → rest (parser_of x) ≡ come_by (rest' (parser_of x))
    → and_through x rest ≡ come_by (and_rest x rest')
and-come (took ops p stop.InputEnd) rest rest' i each = ap (after_those ops) each ∙ after-come ops (rest' p)
and-come (took ops p (stop.Script id)) rest rest' i each = absurd (true≢false i)
and-come (took ops p stop.Deep) rest rest' i each = refl

through-parse : (text : List ℕ) (es : Entities) (p : Parser) → IsFragment p.open_state → read_through es p text ≡ come_by (parse es p text)
unfolding read_through parse
through-parse [] es p h = refl
through-parse (k ∷ ks) es p h =
    let x : Took = take_character es p k in
    and-come x (λ p'. read_through es p' ks) (λ p'. parse es p' ks) (characters-never_stop es p k h)
    (through-parse ks es (parser_of x) (ap (λ v. is_some v) (characters-context es p k) ∙ h))

pub fragments-parse : FragmentsParse
fragments-parse es p text h = through-parse text es p h

pub fragment-parse : FragmentByParse
unfolding fragment whole fragment_parser
fragment-parse es c text = ap (λ r. with_end es r) (fragments-parse es (fragment_parser c 0) text refl)

-- ---- which ids it names

module _ (Coming : (NodeId → Bool) → NodeId → Type 0) (law : Follows Coming) where
  abbrev ThroughBound : (NodeId → Bool) → Through → Type 0
  ThroughBound known (through ops p) = StaysBound Coming known ops p.open_state
  ThroughBound known deep = Unit {0}

  behind-bound : (known : NodeId → Bool) (ops : List Op) (r : Through) → AreOpsBound known ops → ThroughBound (known_after_all known ops) r → ThroughBound known (after_those ops r)
  behind-bound known ops (through more p) a s = (bound-append known ops more a s.0, subst (λ k. Serves Coming k p.open_state) (sym (known-append known ops more)) s.1)
  behind-bound known ops deep a s = tt

  and-bound : (known : NodeId → Bool) (x : Took) (rest : Parser → Through) → TookBound Coming known x
      → ((known' : NodeId → Bool) (p : Parser) → Serves Coming known' p.open_state → ThroughBound known' (rest p)) → ThroughBound known (and_through x rest)
  and-bound known (took ops p stop.InputEnd) rest f each = behind-bound known ops (rest p) f.0.0 (each (known_after_all known ops) p f.0.1)
  and-bound known (took ops p (stop.Script id)) rest f each = behind-bound known ops (rest p) f.0.0 (each (known_after_all known ops) p f.0.1)
  and-bound known (took ops p stop.Deep) rest f each = tt

  through-bound : (text : List ℕ) (es : Entities) (known : NodeId → Bool) (p : Parser) → Serves Coming known p.open_state → ThroughBound known (read_through es p text)
  unfolding read_through known_after_all AreOpsBound
  through-bound [] es known p h = (tt, h)
  through-bound (k ∷ ks) es known p h = and-bound known (take_character es p k) (λ p'. read_through es p' ks) (characters-bound Coming law known es p k h) (λ known' p'. through-bound ks es known' p')

  through-served : (d : Doc) (r : Through) → ThroughBound (is_bound d.bound) r → ThroughServed Coming d r
  through-served d (through ops p) s = (s.0, subst (λ k. Serves Coming k p.open_state) (sym (acts-bind d ops)) s.1)
  through-served d deep s = tt

  pub docs-through : DocsServeThrough Coming
  docs-through d es p text h = through-served d (read_through es p text) (through-bound text es (is_bound d.bound) p h)

-- ---- a fragment's

finished-some : (x : List Op) (f : Finish) (ops : List Op) → if_finished x f ≡ Some ops → x ≡ ops
finished-some x finale.Finished ops is = ap (λ (o : Option (List Op)). unwrap_or o []) is
finished-some x finale.Deep ops is = absurd (cc)

end-bound : (known : NodeId → Bool) (es : Entities) (r : Through) (ops : List Op) → ThroughBound AreFresh fresh-follows known r → with_end es r ≡ Some ops → AreOpsBound known ops
end-bound known es (through more p) ops s is =
    let f : Finished = finish es p in
    let e : StaysBound AreFresh (known_after_all known more) f.ops f.parser.open_state = ends-bound AreFresh fresh-follows (known_after_all known more) es p s.1 in
    subst (λ os. AreOpsBound known os) (finished-some (more ++ f.ops) f.finish ops is) (bound-append known more f.ops s.0 e.0)
end-bound known es deep ops s is = absurd (cc)

abbrev with_none : Nodes → Doc
with_none t = record { tree = t; bound = [] }

roots-known : (t : Nodes) (form : Bool) → is_bound (with_fragment t form []).bound ≡ known_after_all (is_bound (with_none t).bound) (roots_made form)
roots-known t form = acts-bind (with_none t) (roots_made form ++ []) ∙ ap (λ os. known_after_all (is_bound (with_none t).bound) os) (append-nil (roots_made form))

roots-serve : (t : Nodes) (form : Bool) → Holds AreFresh (known_after_all (is_bound (with_none t).bound) (roots_made form)) (root_element 0 ∷ []) [] None (if form then Some (form_id 0) else None) (record { realm = 0; n = if form then 2 else 1 })
unfolding known_after_all
roots-serve t true = record { stack_bound = (refl, tt); formats_bound = tt; head_bound = tt; form_bound = refl; coming = free }
  where
    free : (k : ℕ) → known_after_all (is_bound (with_none t).bound) (roots_made true) (later k (record { realm = 0; n = 2 })) ≡ false
    free k =
        let root : (2 + k == 0) ≡ false = grind arith in
        let form : (2 + k == 1) ≡ false = grind arith in
        ap (λ v. v || ((2 + k == 0) || false)) form ∙ ap (λ v. v || false) root
roots-serve t false = record { stack_bound = (refl, tt); formats_bound = tt; head_bound = tt; form_bound = tt; coming = free }
  where
    free : (k : ℕ) → known_after_all (is_bound (with_none t).bound) (roots_made false) (later k (record { realm = 0; n = 1 })) ≡ false
    free k =
        let root : (1 + k == 0) ≡ false = grind arith in
        ap (λ v. v || false) root

pub fragment-bound : FragmentIsBound
unfolding fragment whole fragment_parser
fragment-bound t es c text ops is =
    let known : NodeId → Bool = is_bound (with_fragment t c.form []).bound in
    let serves : Serves AreFresh known (fragment_opening c 0) = subst (λ k. Serves AreFresh k (fragment_opening c 0)) (sym (roots-known t c.form)) (roots-serve t c.form) in
    end-bound known es (read_through es (fragment_parser c 0) text) ops (through-bound AreFresh fresh-follows text es known (fragment_parser c 0) serves) is
