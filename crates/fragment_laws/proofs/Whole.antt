-- The states that the serial parse passes through.
use Rattle.std.proofs.Common.{◌≡◌, ◌<◌, ◌-◌, ◌∙◌, refl, sym, ap, subst, arith, ℕ, zero, suc, Bool, true, false, List, [], ◌∷◌, ◌++◌, length, Option, Some, None, if◌then◌else◌}
use Rattle.std.specs.Prelude.{◌==◌, ⊤, IsTrue, unwrap_or}
use Rattle.std.specs.Option.{option_or}
use Rattle.std.proofs.lemmas.Bool.{ne_eqb, eq-eqb}
use Rattle.std.proofs.lemmas.Option.{none-some, same_Some}
use Rattle.html_types.specs.Numbers.{count_of}
use Rattle.html_types.specs.declared.ending.Ending.{Ending}
use Rattle.html_types.specs.declared.ending.Ending.TheVariants as ending
use Rattle.html_types.specs.declared.instruction.Finish.{Finish}
use Rattle.html_types.specs.declared.instruction.Finish.TheVariants as finale
use Rattle.html_types.specs.declared.instruction.Stop.TheVariants as stop
use Rattle.html_types.specs.declared.operation.NodeId.{NodeId}
use Rattle.html_types.specs.declared.operation.Op.{Op}
use Rattle.html_types.specs.declared.tree.Kind.{Kind}
use Rattle.html_types.specs.declared.tree.Kind.TheVariants as kind
use Rattle.standard.specs.Entities.{Entities}
use Rattle.standard.specs.Tree.{Nodes, IsTree, new_tree, kind_of, parent_of, children_of, host_of, contents_of, leads_to, is_document, is_element, is_element_at, lies_in, detached, moved, appended, all_out, emptied, find_id}
use Rattle.standard.specs.Act.{Doc, new_doc, is_bound, node_of, end_of, act, acts, AreOpsBound}
use Rattle.standard.specs.Parser.{Parser, Took, took, take_character, Finished, finish, parse}
use Rattle.standard.specs.Fragment.{root_id, fragment, context_at, roots_made, all_in_root, with_fragment, filled, setting, set_by, inner_set}
use Rattle.serial.specs.declared.script.Statement.{Statement}
use Rattle.serial.specs.declared.script.Statement.TheVariants as statement
use Rattle.serial.specs.Page.{Page}
use Rattle.serial.specs.Scripts.{Fetched, got, missing, faulted, file_statements}
use Rattle.serial.specs.Serial.{World, Serial, Course, goes, refuses, starved, ◌then◌, Advanced, advanced, advance, before_point, tree_of, inside, back_at, with_tree, run_text, end_of_script, execute, Moment, reading, tag_ended, awaits, over, read_next, unless_pending, behind_script, after_script, after_fetch, fetched, moment_after, Passes}
use Rattle.serial.specs.Serial as serial
use Rattle.rule_laws.specs.Naming.{Serves, AreFresh, IsStopBound}
use Rattle.rule_laws.specs.NamingLaws.{TookBound}
use Rattle.rule_laws.proofs.FreshnessTexts.{characters-bound, fresh-follows}
use Rattle.rule_laws.proofs.FreshnessDocs.{acts-bind, texts-served, ends-served, new-serves}
use Rattle.rule_laws.proofs.FragmentTexts.{fragment-bound}
use Rattle.act_laws.specs.Bindings.{BindsElements}
use Rattle.act_laws.specs.Staying.{Stays}
use Rattle.act_laws.proofs.Bindings.{NamesElements-new, is_there, BindsElements-acts, BindsElements-detached, BindsElements-appended, BindsElements-filled}
use Rattle.act_laws.proofs.Known.{AreOpsBound-act}
use Rattle.act_laws.proofs.Staying.{Stays-acts, Stays-detached, Stays-appended, Stays-inner_set}
use Rattle.doc_tree.proofs.Trees.{IsTree-detached, IsTree-moved}
use Rattle.doc_tree.proofs.Views.{child_here, node_here}
use Rattle.op_exec.specs.Docs.{IsPlain}
use Rattle.op_exec.proofs.Filling.{rooted-bound, fragment-made}
use Rattle.op_exec.proofs.Finds.{find_id-element}
use Rattle.standard_laws.specs.Laws.{outcome_at}
use Rattle.standard_laws.proofs.Parse.{advance-parse}
use Rattle.standard_laws.proofs.Passing.{finished-at}
use Rattle.moment_laws.specs.Served.{state_at}
use Rattle.fragment_laws.specs.Laws.{target_of, AreOwn}
use Rattle.fragment_laws.specs.Unnamed.{IsUnnamed}
use Rattle.fragment_laws.specs.Visits.{Visit, statements_at, tag_at, InFile, InMoment, AtEach}
use Rattle.fragment_laws.specs.Whole.{IsWhole, IsWholeAt, MomentsAreWhole, IsWholeThere, ScriptsAreWhole, SetsThere, SetsWell, StatementsSet, RunsOther, TagsAreOthers, IsUnnamedThere, StatementsStayUnnamed, MomentsStayUnnamed}
use Rattle.fragment_laws.proofs.Apart.{roots-bound}
use Rattle.fragment_laws.proofs.Children.{length-all_out, sets-children}
use Rattle.fragment_laws.proofs.Exchange.{first-of, more-of, leads, target-below}
use Rattle.fragment_laws.proofs.Sorts.{AreSorted, sorted-detached, sorted-moved, sorted-all_put, sorted-all_out, sorted-act}
use Rattle.fragment_laws.proofs.Sound.{Sound, Sound-act, Sound-new, IsTree-all_put, plain-child}
use Rattle.fragment_laws.proofs.Unnamed.{IsSound, all, sound-next, named-other, fragments-unnamed, unnamed-acts, longer}
use Rattle.fragment_laws.proofs.Visits.{Steps, Held, in-text, in-statements, in-tag}

-- ---- a document

sorted-of : (d : Doc) → IsWhole d → AreSorted d.tree
sorted-of d w n = (w.documents n, w.elements n)

some-node : (t : Nodes) → is_document (kind_of t 0) ≡ true → 0 < length t
some-node [] is = absurd (cc)
some-node (x ∷ t) is = omega arith

pub not-empty : (d : Doc) → IsWhole d → 0 < length d.tree
not-empty d w = some-node d.tree (w.documents 0)

not-both : (k : Kind) → is_document k ≡ true → is_element k ≡ true → ⊥
not-both kind.Document one two = cc
not-both kind.Contents one two = cc
not-both (kind.Doctype name) one two = cc
not-both (kind.Element name as') one two = cc
not-both (kind.Text t) one two = cc
not-both (kind.Comment t) one two = cc

pub plain-of : (d : Doc) → IsWhole d → (n : ℕ) → is_element_at d.tree n ≡ true → IsPlain d.tree n
plain-of d w n is = (is_there d.tree n is, (λ none. not-both (kind_of d.tree 0) (w.documents 0) (subst (λ m. is_element_at d.tree m ≡ true) none is)), w.elements n is)

sound-of : (d : Doc) → IsWhole d → Sound d
sound-of d w = record { document = not-empty d w; tree = w.tree; plain = λ id n is. plain-of d w n (w.binds.elements id n is) }

whole-of : (d : Doc) → IsTree d.tree → AreSorted d.tree → BindsElements d → IsWhole d
whole-of d tree sorted binds = record { tree = tree; documents = λ n. (sorted n).0; elements = λ n. (sorted n).1; binds = binds }

sound-acts : (ops : List Op) (d : Doc) → Sound d → AreSorted d.tree → AreOpsBound (is_bound d.bound) ops → Sound (acts d ops) × AreSorted (acts d ops).tree
unfolding acts AreOpsBound
sound-acts [] d s sorted b = (s, sorted)
sound-acts (o ∷ os) d s sorted b = sound-acts os (act d o) (Sound-act d o s b.0) (sorted-act d o s.document sorted) (AreOpsBound-act d o os b.1)

pub whole-acts : (d : Doc) (ops : List Op) → IsWhole d → AreOpsBound (is_bound d.bound) ops → IsWhole (acts d ops)
whole-acts d ops w b =
    let s = sound-acts ops d (sound-of d w) (sorted-of d w) b in
    whole-of (acts d ops) s.0.tree s.1 (BindsElements-acts d w.binds ops b)

parentless : (n : ℕ) → is_document (kind_of new_tree n) ≡ (n == 0)
parentless zero = refl
parentless (suc n) = sym (ne_eqb (suc n) 0 (λ same. absurd (omega (arith, same))))

none-element : (n : ℕ) → is_element_at new_tree n ≡ true → host_of new_tree n ≡ None
none-element zero is = refl
none-element (suc n) is = refl

whole-new : IsWhole new_doc
whole-new = record { tree = Sound-new.tree; documents = parentless; elements = none-element; binds = NamesElements-new.binds }

-- ---- an element whose children are set

IsTree-all_out : (cs : List ℕ) (t : Nodes) → IsTree t → ((c : ℕ) → 0 < count_of c cs → c < length t) → IsTree (all_out t cs)
IsTree-all_out [] t tree below = tree
IsTree-all_out (c ∷ cs) t tree below =
    let here : c < length t = below c (first-of c cs) in
    let same : length (detached t c) ≡ length t = length-all_out (c ∷ []) t in
    IsTree-all_out cs (detached t c) (IsTree-detached t c tree here) (λ d some. let l : d < length t = below d (more-of d c cs some) in omega (arith, same, l))

module _ (t : Nodes) (n : ℕ) (form : Bool) (ops : List Op) (tree : IsTree t) (some : 0 < length t) (below : n < length t) (sorted : AreSorted t) (own : AreOwn t form ops) where
  abbrev bare : Doc
  bare = record { tree = t; bound = [] }

  made : Sound (with_fragment t form ops) × AreSorted (with_fragment t form ops).tree
  made =
      let m : Doc = acts bare (roots_made form) in
      let e : Doc = acts m (all_in_root ops) in
      let one = sound-acts (roots_made form) bare (record { document = some; tree = tree; plain = λ id i is. absurd (cc) }) sorted (roots-bound form) in
      let two : Sound e × AreSorted e.tree = sound-acts (all_in_root ops) m one.0 one.1 (rooted-bound bare m form ops refl refl own) in
      subst (λ (x : Doc). Sound x × AreSorted x.tree) (fragment-made bare m e form ops refl refl refl) two

  abbrev d : Doc
  d = with_fragment t form ops

  abbrev p : ℕ
  p = (end_of d.tree n).parent

  abbrev v : Nodes
  v = all_out d.tree (children_of d.tree p)

  still : n < length d.tree
  still = let s : Stays t d.tree = Stays-acts bare (roots_made form ++ all_in_root ops) in omega (arith, s.nodes, below)

  p-below : p < length v
  p-below =
      let here : p < length d.tree = target-below d.tree made.0.tree n still in
      let same : length v ≡ length d.tree = length-all_out (children_of d.tree p) d.tree in
      omega (arith, same, here)

  v-tree : IsTree v
  v-tree = IsTree-all_out (children_of d.tree p) d.tree made.0.tree (λ c among. node_here d.tree c p (child_here d.tree made.0.tree p c among))

  r : ℕ
  r = node_of d.bound (root_id 0)

  pub filled-tree : IsTree (filled t n form ops)
  unfolding filled emptied r
  filled-tree = IsTree-all_put (children_of v r) v p v-tree (λ c among. plain-child v v-tree r c among) p-below

  pub filled-sorted : AreSorted (filled t n form ops)
  unfolding filled emptied r
  filled-sorted = sorted-all_put v (children_of v r) p (sorted-all_out d.tree (children_of d.tree p) made.1)

-- which tree the statement leaves
record Left (es : Entities) (quirks : Bool) (t : Nodes) (n : ℕ) (text : List ℕ) (s : Nodes) : Type 0 where
  ops : List Op
  parsed : fragment es (context_at t n quirks) text ≡ Some ops
  made : filled t n (context_at t n quirks).form ops ≡ s

left-of : (es : Entities) (quirks : Bool) (t : Nodes) (n : ℕ) (text : List ℕ) (s : Nodes) → inner_set es quirks t (Some n) text ≡ setting s → Left es quirks t n text s
unfolding inner_set
left-of es quirks t n text s is = by (fragment es (context_at t n quirks) text) refl is
  where
    by : (o : Option (List Op)) → fragment es (context_at t n quirks) text ≡ o → set_by t n (context_at t n quirks).form o ≡ setting s → Left es quirks t n text s
    by None none same = absurd (cc)
    by (Some ops) parsed same = record { ops = ops; parsed = parsed; made = cc }

whole-set : (es : Entities) (quirks : Bool) (d : Doc) (n : ℕ) (text : List ℕ) (s : Nodes) → IsWhole d → is_element_at d.tree n ≡ true → inner_set es quirks d.tree (Some n) text ≡ setting s → IsWhole (record d { tree = s })
whole-set es quirks d n text s w element is =
    let left = left-of es quirks d.tree n text s is in
    let form : Bool = (context_at d.tree n quirks).form in
    let own : AreOwn d.tree form left.ops = fragment-bound d.tree es (context_at d.tree n quirks) text left.ops left.parsed in
    let below : n < length d.tree = is_there d.tree n element in
    subst (λ (u : Nodes). IsWhole (record d { tree = u })) left.made
    (whole-of (record d { tree = filled d.tree n form left.ops })
    (filled-tree d.tree n form left.ops w.tree (not-empty d w) below (sorted-of d w) own)
    (filled-sorted d.tree n form left.ops w.tree (not-empty d w) below (sorted-of d w) own)
    (BindsElements-filled d n form left.ops w.binds))

-- ---- a state

parsed-whole : (es : Entities) (s : Serial) → IsWholeAt s → IsWhole (acts s.side.doc (parse es s.parser (before_point s)).ops) × Serves AreFresh (is_bound (acts s.side.doc (parse es s.parser (before_point s)).ops).bound) (parse es s.parser (before_point s)).parser.open_state
parsed-whole es s i =
    let served = texts-served AreFresh fresh-follows s.side.doc es s.parser (before_point s) i.served in
    (whole-acts s.side.doc (parse es s.parser (before_point s)).ops i.doc served.0.0, served.0.1)

abbrev Advances : Advanced → Type 0
Advances (advanced p d rest k) = IsWhole d × Serves AreFresh (is_bound d.bound) p.open_state

abbrev Stops : Advanced → Type 0
Stops (advanced p d rest k) = IsStopBound (is_bound d.bound) k

removed-whole : (d : Doc) (e : ℕ) → IsWhole d → is_element_at d.tree e ≡ true → IsWhole (record d { tree = detached d.tree e })
removed-whole d e w is = whole-of _ (IsTree-detached d.tree e w.tree (is_there d.tree e is)) (sorted-detached d.tree e (sorted-of d w)) (BindsElements-detached d e w.binds)

moved-whole : (d : Doc) (p n : Option ℕ) (t : Nodes) → ((m : ℕ) → p ≡ Some m → is_element_at d.tree m ≡ true) → ((m : ℕ) → n ≡ Some m → is_element_at d.tree m ≡ true)
    → IsWhole d → appended d.tree p n ≡ Some t → IsWhole (record d { tree = t })
moved-whole d None n t one two w is = absurd (none-some t is)
moved-whole d (Some p) None t one two w is = absurd (none-some t is)
moved-whole d (Some p) (Some n) t one two w is = by (lies_in d.tree p n) refl is
  where
    by : (b : Bool) → lies_in d.tree p n ≡ b → (if b then None else Some (moved d.tree n p None)) ≡ Some t → IsWhole (record d { tree = t })
    by true lies same = absurd (none-some t same)
    by false lies same =
        let plain : IsPlain d.tree n = plain-of d w n (two n refl) in
        let u : Nodes = moved d.tree n p None in
        subst (λ (x : Nodes). IsWhole (record d { tree = x })) (same_Some u t same)
        (whole-of (record d { tree = u }) (IsTree-moved d.tree n p None w.tree plain.0 (is_there d.tree p (one p refl)) plain.1 plain.2 lies) (sorted-moved d.tree n p None (sorted-of d w))
        (BindsElements-appended d (Some p) (Some n) u (ap (λ (b : Bool). if b then None else Some u) lies) w.binds))

abbrev IsNamed : NodeId → Serial → Type 0
IsNamed i s = IsTrue (is_bound s.side.doc.bound i)

whole-found : (es : Entities) (quirks : Bool) (d : Doc) (v text : List ℕ) (t : Nodes) (found : Option ℕ) → find_id d.tree v ≡ found → IsWhole d → inner_set es quirks d.tree found text ≡ setting t → IsWhole (record d { tree = t })
unfolding inner_set
whole-found es quirks d v text t None found w is = absurd (cc)
whole-found es quirks d v text t (Some n) found w is = whole-set es quirks d n text t w (find_id-element d.tree v n found) is

pub whole-steps : Steps IsWholeAt IsNamed
whole-steps = record {
  line = λ l s i. record { doc = i.doc; served = i.served };
  counted = λ s i. record { doc = i.doc; served = i.served };
  inserted = λ t s i. record { doc = i.doc; served = i.served };
  awaits = λ name s i. record { doc = i.doc; served = i.served };
  enters = λ s i. record { doc = i.doc; served = i.served };
  leaves = λ s t i. record { doc = i.doc; served = i.served };
  removes = λ v e s found i. record { doc = removed-whole s.side.doc e i.doc (find_id-element (tree_of s) v e found); served = i.served };
  moves = λ v c t s is i. record {
    doc = moved-whole s.side.doc (find_id (tree_of s) v) (find_id (tree_of s) c) t (λ m found. find_id-element (tree_of s) v m found) (λ m found. find_id-element (tree_of s) c m found) i.doc is;
    served = i.served;
  };
  sets = λ es quirks v text t s is i. record { doc = whole-found es quirks s.side.doc v text t (find_id (tree_of s) v) refl i.doc is; served = i.served };
  parses = λ es s p d rest k q i.
      let x : Advances (advanced p d rest k) = subst Advances (sym (advance-parse es s.parser s.side.doc (before_point s)) ∙ q) (parsed-whole es s i) in
      record { doc = x.0; served = x.1 };
  stops = λ es s p d rest id q i.
      subst Stops (sym (advance-parse es s.parser s.side.doc (before_point s)) ∙ q) (texts-served AreFresh fresh-follows s.side.doc es s.parser (before_point s) i.served).1;
}

-- ---- the moments

abbrev IsAt : Moment → Type 0
IsAt m = IsWholeAt (state_at m)

of : (s : Serial) → IsWhole s.side.doc → Serves AreFresh (is_bound s.side.doc.bound) s.parser.open_state → IsWholeAt s
of s w h = record { doc = w; served = h }

character-whole : (s : Serial) (cs : List ℕ) (k : Took) → IsWhole s.side.doc → TookBound AreFresh (is_bound s.side.doc.bound) k → IsAt (serial.after_character s cs k)
character-whole s cs (took ops p stop.InputEnd) w b = of _ (whole-acts s.side.doc ops w b.0.0) (subst (λ known. Serves AreFresh known p.open_state) (sym (acts-bind s.side.doc ops)) b.0.1)
character-whole s cs (took ops p (stop.Script i)) w b = of _ (whole-acts s.side.doc ops w b.0.0) (subst (λ known. Serves AreFresh known p.open_state) (sym (acts-bind s.side.doc ops)) b.0.1)
character-whole s cs (took ops p stop.Deep) w b = of _ (whole-acts s.side.doc ops w b.0.0) (subst (λ known. Serves AreFresh known p.open_state) (sym (acts-bind s.side.doc ops)) b.0.1)

outcome-whole : (s : Serial) (p : Parser) (d : Doc) (k : Finish) → IsWhole d → Serves AreFresh (is_bound d.bound) p.open_state → IsAt (over (outcome_at s p d k))
outcome-whole s p d finale.Finished w h = of _ w h
outcome-whole s p d finale.Deep w h = of _ w h

next-whole : (e : Ending) (w : World) (s : Serial) (input : List ℕ) → IsWholeAt s → IsAt (read_next w.entities e s input)
next-whole ending.End w s [] i =
    let f : Finished = finish w.entities s.parser in
    let served = ends-served AreFresh fresh-follows s.side.doc w.entities s.parser i.served in
    subst (λ o. IsAt (over o)) (sym (finished-at s f)) (outcome-whole s f.parser (acts s.side.doc f.ops) f.finish (whole-acts s.side.doc f.ops i.doc served.0) served.1)
next-whole ending.Bad w s [] i = i
next-whole ending.Long w s [] i = i
next-whole ending.Fault w s [] i = i
next-whole e w s (c ∷ cs) i = character-whole s cs (take_character w.entities s.parser c) i.doc (characters-bound AreFresh fresh-follows (is_bound s.side.doc.bound) w.entities s.parser c i.served)

pending-whole : (pending : Option (List ℕ)) (t : Serial) → IsWholeAt t → IsAt (unless_pending pending t)
pending-whole None t i = i
pending-whole (Some name) t i = of _ i.doc i.served

script-whole : (f : Course) (m : Moment) → Held IsWholeAt f → after_script f ≡ Some m → IsAt m
script-whole (goes t) m k q = subst IsAt (same_Some (behind_script t) m q) (pending-whole t.side.pending t k)
script-whole (refuses w t) m k q = subst IsAt (same_Some (over (serial.refusal w t)) m q) k
script-whole starved m k q = absurd (none-some m q)

abbrev Any : Visit → Type 0
Any v = ⊤

held-text : (n : ℕ) (w : World) (text : Option (List Statement)) (s : Serial) → IsWholeAt s → Held IsWholeAt (run_text n w text s)
held-text n w text s i = by (execute n w text (inside s)) (in-text IsWholeAt IsNamed whole-steps Any (λ k list t h. tt) (λ id t h named. tt) n w text (inside s) (of _ i.doc i.served)).1
  where
    by : (f : Course) → Held IsWholeAt f → Held IsWholeAt (f then λ t. goes (back_at s t))
    by starved k = tt
    by (goes t) k = of _ k.doc k.served
    by (refuses r t) k = k

fetch-whole : (n : ℕ) (w : World) (name : List ℕ) (s : Serial) (f : Fetched) (m : Moment) → IsWholeAt s → after_fetch n w name s f ≡ Some m → IsAt m
fetch-whole n w name s (got bytes) m i q = script-whole (run_text n w (file_statements bytes) s) m (held-text n w (file_statements bytes) s i) q
fetch-whole n w name s missing m i q = subst IsAt (same_Some _ m q) (of _ i.doc i.served)
fetch-whole n w name s faulted m i q = subst IsAt (same_Some _ m q) i

-- with what is bound there
pub record Stands (m : Moment) : Type 0 where
  pub whole : IsAt m
  pub sound : IsSound m

moment-whole : (e : Ending) (w : World) (n : ℕ) (m m' : Moment) → moment_after n e w m ≡ Some m' → Stands m → IsAt m'
unfolding moment_after
moment-whole e w n (reading s) m' q h = subst IsAt (same_Some _ m' q) (next-whole e w s s.input h.whole)
moment-whole e w n (tag_ended id s) m' q h =
    script-whole (end_of_script n w id s) m' (in-tag IsWholeAt IsNamed whole-steps Any (λ k list t x. tt) (λ id' t x named. tt) n w id s h.whole h.sound.tag).1 q
moment-whole e w n (awaits name s) m' q h = fetch-whole n w name s (fetched w name) m' h.whole q
moment-whole e w n (over o) m' q h = subst IsAt (same_Some _ m' q) h.whole

first-stands : (page : Page) → Stands (reading (serial.first page))
first-stands page = record { whole = of _ whole-new (new-serves 0); sound = record { served = new-serves 0; tag = tt } }

pub passing : (page : Page) (w : World) (m : Moment) → Passes page w m → Stands m
passing page w m at =
    all Stands page.ending w (λ n a b q h. record { whole = moment-whole page.ending w n a b q h; sound = sound-next page.ending w n a b q h.sound }) (reading (serial.first page)) m at (first-stands page)

pub moments-whole : MomentsAreWhole
moments-whole page w m at = (passing page w m at).whole

-- ---- at each statement and end tag

module _ (P : Visit → Type 0) (here : (k : ℕ) (list : List Statement) (s : Serial) → IsWholeAt s → P (statements_at k list s)) (tag : (i : NodeId) (s : Serial) → IsWholeAt s → IsNamed i s → P (tag_at i s)) where
  file : (n : ℕ) (w : World) (f : Fetched) (s : Serial) → IsWholeAt s → InFile P n w f s
  file n w (got bytes) s i = (in-text IsWholeAt IsNamed whole-steps P here tag n w (file_statements bytes) (inside s) (of _ i.doc i.served)).0
  file n w missing s i = tt
  file n w faulted s i = tt

  moment : (n : ℕ) (w : World) (m : Moment) → Stands m → InMoment P n w m
  moment n w (reading s) h = tt
  moment n w (tag_ended i s) h = (in-tag IsWholeAt IsNamed whole-steps P here tag n w i s h.whole h.sound.tag).0
  moment n w (awaits name s) h = file n w (fetched w name) s h.whole
  moment n w (over o) h = tt

  pub at-each : (page : Page) (w : World) → AtEach P page w
  at-each page w m at n = moment n w m (passing page w m at)

pub scripts-whole : ScriptsAreWhole
scripts-whole page w = at-each IsWholeThere (λ k list s i. i) (λ i s h named. h) page w

-- what is set is no Document
target-other : (d : Doc) (n : ℕ) → IsWhole d → is_element_at d.tree n ≡ true → is_document (kind_of d.tree (target_of d.tree n)) ≡ false
target-other d n w element = w.documents (target_of d.tree n) ∙ ne_eqb (target_of d.tree n) 0 (by (contents_of d.tree n) refl)
  where
    hosted : (h u : Option ℕ) (m : ℕ) → h ≡ Some m → option_or h u ≡ None → ⊥
    hosted None u m is none = cc
    hosted (Some x) u m is none = cc

    by : (c : Option ℕ) → contents_of d.tree n ≡ c → unwrap_or c n ≡ 0 → ⊥
    by None is same = (plain-of d w n element).1 same
    by (Some c) is same =
        let to : leads_to (host_of d.tree c) n ≡ true = sym (w.tree.hosting c n) ∙ (ap (λ o. leads_to o c) is ∙ eq-eqb c c refl) in
        let host : host_of d.tree 0 ≡ Some n = subst (λ m. host_of d.tree m ≡ Some n) same (leads (host_of d.tree c) n to) in
        hosted (host_of d.tree 0) (parent_of d.tree 0) n host w.tree.document

sets-there : (w : World) (s : Serial) (n : ℕ) (text : List ℕ) (t : Nodes) → IsWhole s.side.doc → is_element_at (tree_of s) n ≡ true → inner_set w.entities s.parser.open_state.quirks (tree_of s) (Some n) text ≡ setting t → SetsThere w s n text t
sets-there w s n text t whole element is =
    let some : 0 < length (tree_of s) = not-empty s.side.doc whole in
    let quirks : Bool = s.parser.open_state.quirks in
    let left = left-of w.entities quirks (tree_of s) n text t is in
    record {
      is_set = sets-children w.entities quirks (tree_of s) (length (tree_of s) - 1) n text t (omega (arith, some)) whole.tree (is_there (tree_of s) n element) (target-other s.side.doc n whole element) is;
      unnamed = λ m past below.
          subst (λ (u : Nodes). IsUnnamed (record s.side.doc { tree = u }) m) left.made
          (fragments-unnamed s.side.doc n (context_at (tree_of s) n quirks).form left.ops whole.binds m past (subst (λ (u : Nodes). m < length u) (sym left.made) below));
    }

sets-well : (w : World) (k : ℕ) (list : List Statement) (s : Serial) → IsWholeAt s → SetsWell w (statements_at k list s)
sets-well w k [] s i = tt
sets-well w k (statement.Write t ∷ list) s i = tt
sets-well w k (statement.WriteLine t ∷ list) s i = tt
sets-well w k (statement.Remove v ∷ list) s i = tt
sets-well w k (statement.Append v c ∷ list) s i = tt
sets-well w k (statement.SetInner v text ∷ list) s i = λ n t found is. sets-there w s n text t i.doc (find_id-element (tree_of s) v n found) is
sets-well w k (statement.LogById v ∷ list) s i = tt
sets-well w k (statement.LogRoot ∷ list) s i = tt

pub statements-set : StatementsSet
statements-set page w = at-each (SetsWell w) (sets-well w) (λ i s h named. tt) page w

pub tags-others : TagsAreOthers
tags-others page w = at-each RunsOther (λ k list s h. tt) (λ i s h named m u. named-other s.side.doc i m named u) page w

-- ---- nodes without an id

module _ (m : ℕ) where
  abbrev IsIn : Serial → Type 0
  IsIn s = IsUnnamed s.side.doc m

  abbrev Nothing : NodeId → Serial → Type 0
  Nothing i s = ⊤

  abbrev Comes : Advanced → Type 0
  Comes (advanced p d rest k) = IsUnnamed d m

  stays : (s : Serial) (t : Nodes) → Stays (tree_of s) t → IsIn s → IsIn (with_tree t s)
  stays s t h u = longer s.side.doc t m h u

  unnamed-steps : Steps IsIn Nothing
  unnamed-steps = record {
    line = λ l s u. u;
    counted = λ s u. u;
    inserted = λ t s u. u;
    awaits = λ name s u. u;
    enters = λ s u. u;
    leaves = λ s t u. u;
    removes = λ v e s found u. stays s (detached (tree_of s) e) (Stays-detached (tree_of s) e) u;
    moves = λ v c t s is u. stays s t (Stays-appended (tree_of s) (find_id (tree_of s) v) (find_id (tree_of s) c) t is) u;
    sets = λ es quirks v text t s is u. stays s t (Stays-inner_set es quirks (tree_of s) (find_id (tree_of s) v) text t is) u;
    parses = λ es s p d rest k q u.
        subst Comes (sym (advance-parse es s.parser s.side.doc (before_point s)) ∙ q) (unnamed-acts s.side.doc (parse es s.parser (before_point s)).ops m u);
    stops = λ es s p d rest i q u. tt;
  }

  abbrev There : Visit → Type 0
  There = IsUnnamedThere m

  file-unnamed : (n : ℕ) (w : World) (f : Fetched) (s : Serial) → IsIn s → InFile There n w f s
  file-unnamed n w (got bytes) s u = (in-text IsIn Nothing unnamed-steps There (λ k list t x. x) (λ i t x y. x) n w (file_statements bytes) (inside s) u).0
  file-unnamed n w missing s u = tt
  file-unnamed n w faulted s u = tt

  moment-unnamed : (n : ℕ) (w : World) (a : Moment) → IsIn (state_at a) → InMoment There n w a
  moment-unnamed n w (reading s) u = tt
  moment-unnamed n w (tag_ended i s) u = (in-tag IsIn Nothing unnamed-steps There (λ k list t x. x) (λ id t x y. x) n w i s u tt).0
  moment-unnamed n w (awaits name s) u = file-unnamed n w (fetched w name) s u
  moment-unnamed n w (over o) u = tt

pub statements-stay : StatementsStayUnnamed
statements-stay n w k list s m u = (in-statements (IsIn m) (Nothing m) (unnamed-steps m) (There m) (λ k' list' t x. x) (λ i t x y. x) n w k list s u).0

pub moments-stay : MomentsStayUnnamed
moments-stay n w a m u = moment-unnamed m n w a u
