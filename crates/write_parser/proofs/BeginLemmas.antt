-- How a script begins: at its end tag, and by its text.
use Rattle.std.proofs.Common.{◌≡◌, ℕ, suc, Bool, true, false, ◌||◌, if◌then◌else◌, codes, List, [], ◌∷◌, ◌++◌, drop, Option, Some, None, refl, sym, ap, ◌∙◌, subst, append_assoc}
use Rattle.html_types.specs.declared.operation.NodeId.{NodeId}
use Rattle.serial.specs.declared.script.Line.{Line}
use Rattle.serial.specs.declared.script.Line.TheVariants as line
use Rattle.html_types.specs.declared.attributes.Attribute.{Attribute}
use Rattle.standard.specs.Act.{node_of}
use Rattle.standard.specs.Tree.{Nodes, kind_of, attributes_of, attribute, is_connected, script_text}
use Rattle.standard.specs.Prepare.{Prepared, still, inline, external, has, may_run, prepared_by, prepared_with, prepare}
use Rattle.serial.specs.Statements.{statements}
use Rattle.serial.specs.Serial.{World, Course}
use Rattle.standard_laws.specs.Frames.{Frame, NestComesTo, TextComesTo}
use Rattle.op_exec.specs.Scripts.{script_kind}
use Rattle.op_exec.specs.declared.script.ScriptKind.TheVariants.{Still, Inline, External}
use Rattle.write_parser.specs.declared.nesting.Begun.{Begun}
use Rattle.write_parser.specs.declared.live.Live.{Live}
use Rattle.serial.specs.declared.script.Statement.{Statement}
use Rattle.write_parser.specs.Made.{BeginsBy, IsPreparedBy}
use Rattle.write_parser.specs.Steps.{at_of, framed, frame_of, with_begun, nest_of, Begins, Prepares}
use Rattle.standard_laws.proofs.Frames.{still-tag, external-tag, inline-tag, outside-text, text-begins}

-- ---- by its text

-- a text that isn't in the language
pub begins-outside : (text : List ℕ) (old new : Live) → new ≡ record old { executed = suc old.executed; lines = old.lines ++ line.Syntax (suc old.executed) ∷ [] } →
    statements text ≡ None → Begins text old None new
begins-outside text old new is none = subst (λ n. Begins text old None n) (sym is) (record {
  comes = λ w fs before page g come.
      outside-text w (statements text) (nest_of old fs before page) g none
      (subst (λ l. NestComesTo w (record (nest_of old fs before page) { executed = suc old.executed; lines = l }) g)
      (sym (append_assoc before old.lines (line.Syntax (suc old.executed) ∷ []))) come);
  keeps = refl;
  pending = refl;
  wrote = tt;
  begins = λ fs. subst (λ (t : Option (List Statement)). BeginsBy t (at_of old fs) (at_of old fs)) (sym none) refl;
})

-- one in the language
pub begins-inside : (text : List ℕ) (old new : Live) (b : Begun) → new ≡ record old { executed = suc old.executed } → b.number ≡ suc old.executed → b.done ≡ 0 → b.rest ≡ [] →
    statements text ≡ Some b.script → Begins text old (Some b) new
begins-inside text old new b is number done rest some = subst (λ n. Begins text old (Some b) n) (sym is) (record {
  comes = λ w fs before page g come. by_begun w fs before page g (rw (number, done, rest) at come);
  keeps = refl;
  pending = refl;
  wrote = rest;
  begins = λ fs. subst (λ (t : Option (List Statement)). BeginsBy t (at_of old fs) (at_of old (frame_of b ∷ fs))) (sym some) (b.number, begun fs);
})
  where
    by_begun : (w : World) (fs : List Frame) (before : List Line) (page : List ℕ) (g : Course)
        → NestComesTo w (nest_of (record old { executed = suc old.executed }) (record { number = suc old.executed; list = b.script; rest = [] } ∷ fs) before page) g
        → TextComesTo w (statements text) (nest_of old fs before page) g
    by_begun w fs before page g come = text-begins w (statements text) b.script (nest_of old fs before page) g some come

    begun : (fs : List Frame) → at_of old (frame_of b ∷ fs) ≡ at_of old (framed b.number b.script [] ∷ fs)
    begun fs =
        ap (λ (n : ℕ). at_of old (framed b.number (drop n b.script) b.rest ∷ fs)) done
        ∙ ap (λ (r : List ℕ). at_of old (framed b.number b.script r ∷ fs)) rest

-- ---- how it was prepared

pub is_still : (p : Prepared) → script_kind p ≡ Still → p ≡ still
is_still still is = refl
is_still (inline text) is = absurd (cc is)
is_still (external name) is = absurd (cc is)

abbrev IsExternal : Prepared → Option (List ℕ) → Type 0
IsExternal p src = (name : List ℕ) × (p ≡ external name) × (src ≡ Some name)

external_by : (src : Option (List ℕ)) (later : Bool) (text : List ℕ) → script_kind (prepared_by src later text) ≡ External → IsExternal (prepared_by src later text) src
external_by None later [] is = absurd (cc is)
external_by None later (c ∷ cs) is = absurd (cc is)
external_by (Some []) later text is = absurd (cc is)
external_by (Some (c ∷ cs)) true text is = absurd (cc is)
external_by (Some (c ∷ cs)) false text is = (c ∷ cs, refl, refl)

external_where : (b : Bool) (p : Prepared) (src : Option (List ℕ)) → (script_kind p ≡ External → IsExternal p src) → script_kind (if b then p else still) ≡ External →
    IsExternal (if b then p else still) src
external_where true p src by is = by is
external_where false p src by is = absurd (cc is)

-- a script that its `src` names
is_external : (tree : Nodes) (node : ℕ) → script_kind (prepare tree node) ≡ External → IsExternal (prepare tree node) (attribute (codes "src") (attributes_of (kind_of tree node)))
unfolding prepare
is_external tree node is =
    let attributes : List Attribute = attributes_of (kind_of tree node) in
    external_where (is_connected tree node) (prepared_with attributes (script_text tree node)) (attribute (codes "src") attributes)
    (external_where (may_run attributes) (prepared_by (attribute (codes "src") attributes) (has "async" attributes || has "defer" attributes) (script_text tree node))
    (attribute (codes "src") attributes)
    (external_by (attribute (codes "src") attributes) (has "async" attributes || has "defer" attributes) (script_text tree node))) is

inline_by : (src : Option (List ℕ)) (later : Bool) (text : List ℕ) → script_kind (prepared_by src later text) ≡ Inline → prepared_by src later text ≡ inline text
inline_by None later [] is = absurd (cc is)
inline_by None later (c ∷ cs) is = refl
inline_by (Some []) later text is = absurd (cc is)
inline_by (Some (c ∷ cs)) true text is = absurd (cc is)
inline_by (Some (c ∷ cs)) false text is = absurd (cc is)

inline_where : (b : Bool) (p : Prepared) (text : List ℕ) → (script_kind p ≡ Inline → p ≡ inline text) → script_kind (if b then p else still) ≡ Inline →
    (if b then p else still) ≡ inline text
inline_where true p text by is = by is
inline_where false p text by is = absurd (cc is)

-- a script that runs by its own text
is_inline : (tree : Nodes) (node : ℕ) → script_kind (prepare tree node) ≡ Inline → prepare tree node ≡ inline (script_text tree node)
unfolding prepare
is_inline tree node is =
    let attributes : List Attribute = attributes_of (kind_of tree node) in
    inline_where (is_connected tree node) (prepared_with attributes (script_text tree node)) (script_text tree node)
    (inline_where (may_run attributes) (prepared_by (attribute (codes "src") attributes) (has "async" attributes || has "defer" attributes) (script_text tree node)) (script_text tree node)
    (inline_by (attribute (codes "src") attributes) (has "async" attributes || has "defer" attributes) (script_text tree node))) is

-- ---- at its end tag

pub prepares-still : (id : NodeId) (l : Live) → Still ≡ script_kind (prepare l.doc.tree (node_of l.doc.bound id)) → Prepares id l None l
prepares-still id l kind = record {
  comes = λ w fs before page g come. still-tag w id (nest_of l fs before page) g (is_still _ (sym kind)) come;
  keeps = refl;
  wrote = tt;
  prepared = λ fs. subst (λ (p : Prepared). IsPreparedBy p (at_of l fs) (at_of l fs)) (sym (is_still (prepare l.doc.tree (node_of l.doc.bound id)) (sym kind))) refl;
}

pub prepares-external : (id : NodeId) (old new : Live) (src : Option (List ℕ)) → External ≡ script_kind (prepare old.doc.tree (node_of old.doc.bound id)) →
    src ≡ attribute (codes "src") (attributes_of (kind_of old.doc.tree (node_of old.doc.bound id))) → new ≡ record old { pending = src } → Prepares id old None new
prepares-external id old new src kind named is = by_name (is_external old.doc.tree (node_of old.doc.bound id) (sym kind))
  where
    by_name : IsExternal (prepare old.doc.tree (node_of old.doc.bound id)) (attribute (codes "src") (attributes_of (kind_of old.doc.tree (node_of old.doc.bound id)))) → Prepares id old None new
    by_name (name, named-so, src-is) = subst (λ n. Prepares id old None n) (sym (is ∙ ap (λ p. record old { pending = p }) (named ∙ src-is))) (record {
      comes = λ w fs before page g come. external-tag w id (nest_of old fs before page) name g named-so come;
      keeps = refl;
      wrote = tt;
      prepared = λ fs. subst (λ (p : Prepared). IsPreparedBy p (at_of old fs) (at_of (record old { pending = Some name }) fs)) (sym named-so) refl;
    })

pub prepares-inline : (id : NodeId) (old new : Live) (text read : List ℕ) (b : Option Begun) → Inline ≡ script_kind (prepare old.doc.tree (node_of old.doc.bound id)) →
    text ≡ script_text old.doc.tree (node_of old.doc.bound id) → read ≡ text → Begins read old b new → Prepares id old b new
prepares-inline id old new text read b kind whole same begins = record {
  comes = λ w fs before page g come. inline-tag w id (nest_of old fs before page) read g is (begins.comes w fs before page g come);
  keeps = begins.keeps;
  wrote = begins.wrote;
  prepared = λ fs. subst (λ (p : Prepared). IsPreparedBy p (at_of old fs) (at_of new (with_begun b fs))) (sym is) (begins.begins fs);
}
  where
    is : prepare old.doc.tree (node_of old.doc.bound id) ≡ inline read
    is = is_inline old.doc.tree (node_of old.doc.bound id) (sym kind) ∙ ap inline (sym (same ∙ whole))
