-- Nodes for which no id stands.
use Rattle.std.proofs.Common.{◌≡◌, ◌≢◌, ◌<◌, ◌∙◌, ℕ, zero, suc, Bool, true, List, [], ◌∷◌, length, Option, Some, None, refl, sym, ap, subst, inl, inr, arith}
use Rattle.std.specs.Prelude.{IsTrue, is_some, unwrap_or, option_and_then}
use Rattle.std.proofs.lemmas.Option.{none-some, same_Some}
use Rattle.html_types.specs.declared.ending.Ending.{Ending}
use Rattle.html_types.specs.declared.ending.Ending.TheVariants as ending
use Rattle.html_types.specs.declared.instruction.Finish.{Finish}
use Rattle.html_types.specs.declared.instruction.Finish.TheVariants as finale
use Rattle.html_types.specs.declared.instruction.Stop.TheVariants as stop
use Rattle.html_types.specs.declared.operation.NodeId.{NodeId}
use Rattle.html_types.specs.declared.operation.Op.{Op}
use Rattle.html_types.specs.declared.operation.Op.TheVariants.{Make, Put, Text, Comment, Doctype, Detach, MoveChildren, AddAttributes}
use Rattle.standard.specs.Tree.{Nodes}
use Rattle.standard.specs.Act.{Doc, bound_to, node_of, is_bound, act, acts}
use Rattle.standard.specs.Parser.{Parser, Took, took, take_character, Finished, finish, Parsed, parse}
use Rattle.serial.specs.Scripts.{Fetched, got, missing, faulted, file_statements}
use Rattle.serial.specs.Serial.{World, Serial, Course, goes, refuses, starved, Advanced, advanced, before_point, run_text, end_of_script, Moment, reading, tag_ended, awaits, over, read_next, unless_pending, behind_script, after_script, after_fetch, fetched, moment_after, moments_on, Leads}
use Rattle.serial.specs.Serial as serial
use Rattle.rule_laws.specs.Naming.{Serves, AreFresh, IsStopBound}
use Rattle.rule_laws.specs.NamingLaws.{TookBound}
use Rattle.rule_laws.proofs.FreshnessTexts.{characters-bound, fresh-follows}
use Rattle.rule_laws.proofs.FreshnessDocs.{acts-bind, texts-served}
use Rattle.act_laws.specs.Staying.{Stays}
use Rattle.act_laws.proofs.Bindings.{told, is_there}
use Rattle.act_laws.proofs.Staying.{Stays-act}
use Rattle.standard_laws.specs.Laws.{outcome_at}
use Rattle.standard_laws.proofs.Parse.{advance-parse}
use Rattle.standard_laws.proofs.Passing.{finished-at}
use Rattle.standard_laws.proofs.Kept as kept
use Rattle.moment_laws.specs.Served.{state_at, IsServedAt}
use Rattle.moment_laws.proofs.Served.{moments-served}
use Rattle.fragment_laws.specs.Unnamed.{IsUnnamed, FragmentsAreUnnamed, OperationsKeepUnnamed, IsUnnamedBehind, ScriptsKeepUnnamed, StatementsKeepUnnamed, MomentsKeepUnnamed, StopsAreNamed, IsTagNamed, MomentsRunOthers}

pub fragments-unnamed : FragmentsAreUnnamed
fragments-unnamed d n form ops binds m past below = record {
  here = below;
  unnamed = λ id is. let l : m < length d.tree = is_there d.tree m (binds.elements id m is) in absurd (omega (arith, l, past));
}

-- ---- operations

-- a change of the tree
pub longer : (d : Doc) (t : Nodes) (m : ℕ) → Stays d.tree t → IsUnnamed d m → IsUnnamed (record d { tree = t }) m
longer d t m stays u = record { here = omega (arith, stays.nodes, u.here); unnamed = u.unnamed }

unnamed-act : (d : Doc) (op : Op) (m : ℕ) → IsUnnamed d m → IsUnnamed (act d op) m
unfolding act
unnamed-act d (Make id name as') m u =
    let stays = Stays-act d (Make id name as') in
    record {
      here = omega (arith, stays.nodes, u.here);
      unnamed = λ q is. elim (told d.bound id (length d.tree) q m is) [
        | inl this ↦ let last : m ≡ length d.tree = this.1 in absurd (omega (arith, last, u.here))
        | inr other ↦ u.unnamed q other.1
      ];
    }
unnamed-act d (Put id place) m u = longer d _ m (Stays-act d (Put id place)) u
unnamed-act d (Text place text) m u = longer d _ m (Stays-act d (Text place text)) u
unnamed-act d (Comment place text) m u = longer d _ m (Stays-act d (Comment place text)) u
unnamed-act d (Doctype name) m u = longer d _ m (Stays-act d (Doctype name)) u
unnamed-act d (Detach id) m u = longer d _ m (Stays-act d (Detach id)) u
unnamed-act d (MoveChildren from to) m u = longer d _ m (Stays-act d (MoveChildren from to)) u
unnamed-act d (AddAttributes id as') m u = longer d _ m (Stays-act d (AddAttributes id as')) u

pub unnamed-acts : OperationsKeepUnnamed
unfolding acts
unnamed-acts d [] m u = u
unnamed-acts d (o ∷ os) m u = unnamed-acts (act d o) os m (unnamed-act d o m u)

-- ---- scripts and moments

module _ (m : ℕ) where
  abbrev IsIn : Serial → Type 0
  IsIn s = IsUnnamed s.side.doc m

  abbrev IsAt : Moment → Type 0
  IsAt a = IsIn (state_at a)

  abbrev Remains : Serial → Serial → Type 0
  Remains s t = IsIn s → IsIn t

  abbrev Advances : Advanced → Type 0
  Advances (advanced p d rest k) = IsUnnamed d m

  unnamed-steps : kept.Steps Remains
  unnamed-steps = record {
    same = λ s u. u;
    join = λ s t v a b u. b (a u);
    line = λ l s u. u;
    counted = λ s u. u;
    inserted = λ t s fits u. u;
    changed = λ t s stays u. longer s.side.doc t m stays u;
    awaits = λ name s u. u;
    parsed = λ s p d rest k es q u.
        subst Advances (sym (advance-parse es s.parser s.side.doc (before_point s)) ∙ q) (unnamed-acts s.side.doc (parse es s.parser (before_point s)).ops m u);
    script = λ s t u. u;
    enters = λ s u. u;
  }

  behind : (s : Serial) (f : Course) → kept.Kept Remains s f → IsIn s → IsUnnamedBehind m f
  behind s starved k u = tt
  behind s (goes t) k u = k u
  behind s (refuses w t) k u = k u

  character-unnamed : (s : Serial) (cs : List ℕ) (k : Took) → IsIn s → IsAt (serial.after_character s cs k)
  character-unnamed s cs (took ops p stop.InputEnd) u = unnamed-acts s.side.doc ops m u
  character-unnamed s cs (took ops p (stop.Script i)) u = unnamed-acts s.side.doc ops m u
  character-unnamed s cs (took ops p stop.Deep) u = unnamed-acts s.side.doc ops m u

  outcome-unnamed : (s : Serial) (p : Parser) (d : Doc) (k : Finish) → IsUnnamed d m → IsAt (over (outcome_at s p d k))
  outcome-unnamed s p d finale.Finished u = u
  outcome-unnamed s p d finale.Deep u = u

  next-unnamed : (e : Ending) (w : World) (s : Serial) (input : List ℕ) → IsIn s → IsAt (read_next w.entities e s input)
  next-unnamed ending.End w s [] u =
      let f : Finished = finish w.entities s.parser in
      subst (λ o. IsAt (over o)) (sym (finished-at s f)) (outcome-unnamed s f.parser (acts s.side.doc f.ops) f.finish (unnamed-acts s.side.doc f.ops m u))
  next-unnamed ending.Bad w s [] u = u
  next-unnamed ending.Long w s [] u = u
  next-unnamed ending.Fault w s [] u = u
  next-unnamed e w s (c ∷ cs) u = character-unnamed s cs (take_character w.entities s.parser c) u

  pending-unnamed : (pending : Option (List ℕ)) (t : Serial) → IsIn t → IsAt (unless_pending pending t)
  pending-unnamed None t u = u
  pending-unnamed (Some name) t u = u

  script-unnamed : (s : Serial) (f : Course) (b : Moment) → IsIn s → kept.Kept Remains s f → after_script f ≡ Some b → IsAt b
  script-unnamed s (goes t) b u k q = subst IsAt (same_Some (behind_script t) b q) (pending-unnamed t.side.pending t (k u))
  script-unnamed s (refuses w t) b u k q = subst IsAt (same_Some (over (serial.refusal w t)) b q) (k u)
  script-unnamed s starved b u k q = absurd (none-some b q)

  fetch-unnamed : (n : ℕ) (w : World) (name : List ℕ) (s : Serial) (f : Fetched) (b : Moment) → IsIn s → after_fetch n w name s f ≡ Some b → IsAt b
  fetch-unnamed n w name s (got bytes) b u q = script-unnamed s (run_text n w (file_statements bytes) s) b u (kept.run_text-kept Remains unnamed-steps n w (file_statements bytes) s) q
  fetch-unnamed n w name s missing b u q = subst IsAt (same_Some _ b q) u
  fetch-unnamed n w name s faulted b u q = subst IsAt (same_Some _ b q) u

  moment-unnamed : (n : ℕ) (e : Ending) (w : World) (a b : Moment) → moment_after n e w a ≡ Some b → IsAt a → IsAt b
  unfolding moment_after
  moment-unnamed n e w (reading s) b q u = subst IsAt (same_Some _ b q) (next-unnamed e w s s.input u)
  moment-unnamed n e w (tag_ended i s) b q u = script-unnamed s (end_of_script n w i s) b u (kept.end_of_script-kept Remains unnamed-steps n w i s) q
  moment-unnamed n e w (awaits name s) b q u = fetch-unnamed n w name s (fetched w name) b u q
  moment-unnamed n e w (over o) b q u = subst IsAt (same_Some _ b q) u

pub scripts-unnamed : ScriptsKeepUnnamed
scripts-unnamed n w text s m u = behind m s (serial.execute n w text s) (kept.execute-kept (Remains m) (unnamed-steps m) n w text s) u

pub statements-unnamed : StatementsKeepUnnamed
statements-unnamed n w k list s m u = behind m s (serial.run_statements n w k list s) (kept.run_statements-kept (Remains m) (unnamed-steps m) n w k list s) u

-- what holds from one moment to the next holds from a moment to all that it leads to
module _ (P : Moment → Type 0) (e : Ending) (w : World) (one : (n : ℕ) (a b : Moment) → moment_after n e w a ≡ Some b → P a → P b) where
  some : (k n : ℕ) (a b : Moment) → moments_on k n e w a ≡ Some b → P a → P b
  some zero n a b q h = subst P (same_Some a b q) h
  some (suc k) n a b q h = by (moment_after n e w a) (λ c is. some k n c b is) (λ c is. one n a c is h) q
    where
      by : (o : Option Moment) → ((c : Moment) → moments_on k n e w c ≡ Some b → P c → P b) → ((c : Moment) → o ≡ Some c → P c) → option_and_then (λ c. moments_on k n e w c) o ≡ Some b → P b
      by None rest first is = absurd (none-some b is)
      by (Some c) rest first is = rest c is (first c refl)

  pub all : (a b : Moment) → Leads e w a b → P a → P b
  all a b (k, n, q) h = some k n a b q h

pub moments-unnamed : MomentsKeepUnnamed
moments-unnamed e w a b leads m u = all (IsAt m) e w (λ n a' b' q h. moment-unnamed m n e w a' b' q h) a b leads u

-- ---- the scripts that run

-- the node of an id is none for which no id stands
pub named-other : (d : Doc) (i : NodeId) (m : ℕ) → IsTrue (is_bound d.bound i) → IsUnnamed d m → node_of d.bound i ≢ m
named-other d i m bound u = by (bound_to d.bound i) refl bound
  where
    by : (o : Option ℕ) → bound_to d.bound i ≡ o → is_some o ≡ true → unwrap_or o 0 ≢ m
    by None is none = absurd (cc)
    by (Some n) is there = λ same. u.unnamed i (is ∙ ap Some same)

pub stops-named : StopsAreNamed
stops-named d es p text i m serves at u =
    let r : Parsed = parse es p text in
    let bound : IsStopBound (is_bound (acts d r.ops).bound) r.stop = (texts-served AreFresh fresh-follows d es p text serves).1 in
    named-other (acts d r.ops) i m (subst (IsStopBound (is_bound (acts d r.ops).bound)) at bound) (unnamed-acts d r.ops m u)

-- at each moment all ids that the parser holds are bound, and so is that of a script whose end tag was met
pub record IsSound (a : Moment) : Type 0 where
  pub served : IsServedAt AreFresh a
  pub tag : IsTagNamed a

character-tag : (s : Serial) (cs : List ℕ) (k : Took) → TookBound AreFresh (is_bound s.side.doc.bound) k → IsTagNamed (serial.after_character s cs k)
character-tag s cs (took ops p stop.InputEnd) b = tt
character-tag s cs (took ops p (stop.Script i)) b = subst (λ (known : NodeId → Bool). IsTrue (known i)) (sym (acts-bind s.side.doc ops)) b.1
character-tag s cs (took ops p stop.Deep) b = tt

next-tag : (e : Ending) (w : World) (s : Serial) (input : List ℕ) → Serves AreFresh (is_bound s.side.doc.bound) s.parser.open_state → IsTagNamed (read_next w.entities e s input)
next-tag e w s [] h = tt
next-tag e w s (c ∷ cs) h = character-tag s cs (take_character w.entities s.parser c) (characters-bound AreFresh fresh-follows (is_bound s.side.doc.bound) w.entities s.parser c h)

pending-tag : (pending : Option (List ℕ)) (t : Serial) → IsTagNamed (unless_pending pending t)
pending-tag None t = tt
pending-tag (Some name) t = tt

script-tag : (f : Course) (b : Moment) → after_script f ≡ Some b → IsTagNamed b
script-tag (goes t) b q = subst IsTagNamed (same_Some (behind_script t) b q) (pending-tag t.side.pending t)
script-tag (refuses w t) b q = subst IsTagNamed (same_Some (over (serial.refusal w t)) b q) tt
script-tag starved b q = absurd (none-some b q)

fetch-tag : (n : ℕ) (w : World) (name : List ℕ) (s : Serial) (f : Fetched) (b : Moment) → after_fetch n w name s f ≡ Some b → IsTagNamed b
fetch-tag n w name s (got bytes) b q = script-tag (run_text n w (file_statements bytes) s) b q
fetch-tag n w name s missing b q = subst IsTagNamed (same_Some _ b q) tt
fetch-tag n w name s faulted b q = subst IsTagNamed (same_Some _ b q) tt

moment-tag : (n : ℕ) (e : Ending) (w : World) (a b : Moment) → moment_after n e w a ≡ Some b → IsServedAt AreFresh a → IsTagNamed b
unfolding moment_after
moment-tag n e w (reading s) b q h = subst IsTagNamed (same_Some _ b q) (next-tag e w s s.input h)
moment-tag n e w (tag_ended i s) b q h = script-tag (end_of_script n w i s) b q
moment-tag n e w (awaits name s) b q h = fetch-tag n w name s (fetched w name) b q
moment-tag n e w (over o) b q h = subst IsTagNamed (same_Some _ b q) tt

one-leads : (n : ℕ) (e : Ending) (w : World) (a b : Moment) → moment_after n e w a ≡ Some b → Leads e w a b
one-leads n e w a b q = (1, n, ap (option_and_then (λ c. moments_on 0 n e w c)) q)

pub sound-next : (e : Ending) (w : World) (n : ℕ) (a b : Moment) → moment_after n e w a ≡ Some b → IsSound a → IsSound b
sound-next e w n a b q sound = record {
  served = moments-served AreFresh fresh-follows e w a b (one-leads n e w a b q) sound.served;
  tag = moment-tag n e w a b q sound.served;
}

pub moments-run-others : MomentsRunOthers
moments-run-others e w a i s leads served tag m u =
    let there : IsSound (tag_ended i s) = all IsSound e w (sound-next e w) a (tag_ended i s) leads (record { served = served; tag = tag }) in
    named-other s.side.doc i m there.tag (moments-unnamed e w a (tag_ended i s) leads m u)
