-- A row comes to what its walk says.
use Rattle.std.proofs.Common.{◌≡◌, sym, subst, true≢false, ℕ, inl, inr, Bool, true, false, ◌&&◌, List, [], ◌∷◌}
use Rattle.html_types.specs.declared.instruction.Instr.{Instr}
use Rattle.html_types.specs.declared.instruction.Mode.{Mode}
use Rattle.html_types.specs.declared.instruction.Mode.TheVariants.{InBody}
use Rattle.html_types.specs.declared.instruction.Flow.{Flow}
use Rattle.html_types.specs.declared.instruction.Flow.TheVariants.{On, Skip, Leave}
use Rattle.html_types.specs.declared.instruction.Next.{Next}
use Rattle.html_types.specs.declared.instruction.Next.TheVariants as next
use Rattle.html_types.specs.declared.token.Token.{Token}
use Rattle.html_types.specs.declared.operation.Op.{Op}
use Rattle.html_types.specs.declared.open.Open.{Open}
use Rattle.standard.specs.Instructions.{Config, config, step, run}
use Rattle.rule_laws.proofs.Readings.{calm_next, calm, is_quiet, all_quiet, weight_of, Fit, Fact, no_more, cut_off, at, at_or_fallen, fallen, KnowsOf, Move, behind, Kind, tame, branch, goes, again, loud, kind, Takes, Splits, GoesTo, GoesAgain, Obeys, Way, onto, anew, falls, allows, walk, Goes, FineNext, FineFlow, Fine}
use Rattle.rule_laws.proofs.Calm.{step-calm, run-left, run-quiet, split}
use Rattle.rule_laws.proofs.Takes.{at-most, obeys}

abbrev pub flow_at : Bool → Flow
flow_at true = Skip
flow_at false = On

fine-next : (x : Bool) (h : Way → Bool) (v : ℕ) (b : Open) (n : Next) → calm_next true n ≡ true → FineNext x h v b n
fine-next x h v b next.Reprocess s = absurd (true≢false (sym s))
fine-next x h v b (next.UsingRules m) s = absurd (true≢false (sym s))
fine-next x h v b next.InBodyFostering s = absurd (true≢false (sym s))
fine-next x h v b _ s = tt

pub fine-calm : (x : Bool) (h : Way → Bool) (v : ℕ) (b : Open) (f : Flow) → calm true f ≡ true → FineFlow x h v b f
fine-calm x h v b On s = tt
fine-calm x h v b Skip s = tt
fine-calm x h v b (Leave n) s = fine-next x h v b n s

-- the token goes on by the rules of a mode
goes-by : (x : Bool) (h : Way → Bool) (v : ℕ) (b : Open) (m : Mode) (k : Fact) → Fit b → KnowsOf x k v b → h (onto m) ≡ true → Fit b × Goes x h v b (onto m)
goes-by x h v b m k s w e = (s, (at-most k v b.stack b.mode (weight_of x b) w, e))

-- or once more
goes-again : (x : Bool) (h : Way → Bool) (v : ℕ) (b : Open) (k : Fact) → Fit b → KnowsOf x k v b → allows h k ≡ true → FineNext x h v b next.Reprocess
goes-again x h v b no_more s w e = absurd (true≢false (sym e))
goes-again x h v b cut_off s w e = absurd (true≢false (sym e))
goes-again x h v b (at m) s w e = let P : Mode → Type 0 = λ n. h (anew n) ≡ true in (s, inr (w.0, subst P (sym w.1) e))
goes-again x h v b (at_or_fallen m) s (inl w) e = (s, inl (w, (split (h (anew m)) (h falls) e).1))
goes-again x h v b (at_or_fallen m) s (inr w) e =
    let P : Mode → Type 0 = λ n. h (anew n) ≡ true in (s, inr (w.0, subst P (sym w.1) (split (h (anew m)) (h falls) e).0))
goes-again x h v b fallen s w e = (s, inl (w, e))

-- what the rest of a row comes to
abbrev pub Rest : Bool → (Way → Bool) → ℕ → Token → List Instr → Type 0
Rest x h v t is = (k : Fact) (left_out : Bool) (b : Open) (o : List Op) → Fit b → KnowsOf x k v b → walk x h k left_out is ≡ true → Fine x h v (run t (config b o (flow_at left_out)) is)

pub left-fine : (x : Bool) (h : Way → Bool) (v : ℕ) (t : Token) (is : List Instr) (b : Open) (o : List Op) (n : Next) → FineNext x h v b n → Fine x h v (run t (config b o (Leave n)) is)
left-fine x h v t is b o n f = let P : Config → Type 0 = λ c. Fine x h v c in subst P (sym (run-left is t b o n)) f

tame-fine : (x : Bool) (h : Way → Bool) (v : ℕ) (t : Token) (is : List Instr) (move : Move) (k : Fact) (b b' : Open) (o : List Op) (f : Flow)
    → Takes move x b b' f → Fit b → KnowsOf x k v b → walk x h (behind move k) false is ≡ true → Rest x h v t is → Fine x h v (run t (config b' o f) is)
tame-fine x h v t is move k b b' o On takes s w e rest = let c = takes k v s w in rest (behind move k) false b' o c.0 c.1 e
tame-fine x h v t is move k b b' o Skip takes s w e rest = absurd takes
tame-fine x h v t is move k b b' o (Leave n) takes s w e rest = left-fine x h v t is b' o n (fine-next x h v b' n takes)

branch-fine : (x : Bool) (h : Way → Bool) (v : ℕ) (t : Token) (is : List Instr) (k : Fact) (b b' : Open) (o : List Op) (f : Flow)
    → Splits x b b' f → Fit b → KnowsOf x k v b → (walk x h k false is ≡ true) × (walk x h k true is ≡ true) → Rest x h v t is → Fine x h v (run t (config b' o f) is)
branch-fine x h v t is k b b' o On splits s w e rest = let c = splits k v s w in rest k false b' o c.0 c.1 e.0
branch-fine x h v t is k b b' o Skip splits s w e rest = let c = splits k v s w in rest k true b' o c.0 c.1 e.1
branch-fine x h v t is k b b' o (Leave n) splits s w e rest = absurd splits

goes-fine : (x : Bool) (h : Way → Bool) (v : ℕ) (m : Mode) (k : Fact) (b b' : Open) (f : Flow) → GoesTo m x b b' f → Fit b → KnowsOf x k v b → h (onto m) ≡ true → FineFlow x h v b' f
goes-fine x h v m k b b' On g s w e = absurd g
goes-fine x h v m k b b' Skip g s w e = absurd g
goes-fine x h v m k b b' (Leave (next.UsingRules n)) g s w e =
    let c = g.1 k v s w in let P : Mode → Type 0 = λ n'. h (onto n') ≡ true in goes-by x h v b' n k c.0 c.1 (subst P (sym g.0) e)
goes-fine x h v m k b b' (Leave next.InBodyFostering) g s w e =
    let c = g.1 k v s w in let P : Mode → Type 0 = λ n'. h (onto n') ≡ true in goes-by x h v b' InBody k c.0 c.1 (subst P (sym g.0) e)
goes-fine x h v m k b b' (Leave _) g s w e = absurd g

again-fine : (x : Bool) (h : Way → Bool) (v : ℕ) (k : Fact) (b b' : Open) (f : Flow) → GoesAgain x b b' f → Fit b → KnowsOf x k v b → allows h k ≡ true → FineFlow x h v b' f
again-fine x h v k b b' On g s w e = absurd g
again-fine x h v k b b' Skip g s w e = absurd g
again-fine x h v k b b' (Leave next.Reprocess) g s w e = let c = g k v s w in goes-again x h v b' k c.0 c.1 e
again-fine x h v k b b' (Leave _) g s w e = absurd g

-- a flow that leaves the row; one that doesn't is none of these
flow-fine : (x : Bool) (h : Way → Bool) (v : ℕ) (t : Token) (is : List Instr) (b : Open) (o : List Op) (f : Flow) (leaves : Flow → Type 0)
    → (leaves On → ⊥) → (leaves Skip → ⊥) → leaves f → FineFlow x h v b f → Fine x h v (run t (config b o f) is)
flow-fine x h v t is b o On leaves p q l f = absurd (p l)
flow-fine x h v t is b o Skip leaves p q l f = absurd (q l)
flow-fine x h v t is b o (Leave n) leaves p q l f = left-fine x h v t is b o n f

instr-fine : (x : Bool) (h : Way → Bool) (v : ℕ) (t : Token) (i : Instr) (is : List Instr) (k : Fact) (b : Open) (o : List Op) (what : Kind) → Obeys what x b (step i t b o) → Fit b → KnowsOf x k v b
    → elim what as (λ _. Bool) [ tame move ↦ walk x h (behind move k) false is | branch ↦ walk x h k false is && walk x h k true is | goes m ↦ h (onto m) | again ↦ allows h k | loud ↦ is_quiet true i && all_quiet true is ] ≡ true
    → Rest x h v t is → Fine x h v (run t (step i t b o) is)
instr-fine x h v t i is k b o (tame move) obeyed s w e rest = let c : Config = step i t b o in tame-fine x h v t is move k b c.open_state c.ops c.flow obeyed s w e rest
instr-fine x h v t i is k b o branch obeyed s w e rest =
    let c : Config = step i t b o in branch-fine x h v t is k b c.open_state c.ops c.flow obeyed s w (split (walk x h k false is) (walk x h k true is) e) rest
instr-fine x h v t i is k b o (goes m) obeyed s w e rest =
    let c : Config = step i t b o in
    flow-fine x h v t is c.open_state c.ops c.flow (λ f. GoesTo m x b c.open_state f) (λ p. p) (λ p. p) obeyed (goes-fine x h v m k b c.open_state c.flow obeyed s w e)
instr-fine x h v t i is k b o again obeyed s w e rest =
    let c : Config = step i t b o in
    flow-fine x h v t is c.open_state c.ops c.flow (λ f. GoesAgain x b c.open_state f) (λ p. p) (λ p. p) obeyed (again-fine x h v k b c.open_state c.flow obeyed s w e)
instr-fine x h v t i is k b o loud obeyed s w e rest =
    let c : Config = step i t b o in
    let both : (is_quiet true i ≡ true) × (all_quiet true is ≡ true) = split (is_quiet true i) (all_quiet true is) e in
    let r : Config = run t c is in
    fine-calm x h v r.open_state r.flow (run-quiet true is t c.open_state c.ops c.flow (step-calm true i t b o both.0) both.1)

pub run-walk : (x : Bool) (h : Way → Bool) (v : ℕ) (t : Token) (is : List Instr) → Rest x h v t is
unfolding run
run-walk x h v t [] k true b o s w e = tt
run-walk x h v t [] k false b o s w e = tt
run-walk x h v t (i ∷ is) k true b o s w e = run-walk x h v t is k false b o s w e
run-walk x h v t (i ∷ is) k false b o s w e = instr-fine x h v t i is k b o (kind x i) (obeys x i t b o) s w e (run-walk x h v t is)
