-- Each step keeps the rule of the table.
use Rattle.std.proofs.Common.{◌≡◌, ◌≢◌, ℕ, ◌+◌, ◌-◌, ◌*◌, ◌%◌, ◌^◌, ◌<◌, ◌≤◌, eqb, List, [], ◌∷◌, ◌++◌, map, length, replicate, get_or, set, sym, refl, ap, ◌∙◌, subst, ⊎_elim, inl, inr, arith, Option, Some, None, length-set, length-append, get_or-set_other, get_or-set_same, eq-eqb, ne_eqb}
use mathlib.Core.Logic.{dite}
use mathlib.Core.Option.{none, some, some-ne-none}
use mathlib.Core.Option as maybe
use mathlib.Core.List.{map-append}
use native.Mathlib.Decide.{ℕ_discrete, dec_le}
use lib.ListN.{get_elem?, length-map, length-replicate, get_or-replicate, get_or-append}
use lib.Seq.{set-get_or, map-set, get_or_at}
use prog.Atomic.{either}
use Rattle.atomic_table.specs.Table.{State, Me, step, Act, keeps, takes, gives, stepped, homes_after, Allows, Enters, Splits, Joins, opening}
use Rattle.atomic_table.proofs.Lists.{at_set, set_here, set_else, set_again, at_snoc, at_map}
use Rattle.atomic_table.specs.declared.shared.Seat.{Seat}
use Rattle.crossbeam_utils.specs.Register.{Admits, TurnsAt, Turns, Forks, Merges}
use Rattle.two_copies.specs.declared.part.Part.{Part}
use Rattle.two_copies.specs.declared.board.Plan.{Plan}
use Rattle.two_copies.specs.declared.board.Doing.{Doing}
use Rattle.two_copies.specs.declared.board.Role.{Role}
use Rattle.two_copies.specs.declared.board.Role.TheVariants.{Idle, Out, In, Holds, Writer}
use Rattle.two_copies.specs.Sides.{ReaderOk, Knows, client, Sided, first_plan, plan_or, flipped, closed, opened, Gone, IsPlanned, plan_of, resting, unit, posed, doing, starting, claimed, entered, looked, backed_out, left, Plans, recorded, gathered, emptied, reached, filled, turned, began, ended}
use Rattle.two_copies.proofs.Readers.{put, put_here, put_else, stays, replans, others_move, others_plan}

module _ {T : Type 0} where
  abbrev reader_or : ℕ → Role T → ℕ
  reader_or d (Out r) = r
  reader_or d (In r) = r
  reader_or d (Holds r k u) = r
  reader_or d _ = d

all_vacant : {A : Type 0} (n i : ℕ) (a : A) → i < n → get_elem? (map some (replicate n a)) i ≡ some (some a)
all_vacant Rattle.std.proofs.Common.zero i a h = absurd (omega arith)
all_vacant (Rattle.std.proofs.Common.suc n) Rattle.std.proofs.Common.zero a h = refl
all_vacant (Rattle.std.proofs.Common.suc n) (Rattle.std.proofs.Common.suc i) a h = all_vacant n i a (omega arith)

module _ {T V : Type 0} (holds : T → List V → Type 0) where
  abbrev D : Type 0
  D = Doing T V

  abbrev St : Type 0
  St = State (Option (Part T)) D

  abbrev M : Type 0
  M = Me (Option (Part T)) D

  abbrev Homes : Type 0
  Homes = List (maybe.Option (Option (Part T)))

  abbrev Rule : St → Type 0
  Rule = Sided holds

  seats_stay : (K : ℕ → Role T → Type 0) (vs : List D) (me : ℕ) (w : D) → K me w.role → ((j : ℕ) (d : D) → j ≢ me → get_elem? vs j ≡ some d → K j d.role)
      → (j : ℕ) (d : D) → get_elem? (set vs me w) j ≡ some d → K j d.role
  seats_stay K vs me w mine others j d e = ⊎_elim (λ (t : (j ≡ me) × (w ≡ d)). subst (λ (x : ℕ × D). K x.0 x.1.role) (λ i. (sym t.0 i, t.1 i)) mine)
      (λ (t : (j ≢ me) × (get_elem? vs j ≡ some d)). others j d t.0 t.1) (at_set vs me j w d e)

  same_clients : (s : St) (r : Rule s) (me : ℕ) (v : D) (role : Role T) → get_elem? s.views me ≡ some v → holds r.plan.shown.value (map client (set s.views me (doing role v.client)))
  same_clients s r me v role at = subst (holds r.plan.shown.value) (sym (map-set client s.views me (doing role v.client) ∙ set_again (map client s.views) me v.client (at_map client s.views me v at))) r.kept

  knows : (s : St) (r : Rule s) (id : ℕ) (v : D) (role : Role T) → get_elem? s.views id ≡ some v → v.role ≡ role → Knows r.plan r.n r.writer r.stage r.owner id role
  knows s r id v role at is = subst (Knows r.plan r.n r.writer r.stage r.owner id) is (r.each_seat id v at)

  plans : (me m' : M) (p p' : Plan T) (next : Plan T → Plan T → Type 0) → me.0.role ≡ Writer p → m'.0.role ≡ Writer p' → next p p' → Plans me m' next
  plans me m' p p' next is now h q is' = (p', now, subst (λ (z : Plan T). next z p') (ap (plan_or p) (sym is ∙ is')) h)

  -- a step of the reader q, to the stage t, which sets the word i to x
  reader_step : (s : St) (r : Rule s) (q t i x me : ℕ) (homes' : Homes) (w : D) → q < r.n → (0 < r.stage q → r.owner q ≡ me) → get_or (set s.words i x) 0 0 ≡ get_or s.words 0 0
      → ((j : ℕ) → j ≢ q → (16 * j + 16 ≢ i) × (16 * j + 17 ≢ i)) → length homes' ≡ length s.homes
      → ((j k : ℕ) → j ≢ q → k < 2 → get_elem? homes' (8 * j + k) ≡ get_elem? s.homes (8 * j + k)) → ReaderOk r.plan (set s.words i x) homes' q t
      → Knows r.plan r.n r.writer (put r.stage q t) (put r.owner q me) me w.role → holds r.plan.shown.value (map client (set s.views me w))
      → Rule record { words = set s.words i x; homes = homes'; views = set s.views me w }
  reader_step s r q t i x me homes' w inside mine side apart as_deep slots here known kept = record {
    n = r.n;
    plan = r.plan;
    writer = r.writer;
    stage = put r.stage q t;
    owner = put r.owner q me;
    wide = length-set s.words i x ∙ r.wide;
    deep = as_deep ∙ r.deep;
    side_is = side ∙ r.side_is;
    sides = r.sides;
    each_reader = λ j l. dite (ℕ_discrete j q) (λ e. subst (λ (z : ℕ × ℕ). ReaderOk r.plan (set s.words i x) homes' z.0 z.1) (λ c. (sym e c, (sym (put_here r.stage q t) ∙ ap (put r.stage q t) (sym e)) c)) here)
        (λ other. subst (ReaderOk r.plan (set s.words i x) homes' j) (sym (put_else r.stage q t j other))
        (stays r.plan s.words (set s.words i x) s.homes homes' j (r.stage j) r.sides.0 (get_or-set_other s.words i (16 * j + 16) x 0 (apart j other).0) (get_or-set_other s.words i (16 * j + 17) x 0 (apart j other).1)
        (λ k a. slots j k other a) (r.each_reader j l)));
    each_seat = seats_stay (Knows r.plan r.n r.writer (put r.stage q t) (put r.owner q me)) s.views me w known
        (λ j d other at. others_move r.plan r.n r.writer r.stage r.owner q t me j other mine d.role (r.each_seat j d at));
    kept = kept;
  }

  -- a step of the writer, to the plan p'
  writer_step : (s : St) (r : Rule s) (p' : Plan T) (me : ℕ) (words' : List ℕ) (homes' : Homes) (v : V) → me ≡ r.writer → length words' ≡ length s.words → length homes' ≡ length s.homes
      → get_or words' 0 0 ≡ p'.side → (p'.off < 2) × (p'.side ≢ p'.off) × (p'.side < 3) × (p'.fresh ≡ 1 → (p'.side ≡ 2) × (p'.off ≡ 0)) → ((j : ℕ) → j < r.n → ReaderOk p' words' homes' j (r.stage j))
      → ((j k : ℕ) (u : Part T) → j < r.n → r.stage j ≡ k + 3 → (k ≡ r.plan.off → u ≡ r.plan.spare) → (k ≢ r.plan.off → u ≡ r.plan.shown) → (k ≡ p'.off → u ≡ p'.spare) × (k ≢ p'.off → u ≡ p'.shown))
      → holds p'.shown.value (map client (set s.views me (doing (Writer p') v))) → Rule record { words = words'; homes = homes'; views = set s.views me (doing (Writer p') v) }
  writer_step s r p' me words' homes' v writes as_wide as_deep side sides readers held kept = record {
    n = r.n;
    plan = p';
    writer = r.writer;
    stage = r.stage;
    owner = r.owner;
    wide = as_wide ∙ r.wide;
    deep = as_deep ∙ r.deep;
    side_is = side;
    sides = sides;
    each_reader = readers;
    each_seat = seats_stay (Knows p' r.n r.writer r.stage r.owner) s.views me (doing (Writer p') v) (refl, writes)
        (λ j d other at. others_plan r.plan r.n r.writer r.stage r.owner p' j (λ e. other (e ∙ sym writes)) held d.role (r.each_seat j d at));
    kept = kept;
  }

  -- the same at a load of the word i, on the writer's own side
  writer_load : (s : St) (r : Rule s) (i me left filled hand : ℕ) (last : List ℕ) (spare : Part T) (homes' : Homes) (d : D) → get_elem? s.views me ≡ some d → me ≡ r.writer → length homes' ≡ length s.homes
      → ((j : ℕ) → j < r.n → ReaderOk (record r.plan { left = left; filled = filled; hand = hand; last = last; spare = spare }) s.words homes' j (r.stage j))
      → ((j : ℕ) → j < r.n → r.stage j ≡ r.plan.off + 3 → r.plan.spare ≡ spare)
      → Rule record { words = set s.words i (get_or s.words i 0); homes = homes'; views = set s.views me (doing (Writer (record r.plan { left = left; filled = filled; hand = hand; last = last; spare = spare })) d.client) }
  writer_load s r i me left filled hand last spare homes' d at writes as_deep readers same =
      let p' : Plan T = record r.plan { left = left; filled = filled; hand = hand; last = last; spare = spare } in
      subst (λ (ws : List ℕ). Rule record { words = ws; homes = homes'; views = set s.views me (doing (Writer p') d.client) }) (sym (set-get_or s.words i 0))
      (writer_step s r p' me s.words homes' d.client writes refl as_deep r.side_is r.sides readers
      (λ j k u l st a b. ((λ e. a e ∙ same j l (st ∙ ap (λ (z : ℕ). z + 3) e)), b)) (same_clients s r me d (Writer p') at))

  unmoved : (s : St) (r : Rule s) (i me : ℕ) (d : D) (role : Role T) → get_elem? s.views me ≡ some d → Knows r.plan r.n r.writer r.stage r.owner me role
      → Rule record { words = set s.words i (get_or s.words i 0); homes = s.homes; views = set s.views me (doing role d.client) }
  unmoved s r i me d role at known = subst (λ (ws : List ℕ). Rule record { words = ws; homes = s.homes; views = set s.views me (doing role d.client) }) (sym (set-get_or s.words i 0)) record {
    n = r.n;
    plan = r.plan;
    writer = r.writer;
    stage = r.stage;
    owner = r.owner;
    wide = r.wide;
    deep = r.deep;
    side_is = r.side_is;
    sides = r.sides;
    each_reader = r.each_reader;
    each_seat = seats_stay (Knows r.plan r.n r.writer r.stage r.owner) s.views me (doing role d.client) known (λ j e _. r.each_seat j e);
    kept = same_clients s r me d role at;
  }

  pub starts : (n : ℕ) (words : List ℕ) (slots : ℕ) (u : Part T) (v : V) → length words ≡ 16 * n + 16 → slots ≡ 8 * n → get_or words 0 0 ≡ 2 → ((i : ℕ) → 0 < i → i < length words → get_or words i 0 ≡ 0)
      → holds u.value (v ∷ []) → Rule (opening words (replicate slots None) (starting u v))
  starts n words slots u v wide deep side blank h = record {
    n = n;
    plan = first_plan u;
    writer = 0;
    stage = λ _. 0;
    owner = λ _. 0;
    wide = wide;
    deep = length-map (replicate slots None) (λ (x : Option (Part T)). some x) ∙ (length-replicate slots None ∙ deep);
    side_is = side;
    sides = (omega arith, (λ e. omega arith), omega arith, λ _. (refl, refl));
    each_reader = λ j l. record {
      free = λ _. blank (16 * j + 17) (omega arith) (omega arith);
      taken = λ z. absurd (omega arith);
      outside = λ _. ap (λ (e : ℕ). e % 2) (blank (16 * j + 16) (omega arith) (omega arith));
      inside = λ z. absurd (omega arith);
      side = λ z. absurd (omega arith);
      shown = λ z. absurd (omega arith);
      late = λ z. absurd (omega arith);
      old = λ _ _ z. absurd (omega arith);
      new = λ _ z. absurd (omega arith);
      empty = λ _ _ _. all_vacant slots (8 * j + 0) None (omega arith);
      unused = λ _. all_vacant slots (8 * j + 1) None (omega arith);
    };
    each_seat = λ j d e. ⊎_elim (λ (t : (j ≡ 0) × (starting u v ≡ d)). subst (λ (z : D). Knows (first_plan u) n 0 (λ _. 0) (λ _. 0) j z.role) t.1 (refl, t.0))
        (λ (t : (j ≢ 0) × (get_elem? (starting u v ∷ []) j ≡ some d)). absurd (beyond j d t.0 t.1)) (at_set (starting u v ∷ []) 0 j (starting u v) d e);
    kept = h;
  }
    where
      beyond : (j : ℕ) (d : D) → j ≢ 0 → get_elem? (starting u v ∷ []) j ≡ some d → ⊥
      beyond Rattle.std.proofs.Common.zero d other e = other refl
      beyond (Rattle.std.proofs.Common.suc j) d other e = some-ne-none d (sym e)

  pub sits : (slots : ℕ) (v : V) → Admits holds v → Enters Rule slots 0 (λ _ w. w ≡ doing Idle v)
  sits slots v admits s r _ _ = (
    doing Idle v,
    record {
      n = r.n;
      plan = r.plan;
      writer = r.writer;
      stage = r.stage;
      owner = r.owner;
      wide = r.wide;
      deep = r.deep;
      side_is = r.side_is;
      sides = r.sides;
      each_reader = r.each_reader;
      each_seat = λ j d e. ⊎_elim (r.each_seat j d) (λ (t : doing Idle v ≡ d). subst (λ (z : D). Knows r.plan r.n r.writer r.stage r.owner j z.role) t tt) (at_snoc s.views (doing Idle v) d j e);
      kept = subst (holds r.plan.shown.value) (sym (map-append client s.views (doing Idle v ∷ []))) (admits _ _ r.kept);
    },
    refl,
  )

  pub splits : (id : ℕ) (d : D) (kept given : V) → Forks holds id d.client kept given → Splits Rule id d (doing d.role kept) (doing Idle given)
  splits id d kept given asked s r at = let w : D = doing d.role kept in let o : D = doing Idle given in let K = Knows r.plan r.n r.writer r.stage r.owner in record {
    n = r.n;
    plan = r.plan;
    writer = r.writer;
    stage = r.stage;
    owner = r.owner;
    wide = r.wide;
    deep = r.deep;
    side_is = r.side_is;
    sides = r.sides;
    each_reader = r.each_reader;
    each_seat = λ j e p. ⊎_elim (seats_stay K s.views id w (r.each_seat id d at) (λ i x _. r.each_seat i x) j e) (λ (t : o ≡ e). subst (λ (z : D). K j z.role) t tt) (at_snoc (set s.views id w) o e j p);
    kept = subst (holds r.plan.shown.value) (sym (map-append client (set s.views id w) (o ∷ []) ∙ ap (λ l. l ++ given ∷ []) (map-set client s.views id w)))
        (asked r.plan.shown.value (map client s.views) r.kept (at_map client s.views id d at));
  }

  pub joins : (id : ℕ) (d : D) (other : ℕ) (e : D) (both spent : V) → Merges holds id d.client other e.client both spent → Joins Rule id d other e (doing d.role both) (doing Idle spent)
  joins id d other e both spent asked s r at apart there = let w : D = doing d.role both in let o : D = doing Idle spent in let K = Knows r.plan r.n r.writer r.stage r.owner in let vs : List D = set s.views id w in
      let same = map-set client s.views id w in record {
        n = r.n;
        plan = r.plan;
        writer = r.writer;
        stage = r.stage;
        owner = r.owner;
        wide = r.wide;
        deep = r.deep;
        side_is = r.side_is;
        sides = r.sides;
        each_reader = r.each_reader;
        each_seat = seats_stay K vs other o tt (λ j x _. seats_stay K s.views id w (r.each_seat id d at) (λ i y _. r.each_seat i y) j x);
        kept = subst (holds r.plan.shown.value) (sym (map-set client vs other o ∙ ap (λ l. set l other spent) same))
            (asked r.plan.shown.value (map client s.views) r.kept (at_map client s.views id d at) apart (subst (λ l. get_elem? l other ≡ some e.client) same (at_map client vs other e there)));
      }

  pub claims : (slots id : ℕ) (me : M) (q : ℕ) → 8 * q < slots → Allows Rule slots id me (16 * q + 17) (λ x. either (eqb x 0) 1 x) (claimed (step slots (16 * q + 17) 0 1 none) me)
  claims slots id me q near s r deep at _ = let i : ℕ = 16 * q + 17 in let x : ℕ = get_or s.words i 0 in let d = r.deep in let wide = r.wide in let inside : q < r.n = omega arith in let ok = r.each_reader q inside in
      dite (ℕ_discrete x 0) (λ hit. let w : D = doing (Out q) me.0.client in let was : r.stage q ≡ 0 = dite (ℕ_discrete (r.stage q) 0) (λ z. z) (λ z. let t = ok.taken (omega arith) in absurd (omega arith)) in
      let epoch = get_or-set_other s.words i (16 * q + 16) 1 0 (λ e. omega arith) in (
        w,
        keeps,
        tt,
        subst (λ b. Rule (stepped s i (either b 1 x) id me.1 w keeps)) (sym (eq-eqb x 0 hit))
            (reader_step s r q 1 i 1 id s.homes w inside (λ z. absurd (omega arith)) (get_or-set_other s.words i 0 1 0 (λ e. omega arith)) (λ j other. ((λ e. other (omega arith)), λ e. other (omega arith))) refl (λ _ _ _ _. refl)
            record {
              free = λ z. absurd (omega arith);
              taken = λ _. get_or-set_same s.words i 1 0 (omega arith);
              outside = λ _. ap (λ (e : ℕ). e % 2) epoch ∙ ok.outside (omega arith);
              inside = λ z. absurd (omega arith);
              side = λ z. absurd (omega arith);
              shown = λ a _. ok.shown a (λ e. omega arith);
              late = λ z. absurd (omega arith);
              old = λ a _. ok.old a (λ e. omega arith);
              new = ok.new;
              empty = ok.empty;
              unused = ok.unused;
            }
            (inside, put_here r.stage q 1, put_here r.owner q id) (same_clients s r id me.0 (Out q) at)),
        (refl, refl, (λ _ j e. let same : q ≡ j = omega arith in ap (λ (z : ℕ). let x : Role T = Out z in x) same), λ not. absurd (not hit)),
      ))
      (λ miss. (
        doing Idle me.0.client,
        keeps,
        tt,
        subst (λ b. Rule (stepped s i (either b 1 x) id me.1 (doing Idle me.0.client) keeps)) (sym (ne_eqb x 0 miss)) (unmoved s r i id me.0 Idle at tt),
        (refl, refl, (λ hit. absurd (miss hit)), λ _. refl),
      ))

  pub frees : (slots id : ℕ) (me : M) (q : ℕ) → me.0.role ≡ Out q → Allows Rule slots id me (16 * q + 17) (λ _. 0) (λ _ _. Unit {0})
  frees slots id me q is s r _ at _ = let i : ℕ = 16 * q + 17 in let k = knows s r id me.0 (Out q) at is in let inside = k.0 in let was = k.1 in let wide = r.wide in let ok = r.each_reader q inside in
      let epoch = get_or-set_other s.words i (16 * q + 16) 0 0 (λ e. omega arith) in (
        doing Idle me.0.client,
        keeps,
        tt,
        reader_step s r q 0 i 0 id s.homes (doing Idle me.0.client) inside (λ _. k.2) (get_or-set_other s.words i 0 0 0 (λ e. omega arith)) (λ j other. ((λ e. other (omega arith)), λ e. other (omega arith))) refl (λ _ _ _ _. refl)
            record {
              free = λ _. get_or-set_same s.words i 0 0 (omega arith);
              taken = λ z. absurd (omega arith);
              outside = λ _. ap (λ (e : ℕ). e % 2) epoch ∙ ok.outside (omega arith);
              inside = λ z. absurd (omega arith);
              side = λ z. absurd (omega arith);
              shown = λ a _. ok.shown a (λ e. omega arith);
              late = λ z. absurd (omega arith);
              old = λ a _. ok.old a (λ e. omega arith);
              new = ok.new;
              empty = ok.empty;
              unused = ok.unused;
            }
            tt (same_clients s r id me.0 Idle at),
        tt,
      )

  -- the epoch goes up by 1, between the stages 1 and 2
  ticks : (s : St) (r : Rule s) (id q t : ℕ) (d : D) (role : Role T) → get_elem? s.views id ≡ some d → q < r.n → r.owner q ≡ id → r.stage q + t ≡ 3 → 0 < t → t < 3 → get_or s.words (16 * q + 16) 0 < 2 ^ 64
      → Knows r.plan r.n r.writer (put r.stage q t) (put r.owner q id) id role
      → Rule record { words = set s.words (16 * q + 16) ((get_or s.words (16 * q + 16) 0 + 1) % 2 ^ 64); homes = s.homes; views = set s.views id (doing role d.client) }
  ticks s r id q t d role at inside mine sum low high fits known = let i : ℕ = 16 * q + 16 in let x : ℕ = get_or s.words i 0 in let y : ℕ = (x + 1) % 18446744073709551616 in let wide = r.wide in let ok = r.each_reader q inside in
      let mark = get_or-set_other s.words i (16 * q + 17) y 0 (λ e. omega arith) in let now = get_or-set_same s.words i y 0 (omega arith) in
      reader_step s r q t i y id s.homes (doing role d.client) inside (λ _. mine) (get_or-set_other s.words i 0 y 0 (λ e. omega arith)) (λ j other. ((λ e. other (omega arith)), λ e. omega arith)) refl (λ _ _ _ _. refl)
      record {
        free = λ z. absurd (omega arith);
        taken = λ _. mark ∙ ok.taken (omega arith);
        outside = λ z. let a = ok.inside (omega arith) in ap (λ (e : ℕ). e % 2) now ∙ (let g : y % 2 ≡ 0 = omega arith in g);
        inside = λ z. let a = ok.outside (omega arith) in ap (λ (e : ℕ). e % 2) now ∙ (let g : y % 2 ≡ 1 = omega arith in g);
        side = λ z. absurd (omega arith);
        shown = λ a _. ok.shown a (λ e. omega arith);
        late = λ z. absurd (omega arith);
        old = λ a _. ok.old a (λ e. omega arith);
        new = ok.new;
        empty = ok.empty;
        unused = ok.unused;
      }
      known (same_clients s r id d role at)

  pub enters : (slots id : ℕ) (me : M) (q : ℕ) → me.0.role ≡ Out q → Allows Rule slots id me (16 * q + 16) (λ x. (x + 1) % 2 ^ 64) (entered (step slots (16 * q + 16) 1 0 none) me)
  enters slots id me q is s r _ at fits = let k = knows s r id me.0 (Out q) at is in let was = k.1 in (
    doing (In q) me.0.client,
    keeps,
    tt,
    ticks s r id q 2 me.0 (In q) at k.0 k.2 (omega arith) (omega arith) (omega arith) fits (k.0, put_here r.stage q 2, put_here r.owner q id),
    (refl, refl, λ j is'. ap (λ (z : Role T). let x : Role T = In (reader_or 0 z) in x) (sym is ∙ is')),
  )

  pub backs_out : (slots id : ℕ) (me : M) (q : ℕ) → me.0.role ≡ In q → Allows Rule slots id me (16 * q + 16) (λ x. (x + 1) % 2 ^ 64) (backed_out (step slots (16 * q + 16) 1 0 none) me)
  backs_out slots id me q is s r _ at fits = let k = knows s r id me.0 (In q) at is in let was = k.1 in (
    doing (Out q) me.0.client,
    keeps,
    tt,
    ticks s r id q 1 me.0 (Out q) at k.0 k.2 (omega arith) (omega arith) (omega arith) fits (k.0, put_here r.stage q 1, put_here r.owner q id),
    (refl, refl, λ j is'. ap (λ (z : Role T). let x : Role T = Out (reader_or 0 z) in x) (sym is ∙ is')),
  )

  pub leaves : (slots id : ℕ) (me : M) (q k : ℕ) (u : Part T) → me.0.role ≡ Holds q k u → me.1 ≡ (8 * q + k, Some u) ∷ []
      → Allows Rule slots id me (16 * q + 16) (λ x. (x + 1) % 2 ^ 64) (left (step slots (16 * q + 16) 1 0 none) me)
  leaves slots id me q k u is carried s r _ at fits = let known = knows s r id me.0 (Holds q k u) at is in let inside = known.0 in let was = known.1 in let ok = r.each_reader q inside in let p : Plan T = r.plan in
      let i : ℕ = 16 * q + 16 in let x : ℕ = get_or s.words i 0 in let y : ℕ = (x + 1) % 18446744073709551616 in let wide = r.wide in let deep = r.deep in let sides = r.sides in let a₀ = sides.0 in let a₁ = sides.1 in
      let small : k < 2 = dite (ℕ_discrete k p.off) (λ e. omega arith) (λ e. let t = ok.side (omega arith) (λ z. e (omega arith)) in let t₀ = t.0 in let t₁ = t.1 in omega arith) in
      let homes' : Homes = set s.homes (8 * q + k) (some (Some u)) in let back = set_here s.homes (8 * q + k) (some (Some u)) (omega arith) in let odd = ok.inside (omega arith) in
      let mark = get_or-set_other s.words i (16 * q + 17) y 0 (λ e. omega arith) in let now = get_or-set_same s.words i y 0 (omega arith) in
      let beside : (c : ℕ) → c ≢ k → get_elem? homes' (8 * q + c) ≡ get_elem? s.homes (8 * q + c) = λ c other. set_else s.homes (8 * q + k) (8 * q + c) (some (Some u)) (λ e. other (omega arith)) in
      let put_back : (c : ℕ) (z : Part T) → c ≡ k → u ≡ z → get_elem? homes' (8 * q + c) ≡ some (some (Some z)) = λ c z e f. ap (λ (b : ℕ). get_elem? homes' (8 * q + b)) e ∙ (back ∙ ap (λ (b : Part T). some (some (Some b))) f) in
      let w : D = doing (Out q) me.0.client in (
        w,
        gives,
        tt,
        subst (λ (cs : List (ℕ × Option (Part T))). Rule (stepped s i y id cs w gives)) (sym carried)
            (reader_step s r q 1 i y id homes' w inside (λ _. known.2) (get_or-set_other s.words i 0 y 0 (λ e. omega arith)) (λ j other. ((λ e. other (omega arith)), λ e. omega arith))
            (length-set s.homes (8 * q + k) (some (Some u))) (λ j c other l. set_else s.homes (8 * q + k) (8 * j + c) (some (Some u)) (λ e. other (omega arith)))
            record {
              free = λ z. absurd (omega arith);
              taken = λ _. mark ∙ ok.taken (omega arith);
              outside = λ _. ap (λ (e : ℕ). e % 2) now ∙ (let g : y % 2 ≡ 0 = omega arith in g);
              inside = λ z. absurd (omega arith);
              side = λ z. absurd (omega arith);
              shown = λ a _. dite (ℕ_discrete p.side k) (λ e. put_back p.side p.shown e (known.4 (λ f. a₁ (e ∙ f)))) (λ e. beside p.side e ∙ ok.shown a (λ f. e (omega arith)));
              late = λ z. absurd (omega arith);
              old = λ a _ l. dite (ℕ_discrete p.off k) (λ e. put_back p.off p.spare e (known.3 (sym e))) (λ e. beside p.off e ∙ ok.old a (λ f. e (omega arith)) l);
              new = λ a l. dite (ℕ_discrete p.off k) (λ e. put_back p.off p.spare e (known.3 (sym e))) (λ e. beside p.off e ∙ ok.new a l);
              empty = λ a b c. beside p.off (λ e. let t = (ok.late (omega arith)).0 in omega arith) ∙ ok.empty a b c;
              unused = λ a. let t = sides.3 a in let t₀ = t.0 in let t₁ = t.1 in beside 1 (λ e. let g = (ok.side (omega arith) (λ z. omega arith)).1 in omega arith) ∙ ok.unused a;
            }
            (inside, put_here r.stage q 1, put_here r.owner q id) (same_clients s r id me.0 (Out q) at)),
        (refl, ap Rattle.atomic_table.specs.Table.rest carried, λ j c z is'. ap (λ (b : Role T). let x : Role T = Out (reader_or 0 b) in x) (sym is ∙ is')),
      )

  pub looks : (then : V → T → T → V → Type 0) (slots id : ℕ) (me : M) (q : ℕ) → me.0.role ≡ In q → Turns holds id me.0.client (λ x. x) then
      → Allows Rule slots id me 0 (λ x. x) (looked then (step slots 0 0 0 none) me)
  looks then slots id me q is asked s r _ at _ = let known = knows s r id me.0 (In q) at is in let inside = known.0 in let was = known.1 in let ok = r.each_reader q inside in let p : Plan T = r.plan in
      let k : ℕ = get_or s.words 0 0 in let side = r.side_is in let sides = r.sides in let a₁ = sides.1 in let deep = r.deep in let wide = r.wide in dite (dec_le 2 k)
      (λ closed_now. (me.0, keeps, tt, unmoved s r 0 id me.0 me.0.role at (r.each_seat id me.0 at), λ j _. ((λ l. absurd (omega arith)), λ _. refl)))
      (λ open_now. let u : Part T = p.shown in let t = asked u.value (map client s.views) r.kept (at_map client s.views id me.0 at) in let w : D = doing (Holds q k u) t.0 in
      let homes' : Homes = set s.homes (8 * q + k) none in let same = λ (i : ℕ). ap (λ (ws : List ℕ). get_or ws i 0) (set-get_or s.words 0 0) in
      let beside : (c : ℕ) → c ≢ k → get_elem? homes' (8 * q + c) ≡ get_elem? s.homes (8 * q + c) = λ c other. set_else s.homes (8 * q + k) (8 * q + c) none (λ e. other (omega arith)) in
      let off_apart : p.off ≢ k = λ e. a₁ (omega arith) in (
        w,
        takes (8 * q + k) (Some u),
        ap (λ (b : ℕ). get_elem? s.homes (8 * q + b)) side ∙ ok.shown (omega arith) (λ e. omega arith),
        reader_step s r q (k + 3) 0 k id homes' w inside (λ _. known.2) (same 0) (λ j other. ((λ e. omega arith), λ e. omega arith))
            (length-set s.homes (8 * q + k) none) (λ j c other l. set_else s.homes (8 * q + k) (8 * j + c) none (λ e. other (omega arith)))
            record {
              free = λ z. absurd (omega arith);
              taken = λ _. same (16 * q + 17) ∙ ok.taken (omega arith);
              outside = λ z. absurd (omega arith);
              inside = λ _. ap (λ (e : ℕ). e % 2) (same (16 * q + 16)) ∙ ok.inside (omega arith);
              side = λ _ _. (omega arith, omega arith);
              shown = λ _ z. absurd (z (omega arith));
              late = λ z. absurd (off_apart (omega arith));
              old = λ a _ l. beside p.off off_apart ∙ ok.old a (λ e. omega arith) l;
              new = λ a l. beside p.off off_apart ∙ ok.new a l;
              empty = λ a b c. beside p.off off_apart ∙ ok.empty a b c;
              unused = λ a. let g = (sides.3 a).0 in absurd (omega arith);
            }
            (inside, put_here r.stage q (k + 3), put_here r.owner q id, (λ e. absurd (off_apart (sym e))), λ _. refl) (subst (holds u.value) (sym (map-set client s.views id w)) t.1),
        λ j is'. let e : q ≡ j = ap (reader_or 0) (sym is ∙ is') in
            ((λ _. (u, ap (λ (b : ℕ). Holds b k u) e, ap (λ (b : ℕ). (8 * b + k, Some u) ∷ me.1) e, t.2)), λ l. absurd (open_now l)),
      ))

  abbrev carried_or : Part T → List (ℕ × Option (Part T)) → Part T
  carried_or d [] = d
  carried_or d (x ∷ xs) = Rattle.std.proofs.Common.unwrap_or x.1 d

  pub records : (slots id : ℕ) (me : M) (p₀ : Plan T) (q : ℕ) → me.0.role ≡ Writer p₀ → me.1 ≡ [] → q ≡ length p₀.last
      → Allows Rule slots id me (16 * q + 16) (λ x. x) (recorded (step slots (16 * q + 16) 0 0 none) me)
  records slots id me p₀ q is₀ bare h₀ s r deep at _ = let known = knows s r id me.0 (Writer p₀) at is₀ in let p : Plan T = r.plan in let is : me.0.role ≡ Writer p = is₀ ∙ ap (λ (z : Plan T). Writer z) known.0 in
      let h = subst (λ (z : Plan T). q ≡ length z.last) known.0 h₀ in let deep' = r.deep in let wide = r.wide in let sides = r.sides in let small = sides.0 in let apart : (p.side ≢ p.off) × (p.fresh ≡ 1 → p.off ≡ 0) = (sides.1, λ (f : p.fresh ≡ 1). (sides.3 f).1) in
      let e : ℕ = get_or s.words (16 * q + 16) 0 in let last : List ℕ = p.last ++ e ∷ [] in let p' : Plan T = record p { last = last } in let w : D = doing (Writer p') me.0.client in (
        w,
        keeps,
        tt,
        writer_load s r (16 * q + 16) id p.left p.filled p.hand last p.spare s.homes me.0 at known.1 refl
            (λ j l. let ok = r.each_reader j l in replans p p.left p.filled p.hand last p.spare s.words s.homes s.homes j (r.stage j) apart (λ _ _ _. refl)
            (λ z. let t = ok.late z in (
              t.0,
              t.1,
              λ a. let long = length-append p.last (e ∷ []) in dite (ℕ_discrete j q)
                  (λ here. ap (λ (b : ℕ). get_or s.words (16 * b + 16) 0) here ∙ sym (get_or_at p.last e [] 0 j (sym h ∙ sym here)))
                  (λ other. let before : j < length p.last = omega arith in t.2 before ∙ sym (get_or-append p.last (e ∷ []) 0 j before)),
            )) ok.old ok.new ok.empty ok) (λ _ _ _. refl),
        (refl, bare, plans me (w, me.1) p p' (λ a b. b ≡ record a { last = a.last ++ e ∷ [] }) is refl refl),
      )

  pub gathers : (slots id : ℕ) (me : M) (p₀ : Plan T) (q : ℕ) → me.0.role ≡ Writer p₀ → me.1 ≡ [] → 8 * q < slots → (q + 1 ≡ p₀.left) × (p₀.hand ≡ 0) × (q < length p₀.last)
      → Allows Rule slots id me (16 * q + 16) (λ x. x) (gathered (step slots (16 * q + 16) 0 0 none) me)
  gathers slots id me p₀ q is₀ bare near h₀ s r deep at _ = let known = knows s r id me.0 (Writer p₀) at is₀ in let p : Plan T = r.plan in let is : me.0.role ≡ Writer p = is₀ ∙ ap (λ (z : Plan T). Writer z) known.0 in
      let h = subst (λ (z : Plan T). (q + 1 ≡ z.left) × (z.hand ≡ 0) × (q < length z.last)) known.0 h₀ in let deep' = r.deep in let wide = r.wide in let sides = r.sides in let small = sides.0 in let apart : (p.side ≢ p.off) × (p.fresh ≡ 1 → p.off ≡ 0) = (sides.1, λ (f : p.fresh ≡ 1). (sides.3 f).1) in
      let h₁ = h.0 in let h₂ = h.1 in let inside : q < r.n = omega arith in let here = r.each_reader q inside in let e : ℕ = get_or s.words (16 * q + 16) 0 in let back : q ≡ p.left - 1 = omega arith in
      let seen : ℕ = get_or p.last (p.left - 1) 0 in let seen_is : get_or p.last q 0 ≡ seen = ap (λ (b : ℕ). get_or p.last b 0) back in
      let Next : M → Plan T → Plan T → Type 0 = λ m a b. (Gone a e → (b ≡ record a { hand = a.left }) × (m.1 ≡ (8 * (a.left - 1) + a.off, Some a.spare) ∷ [])) × (¬ Gone a e → m ≡ me) in
      let take = λ (gone : Gone p e). let away : r.stage q ≢ p.off + 3 = λ z. let t = (here.late z).2 h.2 ∙ seen_is in let odd = here.inside (omega arith) in ⊎_elim (λ (g : e ≢ seen). g t) (λ (g : seen % 2 ≡ 0). omega arith) gone in
      let p' : Plan T = record p { hand = p.left } in let w : D = doing (Writer p') me.0.client in let i : ℕ = 8 * q + p.off in let homes' : Homes = set s.homes i none in
      let other_slot : (j : ℕ) → j + 1 ≢ p.left → get_elem? homes' (8 * j + p.off) ≡ get_elem? s.homes (8 * j + p.off) = λ j a. set_else s.homes i (8 * j + p.off) none (λ b. a (omega arith)) in
      let out : (w' : D) × (a : Act (Option (Part T))) × Rattle.atomic_table.specs.Table.Valid s.homes me.1 a × Rule (stepped s (16 * q + 16) e id me.1 w' a)
      × gathered (step slots (16 * q + 16) 0 0 none) me e (w', Rattle.atomic_table.specs.Table.carried_after me.1 a) = (
        w,
        takes i (Some p.spare),
        here.old (λ b. omega arith) away (omega arith),
        writer_load s r (16 * q + 16) id p.left p.filled p.left p.last p.spare homes' me.0 at known.1 (length-set s.homes i none)
            (λ j l. let ok = r.each_reader j l in replans p p.left p.filled p.left p.last p.spare s.words s.homes homes' j (r.stage j) apart (λ k a b. set_else s.homes i (8 * j + k) none (λ c. b (omega arith)))
            (λ z. let t = ok.late z in (t.0, (λ b. let is_q : q ≡ j = omega arith in away (ap r.stage is_q ∙ z)), t.2))
            (λ a b c. other_slot j a ∙ ok.old (λ d. omega arith) b c) (λ a b. other_slot j a ∙ ok.new (λ d. omega arith) b) (λ a b c. other_slot j a ∙ ok.empty (λ d. omega arith) b c) ok) (λ _ _ _. refl),
        (refl, plans me (w, (i, Some p.spare) ∷ me.1) p p' (Next (w, (i, Some p.spare) ∷ me.1)) is refl ((λ _. (refl, λ c. (8 * back c + p.off, Some p.spare) ∷ bare c)), λ not. absurd (not gone))),
      ) in out in
      dite (ℕ_discrete e seen) (λ still. dite (ℕ_discrete (seen % 2) 0) (λ even. take (inr even))
      (λ odd. (
        me.0,
        keeps,
        tt,
        unmoved s r (16 * q + 16) id me.0 me.0.role at (r.each_seat id me.0 at),
        (refl, plans me me p p (Next me) is is ((λ gone. absurd (⊎_elim (λ (g : e ≢ seen). g still) odd gone)), λ _. refl)),
      ))) (λ moved. take (inl moved))

  pub empties : (slots id : ℕ) (me : M) (p₀ : Plan T) (q : ℕ) → me.0.role ≡ Writer p₀ → 8 * q < slots → (q + 1 ≡ p₀.left) × (p₀.hand ≡ p₀.left) × (p₀.filled ≡ 0) × (me.1 ≡ (8 * q + p₀.off, None) ∷ [])
      → Allows Rule slots id me 0 (λ x. x) (emptied (step slots 0 0 0 none) me)
  empties slots id me p₀ q is₀ near h₀ s r deep at _ = let known = knows s r id me.0 (Writer p₀) at is₀ in let p : Plan T = r.plan in let is : me.0.role ≡ Writer p = is₀ ∙ ap (λ (z : Plan T). Writer z) known.0 in
      let h = subst (λ (z : Plan T). (q + 1 ≡ z.left) × (z.hand ≡ z.left) × (z.filled ≡ 0) × (me.1 ≡ (8 * q + z.off, None) ∷ [])) known.0 h₀ in let deep' = r.deep in let wide = r.wide in let sides = r.sides in let small = sides.0 in let apart : (p.side ≢ p.off) × (p.fresh ≡ 1 → p.off ≡ 0) = (sides.1, λ (f : p.fresh ≡ 1). (sides.3 f).1) in
      let h₁ = h.0 in let h₂ = h.1 in let h₃ = h.2 in let p' : Plan T = record p { left = p.left - 1; hand = 0 } in let w : D = doing (Writer p') me.0.client in let i : ℕ = 8 * q + p.off in
      let homes' : Homes = set s.homes i (some None) in
      let other_slot : (j : ℕ) → j ≢ q → get_elem? homes' (8 * j + p.off) ≡ get_elem? s.homes (8 * j + p.off) = λ j a. set_else s.homes i (8 * j + p.off) (some None) (λ b. a (omega arith)) in (
        w,
        gives,
        tt,
        subst (λ (cs : List (ℕ × Option (Part T))). Rule (stepped s 0 (get_or s.words 0 0) id cs w gives)) (sym h.3)
            (writer_load s r 0 id (p.left - 1) p.filled 0 p.last p.spare homes' me.0 at known.1 (length-set s.homes i (some None))
            (λ j l. let ok = r.each_reader j l in replans p (p.left - 1) p.filled 0 p.last p.spare s.words s.homes homes' j (r.stage j) apart (λ k a b. set_else s.homes i (8 * j + k) (some None) (λ c. b (omega arith)))
            (λ z. let t = ok.late z in let t₀ = t.0 in let t₁ = t.1 in (omega arith, (λ b. omega arith), t.2))
            (λ _ b c. other_slot j (λ d. omega arith) ∙ ok.old (λ d. omega arith) b (omega arith)) (λ _ b. absurd (omega arith))
            (λ _ b c. dite (ℕ_discrete j q) (λ d. ap (λ (z : ℕ). get_elem? homes' (8 * z + p.off)) d ∙ set_here s.homes i (some None) (omega arith))
            (λ d. other_slot j d ∙ ok.empty (λ f. d (omega arith)) b (omega arith))) ok) (λ _ _ _. refl)),
        (refl, ap Rattle.atomic_table.specs.Table.rest h.3, plans me (w, Rattle.atomic_table.specs.Table.rest me.1) p p' (λ a b. b ≡ record a { left = a.left - 1; hand = 0 }) is refl refl),
      )

  pub reaches : (slots id : ℕ) (me : M) (p₀ : Plan T) → me.0.role ≡ Writer p₀ → me.1 ≡ [] → (p₀.left ≡ 0) × (p₀.hand ≡ 0) × (8 * p₀.filled < slots)
      → Allows Rule slots id me 0 (λ x. x) (reached (step slots 0 0 0 none) me)
  reaches slots id me p₀ is₀ bare h₀ s r deep at _ = let known = knows s r id me.0 (Writer p₀) at is₀ in let p : Plan T = r.plan in let is : me.0.role ≡ Writer p = is₀ ∙ ap (λ (z : Plan T). Writer z) known.0 in
      let h = subst (λ (z : Plan T). (z.left ≡ 0) × (z.hand ≡ 0) × (8 * z.filled < slots)) known.0 h₀ in let deep' = r.deep in let wide = r.wide in let sides = r.sides in let small = sides.0 in let apart : (p.side ≢ p.off) × (p.fresh ≡ 1 → p.off ≡ 0) = (sides.1, λ (f : p.fresh ≡ 1). (sides.3 f).1) in
      let h₁ = h.0 in let h₂ = h.1 in let h₃ = h.2 in let q : ℕ = p.filled in let p' : Plan T = record p { hand = q + 1 } in let w : D = doing (Writer p') me.0.client in let i : ℕ = 8 * q + p.off in
      let homes' : Homes = set s.homes i none in let carried : List (ℕ × Option (Part T)) = (i, None) ∷ me.1 in
      let other_slot : (j : ℕ) → j ≢ q → get_elem? homes' (8 * j + p.off) ≡ get_elem? s.homes (8 * j + p.off) = λ j a. set_else s.homes i (8 * j + p.off) none (λ b. a (omega arith)) in (
        w,
        takes i None,
        (r.each_reader q (omega arith)).empty (λ b. omega arith) (omega arith) (omega arith),
        writer_load s r 0 id p.left q (q + 1) p.last p.spare homes' me.0 at known.1 (length-set s.homes i none)
            (λ j l. let ok = r.each_reader j l in replans p p.left q (q + 1) p.last p.spare s.words s.homes homes' j (r.stage j) apart (λ k a b. set_else s.homes i (8 * j + k) none (λ c. b (omega arith)))
            (λ z. let t = (ok.late z).0 in absurd (omega arith)) (λ _ _ c. absurd (omega arith))
            (λ a b. other_slot j (λ d. omega arith) ∙ ok.new (λ d. omega arith) b) (λ a b c. other_slot j (λ d. a (omega arith)) ∙ ok.empty (λ d. omega arith) b c) ok) (λ _ _ _. refl),
        (refl, plans me (w, carried) p p' (λ a b. (b ≡ record a { hand = a.filled + 1 }) × (carried ≡ (8 * a.filled + a.off, None) ∷ [])) is refl (refl, ap (λ cs. (i, None) ∷ cs) bare)),
      )

  pub fills : (slots id : ℕ) (me : M) (p₀ : Plan T) (u : Part T) → me.0.role ≡ Writer p₀
      → (p₀.left ≡ 0) × (p₀.hand ≡ p₀.filled + 1) × (8 * p₀.filled < slots) × (0 < p₀.filled → u ≡ p₀.spare) × (me.1 ≡ (8 * p₀.filled + p₀.off, Some u) ∷ [])
      → Allows Rule slots id me 0 (λ x. x) (filled (step slots 0 0 0 none) me)
  fills slots id me p₀ u is₀ h₀ s r deep at _ = let known = knows s r id me.0 (Writer p₀) at is₀ in let p : Plan T = r.plan in let is : me.0.role ≡ Writer p = is₀ ∙ ap (λ (z : Plan T). Writer z) known.0 in
      let h = subst (λ (z : Plan T). (z.left ≡ 0) × (z.hand ≡ z.filled + 1) × (8 * z.filled < slots) × (0 < z.filled → u ≡ z.spare) × (me.1 ≡ (8 * z.filled + z.off, Some u) ∷ [])) known.0 h₀ in let deep' = r.deep in let wide = r.wide in let sides = r.sides in let small = sides.0 in let apart : (p.side ≢ p.off) × (p.fresh ≡ 1 → p.off ≡ 0) = (sides.1, λ (f : p.fresh ≡ 1). (sides.3 f).1) in
      let h₁ = h.0 in let h₂ = h.1 in let h₃ = h.2 in let q : ℕ = p.filled in let p' : Plan T = record p { filled = q + 1; hand = 0; spare = u } in let w : D = doing (Writer p') me.0.client in let i : ℕ = 8 * q + p.off in
      let homes' : Homes = set s.homes i (some (Some u)) in
      let other_slot : (j : ℕ) → j ≢ q → get_elem? homes' (8 * j + p.off) ≡ get_elem? s.homes (8 * j + p.off) = λ j a. set_else s.homes i (8 * j + p.off) (some (Some u)) (λ b. a (omega arith)) in (
        w,
        gives,
        tt,
        subst (λ (cs : List (ℕ × Option (Part T))). Rule (stepped s 0 (get_or s.words 0 0) id cs w gives)) (sym h.4)
            (writer_load s r 0 id p.left (q + 1) 0 p.last u homes' me.0 at known.1 (length-set s.homes i (some (Some u)))
            (λ j l. let ok = r.each_reader j l in replans p p.left (q + 1) 0 p.last u s.words s.homes homes' j (r.stage j) apart (λ k a b. set_else s.homes i (8 * j + k) (some (Some u)) (λ c. b (omega arith)))
            (λ z. let t = (ok.late z).0 in absurd (omega arith)) (λ _ _ c. absurd (omega arith))
            (λ _ b. dite (ℕ_discrete j q) (λ d. ap (λ (z : ℕ). get_elem? homes' (8 * z + p.off)) d ∙ set_here s.homes i (some (Some u)) (omega arith))
            (λ d. other_slot j d ∙ (ok.new (λ f. d (omega arith)) (omega arith) ∙ ap (λ (z : Part T). some (some (Some z))) (sym (h.3 (omega arith))))))
            (λ _ b c. other_slot j (λ d. omega arith) ∙ ok.empty (λ d. omega arith) (omega arith) c) ok) (λ j l z. let t = ((r.each_reader j l).late z).0 in absurd (omega arith))),
        (
          refl,
          ap Rattle.atomic_table.specs.Table.rest h.4,
          plans me (w, Rattle.atomic_table.specs.Table.rest me.1) p p'
              (λ a b. (c : ℕ) (z : Part T) → me.1 ≡ (c, Some z) ∷ [] → b ≡ record a { filled = a.filled + 1; hand = 0; spare = z }) is refl
              (λ c z f. ap (λ (g : Part T). let x : Plan T = record p { filled = q + 1; hand = 0; spare = g } in x) (ap (carried_or u) (sym h.4 ∙ f))),
        ),
      )

  pub turns : (then : V → T → T → V → Type 0) (slots id : ℕ) (me : M) (p₀ : Plan T) (to : ℕ) → me.0.role ≡ Writer p₀ → me.1 ≡ []
      → (p₀.side < 2) × (p₀.left ≡ 0) × (p₀.hand ≡ 0) × (8 * p₀.filled ≡ slots) × (to ≡ p₀.off) × TurnsAt holds id me.0.client p₀.shown.value p₀.spare.value then
      → Allows Rule slots id me 0 (λ _. to) (λ _. turned then (step slots 0 to 0 none) me to)
  turns then slots id me p₀ to is₀ bare h₀ s r deep at _ = let known = knows s r id me.0 (Writer p₀) at is₀ in let p : Plan T = r.plan in let is : me.0.role ≡ Writer p = is₀ ∙ ap (λ (z : Plan T). Writer z) known.0 in
      let h = subst (λ (z : Plan T). (z.side < 2) × (z.left ≡ 0) × (z.hand ≡ 0) × (8 * z.filled ≡ slots) × (to ≡ z.off) × TurnsAt holds id me.0.client z.shown.value z.spare.value then) known.0 h₀ in let deep' = r.deep in let wide = r.wide in let sides = r.sides in let small = sides.0 in let apart : (p.side ≢ p.off) × (p.fresh ≡ 1 → p.off ≡ 0) = (sides.1, λ (f : p.fresh ≡ 1). (sides.3 f).1) in
      let h₁ = h.0 in let h₂ = h.1 in let h₃ = h.2 in let h₄ = h.3 in let t = h.5 (map client s.views) r.kept (at_map client s.views id me.0 at) in let p' : Plan T = flipped p.filled p.off p in let w : D = doing (Writer p') t.0 in
      let same = λ (i : ℕ) (z : 0 < i). get_or-set_other s.words 0 i to 0 (λ e. omega arith) in let none_late : (j : ℕ) → j < r.n → r.stage j ≢ p.off + 3 = λ j l e. let t = ((r.each_reader j l).late e).0 in omega arith in (
        w,
        keeps,
        tt,
        writer_step s r p' id (set s.words 0 to) s.homes t.0 known.1 (length-set s.words 0 to) refl (get_or-set_same s.words 0 to 0 (omega arith) ∙ h.4) (h.0, (λ e. sides.1 (sym e)), omega arith, λ z. absurd (omega arith))
            (λ j l. let ok = r.each_reader j l in record {
              free = λ z. same (16 * j + 17) (omega arith) ∙ ok.free z;
              taken = λ z. same (16 * j + 17) (omega arith) ∙ ok.taken z;
              outside = λ z. ap (λ (e : ℕ). e % 2) (same (16 * j + 16) (omega arith)) ∙ ok.outside z;
              inside = λ z. ap (λ (e : ℕ). e % 2) (same (16 * j + 16) (omega arith)) ∙ ok.inside z;
              side = λ a b. absurd (b (ok.side a (none_late j l)).0);
              shown = λ _ _. ok.new (λ z. omega arith) (omega arith);
              late = λ _. (omega arith, (λ z. omega arith), λ z. absurd (omega arith));
              old = λ _ b _. ok.shown h.0 b;
              new = λ _ z. absurd (omega arith);
              empty = λ _ _ z. absurd (omega arith);
              unused = λ z. absurd (omega arith);
            })
            (λ j k u l st a b. let other : k ≢ p.off = λ e. none_late j l (omega arith) in let on = ((r.each_reader j l).side (omega arith) (none_late j l)).0 in ((λ _. b other), λ z. absurd (z (omega arith))))
            (subst (holds p.spare.value) (sym (map-set client s.views id w)) t.1),
        (bare, plans me (w, me.1) p p' (λ a b. (b ≡ flipped a.filled a.off a) × then me.0.client a.shown.value a.spare.value t.0) is refl (refl, t.2)),
      )

  pub begins : (slots id : ℕ) (me : M) (p₀ : Plan T) → me.0.role ≡ Writer p₀ → me.1 ≡ []
      → (p₀.fresh ≡ 1) × (p₀.left ≡ 0) × (p₀.hand ≡ 0) × (8 * p₀.filled ≡ slots) × (p₀.shown.value ≡ p₀.spare.value) → Allows Rule slots id me 0 (λ _. 0) (λ _. began (step slots 0 0 0 none) me 0)
  begins slots id me p₀ is₀ bare h₀ s r deep at _ = let known = knows s r id me.0 (Writer p₀) at is₀ in let p : Plan T = r.plan in let is : me.0.role ≡ Writer p = is₀ ∙ ap (λ (z : Plan T). Writer z) known.0 in
      let h = subst (λ (z : Plan T). (z.fresh ≡ 1) × (z.left ≡ 0) × (z.hand ≡ 0) × (8 * z.filled ≡ slots) × (z.shown.value ≡ z.spare.value)) known.0 h₀ in let deep' = r.deep in let wide = r.wide in let sides = r.sides in let small = sides.0 in let apart : (p.side ≢ p.off) × (p.fresh ≡ 1 → p.off ≡ 0) = (sides.1, λ (f : p.fresh ≡ 1). (sides.3 f).1) in
      let h₂ = h.1 in let h₃ = h.2 in let h₄ = h.3 in let start = sides.3 h.0 in let s₀ = start.0 in let p' : Plan T = opened p in let w : D = doing (Writer p') me.0.client in let to : ℕ = 0 in
      let same = λ (i : ℕ) (z : 0 < i). get_or-set_other s.words 0 i to 0 (λ e. omega arith) in let none_late : (j : ℕ) → j < r.n → r.stage j ≢ p.off + 3 = λ j l e. let t = ((r.each_reader j l).late e).0 in omega arith in
      let low : (j : ℕ) → j < r.n → 3 ≤ r.stage j → ⊥ = λ j l a. let t = ((r.each_reader j l).side a (none_late j l)).1 in omega arith in (
        w,
        keeps,
        tt,
        writer_step s r p' id (set s.words 0 0) s.homes me.0.client known.1 (length-set s.words 0 0) refl (get_or-set_same s.words 0 0 0 (omega arith)) (omega arith, (λ e. omega arith), omega arith, λ z. absurd (omega arith))
            (λ j l. let ok = r.each_reader j l in record {
              free = λ z. same (16 * j + 17) (omega arith) ∙ ok.free z;
              taken = λ z. same (16 * j + 17) (omega arith) ∙ ok.taken z;
              outside = λ z. ap (λ (e : ℕ). e % 2) (same (16 * j + 16) (omega arith)) ∙ ok.outside z;
              inside = λ z. ap (λ (e : ℕ). e % 2) (same (16 * j + 16) (omega arith)) ∙ ok.inside z;
              side = λ a _. absurd (low j l a);
              shown = λ _ _. ap (λ (z : ℕ). get_elem? s.homes (8 * j + z)) (sym start.1) ∙ ok.new (λ z. omega arith) (omega arith);
              late = λ z. absurd (low j l (omega arith));
              old = λ _ _ z. absurd (omega arith);
              new = λ _ z. absurd (omega arith);
              empty = λ _ _ _. ok.unused h.0;
              unused = λ z. absurd (omega arith);
            })
            (λ j k u l st a b. absurd (low j l (omega arith))) (subst (λ (x : T). holds x (map client (set s.views id w))) h.4 (same_clients s r id me.0 (Writer p') at)),
        (refl, bare, plans me (w, me.1) p p' (λ a b. b ≡ opened a) is refl refl),
      )

  pub ends : (slots id : ℕ) (me : M) (p₀ : Plan T) → me.0.role ≡ Writer p₀ → me.1 ≡ [] → (p₀.side < 2) × (p₀.left ≡ 0)
      → Allows Rule slots id me 0 (λ _. 2) (λ _. ended (step slots 0 2 0 none) me 2)
  ends slots id me p₀ is₀ bare h₀ s r deep at _ = let known = knows s r id me.0 (Writer p₀) at is₀ in let p : Plan T = r.plan in let is : me.0.role ≡ Writer p = is₀ ∙ ap (λ (z : Plan T). Writer z) known.0 in
      let h = subst (λ (z : Plan T). (z.side < 2) × (z.left ≡ 0)) known.0 h₀ in let deep' = r.deep in let wide = r.wide in let sides = r.sides in let small = sides.0 in let apart : (p.side ≢ p.off) × (p.fresh ≡ 1 → p.off ≡ 0) = (sides.1, λ (f : p.fresh ≡ 1). (sides.3 f).1) in
      let h₁ = h.0 in let h₂ = h.1 in let p' : Plan T = closed r.n p in let w : D = doing (Writer p') me.0.client in let to : ℕ = 2 in
      let same = λ (i : ℕ) (z : 0 < i). get_or-set_other s.words 0 i to 0 (λ e. omega arith) in let none_late : (j : ℕ) → j < r.n → r.stage j ≢ p.off + 3 = λ j l e. let t = ((r.each_reader j l).late e).0 in omega arith in (
        w,
        keeps,
        tt,
        writer_step s r p' id (set s.words 0 2) s.homes me.0.client known.1 (length-set s.words 0 2) refl (get_or-set_same s.words 0 2 0 (omega arith)) (h.0, (λ e. omega arith), omega arith, λ z. absurd (omega arith))
            (λ j l. let ok = r.each_reader j l in record {
              free = λ z. same (16 * j + 17) (omega arith) ∙ ok.free z;
              taken = λ z. same (16 * j + 17) (omega arith) ∙ ok.taken z;
              outside = λ z. ap (λ (e : ℕ). e % 2) (same (16 * j + 16) (omega arith)) ∙ ok.outside z;
              inside = λ z. ap (λ (e : ℕ). e % 2) (same (16 * j + 16) (omega arith)) ∙ ok.inside z;
              side = λ a b. absurd (b (ok.side a (none_late j l)).0);
              shown = λ z. absurd (omega arith);
              late = λ _. (l, (λ z. omega arith), λ z. absurd (omega arith));
              old = λ _ b _. ok.shown h.0 b;
              new = λ _ z. absurd (omega arith);
              empty = λ _ _ z. absurd (omega arith);
              unused = λ z. absurd (omega arith);
            })
            (λ j k u l st a b. let other : k ≢ p.off = λ e. none_late j l (omega arith) in ((λ _. b other), λ _. b other)) (same_clients s r id me.0 (Writer p') at),
        (refl, bare, plans me (w, me.1) p p' (λ a b. (n : ℕ) → slots ≡ 8 * n → b ≡ closed n a) is refl (λ n e. let same_n : r.n ≡ n = omega arith in ap (λ (z : ℕ). closed z p) same_n)),
      )

pub is_posed : {T V : Type 0} (s : Seat (Option (Part T)) (Doing T V)) (role : Role T) (carried : List (ℕ × Option (Part T))) → s.me.0.role ≡ role → s.me.1 ≡ carried → s ≡ posed s role carried
is_posed s role carried a b = λ i. posed s (a i) (b i)

module _ {T V : Type 0} (s : Seat (Option (Part T)) (Doing T V)) (q : Plan T) (planned : IsPlanned s q) where
  pub plan_is : (u : Part T) → plan_of s u ≡ q
  plan_is u = ap (plan_or (first_plan u)) planned.0

  pub rests : (side left : ℕ) (shown : Part T) → q.side ≡ side → q.off ≡ 1 - side → q.left ≡ left → q.filled ≡ 0 → q.hand ≡ 0 → q.fresh ≡ 0 → q.shown ≡ unit shown
      → s ≡ posed s (Writer (resting side left shown (plan_of s shown))) []
  rests side left shown a b c d e f g =
      let same : q ≡ resting side left shown q = λ i. record { side = a i; off = b i; left = c i; filled = d i; hand = e i; fresh = f i; last = q.last; shown = g i; spare = q.spare } in
      is_posed s _ [] (planned.0 ∙ ap (λ (z : Plan T). Writer z) (same ∙ ap (resting side left shown) (sym (plan_is shown)))) planned.1
