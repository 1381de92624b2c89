-- Each step keeps the rule of the board.
use Rattle.std.proofs.Common.{◌≡◌, ◌≢◌, ◌≤◌, ◌+◌, le_refl, le_trans, arith, ℕ, zero, suc, Bool, true, false, true≢false, List, [], ◌∷◌, ◌++◌, fold, set, sym, refl, ap, ◌∙◌, subst, ◌⊎◌, inl, inr, ⊎_elim, append_assoc, append-nil, Result, Ok, Err, MatchResult}
use mathlib.Core.Option.{some, some-ne-none}
use lib.ListN.{get_elem?}
use Rattle.two_copies.specs.Register.{Admits, TurnsAt, Forks, Merges}
use Rattle.atomic_table.proofs.Lists.{at_set, at_snoc}
use Rattle.tree_watch.specs.declared.shown.Note.{Note}
use Rattle.tree_watch.specs.declared.shown.Note.TheVariants.{Opened, Did, Last}
use Rattle.tree_watch.specs.declared.shown.Stand.{Stand}
use Rattle.tree_watch.specs.declared.rule.View.{View}
use Rattle.doc_changes.specs.Changes.{weight}
use Rattle.tree_watch.specs.Notes.{noted, start, AreChanges}
use Rattle.tree_watch.specs.Rule.{Log, StartsWith, latest, Agrees, AllAgree, OneLeads, NoneLeads, MarkIsLast, Grows, Kept, newcomer, Opens, Publishes, Sees, Ends, informed, retold}

not_both : {A : Type 0} (b : Bool) → b ≡ true → b ≡ false → A
not_both b t f = absurd (true≢false (sym t ∙ f))

by_bool : {A : Type 0} (b : Bool) → (b ≡ true → A) → (b ≡ false → A) → A
by_bool true f g = f refl
by_bool false f g = g refl

-- ---- lists

abbrev is_nil : Log → Bool
is_nil [] = true
is_nil (s ∷ ss) = false

abbrev tail_of : Log → Log
tail_of [] = []
tail_of (s ∷ ss) = ss

abbrev head_or : Stand → Log → Stand
head_or d [] = d
head_or d (s ∷ ss) = s

some-not-nil : (s : Stand) (ss : Log) → s ∷ ss ≢ []
some-not-nil s ss e = true≢false (sym (ap is_nil e))

starts_self : (log : Log) → StartsWith log log
starts_self log = ([], sym (append-nil log))

starts_more : (log seen : Log) (s : Stand) → StartsWith log seen → StartsWith (log ++ s ∷ []) seen
starts_more log seen s h = (h.0 ++ s ∷ [], ap (λ l. l ++ s ∷ []) h.1 ∙ append_assoc seen h.0 (s ∷ []))

latest-one : (log : Log) (d s : Stand) → fold (λ (a b : Stand). b) d (log ++ s ∷ []) ≡ s
latest-one [] d s = refl
latest-one (x ∷ log) d s = latest-one log x s

-- two beginnings of one list: one begins with the other
alike : (p q r s : Log) → p ++ r ≡ q ++ s → StartsWith p q ⊎ StartsWith q p
alike [] q r s e = inr (q, refl)
alike (x ∷ p) [] r s e = inl (x ∷ p, refl)
alike (x ∷ p) (y ∷ q) r s e =
    let h : x ≡ y = ap (head_or x) e in
    ⊎_elim (λ (t : StartsWith p q). inl (t.0, λ i. h i ∷ t.1 i)) (λ (t : StartsWith q p). inr (t.0, λ i. sym h i ∷ t.1 i)) (alike p q r s (ap tail_of e))

nil-append : (p r : Log) → [] ≡ p ++ r → r ≡ []
nil-append [] r e = sym e
nil-append (x ∷ p) r e = absurd (some-not-nil x (p ++ r) (sym e))

-- a beginning of a list with one more behind it that isn't all of it
shorter : (log p r : Log) (s : Stand) → log ++ s ∷ [] ≡ p ++ r → r ≢ [] → StartsWith log p
shorter [] [] r s e n = ([], refl)
shorter [] (y ∷ p) r s e n = absurd (n (nil-append p r (ap tail_of e)))
shorter (x ∷ log) [] r s e n = (x ∷ log, refl)
shorter (x ∷ log) (y ∷ p) r s e n =
    let t = shorter log p r s (ap tail_of e) n in
    let h : x ≡ y = ap (head_or x) e in
    (t.0, λ i. h i ∷ t.1 i)

-- what has the mark is all
whole : (log p r : Log) → MarkIsLast log → log ≡ p ++ r → (latest p).last ≡ true → log ≡ p
whole log p [] m e l = e ∙ append-nil p
whole log p (s ∷ ss) m e l = not_both (latest p).last l (m p (s ∷ ss) e (some-not-nil s ss))

-- ---- who leads

-- who leads led before
abbrev LeadersStay : List View → List View → Type 0
LeadersStay views views' = (j : ℕ) (u : View) → get_elem? views' j ≡ some u → u.leads ≡ true → (o : View) × (get_elem? views j ≡ some o) × (o.leads ≡ true)

one-stays : (views views' : List View) → LeadersStay views views' → OneLeads views → OneLeads views'
one-stays views views' stay one i j v w at_i at_j l_i l_j =
    let a = stay i v at_i l_i in let b = stay j w at_j l_j in one i j a.0 b.0 a.1 b.1 a.2 b.2

none-stays : (views views' : List View) → LeadersStay views views' → NoneLeads views → NoneLeads views'
none-stays views views' stay none i v at =
    by_bool v.leads (λ l. let a = stay i v at l in not_both a.0.leads a.2 (none i a.0 a.1)) (λ l. l)

kept_with : (s : Stand) (views views' : List View) (k : Kept s views) → AllAgree k.log views' → LeadersStay views views' → Kept s views'
kept_with s views views' k agree stay = record {
  log = k.log;
  stands = k.stands;
  all_agree = agree;
  one_leads = one-stays views views' stay k.one_leads;
  closed = λ o. let c = k.closed o in (c.0, none-stays views views' stay c.1);
  mark = k.mark;
  grows = k.grows;
}

-- one view is another
set-agree : (log : Log) (views : List View) (seat : ℕ) (w : View) → AllAgree log views → Agrees log w → AllAgree log (set views seat w)
set-agree log views seat w all mine j u e =
    ⊎_elim (λ (t : (j ≡ seat) × (w ≡ u)). subst (λ x. Agrees log x) t.1 mine) (λ (t : (j ≢ seat) × (get_elem? views j ≡ some u)). all j u t.1) (at_set views seat j w u e)

set-leaders : (views : List View) (seat : ℕ) (v w : View) → get_elem? views seat ≡ some v → (w.leads ≡ true → v.leads ≡ true) → LeadersStay views (set views seat w)
set-leaders views seat v w at led j u e l =
    ⊎_elim (λ (t : (j ≡ seat) × (w ≡ u)). (v, subst (λ n. get_elem? views n ≡ some v) (sym t.0) at, led (subst (λ (x : View). x.leads ≡ true) (sym t.1) l)))
    (λ (t : (j ≢ seat) × (get_elem? views j ≡ some u)). (u, t.1, l)) (at_set views seat j w u e)

-- one view more, which doesn't lead
more-agree : (log : Log) (views : List View) (w : View) → AllAgree log views → Agrees log w → AllAgree log (views ++ w ∷ [])
more-agree log views w all mine j u e =
    ⊎_elim (λ (t : get_elem? views j ≡ some u). all j u t) (λ (t : w ≡ u). subst (λ x. Agrees log x) t mine) (at_snoc views w u j e)

more-leaders : (views : List View) (w : View) → w.leads ≡ false → LeadersStay views (views ++ w ∷ [])
more-leaders views w off j u e l =
    ⊎_elim (λ (t : get_elem? views j ≡ some u). (u, t, l)) (λ (t : w ≡ u). not_both u.leads l (subst (λ (x : View). x.leads ≡ false) t off)) (at_snoc views w u j e)

nothing : (log : Log) → Agrees log newcomer
nothing log = ((log, refl), (log, refl), (λ (l : false ≡ true). not_both false l refl))

-- ---- the steps

pub admits : Admits Kept newcomer
admits x views k = kept_with x views (views ++ newcomer ∷ []) k (more-agree k.log views newcomer k.all_agree (nothing k.log)) (more-leaders views newcomer refl)

pub reads : (seat : ℕ) (v : View) (x : Stand) → TurnsAt Kept seat v x x (λ v x y w. Sees v y w)
reads seat v x views k at =
    let w : View = record v { seen = k.log } in
    let a = k.all_agree seat v at in (
      w,
      kept_with x views (set views seat w) k (set-agree k.log views seat w k.all_agree (starts_self k.log, a.1, (λ l. refl))) (set-leaders views seat v w at (λ l. l)),
      record {
        seen = a.0;
        told = a.1;
        is = k.stands;
        seen_before = let t : StartsWith k.log v.seen = a.0 in k.grows v.seen t.0 t.1;
        told_before = let t : StartsWith k.log v.told = a.1 in k.grows v.told t.0 t.1;
        others = refl;
      },
    )

pub compares : (seat : ℕ) (v : View) (x : Stand) → TurnsAt Kept seat v x x (λ v x y w. Ends v w)
compares seat v x views k at =
    let a = k.all_agree seat v at in
    let seen : StartsWith k.log v.seen = a.0 in
    let told : StartsWith k.log v.told = a.1 in (
      v,
      kept_with x views (set views seat v) k (set-agree k.log views seat v k.all_agree a) (set-leaders views seat v v at (λ l. l)),
      record {
        same = refl;
        alike = alike v.seen v.told seen.0 told.0 (sym seen.1 ∙ told.1);
        marked = λ l m. sym (whole k.log v.seen seen.0 k.mark seen.1 l) ∙ whole k.log v.told told.0 k.mark told.1 m;
      },
    )

pub forks : (seat : ℕ) (v : View) → Forks Kept seat v v (retold v)
unfolding kept_with
forks seat v x views k at =
    let a = k.all_agree seat v at in
    let same = set views seat v in
    let k' : Kept x same = kept_with x views same k (set-agree k.log views seat v k.all_agree a) (set-leaders views seat v v at (λ l. l)) in
    kept_with x same (same ++ retold v ∷ []) k'
    (more-agree k.log same (retold v) (set-agree k.log views seat v k.all_agree a) (a.0, a.1, (λ (l : false ≡ true). not_both false l refl))) (more-leaders same (retold v) refl)

pub merges : (seat : ℕ) (v : View) (other : ℕ) (w : View) → Merges Kept seat v other w (informed v w) newcomer
unfolding kept_with
merges seat v other w x views k at apart there =
    let both = informed v w in
    let a = k.all_agree seat v at in
    let b : Agrees k.log w = ⊎_elim (λ (t : (other ≡ seat) × (both ≡ w)). absurd (apart t.0)) (λ (t : (other ≢ seat) × (get_elem? views other ≡ some w)). k.all_agree other w t.1)
    (at_set views seat other both w there) in
    let views' = set views seat both in
    let agree : AllAgree k.log views' = set-agree k.log views seat both k.all_agree (a.0, b.0, a.2) in
    let k' : Kept x views' = kept_with x views views' k agree (set-leaders views seat v both at (λ l. l)) in
    kept_with x views' (set views' other newcomer) k' (set-agree k.log views' other newcomer agree (nothing k.log)) (set-leaders views' other w newcomer there (λ (l : false ≡ true). not_both false l refl))

-- ---- one more is published

abbrev NoOther : List View → ℕ → Type 0
NoOther views seat = (j : ℕ) (u : View) → j ≢ seat → get_elem? views j ≡ some u → u.leads ≡ false

grown-mark : (log : Log) (y : Stand) → MarkIsLast log → (latest log).last ≡ false → MarkIsLast (log ++ y ∷ [])
grown-mark log y m l p r e n =
    let t = shorter log p r y e n in
    by_rest t.0 t.1
  where
    by_rest : (rest : Log) → log ≡ p ++ rest → (latest p).last ≡ false
    by_rest [] e' = subst (λ (x : Log). (latest x).last ≡ false) (e' ∙ append-nil p) l
    by_rest (s ∷ ss) e' = m p (s ∷ ss) e' (some-not-nil s ss)

grown-grows : (log : Log) (y : Stand) → Grows log → (latest log).changes ≤ y.changes → Grows (log ++ y ∷ [])
grown-grows log y g more p [] e =
    let all : p ≡ log ++ y ∷ [] = sym (append-nil p) ∙ sym e in
    subst (λ (x : Log). (latest x).changes ≤ (latest (log ++ y ∷ [])).changes) (sym all) (le_refl _)
grown-grows log y g more p (s ∷ ss) e =
    let t = shorter log p (s ∷ ss) y e (some-not-nil s ss) in
    let before = g p t.0 t.1 in
    let last = latest-one log start y in
    subst (λ (x : Stand). (latest p).changes ≤ x.changes) (sym last) (le_trans before more)

grown : (s y : Stand) (views : List View) (seat : ℕ) (w : View) (k : Kept s views) → NoOther views seat → Agrees (k.log ++ y ∷ []) w → y.opened ≡ true → s.last ≡ false → s.changes ≤ y.changes → Kept y (set views seat w)
grown s y views seat w k alone mine up unmarked more = record {
  log = k.log ++ y ∷ [];
  stands = sym (latest-one k.log start y);
  all_agree = λ j u e. ⊎_elim (λ (t : (j ≡ seat) × (w ≡ u)). subst (λ x. Agrees (k.log ++ y ∷ []) x) t.1 mine)
      (λ (t : (j ≢ seat) × (get_elem? views j ≡ some u)). let a = k.all_agree j u t.1 in
      (starts_more k.log u.seen y a.0, starts_more k.log u.told y a.1, (λ l. not_both u.leads l (alone j u t.0 t.1)))) (at_set views seat j w u e);
  one_leads = λ i j v u at_i at_j l_i l_j. here i v at_i l_i ∙ sym (here j u at_j l_j);
  closed = λ c. not_both y.opened up c;
  mark = grown-mark k.log y k.mark (subst (λ (x : Stand). x.last ≡ false) k.stands unmarked);
  grows = grown-grows k.log y k.grows (subst (λ (x : Stand). x.changes ≤ y.changes) k.stands more);
}
  where
    here : (i : ℕ) (v : View) → get_elem? (set views seat w) i ≡ some v → v.leads ≡ true → i ≡ seat
    here i v e l = ⊎_elim (λ (t : (i ≡ seat) × (w ≡ v)). t.0) (λ (t : (i ≢ seat) × (get_elem? views i ≡ some v)). not_both v.leads l (alone i v t.0 t.1)) (at_set views seat i w v e)

pub opens : (seat : ℕ) (v : View) (x y : Stand) → x ≡ start → y.opened ≡ true → x.changes ≤ y.changes → TurnsAt Kept seat v x y (λ v x y w. Opens v y w)
opens seat v x y is up more views k at =
    let s : Stand = x in let n : Stand = y in
    let c = k.closed (ap (λ (z : Stand). z.opened) is) in
    let w : View = record v { seen = n ∷ []; leads = true } in
    let log : k.log ++ n ∷ [] ≡ n ∷ [] = ap (λ l. l ++ n ∷ []) c.0 in (
      w,
      grown s n views seat w k (λ j u other e. c.1 j u e)
          (subst (λ l. StartsWith l (n ∷ [])) (sym log) (starts_self (n ∷ [])), starts_more k.log v.told n (k.all_agree seat v at).1, (λ l. log)) up (ap (λ (z : Stand). z.last) is) more,
      refl,
    )

pub publishes : (seat : ℕ) (v : View) (x y : Stand) → v.leads ≡ true → y.opened ≡ true → x.last ≡ false → x.changes ≤ y.changes → TurnsAt Kept seat v x y (λ v x y w. Publishes v y w)
publishes seat v x y leads up unmarked more views k at =
    let s : Stand = x in let n : Stand = y in
    let a = k.all_agree seat v at in
    let w : View = record v { seen = v.seen ++ n ∷ [] } in
    let log : k.log ++ n ∷ [] ≡ v.seen ++ n ∷ [] = ap (λ l. l ++ n ∷ []) (a.2 leads) in (
      w,
      grown s n views seat w k (λ j u other e. by_bool u.leads (λ l. absurd (other (k.one_leads j seat u v e at l leads))) (λ l. l))
          (subst (λ l. StartsWith l (v.seen ++ n ∷ [])) (sym log) (starts_self (v.seen ++ n ∷ [])), starts_more k.log v.told n a.1, (λ l. log)) up unmarked more,
      refl,
    )

nil-front : (p r : Log) → [] ≡ p ++ r → [] ≡ p
nil-front [] r e = refl
nil-front (x ∷ p) r e = absurd (some-not-nil x (p ++ r) (sym e))

pub begins : (x : Stand) → x ≡ start → Kept x (newcomer ∷ [])
begins x is = record {
  log = [];
  stands = is;
  all_agree = more-agree [] [] newcomer (λ j u e. absurd (some-ne-none u (sym e))) (nothing []);
  one_leads = one-stays [] (newcomer ∷ []) (more-leaders [] newcomer refl) (λ i j v w e. absurd (some-ne-none v (sym e)));
  closed = λ c. (refl, none-stays [] (newcomer ∷ []) (more-leaders [] newcomer refl) (λ i v e. absurd (some-ne-none v (sym e))));
  mark = λ p r e n. absurd (n (nil-append p r e));
  grows = λ p r e. subst (λ (x : Log). (latest x).changes ≤ 0) (nil-front p r e) (le_refl 0);
}

opened-stays : (s : Stand) (notes : List Note) → s.opened ≡ true → (fold noted s notes).opened ≡ true
opened-stays s [] is = is
opened-stays s (Opened ∷ ns) is = opened-stays (noted s Opened) ns refl
opened-stays s (Did c ∷ ns) is = opened-stays (noted s (Did c)) ns is
opened-stays s (Last ∷ ns) is = opened-stays (noted s Last) ns is

pub opened-up : (x y : Stand) (notes : List Note) → x.opened ≡ true → y ≡ fold noted x notes → y.opened ≡ true
opened-up x y notes is e = ap (λ (s : Stand). s.opened) e ∙ opened-stays x notes is

pub after_opening : (x y : Stand) (notes : List Note) → notes ≡ Opened ∷ [] → y ≡ fold noted x notes → y.opened ≡ true
after_opening x y notes is e = ap (λ (s : Stand). s.opened) (e ∙ ap (fold noted x) is)

-- whether it was published or not the board is open
pub opened-on : {A E : Type 0} (r : Result A E) (x y : Stand) (notes : List Note) (P Q : Type 0) → x.opened ≡ true
    → MatchResult r (λ _. (y ≡ fold noted x notes) × P) (λ _. (y ≡ x) × Q) → y.opened ≡ true
opened-on (Ok a) x y notes P Q is made = opened-up x y notes is made.0
opened-on (Err e) x y notes P Q is made = ap (λ (z : Stand). z.opened) made.0 ∙ is

notes-grow : (s : Stand) (notes : List Note) → s.changes ≤ (fold noted s notes).changes
notes-grow s [] = le_refl _
notes-grow s (Opened ∷ ns) = notes-grow (noted s Opened) ns
notes-grow s (Did c ∷ ns) = let more : s.changes ≤ s.changes + weight c = omega arith in le_trans more (notes-grow (noted s (Did c)) ns)
notes-grow s (Last ∷ ns) = notes-grow (noted s Last) ns

pub more-changes : (x y : Stand) (notes : List Note) → y ≡ fold noted x notes → x.changes ≤ y.changes
more-changes x y notes e = subst (λ (s : Stand). x.changes ≤ s.changes) (sym e) (notes-grow x notes)

-- changes alone set no mark
pub unmarked-still : (s : Stand) (notes : List Note) → AreChanges notes → (fold noted s notes).last ≡ s.last
unmarked-still s [] are = refl
unmarked-still s (Opened ∷ ns) are = absurd are
unmarked-still s (Did c ∷ ns) are = unmarked-still (noted s (Did c)) ns are
unmarked-still s (Last ∷ ns) are = absurd are
