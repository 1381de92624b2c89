-- Calls at a port, one behind another.
use Rattle.std.proofs.Common.{◌≡◌, ℕ, ◌≤◌, ◌+◌, true, List, [], ◌∷◌, ◌++◌, Some, None, Ok, Err, refl, sym, ap, subst, ◌∙◌, append_assoc, append-nil, arith}
use Rattle.std.specs.Prelude.{Bool, Result}
use Rattle.outside.specs.Outside.{Call, Calls, Called, Seen, KeepsOthers}
use Rattle.outside.specs.Outside as call
use Rattle.outside.specs.declared.traits.Port.{Port}
use Rattle.outside.specs.declared.traits.Failed.{Failed}
use Rattle.page_turns.specs.Calls.{CallsAt, AreReads, given_first, AreWithin, EachWithin, EndInFault, AreOfFailed, HasFailed, GaveNone}

-- ---- calls that were made

called_same : (p : Calls) → Called p p []
called_same None = tt
called_same (Some l) = sym (append-nil l)

pub called_none : (b a : Calls) → a ≡ b → Called b a []
called_none b a e = subst (λ q. Called b q []) (sym e) (called_same b)

pub called_then : (b n a : Calls) (xs ys : List Call) → Called b n xs → Called n a ys → Called b a (xs ++ ys)
called_then b n None xs ys p q = tt
called_then b None (Some l) xs ys p q = absurd q
called_then None (Some m) (Some l) xs ys p q = absurd p
called_then (Some k) (Some m) (Some l) xs ys p q = q ∙ ap (λ z. z ++ ys) p ∙ append_assoc k xs ys

pub called_stays : (b n a : Calls) (xs : List Call) → Called b n xs → a ≡ n → Called b a xs
called_stays b n a xs called e = subst (λ q. Called b q xs) (sym e) called

pub called_since : (b n a : Calls) (xs : List Call) → n ≡ b → Called n a xs → Called b a xs
called_since b n a xs e called = subst (λ q. Called q a xs) e called

pub called_is : (b a : Calls) (xs ys : List Call) → xs ≡ ys → Called b a xs → Called b a ys
called_is b a xs ys e called = subst (λ q. Called b a q) e called

-- ---- how far was read

pub within_then : (limit so_far : ℕ) (xs ys : List Call) → AreWithin limit so_far xs → ((k : ℕ) → AreWithin limit k ys) → AreWithin limit so_far (xs ++ ys)
within_then limit k [] ys first second = second k
within_then limit k (call.begins path answer ∷ xs) ys first second = within_then limit 0 xs ys first second
within_then limit k (call.reads most (Ok n) ∷ xs) ys first second = (first.0, within_then limit (k + n) xs ys first.1 second)
within_then limit k (call.reads most (Err e) ∷ xs) ys first second = within_then limit k xs ys first second

-- reads that gave no more than that in all
pub within_all : (limit so_far : ℕ) (xs : List Call) → AreReads xs → so_far + given_first xs ≤ limit + 1 → AreWithin limit so_far xs
within_all limit k [] ok le = tt
within_all limit k (call.begins path answer ∷ xs) ok le = absurd ok
within_all limit k (call.reads most (Ok n) ∷ xs) ok le = (omega arith, within_all limit (k + n) xs ok (omega arith))
within_all limit k (call.reads most (Err e) ∷ xs) ok le = absurd ok

-- and behind them one that gave none
pub within_last : (limit so_far most : ℕ) (xs : List Call) (answer : Result ℕ Failed) → AreReads xs → so_far + given_first xs ≤ limit + 1 → GaveNone answer → AreWithin limit so_far (xs ++ call.reads most answer ∷ [])
within_last limit k most [] (Ok n) ok le none = (omega arith, tt)
within_last limit k most [] (Err e) ok le none = tt
within_last limit k most (call.begins path answer ∷ xs) last ok le none = absurd ok
within_last limit k most (call.reads m (Ok n) ∷ xs) last ok le none = (omega arith, within_last limit (k + n) most xs last ok (omega arith) none)
within_last limit k most (call.reads m (Err e) ∷ xs) last ok le none = absurd ok

pub each_none : (limit : ℕ) (port : Port) (before after : Seen) → after.calls port ≡ before.calls port → EachWithin limit port before after
each_none limit port before after same = record { calls = []; made = called_none _ _ same; within = λ k. tt }

pub each_then : (limit : ℕ) (port : Port) (before now after : Seen) → EachWithin limit port before now → EachWithin limit port now after → EachWithin limit port before after
each_then limit port before now after first second = record {
  calls = first.calls ++ second.calls;
  made = called_then _ _ _ first.calls second.calls first.made second.made;
  within = λ k. within_then limit k first.calls second.calls (first.within k) second.within;
}

-- ---- reads that succeeded

pub reads_then : (xs ys : List Call) → AreReads xs → AreReads ys → AreReads (xs ++ ys)
reads_then [] ys first second = second
reads_then (call.begins path answer ∷ xs) ys first second = absurd first
reads_then (call.reads most (Ok n) ∷ xs) ys first second = reads_then xs ys first second
reads_then (call.reads most (Err e) ∷ xs) ys first second = absurd first

pub given_then : (xs ys : List Call) → AreReads xs → given_first (xs ++ ys) ≡ given_first xs + given_first ys
given_then [] ys ok = omega arith
given_then (call.begins path answer ∷ xs) ys ok = absurd ok
given_then (call.reads most (Ok n) ∷ xs) ys ok = let rest = given_then xs ys ok in omega (arith, rest)
given_then (call.reads most (Err e) ∷ xs) ys ok = absurd ok

-- one more, of n bytes
pub given_more : (xs : List Call) (most n : ℕ) → AreReads xs → given_first (xs ++ call.reads most (Ok n) ∷ []) ≡ given_first xs + n
given_more xs most n ok = let rest = given_then xs (call.reads most (Ok n) ∷ []) ok in omega (arith, rest)

-- one that gave none
pub given_none : (xs : List Call) (most : ℕ) (answer : Result ℕ Failed) → AreReads xs → GaveNone answer → given_first (xs ++ call.reads most answer ∷ []) ≡ given_first xs
given_none xs most (Ok n) ok none = let rest = given_then xs (call.reads most (Ok n) ∷ []) ok in omega (arith, rest, none)
given_none xs most (Err e) ok none = let rest = given_then xs (call.reads most (Err e) ∷ []) ok in omega (arith, rest)

-- ---- one that failed

pub fault_then : (xs : List Call) (most : ℕ) (e : Failed) → AreReads xs → EndInFault (xs ++ call.reads most (Err e) ∷ [])
fault_then [] most e ok = tt
fault_then (call.begins path answer ∷ xs) most e ok = absurd ok
fault_then (call.reads m (Ok n) ∷ xs) most e ok = fault_then xs most e ok
fault_then (call.reads m (Err f) ∷ xs) most e ok = absurd ok

-- and it stays so, whatever was called before and behind
pub failed_stays : (port : Port) (path : List ℕ) (before now after : Seen) (ys : List Call) → CallsAt port now after ys → HasFailed port path before now → HasFailed port path before after
failed_stays port path before now after ys made has = record {
  earlier = has.earlier;
  own = has.own;
  later = has.later ++ ys;
  made = called_is _ _ _ _ (append_assoc (has.earlier ++ has.own) has.later ys) (called_then _ _ _ _ ys has.made made);
  failed = has.failed;
}

pub failed_since : (port : Port) (path : List ℕ) (before now after : Seen) (xs : List Call) → CallsAt port before now xs → HasFailed port path now after → HasFailed port path before after
failed_since port path before now after xs made has = record {
  earlier = xs ++ has.earlier;
  own = has.own;
  later = has.later;
  made = called_is _ _ _ _ (sym (append_assoc xs (has.earlier ++ has.own) has.later) ∙ ap (λ l. l ++ has.later) (sym (append_assoc xs has.earlier has.own)))
      (called_then _ _ _ xs _ made has.made);
  failed = has.failed;
}

-- these calls alone
pub failed_alone : (port : Port) (path : List ℕ) (before after : Seen) (own : List Call) → CallsAt port before after own → AreOfFailed path own → HasFailed port path before after
failed_alone port path before after own made failed = record {
  earlier = [];
  own = own;
  later = [];
  made = called_is _ _ _ _ (sym (append-nil own)) made;
  failed = failed;
}

-- ---- a file that was begun and is read on

pub record IsReadOn (port : Port) (path : List ℕ) (before now : Seen) (n : ℕ) : Type 0 where
  pub more : List Call
  pub made : CallsAt port before now (call.begins path (Ok true) ∷ more)
  pub reads_all : AreReads more
  pub count : given_first more ≡ n

module _ (port : Port) (path : List ℕ) (before now after : Seen) (n : ℕ) (on : IsReadOn port path before now n) (most : ℕ) (answer : Result ℕ Failed) (made : CallsAt port now after (call.reads most answer ∷ [])) where
  all_made : CallsAt port before after (call.begins path (Ok true) ∷ (on.more ++ call.reads most answer ∷ []))
  all_made = called_then _ _ _ (call.begins path (Ok true) ∷ on.more) _ on.made made

  -- it gave k bytes
  pub read_on_more : (k : ℕ) → answer ≡ Ok k → IsReadOn port path before after (n + k)
  read_on_more k is = record {
    more = on.more ++ call.reads most (Ok k) ∷ [];
    made = subst (λ r. CallsAt port before after (call.begins path (Ok true) ∷ (on.more ++ call.reads most r ∷ []))) is all_made;
    reads_all = reads_then on.more (call.reads most (Ok k) ∷ []) on.reads_all tt;
    count = given_more on.more most k on.reads_all ∙ ap (λ x. x + k) on.count;
  }

  -- it failed
  pub read_on_failed : (e : Failed) → answer ≡ Err e → HasFailed port path before after
  read_on_failed e is =
      failed_alone port path before after _ (subst (λ r. CallsAt port before after (call.begins path (Ok true) ∷ (on.more ++ call.reads most r ∷ []))) is all_made) (refl, fault_then on.more most e on.reads_all)

  -- how far it was read
  pub read_on_within : (limit : ℕ) → n + given_first (call.reads most answer ∷ []) ≤ limit + 1 → EachWithin limit port before after
  read_on_within limit le = record { calls = _; made = all_made; within = λ k. within_one answer le }
    where
      within_one : (r : Result ℕ Failed) → n + given_first (call.reads most r ∷ []) ≤ limit + 1 → AreWithin limit 0 (on.more ++ call.reads most r ∷ [])
      within_one (Ok k) le = within_all limit 0 (on.more ++ call.reads most (Ok k) ∷ []) (reads_then on.more (call.reads most (Ok k) ∷ []) on.reads_all tt)
          (let is = given_more on.more most k on.reads_all in let count = on.count in omega (arith, is, count, le))
      within_one (Err e) le = within_last limit 0 most on.more (Err e) on.reads_all (let count = on.count in omega (arith, count, le)) tt

pub read_on_first : (port : Port) (path : List ℕ) (before now : Seen) (answer : Result Bool Failed) → answer ≡ Ok true → CallsAt port before now (call.begins path answer ∷ []) → IsReadOn port path before now 0
read_on_first port path before now answer is made = record {
  more = [];
  made = subst (λ r. CallsAt port before now (call.begins path r ∷ [])) is made;
  reads_all = tt;
  count = refl;
}

-- it was read to its end, or so far
pub read_on_each : (port : Port) (path : List ℕ) (before now : Seen) (n limit : ℕ) → IsReadOn port path before now n → n ≤ limit + 1 → EachWithin limit port before now
read_on_each port path before now n limit on le = record {
  calls = call.begins path (Ok true) ∷ on.more;
  made = on.made;
  within = λ k. within_all limit 0 on.more on.reads_all (let count = on.count in omega (arith, count, le));
}

-- it couldn't be begun, or isn't there
pub unbegun_each : (port : Port) (path : List ℕ) (before now : Seen) (limit : ℕ) (answer : Result Bool Failed) → CallsAt port before now (call.begins path answer ∷ []) → EachWithin limit port before now
unbegun_each port path before now limit answer made = record { calls = _; made = made; within = λ k. tt }

pub unbegun_failed : (port : Port) (path : List ℕ) (before now : Seen) (answer : Result Bool Failed) (e : Failed) → answer ≡ Err e → CallsAt port before now (call.begins path answer ∷ []) → HasFailed port path before now
unbegun_failed port path before now answer e is made = failed_alone port path before now _ (subst (λ r. CallsAt port before now (call.begins path r ∷ [])) is made) refl
