-- What a log gains.
use Rattle.std.proofs.Common.{◌≡◌, List, [], ◌∷◌, ◌++◌, fold, if◌then◌else◌, Result, Ok, Err, OnOk, Bool, true, false, true≢false, refl, sym, ap, ◌∙◌, subst, append-nil, append_assoc}
use Rattle.std.proofs.lemmas.List.Sums.{fold-append}
use Rattle.standard.specs.Act.{Doc}
use Rattle.doc_changes.specs.declared.change.Change.{Change}
use Rattle.doc_changes.specs.Changes.{changed}
use Rattle.doc_changes.specs.Logs.{LogView, with_more, Gains, Logs}

-- nothing changed
pub none_logged : (log : LogView) (d : Doc) → Logs log d log d
none_logged log d = record { on = refl; gains = λ on. record { more = []; list = sym (append-nil log.list); leads = refl } }

-- one change, and then another
pub then_logged : (a b c : LogView) (d e f : Doc) → Logs a d b e → Logs b e c f → Logs a d c f
then_logged a b c d e f first next = record {
  on = next.on ∙ first.on;
  gains = λ on.
      (let g = first.gains on in let h = next.gains (first.on ∙ on) in record {
        more = g.more ++ h.more;
        list = h.list ∙ (ap (λ l. l ++ h.more) g.list ∙ append_assoc a.list g.more h.more);
        leads = fold-append changed d g.more h.more ∙ (ap (λ (x : Doc). fold changed x h.more) g.leads ∙ h.leads);
      });
}

-- changes that were added lead there
pub added_logged : (log log' : LogView) (d e : Doc) (more : List Change) → log' ≡ with_more more log → fold changed d more ≡ e → Logs log d log' e
added_logged log log' d e more is leads = subst (λ (l : LogView). Logs log d l e) (sym is) (by log.on refl)
  where
    kept : log.on ≡ true → Logs log d (record log { list = log.list ++ more }) e
    kept on = record { on = refl; gains = λ _. record { more = more; list = refl; leads = leads } }

    off : log.on ≡ false → Logs log d log e
    off is-off = record { on = refl; gains = λ on. absurd (true≢false (sym on ∙ is-off)) }

    by : (b : Bool) → log.on ≡ b → Logs log d (if b then record log { list = log.list ++ more } else log) e
    by true on = kept on
    by false is-off = off is-off

-- a change that was added
pub one_logged : {T E : Type 0} (r : Result T E) (log log' : LogView) (d e : Doc) (c : Change) → OnOk r (log' ≡ with_more (c ∷ []) log) → e ≡ changed d c → OnOk r (Logs log d log' e)
one_logged (Ok x) log log' d e c is leads = added_logged log log' d e (c ∷ []) is (sym leads)
one_logged (Err x) log log' d e c is leads = tt

-- the document was left as it was
pub same_logged : {T E : Type 0} (r : Result T E) (log : LogView) (d e : Doc) → OnOk r (e ≡ d) → OnOk r (Logs log d log e)
same_logged (Ok x) log d e same = subst (λ (k : Doc). Logs log d log k) (sym same) (none_logged log d)
same_logged (Err x) log d e same = tt

-- it was left so behind what was logged
pub logged_same : (a b : LogView) (d e f : Doc) → Logs a d b e → f ≡ e → Logs a d b f
logged_same a b d e f logs same = subst (λ (k : Doc). Logs a d b k) (sym same) logs

-- and before
pub same_first : {T E : Type 0} (r : Result T E) (a b : LogView) (d e f : Doc) → e ≡ d → OnOk r (Logs a e b f) → OnOk r (Logs a d b f)
same_first (Ok x) a b d e f same logs = subst (λ (k : Doc). Logs a k b f) same logs
same_first (Err x) a b d e f same logs = tt

-- and then more was logged
pub then_ok : {T E : Type 0} (r : Result T E) (a b c : LogView) (d e f : Doc) → Logs a d b e → OnOk r (Logs b e c f) → OnOk r (Logs a d c f)
then_ok (Ok x) a b c d e f first next = then_logged a b c d e f first next
then_ok (Err x) a b c d e f first next = tt

-- and then the document was left so
pub ok_same : {T E : Type 0} (r : Result T E) (a b : LogView) (d e f : Doc) → Logs a d b e → OnOk r (f ≡ e) → OnOk r (Logs a d b f)
ok_same (Ok x) a b d e f logs same = logged_same a b d e f logs same
ok_same (Err x) a b d e f logs same = tt
