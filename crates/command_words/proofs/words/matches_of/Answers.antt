use Rattle.std.proofs.Common.{ap, ◌∙◌, sym, subst, inl, inr, map}
use Rattle.std.specs.String.{string_bytes}
use Rattle.clap.specs.Faults.{fault_of, is_simple_and_free}
use Rattle.clap.specs.Kinds.{HasKind}
use Rattle.command_words.proofs.GrammarLemmas.{specparse_is_simple, taken_by, rows_by}
use Rattle.command_words.proofs.words.matches_of.Goals as goal

pub returns-clause-usage : goal.returns-clause-usage
returns-clause-usage c e words =
    let kinds = c.in-Err.ensures.kinds (ap is_simple_and_free c.in-Ok.ensures ∙ specparse_is_simple) in
    let none = subst (λ ks. HasKind ks c.in-Err.error) (ap (λ app. fault_of app (map string_bytes c.args.words.now)) c.in-Ok.ensures ∙ words) kinds in
    elim none [
      | inl memory ↦ let same = rw (c.kind.ensures ∙ memory) at (sym c.if-eq.false ∙ c.eq.ensures) in absurd (cc same)
      | inr absurd_kind ↦ absurd_kind
    ]

pub returns-in-Ok-try_get_matches_from-clause-taken : goal.returns-in-Ok-try_get_matches_from-clause-taken
returns-in-Ok-try_get_matches_from-clause-taken c = taken_by _ (map string_bytes c.args.words.now) c.in-Ok.ensures c.in-Ok-try_get_matches_from.ensures.kinds

pub returns-in-Ok-try_get_matches_from-clause-rows : goal.returns-in-Ok-try_get_matches_from-clause-rows
returns-in-Ok-try_get_matches_from-clause-rows c =
    rows_by _ (map string_bytes c.args.words.now) _ c.in-Ok.ensures (λ simple. (c.in-Ok-try_get_matches_from.ensures.matches simple).1)
