use Rattle.std.proofs.Common.{◌≡◌, ℕ, List, [], ◌∷◌, ◌++◌, ◌+◌, sym, ap, ◌∙◌, subst, arith}
use Rattle.entity_table.specs.Held.{Holds}
use Rattle.tokenizer.specs.Whole.{piece}
use Rattle.tokenizer.proofs.WholeLemmas.{piece-push}
use Rattle.tokenizer.proofs.OpenLemmas.{held_begins}
use Rattle.tokenizer.proofs.reference.walk_begins.Goals.{In-More}
use Rattle.tokenizer.proofs.reference.walk_begins.Goals as goal

both : (c : In-More) → piece c.args.text.now c.args.from (c.in-Some.name + 1) ≡ 38 ∷ c.in-Some-ascii_at.c ∷ []
both c =
    let x = c.in-Some-ascii_at.c in
    piece-push c.args.text.now c.args.from c.in-Some.name x c.utf8.text c.requires c.in-Some.ensures.boundary (omega (arith, c.in-Some.ensures.onward)) c.in-Some-ascii_at.ensures.read
    ∙ ap (λ (l : List ℕ). l ++ x ∷ []) c.in-Some.ensures.read

pub returns-in-More-clause-holds : goal.returns-in-More-clause-holds
returns-in-More-clause-holds c = subst (Holds c.args.table.now c.push-2.new.self) (sym (both c)) (c.push-2.ensures.holds (38 ∷ []) (c.push.ensures.holds [] c.new-cursor.ensures))

pub returns-in-More-clause-held : goal.returns-in-More-clause-held
returns-in-More-clause-held c =
    held_begins c.args.table.now _ c.in-Some-ascii_at.c (both c) (sym c.is_ascii_alphanumeric.ensures.value ∙ c.if-not-is_ascii_alphanumeric.false)
    ((c.push-2.ensures.more (38 ∷ []) (c.push.ensures.holds [] c.new-cursor.ensures)).0 c.in-More.is)
