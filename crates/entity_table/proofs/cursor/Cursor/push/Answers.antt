use Rattle.std.proofs.Common.{◌≡◌, ◌++◌, [], ◌∷◌, length, string_bytes, sym, ap, ◌∙◌, subst, refl, ◌<◌, arith}
use Rattle.std.proofs.lemmas.List.{length_push}
use Rattle.std.proofs.lemmas.Bool.{false≢true}
use Rattle.entity_table.specs.Order.{names_of}
use Rattle.entity_table.specs.Parts.{name_at}
use Rattle.entity_table.specs.Matches.{IsMatch}
use Rattle.entity_table.specs.View.{entity_in}
use Rattle.entity_table.proofs.Pushing.{narrowed, in_order, entity_of_row, name_of_row, deep_enough, Holds-none, Holds-more, Holds-found, begins_some-part, begins_some-empty}
use Rattle.entity_table.proofs.cursor.Cursor.push.Goals as goal

pub returns-then-part-clause-holds : goal.returns-then-part-clause-holds
returns-then-part-clause-holds c = λ text held.
    let part = narrowed c.rows-rows.result.now c.args.table.now text c.args.c _ _ _ _ _ c.rows-rows.ensures.rows c.rows-rows.ensures.names.order held.depth held.part c.narrow-part.ensures.part in
    Holds-none c.args.table.now c.args.self.now text c.args.c _ _ held part c.if-part.true

pub returns-then-part-clause-more : goal.returns-then-part-clause-more
returns-then-part-clause-more c = λ text held.
    let part = narrowed c.rows-rows.result.now c.args.table.now text c.args.c _ _ _ _ _ c.rows-rows.ensures.rows c.rows-rows.ensures.names.order held.depth held.part c.narrow-part.ensures.part in
    let none = begins_some-empty c.args.table.now (text ++ c.args.c ∷ []) _ _ part c.if-part.true in
    (λ e. cc, λ e. absurd (false≢true (sym none ∙ e)))

pub returns-then-as_bytes-self-clause-holds : goal.returns-then-as_bytes-self-clause-holds
returns-then-as_bytes-self-clause-holds c = λ text held.
    let part = narrowed c.rows-rows.result.now c.args.table.now text c.args.c _ _ _ _ _ c.rows-rows.ensures.rows c.rows-rows.ensures.names.order held.depth held.part c.narrow-part.ensures.part in
    let names = names_of c.args.table.now in
    let low = c.narrow-part.result.low in
    let some : low < c.narrow-part.result.high = omega arith in
    let name : string_bytes c.index-rows-part.result.name ≡ name_at names low = name_of_row c.rows-rows.result.now c.args.table.now low c.index-rows-part.result c.rows-rows.ensures.rows (omega arith) c.index-rows-part.is in
    let long = deep_enough names (text ++ c.args.c ∷ []) low _ part some in
    let deep : c.saturating_add-self.result ≡ length (text ++ c.args.c ∷ []) = omega (arith, length_push text c.args.c, held.depth (c.narrow-part.ensures.inside some), ap length name) in
    let order = in_order c.rows-rows.result.now c.args.table.now c.rows-rows.ensures.rows c.rows-rows.ensures.names.order in
    let entity = entity_of_row c.rows-rows.result.now c.args.table.now low c.index-rows-part.result c.rows-rows.ensures.rows (omega arith) c.index-rows-part.is in
    Holds-found c.args.table.now (text ++ c.args.c ∷ []) _ _ (entity_in c.index-rows-part.result) _ order part some deep (omega (arith, ap length name))
    (subst (λ e. IsMatch e c.as_match.result) entity c.as_match.ensures)

pub returns-then-as_bytes-self-clause-more : goal.returns-then-as_bytes-self-clause-more
returns-then-as_bytes-self-clause-more c = λ text held.
    let part = narrowed c.rows-rows.result.now c.args.table.now text c.args.c _ _ _ _ _ c.rows-rows.ensures.rows c.rows-rows.ensures.names.order held.depth held.part c.narrow-part.ensures.part in
    let some = begins_some-part c.args.table.now (text ++ c.args.c ∷ []) _ _ part (omega arith) in
    (λ e. some, λ e. refl)

pub returns-else-as_bytes-self-clause-holds : goal.returns-else-as_bytes-self-clause-holds
returns-else-as_bytes-self-clause-holds c = λ text held.
    let part = narrowed c.rows-rows.result.now c.args.table.now text c.args.c _ _ _ _ _ c.rows-rows.ensures.rows c.rows-rows.ensures.names.order held.depth held.part c.narrow-part.ensures.part in
    let names = names_of c.args.table.now in
    let low = c.narrow-part.result.low in
    let some : low < c.narrow-part.result.high = omega arith in
    let name : string_bytes c.index-rows-part.result.name ≡ name_at names low = name_of_row c.rows-rows.result.now c.args.table.now low c.index-rows-part.result c.rows-rows.ensures.rows (omega arith) c.index-rows-part.is in
    let long = deep_enough names (text ++ c.args.c ∷ []) low _ part some in
    let deep : c.saturating_add-self.result ≡ length (text ++ c.args.c ∷ []) = omega (arith, length_push text c.args.c, held.depth (c.narrow-part.ensures.inside some), ap length name) in
    let order = in_order c.rows-rows.result.now c.args.table.now c.rows-rows.ensures.rows c.rows-rows.ensures.names.order in
    Holds-more c.args.table.now c.args.self.now text c.args.c _ _ order held part some deep (λ e. absurd (omega (arith, ap length name)))

pub returns-else-as_bytes-self-clause-more : goal.returns-else-as_bytes-self-clause-more
returns-else-as_bytes-self-clause-more c = λ text held.
    let part = narrowed c.rows-rows.result.now c.args.table.now text c.args.c _ _ _ _ _ c.rows-rows.ensures.rows c.rows-rows.ensures.names.order held.depth held.part c.narrow-part.ensures.part in
    let some = begins_some-part c.args.table.now (text ++ c.args.c ∷ []) _ _ part (omega arith) in
    (λ e. some, λ e. refl)
