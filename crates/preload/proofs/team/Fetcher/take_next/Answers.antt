use Rattle.std.proofs.Common.{◌≡◌, [], ◌∷◌, ◌++◌, Some, None, slice_get, ap, subst, ◌∙◌, refl, arith}
use Rattle.core_steps.specs.Journals.{found}
use Rattle.page_turns.proofs.LineLemmas.{on_err}
use Rattle.preload.specs.Teams.{CameAs}
use Rattle.preload.proofs.Teams.{at_read, takes_one, next_told, next_untold}
use Rattle.preload.proofs.team.Fetcher.take_next.Goals as goal

pub index-requires : goal.index-requires
index-requires g c = omega (arith, c.requires.some)

pub push_reserved-requires : goal.push_reserved-requires
push_reserved-requires g c = omega (arith, c.requires.some, c.requires.asked.few, c.requires.asked.room.1)

pub returns-then-is_told-clause-asked : goal.returns-then-is_told-clause-asked
returns-then-is_told-clause-asked g c =
    takes_one g.F.Outside c.args.self.now _ c.requires.asked c.is_new-is_told.result c.next-answer.result c.requires.some refl c.push_reserved.ensures.items c.push_reserved.ensures.len c.push_reserved.ensures.capacity c.next-answer.ensures.taken c.next-answer.ensures.lane
    c.next-answer.ensures.others

pub returns-else-is_told-clause-asked : goal.returns-else-is_told-clause-asked
returns-else-is_told-clause-asked g c =
    takes_one g.F.Outside c.args.self.now _ c.requires.asked c.is_new-is_told.result c.next-answer.result c.requires.some refl c.push_reserved.ensures.items c.push_reserved.ensures.len c.push_reserved.ensures.capacity c.next-answer.ensures.taken c.next-answer.ensures.lane
    c.next-answer.ensures.others

-- ---- what the answer gives

pub returns-in_err-name-clause-err : goal.returns-in_err-name-clause-err
returns-in_err-name-clause-err g c = on_err _ _ refl

pub returns-then-is_told-clause-next : goal.returns-then-is_told-clause-next
returns-then-is_told-clause-next g c =
    let f = c.args.self.now in
    let counted = c.len.ensures in
    let read = at_read f.names.items c.len.result c.index.result.now (omega (arith, c.requires.some, f.names.ok.0, counted)) c.index.ensures in
    let at = subst (λ n. slice_get f.names.items n ≡ Some c.index.result.now) counted read in
    let named = c.in_ok-name.ensures.text in
    let new = subst (λ n. found n c.args.journal.now.fetches ≡ None) (c.as_str.ensures ∙ named) (c.is_new-is_told.ensures c.if-is_told.true) in
    next_told g.F.Outside f (record { helper = c.next-answer.new.self; names = f.names; told = c.push_reserved.new.self }) c.requires.asked c.index.result.now c.next-answer.result c.args.journal.now.fetches c.requires.some at refl c.push_reserved.ensures.len c.next-answer.ensures.taken c.early_of.result
    (c.push_reserved.ensures.items ∙ ap (λ b. f.told.items ++ b ∷ []) c.if-is_told.true) (subst (λ n. CameAs n c.next-answer.result c.early_of.result) named c.early_of.ensures) (c.to_text.ensures.lawful, new)

pub returns-else-is_told-clause-next : goal.returns-else-is_told-clause-next
returns-else-is_told-clause-next g c =
    let f = c.args.self.now in
    let counted = c.len.ensures in
    let read = at_read f.names.items c.len.result c.index.result.now (omega (arith, c.requires.some, f.names.ok.0, counted)) c.index.ensures in
    let at = subst (λ n. slice_get f.names.items n ≡ Some c.index.result.now) counted read in
    next_untold g.F.Outside f (record { helper = c.next-answer.new.self; names = f.names; told = c.push_reserved.new.self }) c.requires.asked c.index.result.now c.next-answer.result c.args.journal.now.fetches c.requires.some at refl c.push_reserved.ensures.len c.next-answer.ensures.taken
    (c.push_reserved.ensures.items ∙ ap (λ b. f.told.items ++ b ∷ []) c.if-is_told.false)
