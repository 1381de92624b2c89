-- Which instructions may stand where, and how far the row has come behind them.
use Rattle.std.proofs.Common.{Bool, true, false, not, ◌&&◌, ◌||◌, List, [], ◌∷◌}
use Rattle.std.specs.Prelude.{if◌then◌else◌}
use Rattle.html_types.specs.Names.{same_space}
use Rattle.html_types.specs.Words.{same_word}
use Rattle.html_types.specs.declared.word.Word.{Word}
use Rattle.html_types.specs.declared.word.Word.TheVariants as word
use Rattle.html_types.specs.declared.name.Space.TheVariants.{Html}
use Rattle.html_types.specs.declared.instruction.Instr.{Instr}
use Rattle.html_types.specs.declared.instruction.Instr.TheVariants as ins
use Rattle.html_types.specs.declared.instruction.Test.{Test}
use Rattle.html_types.specs.declared.instruction.Test.TheVariants.{InScope, Current, OnStack, FramesetOk, OptionInOptgroup}
use Rattle.html_types.specs.declared.instruction.Who.{Who}
use Rattle.html_types.specs.declared.instruction.Who.TheVariants as who
use Rattle.html_types.specs.declared.instruction.Group.{Group}
use Rattle.html_types.specs.declared.instruction.Group.TheVariants as group
use Rattle.html_types.specs.declared.instruction.Scope.{Scope}
use Rattle.html_types.specs.declared.instruction.Scope.TheVariants as scope
use Rattle.html_types.specs.declared.instruction.Mode.{Mode}
use Rattle.html_types.specs.declared.instruction.Mode.TheVariants as mode
use Rattle.standard.specs.Groups.{in_group, stops}
use Rattle.standard.specs.Rows.{has_word}
use Rattle.stack_laws.specs.Grounded.{is_vital, is_guard, is_formatting, is_template_mode}
use Rattle.rule_laws.specs.Proper.{is_early}
use Rattle.stack_laws.proofs.Grounds.{Own, no_tag, other_name, own_word, is_own_word, meant_word, spares_meant, spared, Claim, the, fits, lost, Know, nothing, scoped, topped, open_top, not_html, has_template, text_top, foreign_top, headed, headed_topped, Debt, even, owes_ok, owes_mode, owes_pop, At, is_even, is_plainly, is_text_top, is_claimed, rests, knowing, vitals, dropping}
use Rattle.stack_laws.proofs.GroundPushes.{is_low, templated, rooted}

-- ---- what a test tells

abbrev pub learn : Test → At → At
learn (InScope s w) a = knowing (scoped s w) a
learn (Current w) a = knowing (topped w) a
learn (OnStack (who.The w)) a = if same_word w word.Template then knowing has_template a else a
learn FramesetOk a = if is_even a.debt then record a { bare = true } else a
learn OptionInOptgroup a = knowing (topped (who.The word.Option)) a
learn _ a = a

abbrev pub unlearn : Test → At → At
unlearn (Current (who.The w)) a = if same_word w word.Html then knowing not_html a else a
unlearn _ a = a

-- ---- elements

abbrev pub is_pushable : Know → Bool
is_pushable (headed_topped w) = false
is_pushable _ = true

abbrev pub may_push : Own → At → Bool
may_push no_tag a = true
may_push other_name a = a.full && is_plainly a.know
may_push (own_word w) a =
    if same_word w word.Html then false
    else (if same_word w word.Template then is_even a.debt && a.full else (if is_low w then a.bare && a.full else a.full))

abbrev pub pushing_know : Who → Know → Know
pushing_know w headed = headed_topped w
pushing_know w _ = topped w

abbrev pub pushing : Who → Own → At → At
pushing k no_tag a = a
pushing k other_name a = knowing nothing a
pushing k (own_word w) a = knowing (pushing_know k a.know) (if same_word w word.Template then templated a else a)

abbrev pub is_early_claim : Claim → Bool
is_early_claim (the m) = is_early m
is_early_claim _ = false

abbrev pub is_tag : Own → Bool
is_tag no_tag = false
is_tag _ = true

abbrev pub is_formatting_tag : Own → Bool
is_formatting_tag (own_word w) = is_formatting w
is_formatting_tag _ = false

-- ---- popping

abbrev pub pop_words : Know → Own → Word → Bool
pop_words (topped w) o v = meant_word w o v
pop_words text_top o v = not (is_guard v)
pop_words foreign_top o v = false
pop_words _ o v = not (is_vital v)

abbrev pub is_head_claim : Claim → Bool
is_head_claim (the mode.InHead) = true
is_head_claim _ = false

abbrev pub may_pop : Know → At → Bool
may_pop (topped w) a = true
may_pop open_top a = true
may_pop not_html a = a.bare && a.full
may_pop text_top a = true
may_pop foreign_top a = true
may_pop nothing a = is_head_claim a.claim
may_pop _ a = false

abbrev pub same_who : Who → Who → Bool
same_who who.Own who.Own = true
same_who (who.The v) (who.The w) = same_word v w
same_who (who.Any group.Headings) (who.Any group.Headings) = true
same_who _ _ = false

pub data Until : Type 0 where
  by_scope : Scope → Until
  by_template : Until
  by_claim : Until
  never : Until

abbrev pub until_claim : Claim → Who → Until
until_claim (the mode.InCell) (who.Any group.Cells) = by_claim
until_claim (the mode.InSelectInTable) (who.The w) = if same_word w word.Select then by_claim else never
until_claim _ _ = never

abbrev pub is_the : Word → Who → Bool
is_the u (who.The w) = same_word w u
is_the u _ = false

abbrev pub until_by : Know → Claim → Who → Until
until_by (scoped s x) c w = if same_who x w then by_scope s else until_claim c w
until_by has_template c w = if is_the word.Template w then by_template else until_claim c w
until_by _ c w = until_claim c w

abbrev pub passed_words : Scope → Who → Own → Word → Bool
passed_words s w o v = meant_word w o v || not (stops s v)

abbrev pub closed_words : Scope → Who → Own → Word → Bool
closed_words s w o v = in_group group.ClosedImplicitly v || passed_words s w o v

abbrev pub item_words : Who → Own → Word → Bool
item_words w o v = in_group group.ClosedImplicitly v || (meant_word w o v || not (in_group group.Special v && not (in_group group.PassedItems v)))

abbrev pub other_words : Own → Word → Bool
other_words o v = in_group group.ClosedImplicitly v || (meant_word who.Own o v || not (in_group group.Special v))

abbrev pub may_until : Until → Who → Own → At → Bool
may_until (by_scope s) w o a = spared (passed_words s w o) vitals
may_until by_template w o a = is_even a.debt
may_until by_claim w o a = true
may_until never w o a = false

abbrev pub until_at : Until → Who → Own → At → At
until_at (by_scope s) w o a = dropping (passed_words s w o) a
until_at by_template w o a = record a { claim = lost; know = nothing; bare = false; debt = owes_pop }
until_at by_claim w o a = dropping (λ v. not (is_vital v)) a
until_at never w o a = a

-- only HTML names that the rules speak of are meant
abbrev pub only_words : Who → Own → Bool
only_words who.Own (own_word w) = true
only_words who.Own _ = false
only_words (who.Any group.Special) o = false
only_words _ o = true

-- behind popping to a context the current node isn't vital where one of the context is in scope
abbrev pub context_know : Know → Group → Own → Know
context_know (scoped s w) g o = if only_words w o && (spares_meant (λ v. not (in_group g v)) w o && spared (passed_words s w o) vitals) then open_top else nothing
context_know _ g o = nothing

-- implied end tags leave what is in scope, and the template
abbrev pub implied_know : Know → Who → Own → Know
implied_know (scoped s w) x o = if spares_meant (λ v. in_group group.ClosedImplicitly v) w o || same_who x w then scoped s w else nothing
implied_know _ x o = nothing

abbrev pub thorough_know : Know → Know
thorough_know has_template = has_template
thorough_know _ = nothing

-- ---- modes

abbrev pub is_all_of : (Word → Bool) → Who → Own → Bool
is_all_of p who.Own (own_word w) = p w
is_all_of p who.Own _ = false
is_all_of p (who.The w) o = p w
is_all_of p (who.Any g) o = false
is_all_of p who.Nobody o = false

abbrev pub tops : (Word → Bool) → Know → Own → Bool
tops p (topped w) o = is_all_of p w o
tops p _ o = false

abbrev pub owes_template : Debt → Bool
owes_template owes_ok = true
owes_template owes_mode = true
owes_template _ = false

abbrev pub enters : Mode → Own → At → Bool
enters mode.BeforeHead o a = a.full && a.bare
enters mode.AfterHead o a = a.full && a.bare
enters mode.InFrameset o a = a.full && a.bare
enters mode.InHead o a = a.full && (a.bare && tops (has_word (word.Head ∷ [])) a.know o)
enters mode.InCell o a = a.full && tops (has_word (word.Td ∷ word.Th ∷ [])) a.know o
enters mode.InSelectInTable o a = a.full && tops (has_word (word.Select ∷ [])) a.know o
enters mode.InTemplate o a = a.full && owes_template a.debt
enters mode.Initial o a = is_early_claim a.claim
enters mode.BeforeHtml o a = is_early_claim a.claim
enters _ o a = a.full

abbrev pub may_enter : Mode → Own → At → Bool
may_enter mode.InText o a = (a.keeps && a.waits) && (is_plainly a.know && tops (λ v. not (is_guard v)) a.know o)
may_enter mode.InTableText o a = a.keeps && a.waits
may_enter mode.InForeign o a = false
may_enter m o a = not a.keeps && (is_plainly a.know && enters m o a)

abbrev pub entering : Mode → At → At
entering mode.InText a = record a { know = text_top; text = true; waits = false }
entering mode.InTableText a = record a { text = false; waits = false }
entering m a = record a { claim = the m; text = false }

abbrev pub may_pop_mode : Debt → Claim → Bool
may_pop_mode owes_pop c = true
may_pop_mode even (the mode.InTemplate) = true
may_pop_mode _ _ = false

abbrev pub popped_debt : Debt → Debt
popped_debt owes_pop = even
popped_debt _ = owes_mode

abbrev pub paid_ok : Debt → Debt
paid_ok owes_ok = owes_mode
paid_ok d = d

abbrev pub is_owes_mode : Debt → Bool
is_owes_mode owes_mode = true
is_owes_mode _ = false

abbrev pub using : (Mode → Mode → Bool) → Claim → Mode → Bool
using h (the n) m = h n m
using h _ m = false

abbrev pub is_headed : Know → Bool
is_headed k = not (is_plainly k)

abbrev pub without_head : Know → Know
without_head (headed_topped w) = topped w
without_head _ = nothing

abbrev pub is_topped_own : Know → Bool
is_topped_own (topped who.Own) = true
is_topped_own _ = false

-- ---- every instruction

abbrev pub may : (Mode → Mode → Bool) → Instr → Own → At → Bool
may h (ins.Need c) o a = rests a
may h (ins.Forbid c) o a = rests a
may h (ins.When c) o a = is_plainly a.know
may h (ins.Unless c) o a = is_plainly a.know
may h ins.Insert o a = is_pushable a.know && may_push o a
may h (ins.InsertA w) o a = is_pushable a.know && may_push (own_word w) a
may h ins.InsertRoot o a = is_own_word o word.Html && (is_early_claim a.claim && is_plainly a.know)
may h ins.InsertRootA o a = is_early_claim a.claim && is_plainly a.know
may h ins.InsertForeign o a = false
may h (ins.InsertIn s) o a = (not (same_space s Html) && is_tag o) && (a.full && is_plainly a.know)
may h ins.Pop o a = may_pop a.know a && spared (pop_words a.know o) vitals
may h (ins.PopUntil w) o a = is_plainly a.know && may_until (until_by a.know a.claim w) w o a
may h (ins.ClearBackTo g) o a = is_plainly a.know && spared (λ v. not (in_group g v)) vitals
may h ins.PopToRoot o a = is_plainly a.know && (a.bare && a.full)
may h ins.GenerateImplied o a = is_plainly a.know
may h ins.GenerateImpliedThoroughly o a = is_plainly a.know
may h (ins.GenerateImpliedBut w) o a = is_plainly a.know
may h (ins.Close s w) o a = is_plainly a.know && spared (closed_words s w o) vitals
may h (ins.CloseItem w) o a = is_plainly a.know && spared (item_words w o) vitals
may h ins.AnyOtherEnd o a = is_plainly a.know && spared (other_words o) vitals
may h ins.BreakOut o a = false
may h ins.ForeignEnd o a = false
may h ins.Reconstruct o a = is_plainly a.know && a.full
may h ins.PushFormatting o a = is_topped_own a.know && is_formatting_tag o
may h (ins.TakeOff i) o a = false
may h ins.SetHeadPointer o a = is_plainly a.know
may h ins.PushHead o a = is_plainly a.know
may h ins.TakeHeadOff o a = is_headed a.know
may h ins.SetFormPointer o a = tops (λ v. not (is_guard v)) a.know o
may h ins.EndForm o a = is_plainly a.know
may h (ins.SwitchMode m) o a = may_enter m o a
may h ins.SaveMode o a = not a.keeps && (a.full && is_claimed a.claim)
may h ins.RestoreMode o a = a.keeps
may h (ins.PushTemplateMode m) o a = is_template_mode m && is_owes_mode a.debt
may h ins.PopTemplateMode o a = may_pop_mode a.debt a.claim
may h ins.ResetMode o a = (not a.keeps && a.full) && (is_plainly a.know && is_even a.debt)
may h ins.InsertPending o a = is_plainly a.know && a.full
may h ins.Adopt o a = rests a && (is_formatting_tag o && (not a.keeps && a.full))
may h ins.AdoptAnchor o a = rests a && (is_formatting_tag o && (not a.keeps && a.full))
may h ins.AdoptNobr o a = rests a && (is_formatting_tag o && (not a.keeps && a.full))
may h (ins.SwitchTokenizer r) o a = rests a
may h (ins.UsingRules m) o a = rests a && (not a.keeps && using h a.claim m)
may h ins.InBodyFostering o a = rests a && (not a.keeps && using h a.claim mode.InBody)
may h ins.Reprocess o a = rests a
may h ins.StopAtScript o a = is_text_top a.know && rests (dropping (λ v. not (is_guard v)) a)
may h ins.Finish o a = rests a
may h _ o a = true

abbrev pub onward : Instr → Own → At → At
onward (ins.Need c) o a = learn c a
onward (ins.Forbid c) o a = unlearn c a
onward (ins.When c) o a = learn c a
onward (ins.Unless c) o a = unlearn c a
onward ins.Insert o a = pushing who.Own o a
onward (ins.InsertA w) o a = pushing (who.The w) (own_word w) a
onward ins.InsertRoot o a = knowing nothing (rooted a)
onward ins.InsertRootA o a = knowing nothing (rooted a)
onward (ins.InsertIn s) o a = knowing foreign_top a
onward ins.Pop o a = dropping (pop_words a.know o) a
onward (ins.PopUntil w) o a = until_at (until_by a.know a.claim w) w o a
onward (ins.ClearBackTo g) o a = knowing (context_know a.know g o) (dropping (λ v. not (in_group g v)) a)
onward ins.PopToRoot o a = dropping (λ v. not (is_vital v)) a
onward ins.GenerateImplied o a = knowing (implied_know a.know who.Nobody o) (dropping (in_group group.ClosedImplicitly) a)
onward ins.GenerateImpliedThoroughly o a = knowing (thorough_know a.know) (dropping (in_group group.ClosedThoroughly) a)
onward (ins.GenerateImpliedBut w) o a = knowing (implied_know a.know w o) (dropping (in_group group.ClosedImplicitly) a)
onward (ins.Close s w) o a = dropping (closed_words s w o) a
onward (ins.CloseItem w) o a = dropping (item_words w o) a
onward ins.AnyOtherEnd o a = dropping (other_words o) a
onward ins.Reconstruct o a = knowing nothing a
onward ins.FramesetNotOk o a = record a { debt = paid_ok a.debt }
onward ins.PushHead o a = knowing headed a
onward ins.TakeHeadOff o a = knowing (without_head a.know) a
onward ins.EndForm o a = dropping (closed_words scope.Default (who.The word.Form) o) a
onward (ins.SwitchMode m) o a = entering m a
onward ins.SaveMode o a = record a { keeps = true; waits = true }
onward ins.RestoreMode o a = record a { keeps = false; waits = false; text = false }
onward (ins.PushTemplateMode m) o a = record a { debt = even }
onward ins.PopTemplateMode o a = record a { debt = popped_debt a.debt }
onward ins.ResetMode o a = record a { claim = fits; know = nothing; text = false }
onward ins.InsertPending o a = knowing nothing a
onward _ o a = a

-- where the next instruction is left out
abbrev pub leaving_out : Instr → Own → At → At
leaving_out (ins.When c) o a = unlearn c a
leaving_out (ins.Unless c) o a = learn c a
leaving_out _ o a = a

abbrev pub may_skip : Instr → Bool
may_skip (ins.When c) = true
may_skip (ins.Unless c) = true
may_skip _ = false

-- it leaves the row
abbrev pub leaves : Instr → Bool
leaves ins.Finish = true
leaves _ = false

-- a row from an instruction on, or from the one behind it where `left_out`
abbrev pub grounds : (Mode → Mode → Bool) → Own → At → Bool → List Instr → Bool
grounds h o a left_out [] = rests a
grounds h o a true (i ∷ is) = grounds h o a false is
grounds h o a false (i ∷ is) = may h i o a && (leaves i || (grounds h o (onward i o a) false is && (if may_skip i then grounds h o (leaving_out i o a) true is else true)))

-- where a row begins, for the main mode
abbrev pub is_bare_mode : Mode → Bool
is_bare_mode mode.BeforeHead = true
is_bare_mode mode.InHead = true
is_bare_mode mode.AfterHead = true
is_bare_mode mode.InFrameset = true
is_bare_mode _ = false

abbrev pub start : Mode → Bool → Bool → Know → At
start m keeps text k = record { claim = the m; know = k; bare = is_bare_mode m; full = not (is_early m); debt = even; keeps = keeps; waits = false; text = text }
