-- No script's end tag stops the parser of a fragment.
use Rattle.std.proofs.Common.{◌≡◌, refl, sym, ap, ◌∙◌, true≢false, ℕ, zero, suc, Bool, true, false, ◌&&◌, List, [], ◌∷◌, ◌++◌, Option, Some, None}
use Rattle.std.specs.Prelude.{is_some, if◌then◌else◌}
use Rattle.html_types.specs.declared.word.Word.{Word}
use Rattle.html_types.specs.declared.word.Word.TheVariants as word
use Rattle.html_types.specs.declared.name.Name.{Name}
use Rattle.html_types.specs.declared.name.Name.TheVariants.{Known, Other}
use Rattle.html_types.specs.declared.instruction.Instr.{Instr}
use Rattle.html_types.specs.declared.instruction.Instr.TheVariants as ins
use Rattle.html_types.specs.declared.instruction.Flow.{Flow}
use Rattle.html_types.specs.declared.instruction.Flow.TheVariants.{On, Skip, Leave}
use Rattle.html_types.specs.declared.instruction.Next.{Next}
use Rattle.html_types.specs.declared.instruction.Next.TheVariants as next
use Rattle.html_types.specs.declared.instruction.Then.{Then}
use Rattle.html_types.specs.declared.instruction.Mode.{Mode}
use Rattle.html_types.specs.declared.instruction.Mode.TheVariants.{InBody}
use Rattle.html_types.specs.declared.token.Token.{Token}
use Rattle.html_types.specs.declared.token.Token.TheVariants.{StartTag, EndTag, Character}
use Rattle.html_types.specs.declared.operation.NodeId.{NodeId}
use Rattle.html_types.specs.declared.operation.Op.{Op}
use Rattle.html_types.specs.declared.open.Open.{Open}
use Rattle.html_types.specs.declared.open.OpenElement.{OpenElement}
use Rattle.html_types.specs.Names.{name_text}
use Rattle.standard.specs.Elements.{is_word}
use Rattle.standard.specs.Formatting.{entry_named}
use Rattle.standard.specs.Instructions.{Config, config, on, holds, for_tag, foreign_end, end_foreign_with, end_foreign, adopt_name, adopt_own, adopt_anchor, next_at_script, stop_at_script, append_pending, all_space, texts, here, body_characters, none_pending, insert_pending, step, run}
use Rattle.standard.specs.Adoption.{Adopted, adopt}
use Rattle.standard.specs.RulesBody.{after_adopt}
use Rattle.standard.specs.Rules.{Answer, answer, next_of, row, by_mode, adopting, with_adoption, by_rules, rules_for, round_after, go_round, process, rounds, is_line_feed, settled_answer, construct}
use Rattle.rule_laws.specs.Fragments.{asks_for_script, IsFragment, TokensNeverStop}
use Rattle.rule_laws.proofs.Closed.{goes_on, body_characters-went, step-in, step-went, by_mode-in, by_rules-in}
use Rattle.rule_laws.proofs.Calm.{Any, any}
use Rattle.rule_laws.proofs.Contexts.{Stays, stays, adopt-context}

-- whether a row that goes on so asks for a script
abbrev asks : Flow → Bool
asks On = false
asks Skip = false
asks (Leave n) = asks_for_script n

went-asks : (f : Flow) → goes_on f ≡ true → asks f ≡ false
went-asks On w = refl
went-asks Skip w = refl
went-asks (Leave (next.Script i)) w = absurd (true≢false (sym w))
went-asks (Leave _) w = refl

either : (v : Bool) (f g : Flow) → asks f ≡ false → asks g ≡ false → asks (if v then f else g) ≡ false
either true f g p q = p
either false f g p q = q

-- ---- one instruction

append_pending-asks : (t : Token) (b : Open) (o : List Op) → asks (append_pending t b o).flow ≡ false
append_pending-asks (Character c) b o = refl
append_pending-asks _ b o = refl

pending-asks : (b : Open) (o : List Op) → asks (insert_pending b o).flow ≡ false
pending-asks b o = by (all_space b.pending_text)
  where
    by : (v : Bool) → asks (let c : Config = if v then on (record b { pending_text = [] }) (o ++ texts (here b) b.pending_text) else none_pending (body_characters b.pending_text (on (record b { foster = true }) o)) in c.flow) ≡ false
    by true = refl
    by false =
        let r : Config = body_characters b.pending_text (on (record b { foster = true }) o) in
        went-asks r.flow (body_characters-went Any any b.pending_text b (record b { foster = true }) o On tt refl).1

adopt_name-asks : (n : Name) (b : Open) (o : List Op) → asks (adopt_name n b o).flow ≡ false
adopt_name-asks (Known w) b o = refl
adopt_name-asks (Other s text) b o = refl

adopt-asks : (t : Token) (b : Open) (o : List Op) → asks (for_tag adopt_own t b o).flow ≡ false
adopt-asks (StartTag tag) b o = adopt_name-asks tag.name b o
adopt-asks (EndTag tag) b o = adopt_name-asks tag.name b o
adopt-asks _ b o = refl

anchor-asks : (i : Option NodeId) (b : Open) (o : List Op) → asks (adopt_anchor i b o).flow ≡ false
anchor-asks None b o = refl
anchor-asks (Some i) b o = refl

foreign-asks : (es : Option (List OpenElement)) (b : Open) (o : List Op) → asks (end_foreign_with es b o).flow ≡ false
foreign-asks None b o = refl
foreign-asks (Some es) b o = refl

foreign_end-asks : (t : Token) (b : Open) (o : List Op) → asks (for_tag end_foreign t b o).flow ≡ false
foreign_end-asks (StartTag tag) b o = foreign-asks (foreign_end (name_text tag.name) b.stack b.stack) b o
foreign_end-asks (EndTag tag) b o = foreign-asks (foreign_end (name_text tag.name) b.stack b.stack) b o
foreign_end-asks _ b o = refl

script-asks : (es : List OpenElement) (b : Open) (o : List Op) → IsFragment b → asks (stop_at_script es b o).flow ≡ false
script-asks [] b o h = refl
script-asks (e ∷ es) b o h = by b.context h
  where
    by : (c : Option OpenElement) → is_some c ≡ true → asks_for_script (next_at_script c e.id) ≡ false
    by None h' = absurd (true≢false (sym h'))
    by (Some c) h' = refl

step-asks : (i : Instr) (t : Token) (b : Open) (o : List Op) → IsFragment b → asks (step i t b o).flow ≡ false
step-asks (ins.Need c) t b o h = either (holds c t b) On (Leave next.Done) refl refl
step-asks (ins.Forbid c) t b o h = either (holds c t b) (Leave next.Done) On refl refl
step-asks (ins.When c) t b o h = either (holds c t b) On Skip refl refl
step-asks (ins.Unless c) t b o h = either (holds c t b) Skip On refl refl
step-asks (ins.SwitchMode m) t b o h = refl
step-asks ins.SaveMode t b o h = refl
step-asks ins.RestoreMode t b o h = refl
step-asks (ins.PushTemplateMode m) t b o h = refl
step-asks ins.PopTemplateMode t b o h = refl
step-asks ins.ResetMode t b o h = refl
step-asks ins.AppendPending t b o h = append_pending-asks t b o
step-asks ins.InsertPending t b o h = pending-asks b o
step-asks ins.Adopt t b o h = adopt-asks t b o
step-asks ins.AdoptAnchor t b o h = anchor-asks (entry_named (is_word word.A) b.formats) b o
step-asks ins.AdoptNobr t b o h = refl
step-asks (ins.SwitchTokenizer r) t b o h = refl
step-asks (ins.UsingRules m) t b o h = refl
step-asks ins.InBodyFostering t b o h = refl
step-asks ins.Reprocess t b o h = refl
step-asks ins.StopAtScript t b o h = script-asks b.stack b o h
step-asks ins.Finish t b o h = refl
step-asks ins.BreakOut t b o h = refl
step-asks ins.ForeignEnd t b o h = foreign_end-asks t b o
step-asks i t b o h = went-asks (step i t b o).flow (step-went Any any i t b o refl).1

-- ---- rows and rounds

still : (b c : Open) → Stays b c → IsFragment b → IsFragment c
still b c s h = ap (λ x. is_some x) s ∙ h

run-asks : (is : List Instr) (t : Token) (b : Open) (o : List Op) (f : Flow) → IsFragment b → asks f ≡ false → asks (run t (config b o f) is).flow ≡ false
unfolding run
run-asks [] t b o f h w = w
run-asks (i ∷ is) t b o On h w =
    let c : Config = step i t b o in
    run-asks is t c.open_state c.ops c.flow (still b c.open_state (step-in Stays stays i t b o) h) (step-asks i t b o h)
run-asks (i ∷ is) t b o Skip h w = run-asks is t b o On h refl
run-asks (i ∷ is) t b o (Leave n) h w = run-asks is t b o (Leave n) h w

next-asks : (f : Flow) → asks f ≡ false → asks_for_script (next_of f) ≡ false
next-asks On w = refl
next-asks Skip w = refl
next-asks (Leave n) w = w

by_mode-asks : (m : Mode) (t : Token) (b : Open) (o : List Op) → IsFragment b → asks_for_script (by_mode m t b o).next ≡ false
unfolding by_mode
by_mode-asks m t b o h = next-asks (run t (on b o) (row m t)).flow (run-asks (row m t) t b o On h refl)

adopting-asks : (w : Word) (x : Then) (t : Token) (b : Open) (o : List Op) → IsFragment b → asks_for_script (adopting w x t b o).next ≡ false
unfolding adopting
adopting-asks w x t b o h =
    let a : Adopted = adopt w b o in
    next-asks (run t (on a.open_state a.ops) (after_adopt x a.other)).flow (run-asks (after_adopt x a.other) t a.open_state a.ops On (still b a.open_state (adopt-context w b o) h) refl)

with_adoption-asks : (t : Token) (b : Open) (o : List Op) (n : Next) → IsFragment b → asks_for_script n ≡ false → asks_for_script (with_adoption t b o n).next ≡ false
with_adoption-asks t b o (next.Adopt w x) h s = adopting-asks w x t b o h
with_adoption-asks t b o (next.Script i) h s = s
with_adoption-asks t b o _ h s = refl

by_rules-asks : (m : Mode) (t : Token) (b : Open) (o : List Op) → IsFragment b → asks_for_script (by_rules m t b o).next ≡ false
by_rules-asks m t b o h =
    let a : Answer = by_mode m t b o in
    with_adoption-asks t a.open_state a.ops a.next (still b a.open_state (by_mode-in Stays stays m t b o) h) (by_mode-asks m t b o h)

round-asks : (t : Token) (more : Mode → Answer) (b : Open) (o : List Op) (n : Next) → asks_for_script n ≡ false → ((m : Mode) → asks_for_script (more m).next ≡ false)
    → asks_for_script (go_round more b o (round_after t b n)).next ≡ false
round-asks t more b o next.Reprocess s each = each (rules_for t b)
round-asks t more b o (next.UsingRules m) s each = each m
round-asks t more b o next.InBodyFostering s each = each InBody
round-asks t more b o (next.Script i) s each = s
round-asks t more b o _ s each = refl

process-asks : (n : ℕ) (m : Mode) (t : Token) (b : Open) (o : List Op) → IsFragment b → asks_for_script (process n m t b o).next ≡ false
unfolding process
process-asks zero m t b o h = refl
process-asks (suc n) m t b o h =
    let a : Answer = by_rules m t b o in
    round-asks t (λ m'. process n m' t a.open_state a.ops) a.open_state a.ops a.next (by_rules-asks m t b o h)
    (λ m'. process-asks n m' t a.open_state a.ops (still b a.open_state (by_rules-in Stays stays m t b o) h))

pub tokens-never_stop : TokensNeverStop
unfolding construct
tokens-never_stop t b o h = by (b.skip_line_feed && is_line_feed t)
  where
    b' : Open
    b' = record b { skip_line_feed = false }

    by : (v : Bool) → asks_for_script (settled_answer (if v then answer b' o next.Done else process rounds (rules_for t b) t b' o)).next ≡ false
    by true = refl
    by false = process-asks rounds (rules_for t b) t b' o h
