use Rattle.std.proofs.Common.{◌≡◌, ℕ, List, ◌∙◌, sym, ap, length, take}
use Rattle.std.specs.Str.{chars}
use Rattle.std.proofs.lemmas.List.{map-id}
use Rattle.std.proofs.lemmas.Iterator.{YieldsList-from_chars}
use Rattle.std.proofs.lemmas.Iterator.Consumers.{YieldsList-so_far, YieldsList-turn, YieldsList-end}
use Rattle.standard.specs.Instructions.{config, on, body_characters}
use Rattle.builder_state.proofs.Characters.{body_more, body_left}
use Rattle.builder_state.proofs.pending.insert_body_characters.Goals as goal

pub loop-c-preserved : goal.loop-c-preserved
loop-c-preserved c =
    let done = ap (config c.insert_body_character.new.state c.insert_body_character.new.ops) (sym c.in-On.is) ∙ c.in_ok-left.ensures.done in
    (body_more c.loop-c.yielded c.in-Some.c _ _ _ _ _ c.loop-c.invariant.0 done, c.in_ok-left.ensures.bounded)

pub returns-in_default : goal.returns-in_default
returns-in_default c =
    let road = YieldsList-from_chars c.args.text.now c.utf8.text (cc) in
    let yielded = c.loop-c.yielded in
    let front : yielded ≡ take (length yielded) (chars c.args.text.now) = sym (map-id yielded) ∙ YieldsList-so_far road yielded _ c.loop-c.yielded_by in
    let at = YieldsList-turn road yielded _ c.loop-c.yielded_by _ _ c.in-Some.c c.in-Some.is c.next.ensures.steps in
    record {
      done = body_left (chars c.args.text.now) yielded c.in-Some.c _ _ _ _ _ _ _ front at.0 at.1 c.loop-c.invariant.0 c.in_ok-left.ensures.done c.in_default.not-On;
      bounded = c.in_ok-left.ensures.bounded;
    }

pub returns-clause-done : goal.returns-clause-done
returns-clause-done c =
    let all = YieldsList-end (YieldsList-from_chars c.args.text.now c.utf8.text (cc)) c.loop-c.yielded _ c.loop-c.yielded_by _ _ c.in-None.is c.next.ensures.steps in
    sym c.loop-c.invariant.0 ∙ ap (λ (l : List ℕ). body_characters l (on c.args.state.now c.args.ops.now)) (sym (map-id c.loop-c.yielded) ∙ all.0)
