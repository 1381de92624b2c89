use Rattle.core_steps.proofs.Does.{on_ok, taken-sound, taken-does, taken-shown, taken-less}
use Rattle.std.proofs.Common.{refl}
use Rattle.core_steps.specs.Sides.{desk_of, IsSound}
use Rattle.core_steps.proofs.Logged.{sound-pends, sound-halts, taken-makes}
use Rattle.core_steps.proofs.side.Side.act.Goals as goal

pub returns-clause-sound : goal.returns-clause-sound
returns-clause-sound c =
    on_ok c.add_event.result _ _
    (λ added. taken-sound c.args.self.now c.replace-stage.result c.replace-stage.new.dest c.act_in.new.self c.add_event.new.self c.replace-stage.ensures.value c.replace-stage.ensures.after c.requires.sound
    c.requires.can c.in_ok-act_in.ensures.acts c.in_ok-act_in.ensures.journal added)
    c.add_event.ensures.ok

pub returns-clause-does : goal.returns-clause-does
returns-clause-does c =
    on_ok c.add_event.result _ _
    (λ added. taken-does c.args.self.now c.replace-stage.result c.replace-stage.new.dest c.act_in.new.self c.add_event.new.self c.replace-stage.ensures.value c.replace-stage.ensures.after c.requires.sound
    c.requires.can c.in_ok-act_in.ensures.acts c.in_ok-act_in.ensures.journal added)
    c.add_event.ensures.ok

pub returns-clause-less : goal.returns-clause-less
returns-clause-less c =
    on_ok c.add_event.result _ _
    (λ added. taken-less c.args.self.now c.replace-stage.result c.replace-stage.new.dest c.act_in.new.self c.add_event.new.self c.replace-stage.ensures.value c.replace-stage.ensures.after c.requires.sound
    c.requires.can c.in_ok-act_in.ensures.acts c.in_ok-act_in.ensures.journal added)
    c.add_event.ensures.ok

pub returns-clause-others : goal.returns-clause-others
returns-clause-others c =
    on_ok c.add_event.result _ _
    (λ added. taken-shown c.args.self.now c.replace-stage.result c.replace-stage.new.dest c.act_in.new.self c.add_event.new.self c.replace-stage.ensures.value c.replace-stage.ensures.after c.requires.sound
    c.requires.can c.in_ok-act_in.ensures.acts c.in_ok-act_in.ensures.journal added)
    c.add_event.ensures.ok

pub returns-clause-logged : goal.returns-clause-logged
returns-clause-logged c =
    on_ok c.add_event.result _ _
    (λ added.
    let sound : IsSound (record c.act_in.new.self { journal = c.add_event.new.self }) =
    taken-sound c.args.self.now c.replace-stage.result c.replace-stage.new.dest c.act_in.new.self c.add_event.new.self c.replace-stage.ensures.value c.replace-stage.ensures.after c.requires.sound
    c.requires.can c.in_ok-act_in.ensures.acts c.in_ok-act_in.ensures.journal added in
    taken-makes c.args.self.now c.replace-stage.result c.replace-stage.new.dest c.act_in.new.self (desk_of (record c.act_in.new.self { journal = c.add_event.new.self })) c.args.log.now c.act_in.new.log c.replace-stage.ensures.value
    c.requires.sound refl refl (sound-pends (record c.act_in.new.self { journal = c.add_event.new.self }) sound) (sound-halts (record c.act_in.new.self { journal = c.add_event.new.self }) sound)
    c.in_ok-act_in.ensures.logged) c.add_event.ensures.ok
