use Rattle.std.proofs.Common.{◌∙◌, sym, ap, append-nil, [], List}
use Rattle.html_types.specs.declared.class.Class.{Class}
use Rattle.html_types.specs.declared.token.Token.{Token}
use Rattle.standard.specs.Tokenizer.{Reached, after_tokens, reading}
use Rattle.tokenizer_laws.proofs.SettleLemmas.{reading-emit}
use Rattle.tokenizer.proofs.tokenizer.Tokenizer.read_character.Goals as goal

pub returns-then-branch : goal.returns-then-branch
returns-then-branch c =
    let es = c.args.table.now in
    let now = c.add_in_place.new.state in
    let before = c.self.inside.state in
    let done = reading-emit es c.args.foreign before now [] c.class_of-class.result c.args.c ((rw c.if-branch.true at c.in_ok-add_in_place.ensures) es c.args.foreign) in
    rw (← c.self.view_is)
    (ap (λ (l : List Token). record { tokens = l; state = now }) (sym (append-nil c.self.inside.waiting))
    ∙ ap (λ (m : Reached). after_tokens c.self.inside.waiting m) (sym done)
    ∙ ap (λ (k : Class). after_tokens c.self.inside.waiting (reading es c.args.foreign before k c.args.c)) c.class_of-class.ensures)
