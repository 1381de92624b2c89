-- The context of a fragment stays behind every token.
use Rattle.std.proofs.Common.{◌≡◌, refl, ◌∙◌, ℕ, zero, suc, Bool, true, false, not, List, Option, Some, None}
use Rattle.std.specs.Prelude.{if◌then◌else◌}
use Rattle.html_types.specs.declared.word.Word.{Word}
use Rattle.html_types.specs.declared.name.Name.{Name}
use Rattle.html_types.specs.declared.instruction.Scope.TheVariants as scope
use Rattle.html_types.specs.declared.instruction.Turn.{Turn}
use Rattle.html_types.specs.declared.instruction.Turn.TheVariants.{More, Over, Other}
use Rattle.html_types.specs.declared.token.Tag.{Tag}
use Rattle.html_types.specs.declared.token.Token.{Token}
use Rattle.html_types.specs.declared.operation.NodeId.{NodeId}
use Rattle.html_types.specs.declared.operation.Op.{Op}
use Rattle.html_types.specs.declared.open.Open.{Open}
use Rattle.standard.specs.Elements.{is_word}
use Rattle.standard.specs.Stack.{is_open, current_id, pop, open_in_scope, block_below}
use Rattle.standard.specs.Formatting.{entry_named, tag_of_entry, without_entry}
use Rattle.standard.specs.Adoption.{Turned, turned, turn_with, turn_at, turn, turns, Adopted, adopted, adopted_by, is_plain, adopt}
use Rattle.standard.specs.Rules.{construct}
use Rattle.rule_laws.proofs.Closed.{IsClosedWhole, construct-in}

turn_with-context : (f : NodeId) (tag : Option Tag) (block : Option NodeId) (b : Open) (o : List Op) → (turn_with f tag block b o).open_state.context ≡ b.context
turn_with-context f None block b o = refl
turn_with-context f (Some tag) None b o = refl
turn_with-context f (Some tag) (Some block) b o = refl

two : (v : Bool) (b : Open) (x y : Turned) → x.open_state.context ≡ b.context → y.open_state.context ≡ b.context → (if v then x else y).open_state.context ≡ b.context
two true b x y p q = p
two false b x y p q = q

turn_at-context : (f : Option NodeId) (b : Open) (o : List Op) → (turn_at f b o).open_state.context ≡ b.context
turn_at-context None b o = refl
turn_at-context (Some f) b o =
    two (not (is_open f b.stack)) b (turned (record b { formats = without_entry f b.formats }) o Over) _ refl
    (two (not (open_in_scope scope.Default f b.stack)) b (turned b o Over) (turn_with f (tag_of_entry f b.formats) (block_below f None b.stack) b o) refl
    (turn_with-context f (tag_of_entry f b.formats) (block_below f None b.stack) b o))

turns-context : (n : ℕ) (is : Name → Bool) (b : Open) (o : List Op) (t : Turn) → (turns n is (turned b o t)).open_state.context ≡ b.context
turns-context zero is b o t = refl
turns-context (suc n) is b o More =
    let c : Turned = turn is b o in
    turns-context n is c.open_state c.ops c.turn ∙ turn_at-context (entry_named is b.formats) b o
turns-context (suc n) is b o Over = refl
turns-context (suc n) is b o Other = refl

both : (v : Bool) (b : Open) (x y : Adopted) → x.open_state.context ≡ b.context → y.open_state.context ≡ b.context → (if v then x else y).open_state.context ≡ b.context
both true b x y p q = p
both false b x y p q = q

pub adopt-context : (w : Word) (b : Open) (o : List Op) → (adopt w b o).open_state.context ≡ b.context
unfolding adopt
adopt-context w b o =
    both (is_plain (is_word w) (current_id b.stack) b) b (adopted (record b { stack = pop b.stack }) o false) (adopted_by (turns 8 (is_word w) (turned b o More))) refl (turns-context 8 (is_word w) b o More)

abbrev pub Stays : Open → Open → Type 0
Stays b c = c.context ≡ b.context

pub stays : IsClosedWhole Stays
stays = record {
  parts = record {
    same = λ b. refl;
    onward = λ a b c f g. g ∙ f;
    opens = λ b e r. refl;
    thins = λ b es h. refl;
    gives = λ b. refl;
    lists = λ b fs. refl;
    points = λ b head form. refl;
    marks = λ b ok quirks skip foster. refl;
  };
  modes = λ b m original templates. refl;
  pends = λ b text. refl;
  adopts = adopt-context;
}

pub context-stays : (t : Token) (b : Open) (o : List Op) → (construct t b o).open_state.context ≡ b.context
context-stays t b o = construct-in Stays stays t b o
