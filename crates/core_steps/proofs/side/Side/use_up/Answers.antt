use Rattle.std.proofs.Common.{◌+◌, ◌∙◌, List, ℕ, ap, subst, sym, take, arith, length}
use Rattle.std.specs.Str.{chars, encode_utf8_all, IsCharBoundary}
use Rattle.core_definitions.specs.Batches.{Piece}
use Rattle.page_pieces.specs.Keeping.{Kept}
use Rattle.core_steps.proofs.Uses.{left-boundary, use-fits, uses-up}
use Rattle.core_steps.proofs.side.Side.use_up.Goals as goal

pub count_front-characters-requires : goal.count_front-characters-requires
count_front-characters-requires c =
    let is = c.text-left.ensures ∙ ap (λ (x : Piece). x.text) c.left.ensures in
    subst (λ (x : List ℕ). IsCharBoundary (encode_utf8_all x) c.args.bytes) (sym is)
    (left-boundary c.args.self.now.ledger.left.text c.as_str-read.result.now c.args.bytes (c.as_str-read.ensures ∙ is) c.as_str-read.utf8 c.requires.front)

pub used-requires : goal.used-requires
used-requires c =
    left-boundary c.args.self.now.ledger.left.text c.as_str-read.result.now c.args.bytes (c.as_str-read.ensures ∙ (c.text-left.ensures ∙ ap (λ (x : Piece). x.text) c.left.ensures)) c.as_str-read.utf8 c.requires.front

pub overflow_add-self : goal.overflow_add-self
overflow_add-self c =
    let is = c.text-left.ensures ∙ ap (λ (x : Piece). x.text) c.left.ensures in
    let fits = use-fits c.args.self.now c.as_str-read.result.now c.args.bytes c.count_front-characters.result (c.as_str-read.ensures ∙ is) c.as_str-read.utf8 c.requires.front
    (c.count_front-characters.ensures ∙ ap (λ x. length (chars (take c.args.bytes (encode_utf8_all x)))) is) c.requires.placed in
    omega arith

pub returns : goal.returns
returns c =
    let is = c.text-left.ensures ∙ ap (λ (x : Piece). x.text) c.left.ensures in
    uses-up c.args.self.now c.as_str-read.result.now c.args.bytes c.count_front-characters.result (c.as_str-read.ensures ∙ is) c.as_str-read.utf8 c.requires.front
    (c.count_front-characters.ensures ∙ ap (λ x. length (chars (take c.args.bytes (encode_utf8_all x)))) is) c.requires.placed _
    (ap (λ (k : Kept). record c.args.self.now { ledger = k; counts = record c.args.self.now.counts { place = c.args.self.now.counts.place + c.count_front-characters.result } }) c.used.ensures)
