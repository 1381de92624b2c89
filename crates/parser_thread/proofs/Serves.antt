-- One request more, and its reply.
use Rattle.std.proofs.Common.{◌≡◌, List, [], ◌∷◌, ◌++◌, Option, Some, map, refl, ap, sym, ◌∙◌}
use Rattle.std.proofs.lemmas.List.{map-append}
use Rattle.standard.specs.Entities.{Entities}
use Rattle.standard.specs.Parser.{Parser}
use Rattle.core_definitions.specs.Core.{first_work, started, answer_to, reply_to}
use Rattle.speculation.specs.declared.in_force.InForce as InForce
use Rattle.speculation.specs.declared.reply.Reply.{Reply}
use Rattle.speculation.specs.Asking.{Asked, Told}
use Rattle.parser_thread.specs.declared.messages.ToParser.{ToParser}
use Rattle.parser_thread.specs.declared.messages.ToParser.TheVariants.{Ask}
use Rattle.parser_thread.specs.declared.messages.FromParser.{FromParser}
use Rattle.parser_thread.specs.declared.messages.FromParser.TheVariants.{Answer}
use Rattle.parser_thread.specs.Answers.{told_to, end_of, answers, after, said, replies, Serving}

after-snoc : (es : Entities) (last : Option Parser) (qs : List Asked) (q : Asked) → after es last (qs ++ q ∷ []) ≡ end_of es (after es last qs) q
after-snoc es last [] q = refl
after-snoc es last (x ∷ qs) q = after-snoc es (end_of es last x) qs q

answers-snoc : (es : Entities) (last : Option Parser) (qs : List Asked) (q : Asked) → answers es last (qs ++ q ∷ []) ≡ answers es last qs ++ told_to es (after es last qs) q ∷ []
answers-snoc es last [] q = refl
answers-snoc es last (x ∷ qs) q = ap (λ l. told_to es last x ∷ l) (answers-snoc es (end_of es last x) qs q)

-- all that a reply says
is-told : (es : Entities) (last : Option Parser) (q : Asked) (t : Told)
    → t.reply ≡ reply_to q.request (answer_to es last q.request).batches → t.start ≡ started q.request.start last → t.piece ≡ q.request.piece → t.from ≡ q.from → t ≡ told_to es last q
is-told es last q t reply start piece from = λ i. record { reply = reply i; start = start i; piece = piece i; from = from i }

module _ {E : Type 0} (g : InForce.Ghosts E) where
  -- the premises are the contracts of the three calls of a step, so that an answer cites those alone
  pub serves : (w w' : Option Parser) (taken taken' : List ToParser) (given given' : List (FromParser E g)) (q : Asked) (r : Reply E g)
      → taken' ≡ taken ++ Ask q ∷ []
      → r.said.reply ≡ reply_to q.request (answer_to g.entities w q.request).batches → r.said.start ≡ started q.request.start w → r.said.piece ≡ q.request.piece → r.said.from ≡ q.from
      → w' ≡ (answer_to g.entities w q.request).parser → given' ≡ given ++ Answer r ∷ [] → Serving g w taken given → Serving g w' taken' given'
  serves w w' taken taken' given given' q r takes reply start piece from then gives (qs, took, gave, at) =
      let first : Option Parser = first_work.parser in (
        qs ++ q ∷ [],
        takes ∙ ap (λ l. l ++ Ask q ∷ []) took ∙ sym (map-append Ask qs (q ∷ [])),
        ap (map (said g)) gives
            ∙ map-append (said g) given (Answer r ∷ [])
            ∙ ap (λ l. l ++ Some r.said ∷ []) gave
            ∙ ap (λ u. replies g qs ++ Some u ∷ []) (is-told g.entities w q r.said reply start piece from ∙ ap (λ u. told_to g.entities u q) at)
            ∙ sym (ap (map Some) (answers-snoc g.entities first qs q) ∙ map-append Some (answers g.entities first qs) (told_to g.entities (after g.entities first qs) q ∷ [])),
        then ∙ ap (λ u. end_of g.entities u q) at ∙ sym (after-snoc g.entities first qs q),
      )
