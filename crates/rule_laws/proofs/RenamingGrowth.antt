-- The next id stays or comes later: what holds of it and is kept from one id to the next holds of the next id then.
use Rattle.std.proofs.Common.{ℕ, ◌==◌, Bool, true, false, ◌&&◌, List, [], ◌∷◌}
use Rattle.html_types.specs.Operations.{later}
use Rattle.html_types.specs.declared.instruction.Instr.{Instr}
use Rattle.html_types.specs.declared.instruction.Mode.{Mode}
use Rattle.html_types.specs.declared.instruction.Flow.{Flow}
use Rattle.html_types.specs.declared.instruction.Next.{Next}
use Rattle.html_types.specs.declared.instruction.Next.TheVariants as next
use Rattle.html_types.specs.declared.instruction.Stop.TheVariants as stop
use Rattle.html_types.specs.declared.state.TokState.{TokState}
use Rattle.html_types.specs.declared.token.Tag.{Tag}
use Rattle.html_types.specs.declared.token.Token.{Token}
use Rattle.html_types.specs.declared.operation.NodeId.{NodeId}
use Rattle.html_types.specs.declared.operation.Op.{Op}
use Rattle.html_types.specs.declared.open.Open.{Open}
use Rattle.standard.specs.Entities.{Entities}
use Rattle.standard.specs.Foreign.{is_foreign}
use Rattle.standard.specs.Tokenizer.{read, read_end}
use Rattle.standard.specs.Instructions.{config, reopen, body_character, turn}
use Rattle.standard.specs.Rules.{Answer, by_mode, by_rules, construct}
use Rattle.standard.specs.Parser.{Parser, read_as, Took, took, after_ops, build_on, build, built, take_character, Finished, build_end_on, build_end, finish, Parsed, and_rest, parse}
use Rattle.rule_laws.specs.NamingLaws.{parser_of}
use Rattle.rule_laws.proofs.AdoptionGrowth.{adopt-grows}
use Rattle.rule_laws.proofs.Closed.{IsClosedWhole, reopen-went, body_character-went, turn-in, by_mode-in, by_rules-in, construct-in}

module _ (P : NodeId → Type 0) (one : (id : NodeId) → P id → P (later 1 id)) where
  abbrev Grows : Open → Open → Type 0
  Grows b c = P b.next → P c.next

  grows : IsClosedWhole Grows
  grows = record {
    parts = record {
      same = λ b h. h;
      onward = λ a b c f g h. g (f h);
      opens = λ b e r h. h;
      thins = λ b es t h. h;
      gives = λ b h. one b.next h;
      lists = λ b fs h. h;
      points = λ b head form h. h;
      marks = λ b ok quirks skip foster h. h;
    };
    modes = λ b m original templates h. h;
    pends = λ b text h. h;
    adopts = λ w b o h. adopt-grows P one w b o h;
  }

  pub reopen-grows : (tag : Tag) (b : Open) (o : List Op) → P b.next → P (reopen tag b o).open_state.next
  reopen-grows tag b o = (reopen-went Grows grows.parts tag b o).0

  pub body_character-grows : (c : ℕ) (b : Open) (o : List Op) → P b.next → P (body_character c b o).open_state.next
  body_character-grows c b o = (body_character-went Grows grows.parts c b o).0

  pub turn-grows : (t : Token) (b : Open) (o : List Op) (n : Flow) (i : Instr) → P b.next → P (turn t (config b o n) i).open_state.next
  turn-grows t b o n i = turn-in Grows grows t b o n i

  pub by_mode-grows : (m : Mode) (t : Token) (b : Open) (o : List Op) → P b.next → P (by_mode m t b o).open_state.next
  by_mode-grows m t b o = by_mode-in Grows grows m t b o

  pub by_rules-grows : (m : Mode) (t : Token) (b : Open) (o : List Op) → P b.next → P (by_rules m t b o).open_state.next
  by_rules-grows m t b o = by_rules-in Grows grows m t b o

  pub construct-grows : (t : Token) (b : Open) (o : List Op) → P b.next → P (construct t b o).open_state.next
  construct-grows t b o = construct-in Grows grows t b o

  -- ---- texts

  after-grows : (ops : List Op) (x : Took) → P (parser_of x).open_state.next → P (parser_of (after_ops ops x)).open_state.next
  after-grows ops (took more p why) h = h

  build_on-grows : (s : TokState) (cr : Bool) (t : Token) (b : Open) (rest : TokState → Took) (n : Next) → P b.next
      → ((s' : TokState) → P (parser_of (rest s')).open_state.next) → P (parser_of (build_on s cr t b rest n)).open_state.next
  build_on-grows s cr t b rest next.Done h each = each s
  build_on-grows s cr t b rest (next.SwitchTokenizer r) h each = each (read_as r t)
  build_on-grows s cr t b rest (next.Script id) h each = h
  build_on-grows s cr t b rest next.Deep h each = h
  build_on-grows s cr t b rest (next.Adopt w i) h each = each s
  build_on-grows s cr t b rest next.Reprocess h each = each s
  build_on-grows s cr t b rest (next.UsingRules m) h each = each s
  build_on-grows s cr t b rest next.InBodyFostering h each = each s
  build_on-grows s cr t b rest next.Finished h each = each s

  build-grows : (s : TokState) (cr : Bool) (ts : List Token) (b : Open) → P b.next → P (parser_of (build s cr ts b)).open_state.next
  unfolding build
  build-grows s cr [] b h = h
  build-grows s cr (t ∷ ts) b h =
      let a : Answer = construct t b [] in
      let g : P a.open_state.next = construct-grows t b [] h in
      after-grows a.ops (build_on s cr t a.open_state (λ s'. build s' cr ts a.open_state) a.next)
      (build_on-grows s cr t a.open_state (λ s'. build s' cr ts a.open_state) a.next g (λ s'. build-grows s' cr ts a.open_state g))

  pub character-grows : (es : Entities) (p : Parser) (c : ℕ) → P p.open_state.next → P (parser_of (take_character es p c)).open_state.next
  unfolding take_character
  character-grows es p c h = by (p.after_cr && (c == 10)) (c == 13)
    where
      by : (skips cr : Bool) → P (parser_of (elim skips as (λ _. Took) [
        | true ↦ took [] (record p { after_cr = false }) stop.InputEnd
        | false ↦ elim cr as (λ _. Took) [ true ↦ built p true (read es (is_foreign p.open_state) p.tokenizer 10) | false ↦ built p false (read es (is_foreign p.open_state) p.tokenizer c) ]
      ])).open_state.next
      by true cr = h
      by false true = build-grows (read es (is_foreign p.open_state) p.tokenizer 10).state true (read es (is_foreign p.open_state) p.tokenizer 10).tokens p.open_state h
      by false false = build-grows (read es (is_foreign p.open_state) p.tokenizer c).state false (read es (is_foreign p.open_state) p.tokenizer c).tokens p.open_state h

  build_end_on-grows : (s : TokState) (cr : Bool) (b : Open) (rest : Finished) (n : Next) → P b.next → P rest.parser.open_state.next → P (build_end_on s cr b rest n).parser.open_state.next
  build_end_on-grows s cr b rest next.Done h g = g
  build_end_on-grows s cr b rest (next.SwitchTokenizer r) h g = g
  build_end_on-grows s cr b rest (next.Script id) h g = g
  build_end_on-grows s cr b rest next.Deep h g = h
  build_end_on-grows s cr b rest (next.Adopt w i) h g = g
  build_end_on-grows s cr b rest next.Reprocess h g = g
  build_end_on-grows s cr b rest (next.UsingRules m) h g = g
  build_end_on-grows s cr b rest next.InBodyFostering h g = g
  build_end_on-grows s cr b rest next.Finished h g = h

  build_end-grows : (s : TokState) (cr : Bool) (ts : List Token) (b : Open) → P b.next → P (build_end s cr ts b).parser.open_state.next
  unfolding build_end
  build_end-grows s cr [] b h = h
  build_end-grows s cr (t ∷ ts) b h =
      let a : Answer = construct t b [] in
      let g : P a.open_state.next = construct-grows t b [] h in
      build_end_on-grows s cr a.open_state (build_end s cr ts a.open_state) a.next g (build_end-grows s cr ts a.open_state g)

  pub end-grows : (es : Entities) (p : Parser) → P p.open_state.next → P (finish es p).parser.open_state.next
  unfolding finish
  end-grows es p h = build_end-grows (read_end es (is_foreign p.open_state) p.tokenizer).state p.after_cr (read_end es (is_foreign p.open_state) p.tokenizer).tokens p.open_state h

  rest-grows : (x : Took) (rest : Parser → Parsed) → P (parser_of x).open_state.next → ((p : Parser) → P p.open_state.next → P (rest p).parser.open_state.next) → P (and_rest x rest).parser.open_state.next
  rest-grows (took ops p stop.InputEnd) rest h each = each p h
  rest-grows (took ops p (stop.Script id)) rest h each = h
  rest-grows (took ops p stop.Deep) rest h each = h

  pub text-grows-by : (text : List ℕ) (es : Entities) (p : Parser) → P p.open_state.next → P (parse es p text).parser.open_state.next
  unfolding parse
  text-grows-by [] es p h = h
  text-grows-by (c ∷ cs) es p h = rest-grows (take_character es p c) (λ p'. parse es p' cs) (character-grows es p c h) (λ p'. text-grows-by cs es p')
