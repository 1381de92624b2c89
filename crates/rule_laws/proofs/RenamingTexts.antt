-- Characters, texts and the end of the input come to the same under other ids.
use Rattle.std.proofs.Common.{◌≡◌, refl, ap, ◌∙◌, sym, ℕ, suc, ◌+◌, ◌==◌, ◌&&◌, Bool, true, false, List, [], ◌∷◌, arith}
use Rattle.std.proofs.lemmas.List.{map-append}
use Rattle.html_types.specs.Operations.{later}
use Rattle.html_types.specs.declared.instruction.Next.{Next}
use Rattle.html_types.specs.declared.instruction.Next.TheVariants as next
use Rattle.html_types.specs.declared.instruction.Stop.TheVariants as stop
use Rattle.html_types.specs.declared.state.TokState.{TokState}
use Rattle.html_types.specs.declared.token.Token.{Token}
use Rattle.html_types.specs.declared.operation.NodeId.{NodeId}
use Rattle.html_types.specs.declared.operation.Op.{Op}
use Rattle.html_types.specs.declared.open.Open.{Open}
use Rattle.standard.specs.Entities.{Entities}
use Rattle.standard.specs.Foreign.{is_foreign}
use Rattle.standard.specs.Tokenizer.{read, read_end}
use Rattle.standard.specs.Rules.{Answer, construct}
use Rattle.standard.specs.Parser.{Parser, read_as, Took, took, after_ops, build_on, build, built, take_character, Finished, after_all, build_end_on, build_end, finish, Parsed, after_character, and_rest, parse}
use Rattle.standard.specs.Act.{rename_op}
use Rattle.rule_laws.specs.Naming.{Renames, IsLater, rename_ops, rename_open, rename_next, rename_answer, rename_parser, rename_stop, rename_took, rename_finished, rename_parsed}
use Rattle.rule_laws.specs.NamingLaws.{parser_of, CharactersRename, EndsRename, TextsRename, LaterRenames, TokensGrow, CharactersGrow, EndsGrow, TextsGrow}
use Rattle.rule_laws.proofs.RenamingWalks.{is_foreign-renamed}
use Rattle.rule_laws.proofs.Renaming.{renames-one, construct-renamed}
use Rattle.rule_laws.proofs.RenamingGrowth.{construct-grows, character-grows, end-grows, text-grows-by}

module _ (r : NodeId → NodeId) where
  after-renamed : (ops : List Op) (x : Took) → after_ops (rename_ops r ops) (rename_took r x) ≡ rename_took r (after_ops ops x)
  after-renamed ops (took more p why) = ap (λ o. took o (rename_parser r p) (rename_stop r why)) (sym (map-append (rename_op r) ops more))

  build_on-renamed : (s : TokState) (cr : Bool) (t : Token) (b : Open) (rest rest' : TokState → Took) (n : Next) → ((s' : TokState) → rest' s' ≡ rename_took r (rest s'))
      → build_on s cr t (rename_open r b) rest' (rename_next r n) ≡ rename_took r (build_on s cr t b rest n)
  build_on-renamed s cr t b rest rest' next.Done h = h s
  build_on-renamed s cr t b rest rest' (next.SwitchTokenizer reading) h = h (read_as reading t)
  build_on-renamed s cr t b rest rest' (next.Script id) h = refl
  build_on-renamed s cr t b rest rest' (next.Adopt w x) h = h s
  build_on-renamed s cr t b rest rest' next.Deep h = refl
  build_on-renamed s cr t b rest rest' next.Reprocess h = h s
  build_on-renamed s cr t b rest rest' (next.UsingRules m) h = h s
  build_on-renamed s cr t b rest rest' next.InBodyFostering h = h s
  build_on-renamed s cr t b rest rest' next.Finished h = h s

  build-renamed : (s : TokState) (cr : Bool) (ts : List Token) (b : Open) → Renames r b.next → build s cr ts (rename_open r b) ≡ rename_took r (build s cr ts b)
  unfolding build
  build-renamed s cr [] b n = refl
  build-renamed s cr (t ∷ ts) b n =
      let a : Answer = construct t b [] in
      let a' : Answer = rename_answer r a in
      ap (λ (x : Answer). after_ops x.ops (build_on s cr t x.open_state (λ s'. build s' cr ts x.open_state) x.next)) (construct-renamed r t b [] n)
      ∙ (ap (after_ops (rename_ops r a.ops)) (build_on-renamed s cr t a.open_state (λ s'. build s' cr ts a.open_state) (λ s'. build s' cr ts a'.open_state) a.next
      (λ s'. build-renamed s' cr ts a.open_state (construct-grows (Renames r) (renames-one r) t b [] n)))
      ∙ after-renamed a.ops (build_on s cr t a.open_state (λ s'. build s' cr ts a.open_state) a.next))

  character-renamed : (es : Entities) (p : Parser) (c : ℕ) → Renames r p.open_state.next → take_character es (rename_parser r p) c ≡ rename_took r (take_character es p c)
  unfolding take_character
  character-renamed es p c n = by (p.after_cr && (c == 10)) (c == 13)
    where
      taken : Bool → Bool → Parser → Took
      taken skips cr q = elim skips as (λ _. Took) [
        | true ↦ took [] (record q { after_cr = false }) stop.InputEnd
        | false ↦ elim cr as (λ _. Took) [ true ↦ built q true (read es (is_foreign q.open_state) q.tokenizer 10) | false ↦ built q false (read es (is_foreign q.open_state) q.tokenizer c) ]
      ]

      by : (skips cr : Bool) → taken skips cr (rename_parser r p) ≡ rename_took r (taken skips cr p)
      by true cr = refl
      by false true =
          ap (λ (f : Bool). built (rename_parser r p) true (read es f p.tokenizer 10)) (is_foreign-renamed r p.open_state)
          ∙ build-renamed (read es (is_foreign p.open_state) p.tokenizer 10).state true (read es (is_foreign p.open_state) p.tokenizer 10).tokens p.open_state n
      by false false =
          ap (λ (f : Bool). built (rename_parser r p) false (read es f p.tokenizer c)) (is_foreign-renamed r p.open_state)
          ∙ build-renamed (read es (is_foreign p.open_state) p.tokenizer c).state false (read es (is_foreign p.open_state) p.tokenizer c).tokens p.open_state n

  -- ---- the end of the input

  build_end_on-renamed : (s : TokState) (cr : Bool) (b : Open) (rest rest' : Finished) (x : Next) → rest' ≡ rename_finished r rest
      → build_end_on s cr (rename_open r b) rest' (rename_next r x) ≡ rename_finished r (build_end_on s cr b rest x)
  build_end_on-renamed s cr b rest rest' next.Done h = h
  build_end_on-renamed s cr b rest rest' (next.SwitchTokenizer reading) h = h
  build_end_on-renamed s cr b rest rest' (next.Script id) h = h
  build_end_on-renamed s cr b rest rest' (next.Adopt w x) h = h
  build_end_on-renamed s cr b rest rest' next.Deep h = refl
  build_end_on-renamed s cr b rest rest' next.Reprocess h = h
  build_end_on-renamed s cr b rest rest' (next.UsingRules m) h = h
  build_end_on-renamed s cr b rest rest' next.InBodyFostering h = h
  build_end_on-renamed s cr b rest rest' next.Finished h = refl

  all-renamed : (ops : List Op) (f : Finished) → after_all (rename_ops r ops) (rename_finished r f) ≡ rename_finished r (after_all ops f)
  all-renamed ops f = ap (λ o. record (rename_finished r f) { ops = o }) (sym (map-append (rename_op r) ops f.ops))

  build_end-renamed : (s : TokState) (cr : Bool) (ts : List Token) (b : Open) → Renames r b.next → build_end s cr ts (rename_open r b) ≡ rename_finished r (build_end s cr ts b)
  unfolding build_end
  build_end-renamed s cr [] b n = refl
  build_end-renamed s cr (t ∷ ts) b n =
      let a : Answer = construct t b [] in
      let a' : Answer = rename_answer r a in
      ap (λ (x : Answer). after_all x.ops (build_end_on s cr x.open_state (build_end s cr ts x.open_state) x.next)) (construct-renamed r t b [] n)
      ∙ (ap (after_all (rename_ops r a.ops)) (build_end_on-renamed s cr a.open_state (build_end s cr ts a.open_state) (build_end s cr ts a'.open_state) a.next
      (build_end-renamed s cr ts a.open_state (construct-grows (Renames r) (renames-one r) t b [] n)))
      ∙ all-renamed a.ops (build_end_on s cr a.open_state (build_end s cr ts a.open_state) a.next))

  end-renamed : (es : Entities) (p : Parser) → Renames r p.open_state.next → finish es (rename_parser r p) ≡ rename_finished r (finish es p)
  unfolding finish
  end-renamed es p n =
      ap (λ (f : Bool). let x = read_end es f p.tokenizer in build_end x.state p.after_cr x.tokens (rename_open r p.open_state)) (is_foreign-renamed r p.open_state)
      ∙ build_end-renamed (read_end es (is_foreign p.open_state) p.tokenizer).state p.after_cr (read_end es (is_foreign p.open_state) p.tokenizer).tokens p.open_state n

  -- ---- a text

  character-after : (ops : List Op) (x : Parsed) → after_character (rename_ops r ops) (rename_parsed r x) ≡ rename_parsed r (after_character ops x)
  character-after ops x = ap (λ o. record (rename_parsed r x) { ops = o; used = suc x.used }) (sym (map-append (rename_op r) ops x.ops))

  rest-renamed : (x : Took) (rest rest' : Parser → Parsed) → Renames r (parser_of x).open_state.next
      → ((p : Parser) → Renames r p.open_state.next → rest' (rename_parser r p) ≡ rename_parsed r (rest p)) → and_rest (rename_took r x) rest' ≡ rename_parsed r (and_rest x rest)
  rest-renamed (took ops p stop.InputEnd) rest rest' n h = ap (after_character (rename_ops r ops)) (h p n) ∙ character-after ops (rest p)
  rest-renamed (took ops p (stop.Script id)) rest rest' n h = refl
  rest-renamed (took ops p stop.Deep) rest rest' n h = refl

  text-renamed : (text : List ℕ) (es : Entities) (p : Parser) → Renames r p.open_state.next → parse es (rename_parser r p) text ≡ rename_parsed r (parse es p text)
  unfolding parse
  text-renamed [] es p n = refl
  text-renamed (c ∷ cs) es p n =
      ap (λ x. and_rest x (λ p'. parse es p' cs)) (character-renamed es p c n)
      ∙ rest-renamed (take_character es p c) (λ p'. parse es p' cs) (λ p'. parse es p' cs) (character-grows (Renames r) (renames-one r) es p c n) (λ p'. text-renamed cs es p')

pub characters-renamed : CharactersRename
characters-renamed r es p c n = character-renamed r es p c n

pub ends-renamed : EndsRename
ends-renamed r es p n = end-renamed r es p n

pub texts-renamed : TextsRename
texts-renamed r es p text n = text-renamed r text es p n

-- ---- later ids

sum : (a b c : ℕ) → a + b + c ≡ a + (b + c)
sum a b c = omega arith

at : ℕ → ℕ → NodeId
at realm n = record { realm = realm; n = n }

pub later-renames : LaterRenames
unfolding at
later-renames r id id' n (k, e) = rw e (record {
  apart = n.apart;
  in_order = λ j. ap r (ap (at id.realm) (sum id.n k j)) ∙ (n.in_order (k + j) ∙ (ap (at (r id).realm) (sym (sum (r id).n k j)) ∙ ap (later j) (sym (n.in_order k))));
})

is-later : (id : NodeId) → IsLater id id
unfolding at
is-later id =
    let e : id.n ≡ id.n + 0 = omega arith in
    (0, ap (at id.realm) e)

one-later : (id id' : NodeId) → IsLater id id' → IsLater id (later 1 id')
unfolding at
one-later id id' (k, e) = (k + 1, ap (later 1) e ∙ ap (at id.realm) (sum id.n k 1))

pub tokens-grow : TokensGrow
tokens-grow t b o = construct-grows (IsLater b.next) (one-later b.next) t b o (is-later b.next)

pub characters-grow : CharactersGrow
characters-grow es p c = character-grows (IsLater p.open_state.next) (one-later p.open_state.next) es p c (is-later p.open_state.next)

pub ends-grow : EndsGrow
ends-grow es p = end-grows (IsLater p.open_state.next) (one-later p.open_state.next) es p (is-later p.open_state.next)

pub texts-grow : TextsGrow
texts-grow es p text = text-grows-by (IsLater p.open_state.next) (one-later p.open_state.next) text es p (is-later p.open_state.next)
