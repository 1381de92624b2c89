-- What characters, texts and the end of the input ask for names bound ids.
use Rattle.std.proofs.Common.{◌≡◌, refl, sym, ap, ◌∙◌, subst, ℕ, ◌+◌, ◌<◌, ◌==◌, Bool, true, false, ◌||◌, ◌&&◌, List, [], ◌∷◌, ◌++◌, arith}
use Rattle.std.specs.Prelude.{IsTrue}
use Rattle.html_types.specs.Operations.{same_id, later}
use Rattle.html_types.specs.declared.instruction.Next.{Next}
use Rattle.html_types.specs.declared.instruction.Next.TheVariants as next
use Rattle.html_types.specs.declared.instruction.Stop.{Stop}
use Rattle.html_types.specs.declared.instruction.Stop.TheVariants as stop
use Rattle.html_types.specs.declared.state.TokState.{TokState}
use Rattle.html_types.specs.declared.token.Token.{Token}
use Rattle.html_types.specs.declared.operation.NodeId.{NodeId}
use Rattle.html_types.specs.declared.operation.Op.{Op}
use Rattle.html_types.specs.declared.open.Open.{Open}
use Rattle.standard.specs.Entities.{Entities}
use Rattle.standard.specs.Foreign.{is_foreign}
use Rattle.standard.specs.Tokenizer.{read, read_end}
use Rattle.standard.specs.Rules.{Answer, construct}
use Rattle.standard.specs.Parser.{Parser, read_as, Took, took, after_ops, build_on, build, built, take_character, Finished, build_end_on, build_end, finish, Parsed, and_rest, parse}
use Rattle.standard.specs.Act.{AreOpsBound}
use Rattle.rule_laws.specs.Naming.{Serves, AreFresh, CameBefore, known_after_all, IsNextBound, IsStopBound}
use Rattle.rule_laws.specs.NamingLaws.{StaysBound, TookBound, TokensStayBound, CharactersStayBound, EndsStayBound, TextsStayBound}
use Rattle.rule_laws.proofs.FreshnessOps.{known-append, bound-append, Follows}
use Rattle.rule_laws.proofs.Freshness.{construct-fits}

module _ (Coming : (NodeId → Bool) → NodeId → Type 0) (law : Follows Coming) where
  pub tokens-bound : TokensStayBound Coming
  unfolding known_after_all AreOpsBound
  tokens-bound known t b s = let f = construct-fits Coming law known t b [] tt s in ((f.0, f.1), f.2)

  -- operations, and behind them what is bound there
  behind-ops : (known : NodeId → Bool) (ops more : List Op) (b : Open) → AreOpsBound known ops → StaysBound Coming (known_after_all known ops) more b → StaysBound Coming known (ops ++ more) b
  behind-ops known ops more b a s = (bound-append known ops more a s.0, subst (λ k. Serves Coming k b) (sym (known-append known ops more)) s.1)

  stop-behind : (known : NodeId → Bool) (ops more : List Op) (why : Stop) → IsStopBound (known_after_all (known_after_all known ops) more) why → IsStopBound (known_after_all known (ops ++ more)) why
  stop-behind known ops more why i = subst (λ k. IsStopBound k why) (sym (known-append known ops more)) i

  took-behind : (known : NodeId → Bool) (ops : List Op) (x : Took) → AreOpsBound known ops → TookBound Coming (known_after_all known ops) x → TookBound Coming known (after_ops ops x)
  took-behind known ops (took more p why) a f = (behind-ops known ops more p.open_state a f.0, stop-behind known ops more why f.1)

  none-bound : (known : NodeId → Bool) (b : Open) → Serves Coming known b → StaysBound Coming known [] b
  unfolding known_after_all AreOpsBound
  none-bound known b s = (tt, s)

  none-stop : (known : NodeId → Bool) (why : Stop) → IsStopBound known why → IsStopBound (known_after_all known []) why
  unfolding known_after_all
  none-stop known why i = i

  build_on-bound : (known : NodeId → Bool) (s : TokState) (cr : Bool) (t : Token) (b : Open) (rest : TokState → Took) (n : Next) → Serves Coming known b → IsNextBound known n
      → ((s' : TokState) → TookBound Coming known (rest s')) → TookBound Coming known (build_on s cr t b rest n)
  build_on-bound known s cr t b rest next.Done h i each = each s
  build_on-bound known s cr t b rest (next.SwitchTokenizer r) h i each = each (read_as r t)
  build_on-bound known s cr t b rest (next.Script id) h i each = (none-bound known b h, none-stop known (stop.Script id) i)
  build_on-bound known s cr t b rest (next.Adopt w x) h i each = each s
  build_on-bound known s cr t b rest next.Deep h i each = (none-bound known b h, tt)
  build_on-bound known s cr t b rest next.Reprocess h i each = each s
  build_on-bound known s cr t b rest (next.UsingRules m) h i each = each s
  build_on-bound known s cr t b rest next.InBodyFostering h i each = each s
  build_on-bound known s cr t b rest next.Finished h i each = each s

  build-bound : (known : NodeId → Bool) (s : TokState) (cr : Bool) (ts : List Token) (b : Open) → Serves Coming known b → TookBound Coming known (build s cr ts b)
  unfolding build
  build-bound known s cr [] b h = (none-bound known b h, tt)
  build-bound known s cr (t ∷ ts) b h =
      let a : Answer = construct t b [] in
      let f : StaysBound Coming known a.ops a.open_state × IsNextBound (known_after_all known a.ops) a.next = tokens-bound known t b h in
      took-behind known a.ops (build_on s cr t a.open_state (λ s'. build s' cr ts a.open_state) a.next) f.0.0
      (build_on-bound (known_after_all known a.ops) s cr t a.open_state (λ s'. build s' cr ts a.open_state) a.next f.0.1 f.1
      (λ s'. build-bound (known_after_all known a.ops) s' cr ts a.open_state f.0.1))

  pub characters-bound : CharactersStayBound Coming
  unfolding take_character
  characters-bound known es p c h = by (p.after_cr && (c == 10)) (c == 13)
    where
      by : (skips cr : Bool) → TookBound Coming known (elim skips as (λ _. Took) [
        | true ↦ took [] (record p { after_cr = false }) stop.InputEnd
        | false ↦ elim cr as (λ _. Took) [ true ↦ built p true (read es (is_foreign p.open_state) p.tokenizer 10) | false ↦ built p false (read es (is_foreign p.open_state) p.tokenizer c) ]
      ])
      by true cr = (none-bound known p.open_state h, tt)
      by false true = build-bound known (read es (is_foreign p.open_state) p.tokenizer 10).state true (read es (is_foreign p.open_state) p.tokenizer 10).tokens p.open_state h
      by false false = build-bound known (read es (is_foreign p.open_state) p.tokenizer c).state false (read es (is_foreign p.open_state) p.tokenizer c).tokens p.open_state h

  -- ---- the end of the input

  abbrev FinishedBound : (NodeId → Bool) → Finished → Type 0
  FinishedBound known f = StaysBound Coming known f.ops f.parser.open_state

  build_end_on-bound : (known : NodeId → Bool) (s : TokState) (cr : Bool) (b : Open) (rest : Finished) (n : Next) → Serves Coming known b → FinishedBound known rest → FinishedBound known (build_end_on s cr b rest n)
  build_end_on-bound known s cr b rest next.Done h f = f
  build_end_on-bound known s cr b rest (next.SwitchTokenizer r) h f = f
  build_end_on-bound known s cr b rest (next.Script id) h f = f
  build_end_on-bound known s cr b rest (next.Adopt w x) h f = f
  build_end_on-bound known s cr b rest next.Deep h f = none-bound known b h
  build_end_on-bound known s cr b rest next.Reprocess h f = f
  build_end_on-bound known s cr b rest (next.UsingRules m) h f = f
  build_end_on-bound known s cr b rest next.InBodyFostering h f = f
  build_end_on-bound known s cr b rest next.Finished h f = none-bound known b h

  build_end-bound : (known : NodeId → Bool) (s : TokState) (cr : Bool) (ts : List Token) (b : Open) → Serves Coming known b → FinishedBound known (build_end s cr ts b)
  unfolding build_end
  build_end-bound known s cr [] b h = none-bound known b h
  build_end-bound known s cr (t ∷ ts) b h =
      let a : Answer = construct t b [] in
      let f : StaysBound Coming known a.ops a.open_state × IsNextBound (known_after_all known a.ops) a.next = tokens-bound known t b h in
      let rest : Finished = build_end_on s cr a.open_state (build_end s cr ts a.open_state) a.next in
      behind-ops known a.ops rest.ops rest.parser.open_state f.0.0
      (build_end_on-bound (known_after_all known a.ops) s cr a.open_state (build_end s cr ts a.open_state) a.next f.0.1
      (build_end-bound (known_after_all known a.ops) s cr ts a.open_state f.0.1))

  pub ends-bound : EndsStayBound Coming
  unfolding finish
  ends-bound known es p h = build_end-bound known (read_end es (is_foreign p.open_state) p.tokenizer).state p.after_cr (read_end es (is_foreign p.open_state) p.tokenizer).tokens p.open_state h

  -- ---- a text

  abbrev ParsedBound : (NodeId → Bool) → Parsed → Type 0
  ParsedBound known r = StaysBound Coming known r.ops r.parser.open_state × IsStopBound (known_after_all known r.ops) r.stop

  rest-bound : (known : NodeId → Bool) (x : Took) (rest : Parser → Parsed) → TookBound Coming known x
      → ((known' : NodeId → Bool) (p : Parser) → Serves Coming known' p.open_state → ParsedBound known' (rest p)) → ParsedBound known (and_rest x rest)
  rest-bound known (took ops p stop.InputEnd) rest f each =
      let r : ParsedBound (known_after_all known ops) (rest p) = each (known_after_all known ops) p f.0.1 in
      (behind-ops known ops (rest p).ops (rest p).parser.open_state f.0.0 r.0, stop-behind known ops (rest p).ops (rest p).stop r.1)
  rest-bound known (took ops p (stop.Script id)) rest f each = f
  rest-bound known (took ops p stop.Deep) rest f each = f

  texts-by : (text : List ℕ) (es : Entities) (known : NodeId → Bool) (p : Parser) → Serves Coming known p.open_state → ParsedBound known (parse es p text)
  unfolding parse
  texts-by [] es known p h = (none-bound known p.open_state h, tt)
  texts-by (c ∷ cs) es known p h = rest-bound known (take_character es p c) (λ p'. parse es p' cs) (characters-bound known es p c h) (λ known' p'. texts-by cs es known' p')

  pub texts-bound : TextsStayBound Coming
  texts-bound known es p text h = texts-by text es known p h

-- ---- what can be asked of the ids that come

later-none : (id : NodeId) → later 0 id ≡ id
later-none id =
    let e : id.n + 0 ≡ id.n = omega arith in
    ap (λ n. record { realm = id.realm; n = n }) e

pub later-later : (k : ℕ) (id : NodeId) → later k (later 1 id) ≡ later (1 + k) id
later-later k id =
    let e : id.n + 1 + k ≡ id.n + (1 + k) = omega arith in
    ap (λ n. record { realm = id.realm; n = n }) e

later-apart : (k : ℕ) (id : NodeId) → same_id (later k (later 1 id)) id ≡ false
later-apart k id =
    let e : (id.n + 1 + k == id.n) ≡ false = grind arith in
    ap (λ v. (id.realm == id.realm) && v) e ∙ neither (id.realm == id.realm)
  where
    neither : (v : Bool) → (v && false) ≡ false
    neither true = refl
    neither false = refl

pub fresh-follows : Follows AreFresh
fresh-follows = record {
  fresh = λ known id h. ap known (sym (later-none id)) ∙ h 0;
  made_next = λ known id h k. ap (λ v. v || known (later k (later 1 id))) (later-apart k id) ∙ (ap known (later-later k id) ∙ h (1 + k));
}

pub before-follows : Follows CameBefore
before-follows = record { fresh = not_known; made_next = one_later }
  where
    not_known : (known : NodeId → Bool) (id : NodeId) → CameBefore known id → known id ≡ false
    not_known known id h = by (known id) refl
      where
        by : (v : Bool) → known id ≡ v → v ≡ false
        by true e = let l : id.n < id.n = (h id e).1 in absurd (omega (arith, l))
        by false e = refl

    one_later : (known : NodeId → Bool) (id : NodeId) → CameBefore known id → CameBefore (λ q. same_id q id || known q) (later 1 id)
    one_later known id h q = by (same_id q id) refl
      where
        by : (v : Bool) → same_id q id ≡ v → IsTrue (v || known q) → (q.realm ≡ id.realm) × (q.n < id.n + 1)
        by true e i = (grind (arith, e), grind (arith, e))
        by false e i = let l : q.n < id.n = (h q i).1 in ((h q i).0, omega (arith, l))
