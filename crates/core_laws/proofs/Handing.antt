-- Pieces that are handed in later make no difference to what was done before.
use Rattle.std.proofs.Common.{◌≡◌, true≢false, ℕ, nat_lt, Bool, true, false, List, [], ◌∷◌, ◌++◌, refl, sym, ◌∙◌, ap, append_assoc}
use Rattle.std.proofs.lemmas.Bool.{and_parts}
use Rattle.std.specs.Prelude.{IsTrue, not, ◌&&◌, if◌then◌else◌}
use Rattle.html_types.specs.declared.operation.NodeId.{NodeId}
use Rattle.html_types.specs.declared.instruction.Stop.TheVariants as stop
use Rattle.standard.specs.Entities.{Entities}
use Rattle.standard.specs.Parser.{Parser}
use Rattle.serial.specs.Serial.{World, Serial, prepared, Moment, reading, tag_ended, awaits, over}
use Rattle.core_definitions.specs.declared.event.Event.{Event}
use Rattle.core_definitions.specs.declared.event.Event.TheVariants.{Send, Pick, Give, Take, Do, Arrive}
use Rattle.core_definitions.specs.declared.verdict.Verdict.{Verdict}
use Rattle.core_definitions.specs.declared.verdict.Verdict.TheVariants.{Keep, Rewind}
use Rattle.core_definitions.specs.Batches.{Piece, Batch, Halt, at, over_with}
use Rattle.core_definitions.specs.Verdict.{runs}
use Rattle.core_definitions.specs.Settling.{is_empty}
use Rattle.core_definitions.specs.Desk.{Phase, free, tagged, waits, done, Desk, with_more, is_done, outstanding, stale, sends_first, with_batches, drops, answer_called_for, at_end_tag, behind_halt, with_executed, executes, sent_again, decided, Concludes, RunsOn, DoesIn, Moves, can_do_in}
use Rattle.core_laws.specs.DeskLaws.{MoreMayFollow}

module _ (xs : List Piece) where
  some-more : (ps : List Piece) → not (is_empty ps) ≡ true → not (is_empty (ps ++ xs)) ≡ true
  some-more [] h = absurd (true≢false (sym h))
  some-more (p ∷ ps) h = refl

  sends-more : (ps : List Piece) (d : Desk) → not (is_empty ps) ≡ true → sends_first (ps ++ xs) (with_more xs d) ≡ with_more xs (sends_first ps d)
  sends-more [] d h = absurd (true≢false (sym h))
  sends-more (p ∷ ps) d h = refl

  takes-more : (es : Entities) (d : Desk) (b : Bool) (ps : List Piece) →
      (if b then drops (with_more xs d) else with_batches (answer_called_for es (with_more xs d) ps) ps (with_more xs d)) ≡ with_more xs (if b then drops d else with_batches (answer_called_for es d ps) ps d)
  takes-more es d true ps = refl
  takes-more es d false [] = refl
  takes-more es d false (p ∷ ps) = refl

  tag-more : (i : NodeId) (d : Desk) (run : Bool) → at_end_tag run i (with_more xs d) ≡ with_more xs (at_end_tag run i d)
  tag-more i d true = refl
  tag-more i d false = refl

  halt-more : (h : Halt) (d : Desk) → behind_halt h (with_more xs d) ≡ with_more xs (behind_halt h d)
  halt-more (at stop.InputEnd) d = refl
  halt-more (at (stop.Script i)) d = tag-more i d (runs (prepared i d.own))
  halt-more (at stop.Deep) d = refl
  halt-more (over_with w) d = refl

  executes-more : (bs : List Batch) (d : Desk) → executes bs (with_more xs d) ≡ with_more xs (executes bs d)
  executes-more [] d = refl
  executes-more (b ∷ bs) d = halt-more b.halt (with_executed b bs d)

  decided-more : (c : Verdict) (held : Parser) (s : Serial) (d : Desk) → with_more xs (decided c held s d) ≡ decided c held s (with_more xs d)
  decided-more Keep held s d = refl
  decided-more Rewind held s d = ap (λ ps. record (decided Rewind held s d) { to_send = ps }) (append_assoc (sent_again (d.left ∷ d.asked)) d.to_send xs)

  concludes-more : (held : Parser) (m : Moment) (d d' : Desk) → Concludes held m d d' → Concludes held m (with_more xs d) (with_more xs d')
  concludes-more held (reading s) d d' (c, verdict, is) = (c, verdict, ap (with_more xs) is ∙ decided-more c held s d)
  concludes-more held (tag_ended i s) d d' is = is
  concludes-more held (awaits name s) d d' is = ap (with_more xs) is
  concludes-more held (over o) d d' is = ap (with_more xs) is

  runs-more : (w : World) (held : Parser) (m : Moment) (d d' : Desk) → RunsOn w held m d d' → RunsOn w held m (with_more xs d) (with_more xs d')
  runs-more w held m d d' (m', settles, is) = (m', settles, concludes-more held m' d d' is)

  does-more : (w : World) (p : Phase) (d d' : Desk) → DoesIn w p d d' → DoesIn w p (with_more xs d) (with_more xs d')
  does-more w free d d' is = ap (with_more xs) is ∙ sym (executes-more d.hand d)
  does-more w (tagged i held) d d' h = runs-more w held (tag_ended i d.own) d d' h
  does-more w (waits name held) d d' h = runs-more w held (awaits name d.own) d d' h
  does-more w (done r) d d' h = h

  moves-more : (ahead : ℕ) (w : World) (v : Event) (d d' : Desk) → Moves ahead w v d d' → Moves ahead w v (with_more xs d) (with_more xs d')
  moves-more ahead w Send d d' (can, is) =
      let some : not (is_empty d.to_send) ≡ true = (and_parts _ _ can).1 in
      let rest : (not (is_done d.phase) && nat_lt (outstanding d) ahead) ≡ true = (and_parts _ _ can).0 in
      (both (not (is_done d.phase) && nat_lt (outstanding d) ahead) (not (is_empty (d.to_send ++ xs))) rest (some-more d.to_send some), ap (with_more xs) is ∙ sym (sends-more d.to_send d some))
    where
      both : (a b : Bool) → a ≡ true → b ≡ true → (a && b) ≡ true
      both a b p q = ap (λ x. x && b) p ∙ q
  moves-more ahead w Pick d d' m = m
  moves-more ahead w Give d d' m = m
  moves-more ahead w Take d d' (can, is) = (can, ap (with_more xs) is ∙ sym (takes-more w.entities d (nat_lt 0 (stale d)) d.asked))
  moves-more ahead w Do d d' (can, does) = (can_do-more d.phase can, does-more w d.phase d d' does)
    where
      can_do-more : (p : Phase) → IsTrue (can_do_in p d) → IsTrue (can_do_in p (with_more xs d))
      can_do-more free h = h
      can_do-more (tagged i held) h = h
      can_do-more (waits name held) h = h
      can_do-more (done r) h = h
  moves-more ahead w (Arrive name) d d' (can, is) = (can, ap (with_more xs) is)

pub more-may_follow : MoreMayFollow
more-may_follow ahead w [] xs d d' is = ap (with_more xs) is
more-may_follow ahead w (v ∷ vs) xs d d' (d1, moves, rest) = (with_more xs d1, moves-more xs ahead w v d d1 moves, more-may_follow ahead w vs xs d1 d' rest)
