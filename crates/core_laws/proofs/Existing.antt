-- Each event that is enabled has its step.
use Rattle.std.proofs.Common.{◌≡◌, true≢false, ℕ, zero, suc, Bool, true, false, List, Option, Some, None, option_and_then, refl, sym, ◌∙◌, ap, arith}
use Rattle.std.proofs.lemmas.Option.{none-some, same_Some}
use Rattle.std.specs.Prelude.{IsTrue}
use Rattle.html_types.specs.declared.ending.Ending.{Ending}
use Rattle.html_types.specs.declared.ending.Ending.TheVariants as ending
use Rattle.standard.specs.Parser.{Parser}
use Rattle.serial.specs.Serial.{World, Serial, first, Moment, reading, tag_ended, awaits, over, Outcome, moment_after, moments_on}
use Rattle.standard_laws.proofs.Total.{IsCleared, rank, over_from, total-from}
use Rattle.core_definitions.specs.declared.event.Event.{Event}
use Rattle.core_definitions.specs.declared.event.Event.TheVariants.{Send, Pick, Give, Take, Do, Arrive}
use Rattle.core_definitions.specs.Verdict.{first_watch}
use Rattle.core_definitions.specs.Settling.{is_settled, Through, here, onward, Settles}
use Rattle.core_definitions.specs.Desk.{Phase, free, tagged, waits, done, Desk, can_do_in, executes, decided, Concludes, RunsOn, DoesIn}
use Rattle.core_definitions.specs.Core.{Setup, whole_page, Core, sent_from, picked_from, given_to, taken_from}
use Rattle.core_definitions.specs.Desk.{arrives}
use Rattle.core_definitions.specs.StandsFor.{own_moment}
use Rattle.core_laws.specs.Alike.{AreAlike}
use Rattle.core_laws.specs.CoreLaws.{DecidesSame, EnabledSteps}
use Rattle.core_laws.proofs.Moving.{Holding}
use Rattle.core_laws.proofs.Together.{reached-together}

abbrev is_over : Moment → Bool
is_over (over o) = true
is_over m = false

module _ (e : Ending) (w : World) where
  abbrev Settled : Moment → Type 0
  Settled m = (m' : Moment) × Through e w m m' × (is_settled m' ≡ true)

  -- of the moments up to the end one is the first that is settled
  settled-on : (k n : ℕ) (m : Moment) (o : Outcome) → moments_on k n e w m ≡ Some (over o) → Settled m
  settled-on zero n m o p = (m, here m, ap is_settled (same_Some m (over o) p))
  settled-on (suc k) n m o p = by (is_settled m) refl (moment_after n e w m) refl (λ m1 h. settled-on k n m1 o h) p
    where
      by : (b : Bool) → is_settled m ≡ b → (r : Option Moment) → moment_after n e w m ≡ r → ((m1 : Moment) → moments_on k n e w m1 ≡ Some (over o) → Settled m1) →
          option_and_then (λ a. moments_on k n e w a) r ≡ Some (over o) → Settled m
      by true s r q each h = (m, here m, s)
      by false s None q each h = absurd (none-some (over o) h)
      by false s (Some m1) q each h = let rest = each m1 h in (rest.0, onward n m m1 rest.0 s q rest.1, rest.2)

pub settles : (w : World) (m : Moment) → IsCleared m → is_over m ≡ false → (m' : Moment) × Settles w m m'
settles w m cleared open_ = by (total-from (suc (rank m)) ending.End w m cleared (omega arith))
  where
    by : over_from ending.End w m → (m' : Moment) × Settles w m m'
    by (zero, n, o, p) = absurd (true≢false (sym (ap is_over (same_Some m (over o) p)) ∙ open_))
    by (suc k, n, o, p) = from (moment_after n ending.End w m) refl p
      where
        from : (r : Option Moment) → moment_after n ending.End w m ≡ r → option_and_then (λ a. moments_on k n ending.End w a) r ≡ Some (over o) → (m' : Moment) × Settles w m m'
        from None q h = absurd (none-some (over o) h)
        from (Some m1) q h =
            let rest = settled-on ending.End w k n m1 o h in
            (rest.0, record { fuel = n; next = m1; first = q; through = rest.1; settled = rest.2 })

module _ (decides : DecidesSame) where
  concludes : (held : Parser) (m : Moment) (d : Desk) → is_settled m ≡ true → (d' : Desk) × Concludes held m d d'
  concludes held (reading s) d settled = let (c, verdict) = decides held s.parser in (decided c held s d, (c, verdict, refl))
  concludes held (tag_ended i s) d settled = absurd (true≢false (sym settled))
  concludes held (awaits name s) d settled = (record d { own = s; phase = waits name held }, refl)
  concludes held (over o) d settled = (record d { own = o.last; phase = done o.result }, refl)

  runs_on : (w : World) (held : Parser) (m : Moment) (d : Desk) → IsCleared m → is_over m ≡ false → (d' : Desk) × RunsOn w held m d d'
  runs_on w held m d cleared open_ =
      let (m', s) = settles w m cleared open_ in
      let (d', c) = concludes held m' d s.settled in
      (d', (m', s, c))

  does : (e : Ending) (w : World) (page : List ℕ) (m : Moment) (r : _) (p : Phase) (d : Desk) → AreAlike r page m (own_moment p d.own) → IsTrue (can_do_in p d) → (d' : Desk) × DoesIn w p d d'
  does e w page m r free d alike can = (executes d.hand d, refl)
  does e w page m r (tagged i held) d alike can = runs_on w held (tag_ended i d.own) d tt refl
  does e w page m r (waits name held) d (s, doc, p, q, o, idle) can = runs_on w held (awaits name d.own) d (ap (λ (t : Serial). t.side.pending) q ∙ idle) refl
  does e w page m r (done y) d alike can = absurd (true≢false (sym can))

  step-of : (x : Setup) (v : Event) (c : Core) → Holding x.ending x.world (reading (first (whole_page x))) (first_watch (whole_page x)) c.desk → IsTrue (can_do_in c.desk.phase c.desk) → (d' : Desk) × DoesIn x.world c.desk.phase c.desk d'
  step-of x v c h can =
      let (m, u, r, seen, known) = h.stood in
      does x.ending x.world _ m r c.desk.phase c.desk known.alike can

pub enabled-steps : EnabledSteps
enabled-steps decides x vs c Send h can = (sent_from c.desk.to_send c, refl)
enabled-steps decides x vs c Pick h can = (picked_from c.requests c, refl)
enabled-steps decides x vs c Give h can = (given_to c.work.hand x.world.entities c, refl)
enabled-steps decides x vs c Take h can = (taken_from c.replies c, refl)
enabled-steps decides x vs c Do h can =
    let (d, does_) = step-of decides x Do c (reached-together x vs c h).1.holds can in
    (record c { desk = d }, (d, does_, refl))
enabled-steps decides x vs c (Arrive name) h can = (record c { desk = arrives name c.desk }, refl)
