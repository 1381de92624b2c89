-- A verdict, and an event of the document's side, come to one result.
use Rattle.std.proofs.Common.{◌≡◌, ℕ, ◌+◌, true, false, true≢false, Some, refl, sym, ◌∙◌, ap, subst, arith}
use Rattle.std.proofs.lemmas.Option.{same_Some}
use Rattle.html_types.specs.declared.ending.Ending.{Ending}
use Rattle.html_types.specs.declared.ending.Ending.TheVariants as ending
use Rattle.standard.specs.Parser.{Parser}
use Rattle.serial.specs.Serial.{World, Moment, reading, tag_ended, awaits, over, moment_after}
use Rattle.standard_laws.proofs.Fuel.{moment_after-by}
use Rattle.core_definitions.specs.declared.event.Event.TheVariants.{Send, Pick, Give, Take, Do, Arrive}
use Rattle.core_definitions.specs.declared.verdict.Verdict.TheVariants.{Keep, Rewind}
use Rattle.core_definitions.specs.Settling.{is_settled, Through, here, onward}
use Rattle.core_definitions.specs.Desk.{Phase, free, tagged, waits, done, Desk, decided, Concludes, RunsOn, DoesIn}
use Rattle.core_laws.specs.CoreLaws.{OneStep}
use Rattle.core_laws.specs.OneResult.{OneVerdict, SettlesOnce, OneMove}

pub one-verdict : OneVerdict
one-verdict held now Keep Keep p q = refl
one-verdict held now Keep Rewind p q = absurd (q p)
one-verdict held now Rewind Keep p q = absurd (p q)
one-verdict held now Rewind Rewind p q = refl

-- whatever the fuel
pub one-next : (e : Ending) (w : World) (n k : ℕ) (m a b : Moment) → moment_after n e w m ≡ Some a → moment_after k e w m ≡ Some b → a ≡ b
one-next e w n k m a b p q =
    let c : k + n ≡ n + k = omega arith in
    let first : moment_after (n + k) e w m ≡ Some a = (let r : moment_after (k + n) e w m ≡ Some a = moment_after-by k n e w m a p in rw c at r) in
    same_Some a b (sym first ∙ moment_after-by n k e w m b q)

module _ (e : Ending) (w : World) where
  from-settled : (m b : Moment) → Through e w m b → is_settled m ≡ true → m ≡ b
  from-settled m b (here x) p = refl
  from-settled m b (onward n x x1 x' open_ q rest) p = absurd (true≢false (sym p ∙ open_))

  from-open : (m m1 a b : Moment) (n : ℕ) → is_settled m ≡ false → moment_after n e w m ≡ Some m1 → (Through e w m1 b → a ≡ b) → Through e w m b → is_settled b ≡ true → a ≡ b
  from-open m m1 a b n open_ q each (here x) r = absurd (true≢false (sym r ∙ open_))
  from-open m m1 a b n open_ q each (onward k x x1 x' open_2 y rest) r = each (subst (λ t. Through e w t b) (one-next e w k n m x1 m1 y q) rest)

  pub one-way : (m a b : Moment) → Through e w m a → is_settled a ≡ true → Through e w m b → is_settled b ≡ true → a ≡ b
  one-way m a b (here x) p q r = from-settled m b q p
  one-way m a b (onward n x x1 x' open_ y rest) p q r = from-open m x1 a b n open_ y (λ t. one-way x1 a b rest p t r) q r

pub settles-once : SettlesOnce
settles-once w m a b p q =
    let same : p.next ≡ q.next = one-next ending.End w p.fuel q.fuel m p.next q.next p.first q.first in
    one-way ending.End w q.next a b (subst (λ t. Through ending.End w t a) same p.through) p.settled q.through q.settled

concludes-once : (held : Parser) (m : Moment) (d a b : Desk) → Concludes held m d a → Concludes held m d b → a ≡ b
concludes-once held (reading s) d a b (c, i, p) (k, j, q) = p ∙ (ap (λ v. decided v held s d) (one-verdict held s.parser c k i j) ∙ sym q)
concludes-once held (tag_ended i s) d a b p q = absurd p
concludes-once held (awaits name s) d a b p q = p ∙ sym q
concludes-once held (over o) d a b p q = p ∙ sym q

runs-once : (w : World) (held : Parser) (m : Moment) (d a b : Desk) → RunsOn w held m d a → RunsOn w held m d b → a ≡ b
runs-once w held m d a b (x, p, q) (y, r, s) = concludes-once held y d a b (subst (λ t. Concludes held t d a) (settles-once w m x y p r) q) s

does-once : (w : World) (p : Phase) (d a b : Desk) → DoesIn w p d a → DoesIn w p d b → a ≡ b
does-once w free d a b p q = p ∙ sym q
does-once w (tagged i held) d a b p q = runs-once w held (tag_ended i d.own) d a b p q
does-once w (waits name held) d a b p q = runs-once w held (awaits name d.own) d a b p q
does-once w (done r) d a b p q = absurd p

pub one-move : OneMove
one-move ahead w Send d a b p q = p.1 ∙ sym q.1
one-move ahead w Pick d a b p q = absurd p
one-move ahead w Give d a b p q = absurd p
one-move ahead w Take d a b p q = p.1 ∙ sym q.1
one-move ahead w Do d a b p q = does-once w d.phase d a b p.1 q.1
one-move ahead w (Arrive name) d a b p q = p.1 ∙ sym q.1

pub one-step : OneStep
one-step x Send c a b p q = p ∙ sym q
one-step x Pick c a b p q = p ∙ sym q
one-step x Give c a b p q = p ∙ sym q
one-step x Take c a b p q = p ∙ sym q
one-step x Do c a b (d, does, p) (d', does', q) = p ∙ (ap (λ z. record c { desk = z }) (does-once x.world c.desk.phase c.desk d d' does does') ∙ sym q)
one-step x (Arrive name) c a b p q = p ∙ sym q
