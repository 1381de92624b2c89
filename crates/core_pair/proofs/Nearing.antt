-- Each event comes nearer to the end.
use Rattle.std.proofs.Common.{◌≡◌, ◌≤◌, ◌<◌, ℕ, suc, ◌+◌, ◌-◌, ◌*◌, nat_lt, Bool, true, false, true≢false, List, [], ◌∷◌, ◌++◌, length, Option, Some, None, refl, sym, ap, subst, ◌∙◌, append_assoc, length-append, arith}
use Rattle.std.proofs.lemmas.Bool.{and_parts}
use Rattle.std.specs.Prelude.{IsTrue, not, is_some, if◌then◌else◌}
use Rattle.standard.specs.Entities.{Entities}
use Rattle.serial.specs.Serial.{Serial, write_limit}
use Rattle.core_definitions.specs.declared.event.Event.{Event}
use Rattle.core_definitions.specs.declared.event.Event.TheVariants.{Send, Pick, Give, Take, Do, Arrive}
use Rattle.core_definitions.specs.Batches.{Piece, Batch}
use Rattle.core_definitions.specs.Settling.{is_empty}
use Rattle.core_definitions.specs.Desk.{Phase, free, tagged, waits, done, Desk, stale, sends_first, with_batches, drops, answer_called_for, takes, arrives}
use Rattle.core_definitions.specs.Core.{Request, Reply, WorkSide, Core, request_for, answer_to, reply_to, enabled, sent_from, picked_from, given_to}
use Rattle.core_definitions.specs.StandsFor.{text_of, page_left}
use Rattle.core_steps.specs.Sides.{left_in, left_to_do}
use Rattle.core_pair.specs.Pairs.{Paired, setup_of, behind_first, with_event, Applied}
use Rattle.core_pair.specs.Nearer.{in_hand, NearsDo, IsNearer, LeavesLess}

-- ---- numbers

same-le : (a b : ℕ) → a ≡ b → a ≤ b
same-le a b is = omega (arith, is)

send-fewer : (s s' q q' h r : ℕ) → s ≡ suc s' → q' ≡ q + 1 → 4 * s' + 3 * q' + 2 * h + r < 4 * s + 3 * q + 2 * h + r
send-fewer s s' q q' h r less more = omega (arith, less, more)

pick-fewer : (s q q' h h' r : ℕ) → q ≡ suc q' → h ≡ 0 → h' ≡ 1 → 4 * s + 3 * q' + 2 * h' + r < 4 * s + 3 * q + 2 * h + r
pick-fewer s q q' h h' r less none one = omega (arith, less, none, one)

give-fewer : (s q h h' r r' : ℕ) → h ≡ 1 → h' ≡ 0 → r' ≡ r + 1 → 4 * s + 3 * q + 2 * h' + r' < 4 * s + 3 * q + 2 * h + r
give-fewer s q h h' r r' one none more = omega (arith, one, none, more)

take-fewer : (s s' q h r r' : ℕ) → s' ≡ s → r ≡ suc r' → 4 * s' + 3 * q + 2 * h + r' < 4 * s + 3 * q + 2 * h + r
take-fewer s s' q h r r' same less = omega (arith, same, less)

left-fewer : (w i n n' k : ℕ) → n' ≤ n → 2 * w + 2 * i + 3 * n' + k ≤ 2 * w + 2 * i + 3 * n + k
left-fewer w i n n' k le = omega (arith, le)

-- ---- what is left to do

chars-same : (o o' : Serial) (n n' : ℕ) → o' ≡ o → n' ≡ n
    → 2 * (write_limit - o'.side.written) + 2 * length o'.input + 3 * n' ≡ 2 * (write_limit - o.side.written) + 2 * length o.input + 3 * n
chars-same o o' n n' own page =
    ap (λ (z : Serial). 2 * (write_limit - z.side.written) + 2 * length z.input + 3 * n') own ∙ ap (λ k. 2 * (write_limit - o.side.written) + 2 * length o.input + 3 * k) page

same-left : (p : Phase) (d d' : Desk) → d'.own ≡ d.own → length (page_left d') ≡ length (page_left d) → left_in p d' ≡ left_in p d
same-left free d d' own page = ap (λ k. k + 1) (chars-same d.own d'.own (length (page_left d)) (length (page_left d')) own page)
same-left (tagged i held) d d' own page = ap (λ k. k + 3) (chars-same d.own d'.own (length (page_left d)) (length (page_left d')) own page)
same-left (waits name held) d d' own page = ap (λ k. k + 2) (chars-same d.own d'.own (length (page_left d)) (length (page_left d')) own page)
same-left (done r) d d' own page = refl

sends-left : (x : Piece) (xs : List Piece) (d : Desk) → d.to_send ≡ x ∷ xs → left_to_do (sends_first (x ∷ xs) d) ≡ left_to_do d
sends-left x xs d q =
    let pieces : (d.asked ++ x ∷ []) ++ xs ≡ d.asked ++ d.to_send = subst (λ ys. (d.asked ++ x ∷ []) ++ xs ≡ d.asked ++ ys) (sym q) (append_assoc d.asked (x ∷ []) xs) in
    same-left d.phase d (sends_first (x ∷ xs) d) refl (ap (λ ys. length (text_of (d.left ∷ ys))) pieces)

-- behind the first piece no more text is left
behind-less : (t : List ℕ) (x : Piece) (ys : List Piece) → length (text_of (x ∷ ys)) ≤ length (t ++ text_of (x ∷ ys))
behind-less t x ys = let all = length-append t (text_of (x ∷ ys)) in omega (arith, all)

first-page : (d : Desk) (x : Piece) (xs : List Piece) → d.asked ≡ x ∷ xs → length (text_of (x ∷ xs ++ d.to_send)) ≤ length (page_left d)
first-page d x xs q = subst (λ (ys : List Piece). length (text_of (x ∷ xs ++ d.to_send)) ≤ length (d.left.text ++ text_of (ys ++ d.to_send))) (sym q) (behind-less d.left.text x (xs ++ d.to_send))

first-left : (p : Phase) (d : Desk) (bs : List Batch) (x : Piece) (xs : List Piece) → d.asked ≡ x ∷ xs → left_in p (with_batches bs (x ∷ xs) d) ≤ left_in p d
first-left free d bs x xs q = left-fewer (write_limit - d.own.side.written) (length d.own.input) (length (page_left d)) (length (text_of (x ∷ xs ++ d.to_send))) 1 (first-page d x xs q)
first-left (tagged i held) d bs x xs q = left-fewer (write_limit - d.own.side.written) (length d.own.input) (length (page_left d)) (length (text_of (x ∷ xs ++ d.to_send))) 3 (first-page d x xs q)
first-left (waits name held) d bs x xs q = left-fewer (write_limit - d.own.side.written) (length d.own.input) (length (page_left d)) (length (text_of (x ∷ xs ++ d.to_send))) 2 (first-page d x xs q)
first-left (done r) d bs x xs q = same-le 0 0 refl

-- either a reply is dropped, or batches come into hand
takes-left-by : (b : Bool) (bs : List Batch) (ps : List Piece) (d : Desk) → d.asked ≡ ps → left_to_do (if b then drops d else with_batches bs ps d) ≤ left_to_do d
takes-left-by true bs ps d q = same-le _ _ (same-left d.phase d (drops d) refl refl)
takes-left-by false bs [] d q = same-le _ _ refl
takes-left-by false bs (x ∷ xs) d q = first-left d.phase d bs x xs q

takes-send-by : (b : Bool) (bs : List Batch) (ps : List Piece) (d : Desk) → (if b then drops d else with_batches bs ps d).to_send ≡ d.to_send
takes-send-by true bs ps d = refl
takes-send-by false bs [] d = refl
takes-send-by false bs (x ∷ xs) d = refl

takes-left : (es : Entities) (d : Desk) → left_to_do (takes es d) ≤ left_to_do d
takes-left es d = takes-left-by (nat_lt 0 (stale d)) (answer_called_for es d d.asked) d.asked d refl

takes-to_send : (es : Entities) (d : Desk) → (takes es d).to_send ≡ d.to_send
takes-to_send es d = takes-send-by (nat_lt 0 (stale d)) (answer_called_for es d d.asked) d.asked d

-- ---- the events

sent-nearer : (ps : List Piece) (c : Core) → c.desk.to_send ≡ ps → not (is_empty ps) ≡ true → NearsDo c (sent_from ps c)
sent-nearer [] c q some = absurd (true≢false (sym some))
sent-nearer (x ∷ xs) c q some = subst (λ (ys : List Piece). NearsDo c (record c { desk = sends_first ys c.desk; requests = c.requests ++ request_for c.desk x ∷ [] })) (sym q) (
  same-le _ _ (sends-left x xs c.desk q),
  send-fewer (length c.desk.to_send) (length xs) (length c.requests) (length (c.requests ++ request_for c.desk x ∷ [])) (in_hand c.work.hand) (length c.replies) (ap (λ ys. length ys) q) (length-append c.requests (request_for c.desk x ∷ [])),
)

picked-by : (c : Core) (w : WorkSide) (r : Request) (rs : List Request) → c.requests ≡ r ∷ rs → c.work.hand ≡ None → w.hand ≡ Some r → NearsDo c (record c { requests = rs; work = w })
picked-by c w r rs q none full = (
  same-le _ _ refl,
  pick-fewer (length c.desk.to_send) (length c.requests) (length rs) (in_hand c.work.hand) (in_hand w.hand) (length c.replies) (ap (λ ys. length ys) q) (ap in_hand none) (ap in_hand full),
)

picked-nearer : (rs : List Request) (c : Core) → c.requests ≡ rs → c.work.hand ≡ None → not (is_empty rs) ≡ true → NearsDo c (picked_from rs c)
picked-nearer [] c q none some = absurd (true≢false (sym some))
picked-nearer (r ∷ rs) c q none some = picked-by c (record c.work { hand = Some r }) r rs q none refl

gave-by : (c : Core) (w : WorkSide) (r : Request) (reply : Reply) → c.work.hand ≡ Some r → w.hand ≡ None → NearsDo c (record c { work = w; replies = c.replies ++ reply ∷ [] })
gave-by c w r reply full none = (
  same-le _ _ refl,
  give-fewer (length c.desk.to_send) (length c.requests) (in_hand c.work.hand) (in_hand w.hand) (length c.replies) (length (c.replies ++ reply ∷ [])) (ap in_hand full) (ap in_hand none) (length-append c.replies (reply ∷ [])),
)

given-nearer : (h : Option Request) (es : Entities) (c : Core) → c.work.hand ≡ h → is_some h ≡ true → NearsDo c (given_to h es c)
given-nearer None es c q some = absurd (true≢false (sym some))
given-nearer (Some r) es c q some =
    gave-by c (record { hand = None; parser = (answer_to es c.work.parser r).parser }) r (reply_to r (answer_to es c.work.parser r).batches) q refl

took-by : (c : Core) (d : Desk) (r : Reply) (rs : List Reply) → c.replies ≡ r ∷ rs → left_to_do d ≤ left_to_do c.desk → d.to_send ≡ c.desk.to_send → NearsDo c (record c { desk = d; replies = rs })
took-by c d r rs q left same = (
  left,
  take-fewer (length c.desk.to_send) (length d.to_send) (length c.requests) (in_hand c.work.hand) (length c.replies) (length rs) (ap (λ ys. length ys) same) (ap (λ ys. length ys) q),
)

taken-nearer : (rs : List Reply) (es : Entities) (c : Core) → c.replies ≡ rs → not (is_empty rs) ≡ true → NearsDo c (record c { desk = takes es c.desk; replies = behind_first rs })
taken-nearer [] es c q some = absurd (true≢false (sym some))
taken-nearer (r ∷ rs) es c q some = took-by c (takes es c.desk) r rs q (takes-left es c.desk) (takes-to_send es c.desk)

hand-none : (h : Option Request) → not (is_some h) ≡ true → h ≡ None
hand-none None q = refl
hand-none (Some r) q = absurd (true≢false (sym q))

pub applied-nearer : (v : Event) (p q : Paired) → IsTrue (enabled (setup_of p) v p.core) → Applied v (with_event v p) q → LeavesLess v p.core q.core → IsNearer v p.core q.core
applied-nearer Send p q can is less =
    subst (λ (z : Paired). NearsDo p.core z.core) (sym is) (sent-nearer p.core.desk.to_send p.core refl (and_parts _ _ can).1)
applied-nearer Pick p q can is less =
    subst (λ (z : Paired). NearsDo p.core z.core) (sym is) (picked-nearer p.core.requests p.core refl (hand-none p.core.work.hand (and_parts _ _ can).0) (and_parts _ _ can).1)
applied-nearer Give p q can is less =
    subst (λ (z : Paired). NearsDo p.core z.core) (sym is) (given-nearer p.core.work.hand p.entities p.core refl can)
applied-nearer Take p q can is less =
    subst (λ (z : Paired). NearsDo p.core z.core) (sym is) (taken-nearer p.core.replies p.entities p.core refl (and_parts _ _ can).1)
applied-nearer Do p q can is less = less
applied-nearer (Arrive name) p q can is less =
    subst (λ (z : Paired). left_to_do z.core.desk ≡ left_to_do p.core.desk) (sym is) (same-left p.core.desk.phase p.core.desk (arrives name p.core.desk) refl refl)
