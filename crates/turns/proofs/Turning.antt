-- From a call and its rows to a turn of the player.
use Prim.Native.Nat.{ℕ, ◌-◌, ◌≤◌}
use mathlib.Core.Path.{◌≡◌, refl, sym, ◌∙◌, ap, subst}
use mathlib.Core.Bool.{cond}
use mathlib.Core.List.{List, [], ◌∷◌, ◌++◌}
use Rattle.std.specs.Prelude.{None, Some}
use mathlib.Core.Logic.{◌≢◌}
use native.Mathlib.Omega.{arith}
use native.Mathlib.Nat.{sub-zero}
use lib.Dec.{eqb}
use lib.ListN.{length, take, drop, replicate, length-replicate, length-append}
use lib.Seq.{length-take-le}
use borrow.Author.Tests.{eq-eqb, ne_eqb}
use Rattle.protocol.specs.Calls.{Outcome, Request, Read, PowerUp, perform, plan}
use Rattle.protocol.specs.Calls.{format}
use Rattle.protocol.specs.declared.Shape.{Shape}
use Rattle.protocol.specs.declared.Requester.{Requester}
use Rattle.volatile.specs.declared.Record.{Record}
use Rattle.protocol.specs.Replies.{reply_says, answer_says}
use Rattle.protocol.specs.declared.Reply.{Reply}
use Rattle.store.specs.Promise.{Performed, Formatted, Answered}
use Rattle.text.specs.Events.{room}
use Rattle.text.specs.Letters.{format_letter, read_letter, power_up_letter, character_of}
use Rattle.text.specs.Rows.{following, rows_meant}
use Rattle.text.specs.Turns.{uncut, ended}
use Rattle.text.specs.declared.Row.{Row}
use Rattle.text.specs.declared.Letter.{Letter}
use Rattle.turns.specs.Turned.{Turns, Powered, area_size}
use Rattle.turns.specs.declared.Turned.{Turned}
use Rattle.protocol.proofs.Demand1.{read_stores_nothing}
use Rattle.turns.proofs.Laws.{lent_image, outcome_of, no_bytes, perform_length, format_length, format_none}
use Rattle.turns.proofs.Laws.{few_answered, bytes_answered}

-- ---- a call on the first `size` bytes of the area

-- The lists as the borrow checker has them: what is lent, and the area when that became `part`.
abbrev pub lent : ℕ → List ℕ → List ℕ
lent size area = take (size - 0) (drop 0 area)

abbrev pub left : ℕ → List ℕ → List ℕ → List ℕ
left size area part = part ++ drop (size - 0) (drop 0 area)

module _ (request : Request) (k : ℕ) (state : Record) (area : List ℕ) (size : ℕ) {reply : Reply} {part : List ℕ}
    (l : size ≤ length area) (p : Performed request k (lent size area) state reply part) where
  o : Outcome
  o = perform (take size area) state request k

  performed : Performed request k (take size area) state reply part
  performed = rw sub-zero at p

  part_size : length part ≡ size
  part_size =
      ap length performed.image ∙ perform_length (take size area) state request k ∙ length-take-le size area l

  -- the image afterwards
  image_left : take size (left size area part) ≡ o.image
  unfolding o
  image_left = lent_image size area part part_size ∙ performed.image

  -- a turn with what the call left is the turn of its outcome
  pub called : (letter : ℕ) {bytes : List ℕ} {r : Turned} {x buffer : List ℕ} →
      bytes ≡ (perform (take size area) state request k).bytes →
      Turns (ended letter (record { reply = reply_says reply; image = take size (left size area part); bytes = bytes }))
      r x buffer →
      Turns (ended letter (perform (take size area) state request k)) r x buffer
  unfolding o
  called letter {r} {x} {buffer} e t =
      subst (λ (q : Outcome). Turns (ended letter q) r x buffer)
      (outcome_of (perform (take size area) state request k) performed.reply image_left e) t

-- the power-up that follows a cut
pub powered : (state : Record) (area : List ℕ) (size : ℕ) (first : Row) {reply : Reply} {part : List ℕ} →
    size ≤ length area → Performed PowerUp uncut (lent size area) state reply part →
    Powered (perform (take size area) state PowerUp uncut) size first
    (record {
      next = record { length = size; state = reply.next; k = uncut };
      rows = record { first = first; after = Some reply.answer };
    }) (left size area part)
unfolding o following
powered state area size first l p =
    let q = performed PowerUp uncut state area size l p in
    record {
      first_row = refl;
      second_row = ap (λ r. record { letter = power_up_letter; answer = r.answer; bytes = [] } ∷ []) q.reply;
      next = rw (← q.reply, image_left PowerUp uncut state area size l p);
      same = refl;
    }

-- ---- turns

-- the row of a call, with so many bytes of the buffer, and its outcome
abbrev first_row : Letter → Reply → ℕ → Row
first_row letter reply count = record { letter = Some letter; answer = reply.answer; count = count }

abbrev outcome : Reply → List ℕ → ℕ → List ℕ → Outcome
outcome reply image count buffer = record { reply = reply_says reply; image = image; bytes = take count buffer }

-- a call that was cut
pub cut_turn : (letter : Letter) (reply : Reply) (image : List ℕ) {count size : ℕ} (buffer : List ℕ) {r : Turned}
    {area : List ℕ} → count ≤ room → size ≤ area_size → (answer_says reply.answer).status ≡ 9 →
    Powered (perform image reply.next PowerUp uncut) size (first_row letter reply count) r area →
    Turns (ended (character_of letter) (outcome reply image count buffer)) r area buffer
unfolding ended rows_meant following plan
cut_turn letter reply image buffer few l nine p =
    rw (eq-eqb _ _ nine)
    (record {
      rows = rw (p.first_row, p.second_row, ← no_bytes image reply.next PowerUp uncut refl);
      next = p.next;
      fits = omega (arith, p.same);
      few = rw p.first_row few;
    })

-- a call that was not
pub done_turn : (letter : Letter) (reply : Reply) (size : ℕ) (area : List ℕ) {count : ℕ} (buffer : List ℕ) →
    count ≤ room → size ≤ area_size → (answer_says reply.answer).status ≢ 9 →
    Turns (ended (character_of letter) (outcome reply (take size area) count buffer))
    (record {
      next = record { length = size; state = reply.next; k = uncut };
      rows = record { first = first_row letter reply count; after = None };
    }) area buffer
unfolding ended rows_meant following
done_turn letter reply size area buffer few l other =
    rw (ne_eqb _ _ other) (record { rows = refl; next = refl; fits = l; few = few })

-- ---- reads

-- a read into the first bytes of a buffer
module _ (area : List ℕ) (size : ℕ) (state : Record) (who : Requester) (a n k : ℕ) (buffer : List ℕ) {count : ℕ}
    {x : List ℕ} {reply : Reply} (l : room ≤ length buffer)
    (m : Answered (Read who a n (length (take room buffer))) (lent size area) state (take room buffer) reply x)
    (c : count ≡ cond (eqb (answer_says reply.answer).status 0) n 0) where
  asked : Answered (Read who a n room) (take size area) state (take room buffer) reply x
  asked = rw sub-zero at (rw length-take-le at m)

  pub few_read : count ≤ room
  few_read = few_answered (take size area) state who a n room k (asked.reply k) c

  pub read_turn : {r : Turned} {y : List ℕ} →
      let left = x ++ drop room buffer in
      Turns (ended read_letter (outcome reply (take size area) count left)) r y left →
      Turns (ended read_letter (perform (take size area) state (Read who a n room) k)) r y left
  read_turn {r} {y} t =
      let image = take size area in
      let rest = drop room buffer in
      subst (λ (o : Outcome). Turns (ended read_letter o) r y (x ++ rest))
      (outcome_of (perform image state (Read who a n room) k) (asked.reply k)
      (sym (read_stores_nothing image state who a n room k))
      (bytes_answered image state who a n room k (asked.reply k) c (take room buffer) rest (asked.buffer k))) t

-- ---- formats

-- a format that left the area's first bytes, as a turn
pub formatted : (s : Shape) (image : List ℕ) (k : ℕ) (state : Record) {image' : List ℕ} {reply : Reply} {r : Turned}
    {x buffer : List ℕ} → Formatted s image state k reply image' →
    Turns (ended format_letter (record { reply = reply_says reply; image = image'; bytes = [] })) r x buffer →
    Turns (ended format_letter (format s image state k)) r x buffer
formatted s image k state {r} {x} {buffer} f t =
    subst (λ (q : Outcome). Turns (ended format_letter q) r x buffer)
    (outcome_of (format s image state k) f.reply f.image (format_none s image state k)) t

pub formatted_lent : (s : Shape) (area : List ℕ) (size k : ℕ) (state : Record) {part : List ℕ} {reply : Reply} →
    size ≤ length area → Formatted s (lent size area) state k reply part →
    Formatted s (take size area) state k reply (take size (left size area part))
formatted_lent s area size k state {part} {reply} l f =
    let g : Formatted s (take size area) state k reply part =
    subst (λ (m : ℕ). Formatted s (take m area) state k reply part) (sub-zero size) f
    in
    let long : length part ≡ size =
    ap length g.image ∙ format_length s (take size area) state k ∙ length-take-le size area l
    in
    record { reply = g.reply; image = lent_image size area part long ∙ g.image }

-- the first bytes zeroed, then formatted
pub formatted_anew : (s : Shape) (area : List ℕ) (size k : ℕ) (state : Record) {one two : List ℕ} {reply : Reply} →
    size ≤ length area → one ≡ replicate (length (lent size area)) 0 →
    Formatted s (lent size (left size area one)) state k reply two →
    Formatted s (replicate size 0) state k reply (take size (left size (left size area one) two))
formatted_anew s area size k state {one} {two} {reply} l z f =
    let whole : length (lent size area) ≡ size = rw sub-zero (length-take-le size area l) in
    let zeros : one ≡ replicate size 0 = z ∙ ap (λ (n : ℕ). replicate n 0) whole in
    let long : length one ≡ size = ap length zeros ∙ length-replicate size 0 in
    let same : lent size (left size area one) ≡ replicate size 0 =
    ap (λ (m : ℕ). take m (left size area one)) (sub-zero size)
    ∙ lent_image size area one long
    ∙ zeros
    in
    let g = formatted_lent s (left size area one) size k state
    (omega (arith, length-append one (drop (size - 0) (drop 0 area)), long)) f in
    subst (λ (x : List ℕ). Formatted s x state k reply (take size (left size (left size area one) two)))
    (sym (ap (λ (m : ℕ). take m (left size area one)) (sub-zero size)) ∙ same) g
