-- A read and a write that are taken, and a read that is refused.
use Prim.Native.Nat.{ℕ, ◌+◌, ◌-◌, ◌/◌, ◌≤◌, ◌<◌}
use mathlib.Core.Path.{◌≡◌, refl, sym, ◌∙◌, ap, ap₂, subst, subst⁻¹}
use mathlib.Core.Bool.{Bool, true, false, cond}
use mathlib.Core.List.{List, [], ◌∷◌, ◌++◌, map, map-append, append-nil}
use mathlib.Core.Logic.{◌⊎◌, inl, inr, ⊎_elim}
use lib.Dec.{eqb}
use lib.ListN.{length, get_or}
use lib.Seq.{take-nil}
use native.Mathlib.Nat.{sub_self}
use native.Mathlib.Numerals.{add-one}
use native.Mathlib.Omega.{arith}
use borrow.Author.Tests.{le-ltb}
use Rattle.boards.specs.Lists.{span, any_of}
use Rattle.protocol.specs.Accesses.{board_of, touched, read_binding, write_binding, bind_blocks}
use Rattle.protocol.specs.declared.Binding.{Binding}
use Rattle.protocol.specs.declared.Binding.TheVariants.{OneWay, TwoWay, Opposite}
use Rattle.protocol.specs.Image.{Current, Tags, Store, Put, raw, size, base, shape_of, view}
use Rattle.volatile.specs.Volatile.{depend}
use Rattle.protocol.specs.Calls.{Read, Write, refusal_at, refusal_of, tagging, placing, plan, refused, record_refused}
use Rattle.protocol.specs.Calls.{executed, filled}
use Rattle.protocol.specs.declared.Shape.{Shape}
use Rattle.protocol.specs.declared.Requester.{Requester}
use Rattle.volatile.specs.declared.Record.{Record}
use Rattle.protocol.specs.Replies.{reply_says}
use Rattle.protocol.specs.Replies.{refusal_number}
use Rattle.protocol.specs.declared.Refusal.{Refusal}
use Rattle.protocol.specs.declared.Reply.{Reply}
use Rattle.boards.proofs.Basics.{decide, length_span, span_same}
use Rattle.protocol.proofs.Bridge.{view_at}
use Rattle.protocol.proofs.Outcomes.{taken, turned_down}
use Rattle.protocol.proofs.Plans.{ranged, write_inside, inside_quiet}
use Rattle.store.specs.Budget.{Makes, start}
use Rattle.store.specs.Runs.{put_stores}
use Rattle.store.specs.declared.Budget.{Budget}
use Rattle.store.specs.Promise.{Answered, Performed, reply_of}
use Rattle.store.proofs.Laws.{makes_none}
use Rattle.store.proofs.Areas.{placing_stores}
use Rattle.store.proofs.Ends.{ended, turned}
use Rattle.protocol.proofs.Numbers.{refusal_not_zero}
use Rattle.layout.proofs.Laws.{bounded, tag_read}
use Rattle.entry.specs.Tested.{Passed}
use Rattle.entry.proofs.Laws.{small}
use Rattle.admission.specs.declared.Place.{Place}
use Rattle.admission.specs.Places.{Placed}
use Rattle.admission.proofs.Extent.{whole_touched, bind_touched}
use Rattle.admission.proofs.Tests.{in_image}
use Rattle.access.specs.Leaves.{bound, filled_from, tag_store, first_tag_store, last_tag_store, binding_of}

-- the place of an access lies in the image, and its board is one of sixteen
pub record Within (image : List ℕ) (n : ℕ) (p : Place) : Type 0 where
  pub board : p.board < 16
  pub first_tag : p.first.tag ≤ 16
  pub last_tag : p.last.tag ≤ 16
  pub first_block : 12 + p.first.number < length image
  pub last_block : 12 + p.last.number < length image
  pub cells : p.at + n ≤ length image

pub within : {image : List ℕ} {r : Record} {who : Requester} {a n room : ℕ} {p : Place} → Placed image r who a n room p
    → Within image n p
within {image} {a = a} {n = n} k =
    let shaped = k.entry.shaped in
    let long = shaped.long in
    let lies = in_image (shape_of image) a n shaped.allowed_shape k.range in
    let size = bounded shaped.allowed_shape in
    record {
      board = subst (λ i. i < 16) (sym (ap (λ (p : Place). p.board) k.place)) (small k.entry);
      first_tag = omega (arith, k.first_known, size);
      last_tag = omega (arith, k.last_known, size);
      first_block = omega (arith, lies, ap (λ (p : Place). p.first.number) k.place);
      last_block = omega (arith, lies, ap (λ (p : Place). p.last.number) k.place);
      cells = omega (arith, lies, ap (λ (p : Place). p.at) k.place);
    }

-- the links of an access that binds alike in each of its blocks
bound_touched : {image : List ℕ} {r : Record} {who : Requester} {a n room : ℕ} {p : Place}
    → Placed image r who a n room p → (how : ℕ → Binding) (kind : Binding) →
    let s = shape_of image in
    how (a / s.size) ≡ kind → how ((a + n - 1) / s.size) ≡ kind
    → bound kind p r ≡ bind_blocks depend how (view s image Tags) r (board_of s who) (touched s a n)
bound_touched {image} {r} {who} {a} {n} {p = p} k how kind f l =
    let s = shape_of image in
    let i = board_of s who in
    let below = in_image s a n k.entry.shaped.allowed_shape k.range in
    ap (λ p. bound kind p r) k.place
    ∙ rw (← tag_read s image (a / s.size) below.first, ← tag_read s image ((a + n - 1) / s.size) below.last)
    (sym (bind_touched s a n how kind (view s image Tags) r i f l))

-- ---- a read

filled_current : (s : Shape) (image buffer : List ℕ) (at a n : ℕ) → at ≡ base s Current + a → a + n ≤ size s Current
    → filled_from image at n buffer ≡ filled (span (view s image Current) a n) buffer
unfolding filled_from filled
filled_current s image buffer at a n e l =
    let same = span_same (λ x. get_or image x 0) (view s image Current) at a n (λ x k.
    ap (λ y. get_or image y 0) (omega arith) ∙ sym (view_at s image Current (a + x) (omega arith))) in
    rw (same, length_span (view s image Current) a n)

-- no store: the answer is the same for every budget
none_spent : (b : ℕ) (next : Record) → reply_of 0 (start 0) false 0 next ≡ reply_of b (start b) false 0 next
unfolding reply_of
none_spent b next = rw (← sub_self b)

module _ {image : List ℕ} {r : Record} (who : Requester) (a n : ℕ) (buffer : List ℕ) where
  pub read_refused : (room : ℕ) (why : Refusal) {reply : Reply}
      → refusal_at image r (Read who a n room) ≡ refusal_number why
      → reply_says reply ≡ refusal_of (refusal_number why) r → Answered (Read who a n room) image r buffer reply buffer
  unfolding refused record_refused filled
  read_refused room why h f =
      let request = Read who a n room in
      record {
        reply = λ b. (turned r request {k = b} why h refl f).reply;
        buffer = λ b.
            sym (ap (λ o. filled o.bytes buffer)
            (turned_down image refl r request (λ z. refusal_not_zero why (sym h ∙ z)) b));
      }

  pub read_done : (room : ℕ) {p : Place} {b : Budget} {next : Record} {reply : Reply} {after : List ℕ}
      → Passed (refusal_at image r (Read who a n room)) (Placed image r who a n room) p
      → next ≡ bound OneWay p r → after ≡ filled_from image p.at n buffer → b ≡ start 0
      → reply_says reply ≡ reply_of 0 b false 0 next → Answered (Read who a n room) image r buffer reply after
  unfolding executed plan any_of size read_binding
  read_done room {p} {next = next} passed q f new g =
      let s = shape_of image in
      let k = passed.known in
      let begins = ap (λ (p : Place). p.at) k.place in
      let whole = g ∙ ap (λ b. reply_of 0 b false 0 next) new in
      let bytes = filled_current s image buffer p.at a n begins (ranged s a n k.range).within in
      record {
        reply = λ b.
            (ended r (Read who a n room) refl passed.none refl (makes_none (start b) image) (rw take-nil) refl
            (q ∙ bound_touched k read_binding OneWay refl refl) (whole ∙ none_spent b next)).reply;
        buffer = λ b.
            let o = ap (λ o. filled o.bytes buffer) (taken image refl r (Read who a n room) passed.none b) in
            f ∙ bytes ∙ sym (rw (le-ltb b 0 (omega arith)) at o);
      }

-- ---- a write

-- one tag, stored or not, and what follows it
one_tag : (f : Put → Store) (b : Bool) (t : Put) (rest : List Put)
    → map f (cond b [] (t ∷ []) ++ rest) ≡ cond b [] (f t ∷ []) ++ map f rest
one_tag f true t rest = refl
one_tag f false t rest = refl

module _ {image : List ℕ} {r : Record} (who : Requester) (a : ℕ) (bytes : List ℕ) {p : Place} {room : ℕ}
    (k : Placed image r who a (length bytes) room p)
  where
    abbrev i : ℕ
    i = board_of (shape_of image) who

    -- the stores of a write's plan, as the code makes them
    tags_stored : let s = shape_of image in
        map (raw s) (tagging (view s image) i (touched s a (length bytes))) ≡ first_tag_store p ++ last_tag_store p
    unfolding touched tagging first_tag_store last_tag_store tag_store raw base
    tags_stored =
        let s = shape_of image in
        let first = a / s.size in
        let last = (a + length bytes - 1) / s.size in
        let below = in_image s a (length bytes) k.entry.shaped.allowed_shape k.range in
        let one = tag_read s image first below.first in
        let two = tag_read s image last below.last in
        ⊎_elim
        (λ (e : eqb first last ≡ true). rw (e, one_tag (raw s), one, add-one))
        (λ (e : eqb first last ≡ false). rw (e, one_tag (raw s), one_tag (raw s), one, two, append-nil, add-one))
        (decide (eqb first last))
        ∙ sym (ap (λ p. first_tag_store p ++ last_tag_store p) k.place)

    write_stores : let s = shape_of image in
        map (raw s) (plan s (view s image) r (Write who a bytes)).stores
        ≡ (first_tag_store p ++ last_tag_store p) ++ put_stores p.at bytes
    unfolding plan
    write_stores =
        let s = shape_of image in
        map-append (raw s) (tagging (view s image) i (touched s a (length bytes))) (placing Current a bytes)
        ∙ ap₂ (λ x y. x ++ y) tags_stored
        (placing_stores s Current a p.at bytes (ap (λ (p : Place). p.at) k.place))

    -- its kind of binding in a touched block, as the code chooses it
    bound_as : let s = shape_of image in
        let n = length bytes in
        (b : ℕ) → (b ≡ a / s.size) ⊎ (b ≡ (a + n - 1) / s.size) → write_binding s a n b ≡ binding_of p n
    unfolding write_binding
    bound_as b q =
        let s = shape_of image in
        let n = length bytes in
        let some = (bounded k.entry.shaped.allowed_shape).limits.some_size in
        ap (λ w. cond w Opposite TwoWay) (whole_touched s a n some (ranged s a n k.range) b q)
        ∙ sym (ap (λ p. binding_of p n) k.place)

    pub write_done : {m : ℕ} {b left : Budget} {how : Binding} {next : Record} {reply : Reply} {after : List ℕ}
        → refusal_at image r (Write who a bytes) ≡ 0 → how ≡ binding_of p (length bytes) → next ≡ bound how p r
        → b ≡ start m → Makes ((first_tag_store p ++ last_tag_store p) ++ put_stores p.at bytes) b image left after
        → reply_says reply ≡ reply_of m left false 0 next → Performed (Write who a bytes) m image r reply after
    unfolding plan
    write_done {m} {b} {left} {how} {after = after} z e q new h g =
        let s = shape_of image in
        let n = length bytes in
        let links = q ∙ bound_touched k (write_binding s a n) how (bound_as (a / s.size) (inl refl) ∙ sym e)
        (bound_as ((a + n - 1) / s.size) (inr refl) ∙ sym e) in
        let some = (bounded k.entry.shaped.allowed_shape).limits.some_size in
        let inside = write_inside s (view s image) i a bytes some (ranged s a n k.range) in
        ended r (Write who a bytes) refl z new (subst⁻¹ (λ ss. Makes ss b image left after) write_stores h)
        (inside_quiet s m inside) refl links g
