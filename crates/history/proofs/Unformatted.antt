-- Where no format was done byte 0 is 0, whatever the budget of one that was cut: every call is refused by 11.
use Prim.Native.Nat.{ℕ, zero, suc, ◌-◌}
use mathlib.Core.Path.{◌≡◌, refl, sym, ◌∙◌, ap, subst}
use mathlib.Core.Bool.{true, false}
use mathlib.Core.List.{List, [], ◌∷◌}
use mathlib.Core.Logic.{⊎_elim}
use native.Mathlib.Omega.{arith}
use lib.Dec.{ltb}
use lib.ListN.{length, take, set, replicate}
use lib.Seq.{take-append-le}
use borrow.Author.Tests.{ltb-true}
use Rattle.boards.specs.Lists.{span, every}
use Rattle.boards.proofs.Basics.{decide, All, none, also, all_take, length_span, all_span}
use Rattle.volatile.specs.Volatile.{off}
use Rattle.volatile.specs.declared.Record.{Record}
use Rattle.protocol.specs.Image.{allowed, total, header, mark, byte, in_order, Store, made}
use Rattle.protocol.specs.Calls.{Request, Read, Write, Start, Acknowledge, Fault, PowerUp, first, refusals}
use Rattle.protocol.specs.Calls.{entry_tests, power_tests, refused, executed, record_refused, perform}
use Rattle.protocol.specs.Calls.{format_tests, formatting, format}
use Rattle.protocol.specs.Ledger.{cut}
use Rattle.protocol.specs.Claim.{verdict}
use Rattle.protocol.specs.declared.Shape.{Shape}
use Rattle.protocol.proofs.Outcomes.{not_cut, cut_not_done}
use Rattle.protocol.proofs.Format.{format_stores}
use Rattle.text.specs.Events.{Event, Format, Make, Allow, Refused, taken}
use Rattle.text.specs.Letters.{format_letter, power_up_letter}
use Rattle.text.specs.Turns.{Player, Turn, uncut, row, moved, ended, request_letter, play}
use Rattle.text.specs.Whole.{Line, Run, next_run, start}
use Rattle.history.specs.History.{run_after, player_after, begins, NoneBegins, zeros, begun, row_11}
use Rattle.history.specs.History.{Refuses, TextRefused}
use Rattle.history.proofs.Runs.{after_line, none_begin, prints}
use Rattle.history.proofs.Formats.{within, carried, formats_anew, ended_cut}

-- ---- an image whose byte 0 is 0

unordered : (image : List ℕ) → byte image 0 ≡ 0 → (most : ℕ) → in_order most image ≡ false
unfolding in_order every mark
unordered image z most = rw z

-- a refused power-up answers the off record, the others the one that they were given
all_refused : (image : List ℕ) (request : Request) (k : ℕ) → byte image 0 ≡ 0 →
    perform image off request k ≡ refused 11 image off
unfolding perform refusals entry_tests power_tests first record_refused
all_refused image (Read who a n room) k z = rw (unordered image z 0)
all_refused image (Write who a bytes) k z = rw (unordered image z 0)
all_refused image (Start i context) k z = rw (unordered image z 0)
all_refused image (Acknowledge i context) k z = rw (unordered image z 0)
all_refused image (Fault i) k z = rw (unordered image z 0)
all_refused image PowerUp k z = rw (unordered image z 1)

-- ---- what a format leaves that is cut

-- a store that leaves 0 in byte 0
abbrev Spares : Store → Type 0
Spares s = s.at ≡ 0 → s.value ≡ 0

spared : {ss : List Store} (image : List ℕ) → All Spares ss → byte image 0 ≡ 0 → byte (made ss image) 0 ≡ 0
unfolding made
spared image none z = z
spared image (also {x = s} h hs) z = spared (set image s.at s.value) hs (one image s.at z h)
  where
    one : (image : List ℕ) (at : ℕ) → byte image 0 ≡ 0 → (at ≡ 0 → s.value ≡ 0) → byte (set image at s.value) 0 ≡ 0
    one [] at z h = refl
    one (b ∷ image) zero z h = h refl
    one (b ∷ image) (suc at) z h = z

-- the stores of a format before the last one
abbrev header_store : Shape → ℕ → Store
header_store s i = record { at = i; value = byte (header s) i }

front : Shape → List Store
front s = record { at = 0; value = 0 } ∷ span (header_store s) 1 (total s - 1)

front_spares : (s : Shape) → All Spares (front s)
unfolding front
front_spares s = also (λ e. refl) (all_span (header_store s) 1 (total s - 1) (λ i l _ e. absurd (omega arith)))

zeros_begin : (n : ℕ) → byte (replicate n 0) 0 ≡ 0
zeros_begin zero = refl
zeros_begin (suc n) = refl

module _ (s : Shape) (p : Player) (v : verdict (begun s p) ≡ cut) where
  fine : allowed s ≡ true
  fine = within s p (λ e. not_cut e v)

  short : ltb p.k (length (formatting s)) ≡ true
  unfolding verdict executed
  short =
      let test = ltb p.k (length (formatting s)) in
      ⊎_elim
      (λ (e : test ≡ true). e)
      (λ (e : test ≡ false). cut_not_done (sym (ap verdict (carried s p fine)) ∙ v) (rw e))
      (decide test)

  -- it never comes to the last store
  some_front : take p.k (formatting s) ≡ take p.k (front s)
  unfolding front formatting
  some_front =
      take-append-le p.k (front s) _
      (omega (
        arith,
        ltb-true p.k (length (formatting s)) short,
        format_stores s,
        length_span (header_store s) 1 (total s - 1),
      ))

  cut_image : byte (begun s p).image 0 ≡ 0
  unfolding executed
  cut_image =
      ap (λ o. byte o.image 0) (carried s p fine)
      ∙ rw some_front (spared (zeros s) (all_take p.k (front_spares s)) (zeros_begin (total s)))

  cut_state : (begun s p).reply.next ≡ off
  unfolding executed
  cut_state = ap (λ o. o.reply.next) (carried s p fine) ∙ rw short

  -- the power-up after it is refused too
  cut_turn : play p (Format s)
      ≡ record {
        rows = row format_letter (begun s p) ∷ row_11 power_up_letter ∷ [];
        next = record { image = (begun s p).image; state = off; k = uncut };
      }
  unfolding refused
  cut_turn =
      formats_anew.turns s p fine ∙ ended_cut format_letter (begun s p) v
      ∙ ap (λ u. record { rows = row format_letter (begun s p) ∷ row power_up_letter u ∷ []; next = moved u })
      (ap (λ (r : Record). perform (begun s p).image r PowerUp uncut) cut_state
      ∙ all_refused (begun s p).image PowerUp uncut cut_image)

-- ---- lines without an image

-- no mark in byte 0, and the record off
record Unmarked (p : Player) : Type 0 where
  image : byte p.image 0 ≡ 0
  state : p.state ≡ off

unmarked_turn : (p : Player) (request : Request) → Unmarked p →
    play p (Make request)
    ≡ record { rows = row_11 (request_letter request) ∷ []; next = record { image = p.image; state = off; k = uncut } }
unfolding play ended refused
unmarked_turn p request d =
    ap (λ (r : Record). ended (request_letter request) (perform p.image r request p.k)) d.state
    ∙ ap (ended (request_letter request)) (all_refused p.image request p.k d.image)

unmarked_step : (p : Player) (event : Event) → begins event ≡ false → Unmarked p → Unmarked (play p event).next
unfolding play begins ended format format_tests first refused
unmarked_step p (Format t) h d = rw h (record { image = d.image; state = d.state })
unmarked_step p (Make request) h d =
    subst (λ (t : Turn). Unmarked t.next) (sym (unmarked_turn p request d))
    (record { image = d.image; state = refl })
unmarked_step p (Allow k) h d = record { image = d.image; state = d.state }
unmarked_step p (Refused n) h d = record { image = d.image; state = d.state }

unmarked_lines : (r : Run) (ls : List Line) → Unmarked r.player → NoneBegins ls → Unmarked (run_after r ls).player
unfolding run_after next_run
unmarked_lines r [] d h = d
unmarked_lines r (l ∷ ls) d h =
    let none = none_begin l ls h in
    unmarked_lines (next_run r l) ls (unmarked_step r.player (taken l) none.0 d) none.1

refuses : {p : Player} → Unmarked p → Refuses p
refuses {p} d = record { state = d.state; turns = λ request. ap (λ (t : Turn). t.rows) (unmarked_turn p request d) }

pub text_refused : TextRefused
unfolding start next_run
text_refused =
    record {
      at_first =
          λ text ls rest h n. (prints h, refuses (unmarked_lines start ls (record { image = refl; state = refl }) n));
      after_cut =
          λ text before f ls rest s h.
          let p = player_after before in
          let turn = cut_turn s p h.outcome in
          let unmarked : Unmarked (play p (taken f)).next =
          subst (λ (q : Player). Unmarked q)
          (sym (ap (λ (e : Event). (play p e).next) h.shape ∙ ap (λ (t : Turn). t.next) turn))
          (record { image = cut_image s p h.outcome; state = refl })
          in (
            prints h.plays,
            ap (λ (t : Turn). t.rows) turn,
            subst (λ (r : Run). Refuses r.player) (sym (after_line before f ls))
                (refuses (unmarked_lines (next_run (run_after start before) f) ls unmarked h.none_begins)),
          );
    }
