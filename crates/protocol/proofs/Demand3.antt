-- Demand 3: what the invariant gives at each point of every list of calls, from a finished format on.
use Prim.Native.Nat.{ℕ, ◌+◌, ◌*◌, ◌<◌, suc}
use mathlib.Core.Path.{◌≡◌, refl, sym, ◌∙◌, ap, subst}
use mathlib.Core.Bool.{false, not}
use mathlib.Core.List.{List, [], ◌∷◌}
use mathlib.Core.Logic.{◌≢◌}
use lib.Dec.{eqb}
use lib.ListN.{length, length-replicate, get_or-replicate}
use lib.Seq.{ext_get_or}
use lib.Pow.{pow_pos}
use native.Mathlib.Omega.{arith}
use Rattle.boards.specs.Lists.{span}
use Rattle.boards.specs.Boards.{unlinked}
use Rattle.protocol.specs.Image.{Decision, Tags, Current, Recovery, Checkpoint, rank, view, byte, base}
use Rattle.protocol.specs.Image.{size, shape_of}
use Rattle.protocol.specs.Accesses.{board_of}
use Rattle.volatile.specs.Volatile.{closed, fresh}
use Rattle.protocol.specs.Calls.{format, Write, first, refusals}
use Rattle.protocol.specs.Ledger.{refused, done, blank, writer}
use Rattle.protocol.specs.Claim.{verdict, System, Call, answer, next, formatted, Holds}
use Rattle.protocol.specs.Claim.{Faithful, end, and_then, Demand3, FormatDone, later}
use Rattle.protocol.specs.declared.Shape.{Shape}
use Rattle.protocol.specs.declared.Requester.{Requester}
use Rattle.volatile.specs.declared.Record.{Record}
use Rattle.boards.proofs.Basics.{clash}
use Rattle.boards.proofs.Basics.{get_or_span, length_span}
use Rattle.boards.proofs.Groups.{has_zero}
use Rattle.volatile.proofs.Records.{depends_fresh}
use Rattle.volatile.proofs.Order.{fresh_order, orderly_record, orderly}
use Rattle.protocol.proofs.Outcomes.{done_status}
use Rattle.protocol.proofs.Marks.{marks, live, saved, live_byte}
use Rattle.protocol.proofs.Consistent.{blank_ok, clean_reads}
use Rattle.protocol.proofs.Bridge.{Sound, view_at, view_decision, context_of, limits}
use Rattle.protocol.proofs.Format as Format
use Rattle.protocol.proofs.Agreement.{On, nobody}
use Rattle.protocol.proofs.Plans.{Ranged}
use Rattle.protocol.proofs.Invariant.{Invariant, up, down, step, write_ok, off_refuses}
use Rattle.protocol.proofs.Order.{not_turned_down, Ready, no_state_refusal, next_ready}
use Rattle.protocol.specs.Dependences.{last_by}
use Rattle.protocol.proofs.Dependences.{names_eqb, writer_last}

-- ---- what the claim says at each point

module _ {s : Shape} (w : System) (h : Sound s w.image) (on : On s (view s w.image) w.state w.ledger) where
  on_holds : w.waiting ≡ false → Ready s w → Holds s w
  unfolding size
  on_holds q ready =
      record {
        current =
            λ _ a k.
            sym (view_at s w.image Current a k) ∙ on.current a k ∙ sym (live_byte w.ledger.notes a);
        context =
            λ _ i k.
            let c = context_of h (sym (view_decision h) ∙ on.undecided) i k in
            (c.0, c.1 ∙ kept_context i k);
        reads = clean_reads on.consistent;
        links = on.consistent.told;
        rows = λ _ i j. ap (λ d. d i j) on.links ∙ on.consistent.told i j;
        tags = λ _ b j l. tag_told b j l;
        powered = (orderly s.boards w.state (ready.state q)).on ∙ sym (ap not q);
        ready = λ _. no_state_refusal w h on (ready.state q);
      }
    where
      -- a block's tag, by the notes
      tag_told : (b j : ℕ) → b < s.blocks
          → eqb (byte w.image (base s Tags + b)) (suc j) ≡ last_by s w.ledger.notes j b
      tag_told b j l =
          ap (λ t. eqb t (suc j)) (sym (view_at s w.image Tags b l) ∙ on.tags b l)
          ∙ names_eqb (writer s w.ledger.notes b) j
          ∙ writer_last s (limits s h.allowed_shape).some_size w.ledger.notes on.consistent.narrow j b

      kept_context : (i : ℕ) → i < s.boards
          → span (view s w.image Checkpoint) (i * s.context) s.context ≡ w.ledger.kept i
      kept_context i k =
          ext_get_or 0 (span (view s w.image Checkpoint) (i * s.context) s.context) (w.ledger.kept i)
          (length_span (view s w.image Checkpoint) (i * s.context) s.context ∙ sym (on.lengths i).1)
          (λ x d.
          let x< : x < s.context = omega (
            arith,
            length_span (view s w.image Checkpoint) (i * s.context)
                s.context,
          ) in
          get_or_span (view s w.image Checkpoint) (i * s.context) s.context x 0 x< ∙ on.contexts i x k x<)

holds : {s : Shape} {w : System} → Invariant s w → Ready s w → Holds s w
holds {w = w} (up h q on) ready = on_holds w h on q ready
holds (down h q o c) ready =
    record {
      current = λ e. clash q e;
      context = λ e. clash q e;
      reads = clean_reads c.consistent;
      links = c.consistent.told;
      rows = λ e. clash q e;
      tags = λ e. clash q e;
      powered = o ∙ sym (ap not q);
      ready = λ e. clash q e;
    }

-- ---- every list

faithful : {s : Shape} (w : System) (calls : List Call) → Invariant s w → Ready s w → Faithful s w calls
faithful w [] i r = end (holds i r)
faithful {s} w (c ∷ cs) i r =
    let both = step w i c.request c.k in
    and_then (holds i r) both.0
    (faithful (next s w c.request c.k) cs both.1 (next_ready i r c.request c.k both.0))

-- ---- the beginning

formatted_on : (s : Shape) (image : List ℕ) (r : Record) (k : ℕ) → verdict (format s image r k) ≡ done
    → Invariant s (formatted s image r k)
unfolding formatted blank rank unlinked marks live saved writer fresh closed
formatted_on s image r k v =
    let f = Format.formatted s image r k (done_status (format s image r k) v) in
    let zeros = f.1 in
    up f.0 refl
    (rw f.2
    (record {
      consistent = blank_ok s;
      links = depends_fresh;
      undecided = zeros Decision (omega arith) 0;
      tags = λ b l. zeros Tags (omega arith) b;
      current = λ a l. zeros Current (omega arith) a;
      recovery = λ a l. zeros Recovery (omega arith) a;
      contexts = λ i x l d. zeros Checkpoint (omega arith) (i * s.context + x) ∙ sym
          (get_or-replicate s.context x 0 0 d);
      lengths = λ i. (length-replicate s.context 0, length-replicate s.context 0);
      commit = nobody refl refl;
      given = λ i x l d e. clash e (has_zero i);
    }))

formatted_ready : (s : Shape) (image : List ℕ) (r : Record) (k : ℕ) → verdict (format s image r k) ≡ done
    → Ready s (formatted s image r k)
unfolding formatted fresh closed
formatted_ready s image r k v =
    let f = Format.formatted s image r k (done_status (format s image r k) v) in
    rw f.2 (record { small = pow_pos 16; state = λ q. orderly_record (fresh_order s.boards) })

-- the invariant at each point
pub reached : {s : Shape} (w : System) (calls : List Call) → Invariant s w → Invariant s (later s w calls)
unfolding later
reached w [] i = i
reached {s} w (c ∷ cs) i = reached (next s w c.request c.k) cs (step w i c.request c.k).1

pub invariant_at : (s : Shape) (image : List ℕ) (r : Record) (k : ℕ) → verdict (format s image r k) ≡ done
    → (calls : List Call) → Invariant s (later s (formatted s image r k) calls)
invariant_at s image r k v calls = reached (formatted s image r k) calls (formatted_on s image r k v)

-- where a write is not refused, image, record and ledger agree, and its range is in order
pub write_agrees : {s : Shape} (w : System) (who : Requester) (a : ℕ) (bytes : List ℕ) (k : ℕ)
    → verdict (answer w (Write who a bytes) k) ≢ refused → Invariant s w
    → On s (view s w.image) w.state w.ledger × Ranged s a (length bytes)
unfolding answer refusals
write_agrees {s} w who a bytes k v = go
  where
    passed : shape_of w.image ≡ s
        → first (refusals w.image s (view s w.image) w.state (Write who a bytes)) ≡ 0
    passed same =
        subst (λ t. first (refusals w.image t (view t w.image) w.state (Write who a bytes)) ≡ 0) same
        (not_turned_down w.image w.state (Write who a bytes) k v)

    go : Invariant s w → On s (view s w.image) w.state w.ledger × Ranged s a (length bytes)
    go (up h q on) = (on, (write_ok h q on who a bytes (passed h.shape)).1)
    go (down h q o c) = absurd (off_refuses w h q o c (board_of s who) _ (passed h.shape))

pub demand_3 : Demand3
demand_3 s image r k v calls =
    faithful (formatted s image r k) calls (formatted_on s image r k v) (formatted_ready s image r k v)

-- a finished format is to be had for every allowed shape
pub format_done : FormatDone
unfolding verdict
format_done s image r k a l e = rw (Format.format_done s image r k a l e)
