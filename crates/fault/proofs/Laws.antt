-- A fault that is taken: its stores are those of its plan.
use Prim.Native.Nat.{ℕ}
use mathlib.Core.Path.{◌≡◌, ◌∙◌, ap, subst}
use mathlib.Core.Bool.{false}
use mathlib.Core.List.{List}
use Rattle.boards.specs.Boards.{fault_group, tagged_in}
use Rattle.protocol.specs.Image.{Recovery, Current, shape_of, view}
use Rattle.volatile.specs.Volatile.{depends, clear}
use Rattle.protocol.specs.Calls.{Fault, refusal_at, blocks_copied, plan}
use Rattle.protocol.specs.declared.Shape.{Shape}
use Rattle.protocol.specs.Replies.{reply_says}
use Rattle.protocol.specs.declared.Reply.{Reply}
use Rattle.volatile.specs.declared.Record.{Record}
use Rattle.store.specs.Budget.{start}
use Rattle.store.specs.declared.Budget.{Budget}
use Rattle.store.specs.Puts.{Puts}
use Rattle.store.specs.Promise.{Performed, reply_of}
use Rattle.store.proofs.Ends.{ended}
use Rattle.protocol.proofs.Copies.{blocks_inside, current}
use Rattle.protocol.proofs.Plans.{inside_quiet}

pub fault_done : {s : Shape} {image after : List ℕ} (state : Record) (i : ℕ) {k : ℕ} {b r : Budget} {g : ℕ}
    {next : Record} {reply : Reply} → shape_of image ≡ s → refusal_at image state (Fault i) ≡ 0
    → g ≡ fault_group (depends state) i → next ≡ clear state g → b ≡ start k
    → Puts s (blocks_copied s (view s image) Recovery Current (tagged_in g)) b image r after
    → reply_says reply ≡ reply_of k r false g next → Performed (Fault i) k image state reply after
unfolding plan
fault_done {s} {image} {after} state i {k} {b} {r} shape n f h new p e =
    let m = view s image in
    let puts = subst (λ x. Puts s (blocks_copied s m Recovery Current (tagged_in x)) b image r after) f p in
    let group = fault_group (depends state) i in
    let quiet = inside_quiet s k (blocks_inside s m Recovery Current (tagged_in group) current) in
    ended state (Fault i) shape n new puts.makes quiet f (h ∙ ap (clear state) f) e
