-- How much a commit saves at most: B blocks, and B × S bytes of blocks with P × K of contexts.
use Prim.Native.Nat.{ℕ, ◌≤◌, ◌<◌}
use native.Mathlib.Nat.{mul-le-mul, mul-le-mul_right}
use mathlib.Core.Path.{◌≡◌, sym, ◌∙◌, subst}
use mathlib.Core.Bool.{true, false, ◌||◌}
use mathlib.Core.List.{List}
use mathlib.Core.Logic.{⊎_elim}
use lib.Dec.{eqb}
use lib.ListN.{length}
use native.Mathlib.Omega.{arith}
use borrow.Author.Tests.{eqb-true}
use Rattle.std.specs.Prelude.{Some, None}
use Rattle.boards.specs.Boards.{has, tagged_in}
use Rattle.boards.proofs.Basics.{decide}
use Rattle.boards.proofs.Groups.{mask_below}
use Rattle.volatile.specs.Volatile.{commit_of, acknowledge}
use Rattle.volatile.specs.declared.Record.{Record}
use Rattle.protocol.specs.Image.{Memory, Tags, allowed, shape_of, view}
use Rattle.protocol.specs.Calls.{Request, plan}
use Rattle.protocol.specs.declared.Shape.{Shape}
use Rattle.protocol.proofs.Bridge.{limits}
use Rattle.costs.specs.Forecasts.{boards_of, tagged_blocks}
use Rattle.costs.proofs.Counted.{those_most}
use Rattle.text.specs.Events.{Event, Format, Make, Allow, Refused}
use Rattle.text.specs.Turns.{Player}
use Rattle.page.specs.declared.Saved.{Saved}
use Rattle.page.specs.Saving.{saved, saved_by, decided_by}
use Rattle.page.proofs.Decisions.{says_decided, gives_group, Decides, decided_call}

pub saved_fits : (s : Shape) (m : Memory) (g : ℕ) → allowed s ≡ true
    → ((saved s m g).blocks ≤ 1024) × ((saved s m g).bytes ≤ 17408)
unfolding saved tagged_blocks boards_of
saved_fits s m g fine =
    let most = limits s fine in
    let blocks = those_most s.blocks (λ b. tagged_in g (m Tags b)) in
    let boards : length (boards_of s g) ≤ 16 = omega (arith, those_most s.boards (has g)) in
    let cells = mul-le-mul_right s.size blocks in
    let contexts = mul-le-mul boards most.most_context in
    (omega arith, omega arith)

-- ---- the commit that a call decided

none_decided : {c : Saved} {X : Type 0} → None ≡ Some c → X
none_decided d = let z : ◌≡◌ {A = ℕ} 0 1 = cc in absurd (omega arith)

module _ (p : Player) (request : Request) {c : Saved} (d : decided_by p (Make request) ≡ Some c) where
  -- it is answered so, and saves that
  decided_so : (says_decided p.image p.state request p.k ≡ true) × (saved_by p request ≡ c)
  unfolding decided_by
  decided_so =
      let said = says_decided p.image p.state request p.k in
      ⊎_elim
      (λ (e : said ≡ true). let same : Some (saved_by p request) ≡ Some c = rw e at d in (e, cc))
      (λ (e : said ≡ false). none_decided (rw e at d))
      (decide said)

  pub decides : Decides p.image p.state request p.k
  decides = decided_call p.image p.state request p.k decided_so.0

  pub saves : saved_by p request ≡ c
  saves = decided_so.1

-- its members are all that have acknowledged, so sixteen bits hold them
members_small : {image : List ℕ} {r : Record} {request : Request} {k : ℕ} → Decides image r request k
    → (plan (shape_of image) (view (shape_of image) image) r request).group < 65536
unfolding commit_of acknowledge
members_small {image} {r} d =
    let members = gives_group image r d.gives ∙ sym (eqb-true _ _ d.all) in
    let small = mask_below 16 (λ j. has d.before.commit.acknowledged j || eqb d.i j) in
    omega arith

pub decided_fits : (p : Player) (e : Event) (c : Saved) → decided_by p e ≡ Some c
    → (c.members < 65536) × (c.blocks ≤ 1024) × (c.bytes ≤ 17408)
unfolding decided_by saved
decided_fits p (Format s) c d = none_decided d
decided_fits p (Make request) c d =
    let s = shape_of p.image in
    let call = decides p request d in
    let fine = call.gives.entered.sound.allowed_shape in
    let fits = saved_fits s (view s p.image) (saved_by p request).members fine in
    subst (λ c. (c.members < 65536) × (c.blocks ≤ 1024) × (c.bytes ≤ 17408)) (saves p request d)
    (members_small call, fits.0, fits.1)
decided_fits p (Allow k) c d = none_decided d
decided_fits p (Refused n) c d = none_decided d
