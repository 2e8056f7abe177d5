-- Test 12: what it asks of rows and commits, and that the record's methods keep it.
use Prim.Native.Nat.{ℕ, ◌^◌, ◌<◌}
use mathlib.Core.Path.{◌≡◌, refl, sym, ◌∙◌, ap, subst}
use mathlib.Core.Bool.{Bool, true, false, ◌&&◌, ◌||◌, not}
use mathlib.Core.List.{List}
use mathlib.Core.Logic.{⊎_elim, ◌≢◌}
use lib.Dec.{eqb, leb}
use lib.ListN.{get_or}
use native.Mathlib.Omega.{arith}
use borrow.Author.Tests.{eq-eqb, ne_eqb, eqb-true, leb-true, leb-false}
use Rattle.boards.specs.Lists.{for}
use Rattle.boards.specs.Boards.{has, mask, set_of, with_board, meets, within, beyond, Links, unlinked, link, unlink}
use Rattle.boards.specs.Rows.{links_of, rows_of, emptied}
use Rattle.boards.proofs.Basics.{decide, clash, or_false, false_or, and_false, false_and}
use Rattle.boards.proofs.Basics.{or_true, not_false, refute, any_none, none_any}
use Rattle.boards.proofs.Groups.{has_zero, has_mask, mask_below, has_none, has_below, has_with, no_beyond, get_or_for}
use Rattle.boards.proofs.Groups.{link_cases, unlink_true, words_by_members}
use Rattle.volatile.specs.Volatile.{closed, fresh, depends, left_open, depend, clear, acknowledge}
use Rattle.volatile.specs.Volatile.{bad_row, bad_rows, bad_open, bad_closed, bad_commit, bad_record}
use Rattle.volatile.specs.declared.Record.{Record}
use Rattle.volatile.specs.declared.Commit.{Commit}

second : {a b : Bool} → a ≡ true → a && b ≡ false → b ≡ false
second {b = b} t f = sym (ap (λ x. x && b) t) ∙ f

-- no board at or above p
pub below_beyond : (p g : ℕ) → beyond p g ≡ false → (j : ℕ) → j < 16 → has g j ≡ true → j < p
unfolding beyond
below_beyond p g e j l h =
    ⊎_elim
    (λ (t : leb p j ≡ true). clash h (second t (any_none 16 (λ j. leb p j && has g j) e j l)))
    (λ (t : leb p j ≡ false). leb-false p j t)
    (decide (leb p j))

-- ---- rows

-- every dependence among sixteen boards is between two different ones below p
pub record Within (p : ℕ) (d : Links) : Type 0 where
  pub ends : (a b : ℕ) → a < 16 → b < 16 → d a b ≡ true → (a < p) × (b < p) × (a ≢ b)

pub rows_within : (p : ℕ) (rows : List ℕ) → bad_rows p rows ≡ false → Within p (links_of rows)
unfolding bad_rows bad_row links_of
rows_within p rows e = record { ends = at }
  where
    at : (a b : ℕ) → a < 16 → b < 16 → has (get_or rows a 0) b ≡ true → (a < p) × (b < p) × (a ≢ b)
    at a b k l h =
        let row = get_or rows a 0 in
        let one = or_false (beyond p row) _ (any_none 16 (λ i. bad_row p i (get_or rows i 0)) e a k) in
        let two = or_false (leb p a && not (eqb row 0)) (has row a) one.1 in (
          ⊎_elim
              (λ (t : leb p a ≡ true).
              clash h (ap (λ g. has g b) (eqb-true row 0 (not_false (eqb row 0) (second t two.0))) ∙ has_zero b))
              (λ (t : leb p a ≡ false). leb-false p a t)
              (decide (leb p a)),
          below_beyond p row one.0 b l h,
          λ q. clash h (subst (λ j. has row j ≡ false) q two.1),
        )

pub within_rows : {p : ℕ} (d : Links) → Within p d → bad_rows p (rows_of d) ≡ false
unfolding bad_rows bad_row rows_of
within_rows {p} d w =
    none_any 16 _
    (λ a l. subst (λ row. bad_row p a row ≡ false) (sym (get_or_for (λ a. set_of (d a)) 16 a 0 l)) (row a l))
  where
    row : (a : ℕ) → a < 16 → bad_row p a (set_of (d a)) ≡ false
    row a l =
        let one : (j : ℕ) → has (set_of (d a)) j ≡ true → (a < p) × (j < p) × (a ≢ j) =
        λ j h.
        let k = has_below 16 (set_of (d a)) j (mask_below 16 (d a)) h in
        w.ends a j l k (sym (has_mask 16 (d a) j k) ∙ h)
        in
        false_or (no_beyond p (set_of (d a)) (λ j l h. (one j h).1))
        (false_or
        (⊎_elim
        (λ (t : leb p a ≡ true).
        and_false (leb p a)
        (ap not (eq-eqb (set_of (d a)) 0
        (has_none 16 (set_of (d a)) (mask_below 16 (d a))
        (λ j k. refute (has (set_of (d a)) j) (λ h. let q = (one j h).0 in let up = leb-true p a t in omega arith))))))
        (λ (t : leb p a ≡ false). false_and (not (eqb (set_of (d a)) 0)) t)
        (decide (leb p a)))
        (refute (has (set_of (d a)) a) (λ h. (one a h).2 refl)))

-- ---- the record by its three parts

pub record Orderly (p : ℕ) (r : Record) : Type 0 where
  pub on : r.on ≡ true
  pub rows : bad_rows p r.rows ≡ false
  pub commit : bad_commit p r.commit ≡ false

pub orderly : (p : ℕ) (r : Record) → bad_record p r ≡ false → Orderly p r
unfolding bad_record
orderly p r e =
    let one = or_false (not r.on) _ e in
    let two = or_false (bad_rows p r.rows) (bad_commit p r.commit) one.1 in
    record { on = not_false r.on one.0; rows = two.0; commit = two.1 }

pub orderly_record : {p : ℕ} {r : Record} → Orderly p r → bad_record p r ≡ false
unfolding bad_record
orderly_record o = false_or (ap not o.on) (false_or o.rows o.commit)

-- ---- commits

pub closed_order : (p : ℕ) → bad_commit p closed ≡ false
unfolding bad_commit bad_closed closed
closed_order p = let none = no_beyond p 0 (λ j l h. clash h (has_zero j)) in false_or none (false_or none refl)

-- what test 12 asks of an open commit
pub record Opened (p : ℕ) (c : Commit) : Type 0 where
  pub below : (j : ℕ) → j < 16 → has c.members j ≡ true → j < p
  pub inside : (j : ℕ) → j < 16 → has c.acknowledged j ≡ true → has c.members j ≡ true
  pub small : c.acknowledged < 2 ^ 16
  pub starter : has c.acknowledged c.starter ≡ true

pub opened_order : (p : ℕ) (c : Commit) → c.acknowledged ≢ c.members → Opened p c → bad_commit p c ≡ false
unfolding bad_commit bad_open
opened_order p c missing o =
    false_or (no_beyond p c.members o.below)
    (false_or (no_beyond p c.acknowledged (λ j l h. o.below j l (o.inside j l h)))
    (⊎_elim
    (λ (e : eqb c.members 0 ≡ true). absurd (empty (eqb-true c.members 0 e)))
    (λ (e : eqb c.members 0 ≡ false).
    rw e
    (false_or
    (ap not ((words_by_members.inside c.acknowledged c.members).1 o.inside))
    (false_or (ne_eqb c.acknowledged c.members missing) (ap not o.starter))))
    (decide (eqb c.members 0))))
  where
    empty : c.members ≡ 0 → ⊥
    empty z =
        let l = has_below 16 c.acknowledged c.starter o.small o.starter in
        clash (o.inside c.starter l o.starter) (ap (λ g. has g c.starter) z ∙ has_zero c.starter)

-- an open commit that passes test 12
pub order_opened : (p : ℕ) (c : Commit) → c.acknowledged < 2 ^ 16 → c.members ≢ 0 → bad_commit p c ≡ false
    → Opened p c
unfolding bad_commit bad_open
order_opened p c small some e =
    let one = or_false (beyond p c.members) _ e in
    let two = or_false (beyond p c.acknowledged) _ one.1 in
    let rest : bad_open c ≡ false = rw (ne_eqb c.members 0 some) at two.1 in
    let three = or_false (not (within c.acknowledged c.members)) _ rest in
    let four = or_false (eqb c.acknowledged c.members) (not (has c.acknowledged c.starter)) three.1 in
    record {
      below = below_beyond p c.members one.0;
      inside = (words_by_members.inside c.acknowledged c.members).0 (not_false _ three.0);
      small = small;
      starter = not_false _ four.1;
    }

-- ---- the methods

pub depend_order : {p : ℕ} (r : Record) {i j : ℕ} → i < p → j < p → i ≢ j → Orderly p r → Orderly p (depend r i j)
unfolding depend depends
depend_order {p} r {i} {j} l k apart o =
    record {
      on = o.on;
      rows =
          within_rows (link (links_of r.rows) i j)
          (record {
            ends = λ a b x y e. ⊎_elim
                (λ q. (omega arith, omega arith, λ z. apart (sym q.0 ∙ z ∙ q.1)))
                ((rows_within p r.rows o.rows).ends a b x y)
                (link_cases (links_of r.rows) i j a b e);
          });
      commit = o.commit;
    }

-- rows and commit of a record with boards cleared, whatever its commit was
pub clear_order : (p : ℕ) (r : Record) (g : ℕ) → r.on ≡ true → bad_rows p r.rows ≡ false
    → (meets r.commit.members (has g) ≡ false → bad_commit p r.commit ≡ false) → Orderly p (clear r g)
unfolding clear emptied left_open
clear_order p r g on rows commit =
    record {
      on = on;
      rows =
          within_rows (unlink (has g) (links_of r.rows))
          (record {
            ends =
                λ a b x y e.
                (rows_within p r.rows rows).ends a b x y (unlink_true (has g) (links_of r.rows) a b e).2;
          });
      commit =
          ⊎_elim
          (λ (e : meets r.commit.members (has g) ≡ true). rw e (closed_order p))
          (λ (e : meets r.commit.members (has g) ≡ false). rw e (commit e))
          (decide (meets r.commit.members (has g)));
    }

pub fresh_order : (p : ℕ) → Orderly p fresh
unfolding fresh rows_of for mask unlinked
fresh_order p =
    record {
      on = refl;
      rows = within_rows unlinked (record { ends = λ a b x y e. clash e refl });
      commit = closed_order p;
    }

-- board i acknowledges: what it leaves, whether or not others are awaited
pub record MayAcknowledge (p i : ℕ) (r : Record) : Type 0 where
  pub on : r.on ≡ true
  pub rows : bad_rows p r.rows ≡ false
  pub member : has r.commit.members i ≡ true
  pub below : (j : ℕ) → j < 16 → has r.commit.members j ≡ true → j < p
  pub inside : (j : ℕ) → j < 16 → has r.commit.acknowledged j ≡ true → has r.commit.members j ≡ true
  pub starter : has (with_board r.commit.acknowledged i) r.commit.starter ≡ true

module _ {p i : ℕ} {r : Record} (a : MayAcknowledge p i r) where
  abbrev acks : ℕ
  acks = with_board r.commit.acknowledged i

  acknowledged_opened : Opened p (acknowledge r i).commit
  unfolding acknowledge
  acknowledged_opened =
      record {
        below = a.below;
        inside =
            λ j l h.
            ⊎_elim
            (a.inside j l)
            (λ e. subst (λ k. has r.commit.members k ≡ true) (eqb-true i j e) a.member)
            (or_true (has r.commit.acknowledged j) (eqb i j) (sym (has_with r.commit.acknowledged i j l) ∙ h));
        small = mask_below 16 (λ j. has r.commit.acknowledged j || eqb i j);
        starter = a.starter;
      }

  pub awaiting_order : acks ≢ r.commit.members → Orderly p (acknowledge r i)
  unfolding acknowledge
  awaiting_order missing =
      record {
        on = a.on;
        rows = a.rows;
        commit = opened_order p (acknowledge r i).commit missing acknowledged_opened;
      }
