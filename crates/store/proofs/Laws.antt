-- Laws of lists of stores made under a budget.
use Prim.Native.Nat.{ℕ, ◌+◌, ◌-◌, ◌≤◌}
use mathlib.Core.Path.{◌≡◌, refl, sym, ◌∙◌, ap, ap₂, subst, subst⁻¹}
use mathlib.Core.Bool.{true, false, ◌||◌, or_assoc, or-false as or-none}
use mathlib.Core.List.{List, [], ◌∷◌, ◌++◌}
use mathlib.Core.Logic.{⊎_elim}
use lib.Dec.{ltb}
use lib.ListN.{length, set, take, length-append, length-take}
use lib.Seq.{take-nil, take_all}
use native.Mathlib.Omega.{arith}
use native.Mathlib.Nat.{sub-zero}
use borrow.Author.Tests.{ltb-true, ltb-false, lt-ltb, le-ltb}
use Rattle.protocol.specs.Image.{Store, made}
use Rattle.boards.proofs.Basics.{decide, clash, or_false, or_true, true_or, or_right, take_append, test_ext}
use Rattle.protocol.proofs.Bridge.{length_made, made_append}
use Rattle.store.specs.declared.Budget.{Budget}
use Rattle.store.specs.Budget.{spent, Makes, start, WellBudget}

-- ---- budgets

-- budgets are equal by their fields
pub budget_ext : {b c : Budget} → b.left ≡ c.left → b.cut ≡ c.cut → b ≡ c
budget_ext p q = ap₂ {C = Budget} (λ l t. record { left = l; cut = t }) p q

-- asking for no store spends nothing; asking for m and then for n spends as asking for both
pub spent_none : (b : Budget) → spent 0 b ≡ b
unfolding spent
spent_none b = budget_ext (sub-zero _) (rw (le-ltb b.left 0 (omega arith)) (or-none b.cut))

pub spent_more : (m n : ℕ) (b : Budget) → spent n (spent m b) ≡ spent (m + n) b
unfolding spent
spent_more m n b =
    budget_ext (omega arith) (or_assoc b.cut _ _ ∙ ap (λ t. b.cut || t) (test_ext _ _ forth back))
  where
    k : ℕ
    k = b.left

    forth : ltb k m || ltb (k - m) n ≡ true → ltb k (m + n) ≡ true
    forth h =
        lt-ltb k (m + n)
        (⊎_elim (λ e. omega (arith, ltb-true k m e)) (λ e. omega (arith, ltb-true (k - m) n e)) (or_true (ltb k m) _ h))

    back : ltb k (m + n) ≡ true → ltb k m || ltb (k - m) n ≡ true
    back h =
        ⊎_elim
        (λ e. true_or _ e)
        (λ e. or_right (ltb k m) (lt-ltb (k - m) n (omega (arith, ltb-true k (m + n) h, ltb-false k m e))))
        (decide (ltb k m))

-- a budget that refused a store has none left
pub well_start : {k : ℕ} {b : Budget} → b ≡ start k → WellBudget b
well_start e h = clash h (ap (λ (b : Budget). b.cut) e)

pub well_spent : (n : ℕ) (b : Budget) → WellBudget b → WellBudget (spent n b)
unfolding spent
well_spent n b w h =
    ⊎_elim (λ e. omega (arith, w e)) (λ e. omega (arith, ltb-true b.left n e)) (or_true b.cut _ h)

-- ---- lists of stores

pub makes_none : (b : Budget) (x : List ℕ) → Makes [] b x b x
unfolding made
makes_none b x = record { image = rw take-nil; budget = sym (spent_none b) }

-- one store, refused and made
pub one_refused : (s : Store) {b : Budget} (x : List ℕ) → b.left ≡ 0 →
    Makes (s ∷ []) b x (record { left = 0; cut = true }) x
unfolding spent made
one_refused s {b} x e =
    record {
      image = ap (λ k. made (take k (s ∷ [])) x) (sym e);
      budget = budget_ext (omega arith) (sym (or_right b.cut (lt-ltb b.left 1 (omega arith))));
    }

pub one_made : (s : Store) {b : Budget} (x : List ℕ) → 1 ≤ b.left →
    Makes (s ∷ []) b x (record { left = b.left - 1; cut = b.cut }) (set x s.at s.value)
unfolding spent made
one_made s {b} x l =
    record {
      image = rw (take_all b.left (s ∷ []) l);
      budget = budget_ext refl (rw (le-ltb _ _ l) (sym (or-none b.cut)));
    }

module _ {ss : List Store} {b r : Budget} {x y : List ℕ} (m : Makes ss b x r y) where
  -- one list and then another are made as both in a row, whether or not the budget lasts
  pub makes_then : {ts : List Store} {r' : Budget} {z : List ℕ} → Makes ts r y r' z → Makes (ss ++ ts) b x r' z
  unfolding spent
  makes_then {ts} n =
      record {
        image = rw (n.image, take_append, made_append, m.image, m.budget);
        budget = n.budget ∙ rw (m.budget, spent_more (length ss) (length ts) b, length-append);
      }

  -- the length stays
  pub makes_length : length y ≡ length x
  makes_length = ap length m.image ∙ length_made _ x

  -- all stores are made if none was refused
  pub makes_all : r.cut ≡ false → y ≡ made ss x
  unfolding spent
  makes_all h =
      let both = or_false b.cut _ (ap (λ (c : Budget). c.cut) (sym m.budget) ∙ h) in
      m.image ∙ rw (take_all b.left ss (ltb-false _ _ both.1))

  -- nothing is stored after a cut, whatever the list
  pub makes_cut : b.left ≡ 0 → b.cut ≡ true → (y ≡ x) × (r ≡ b)
  unfolding spent made
  makes_cut l c = (
    m.image ∙ ap (λ k. made (take k ss) x) l,
    m.budget ∙ budget_ext (omega arith) (true_or _ c ∙ sym c),
  )

  pub makes_other : (ts : List Store) → b.left ≡ 0 → b.cut ≡ true → Makes ts b x r y
  unfolding spent made
  makes_other ts l c =
      let none = makes_cut l c in
      record {
        image = none.0 ∙ ap (λ k. made (take k ts) x) (sym l);
        budget = none.1 ∙ budget_ext (omega arith) (c ∙ sym (true_or _ c));
      }

  -- two lists that are equal unless the budget is cut are interchangeable
  pub makes_instead : (ts : List Store) → WellBudget b → (b.cut ≡ false → ss ≡ ts) → Makes ts b x r y
  makes_instead ts w same =
      ⊎_elim
      (λ e. makes_other ts (w e) e)
      (λ e. subst (λ us. Makes us b x r y) (same e) m)
      (decide b.cut)

  -- a budget that refused a store has none left
  pub makes_well : WellBudget b → WellBudget r
  makes_well w = subst⁻¹ WellBudget m.budget (well_spent (length ss) b w)

-- the stores of a call's budget that is told by an equation
pub makes_begun : {ss : List Store} {k : ℕ} {b r : Budget} {x y : List ℕ} → b ≡ start k → Makes ss b x r y
    → Makes ss (start k) x r y
makes_begun {ss} {r = r} {x = x} {y = y} e m = subst (λ b. Makes ss b x r y) e m

-- of a call's budget: how many stores were made, and whether one was refused
module _ {ss : List Store} {k : ℕ} {r : Budget} {x y : List ℕ} (m : Makes ss (start k) x r y) where
  pub makes_count : length (take k ss) ≡ k - r.left
  unfolding spent
  makes_count = rw (length-take, m.budget) (omega arith)

  pub makes_refused : r.cut ≡ ltb k (length ss)
  unfolding spent
  makes_refused = ap (λ (c : Budget). c.cut) m.budget
