-- The budget of a call, and lists of stores made under it.
use Rattle.std.specs.Prelude.{ℕ, ◌-◌, ◌≡◌, true, false, ◌||◌, List, ltb, length, take}
use Rattle.protocol.specs.Image.{Store, made}
use Rattle.store.specs.declared.Budget.{Budget}

-- the budget after n more stores were asked for: cut if one of them was refused
unfoldable pub spent : ℕ → Budget → Budget
spent n b = record { left = b.left - n; cut = b.cut || ltb b.left n }

-- of the stores ss as many are made as the budget b has left; r is the budget afterwards
pub record Makes (ss : List Store) (b : Budget) (before : List ℕ) (r : Budget) (after : List ℕ) : Type 0 where
  pub image : after ≡ made (take b.left ss) before
  pub budget : r ≡ spent (length ss) b

-- the store of a byte at an offset
abbrev pub one : ℕ → ℕ → Store
one at byte = record { at = at; value = byte }

-- a call's budget of k stores as it begins
abbrev pub start : ℕ → Budget
start k = record { left = k; cut = false }

-- a budget that refused a store has none left
abbrev pub WellBudget : Budget → Type 0
WellBudget b = b.cut ≡ true → b.left ≡ 0
