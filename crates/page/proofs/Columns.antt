-- Columns are as wide as they are to be and say the number that they were made of. A line has 32 characters, of which
-- the last is its only line feed.
use Prim.Native.Nat.{ℕ, zero, suc, ◌+◌, ◌/◌, ◌%◌, ◌^◌, ◌≤◌, ◌<◌}
use mathlib.Core.Path.{◌≡◌, refl, ◌∙◌, ap}
use mathlib.Core.Bool.{Bool, true, false, cond}
use mathlib.Core.List.{List, [], ◌∷◌, ◌++◌}
use lib.Dec.{eqb, ltb}
use lib.ListN.{length, length-append}
use native.Mathlib.Omega.{arith}
use native.Mathlib.Nat.{le_refl, pow-suc}
use borrow.Author.Tests.{ltb-false, ne_eqb, eqb-true}
use Rattle.boards.specs.Lists.{any_of}
use Rattle.boards.proofs.Basics.{if_false, All, none, also, all_append, all_map, false_any_of}
use Rattle.text.specs.Fields.{line_feed}
use Rattle.text.specs.Rows.{hexadecimal, byte_text, group_text}
use Rattle.page.specs.declared.Saved.{Saved}
use Rattle.page.specs.Columns.{blank, leading, padded, amounts_text, commit_line, total_head, total_line}
use Rattle.page.specs.Claims.{number_said, ColumnsSay}

-- ---- lengths

-- one character behind a text
length_more : (s : List ℕ) (c : ℕ) {w : ℕ} → length s ≡ w → length (s ++ c ∷ []) ≡ suc w
length_more s c e = omega (arith, length-append s (c ∷ []))

pub length_leading : (w n : ℕ) → length (leading w n) ≡ w
unfolding leading
length_leading zero n = refl
length_leading (suc w) n = length_more (leading w (n / 10)) _ (length_leading w (n / 10))

pub length_padded : (w n : ℕ) → length (padded w n) ≡ w
unfolding padded
length_padded zero n = refl
length_padded (suc w) n = length_more (leading w (n / 10)) _ (length_leading w (n / 10))

pub length_amounts : (a b : ℕ) → length (amounts_text a b) ≡ 21
unfolding amounts_text
length_amounts a b = simp length-append (omega (arith, length_padded 8 a, length_padded 10 b))

pub length_commit : (n : ℕ) (c : Saved) → length (commit_line n c) ≡ 32
unfolding commit_line group_text byte_text
length_commit n c = simp length-append (omega (arith, length_padded 6 n, length_amounts c.blocks c.bytes))

pub length_total : (a b : ℕ) → length (total_line a b) ≡ 32
unfolding total_line total_head
length_total a b = omega (arith, length_amounts a b)

-- ---- what they say

said_append : (n : ℕ) (s t : List ℕ) → number_said n (s ++ t) ≡ number_said (number_said n s) t
unfolding number_said
said_append n [] t = refl
said_append n (c ∷ s) t = said_append (number_said n (c ∷ [])) s t

-- the last digit of a number
digit_said : (n : ℕ) → number_said (n / 10) ((48 + n % 10) ∷ []) ≡ n
unfolding number_said
digit_said n = if_false _ _ (ne_eqb (48 + n % 10) blank (omega arith)) ∙ omega arith

-- which is a blank in front of a number's digits
leading_said : (n : ℕ) → number_said (n / 10) (cond (eqb n 0) blank (48 + n % 10) ∷ []) ≡ n
unfolding number_said
leading_said n = go (eqb n 0) refl
  where
    go : (b : Bool) → eqb n 0 ≡ b → number_said (n / 10) (cond b blank (48 + n % 10) ∷ []) ≡ n
    go true e = omega (arith, eqb-true)
    go false e = digit_said n

-- it stands behind the digits of the number's tenth
said_more : (s : List ℕ) (c : ℕ) {m n : ℕ} → number_said 0 s ≡ m → number_said m (c ∷ []) ≡ n
    → number_said 0 (s ++ c ∷ []) ≡ n
said_more s c front last = said_append 0 s (c ∷ []) ∙ ap (λ m. number_said m (c ∷ [])) front ∙ last

tenth_fits : (w n : ℕ) → n < 10 ^ suc w → n / 10 < 10 ^ w
tenth_fits w n l = omega (arith, pow-suc 10 w)

leading_says : (w n : ℕ) → n < 10 ^ w → number_said 0 (leading w n) ≡ n
unfolding leading number_said
leading_says zero n l = omega arith
leading_says (suc w) n l =
    said_more (leading w (n / 10)) _ (leading_says w (n / 10) (tenth_fits w n l)) (leading_said n)

padded_says : (w n : ℕ) → n < 10 ^ w → number_said 0 (padded w n) ≡ n
unfolding padded number_said
padded_says zero n l = omega arith
padded_says (suc w) n l =
    said_more (leading w (n / 10)) _ (leading_says w (n / 10) (tenth_fits w n l)) (digit_said n)

pub columns_say : ColumnsSay
columns_say w n = (length_padded w n, padded_says w n)

-- ---- where they end

-- a text whose only line feed is its last character
pub data Ended : List ℕ → Type 0 where
  last : Ended (line_feed ∷ [])
  more : {c : ℕ} {s : List ℕ} → blank ≤ c → Ended s → Ended (c ∷ s)

abbrev Shown : List ℕ → Type 0
Shown s = All (λ c. blank ≤ c) s

ended_append : {s t : List ℕ} → Shown s → Ended t → Ended (s ++ t)
ended_append none e = e
ended_append (also l p) e = more l (ended_append p e)

either_shown : (b : Bool) {c d : ℕ} → blank ≤ c → blank ≤ d → blank ≤ cond b c d
either_shown true l m = l
either_shown false l m = m

leading_shown : (w n : ℕ) → Shown (leading w n)
unfolding leading
leading_shown zero n = none
leading_shown (suc w) n =
    all_append (leading_shown w (n / 10)) (also (either_shown (eqb n 0) (omega arith) (omega arith)) none)

padded_shown : (w n : ℕ) → Shown (padded w n)
unfolding padded
padded_shown zero n = none
padded_shown (suc w) n = all_append (leading_shown w (n / 10)) (also (omega arith) none)

byte_shown : (b : ℕ) → Shown (byte_text b)
unfolding byte_text hexadecimal
byte_shown b = also (digit (b / 16)) (also (digit (b % 16)) none)
  where
    digit : (d : ℕ) → blank ≤ cond (ltb d 10) (48 + d) (55 + d)
    digit d = either_shown (ltb d 10) (omega arith) (omega arith)

-- a column behind a blank
column_ended : {s t : List ℕ} → Shown s → Ended t → Ended (blank ∷ s ++ t)
column_ended p e = more (le_refl blank) (ended_append p e)

amounts_ended : (a b : ℕ) → Ended (amounts_text a b)
unfolding amounts_text
amounts_ended a b = column_ended (padded_shown 8 a) (column_ended (padded_shown 10 b) last)

pub commit_ended : (n : ℕ) (c : Saved) → Ended (commit_line n c)
unfolding commit_line group_text
commit_ended n c =
    let group = all_append (byte_shown (c.members / 256)) (byte_shown (c.members % 256)) in
    ended_append (padded_shown 6 n) (column_ended group (amounts_ended c.blocks c.bytes))

pub total_ended : (a b : ℕ) → Ended (total_line a b)
unfolding total_line total_head any_of
total_ended a b =
    let head = false_any_of (λ c. ltb c blank) total_head refl in
    ended_append (all_map (λ c e. ltb-false c blank e) head) (amounts_ended a b)
