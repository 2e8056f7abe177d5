-- A page is the list of the commits that are printed, and each of its lines has 31 characters.
use Prim.Native.Nat.{ℕ, zero, suc, ◌+◌, ◌≤◌, ◌<◌}
use mathlib.Core.Path.{◌≡◌, refl, sym, ◌∙◌, ap}
use mathlib.Core.Bool.{Bool, true, false, cond, not}
use mathlib.Core.List.{List, [], ◌∷◌, ◌++◌, append_assoc, append-nil}
use lib.Dec.{eqb, ltb}
use lib.ListN.{length, take}
use lib.Seq.{take-nil}
use native.Mathlib.Omega.{arith}
use native.Mathlib.Nat.{zero-add, add-zero, add_assoc}
use borrow.Author.Tests.{lt-ltb, le-ltb, le-leb, lt-leb, ne_eqb, eq-eqb}
use Rattle.std.specs.Prelude.{Option, Some, None}
use Rattle.boards.proofs.Basics.{true_and, false_and, and_false, if_true, if_false, All, none, also, any_of_false}
use Rattle.text.specs.Fields.{line_feed}
use Rattle.text.specs.Events.{taken}
use Rattle.text.specs.Whole.{Line, lines, grown, output_by, Run, start, most_lines, next_run}
use Rattle.text.proofs.Steps.{output_goes, output_ends}
use Rattle.page.specs.declared.Saved.{Saved}
use Rattle.page.specs.declared.Totals.{Totals}
use Rattle.page.specs.Saving.{decided_by}
use Rattle.page.specs.Columns.{commit_line, total_line}
use Rattle.page.specs.Page.{Page, most_commits, no_totals, full_status, added, totals_after, decided_text}
use Rattle.page.specs.Page.{page_goes, page_step, rsmpage, page}
use Rattle.page.specs.Claims.{listed, commits, printed, numbered, sum, PageOfCommits, LinesOf31}
use Rattle.page.proofs.Columns.{length_commit, length_total, Ended, last, more, commit_ended, total_ended}

-- ---- a page from any line on

abbrev sheet : Run → Totals → Page
sheet r t = record { run = r; totals = t }

-- what follows these totals, where k commits of those to come are printed
unfoldable following : ℕ → Totals → List Saved → List ℕ
following k t cs =
    numbered (suc t.commits) (take k cs)
    ++ total_line (t.blocks + sum (λ c. c.blocks) (take k cs)) (t.bytes + sum (λ c. c.bytes) (take k cs))

-- none is to come, or none is printed: the total line
abbrev closing : Totals → List ℕ
closing t = total_line t.blocks t.bytes

none_comes : (k : ℕ) (t : Totals) → following k t [] ≡ closing t
unfolding following numbered sum
none_comes k t = simp (take-nil, add-zero)

none_printed : (t : Totals) (cs : List Saved) → following 0 t cs ≡ closing t
unfolding following numbered sum
none_printed t cs = simp add-zero

-- a line that is played
page_played : (r : Run) (t : Totals) (l : Line) (ls : List Line) → page_goes (sheet r t) ≡ true
    → let d = decided_by r.player (taken l) in
    output_by rsmpage (sheet r t) (l ∷ ls)
    ≡ decided_text t d ++ output_by rsmpage (sheet (next_run r l) (totals_after t d)) ls
unfolding rsmpage page_step
page_played r t l ls e = output_goes rsmpage l ls (if_true _ _ e)

-- after the last line that a run takes, or a commit answered 18, only the total line follows
page_closed : (r : Run) (t : Totals) (ls : List Line) → page_goes (sheet r t) ≡ false
    → output_by rsmpage (sheet r t) ls ≡ closing t
unfolding output_by rsmpage page_step
page_closed r t [] e = refl
page_closed r t (l ∷ ls) e = output_ends rsmpage l ls (if_false _ _ e)

-- whether a decided commit is printed
module _ (t : Totals) where
  pub has_room : t.commits < most_commits → eqb (full_status t) 0 ≡ true
  unfolding full_status
  has_room h = ap (λ b. eqb (cond b 0 18) 0) (lt-ltb t.commits most_commits h)

  pub is_full : most_commits ≤ t.commits → eqb (full_status t) 0 ≡ false
  unfolding full_status
  is_full h = ap (λ b. eqb (cond b 0 18) 0) (le-ltb t.commits most_commits h)

-- the totals with it: summed, or only counted
module _ (t : Totals) (c : Saved) where
  abbrev summed : Totals
  summed = record { commits = suc t.commits; blocks = t.blocks + c.blocks; bytes = t.bytes + c.bytes }

  abbrev counted : Totals
  counted = record { commits = suc t.commits; blocks = t.blocks; bytes = t.bytes }

  one_more : (k : ℕ) (cs : List Saved)
      → commit_line (suc t.commits) c ++ following k summed cs ≡ following (suc k) t (c ∷ cs)
  unfolding following numbered sum
  one_more k cs = simp (append_assoc, add_assoc)

  one_too_many : (r : Run) → most_commits ≤ t.commits → page_goes (sheet r counted) ≡ false
  unfolding page_goes
  one_too_many r h = and_false (ltb r.played most_lines) (lt-leb (suc t.commits) most_commits (omega arith))

-- what a line decided, and what follows it
after_line : (ls : List Line) (r : Run) (t : Totals) (k : ℕ) (d : Option Saved) (cs : List Saved)
    → t.commits + k ≡ most_commits
    → ((u : Totals) (j : ℕ) → u.commits + j ≡ most_commits → output_by rsmpage (sheet r u) ls ≡ following j u cs)
    → decided_text t d ++ output_by rsmpage (sheet r (totals_after t d)) ls ≡ following k t (listed d ++ cs)
unfolding decided_text totals_after listed added
after_line ls r t k None cs h rest = rest t k h
after_line ls r t zero (Some c) cs h rest =
    let full : most_commits ≤ t.commits = omega arith in
    rw (is_full t full) (page_closed r (counted t c) ls (one_too_many t c r full) ∙ sym (none_printed t (c ∷ cs)))
after_line ls r t (suc k) (Some c) cs h rest =
    rw (has_room t (omega arith), rest (summed t c) k (omega arith)) (one_more t c k cs)

page_from : (ls : List Line) (r : Run) (t : Totals) (k : ℕ) → t.commits + k ≡ most_commits
    → output_by rsmpage (sheet r t) ls ≡ following k t (commits r ls)
unfolding commits output_by rsmpage page_goes
page_from [] r t k h = sym (none_comes k t)
page_from (l ∷ ls) r t k h = go (ltb r.played most_lines) refl (page_from ls (next_run r l))
  where
    d : Option Saved
    d = decided_by r.player (taken l)

    cs : List Saved
    cs = commits (next_run r l) ls

    go : (b : Bool) → ltb r.played most_lines ≡ b
        → ((u : Totals) (j : ℕ) → u.commits + j ≡ most_commits
        → output_by rsmpage (sheet (next_run r l) u) ls ≡ following j u cs)
        → output_by rsmpage (sheet r t) (l ∷ ls) ≡ following k t (cond b (listed d ++ cs) [])
    go true e rest =
        page_played r t l ls (true_and e (le-leb t.commits most_commits (omega arith)))
        ∙ after_line ls (next_run r l) t k d cs h rest
    go false e rest = page_closed r t (l ∷ ls) (false_and _ e) ∙ sym (none_comes k t)

pub page_of_commits : PageOfCommits
unfolding page printed no_totals following
page_of_commits text = page_from (lines text) start no_totals most_commits refl ∙ simp zero-add

-- ---- lines of 31 characters

-- a text that ends a line is one line, and what follows it is the others
first_line : {s : List ℕ} (t : List ℕ) → Ended s
    → (l : Line) × (suc (length l) ≡ length s) × (lines (s ++ t) ≡ l ∷ lines t)
unfolding lines grown
first_line t last = ([], refl, refl)
first_line t (more {c} l e) =
    let rest = first_line t e in
    (c ∷ rest.0, ap suc rest.1, if_false _ _ (ne_eqb c line_feed (omega arith)) ∙ ap (grown c) rest.2)

abbrev Of31 : List Line → Type 0
Of31 ls = All (λ l. length l ≡ 31) ls

line_of_31 : {s : List ℕ} (t : List ℕ) → Ended s → length s ≡ 32 → Of31 (lines t) → Of31 (lines (s ++ t))
line_of_31 t e w p =
    let first = first_line t e in
    let width : length first.0 ≡ 31 = omega (arith, first.1) in
    rw first.2 (also width p)

sheet_of_31 : (n : ℕ) (cs : List Saved) (a b : ℕ) → Of31 (lines (numbered n cs ++ total_line a b))
unfolding numbered lines
sheet_of_31 n [] a b = rw append-nil at (line_of_31 [] (total_ended a b) (length_total a b) none)
sheet_of_31 n (c ∷ cs) a b =
    rw append_assoc (line_of_31 _ (commit_ended n c) (length_commit n c) (sheet_of_31 (suc n) cs a b))

pub lines_of_31 : LinesOf31
lines_of_31 text =
    rw (page_of_commits text)
    (any_of_false _ (λ l e. ap not (eq-eqb (length l) 31 e)) (sheet_of_31 1 (printed text) _ _))
