-- How large totals can be, and the number of what a commit is answered.
use Rattle.std.specs.Prelude.{ℕ, ◌*◌, ◌≤◌, Result, Ok, Err}
use Rattle.protocol.specs.Replies.{refusal_number}
use Rattle.protocol.specs.declared.Refusal.{Refusal}
use Rattle.page.specs.declared.Totals.{Totals}

-- a commit has at most 1,024 blocks and, with sixteen contexts of 64, 17,408 bytes
pub record Small (t : Totals) : Type 0 where
  pub commits : t.commits ≤ 10000
  pub blocks : t.blocks ≤ t.commits * 1024
  pub bytes : t.bytes ≤ t.commits * 17408

-- 0, or the number of the refusal
abbrev pub added_status : {A : Type 0} → Result A Refusal → ℕ
added_status (Ok a) = 0
added_status (Err refusal) = refusal_number refusal
