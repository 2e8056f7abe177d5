-- A line gives a commit exactly if one of its rows says decided: the row of a call may, that of a format or of the
-- power-up after a cut never does.
use Prim.Native.Nat.{ℕ}
use mathlib.Core.Path.{◌≡◌, refl, ◌∙◌}
use mathlib.Core.Bool.{true, false, cond, or-false}
use mathlib.Core.Logic.{⊎_elim}
use lib.Dec.{eqb}
use lib.ListN.{replicate}
use Rattle.boards.specs.Lists.{any_of}
use Rattle.boards.proofs.Basics.{decide}
use Rattle.protocol.specs.Image.{allowed, total}
use Rattle.protocol.specs.Calls.{Outcome}
use Rattle.protocol.proofs.Format.{format_undecided}
use Rattle.text.specs.Letters.{format_letter}
use Rattle.text.specs.Events.{Format, Make, Allow, Refused}
use Rattle.text.specs.Turns.{uncut, ended, request_letter, play}
use Rattle.page.specs.Saving.{decided_by}
use Rattle.page.specs.Claims.{listed, RowsSayDecided}
use Rattle.page.proofs.Decisions.{says_decided, power_up_undecided}

-- the rows of a call say what it answers
rows_ended : (letter : ℕ) (o : Outcome)
    → any_of (λ r. r.answer.decided) (ended letter o).rows ≡ o.reply.answer.decided
unfolding ended any_of
rows_ended letter o =
    let cut = eqb o.reply.answer.status 9 in
    ⊎_elim
    (λ (e : cut ≡ true). rw (e, power_up_undecided o.image o.reply.next uncut, or-false))
    (λ (e : cut ≡ false). rw (e, or-false))
    (decide cut)

pub rows_say_decided : RowsSayDecided
unfolding play decided_by listed any_of
rows_say_decided p (Format s) =
    let image = cond (allowed s) (replicate (total s) 0) p.image in
    rows_ended format_letter _ ∙ format_undecided s image p.state p.k
rows_say_decided p (Make request) =
    let said = says_decided p.image p.state request p.k in
    rows_ended (request_letter request) _
    ∙ ⊎_elim (λ (e : said ≡ true). rw e) (λ (e : said ≡ false). rw e) (decide said)
rows_say_decided p (Allow k) = refl
rows_say_decided p (Refused n) = refl
