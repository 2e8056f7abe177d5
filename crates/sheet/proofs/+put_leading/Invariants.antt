-- The measure is the width.
use Rattle.sheet.proofs.+put_leading.Given as goal

abbrev pub decreases-put_leading : goal.decreases-put_leading
decreases-put_leading l = l.w
