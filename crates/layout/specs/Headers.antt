-- What a header is read as, and where the bytes past the shape stand.
use Rattle.std.specs.Prelude.{ℕ, ◌≡◌, true, false, List, length, Result, MatchResult}
use Rattle.protocol.specs.Image.{allowed, in_order, shape_of, total}
use Rattle.protocol.specs.declared.Shape.{Shape}
use Rattle.protocol.specs.declared.Refusal.{Refusal}
use Rattle.protocol.specs.declared.Refusal.TheVariants.{Disordered}

-- byte 9, the decision; bytes 10 and 11, the deciding group; the tags from byte 12 on
abbrev pub decision_at : ℕ
decision_at = 9

abbrev pub group_at : ℕ
group_at = 10

abbrev pub tags_at : ℕ
tags_at = 12

-- an image of an allowed shape, which its header names, and of exactly that shape's length
pub record Shaped (image : List ℕ) (s : Shape) : Type 0 where
  pub shape : shape_of image ≡ s
  pub allowed_shape : allowed s ≡ true
  pub long : length image ≡ total s

-- in order, byte 9 being at most `most`, and of that shape
pub record Headed (most : ℕ) (image : List ℕ) (s : Shape) : Type 0 where
  pub ordered : in_order most image ≡ true
  pub shaped : Shaped image s

-- the shape of an image in order; of any other the refusal 11
abbrev pub HeaderOf : ℕ → List ℕ → Result Shape Refusal → Type 0
HeaderOf most image r = MatchResult r (Headed most image) (λ e. (in_order most image ≡ false) × (e ≡ Disordered))
