-- What is known of an image that a power-up takes, and what its decision is read as.
use Rattle.std.specs.Prelude.{ℕ, ◌+◌, ◌*◌, ◌≡◌, false, List, Option, Some, None, ◌≢◌}
use Rattle.protocol.specs.Image.{byte, view}
use Rattle.protocol.specs.Calls.{bad_tags}
use Rattle.protocol.specs.declared.Shape.{Shape}
use Rattle.layout.specs.Headers.{Shaped, decision_at, group_at}

-- the image has its shape, which is allowed, and its exact length; no tag is above P
pub record Recoverable (image : List ℕ) (s : Shape) : Type 0 where
  pub shaped : Shaped image s
  pub tags : bad_tags s (view s image) ≡ false

-- byte 9 is 1 and bytes 10 and 11 name the group; or byte 9 is not 1
abbrev pub Decides : List ℕ → Option ℕ → Type 0
Decides image (Some g) =
    (byte image decision_at ≡ 1) × (g ≡ byte image group_at + 256 * byte image (group_at + 1))
Decides image None = byte image decision_at ≢ 1
