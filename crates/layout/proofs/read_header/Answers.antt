-- `read_header` meets its contract: a test that fails breaks the geometry, and the tests that hold make it sound.
use mathlib.Core.Path.{refl, sym, ◌∙◌, ap}
use native.Mathlib.Omega.{arith}
use borrow.Author.Tests.{le-leb}
use Rattle.protocol.specs.Image.{allowed, total}
use Rattle.boards.proofs.Basics.{clash}
use Rattle.protocol.proofs.Bridge.{Sound, in_order_sound}
use Rattle.layout.proofs.Laws.{disordered}
use Rattle.layout.proofs.read_header.Goals as goal

pub returns-then-image-lt-TAGS : goal.returns-then-image-lt-TAGS
returns-then-image-lt-TAGS c = (disordered (λ g. omega arith), refl)

pub returns-then-not-mark_ok : goal.returns-then-not-mark_ok
returns-then-not-mark_ok c =
    let fails = sym c.mark_ok.ensures ∙ c.if-not-mark_ok.true in
    (disordered (λ g. clash g.sound.marked fails), refl)

pub returns-then-image-gt6 : goal.returns-then-image-gt6
returns-then-image-gt6 c = (disordered (λ g. omega arith), refl)

pub returns-then-not-allowed : goal.returns-then-not-allowed
returns-then-not-allowed c =
    let fails = sym c.allowed.ensures ∙ c.if-not-allowed.true in
    (disordered (λ g. clash (ap allowed c.shape_of-s.ensures ∙ g.sound.allowed_shape) fails), refl)

pub total-requires : goal.total-requires
total-requires c = sym c.allowed.ensures ∙ c.if-not-allowed.false

pub returns-then-image-total : goal.returns-then-image-total
returns-then-image-total c = (disordered (λ g. omega (arith, ap total c.shape_of-s.ensures)), refl)

pub returns-then-image-most : goal.returns-then-image-most
returns-then-image-most c = (disordered (λ g. omega (arith, g.decision)), refl)

pub returns : goal.returns
returns c =
    let fine = sym c.allowed.ensures ∙ c.if-not-allowed.false in
    let shape = sym c.shape_of-s.ensures in
    let sound : Sound c.shape_of-s.result _ = record {
      allowed_shape = fine;
      shape = shape;
      marked = sym c.mark_ok.ensures
          ∙ c.if-not-mark_ok.false;
      long = omega arith;
    } in
    record {
      ordered = in_order_sound _ _ sound _ ∙ le-leb _ _ c.if-image-most.false;
      shaped = record { shape = shape; allowed_shape = fine; long = omega arith };
    }
