-- `layout::allowed` meets its contract: a test that fails breaks a bound, and the tests that hold leave the last one.
use native.Mathlib.Omega.{arith}
use Rattle.layout.proofs.Laws.{product, refused, passed}
use Rattle.layout.proofs.allowed.Goals as goal

pub returns-then-s-lt1 : goal.returns-then-s-lt1
returns-then-s-lt1 c = refused (λ b. omega arith)

pub returns-then-s-gt16 : goal.returns-then-s-gt16
returns-then-s-gt16 c = refused (λ b. omega arith)

pub returns-then-power-gt6 : goal.returns-then-power-gt6
returns-then-power-gt6 c = refused (λ b. omega arith)

pub returns-then-s-lt1-2 : goal.returns-then-s-lt1-2
returns-then-s-lt1-2 c = refused (λ b. omega arith)

pub returns-then-s-gt1024 : goal.returns-then-s-gt1024
returns-then-s-gt1024 c = refused (λ b. omega arith)

pub overflow_mul-s : goal.overflow_mul-s
overflow_mul-s c = record { fits = product _ _ (omega arith) (omega arith) }

pub returns-then-s-gt16384 : goal.returns-then-s-gt16384
returns-then-s-gt16384 c = refused (λ b. omega arith)

pub returns : goal.returns
returns c = passed _ (omega arith)
