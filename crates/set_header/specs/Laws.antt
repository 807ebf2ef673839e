-- How far a set's stride goes.
-- Assumes nothing.
use Rattle.std.specs.Prelude.{ℕ, ◌+◌, ◌≤◌, Bool, true, false, ◌&&◌, List}
use Rattle.std.proofs.Common.{arith}
use Rattle.base.specs.Choice.{pick}
use Rattle.set_header.specs.SetHeader.{extra_byte, stride_of}

pub stride_bound : (long : Bool) (s : List ℕ) → stride_of long s ≤ 64
stride_bound long s = go (long && extra_byte s)
  where
    go : (b : Bool) → 16 + pick b 48 0 ≤ 64
    go true = omega arith
    go false = omega arith
