-- One step of each recursive definition, in the terms of the loops.
-- Assumes nothing.
use Prim.Native.Nat.{ℕ, suc, ◌+◌, ◌*◌, ◌%◌, ◌^◌, ◌≤◌, ◌<◌}
use native.Mathlib.Nat.{add-mul, mul_assoc, pow-suc, mul-le-mul_right, le_of_suc-le-suc}
use native.Mathlib.Numerals.{add-one}
use native.Mathlib.Omega.{arith}
use mathlib.Core.Path.{◌≡◌}
use mathlib.Core.List.{List}
use mathlib.Core.Bool.{Bool, true, false}
use Rattle.std.specs.Int.{from_bool}
use Rattle.std.specs.Int.Bits.{bit_or, or_shifted_r}
use Rattle.std.proofs.Math.Pow.{shl_exact}
use Rattle.std.proofs.Common.{◌∙◌, add_comm}
use lib.ListN.{length, get_or, drop, drop_of_length-le}
use lib.Seq.{drop-cons}
use borrow.Author.Tests.{lt-ltb, le-ltb}
use Rattle.demangle.specs.Bits.{taken_bit, gather}
use Rattle.demangle.specs.Demangle.{all_below}

horner : (b g i : ℕ) → (b + 2 * g) * 2 ^ i ≡ b * 2 ^ i + g * 2 ^ suc i
horner b g i = rw (add-mul, pow-suc, mul_assoc 2 g, ← mul_assoc g (2 ^ i) 2) (omega arith)

or_bit : (r b i : ℕ) → i < 31 → r < 2 ^ i → b < 2 → bit_or r (b * 2 ^ i % 4294967296) ≡ r + b * 2 ^ i
or_bit r b i h k l = rw (shl_exact {a = b} 1 i 32 l (omega arith)) (or_shifted_r b i r k ∙ add_comm _ _)

-- a level put above lower bits
pub or_high : (high : Bool) (r i : ℕ) → i < 31 → r < 2 ^ i → bit_or r (from_bool high * 2 ^ i % 4294967296) ≡ r + from_bool high * 2 ^ i
or_high true r i h k = or_bit r 1 i h k (omega arith)
or_high false r i h k = or_bit r 0 i h k (omega arith)

-- one more bit gathered
pub gather_on : (es : List ℕ) (x r i : ℕ) → i < length es
    → r + taken_bit x (get_or es i 0) * 2 ^ i + gather (drop (i + 1) es) x * 2 ^ (i + 1) ≡ r + gather (drop i es) x * 2 ^ i
unfolding gather
gather_on es x r i h =
    rw (add-one i, drop-cons es i 0) (let e = horner (taken_bit x (get_or es i 0)) (gather (drop (suc i) es) x) i in omega arith)

pub gather_end : (es : List ℕ) (x r i : ℕ) → length es ≤ i → r + gather (drop i es) x * 2 ^ i ≡ r
unfolding gather
gather_end es x r i h = rw (drop_of_length-le es h) (omega arith)

pub with_lt : (r b i : ℕ) → r < 2 ^ i → b < 2 → r + b * 2 ^ i < 2 ^ (i + 1)
with_lt r b i h k = rw (add-one i, pow-suc) (let e = mul-le-mul_right (2 ^ i) (le_of_suc-le-suc k) in omega arith)

-- the pins from the i-th on
pub below_on : (n i : ℕ) (ps : List ℕ) → i < length ps → get_or ps i 0 < n → all_below n (drop i ps) ≡ all_below n (drop (i + 1) ps)
unfolding all_below
below_on n i ps h k = rw (add-one i, drop-cons ps i 0, lt-ltb (get_or ps i 0) n k)

pub below_off : (n i : ℕ) (ps : List ℕ) → i < length ps → n ≤ get_or ps i 0 → all_below n (drop i ps) ≡ false
unfolding all_below
below_off n i ps h k = rw (drop-cons ps i 0, le-ltb (get_or ps i 0) n k)

pub below_end : (n i : ℕ) (ps : List ℕ) → length ps ≤ i → all_below n (drop i ps) ≡ true
unfolding all_below
below_end n i ps h = rw (drop_of_length-le ps h)
