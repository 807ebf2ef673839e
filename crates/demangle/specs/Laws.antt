-- What is gathered, and what a demangled byte is, bit by bit.
-- Assumes nothing.
use Rattle.std.specs.Prelude.{ℕ, zero, suc, ◌+◌, ◌*◌, ◌/◌, ◌^◌, ◌<◌, ◌≡◌, refl, ◌↔◌, Bool, true, false, List, [], ◌∷◌, ltb, length, get_or}
use Rattle.std.proofs.Common.{mod-lt, div-one, pow-suc, not-suc-le-zero, le_of_suc-le-suc, one-add, arith, ◌∙◌, shr-shr, ltb-true, lt-ltb}
use Rattle.std.proofs.Math.Nat.{zero-div}
use Rattle.std.proofs.lemmas.Bool.{false≢true}
use Rattle.base.specs.Laws.{both_true}
use Rattle.base.specs.Choice.{pick}
use Rattle.demangle.specs.Bits.{none, is_bit, bit_at, taken_bit, gather}
use Rattle.demangle.specs.Demangle.{all_below, demangle}

pub bit_lt : (x i : ℕ) → bit_at x i < 2
unfolding bit_at
bit_lt x i = mod-lt (x / 2 ^ i) (omega arith)

pub taken_lt : (x e : ℕ) → taken_bit x e < 2
unfolding taken_bit
taken_lt x e = go (is_bit e)
  where
    go : (b : Bool) → pick b (bit_at x e) 0 < 2
    go true = bit_lt x e
    go false = omega arith

zero_bit : (i : ℕ) → bit_at 0 i ≡ 0
unfolding bit_at
zero_bit i = rw (zero-div (2 ^ i))

first_bit : (b g : ℕ) → b < 2 → bit_at (b + 2 * g) 0 ≡ b
unfolding bit_at
first_bit b g h = rw div-one (omega arith)

next_bit : (b g i : ℕ) → b < 2 → bit_at (b + 2 * g) (suc i) ≡ bit_at g i
unfolding bit_at
next_bit b g i h =
    let e : (b + 2 * g) / 2 ≡ g = omega arith in
    rw (← one-add i, ← shr-shr (b + 2 * g) 1 i, e)

-- bit p of what is gathered is what entry p takes; past the last entry it is low
pub bit_gather : (m : List ℕ) (x p : ℕ) → bit_at (gather m x) p ≡ taken_bit x (get_or m p none)
unfolding gather taken_bit
bit_gather [] x p = zero_bit p
bit_gather (e ∷ es) x zero = first_bit (taken_bit x e) (gather es x) (taken_lt x e)
bit_gather (e ∷ es) x (suc p) = next_bit (taken_bit x e) (gather es x) p (taken_lt x e) ∙ bit_gather es x p

pub gather_lt : (m : List ℕ) (x : ℕ) → gather m x < 2 ^ length m
unfolding gather
gather_lt [] x = omega arith
gather_lt (e ∷ es) x = rw pow-suc (let h = gather_lt es x in let k = taken_lt x e in omega arith)

pub taken_high : (x e : ℕ) → (taken_bit x e ≡ 1) ↔ ((is_bit e ≡ true) × (bit_at x e ≡ 1))
unfolding taken_bit
taken_high x e = go (is_bit e)
  where
    go : (b : Bool) → (pick b (bit_at x e) 0 ≡ 1) ↔ ((b ≡ true) × (bit_at x e ≡ 1))
    go true = (λ h. (refl, h), λ h. h.1)
    go false = (λ h. absurd (omega arith), λ h. absurd (false≢true h.0))

pub pick_lt : (b : Bool) (x y n : ℕ) → x < n → y < n → pick b x y < n
pick_lt true x y n h k = h
pick_lt false x y n h k = k

-- ---- demangling

pub below_at : (n i : ℕ) (ps : List ℕ) → i < length ps → all_below n ps ≡ true → get_or ps i none < n
unfolding all_below
below_at n i [] h e = absurd (not-suc-le-zero h)
below_at n zero (p ∷ ps) h e = ltb-true p n (both_true (ltb p n) (all_below n ps) e).0
below_at n (suc i) (p ∷ ps) h e = below_at n i ps (le_of_suc-le-suc h) (both_true (ltb p n) (all_below n ps) e).1

-- bit i of an accepted byte is the byte's bit at pin i
pub demangled_bit : (pins : List ℕ) (byte i : ℕ) → i < length pins → (demangle pins byte).number ≡ 0
    → bit_at (demangle pins byte).value i ≡ bit_at byte (get_or pins i none)
unfolding demangle taken_bit
demangled_bit pins byte i h = go (all_below 8 pins) refl
  where
    go : (b : Bool) → all_below 8 pins ≡ b → ◌≡◌ {A = ℕ} (pick b 0 79) 0 → bit_at (pick b (gather pins byte) 0) i ≡ bit_at byte (get_or pins i none)
    go true e z =
        let k : get_or pins i none < 32 = omega (arith, below_at 8 i pins h e) in
        rw (bit_gather pins byte i, lt-ltb (get_or pins i none) 32 k)
    go false e z = absurd (omega arith)

pub demangled_lt : (pins : List ℕ) (byte : ℕ) → length pins ≡ 8 → (demangle pins byte).value < 256
unfolding demangle
demangled_lt pins byte h =
    let k : gather pins byte < 2 ^ 8 = rw h at (gather_lt pins byte) in
    pick_lt (all_below 8 pins) (gather pins byte) 0 256 k (omega arith)
