-- One pin set, and pins set one after the other.
-- Assumes nothing.
use Rattle.std.specs.Prelude.{ℕ, zero, suc, max, ◌+◌, ◌*◌, ◌-◌, ◌/◌, ◌%◌, ◌^◌, ◌≤◌, ◌<◌, ◌≡◌, refl, Bool, true, false, List, [], ◌∷◌, ltb, eqb}
use Rattle.std.proofs.Common.{mod-lt, add-zero, pow-suc, mul-le-mul_right, le_of_suc-le-suc, arith, sym, ap, ◌∙◌, pow-add, pow_pos, ltb-true, ltb-false, eqb-true, lt-ltb, ne_eqb}
use Rattle.std.proofs.Math.Arith.{bin_ind}
use Rattle.std.specs.Int.Bits.{bit_and, bit_or, bit_xor, and_zero_r, and_step, and_self, or_step, or_zero_l, or_add_and, xor_zero_l, xor_zero_r, xor_self, xor_add_and}
use Rattle.std.proofs.lemmas.Nat.{and_block, and_mask, and_le_l, or_lt, shl-shr}
use Rattle.std.proofs.Math.Pow.{split, pow-lt, ones_split, ones_lt, high}
use Rattle.std.proofs.lemmas.Bool.{eqb-false}
use Rattle.base.specs.Choice.{pick}
use Rattle.demangle.specs.Bits.{bit_at, taken_bit}
use Rattle.demangle.specs.Laws.{taken_lt}
use Rattle.base_zero.specs.BaseZero.{lowered}
use Rattle.pin_words.specs.Code.{on_pin, on_pins, all_high, limit}

-- ---- a bit set, then taken off where its level is low

or_half : (a b : ℕ) → (bit_or a b / 2 ≡ bit_or (a / 2) (b / 2)) × (bit_or a b % 2 ≡ max (a % 2) (b % 2))
or_half a b =
    let s = or_step a b in
    let p : a % 2 < 2 = mod-lt a (omega arith) in
    let q : b % 2 < 2 = mod-lt b (omega arith) in
    (omega arith, omega arith)

-- what was set is there
pub and_of_or : (a b : ℕ) → bit_and (bit_or a b) b ≡ b
and_of_or a =
    bin_ind (λ (n : ℕ). (b : ℕ) → bit_and (bit_or n b) b ≡ b) (λ b. ap (λ (x : ℕ). bit_and x b) (or_zero_l b) ∙ and_self b)
    (λ n ih b.
    let s = and_step (bit_or n b) b in
    let h = or_half n b in
    let i : bit_and (bit_or n b / 2) (b / 2) ≡ b / 2 = ap (λ (x : ℕ). bit_and x (b / 2)) h.0 ∙ ih (b / 2) in
    let r = h.1 in
    omega arith) a

pub level_bits : (v q b : ℕ) → b < 2 → bit_xor (bit_or v q) ((1 - b) * q) ≡ v - bit_and v q + b * q
level_bits v q b l = go b l
  where
    go : (b : ℕ) → b < 2 → bit_xor (bit_or v q) ((1 - b) * q) ≡ v - bit_and v q + b * q
    go zero h =
        let one : (1 - 0) * q ≡ q = omega arith in
        let x = xor_add_and (bit_or v q) q in
        let w = and_of_or v q in
        let s = or_add_and v q in
        let u = and_le_l v q in
        ap (λ (y : ℕ). bit_xor (bit_or v q) y) one ∙ omega arith
    go (suc zero) h =
        let none : (1 - 1) * q ≡ 0 = omega arith in
        let s = or_add_and v q in
        let u = and_le_l v q in
        ap (λ (y : ℕ). bit_xor (bit_or v q) y) none ∙ xor_zero_r (bit_or v q) ∙ omega arith
    go (suc (suc n)) h = absurd (omega arith)

-- the other level
pub other_level : (b : ℕ) → b < 2 → bit_xor b 1 ≡ 1 - b
other_level zero h = xor_zero_l 1
other_level (suc zero) h = xor_self 1
other_level (suc (suc n)) h = absurd (omega arith)

-- ---- one pin

pub and_bit : (v p : ℕ) → bit_and v (2 ^ p) ≡ bit_at v p * 2 ^ p
unfolding bit_at
and_bit v p =
    let q : ℕ = 2 ^ p in
    let e : 1 * 2 ^ p + 0 ≡ 2 ^ p = omega arith in
    let b : bit_and (v / 2 ^ p * 2 ^ p + v % 2 ^ p) (1 * 2 ^ p + 0) ≡ bit_and (v / 2 ^ p) 1 * 2 ^ p + bit_and (v % 2 ^ p) 0 =
    and_block p (v / 2 ^ p) 1 (v % 2 ^ p) 0 (mod-lt v (pow_pos p)) (pow_pos p) in
    ap (λ x. bit_and x (2 ^ p)) (sym (split v p))
    ∙ ap (λ x. bit_and (v / 2 ^ p * 2 ^ p + v % 2 ^ p) x) (sym e)
    ∙ b
    ∙ rw (and_mask (v / 2 ^ p) 1, and_zero_r (v % 2 ^ p)) (add-zero _)

pub bit_le : (b q : ℕ) → b < 2 → b * q ≤ q
bit_le b q h = let e = mul-le-mul_right q (le_of_suc-le-suc h) in omega arith

pub on_lt : (v p b : ℕ) → v < 65536 → b < 2 → on_pin v p b < 65536
unfolding on_pin
on_lt v p b h k = go (ltb p 16) refl
  where
    go : (c : Bool) → ltb p 16 ≡ c → pick c (v - bit_at v p * 2 ^ p + b * 2 ^ p) v < 65536
    go true e =
        let s = or_add_and v (2 ^ p) in
        let a = and_bit v p in
        let o : bit_or v (2 ^ p) < 65536 = or_lt 16 v (2 ^ p) h (pow-lt (ltb-true p 16 e)) in
        let l = bit_le b (2 ^ p) k in
        let u = and_le_l v (2 ^ p) in
        omega arith
    go false e = h

-- a pin at level b, from its bit q
pub level_on : (v p q b : ℕ) → p < 16 → q ≡ 2 ^ p → v - bit_and v q + b * q ≡ on_pin v p b
unfolding on_pin
level_on v p q b h e = rw (e, lt-ltb p 16 h, and_bit v p) refl

pub or_on : (v p q : ℕ) → p < 16 → q ≡ 2 ^ p → bit_or v q ≡ on_pin v p 1
or_on v p q h e =
    let s = or_add_and v q in
    let u = and_le_l v q in
    let l : v - bit_and v q + 1 * q ≡ on_pin v p 1 = level_on v p q 1 h e in
    omega arith

-- a bit from the highest of the sixteen
pub top_shr : (p q : ℕ) → p + q ≡ 15 → 32768 / 2 ^ q ≡ 2 ^ p
top_shr p q h =
    let e : 32768 ≡ 2 ^ p * 2 ^ q = ap (λ n. 2 ^ n) (sym h) ∙ pow-add 2 p q in
    ap (λ n. n / 2 ^ q) e ∙ shl-shr (2 ^ p) q

pub pins_lt : (ps : List ℕ) (i w v : ℕ) → v < 65536 → on_pins ps i w v < 65536
unfolding on_pins
pins_lt [] i w v h = h
pins_lt (p ∷ ps) i w v h = pins_lt ps (suc i) w (on_pin v p (taken_bit w i)) (on_lt v p (taken_bit w i) h (taken_lt w i))

-- ---- a pin against the limit, before it is lowered

limit_le : (m : ℕ) → (limit m ≤ m + 16) × (limit m ≤ 255)
limit_le m = go (ltb m 239) refl
  where
    go : (c : Bool) → ltb m 239 ≡ c → (pick c (m + 16) 255 ≤ m + 16) × (pick c (m + 16) 255 ≤ 255)
    go true e = let h = ltb-true m 239 e in (omega arith, omega arith)
    go false e = let h = ltb-false m 239 e in (omega arith, omega arith)

pub limit_in : (m p : ℕ) → p < limit m → (lowered m p ≡ p - m) × (p - m < 16)
unfolding lowered
limit_in m p h =
    let l : limit m ≤ m + 16 = (limit_le m).0 in
    let k : limit m ≤ 255 = (limit_le m).1 in
    let e : eqb p 255 ≡ false = ne_eqb p 255 (λ q. omega arith) in
    (rw e refl, omega arith)

pub limit_out : (m p : ℕ) → p < 256 → limit m ≤ p → 16 ≤ lowered m p
unfolding lowered
limit_out m p b h = go (ltb m 239) (eqb p 255) refl refl h
  where
    go : (c d : Bool) → ltb m 239 ≡ c → eqb p 255 ≡ d → pick c (m + 16) 255 ≤ p → 16 ≤ pick d p (p - m)
    go true true e f h = let k = eqb-true p 255 f in omega arith
    go true false e f h = omega arith
    go false true e f h = omega arith
    go false false e f h = let k = eqb-false p 255 f in absurd (k (omega arith))

-- ---- every input bit high

pub all_high_is : (e : ℕ) → e < 32 → bit_at all_high e ≡ 1
unfolding bit_at
all_high_is e h =
    let k : ℕ = 31 - e in
    let s : suc (31 - e) + e ≡ 32 = omega arith in
    let t : (2 ^ suc (31 - e) - 1) * 2 ^ e + (2 ^ e - 1) ≡ all_high = sym (ones_split (suc (31 - e)) e) ∙ ap (λ n. 2 ^ n - 1) s in
    let d : all_high / 2 ^ e ≡ 2 ^ suc (31 - e) - 1 = ap (λ n. n / 2 ^ e) (sym t) ∙ high (2 ^ suc (31 - e) - 1) e (ones_lt e) in
    rw (d, pow-suc 2 (31 - e)) (let z = pow_pos (31 - e) in omega arith)

pub all_taken : (i : ℕ) → i < 32 → taken_bit all_high i ≡ 1
unfolding taken_bit
all_taken i h = rw (lt-ltb i 32 h) (all_high_is i h)
