-- Which reads succeed; the image from an address on; the window check on an image cut short.
-- Assumes nothing.
use Rattle.std.specs.Prelude.{ℕ, ◌+◌, ◌-◌, ◌≤◌, ◌<◌, ◌≡◌, ◌⊎◌, true, false, List, [], leb, ltb, get_or, take, drop}
use native.Mathlib.Omega.{arith}
use Rattle.std.proofs.Math.Nat.{add-sub_cancel_left}
use Rattle.std.proofs.Math.Decide.{dec_le}
use Rattle.std.proofs.Math.Path.{sym}
use Rattle.std.proofs.Common.{◌∙◌, inl, inr, ⊎_elim, length-take, length-drop, drop_of_length-le, get_or-take, get_or-drop}
use Rattle.std.proofs.Math.Bool.{and-false}
use Rattle.std.proofs.Math.ListN.{length}
use borrow.Author.Tests.{le-leb, lt-leb, leb-true, leb-false, le-ltb, lt-ltb, ltb-true, ltb-false}
use Rattle.base.specs.Laws.{cases, clash, both_false, onward}
use Rattle.window.specs.Window.{can_read, on_from, past_window, beyond_window, pointer_number}

-- ---- when a read succeeds (01, "Window")

pub record Inside (x : List ℕ) (base a n : ℕ) : Type 0 where
  pub from : base ≤ a
  pub word : a ≤ 4294967295
  pub upto : a + n ≤ base + length x

module _ (x : List ℕ) (base a n : ℕ) where
  pub inside_true : Inside x base a n → can_read x base a n ≡ true
  unfolding can_read
  inside_true h = simp (le-leb base a h.from, le-leb a 4294967295 h.word, le-leb (a + n) (base + length x) h.upto)

  -- the three ways to fail
  pub below_false : a < base → can_read x base a n ≡ false
  unfolding can_read
  below_false h = simp (lt-leb base a h)

  pub above_false : 4294967295 < a → can_read x base a n ≡ false
  unfolding can_read
  above_false h = rw (lt-leb a 4294967295 h) (and-false (leb base a))

  pub past_false : base + length x < a + n → can_read x base a n ≡ false
  unfolding can_read
  past_false h = rw (lt-leb (a + n) (base + length x) h, and-false (leb a 4294967295)) (and-false (leb base a))

  -- past the first two tests, the third decides
  pub can_read_upto : base ≤ a → a ≤ 4294967295 → can_read x base a n ≡ leb (a + n) (base + length x)
  unfolding can_read
  can_read_upto h i = simp (le-leb base a h, le-leb a 4294967295 i)

  pub inside? : Inside x base a n ⊎ (can_read x base a n ≡ false)
  inside? = go (dec_le base a) (dec_le a 4294967295) (dec_le (a + n) (base + length x))
    where
      go : Dec (base ≤ a) → Dec (a ≤ 4294967295) → Dec (a + n ≤ base + length x) → Inside x base a n ⊎ (can_read x base a n ≡ false)
      go (yes h) (yes i) (yes j) = inl (record { from = h; word = i; upto = j })
      go (yes h) (yes i) (no j) = inr (past_false (omega arith))
      go (yes h) (no i) j = inr (above_false (omega arith))
      go (no h) i j = inr (below_false (omega arith))

  pub true_inside : can_read x base a n ≡ true → Inside x base a n
  true_inside e = ⊎_elim (λ i. i) (λ (f : can_read x base a n ≡ false). clash (cc)) inside?

  -- past the other tests, the bytes from the offset on decide
  pub enough_left : base ≤ a → a ≤ 4294967295 → a - base ≤ length x → leb n (length x - (a - base)) ≡ can_read x base a n
  enough_left from word upto =
      cases (leb n (length x - (a - base)))
      (λ e. let l = leb-true n (length x - (a - base)) e in e ∙ sym (inside_true (record { from = from; word = word; upto = omega arith })))
      (λ e. let l = leb-false n (length x - (a - base)) e in e ∙ sym (past_false (omega arith)))

  -- all n bytes are there
  pub inside_length : Inside x base a n → length (take n (drop (a - base) x)) ≡ n
  inside_length i = simp (length-take, length-drop) (omega arith)

-- ---- parts of the image, as the code has them

-- a part `&s[o..o + n]`, as the code has it
pub part : (o n : ℕ) (x : List ℕ) → take (o + n - o) (drop o x) ≡ take n (drop o x)
part o n x = rw add-sub_cancel_left

-- a byte of a part
pub part_at : (o n : ℕ) (x : List ℕ) (i : ℕ) → i < n → get_or (take n (drop o x)) i 0 ≡ get_or x (o + i) 0
part_at o n x i h = get_or-take n (drop o x) i 0 h ∙ get_or-drop o x i 0

-- ---- the image from an address on

module _ (x : List ℕ) (base address : ℕ) where
  pub from_below : address < base → x ≡ on_from x base address
  unfolding on_from
  from_below h = let z : address - base ≡ 0 = omega arith in rw z

  pub from_past : length x ≤ address - base → [] ≡ on_from x base address
  unfolding on_from
  from_past h = sym (drop_of_length-le x h)

  pub from_inside : take (length x - (address - base)) (drop (address - base) x) ≡ on_from x base address
  unfolding on_from
  from_inside = onward (address - base) x

-- ---- a record at a pointer

module _ (x : List ℕ) (base pointer n : ℕ) where
  pub pointer_3 : pointer < base → pointer_number x base pointer n ≡ 3
  unfolding pointer_number
  pointer_3 h = rw (lt-ltb pointer base h)

  pub pointer_2 : base ≤ pointer → can_read x base pointer n ≡ false → pointer_number x base pointer n ≡ 2
  unfolding pointer_number
  pointer_2 h e = rw (le-ltb pointer base h, e)

  pub pointer_0 : base ≤ pointer → can_read x base pointer n ≡ true → pointer_number x base pointer n ≡ 0
  unfolding pointer_number
  pointer_0 h e = rw (le-ltb pointer base h, e)

-- ---- the window check

-- the code's test, in which no sum is made
pub past_top : (base : ℕ) (x : List ℕ) → base ≤ 4294967296 → ltb (4294967296 - base) (length x) ≡ past_window base x
unfolding past_window
past_top base x h =
    cases (ltb 4294967296 (base + length x))
    (λ e. let i : 4294967296 - base < length x = omega (arith, ltb-true 4294967296 (base + length x) e) in lt-ltb (4294967296 - base) (length x) i ∙ sym e)
    (λ e. let i : length x ≤ 4294967296 - base = omega (arith, ltb-false 4294967296 (base + length x) e) in le-ltb (4294967296 - base) (length x) i ∙ sym e)

-- what passes it passes cut short
past_cut : (base : ℕ) (x : List ℕ) (k : ℕ) → past_window base x ≡ false → past_window base (take k x) ≡ false
unfolding past_window
past_cut base x k e =
    let f = ltb-false 4294967296 (base + length x) e in
    let l = length-take k x in
    le-ltb 4294967296 (base + length (take k x)) (omega arith)

pub window_cut : (flash_base cs0_base : ℕ) (x : List ℕ) (k : ℕ) → beyond_window flash_base cs0_base x ≡ false → beyond_window flash_base cs0_base (take k x) ≡ false
window_cut flash_base cs0_base x k e =
    let b = both_false (past_window flash_base x) (past_window cs0_base x) e in
    rw (past_cut flash_base x k b.0, past_cut cs0_base x k b.1)
