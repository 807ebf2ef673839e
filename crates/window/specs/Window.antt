-- Document 01, "Window". An image is a list of bytes; its first byte stands at the base.
use Rattle.std.specs.Prelude.{ℕ, ◌+◌, ◌-◌, Bool, ◌&&◌, ◌||◌, List, leb, ltb, length, drop}
use Rattle.base.specs.Choice.{pick}
use Rattle.types.specs.declared.McuLine.{McuLine}
use Rattle.types.specs.Types.{is_rp2350}

-- a read of n bytes at a succeeds exactly if base ≤ a, a ≤ 2^32 − 1 and a + n ≤ base + the image's length,
-- in whole numbers; so too where n is 0
unfoldable pub can_read : List ℕ → ℕ → ℕ → ℕ → Bool
can_read x base a n = leb base a && (leb a 4294967295 && leb (a + n) (base + length x))

-- "A record is read from the part of the image that starts at its address"
unfoldable pub on_from : List ℕ → ℕ → ℕ → List ℕ
on_from x base address = drop (address - base) x

-- the base plus the image's length exceeds 2^32
unfoldable pub past_window : ℕ → List ℕ → Bool
past_window base x = ltb 4294967296 (base + length x)

-- "Window check. 1: either base plus image length exceeds 2^32"
abbrev pub beyond_window : (flash_base cs0_base : ℕ) → List ℕ → Bool
beyond_window flash_base cs0_base x = past_window flash_base x || past_window cs0_base x

-- "Info header": for Rp2350 the base becomes the CS0 base after the header
abbrev pub base_after : ℕ → ℕ → McuLine → ℕ
base_after flash_base cs0_base line = pick (is_rp2350 line) cs0_base flash_base

-- A record of n bytes at a pointer. 3: below base. 2: ended.
unfoldable pub pointer_number : List ℕ → ℕ → ℕ → ℕ → ℕ
pointer_number x base pointer n = pick (ltb pointer base) 3 (pick (can_read x base pointer n) 0 2)
