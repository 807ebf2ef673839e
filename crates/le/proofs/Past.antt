-- Bytes past the end of a list, and the number at the front of the part from an offset onward.
-- Assumes nothing.
use Rattle.std.specs.Prelude.{ℕ, ◌+◌, ◌-◌, ◌≤◌, ◌≡◌, List, length, take, drop}
use Rattle.std.proofs.Common.{arith, length-drop, take_all, get_or-drop}
use Rattle.std.proofs.Math.Nat.{add-zero}
use Rattle.std.proofs.Math.ListN.{get_or-eq_default}
use Rattle.le.specs.Le.{u8_at, u16_at, u32_at}

pub u8_past : (s : List ℕ) (at : ℕ) → length s ≤ at → u8_at s at ≡ 0
u8_past s at h = get_or-eq_default s 0 h

pub u16_past : (s : List ℕ) (at : ℕ) → length s ≤ at → u16_at s at ≡ 0
u16_past s at h = rw (u8_past s at h, u8_past s (at + 1) (omega arith))

pub u32_past : (s : List ℕ) (at : ℕ) → length s ≤ at → u32_at s at ≡ 0
u32_past s at h =
    rw (u8_past s at h, u8_past s (at + 1) (omega arith), u8_past s (at + 2) (omega arith), u8_past s (at + 3) (omega arith))

pub u32_onward : (s : List ℕ) (at : ℕ) → u32_at (take (length s - at) (drop at s)) 0 ≡ u32_at s at
u32_onward s at =
    let whole : take (length s - at) (drop at s) ≡ drop at s = take_all (length s - at) (drop at s) (simp length-drop (omega arith)) in
    rw whole (simp (get_or-drop, add-zero))
