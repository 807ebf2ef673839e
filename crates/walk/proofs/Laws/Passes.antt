-- How many sets and ROMs the passes go through.
-- Assumes nothing.
use Prim.Native.Nat.{ℕ, zero, suc, ◌+◌, ◌-◌}
use Rattle.std.proofs.Math.Numerals.{sub-one}
use Rattle.std.specs.Prelude.{◌≡◌, Bool, List, length}
use Rattle.std.proofs.Math.Path.{refl, ap}
use Rattle.std.proofs.Common.{◌∙◌, length-append}
use Rattle.le.specs.Le.{u8_at, u32_at}
use Rattle.window.specs.Window.{on_from}
use Rattle.walk.specs.Walk.{roms_of}
use Rattle.walk.specs.Code.Passes.{roms_at, part_roms, set_of, set_at, stride_of, after, sets_at}

pub roms_length : (x : List ℕ) (base : ℕ) (filenames : Bool) (entry n : ℕ) → length (roms_at x base filenames entry n) ≡ n
unfolding roms_at
roms_length x base filenames entry zero = refl
roms_length x base filenames entry (suc n) = ap suc (roms_length x base filenames (entry + 4) n)

module _ (x : List ℕ) (base : ℕ) (filenames long : Bool) where
  pub sets_length : (address n : ℕ) → length (sets_at x base filenames long address n) ≡ n
  unfolding sets_at
  sets_length address zero = refl
  sets_length address (suc n) = ap suc (sets_length (after x base long address) n)

  -- how many ROMs so many sets have
  abbrev pub roms_in : ℕ → ℕ → ℕ
  roms_in address left = length (roms_of (sets_at x base filenames long address left))

  pub no_roms : (address left : ℕ) → left ≡ 0 → roms_in address left ≡ 0
  unfolding sets_at roms_of
  no_roms address left e = rw e

  -- one set taken off at the front
  pub roms_step : (address left : ℕ) → (left ≡ 0 → ⊥) → (s : List ℕ) → s ≡ on_from x base address
      → roms_in address left ≡ u8_at s 12 + roms_in (address + stride_of long s) (left - 1)
  unfolding sets_at set_at set_of roms_of
  roms_step address left h s v = rw v (go left h)
    where
      go : (k : ℕ) → (k ≡ 0 → ⊥) → roms_in address k ≡ u8_at (on_from x base address) 12 + roms_in (after x base long address) (k - 1)
      go zero i = absurd (i refl)
      go (suc k) i =
          let t = on_from x base address in
          rw sub-one (length-append (part_roms x base filenames t) _ ∙ rw (roms_length x base filenames (u32_at t 8) (u8_at t 12)))
