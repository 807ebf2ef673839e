-- Document 02, wish 2: the running total. Both passes keep by these laws what their loops say of it: before every set it is the sum of the
-- earlier sets' counts. `Reached` joins that to the walk itself.
-- Assumes nothing.
use Prim.Native.Nat.{ℕ, zero, suc, ◌+◌, ◌-◌, ◌*◌, ◌≤◌}
use native.Mathlib.Omega.{arith}
use Rattle.std.proofs.Math.Nat.{zero-add, add-zero}
use Rattle.std.proofs.Common.{suc-add, add_assoc, add-one, sym, ap, ◌∙◌}
use Rattle.std.specs.Prelude.{◌≡◌, Bool}
use Rattle.std.proofs.Math.Path.{refl}
use mathlib.Core.List.{List, [], ◌∷◌, ◌++◌}
use Rattle.std.proofs.Math.ListN.{length-append}
use Rattle.window.specs.Window.{on_from}
use Rattle.le.specs.Le.{u8_at, u32_at}
use Rattle.set_header.specs.Laws.{stride_bound}
use Rattle.walk.specs.Walk.{RomSet, roms_of}
use Rattle.walk.specs.Rows.{set_row, counts_of, set_rows_after, set_rows_of}
use Rattle.walk.specs.Code.Passes.{stride_of, part_roms, set_of, set_at, after, set_address, sets_at}
use Rattle.walk.proofs.Laws.Passes.{roms_length, roms_in}

-- ---- the sum

pub counts_append : (ss ts : List RomSet) → counts_of (ss ++ ts) ≡ counts_of ss + counts_of ts
unfolding counts_of
counts_append [] ts = sym (zero-add (counts_of ts))
counts_append (s ∷ ss) ts = rw (counts_append ss ts) (sym (add_assoc s.rom_count (counts_of ss) (counts_of ts)))

pub counts_more : (ss : List RomSet) (s : RomSet) → counts_of (ss ++ (s ∷ [])) ≡ counts_of ss + s.rom_count
unfolding counts_of
counts_more ss s = rw (counts_append ss (s ∷ []), add-zero s.rom_count)

-- the set rows with the total carried along are the definition's
unfoldable pub rows_from : ℕ → List RomSet → List ℕ
rows_from first [] = []
rows_from first (s ∷ ss) = set_row first s ++ rows_from (first + s.rom_count) ss

pub rows_after : (earlier ss : List RomSet) → set_rows_after earlier ss ≡ rows_from (counts_of earlier) ss
unfolding set_rows_after rows_from
rows_after earlier [] = refl
rows_after earlier (s ∷ ss) =
    ap (λ (l : List ℕ). set_row (counts_of earlier) s ++ l) (rows_after (earlier ++ (s ∷ [])) ss ∙ ap (λ (n : ℕ). rows_from n ss) (counts_more earlier s))

pub rows_from_is : (ss : List RomSet) → set_rows_of ss ≡ rows_from 0 ss
unfolding counts_of
rows_from_is ss = rows_after [] ss

-- ---- where the passes stand

module _ (x : List ℕ) (base : ℕ) (filenames long : Bool) where
  address_next : (i pointer : ℕ) → set_address x base long pointer (suc i) ≡ after x base long (set_address x base long pointer i)
  unfolding set_address
  address_next zero pointer = refl
  address_next (suc i) pointer = address_next i (after x base long pointer)

  -- the earlier sets, and those from where the next one stands
  pub sets_split : (i pointer k : ℕ) → sets_at x base filenames long pointer (i + k) ≡ sets_at x base filenames long pointer i ++ sets_at x base filenames long (set_address x base long pointer i) k
  unfolding sets_at set_address
  sets_split zero pointer k = rw zero-add
  sets_split (suc i) pointer k = rw (suc-add i k) (ap (λ (ss : List RomSet). set_at x base filenames pointer ∷ ss) (sets_split i (after x base long pointer) k))

  pub address_bound : (i pointer : ℕ) → set_address x base long pointer i ≤ pointer + 64 * i
  unfolding set_address
  address_bound zero pointer = omega arith
  address_bound (suc i) pointer =
      let h = address_bound i (after x base long pointer) in
      let s = stride_bound long (on_from x base pointer) in
      omega (arith, h, s)

  -- each of these sets lists as many ROMs as it counts
  pub total_roms : (i pointer : ℕ) → counts_of (sets_at x base filenames long pointer i) ≡ roms_in x base filenames long pointer i
  unfolding sets_at set_at set_of roms_of counts_of
  total_roms zero pointer = refl
  total_roms (suc i) pointer =
      let s = on_from x base pointer in
      let l = length-append (part_roms x base filenames s) (roms_of (sets_at x base filenames long (after x base long pointer) i)) in
      let n = roms_length x base filenames (u32_at s 8) (u8_at s 12) in
      let t = total_roms i (after x base long pointer) in
      omega (arith, l, n, t)

  -- a set that is taken on, as the code has it: where it stands, and its part of the image
  module _ (pointer i address : ℕ) (v : address ≡ set_address x base long pointer i) (s : List ℕ) (w : s ≡ on_from x base address) where
    pub address_step : (d : ℕ) → d ≡ stride_of long s → address + d ≡ set_address x base long pointer (i + 1)
    address_step d e = rw (e, w, v, add-one i) (sym (address_next i pointer))

    pub sets_more : sets_at x base filenames long pointer (i + 1) ≡ sets_at x base filenames long pointer i ++ (set_of s (part_roms x base filenames s) ∷ [])
    unfolding sets_at set_at
    sets_more = rw (w, v) (sets_split i pointer 1)

    pub total_step : (total n : ℕ) → total ≡ counts_of (sets_at x base filenames long pointer i) → n ≡ u8_at s 12
        → total + n ≡ counts_of (sets_at x base filenames long pointer (i + 1))
    unfolding counts_of set_of
    total_step total n e f =
        rw (sets_more, counts_append (sets_at x base filenames long pointer i) (set_of s (part_roms x base filenames s) ∷ []), e, f, add-zero (u8_at s 12))

  -- rows enough for n sets are enough for i of them
  pub total_within : (i n pointer : ℕ) → i ≤ n → counts_of (sets_at x base filenames long pointer i) ≤ roms_in x base filenames long pointer n
  total_within i n pointer h =
      let k : i + (n - i) ≡ n = omega arith in
      let later = sets_at x base filenames long (set_address x base long pointer i) (n - i) in
      let e : sets_at x base filenames long pointer n ≡ sets_at x base filenames long pointer i ++ later = rw k at (sets_split i pointer (n - i)) in
      let c = counts_append (sets_at x base filenames long pointer i) later in
      let t = total_roms n pointer in
      rw (← t, e, c) (omega arith)
