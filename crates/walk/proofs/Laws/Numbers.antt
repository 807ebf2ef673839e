-- The numbers that a walk is refused with: none is 0, and none above 43. So 44 and 45 can be told from them.
-- Assumes nothing.
use Prim.Native.Nat.{ℕ, zero, suc, ◌+◌, ◌≤◌}
use Rattle.std.specs.Prelude.{◌≡◌, Bool, true, false, ◌||◌, List, eqb}
use Rattle.std.proofs.Math.Dec.{ltb, lit≤}
use Rattle.base.specs.Choice.{pick}
use Rattle.window.specs.Window.{can_read, on_from}
use Rattle.le.specs.Le.{u8_at, u32_at}
use Rattle.prog.specs.Prog.{run}
use Rattle.header.specs.declared.SdrrInfoFields.{SdrrInfoFields}
use Rattle.version.specs.Version.{from060}
use Rattle.header.specs.Header.{has_filenames}
use Rattle.walk.specs.Walk.{RomSet, Part, stop, found, info_size, walk_p}
use Rattle.walk.specs.Code.Passes.{or_next, info_number, info_pointer, rom_number, roms_number, table_number, pointed_number, config_of, overrides_of, header_number, part_number, one_set_number, after, sets_number, walk_number}
use Rattle.walk.proofs.Laws.Says.{Says, accepts, refuses, walk_tells}

either : (b : Bool) (n m : ℕ) → n ≤ 43 → m ≤ 43 → pick b n m ≤ 43
either true n m h i = h
either false n m h i = i

next : (n m : ℕ) → n ≤ 43 → m ≤ 43 → or_next n m ≤ 43
next n m h i = either (eqb n 0) m n i h

module _ (x : List ℕ) (base : ℕ) where
  info_below : (s : List ℕ) → info_number s ≤ 43
  unfolding info_number
  info_below s =
      either (ltb 33 (u8_at s 0)) _ _ (lit≤ tt) (either (ltb 2 (u8_at s 1) || (ltb 2 (u8_at s 2) || ltb 2 (u8_at s 3))) _ _ (lit≤ tt) (lit≤ tt))

  pointed_below : (address : ℕ) → pointed_number x base address ≤ 43
  unfolding pointed_number
  pointed_below address = either (eqb address 0) _ _ (lit≤ tt) (either (can_read x base address 64) _ _ (lit≤ tt) (lit≤ tt))

  header_below : (s : List ℕ) → header_number x base s ≤ 43
  unfolding header_number
  header_below s =
      either (ltb 2 (u8_at s 13)) _ _ (lit≤ tt)
      (either (ltb 2 (u8_at s 14)) _ _ (lit≤ tt) (next _ _ (pointed_below (config_of s)) (pointed_below (overrides_of s))))

  module _ (filenames : Bool) where
    rom_below : (entry : ℕ) → rom_number x base filenames entry ≤ 43
    unfolding rom_number
    rom_below entry =
        let p = info_pointer x base entry in
        either (can_read x base entry 4) _ _ (either (can_read x base p (info_size filenames)) _ _ (info_below (on_from x base p)) (lit≤ tt)) (lit≤ tt)

    roms_below : (entry left : ℕ) → roms_number x base filenames entry left ≤ 43
    unfolding roms_number
    roms_below entry zero = lit≤ tt
    roms_below entry (suc left) = next _ _ (rom_below entry) (roms_below (entry + 4) left)

    table_below : (count table : ℕ) → table_number x base filenames count table ≤ 43
    unfolding table_number
    table_below count table = either (eqb count 0) _ _ (lit≤ tt) (either (ltb table base) _ _ (lit≤ tt) (roms_below table count))

    part_below : (s : List ℕ) → part_number x base filenames s ≤ 43
    unfolding part_number
    part_below s = next _ _ (header_below s) (table_below (u8_at s 12) (u32_at s 8))

    set_below : (address : ℕ) → one_set_number x base filenames address ≤ 43
    unfolding one_set_number
    set_below address = either (can_read x base address 64) _ _ (part_below (on_from x base address)) (lit≤ tt)

    module _ (long : Bool) where
      sets_below : (address left : ℕ) → sets_number x base filenames long address left ≤ 43
      unfolding sets_number
      sets_below address zero = lit≤ tt
      sets_below address (suc left) = next _ _ (set_below address) (sets_below (after x base long address) left)

      walk_below : (count pointer : ℕ) → walk_number x base filenames long count pointer ≤ 43
      unfolding walk_number
      walk_below count pointer = either (eqb count 0) _ _ (lit≤ tt) (either (ltb pointer base) _ _ (lit≤ tt) (sets_below pointer count))

-- a refusal's number
abbrev pub Numbered : Part (List RomSet) → Type 0
Numbered (stop n roms) = (n ≡ 0 → ⊥) × (n ≤ 43)
Numbered (found ss) = Unit {0}

says_numbered : {ss : List RomSet} {n : ℕ} {p : Part (List RomSet)} → n ≤ 43 → Says ss n p → Numbered p
says_numbered l accepts = tt
says_numbered l (refuses h) = (h, l)

pub walk_numbered : (x : List ℕ) (base : ℕ) (f : SdrrInfoFields) (count pointer : ℕ) → Numbered (run (walk_p base f count pointer) x)
walk_numbered x base f count pointer =
    says_numbered (walk_below x base (has_filenames f) (from060 f.version) count pointer) (walk_tells x base f count pointer).says
