-- Document 01, "ROM sets and ROM infos": the walk.
use Rattle.std.specs.Prelude.{ℕ, zero, suc, ◌+◌, Bool, not, ◌&&◌, ◌||◌, List, [], ◌∷◌, ◌++◌, ltb, eqb}
use Rattle.base.specs.Choice.{pick}
use Rattle.le.specs.Le.{u8_at, u32_at}
use Rattle.prog.specs.Prog.{Prog, done, fetch, ◌>>=◌}
use Rattle.header.specs.declared.SdrrInfoFields.{SdrrInfoFields}
use Rattle.version.specs.Version.{from060}
use Rattle.header.specs.Header.{has_filenames}
pub use Rattle.set_header.specs.SetHeader.{extra_byte}

-- ---- what the walk finds

-- where a ROM's name is: no pointer read, or one below base or FFFFFFFF; or at a pointer
pub data NameAt : Type 0 where
  no_name : NameAt
  name_at : ℕ → NameAt

pub record Rom : Type 0 where
  pub rom_type : ℕ
  pub cs1 : ℕ
  pub cs2 : ℕ
  pub cs3 : ℕ
  pub name : NameAt

-- config and overrides are addresses, 0 where absent
pub record RomSet : Type 0 where
  pub data_pointer : ℕ
  pub size : ℕ
  pub rom_count : ℕ
  pub serve : ℕ
  pub state : ℕ
  pub config : ℕ
  pub overrides : ℕ
  pub roms : List Rom

-- a part of the walk: refused, with its number and the ROMs passed before, whose names were read; or what it found
pub data Part (A : Type 0) : Type 0 where
  stop : ℕ → List Rom → Part A
  found : A → Part A

-- go on with what was found; a refusal stays, and the ROMs passed earlier come first
abbrev pub or_stop : {A B : Type 0} → List Rom → (A → Prog (Part B)) → Part A → Prog (Part B)
or_stop passed f (stop n roms) = done (stop n (passed ++ roms))
or_stop passed f (found a) = f a

abbrev pub refuse : {A : Type 0} → ℕ → Part A
refuse n = stop n []

-- ---- ROM infos

-- a name below base or at FFFFFFFF is missing
abbrev pub name_pointer : ℕ → ℕ → NameAt
name_pointer base pointer = pick (ltb pointer base || eqb pointer 4294967295) no_name (name_at pointer)

-- type, three chip-select states, and with filenames a name pointer
unfoldable pub rom_of : ℕ → Bool → List ℕ → Rom
rom_of base filenames s =
    record { rom_type = u8_at s 0; cs1 = u8_at s 1; cs2 = u8_at s 2; cs3 = u8_at s 3; name = pick filenames (name_pointer base (u32_at s 4)) no_name }

-- with filenames a ROM info is 8 bytes, without 4
abbrev pub info_size : Bool → ℕ
info_size filenames = pick filenames 8 4

-- 42: type (0..33). 43: state (each 0..2).
unfoldable pub judge_rom : ℕ → Bool → List ℕ → Part Rom
judge_rom base filenames s =
    pick (ltb 33 (u8_at s 0)) (refuse 42)
    (pick (ltb 2 (u8_at s 1) || (ltb 2 (u8_at s 2) || ltb 2 (u8_at s 3))) (refuse 43)
    (found (rom_of base filenames s)))

-- 2: pointer, then info.
unfoldable pub rom_p : ℕ → Bool → ℕ → Prog (Part Rom)
rom_p base filenames entry =
    fetch base entry 4 (refuse 2) λ p.
    fetch base (u32_at p 0) (info_size filenames) (refuse 2) λ s.
    done (judge_rom base filenames s)

-- a u32 pointer table: the ROMs that are left, of which the next has its entry at the given address
unfoldable pub roms_p : ℕ → ℕ → Bool → ℕ → List Rom → Prog (Part (List Rom))
roms_p zero base filenames entry passed = done (found passed)
roms_p (suc left) base filenames entry passed =
    rom_p base filenames entry >>= or_stop passed λ rom. roms_p left base filenames (entry + 4) (passed ++ (rom ∷ []))

-- with ROMs, 3: table below base
unfoldable pub table_p : ℕ → Bool → ℕ → ℕ → Prog (Part (List Rom))
table_p base filenames count table =
    pick (eqb count 0) (done (found [])) (pick (ltb table base) (done (refuse 3)) (roms_p count base filenames table []))

-- ---- ROM sets

-- Extra byte 1 makes both pointers count; 0 and FFFFFFFF are absent, and others must yield 64 bytes.
unfoldable pub pointed_p : ℕ → Bool → ℕ → Prog (Part ℕ)
pointed_p base counts pointer =
    pick (counts && (not (eqb pointer 0) && not (eqb pointer 4294967295)))
    (fetch base pointer 64 (refuse 2) λ s. done (found pointer))
    (done (found 0))

-- data pointer 0, size 4, ROMs pointer 8, ROM count 12, serve 13, multi-ROM state 14, serve config pointer 16, overrides pointer 20.
-- 40: serve (0..2). 41: state (0..2). 2: config, then overrides. Then the ROMs.
unfoldable pub set_p : ℕ → Bool → List ℕ → Prog (Part RomSet)
set_p base filenames s =
    pick (ltb 2 (u8_at s 13)) (done (refuse 40))
    (pick (ltb 2 (u8_at s 14)) (done (refuse 41))
    (pointed_p base (extra_byte s) (u32_at s 16) >>= or_stop [] λ config.
    pointed_p base (extra_byte s) (u32_at s 20) >>= or_stop [] λ overrides.
    table_p base filenames (u8_at s 12) (u32_at s 8) >>= or_stop [] λ roms.
    done
    (found
    (record {
      data_pointer = u32_at s 0;
      size = u32_at s 4;
      rom_count = u8_at s 12;
      serve = u8_at s 13;
      state = u8_at s 14;
      config = config;
      overrides = overrides;
      roms = roms;
    }))))

-- The stride is 16, plus 48 exactly from 0.6.0 with extra byte 1.
abbrev pub stride : SdrrInfoFields → List ℕ → ℕ
stride f s = 16 + pick (from060 f.version && extra_byte s) 48 0

-- the ROMs of some sets, in order
unfoldable pub roms_of : List RomSet → List Rom
roms_of [] = []
roms_of (s ∷ ss) = s.roms ++ roms_of ss

-- The sets that are left, of which the next stands at the given address. Always 64 bytes are read. 2: header.
unfoldable pub sets_p : ℕ → ℕ → SdrrInfoFields → ℕ → List RomSet → Prog (Part (List RomSet))
sets_p zero base f address passed = done (found passed)
sets_p (suc left) base f address passed =
    fetch base address 64 (stop 2 (roms_of passed)) λ s.
    set_p base (has_filenames f) s >>= or_stop (roms_of passed) λ set. sets_p left base f (address + stride f s) (passed ++ (set ∷ []))

-- Count 0 is accepted without a read. 3: sets pointer below base.
unfoldable pub walk_p : ℕ → SdrrInfoFields → ℕ → ℕ → Prog (Part (List RomSet))
walk_p base f count pointer =
    pick (eqb count 0) (done (found [])) (pick (ltb pointer base) (done (refuse 3)) (sets_p count base f pointer []))
