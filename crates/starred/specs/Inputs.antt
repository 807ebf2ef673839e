-- The inputs of document 01's starred cases.
use Rattle.std.specs.Prelude.{ℕ, List, [], ◌∷◌, take, set, replicate}

-- Program `runtime`
abbrev pub ram_base : ℕ
ram_base = 536870912

abbrev pub record_r1 : List ℕ
record_r1 =
    0x73 ∷ 0x64 ∷ 0x72 ∷ 0x72 ∷ 0x24 ∷ 0x01 ∷ 0x02 ∷ 0x01 ∷ 0x05 ∷ 0x00 ∷ 0x00 ∷ 0x00 ∷ 0x00 ∷ 0x00 ∷ 0x00 ∷ 0x20 ∷ 0x00 ∷ 0x00 ∷ 0x01 ∷ 0x00 ∷ 0x00 ∷ 0x00 ∷ 0x00
    ∷ 0x00 ∷ 0x01 ∷ 0x00 ∷ 0x02 ∷ 0x0B ∷ 0x96 ∷ 0x00 ∷ 0x2C ∷ 0x01 ∷ 0x2C ∷ 0x01 ∷ 0x01 ∷ 0x03 ∷ []

-- R1 cut to 33
abbrev pub record_r2 : List ℕ
record_r2 = take 33 record_r1

-- size byte 19
abbrev pub record_r3 : List ℕ
record_r3 = set record_r1 4 19

-- byte 27 = 32
abbrev pub record_r4 : List ℕ
record_r4 = set record_r1 27 32

-- "A", NUL, 64-byte image, pointer at its base
abbrev pub flash_base : ℕ
flash_base = 134217728

abbrev pub image_t1 : List ℕ
image_t1 = 65 ∷ replicate 63 0

-- same, 63 bytes
abbrev pub image_t2 : List ℕ
image_t2 = take 63 image_t1

-- C0 80 00 in 64 bytes
abbrev pub image_t3 : List ℕ
image_t3 = 0xC0 ∷ 0x80 ∷ replicate 62 0

-- data pins 7..0
abbrev pub pins_d1 : List ℕ
pins_d1 = 7 ∷ 6 ∷ 5 ∷ 4 ∷ 3 ∷ 2 ∷ 1 ∷ 0 ∷ []

-- a pin 8
abbrev pub pins_d2 : List ℕ
pins_d2 = 7 ∷ 6 ∷ 5 ∷ 8 ∷ 3 ∷ 2 ∷ 1 ∷ 0 ∷ []

-- address pins 0..12; all raised by 8
abbrev pub pins_m1 : List ℕ
pins_m1 = 0 ∷ 1 ∷ 2 ∷ 3 ∷ 4 ∷ 5 ∷ 6 ∷ 7 ∷ 8 ∷ 9 ∷ 10 ∷ 11 ∷ 12 ∷ 255 ∷ 255 ∷ 255 ∷ []

abbrev pub pins_m2 : List ℕ
pins_m2 = 8 ∷ 9 ∷ 10 ∷ 11 ∷ 12 ∷ 13 ∷ 14 ∷ 15 ∷ 16 ∷ 17 ∷ 18 ∷ 19 ∷ 20 ∷ 255 ∷ 255 ∷ 255 ∷ []
