-- Document 01, "ROM data" and the byte reads; document 02, wish 1.
use Rattle.std.specs.Prelude.{ℕ, ◌+◌, Bool, true, false, not, List, [], ◌∷◌, ltb, eqb, get_or}
use Rattle.base.specs.Choice.{pick}
use Rattle.window.specs.Window.{base_after, beyond_window}
use Rattle.prog.specs.Prog.{Prog, done, map_p, run}
use Rattle.types.specs.declared.SdrrCsSet.{SdrrCsSet}
use Rattle.mangle.specs.Mangle.{Mangled}
use Rattle.info.specs.declared.SdrrAddress.{SdrrAddress}
pub use Rattle.set_data.specs.Data.{Bytes, no_bytes}
unfoldable pub use Rattle.set_data.specs.Data.{data_p}
use Rattle.info.specs.Lent.{Lent, mangle_address, mangle_own, demangle_byte}

-- ---- behind the bytes that ROM data gives (set_data/Data): the count, demangling

-- 82: the served count would pass 4,294,967,295
unfoldable pub count_number : ℕ → ℕ → ℕ
count_number count n = pick (ltb 4294967295 (count + n)) 82 0

-- 70, 79; a raw byte skips demangling
unfoldable pub shown_byte : Lent → Bool → Bytes → Bytes
shown_byte l false b = b
shown_byte l true b =
    pick (eqb (demangle_byte l.pins (get_or b.bytes 0 0)).number 0)
    (record { number = 0; bytes = (demangle_byte l.pins (get_or b.bytes 0 0)).value ∷ [] })
    (no_bytes (demangle_byte l.pins (get_or b.bytes 0 0)).number)

-- ---- the reads

-- a range of a set; one byte of it, by its address, demangled or raw; or (wish 1) by the set's own ROMs the byte at a logical address, demangled
pub data RomRead : Type 0 where
  range : (set offset n : ℕ) → RomRead
  byte : (set : ℕ) → SdrrAddress → (demangled : Bool) → RomRead
  own : (set address : ℕ) → SdrrCsSet → RomRead

-- the length is the lent buffer's, 1 for a byte read
abbrev pub length_of : RomRead → ℕ
length_of (range set offset n) = n
length_of (byte set a demangled) = 1
length_of (own set address levels) = 1

-- a logical address runs mangling first; a raw address skips it
abbrev pub physical : Lent → SdrrAddress → Mangled
physical l (SdrrAddress.Raw offset) = record { number = 0; value = offset }
physical l (SdrrAddress.Logical address levels) = mangle_address l.pins l.served l.set_words l.rom_words address levels

-- in a read by the set's own ROMs the named set governs
abbrev pub own_physical : Lent → (set address : ℕ) → SdrrCsSet → Mangled
own_physical l set address levels = mangle_own l.pins l.served l.set_words l.rom_words set address levels

abbrev pub byte_p : ℕ → Lent → ℕ → Mangled → Prog Bytes
byte_p base l set m = pick (eqb m.number 0) (data_p base l.served l.set_words set m.value 1) (done (no_bytes m.number))

-- the bytes from the image: mangling where the address is logical, then ROM data
unfoldable pub stored_p : ℕ → Lent → RomRead → Prog Bytes
stored_p base l (range set offset n) = data_p base l.served l.set_words set offset n
stored_p base l (byte set a demangled) = byte_p base l set (physical l a)
stored_p base l (own set address levels) = byte_p base l set (own_physical l set address levels)

-- then 82, then demangling
abbrev pub shown_of : Lent → RomRead → Bytes → Bytes
shown_of l (range set offset n) b = b
shown_of l (byte set a demangled) b = shown_byte l demangled b
shown_of l (own set address levels) b = shown_byte l true b

unfoldable pub finished : Lent → ℕ → RomRead → Bytes → Bytes
finished l count r b =
    pick (not (eqb b.number 0)) b (pick (not (eqb (count_number count (length_of r)) 0)) (no_bytes (count_number count (length_of r))) (shown_of l r b))

unfoldable pub read_p : ℕ → Lent → ℕ → RomRead → Prog Bytes
read_p base l count r = map_p (finished l count r) (stored_p base l r)

-- ---- the call

-- the reply: number, bytes, and the served count afterwards. A refused call counts nothing.
pub record Reply : Type 0 where
  pub number : ℕ
  pub bytes : List ℕ
  pub count : ℕ

abbrev pub refused_reply : ℕ → ℕ → Reply
refused_reply n count = record { number = n; bytes = []; count = count }

abbrev pub read_reply : ℕ → RomRead → Bytes → Reply
read_reply count r b = record { number = b.number; bytes = b.bytes; count = pick (eqb b.number 0) (count + length_of r) count }

-- 1: the window check, before anything else
unfoldable pub rom_read : (flash_base cs0_base : ℕ) → Lent → ℕ → RomRead → List ℕ → Reply
rom_read flash_base cs0_base l count r x =
    pick (beyond_window flash_base cs0_base x) (refused_reply 1 count)
    (read_reply count r (run (read_p (base_after flash_base cs0_base l.line) l count r) x))

-- what the lent buffer holds afterwards: a refusal changes no byte
abbrev pub buffer_left : Reply → List ℕ → List ℕ
buffer_left r lent = pick (eqb r.number 0) r.bytes lent

-- the length of a read that was accepted, 0 of one that was refused
abbrev pub accepted_length : (number : ℕ) → RomRead → ℕ
accepted_length number r = pick (eqb number 0) (length_of r) 0
